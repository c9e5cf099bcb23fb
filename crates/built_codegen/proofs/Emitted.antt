-- Where the instructions of a unit stand, each function's tasks lie at its entry.
use Rattle.std.proofs.Common.{◌≡◌, ℕ, zero, suc, ◌+◌, ◌<◌, ◌≤◌, inl, inr, List, [], ◌∷◌, ◌++◌, Option, Some, None, refl, sym, ap, ◌∙◌, subst, arith, length, Bool, true, false, length-append, append_assoc, get_or, take}
use Rattle.std.specs.Prelude.{slice_get}
use Rattle.std.proofs.Math.Seq.{get_or-append_seam}
use Rattle.std.proofs.Math.ListN.{get_or-append}
use Rattle.std.proofs.lemmas.Bool.{cases_lt}
use Rattle.std.proofs.lemmas.List.{take_more}
use Rattle.std.proofs.lemmas.Option.{slice_get-get_or, slice_get_past}
use Rattle.built_unit.specs.declared.units.Body.{Body}
use Rattle.built_unit.specs.declared.units.FunctionInfo.{FunctionInfo}
use Rattle.built_unit.specs.Units.{UnitParts}
use Rattle.built_code.specs.declared.code.Instruction.{Instruction}
use Rattle.built_code.specs.Machine.{Program, flattened, entry_of}
use Rattle.built_model.specs.Source.{Task, Call, Check, Begin, Meet, Give, Leaving, Fail, Deliver, Tell, Halting, Finished, callee_at, named, calls, return_of, meets, body_tasks, info_tasks, tasks_of}
use Rattle.built_model.specs.Follows.{Behaves}
use Rattle.built_codegen.specs.Instructions.{task_code, tasks_code, maybe_code, function_code, unit_code, entry_at, unit_entries}
use Rattle.built_codegen.proofs.Follows.{Lies, Fits, behaves}

-- these instructions stand in the code from this pc on
abbrev HasAt : List Instruction → ℕ → List Instruction → Type 0
HasAt code pc [] = Unit {0}
HasAt code pc (i ∷ is) = (slice_get code pc ≡ Some i) × HasAt code (pc + 1) is

has_front : (code : List Instruction) (pc : ℕ) (a b : List Instruction) → HasAt code pc (a ++ b) → HasAt code pc a
has_front code pc [] b h = tt
has_front code pc (i ∷ a) b h = (h.0, has_front code (pc + 1) a b h.1)

seam : {A : Type 0} (pre : List A) (x : A) (rest : List A) → slice_get (pre ++ x ∷ rest) (length pre) ≡ Some x
seam pre x rest =
    let within : length pre < length (pre ++ x ∷ rest) = omega (arith, length-append pre (x ∷ rest)) in
    slice_get-get_or (pre ++ x ∷ rest) (length pre) x within ∙ ap Some (get_or-append_seam pre x rest x)

has_all : (is pre : List Instruction) → HasAt (pre ++ is) (length pre) is
has_all [] pre = tt
has_all (i ∷ is) pre =
    let n : length (pre ++ i ∷ []) ≡ length pre + 1 = omega (arith, length-append pre (i ∷ [])) in
    let rest = has_all is (pre ++ i ∷ []) in
    let rest' = subst (λ l. HasAt l (length (pre ++ i ∷ [])) is) (append_assoc pre (i ∷ []) is) rest in
    (seam pre i is, subst (λ m. HasAt (pre ++ i ∷ is) m is) n rest')

-- the tasks come to a return or a trap, and what comes after the first function isn't among them
abbrev Lands : List Task → Type 0
Lands [] = ⊥
Lands (Call function site ∷ k) = Lands k
Lands (Check ∷ k) = Lands k
Lands (Begin function site ∷ k) = Lands k
Lands (Meet function ∷ k) = Lands k
Lands (Give number ∷ k) = Lands k
Lands (Leaving ∷ k) = Unit {0}
Lands (Fail kind ∷ k) = Unit {0}
Lands (Deliver ∷ k) = ⊥
Lands (Tell ∷ k) = ⊥
Lands (Halting finish ∷ k) = ⊥
Lands (Finished finish ∷ k) = ⊥

lies_where : (code : List Instruction) (k : List Task) (pc : ℕ) → Lands k → HasAt code pc (tasks_code k) → Lies code k pc
lies_where code [] pc l h = absurd l
lies_where code (Call function site ∷ k) pc l h = (h.0, h.1.0, lies_where code k (pc + 1 + 1) l h.1.1)
lies_where code (Check ∷ k) pc l h = (h.0, lies_where code k (pc + 1) l h.1)
lies_where code (Begin function site ∷ k) pc l h = (h.0, lies_where code k (pc + 1) l h.1)
lies_where code (Meet function ∷ k) pc l h = (h.0, lies_where code k (pc + 1) l h.1)
lies_where code (Give number ∷ k) pc l h = (h.0, lies_where code k (pc + 1) l h.1)
lies_where code (Leaving ∷ k) pc l h = h.0
lies_where code (Fail kind ∷ k) pc l h = h.0
lies_where code (Deliver ∷ k) pc l h = absurd l
lies_where code (Tell ∷ k) pc l h = absurd l
lies_where code (Halting finish ∷ k) pc l h = absurd l
lies_where code (Finished finish ∷ k) pc l h = absurd l

named_lands : (callee : Option ℕ) (site : ℕ) (k : List Task) → Lands k → Lands (named callee site ∷ k)
named_lands None site k l = tt
named_lands (Some function) site k l = l

calls_land : (u : UnitParts) (sites : List ℕ) (k : List Task) → Lands k → Lands (calls u sites k)
calls_land u [] k l = l
calls_land u (site ∷ sites) k l = named_lands (callee_at u site) site (calls u sites k) (calls_land u sites k l)

return_lands : (returns : Option ℕ) → Lands (return_of returns)
return_lands None = tt
return_lands (Some number) = tt

meets_lands : (blocking : Bool) (function : ℕ) (k : List Task) → Lands k → Lands (meets blocking function k)
meets_lands false function k l = l
meets_lands true function k l = l

abbrev LandsIn : Option (List Task) → Type 0
LandsIn None = Unit {0}
LandsIn (Some tasks) = Lands tasks

body_lands : (u : UnitParts) (function : ℕ) (info : FunctionInfo) (body : Option Body) → LandsIn (body_tasks u function info body)
body_lands u function info None = tt
body_lands u function info (Some body) =
    meets_lands info.effects.no_block_inference function _ (calls_land u body.calls _ (return_lands body.returns))

info_lands : (u : UnitParts) (function : ℕ) (info : Option FunctionInfo) → LandsIn (info_tasks u function info)
info_lands u function None = tt
info_lands u function (Some info) = body_lands u function info info.body

-- the code of a function stands between those of the functions before and after it
code_split : (u : UnitParts) (function n : ℕ) → function < n → (rest : List Instruction) × (unit_code u n ≡ unit_code u function ++ (function_code u function ++ rest))
code_split u function zero low = absurd (omega arith)
code_split u function (suc n) low =
    elim (cases_lt function n) [
      | inl below ↦
          let x = code_split u function n below in
          (x.0 ++ function_code u n, ap (λ l. l ++ function_code u n) x.1 ∙ append_assoc (unit_code u function) (function_code u function ++ x.0) (function_code u n) ∙ ap (λ l. unit_code u function ++ l) (append_assoc (function_code u function) x.0 (function_code u n)))
      | inr above ↦
          let e : n ≡ function = omega arith in
          ([], ap (λ m. unit_code u m ++ function_code u m) e ∙ ap (λ l. unit_code u function ++ l) (sym (append_nil (function_code u function))))
    ]
  where
    append_nil : (l : List Instruction) → l ++ [] ≡ l
    append_nil [] = refl
    append_nil (x ∷ l) = ap (λ k. x ∷ k) (append_nil l)

entries_length : (u : UnitParts) (n : ℕ) → length (unit_entries u n) ≡ n
entries_length u zero = refl
entries_length u (suc n) =
    omega (arith, length-append (unit_entries u n) (entry_at (length (unit_code u n)) (tasks_of u n) ∷ []), entries_length u n)

entries_get : (u : UnitParts) (function n : ℕ) → function < n → slice_get (unit_entries u n) function ≡ Some (entry_at (length (unit_code u function)) (tasks_of u function))
entries_get u function zero low = absurd (omega arith)
entries_get u function (suc n) low =
    let last = entry_at (length (unit_code u n)) (tasks_of u n) in
    elim (cases_lt function n) [
      | inl below ↦
          let within : function < length (unit_entries u n) = omega (arith, entries_length u n) in
          get_before (unit_entries u n) (last ∷ []) function within ∙ entries_get u function n below
      | inr above ↦
          let e : n ≡ function = omega arith in
          let here : slice_get (unit_entries u n ++ last ∷ []) n ≡ Some last = subst (λ i. slice_get (unit_entries u n ++ last ∷ []) i ≡ Some last) (entries_length u n) (seam (unit_entries u n) last []) in
          subst (λ i. slice_get (unit_entries u n ++ last ∷ []) i ≡ Some (entry_at (length (unit_code u i)) (tasks_of u i))) e here
    ]
  where
    get_before : (xs ys : List (Option ℕ)) (i : ℕ) → i < length xs → slice_get (xs ++ ys) i ≡ slice_get xs i
    get_before xs ys i within =
        let more : i < length (xs ++ ys) = omega (arith, length-append xs ys) in
        slice_get-get_or (xs ++ ys) i None more ∙ ap Some (get_or-append xs ys None i within) ∙ sym (slice_get-get_or xs i None within)

fits_there : (pre rest code : List Instruction) (tasks : Option (List Task)) → LandsIn tasks → code ≡ pre ++ (maybe_code tasks ++ rest) → Fits code (entry_at (length pre) tasks) tasks
fits_there pre rest code None l e = tt
fits_there pre rest code (Some tasks) l e =
    lies_where code tasks (length pre) l (has_front code (length pre) (tasks_code tasks) rest (subst (λ c. HasAt c (length pre) (tasks_code tasks ++ rest)) (sym e) (has_all (tasks_code tasks ++ rest) pre)))

module _ (u : UnitParts) (c : Program) (code : c.instructions ≡ unit_code u (length u.functions)) (entries : c.entries ≡ unit_entries u (length u.functions)) where
  fits_in : (function : ℕ) → Fits c.instructions (entry_of c function) (tasks_of u function)
  fits_in function =
      elim (cases_lt function (length u.functions)) [
        | inl known ↦
            let x = code_split u function (length u.functions) known in
            let entry : entry_of c function ≡ entry_at (length (unit_code u function)) (tasks_of u function) = ap (λ l. flattened (slice_get l function)) entries ∙ ap flattened (entries_get u function (length u.functions) known) in
            subst (λ o. Fits c.instructions o (tasks_of u function)) (sym entry) (fits_there (unit_code u function) x.0 c.instructions (tasks_of u function) (info_lands u function (slice_get u.functions function)) (code ∙ x.1))
        | inr past ↦
            let short : length (unit_entries u (length u.functions)) ≤ function = omega (arith, entries_length u (length u.functions)) in
            let entry : entry_of c function ≡ None = ap (λ l. flattened (slice_get l function)) entries ∙ ap flattened (slice_get_past (unit_entries u (length u.functions)) function short) in
            let tasks : tasks_of u function ≡ None = ap (info_tasks u function) (slice_get_past u.functions function past) in
            subst (λ o. Fits c.instructions o (tasks_of u function)) (sym entry) (subst (λ o. Fits c.instructions None o) (sym tasks) tt)
      ]

  -- such code behaves as the source thread
  pub behaves_compiled : Behaves u c
  behaves_compiled = behaves u c (record { fits = fits_in })

-- one call further
pub calls_more : (u : UnitParts) (sites : List ℕ) (site : ℕ) → tasks_code (calls u (sites ++ site ∷ []) []) ≡ tasks_code (calls u sites []) ++ task_code (named (callee_at u site) site)
calls_more u [] site = append_nil (task_code (named (callee_at u site) site))
  where
    append_nil : (l : List Instruction) → l ++ [] ≡ l
    append_nil [] = refl
    append_nil (x ∷ l) = ap (λ k. x ∷ k) (append_nil l)
calls_more u (first ∷ sites) site =
    let head = task_code (named (callee_at u first) first) in
    ap (λ l. head ++ l) (calls_more u sites site) ∙ sym (append_assoc head (tasks_code (calls u sites [])) (task_code (named (callee_at u site) site)))

-- what follows the calls
pub calls_then : (u : UnitParts) (sites : List ℕ) (k : List Task) → tasks_code (calls u sites k) ≡ tasks_code (calls u sites []) ++ tasks_code k
calls_then u [] k = refl
calls_then u (site ∷ sites) k =
    let head = task_code (named (callee_at u site) site) in
    ap (λ l. head ++ l) (calls_then u sites k) ∙ sym (append_assoc head (tasks_code (calls u sites [])) (tasks_code k))

pub meets_then : (blocking : Bool) (function : ℕ) (k : List Task) → tasks_code (meets blocking function k) ≡ tasks_code (meets blocking function []) ++ tasks_code k
meets_then false function k = refl
meets_then true function k = refl

-- the three parts of a body are the whole
pub parts_join : (before met called returned a b c whole rest : List Instruction) → met ≡ before ++ a → called ≡ met ++ b → returned ≡ called ++ c → whole ≡ a ++ rest → rest ≡ b ++ c → returned ≡ before ++ whole
parts_join before met called returned a b c whole rest e1 e2 e3 w r =
    e3 ∙ ap (λ l. l ++ c) (e2 ∙ ap (λ l. l ++ b) e1) ∙ append_assoc (before ++ a) b c ∙ append_assoc before a (b ++ c) ∙ ap (λ l. before ++ l) (sym (w ∙ ap (λ l. a ++ l) r))

-- the loop over the calls
pub calls_step : (u : UnitParts) (sites : List ℕ) (n : ℕ) (before code more : List Instruction) → n < length sites → code ≡ before ++ tasks_code (calls u (take n sites) []) → more ≡ code ++ task_code (named (callee_at u (get_or sites n 0)) (get_or sites n 0)) → more ≡ before ++ tasks_code (calls u (take (n + 1) sites) [])
calls_step u sites n before code more within so e =
    let site = get_or sites n 0 in
    let last = task_code (named (callee_at u site) site) in
    let taken : take (n + 1) sites ≡ take n sites ++ site ∷ [] = take_more sites n 0 within in
    e ∙ ap (λ l. l ++ last) so ∙ append_assoc before (tasks_code (calls u (take n sites) [])) last ∙ ap (λ l. before ++ l) (sym (ap (λ s. tasks_code (calls u s [])) taken ∙ calls_more u (take n sites) site))
