-- The code of all functions, one after another, is code that is compiled from the unit.
use Rattle.std.proofs.Common.{◌≡◌, refl, sym, ap, ◌∙◌, subst, ℕ, zero, suc, ◌+◌, ◌<◌, ◌≤◌, ◌⊎◌, inl, inr, List, [], ◌∷◌, ◌++◌, length, drop, Option, Some, None, arith, slice_get, length-append}
use Rattle.std.proofs.Math.ListN.{get_or-append}
use Rattle.std.proofs.Math.Seq.{get_or-append_seam}
use Rattle.std.proofs.lemmas.Bool.{cases_lt}
use Rattle.std.proofs.lemmas.Option.{slice_get-get_or, slice_get_past, slice_get_within, get_or_from_slice_get}
use Rattle.core_unit.specs.Nodes.{unit_nodes}
use Rattle.core_unit.specs.Places.{body_spots}
use Rattle.core_unit.specs.Units.{IsUnit, IsFunction, IsBody}
use Rattle.core_unit.specs.declared.body.Body.{Body}
use Rattle.core_unit.specs.declared.tables.FunctionInfo.{FunctionInfo}
use Rattle.core_unit.specs.declared.tables.UnitParts.{UnitParts}
use Rattle.machine_code.specs.Codes.{IsCode, GoesOn}
use Rattle.mcode.specs.Machine.{Program, entry_in, entry_of}
use Rattle.mcode.specs.declared.code.Entry.{Entry}
use Rattle.mcode.specs.declared.code.Instruction.{Instruction}
use Rattle.c_codegen.specs.Compiled.{Compiled, Knows, KnowsBody}
use Rattle.c_codegen.specs.declared.draft.Draft.{Draft}
use Rattle.c_codegen.specs.Emits.{IsBefore, Begins, here, EmitsFunction, AddsFunction}
use Rattle.c_codegen.specs.Entries.{entry_at}
use Rattle.c_codegen.specs.Functions.{AddsListed, AddsFunctions}
use Rattle.c_codegen.specs.Lies.{Is}
use Rattle.c_codegen.specs.Sizes.{function_size, unit_size}
use Rattle.c_codegen.proofs.Bounds.{unit_bound}
use Rattle.c_codegen.proofs.Emitted.{before_self, begins_before}
use Rattle.c_codegen.proofs.Appended.{rest_size}
use Rattle.c_codegen.proofs.Good.{IsFit, fit_low, Good, good_self, good_then}
use Rattle.c_codegen.proofs.GoodFunctions.{function_good}
use Rattle.c_codegen.proofs.Sites.{AreLowSpots, body_low}

-- the code of so many functions is there, and what is known of them
pub record IsUnder (u : UnitParts) (d : Draft) (entries : List (Option Entry)) (count : ℕ) : Type 0 where
  pub counted : length entries ≡ count
  pub long : here d + unit_size (drop count u.functions) ≡ unit_size u.functions
  pub known : (c : Program) → Begins d c → (function : ℕ) → function < count → Knows u c function (slice_get u.functions function) (entry_in (slice_get entries function))
  pub good : (c : Program) → Begins d c → Good c 0 (here d)

pub under_none : (u : UnitParts) (d : Draft) → d.instructions ≡ [] → IsUnder u d [] 0
under_none u d e = record {
  counted = refl;
  long = omega (arith, ap length e);
  known = λ c begins function low. absurd (omega (arith, low));
  good = λ c begins. good_self c 0 (here d) (omega (arith, ap length e));
}

get_before : {A : Type 0} (xs ys : List A) (i : ℕ) (d : A) → i < length xs → slice_get (xs ++ ys) i ≡ slice_get xs i
get_before xs ys i d within =
    let more : i < length (xs ++ ys) = omega (arith, within, length-append xs ys) in
    slice_get-get_or (xs ++ ys) i d more ∙ ap Some (get_or-append xs ys d i within) ∙ sym (slice_get-get_or xs i d within)

seam : {A : Type 0} (pre : List A) (x : A) (rest : List A) → slice_get (pre ++ x ∷ rest) (length pre) ≡ Some x
seam pre x rest =
    let within : length pre < length (pre ++ x ∷ rest) = omega (arith, length-append pre (x ∷ rest)) in
    slice_get-get_or (pre ++ x ∷ rest) (length pre) x within ∙ ap Some (get_or-append_seam pre x rest x)

-- the entries, one more
entry_before : (entries : List (Option Entry)) (x : Option Entry) (function : ℕ) → function < length entries → entry_in (slice_get (entries ++ x ∷ []) function) ≡ entry_in (slice_get entries function)
entry_before entries x function low = ap entry_in (get_before entries (x ∷ []) function None low)

entry_last : (entries : List (Option Entry)) (x : Option Entry) (n : ℕ) → length entries ≡ n → entry_in (slice_get (entries ++ x ∷ []) n) ≡ x
entry_last entries x n e = ap (λ k. entry_in (slice_get (entries ++ x ∷ []) k)) (sym e) ∙ ap entry_in (seam entries x [])

-- what one more function brings
record IsMore (u : UnitParts) (n : ℕ) (f : FunctionInfo) (body : Option Body) (d e : Draft) (entries more : List (Option Entry)) : Type 0 where
  last : Option Entry
  added : more ≡ entries ++ last ∷ []
  code : IsBefore d.instructions e.instructions
  texts : IsBefore d.texts e.texts
  long : here e ≡ here d + function_size (record f { body = body })
  knows : (c : Program) → Begins e c → KnowsBody u c n f body last
  good : (c : Program) → Begins e c → Good c (here d) (here e)

is_more : (u : UnitParts) (n : ℕ) (f : FunctionInfo) (d e : Draft) (entries more : List (Option Entry)) → IsUnit u → length f.kind.params ≤ 16 → (body : Option Body) → IsBody u f body →
    ((b : Body) → body ≡ Some b → AreLowSpots (body_spots b)) → AddsFunction u n f body d e entries more → IsMore u n f body d e entries more
unfolding EmitsFunction
is_more u n f d e entries more lawful few None typed sited a = record {
  last = None;
  added = a.1;
  code = subst (λ (x : Draft). IsBefore d.instructions x.instructions) (sym a.0) (before_self d.instructions);
  texts = subst (λ (x : Draft). IsBefore d.texts x.texts) (sym a.0) (before_self d.texts);
  long = omega (arith, ap here a.0);
  knows = λ c begins. refl;
  good = λ c begins. good_self c (here d) (here e) (ap here (sym a.0));
}
is_more u n f d e entries more lawful few (Some body) typed sited a = record {
  last = Some (entry_at u (here d) f);
  added = a.1;
  code = a.0.instructions;
  texts = a.0.texts;
  long = a.0.long;
  knows = λ c begins. record { place = here d; end = here e; known = refl; lies = a.0.holds c begins };
  good = λ c begins. function_good u c n f body (here d) (here e) lawful few typed (sited body refl) (a.0.holds c begins);
}

is_function : (u : UnitParts) (n : ℕ) (f : FunctionInfo) → IsUnit u → slice_get u.functions n ≡ Some f → IsFunction u f
is_function u n f lawful known =
    subst (IsFunction u) (get_or_from_slice_get u.functions n f f known) (lawful.functions n f (slice_get_within u.functions n f known))

pub under_more : (u : UnitParts) (n : ℕ) (f : FunctionInfo) (d e : Draft) (entries more : List (Option Entry)) → IsUnit u → IsUnder u d entries n → slice_get u.functions n ≡ Some f →
    AddsFunction u n f f.body d e entries more → IsUnder u e more (n + 1)
under_more u n f d e entries more lawful h known a = record {
  counted = omega (arith, ap length m.added, length-append entries (m.last ∷ []), h.counted);
  long = omega (arith, m.long, h.long, rest_size u.functions n f known);
  known = λ c begins function low. by c begins function (cases_lt function n) low;
  good = λ c begins. good_then c 0 (here d) (here e) (h.good c (begins_before d e c m.code m.texts begins)) (m.good c begins);
}
  where
    function_is : IsFunction u f
    function_is = is_function u n f lawful known

    m : IsMore u n f f.body d e entries more
    m = is_more u n f d e entries more lawful function_is.few f.body function_is.body (λ b defined. body_low u n f b lawful known defined) a

    by : (c : Program) → Begins e c → (function : ℕ) → (function < n) ⊎ (n ≤ function) → function < n + 1 → Knows u c function (slice_get u.functions function) (entry_in (slice_get more function))
    by c begins function (inl before) low =
        let within : function < length entries = omega (arith, before, h.counted) in
        subst (Knows u c function (slice_get u.functions function)) (sym (ap (λ l. entry_in (slice_get l function)) m.added ∙ entry_before entries m.last function within))
        (h.known c (begins_before d e c m.code m.texts begins) function before)
    by c begins function (inr behind) low =
        let same : n ≡ function = omega (arith, behind, low) in
        subst (λ k. Knows u c k (slice_get u.functions k) (entry_in (slice_get more k))) same
        (subst (λ i. Knows u c n i (entry_in (slice_get more n))) (sym known)
        (subst (KnowsBody u c n f f.body) (sym (ap (λ l. entry_in (slice_get l n)) m.added ∙ entry_last entries m.last n h.counted)) (m.knows c begins)))

-- Once all functions are there, the code is compiled from the unit.
module _ (u : UnitParts) (c : Program) (d : Draft) (lawful : IsUnit u) (all : IsUnder u d c.entries (length u.functions)) (code : c.instructions ≡ d.instructions) (texts : c.texts ≡ d.texts)
    (statics : c.static_words ≡ length u.static_words) where
  begins : Begins d c
  begins = record {
    instructions = subst (IsBefore d.instructions) (sym code) (before_self d.instructions);
    texts = subst (IsBefore d.texts) (sym texts) (before_self d.texts);
  }

  known_in : (function : ℕ) → Knows u c function (slice_get u.functions function) (entry_of c function)
  known_in function = by (cases_lt function (length u.functions))
    where
      by : (function < length u.functions) ⊎ (length u.functions ≤ function) → Knows u c function (slice_get u.functions function) (entry_of c function)
      by (inl low) = all.known c begins function low
      by (inr past) =
          let none : slice_get u.functions function ≡ None = slice_get_past u.functions function past in
          let entry : slice_get c.entries function ≡ None = slice_get_past c.entries function (let n = all.counted in omega (arith, past, n)) in
          subst (λ i. Knows u c function i (entry_of c function)) (sym none) (ap entry_in entry)

  good_at : (at : ℕ) (x : Instruction) → Is c at x → GoesOn c.instructions at x × IsFit x
  good_at at x is =
      let within = slice_get_within c.instructions at x is in
      (all.good c begins).1 at x (omega arith) (omega (arith, within, ap length code)) is

  pub is_compiled : Compiled u c
  is_compiled = record { statics = statics; functions = known_in; jumps = λ at x is. (good_at at x is).0 }

  pub is_code : unit_nodes u.functions ≤ 262144 → IsCode c
  is_code few = record {
    short = omega (arith, few, unit_bound u lawful, ap length code, all.long);
    static_words = (let low = lawful.few_words in omega (arith, low, statics));
    functions = (let low = lawful.few_functions in omega (arith, low, all.counted));
    sites = λ at x is. (fit_low x (good_at at x is).1).1;
    low = λ at x is. (fit_low x (good_at at x is).1).0;
    jumps = λ at x is. (good_at at x is).0;
  }

listed_under : (u : UnitParts) (n : ℕ) (listed : Option FunctionInfo) (d e : Draft) (entries more : List (Option Entry)) → IsUnit u → IsUnder u d entries n → slice_get u.functions n ≡ listed →
    AddsListed u n listed d e entries more → IsUnder u e more (suc n)
listed_under u n (Some f) d e entries more lawful h known a =
    let next : n + 1 ≡ suc n = omega arith in subst (IsUnder u e more) next (under_more u n f d e entries more lawful h known a)
listed_under u n None d e entries more lawful h known a = absurd a

-- what is appended to nothing
all_under : (u : UnitParts) (n : ℕ) (old new : Draft) (more : List (Option Entry)) → IsUnit u → old.instructions ≡ [] → AddsFunctions u n old new [] more → IsUnder u new more n
unfolding AddsFunctions
all_under u zero old new more lawful none a =
    subst (λ (d : Draft). IsUnder u d more 0) (sym a.0) (subst (λ entries. IsUnder u old entries 0) (sym a.1) (under_none u old none))
all_under u (suc n) old new more lawful none a =
    listed_under u n (slice_get u.functions n) a.0 new a.1 more lawful (all_under u n old a.0 a.1 lawful none a.2) refl a.3

-- The code of all functions of a unit behaves as the unit, and is code where the unit has few nodes.
module _ (u : UnitParts) (c : Program) (old new : Draft) (lawful : IsUnit u) (none : old.instructions ≡ []) (all : AddsFunctions u (length u.functions) old new [] c.entries)
    (code : c.instructions ≡ new.instructions) (texts : c.texts ≡ new.texts) (statics : c.static_words ≡ length u.static_words) where
  pub all_compiled : Compiled u c
  all_compiled = is_compiled u c new lawful (all_under u (length u.functions) old new c.entries lawful none all) code texts statics

  pub all_code : unit_nodes u.functions ≤ 262144 → IsCode c
  all_code few = is_code u c new lawful (all_under u (length u.functions) old new c.entries lawful none all) code texts statics few
