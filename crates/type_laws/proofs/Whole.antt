-- What was read of a unit is true of the unit: its bodies are definitions, its structures are sized and ranked, its objects stand in order.
use Rattle.std.proofs.Common.{◌≡◌, ℕ, zero, suc, ◌≤◌, ◌+◌, ◌^◌, Bool, true, false, refl, sym, ◌∙◌, ap, subst, List, [], ◌∷◌, length, slice_get, Option, Some, None, arith, ltb-false}
use Rattle.std.specs.List.{list_any}
use Rattle.std.specs.Prelude.{nat_lt, ◌||◌, if◌then◌else◌}
use Rattle.eff_types.specs.declared.levels.Effects.{Effects}
use Rattle.eff_types.specs.declared.types.CType.{CType}
use Rattle.eff_types.specs.declared.types.FnType.{FnType}
use Rattle.core_unit.specs.Layout.{LaidOut, frame_of}
use Rattle.core_unit.specs.Structures.{IsSized, IsSizedMember, AreRanked}
use Rattle.core_unit.specs.Typed.{Tables, ListIsTyped}
use Rattle.core_unit.specs.Units.{tables_of, IsDefinition}
use Rattle.core_unit.proofs.Callees.{function_in-Function}
use Rattle.core_unit.specs.declared.body.Body.{Body}
use Rattle.core_unit.specs.declared.tables.FunctionInfo.{FunctionInfo}
use Rattle.core_unit.specs.declared.tables.MemberInfo.{MemberInfo}
use Rattle.core_unit.specs.declared.tables.Object.{Object}
use Rattle.core_unit.specs.declared.tables.StructInfo.{StructInfo}
use Rattle.core_unit.specs.declared.units.Which.{Which}
use Rattle.type_rules.specs.Functions.{effects_at}
use Rattle.type_rules.specs.Seen.{Seen}
use Rattle.type_rules.specs.Units.{with_whole, words_from, parts_of, exceeded}
use Rattle.type_rules.specs.declared.notes.Initial.{Initial}
use Rattle.type_laws.proofs.Each.{each_as}
use Rattle.type_laws.proofs.Filling.{all_of_each}
use Rattle.type_laws.proofs.Formed.{stay_same, within_of_formed}
use Rattle.type_laws.proofs.Functions.{in_frame}
use Rattle.type_laws.proofs.Growing.{IsSmall, object_within}
use Rattle.type_laws.proofs.Opening.{IsRead}
use Rattle.type_laws.proofs.Triples.{IsLawfulMember, Lawful, Leads}

-- no limit is passed
pub record IsWithinLimits (s : Seen) : Type 0 where
  pub functions : length s.functions ≤ 4096
  pub parameters : (i : ℕ) (f : FunctionInfo) → slice_get s.functions i ≡ Some f → length f.kind.params ≤ 16
  pub sites : s.sites ≤ 2 ^ 20
  pub static_words : s.static_words ≤ 524288
  pub thread_words : s.thread_words ≤ 1024
  pub frames : (i : ℕ) (f : FunctionInfo) → slice_get s.functions i ≡ Some f → f.frame_words ≤ 4096

none_of : (test : Bool) (w : Which) (rest : Option Which) → (if test then Some w else rest) ≡ None → (test ≡ false) × (rest ≡ None)
none_of true w rest e = absurd (cc)
none_of false w rest e = (refl, e)

or_false : (a b : Bool) → a || b ≡ false → (a ≡ false) × (b ≡ false)
or_false true b e = absurd (cc)
or_false false b e = (refl, e)

any_false : (p : FunctionInfo → Bool) (fs : List FunctionInfo) (i : ℕ) (f : FunctionInfo) → list_any p fs ≡ false → slice_get fs i ≡ Some f → p f ≡ false
any_false p [] i f e there = absurd (cc)
any_false p (g ∷ gs) zero f e there = let same : g ≡ f = cc in subst (λ x. p x ≡ false) same (or_false (p g) (list_any p gs) e).0
any_false p (g ∷ gs) (suc i) f e there = any_false p gs i f (or_false (p g) (list_any p gs) e).1 there

pub limits_hold : (s : Seen) → exceeded s ≡ None → IsWithinLimits s
unfolding exceeded
limits_hold s e =
    let a = none_of (nat_lt 4096 (length s.functions)) _ _ e in
    let b = none_of (list_any (λ f. nat_lt 16 (length f.kind.params)) s.functions) _ _ a.1 in
    let c = none_of (nat_lt (2 ^ 20) s.sites) _ _ b.1 in
    let d = none_of (nat_lt 524288 s.static_words) _ _ c.1 in
    let f = none_of (nat_lt 1024 s.thread_words) _ _ d.1 in
    let g = none_of (list_any (λ f. nat_lt 4096 f.frame_words) s.functions) _ _ f.1 in
    record {
      functions = ltb-false 4096 (length s.functions) a.0;
      parameters = λ i x there. ltb-false 16 (length x.kind.params) (any_false (λ f. nat_lt 16 (length f.kind.params)) s.functions i x b.0 there);
      sites = ltb-false (2 ^ 20) s.sites c.0;
      static_words = ltb-false 524288 s.static_words d.0;
      thread_words = ltb-false 1024 s.thread_words f.0;
      frames = λ i x there. ltb-false 4096 x.frame_words (any_false (λ f. nat_lt 4096 f.frame_words) s.functions i x g.0 there);
    }

-- a function with its effects in the whole unit
abbrev pub in_whole : List Effects → ℕ → FunctionInfo → FunctionInfo
in_whole whole i f = record f { kind = effects_at (slice_get whole i) f.kind }

pub whole_at : (whole : List Effects) (fs : List FunctionInfo) (n i j : ℕ) (f : FunctionInfo) → j ≡ n + i → slice_get fs i ≡ Some f
    → slice_get (with_whole whole n fs) i ≡ Some (in_whole whole j f)
whole_at whole [] n i j f at there = absurd (cc)
whole_at whole (g ∷ gs) n zero j f at there =
    let same : g ≡ f = cc in
    let first : n ≡ j = omega arith in
    ap (λ x. Some (in_whole whole n x)) same ∙ ap (λ k. Some (in_whole whole k f)) first
whole_at whole (g ∷ gs) n (suc i) j f at there = whole_at whole gs (n + 1) i j f (omega arith) there

pub same_params : (o : Option Effects) (k : FnType) → (effects_at o k).params ≡ k.params
same_params (Some e) k = refl
same_params None k = refl

pub same_result : (o : Option Effects) (k : FnType) → (effects_at o k).result ≡ k.result
same_result (Some e) k = refl
same_result None k = refl

-- the tables of the unit, with a frame
abbrev pub whole_tables : Seen → List Object → Tables
whole_tables s frame = record {
  functions = with_whole s.whole 0 s.functions;
  structures = s.structures;
  statics = s.statics;
  thread_locals = s.thread_locals;
  frame = frame;
}

-- what was seen leads to them
pub leads_with : (s : Seen) (frame : List Object) → Leads s (whole_tables s frame)
leads_with s frame = record {
  named = λ i f there. record {
    info = in_whole s.whole i f;
    static = effects_at (slice_get s.whole i) f.kind;
    known = whole_at s.whole s.functions 0 i i f (omega arith) there;
    function = function_in-Function (effects_at (slice_get s.whole i) f.kind);
    result = refl;
    params = refl;
    level = omega arith;
  };
  stay = stay_same s.structures;
  begin = λ i x e. e;
  thread_begin = λ i x e. e;
}

pub leads_whole : (s : Seen) (g : FunctionInfo) (body : Body) → Leads s (tables_of (parts_of s) g body)
unfolding parts_of
leads_whole s g body = leads_with s (frame_of s.structures g.kind.params body)

pub statics_laid : (s : Seen) → Lawful s → IsWithinLimits s → LaidOut 1 s.statics (1 + s.static_words)
statics_laid s lawful limits = lawful.statics_stand (let few = limits.static_words in omega arith)

pub threads_laid : (s : Seen) → Lawful s → IsWithinLimits s → LaidOut 0 s.thread_locals s.thread_words
threads_laid s lawful limits = subst (λ n. LaidOut 0 s.thread_locals n) (omega arith) (lawful.threads_stand (let few = limits.thread_words in omega arith))

-- the bodies of the unit
pub bodies_are_definitions : (s : Seen) → IsRead s → IsWithinLimits s → (i : ℕ) (f : FunctionInfo) (body : Body) → slice_get s.functions i ≡ Some f → f.body ≡ Some body
    → IsDefinition (parts_of s) (in_whole s.whole i f) body
unfolding parts_of
bodies_are_definitions s read limits i f body there is =
    let frames = limits.frames i f there in
    let holds = read.filed.bodied i f body there is (omega arith) (tables_of (parts_of s) f body) (leads_whole s f body) in
    let params = same_params (slice_get s.whole i) f.kind in
    let result = same_result (slice_get s.whole i) f.kind in
    record {
      typed = subst (λ ts. ListIsTyped (in_tables ts) (in_whole s.whole i f).kind.result false body.items) (sym params)
          (subst (λ r. ListIsTyped (in_tables f.kind.params) r false body.items) (sym result) (holds.typed (small holds.laid frames)));
      frame = subst (λ ts. LaidOut 0 (frame_of s.structures ts body) f.frame_words) (sym params) holds.laid;
      small = frames;
    }
  where
    in_tables : List CType → Tables
    in_tables params = in_frame (tables_of (parts_of s) f body) params body

    small : LaidOut 0 (frame_of s.structures f.kind.params body) f.frame_words → f.frame_words ≤ 4096 → IsSmall (in_frame (tables_of (parts_of s) f body) f.kind.params body)
    small laid few = record {
      statics = λ k o e. let within = object_within 1 (1 + s.static_words) s.statics k o (statics_laid s read.lawful limits) e in let words = limits.static_words in omega arith;
      thread_locals = λ k o e. let within = object_within 0 s.thread_words s.thread_locals k o (threads_laid s read.lawful limits) e in let words = limits.thread_words in omega arith;
      frame = λ k o e. let within = object_within 0 f.frame_words (frame_of s.structures f.kind.params body) k o laid e in omega arith;
    }

-- structures
pub structures_sized : (s : Seen) → Lawful s → (k : ℕ) (info : StructInfo) → slice_get s.structures k ≡ Some info → IsSized s.structures info
structures_sized s lawful k info known = of info.members refl
  where
    told : (o : Option (List MemberInfo)) → info.members ≡ o → IsSized s.structures (record info { members = o }) → IsSized s.structures info
    told o m h = subst (λ (x : Option (List MemberInfo)). IsSized s.structures (record info { members = x })) (sym m) h

    of : (members : Option (List MemberInfo)) → info.members ≡ members → IsSized s.structures info
    of None m = told None m (lawful.open_are_empty k info known m)
    of (Some ms) m =
        told (Some ms) m (
          lawful.sized k info ms known m,
          all_of_each (IsSizedMember s.structures) ms (each_as (IsLawfulMember s.structures) (IsSizedMember s.structures) ms (λ x h. record {
            within = within_of_formed s.structures x.kind h.formed;
            some = h.some;
          }) (lawful.members_lawful k info ms known m)),
        )

pub structures_ranked : (s : Seen) → Lawful s → AreRanked s.structures
structures_ranked s lawful = record { rank = lawful.ranked.rank; falls = λ number. all_of_each _ _ (lawful.ranked.falls number) }

-- the words of static storage
pub words_told : (first n : ℕ) (values : List Initial) → length (words_from first n values) ≡ n
words_told first zero values = refl
words_told first (suc n) values = ap suc (words_told (first + 1) n values)

-- as many functions as were seen
pub whole_length : (whole : List Effects) (n : ℕ) (fs : List FunctionInfo) → length (with_whole whole n fs) ≡ length fs
whole_length whole n [] = refl
whole_length whole n (f ∷ fs) = ap suc (whole_length whole (n + 1) fs)
