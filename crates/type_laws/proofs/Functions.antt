-- Functions of file scope: a declaration keeps what was seen, and the bodies that were typed stay so.
use Rattle.std.proofs.Common.{◌≡◌, ℕ, ◌<◌, ◌≤◌, ◌-◌, ◌^◌, Bool, true, false, refl, sym, ◌∙◌, ap, subst, List, [], ◌∷◌, ◌++◌, drop, length, length-set, slice_get, Option, Some, None, arith, eqb-true, inl, inr}
use Rattle.std.proofs.lemmas.Bool.{eqb-false}
use Rattle.std.specs.Prelude.{not, ◌&&◌, ◌||◌, ◌⊎◌, nat_eq, is_some, slice_set}
use Rattle.scopes.specs.Scope.{Scope, found_here, declare}
use Rattle.eff_types.specs.Effects.{rank, greatest, union, conflict, forbids, added}
use Rattle.eff_types.specs.Laws.{IsAtMost}
use Rattle.eff_types.specs.Types.{same_outside}
use Rattle.eff_types.specs.declared.levels.Effects.{Effects}
use Rattle.eff_types.specs.declared.levels.Level.{Level}
use Rattle.eff_types.specs.declared.levels.Level.TheVariants as level
use Rattle.eff_types.specs.declared.types.CType.{CType, Function', end_of-CType, more_of-CType}
use Rattle.eff_types.specs.declared.types.CType.TheVariants as a_type
use Rattle.eff_types.specs.declared.types.FnType.{FnType}
use Rattle.eff_types.proofs.EffectLaws.{conflict-union, union-one}
use Rattle.eff_types.proofs.Outside.{same_outside-is}
use Rattle.eff_types.proofs.Shapes.{eta-Function}
use Rattle.core_unit.specs.Layout.{LaidOut, frame_of}
use Rattle.core_unit.specs.Shapes.{function_in}
use Rattle.core_unit.specs.Typed.{Tables, IsNamed, ListIsTyped}
use Rattle.core_unit.proofs.Callees.{function_in-Function}
use Rattle.core_unit.specs.declared.body.Body.{Body}
use Rattle.core_unit.specs.declared.tables.FunctionInfo.{FunctionInfo}
use Rattle.core_unit.specs.declared.expressions.Storage.{Storage}
use Rattle.core_unit.specs.declared.tables.StructInfo.{StructInfo}
use Rattle.core_unit.specs.declared.tables.VariableInfo.{VariableInfo}
use Rattle.type_rules.specs.declared.declarators.FunctionDeclaration.{FunctionDeclaration}
use Rattle.type_rules.specs.Functions.{effects_at, marked, first_declaration, further_declaration, function_declared}
use Rattle.type_rules.specs.Reading.{Good, and_then, warned}
use Rattle.type_rules.specs.Seen.{Seen}
use Rattle.type_rules.specs.declared.names.Entity.{Entity}
use Rattle.type_rules.specs.declared.names.Entity.TheVariants.{Variable, Function, TypeName, Enumerator, Library, NullPointer, MutexInitializer}
use Rattle.type_rules.specs.declared.notes.TypeWarning.{TypeWarning}
use Rattle.type_rules.specs.declared.notes.TypeWarning.TheVariants.{Redeclaration}
use Rattle.type_laws.proofs.Declarators.{not_false, or_second}
use Rattle.type_laws.proofs.Definitions.{AreDefined, defined_more, defined_again}
use Rattle.type_laws.proofs.Each.{each_as, each_get, each_more, each_set}
use Rattle.type_laws.proofs.Formed.{IsFormed, stay_same}
use Rattle.type_laws.proofs.Growing.{IsSmall, AreValued}
use Rattle.type_laws.proofs.Left.{Left, fails_left}
use Rattle.type_laws.proofs.Lists.{get_before, get_last, get_inside, get_more, length_more, get_set, get_other, get_after_set}
use Rattle.type_laws.proofs.Naming.{formed_with}
use Rattle.type_laws.proofs.Scopes.{each_declared, here_before}
use Rattle.type_laws.proofs.Steps.{faults_left, lawful_declared}
use Rattle.type_laws.proofs.Triples.{Each, IsLawfulEntity, IsKnownEntity, IsDeclared, Lawful, Leads, Knows}

-- the tables with the frame of a body
abbrev pub in_frame : Tables → List CType → Body → Tables
in_frame u params body = record u { frame = frame_of u.structures params body }

-- A body is typed, and its frame holds what stands in it.
pub record IsTypedBody (params : List CType) (result : CType) (words : ℕ) (body : Body) (u : Tables) : Type 0 where
  pub typed : IsSmall (in_frame u params body) → ListIsTyped (in_frame u params body) result false body.items
  pub laid : LaidOut 0 (frame_of u.structures params body) words

abbrev pub BodyHolds : Seen → List CType → CType → ℕ → Body → Type 0
BodyHolds s params result words body =
    words < 2 ^ 32 - 1 → (u : Tables) → Leads s u → IsTypedBody params result words body u

-- the bodies of functions are typed
abbrev pub AreBodied : Seen → Type 0
AreBodied s =
    (i : ℕ) (f : FunctionInfo) (body : Body) → slice_get s.functions i ≡ Some f → f.body ≡ Some body → BodyHolds s f.kind.params f.kind.result f.frame_words body

-- the words of all frames are told by 32 bits
abbrev pub AreShort : List FunctionInfo → Type 0
AreShort functions = (i : ℕ) (f : FunctionInfo) → slice_get functions i ≡ Some f → f.frame_words < 2 ^ 32 - 1

-- What is true at file scope: all names are known by the tables alone, each body is typed, and words hold values.
pub record IsFiled (s : Seen) : Type 0 where
  pub knows : (u : Tables) → Leads s u → Knows s u
  pub bodied : AreBodied s
  pub valued : AreShort s.functions → (u : Tables) → Leads s u → IsSmall u → AreValued s u
  pub defined : AreDefined s.functions s.definitions

-- a variable of file scope has the type that its name has
pub record VariableIs (variables : List VariableInfo) (n : ℕ) (t : CType) : Type 0 where
  pub info : VariableInfo
  pub known : slice_get variables n ≡ Some info
  pub kind : info.kind ≡ t

abbrev pub Agrees : Seen → Type 0
Agrees s =
    (name : ℕ) (t : CType) (storage : Storage) (n : ℕ) → found_here s.scopes name ≡ Some (Variable t storage (Some n)) → VariableIs s.variables n t

-- the type is that of the function
pub function_is : (t : CType) (f : FnType) → function_in t ≡ Some f → t ≡ a_type.Function f
function_is (Function' s (more_of-CType r end_of-CType) z ps e) f is = eta-Function s r z ps e ∙ ap a_type.Function (some_is is)
  where
    some_is : {g : FnType} → Some g ≡ Some f → g ≡ f
    some_is is = cc
function_is t f is = absurd (cc)

-- a function more, or one declared again
entity_more : (structures : List StructInfo) (m n : ℕ) (e : Entity) → m ≤ n → IsLawfulEntity structures m e → IsLawfulEntity structures n e
entity_more structures m n (Function k) more h = omega arith
entity_more structures m n (Variable t storage k) more h = h
entity_more structures m n (TypeName t) more h = h
entity_more structures m n (Enumerator bits) more h = h
entity_more structures m n (Library row) more h = h
entity_more structures m n NullPointer more h = h
entity_more structures m n MutexInitializer more h = h

pub lawful_functions : (s : Seen) (functions : List FunctionInfo) → Lawful s → length s.functions ≤ length functions → Each (IsDeclared s.structures) functions
    → Lawful (record s { functions = functions })
lawful_functions s functions lawful more each = record {
  bytes = lawful.bytes;
  scoped = lawful.scoped;
  entities = each_as _ (Each (λ entry. IsLawfulEntity s.structures (length functions) entry.1)) s.scopes (λ scope old.
      each_as (λ entry. IsLawfulEntity s.structures (length s.functions) entry.1) (λ entry. IsLawfulEntity s.structures (length functions) entry.1) scope
      (λ entry h. entity_more s.structures (length s.functions) (length functions) entry.1 more h) old) lawful.entities;
  functions_formed = each;
  open_are_empty = lawful.open_are_empty;
  complete_have_words = lawful.complete_have_words;
  members_lawful = lawful.members_lawful;
  sized = lawful.sized;
  few = lawful.few;
  statics_stand = lawful.statics_stand;
  threads_stand = lawful.threads_stand;
  tags_lawful = lawful.tags_lawful;
  ranked = lawful.ranked;
  variables_solid = lawful.variables_solid;
  objects_known = lawful.objects_known;
  whole_fits = lawful.whole_fits;
}

-- the function that a declaration is of
pub record IsDeclaredAs (kind : FnType) (number : ℕ) (t : Seen) : Type 0 where
  pub info : FunctionInfo
  pub known : slice_get t.functions number ≡ Some info
  pub params : info.kind.params ≡ kind.params
  pub result : info.kind.result ≡ kind.result

pub record DeclaresFunction (kind : FnType) (has_body : Bool) (s : Seen) (number : ℕ) (t : Seen) : Type 0 where
  pub is : IsDeclaredAs kind number t
  -- what is to have a body has none yet
  pub fresh : has_body ≡ true → is.info.body ≡ None
  pub filed : IsFiled s → IsFiled t
  pub agrees : Agrees s → Agrees t

-- the first declaration
module _ (s : Seen) (lawful : Lawful s) (new : FunctionInfo) (declared : IsDeclared s.structures new) (empty : new.body ≡ None) (name : ℕ) where
  abbrev first : Seen
  first = record s { functions = s.functions ++ new ∷ []; scopes = declare s.scopes name (Function (length s.functions)) }

  first_back : (u : Tables) → Leads first u → Leads s u
  first_back u leads = record {
    named = λ i f e. leads.named i f (get_before s.functions new i f e);
    stay = leads.stay;
    begin = leads.begin;
    thread_begin = leads.thread_begin;
  }

  first_filed : IsFiled s → IsFiled first
  first_filed h = record {
    knows = λ u leads. each_declared (IsKnownEntity u) s.scopes name (Function (length s.functions)) (h.knows u (first_back u leads)) tt;
    bodied = λ i f body known there few u leads. of i f body there (get_more s.functions new i f known) few u leads;
    valued = λ short u leads small. h.valued (λ i f e. short i f (get_before s.functions new i f e)) u (first_back u leads) small;
    defined = defined_more s.functions s.definitions new empty h.defined;
  }
    where
      of : (i : ℕ) (f : FunctionInfo) (body : Body) → f.body ≡ Some body → (slice_get s.functions i ≡ Some f) ⊎ ((i ≡ length s.functions) × (new ≡ f))
          → BodyHolds first f.kind.params f.kind.result f.frame_words body
      of i f body there (inl e) few u leads = h.bodied i f body e there few u (first_back u leads)
      of i f body there (inr e) few u leads = let clash : None ≡ Some body = sym empty ∙ ap (λ (x : FunctionInfo). x.body) e.1 ∙ there in absurd (cc)

  first_agrees : Agrees s → Agrees first
  first_agrees h x t storage n is = of (here_before s.scopes name (Function (length s.functions)) x (Variable t storage (Some n)) is)
    where
      of : ((x ≡ name) × (Function (length s.functions) ≡ Variable t storage (Some n))) ⊎ ((nat_eq x name ≡ false) × (found_here s.scopes x ≡ Some (Variable t storage (Some n))))
          → VariableIs s.variables n t
      of (inl q) = let clash : Function (length s.functions) ≡ Variable t storage (Some n) = q.1 in absurd (cc)
      of (inr q) = h x t storage n q.1

  first_lawful : Lawful first
  first_lawful =
      let more = length_more s.functions new in
      lawful_declared (record s { functions = s.functions ++ new ∷ [] }) name (Function (length s.functions))
      (lawful_functions s (s.functions ++ new ∷ []) lawful (omega (arith, more)) (each_more (IsDeclared s.structures) s.functions new lawful.functions_formed declared)) (omega (arith, more))

  first_outer : (scopes : List (Scope Entity)) (e : Entity) → drop 1 (declare scopes name e) ≡ drop 1 scopes
  first_outer [] e = refl
  first_outer (scope ∷ outer) e = refl

  pub first_left : (kind : FnType) (has_body : Bool) → new.kind.params ≡ kind.params → new.kind.result ≡ kind.result → Left (DeclaresFunction kind has_body s) s (Good (length s.functions) first)
  first_left kind has_body params result = record {
    holds = record {
      lawful = first_lawful;
      stay = stay_same s.structures;
      known = record {
        is = record { info = new; known = get_last s.functions new; params = params; result = result };
        fresh = λ e. empty;
        filed = first_filed;
        agrees = first_agrees;
      };
      outer = first_outer s.scopes (Function (length s.functions));
      back = first_back;
      begun = λ k begun. begun;
    };
  }

-- levels only rise
level_rises : (a b : Level) → rank a ≤ rank (greatest (a ∷ b ∷ []))
level_rises level.Plain level.Plain = omega arith
level_rises level.Plain level.NonAllocating = omega arith
level_rises level.Plain level.NonBlocking = omega arith
level_rises level.NonAllocating level.Plain = omega arith
level_rises level.NonAllocating level.NonAllocating = omega arith
level_rises level.NonAllocating level.NonBlocking = omega arith
level_rises level.NonBlocking level.Plain = omega arith
level_rises level.NonBlocking level.NonAllocating = omega arith
level_rises level.NonBlocking level.NonBlocking = omega arith

pub union_rises : (a b : Effects) → IsAtMost a.level (union (a ∷ b ∷ [])).level
unfolding union
union_rises a b = level_rises a.level b.level

-- the union of what doesn't conflict doesn't
union_fits : (a b : Effects) → conflict (a ∷ b ∷ []) ≡ false → conflict (union (a ∷ b ∷ []) ∷ []) ≡ false
union_fits a b agreed =
    conflict-union (union (a ∷ b ∷ []) ∷ []) ∙ ap (λ (e : Effects). forbids e e.level) (union-one (union (a ∷ b ∷ []))) ∙ sym (conflict-union (a ∷ b ∷ [])) ∙ agreed

some_is : (f g : FnType) → Some f ≡ Some g → f ≡ g
some_is f g e = cc

-- a function that is named by a later type is named by an earlier one
named_before : (functions : List FunctionInfo) (i : ℕ) (whole : Option Effects) (before after : FnType) → before.params ≡ after.params → before.result ≡ after.result
    → IsAtMost before.effects.level after.effects.level → IsNamed functions i (a_type.Function (effects_at whole after)) → IsNamed functions i (a_type.Function (effects_at whole before))
named_before functions i whole before after params result rises h =
    let static : h.static ≡ effects_at whole after = some_is h.static (effects_at whole after) (sym h.function ∙ function_in-Function (effects_at whole after)) in
    record {
      info = h.info;
      static = effects_at whole before;
      known = h.known;
      function = function_in-Function (effects_at whole before);
      result = same_result whole ∙ ap (λ (f : FnType). f.result) (sym static) ∙ h.result;
      params = same_params whole ∙ ap (λ (f : FnType). f.params) (sym static) ∙ h.params;
      level = let above : IsAtMost (effects_at whole after).effects.level h.info.kind.effects.level = subst (λ (f : FnType). IsAtMost f.effects.level h.info.kind.effects.level) static h.level in
          at_most whole above;
    }
  where
    same_result : (whole : Option Effects) → (effects_at whole before).result ≡ (effects_at whole after).result
    same_result (Some e) = result
    same_result None = result

    same_params : (whole : Option Effects) → (effects_at whole before).params ≡ (effects_at whole after).params
    same_params (Some e) = params
    same_params None = params

    at_most : (whole : Option Effects) → IsAtMost (effects_at whole after).effects.level h.info.kind.effects.level
        → IsAtMost (effects_at whole before).effects.level h.info.kind.effects.level
    at_most (Some e) above = above
    at_most None above = omega arith

-- A function is changed in place: its type but for effects, and, where it has one, its body, stay.
module _ (s : Seen) (lawful : Lawful s) (number : ℕ) (f new : FunctionInfo) (known : slice_get s.functions number ≡ Some f) (declared : IsDeclared s.structures new)
    (params : new.kind.params ≡ f.kind.params) (result : new.kind.result ≡ f.kind.result) (rises : IsAtMost f.kind.effects.level new.kind.effects.level) where
  abbrev changed : List FunctionInfo
  changed = slice_set s.functions number new

  pub changed_back : (u : Tables) → Leads (record s { functions = changed }) u → Leads s u
  changed_back u leads = record { named = λ i g e. of i g e; stay = leads.stay; begin = leads.begin; thread_begin = leads.thread_begin }
    where
      of : (i : ℕ) (g : FunctionInfo) → slice_get s.functions i ≡ Some g → IsNamed u.functions i (a_type.Function (effects_at (slice_get s.whole i) g.kind))
      of i g e = by (nat_eq i number) refl
        where
          by : (test : Bool) → nat_eq i number ≡ test → IsNamed u.functions i (a_type.Function (effects_at (slice_get s.whole i) g.kind))
          by true t =
              let at : i ≡ number = eqb-true i number t in
              let same : Some g ≡ Some f = sym e ∙ ap (slice_get s.functions) at ∙ known in
              let is : g ≡ f = cc in
              let there : slice_get changed i ≡ Some new = ap (slice_get changed) at ∙ get_set s.functions number new (get_inside s.functions number f known) in
              named_before u.functions i (slice_get s.whole i) g.kind new.kind (ap (λ (x : FunctionInfo). x.kind.params) is ∙ sym params) (ap (λ (x : FunctionInfo). x.kind.result) is ∙ sym result)
              (subst (λ (x : FunctionInfo). IsAtMost x.kind.effects.level new.kind.effects.level) (sym is) rises) (leads.named i new there)
          by false t = leads.named i g (get_other s.functions number new i (eqb-false i number t) ∙ e)

  pub changed_lawful : Lawful (record s { functions = changed })
  changed_lawful =
      lawful_functions s changed lawful (let same = length-set s.functions number new in omega (arith, same)) (each_set (IsDeclared s.structures) s.functions number new lawful.functions_formed declared)

  pub changed_filed : ((body : Body) → new.body ≡ Some body → BodyHolds (record s { functions = changed }) new.kind.params new.kind.result new.frame_words body)
      → AreBodied s → (i : ℕ) (g : FunctionInfo) (body : Body) → slice_get changed i ≡ Some g → g.body ≡ Some body
      → BodyHolds (record s { functions = changed }) g.kind.params g.kind.result g.frame_words body
  changed_filed holds h i g body there is = of (get_after_set s.functions number new i g (get_inside s.functions number f known) there)
    where
      of : ((i ≡ number) × (new ≡ g)) ⊎ ((i ≡ number → ⊥) × (slice_get s.functions i ≡ Some g)) → BodyHolds (record s { functions = changed }) g.kind.params g.kind.result g.frame_words body
      of (inl q) =
          subst (λ (x : FunctionInfo). BodyHolds (record s { functions = changed }) x.kind.params x.kind.result x.frame_words body) q.1
          (holds body (ap (λ (x : FunctionInfo). x.body) q.1 ∙ is))
      of (inr q) = λ few u leads. h i g body q.1 is few u (changed_back u leads)

-- what was short before a function was changed
pub short_changed : (functions : List FunctionInfo) (number : ℕ) (f new : FunctionInfo) → slice_get functions number ≡ Some f → f.frame_words < 2 ^ 32 - 1
    → AreShort (slice_set functions number new) → AreShort functions
short_changed functions number f new known few short i g e = of (nat_eq i number) refl
  where
    of : (test : Bool) → nat_eq i number ≡ test → g.frame_words < 2 ^ 32 - 1
    of true t =
        let same : Some f ≡ Some g = sym known ∙ ap (slice_get functions) (sym (eqb-true i number t)) ∙ e in
        let is : f ≡ g = cc in
        subst (λ (x : FunctionInfo). x.frame_words < 2 ^ 32 - 1) is few
    of false t = short i g (get_other functions number new i (eqb-false i number t) ∙ e)

-- a further declaration
module _ (s : Seen) (lawful : Lawful s) (number : ℕ) (f : FunctionInfo) (known : slice_get s.functions number ≡ Some f) (e : Effects) (noreturn internal : Bool) (warnings : List TypeWarning)
    (agreed : conflict (f.kind.effects ∷ e ∷ []) ≡ false) where
  abbrev again : FunctionInfo
  again = record f { kind = record f.kind { effects = union (f.kind.effects ∷ e ∷ []) }; noreturn = noreturn; internal = internal }

  again_declared : IsDeclared s.structures again
  again_declared = record {
    formed = formed_with s.structures (Some (union (f.kind.effects ∷ e ∷ []))) f.kind (each_get (IsDeclared s.structures) s.functions number f lawful.functions_formed known).formed;
    fits = union_fits f.kind.effects e agreed;
    unframed = (each_get (IsDeclared s.structures) s.functions number f lawful.functions_formed known).unframed;
  }

  abbrev after : Seen
  after = record s { functions = slice_set s.functions number again; warnings = warnings }

  after_filed : IsFiled s → IsFiled after
  after_filed h = record {
    knows = λ u leads. h.knows u (back u leads);
    bodied = λ i g body there is few u leads.
        changed_filed s lawful number f again known again_declared refl refl (union_rises f.kind.effects e)
        (λ b f_is f_few v v_leads. h.bodied number f b known f_is f_few v (changed_back s lawful number f again known again_declared refl refl (union_rises f.kind.effects e) v v_leads))
        h.bodied i g body there is few u (to_changed u leads);
    valued = λ short u leads small.
        let few = short number again (get_set s.functions number again (get_inside s.functions number f known)) in
        h.valued (short_changed s.functions number f again known few short) u (back u leads) small;
    defined = defined_again s.functions s.definitions number f again known refl h.defined;
  }
    where
      to_changed : (u : Tables) → Leads after u → Leads (record s { functions = slice_set s.functions number again }) u
      to_changed u leads = leads

      back : (u : Tables) → Leads after u → Leads s u
      back u leads = changed_back s lawful number f again known again_declared refl refl (union_rises f.kind.effects e) u leads

  pub after_left : (kind : FnType) (has_body : Bool) → is_some f.body && has_body ≡ false → same_outside (a_type.Function f.kind) (a_type.Function kind) ≡ true
      → Left (DeclaresFunction kind has_body s) s (Good number after)
  after_left kind has_body once alike = record {
    holds = record {
      lawful = changed_lawful s lawful number f again known again_declared refl refl (union_rises f.kind.effects e);
      stay = stay_same s.structures;
      known = record {
        is = record {
          info = again;
          known = get_set s.functions number again (get_inside s.functions number f known);
          params = ap (λ (x : FnType). x.params) ((same_outside-is f.kind kind).0 alike);
          result = ap (λ (x : FnType). x.result) ((same_outside-is f.kind kind).0 alike);
        };
        fresh = λ e. none_of f.body has_body once e;
        filed = after_filed;
        agrees = λ h. h;
      };
      outer = refl;
      back = λ u leads. changed_back s lawful number f again known again_declared refl refl (union_rises f.kind.effects e) u leads;
      begun = λ k begun. begun;
    };
  }
    where
      none_of : (b : Option Body) (test : Bool) → is_some b && test ≡ false → test ≡ true → b ≡ None
      none_of None test once e = refl
      none_of (Some body) true once e = absurd (cc)
      none_of (Some body) false once e = absurd (cc)

-- a declaration of a function
module _ (d : FunctionDeclaration) (s : Seen) (lawful : Lawful s)
    (formed : d.mistyped ≡ false → d.made.incomplete ≡ false → IsFormed s.structures (a_type.Function d.kind)) where
  first_declared : Left (DeclaresFunction d.kind d.has_body s) s (first_declaration d s)
  unfolding and_then
  first_declared =
      faults_left s false d.mistyped (d.made.conflicting || conflict (marked s.marks (length s.functions) d.kind.effects ∷ [])) d.made.incomplete d.name.start _ (λ a b c e.
      first_left s lawful _ (record {
        formed = formed_with s.structures (Some (marked s.marks (length s.functions) d.kind.effects)) d.kind (formed b e);
        fits = or_second d.made.conflicting (conflict (marked s.marks (length s.functions) d.kind.effects ∷ [])) c;
        unframed = λ none. refl;
      }) refl d.number d.kind d.has_body refl refl)

  further_declared : (number : ℕ) (found : Option FunctionInfo) → slice_get s.functions number ≡ found → Left (DeclaresFunction d.kind d.has_body s) s (further_declaration d s.marks number found s)
  unfolding and_then
  further_declared number None known = fails_left s 2 d.name.start
  further_declared number (Some f) known =
      faults_left s (is_some f.body && d.has_body) (d.mistyped || not (same_outside (a_type.Function f.kind) (a_type.Function d.kind)))
      (d.made.conflicting || conflict (f.kind.effects ∷ marked s.marks number d.kind.effects ∷ [])) d.made.incomplete d.name.start _ (λ a b c e.
      let alike = not_false (same_outside (a_type.Function f.kind) (a_type.Function d.kind)) (or_second d.mistyped (not (same_outside (a_type.Function f.kind) (a_type.Function d.kind))) b) in
      of (added (marked s.marks number d.kind.effects) f.kind.effects) (or_second d.made.conflicting (conflict (f.kind.effects ∷ marked s.marks number d.kind.effects ∷ [])) c) a alike)
    where
      of : (raised : Option Level) → conflict (f.kind.effects ∷ marked s.marks number d.kind.effects ∷ []) ≡ false → is_some f.body && d.has_body ≡ false → same_outside (a_type.Function f.kind) (a_type.Function d.kind) ≡ true → Left (DeclaresFunction d.kind d.has_body s) s
          (and_then (warned raised (Redeclaration d.name.start) s) (λ _ t. Good number (record t {
            functions = slice_set t.functions number (record f {
              kind = record f.kind { effects = union (f.kind.effects ∷ marked s.marks number d.kind.effects ∷ []) };
              noreturn = f.noreturn || d.made.noreturn;
              internal = f.internal || d.internal;
            });
          })))
      of None agreed once alike = after_left s lawful number f known (marked s.marks number d.kind.effects) (f.noreturn || d.made.noreturn) (f.internal || d.internal) s.warnings agreed d.kind d.has_body once alike
      of (Some l) agreed once alike =
          after_left s lawful number f known (marked s.marks number d.kind.effects) (f.noreturn || d.made.noreturn) (f.internal || d.internal) (s.warnings ++ Redeclaration d.name.start l ∷ []) agreed d.kind d.has_body once alike

  pub function_left : (here : Option Entity) → Left (DeclaresFunction d.kind d.has_body s) s (function_declared d here s)
  unfolding and_then
  function_left None = first_declared
  function_left (Some (Function number)) = further_declared number (slice_get s.functions number) refl
  function_left (Some (Variable t storage n)) = fails_left s 2 d.name.start
  function_left (Some (TypeName t)) = fails_left s 2 d.name.start
  function_left (Some (Enumerator bits)) = fails_left s 2 d.name.start
  function_left (Some (Library row)) = fails_left s 2 d.name.start
  function_left (Some NullPointer) = fails_left s 2 d.name.start
  function_left (Some MutexInitializer) = fails_left s 2 d.name.start
