-- The body of a function: its parameters stand in the frame, and what is read in its scope is typed.
use Rattle.std.proofs.Common.{◌≡◌, ℕ, zero, suc, ◌<◌, ◌-◌, ◌^◌, ◌+◌, true, false, refl, sym, ◌∙◌, ap, subst, List, [], ◌∷◌, ◌++◌, map, drop, length, slice_get, Option, Some, None, arith}
use Rattle.std.specs.Prelude.{slice_set}
use Rattle.scopes.specs.Scope.{Scope, found_here, declare}
use Rattle.eff_types.specs.declared.types.CType.{CType}
use Rattle.eff_types.specs.declared.types.FnType.{FnType}
use Rattle.core_unit.specs.Layout.{LaidOut, object, parameter_objects, list_automatics}
use Rattle.core_unit.specs.Shapes.{is_scalar}
use Rattle.core_unit.specs.Typed.{Tables, IsKept, ListIsTyped}
use Rattle.core_unit.specs.declared.body.Body.{Body}
use Rattle.core_unit.specs.declared.body.Stmt.{Stmt}
use Rattle.core_unit.specs.declared.expressions.Storage.TheVariants.{Automatic}
use Rattle.core_unit.specs.declared.tables.FunctionInfo.{FunctionInfo}
use Rattle.core_unit.specs.declared.tables.Object.{Object}
use Rattle.type_rules.specs.Functions.{declared_at, parameters_declared, with_body, function_defined, body_read}
use Rattle.type_rules.specs.Reading.{Read, Good, Bad, and_then, scoped}
use Rattle.type_rules.specs.Seen.{Seen}
use Rattle.type_rules.specs.declared.declarators.Parameter.{Parameter}
use Rattle.type_rules.specs.declared.names.Entity.{Entity}
use Rattle.type_rules.specs.declared.names.Entity.TheVariants.{Variable}
use Rattle.type_laws.proofs.Converted.{within_tables}
use Rattle.type_laws.proofs.Declarators.{object_of_scalar}
use Rattle.type_laws.proofs.Declared.{IsParameter}
use Rattle.type_laws.proofs.Definitions.{AreDefined, defined_now}
use Rattle.type_laws.proofs.Each.{each_dropped, each_get}
use Rattle.type_laws.proofs.Formed.{IsFormed, stay_same, stay_twice}
use Rattle.type_laws.proofs.Functions.{in_frame, BodyHolds, AreBodied, AreShort, short_changed, IsFiled, VariableIs, Agrees, IsDeclaredAs, changed_back, changed_lawful, changed_filed}
use Rattle.type_laws.proofs.Lists.{get_set, get_inside}
use Rattle.type_laws.proofs.Growing.{IsSmall, AreValued, calm_values, object_within, Standing, front_of, back_of, laid_joined}
use Rattle.type_laws.proofs.Initializing.{scalar_words}
use Rattle.type_laws.proofs.Left.{Left, Leaves, longer, then_left, gives_left, left_as}
use Rattle.type_laws.proofs.Statements.{IsInside, Lists}
use Rattle.type_laws.proofs.Steps.{lawful_declared}
use Rattle.type_laws.proofs.Scopes.{each_declared}
use Rattle.type_laws.proofs.Triples.{Each, EachEntity, IsKnownEntity, IsDeclared, Lawful, Leads, Knows, Calm, calm_same, calm_twice}

-- what is true at file scope once a function is defined
abbrev pub Ends : Seen → Seen → Type 0
Ends s t = IsFiled t × (Agrees s → Agrees t)

-- parameters that are declared are known where they stand in the frame
pub record Opens (offset : ℕ) (params : List CType) (s t : Seen) : Type 0 where
  pub calm : Calm s t
  pub structures_are : t.structures ≡ s.structures
  pub tables : (u : Tables) → Leads t u → Knows s u → Standing u.frame (parameter_objects offset params) → Knows t u

abbrev kinds : List Parameter → List CType
kinds ps = map (λ p. p.kind) ps

outer_declared : (scopes : List (Scope Entity)) (name : ℕ) (e : Entity) → drop 1 (declare scopes name e) ≡ drop 1 scopes
outer_declared [] name e = refl
outer_declared (scope ∷ outer) name e = refl

kept_parameter : (s : Seen) (u : Tables) (offset : ℕ) (t : CType) → Leads s u → IsFormed s.structures t → is_scalar t ≡ true → ((index : ℕ) × (slice_get u.frame index ≡ Some (object offset 1)))
    → IsKept u (Automatic offset) t
kept_parameter s u offset t leads formed is standing = record {
  within = within_tables s u t leads formed;
  words = 1;
  there = record { index = standing.0; object = object offset 1; known = standing.1; begins = refl; long = refl; some = omega arith };
  long = λ e. sym (scalar_words u.structures t is);
}

one_left : (offset : ℕ) (p : Parameter) (s : Seen) → Lawful s → IsParameter s.structures p → Left (λ a t. Opens offset (p.kind ∷ []) s t) s (declared_at offset p.name p.kind s)
one_left offset p s lawful is = of p.name
  where
    of : (name : Option ℕ) → Left (λ a t. Opens offset (p.kind ∷ []) s t) s (declared_at offset name p.kind s)
    of None = gives_left _ s tt lawful (record { calm = calm_same s; structures_are = refl; tables = λ u leads knows standing. knows })
    of (Some name) = record {
      holds = record {
        lawful = lawful_declared s name (Variable p.kind (Automatic offset) None) lawful (is.0, object_of_scalar p.kind is.1);
        stay = stay_same s.structures;
        known = record {
          calm = calm_same s;
          structures_are = refl;
          tables = λ u leads knows standing.
              each_declared (IsKnownEntity u) s.scopes name (Variable p.kind (Automatic offset) None) knows (kept_parameter s u offset p.kind leads is.0 is.1 standing.0);
        };
        outer = outer_declared s.scopes name (Variable p.kind (Automatic offset) None);
        back = λ u leads. leads;
        begun = λ k begun. begun;
      };
    }

parameters_left : (offset : ℕ) (ps : List Parameter) (s : Seen) → Lawful s → Each (IsParameter s.structures) ps → Left (λ a t. Opens offset (kinds ps) s t) s (parameters_declared offset ps s)
unfolding and_then
parameters_left offset [] s lawful each = gives_left _ s tt lawful (record { calm = calm_same s; structures_are = refl; tables = λ u leads knows standing. knows })
parameters_left offset (p ∷ ps) s lawful each =
    then_left s (declared_at offset p.name p.kind s) _ (one_left offset p s lawful each.0) (λ a t h.
    left_as (λ b v. Opens (offset + 1) (kinds ps) t v) (λ b v. Opens offset (kinds (p ∷ ps)) s v) t _
    (parameters_left (offset + 1) ps t h.lawful (subst (λ ss. Each (IsParameter ss) ps) (sym h.known.structures_are) each.1)) (λ b v g. record {
      calm = calm_twice s t v h.known.calm g.known.calm;
      structures_are = g.known.structures_are ∙ h.known.structures_are;
      tables = λ u leads knows standing. g.known.tables u leads (h.known.tables u (g.back u leads) knows (standing.0, tt)) standing.1;
    }))

-- the objects of a list stand in it
index_more : (x : Object) (xs : List Object) (objects : List Object) → Standing xs objects → Standing (x ∷ xs) objects
index_more x xs [] each = tt
index_more x xs (o ∷ os) each = ((suc each.0.0, each.0.1), index_more x xs os each.1)

stands_itself : (xs : List Object) → Standing xs xs
stands_itself [] = tt
stands_itself (x ∷ xs) = ((zero, refl), index_more x xs xs (stands_itself xs))

parameters_laid : (first : ℕ) (ts : List CType) → LaidOut first (parameter_objects first ts) (first + length ts)
parameters_laid first [] = omega arith
parameters_laid first (t ∷ ts) =
    (refl, omega arith, subst (λ n. LaidOut (first + 1) (parameter_objects (first + 1) ts) n) (omega arith) (parameters_laid (first + 1) ts))

-- a body is read
module _ (s : Seen) (lawful : Lawful s) (filed : IsFiled s) (number : ℕ) (kind : FnType) (parameters : List Parameter) (block : Seen → Read (List Stmt))
    (is : IsDeclaredAs kind number s) (fresh : is.info.body ≡ None) (formed : IsFormed s.structures kind.result) (each : Each (IsParameter s.structures) parameters) (same : kind.params ≡ kinds parameters)
    (block_left : (v : Seen) → IsInside kind.result v → Left (Lists kind.result false v) v (block v)) where
  abbrev opened : Seen
  opened = record s { scopes = [] ∷ s.scopes }

  opened_lawful : Lawful opened
  opened_lawful = record {
    bytes = lawful.bytes;
    scoped = longer s.scopes lawful.scoped;
    entities = (tt, lawful.entities);
    functions_formed = lawful.functions_formed;
    open_are_empty = lawful.open_are_empty;
    complete_have_words = lawful.complete_have_words;
    members_lawful = lawful.members_lawful;
    sized = lawful.sized;
    few = lawful.few;
    statics_stand = lawful.statics_stand;
    threads_stand = lawful.threads_stand;
    tags_lawful = lawful.tags_lawful;
    ranked = lawful.ranked;
    variables_solid = lawful.variables_solid;
    objects_known = lawful.objects_known;
    whole_fits = lawful.whole_fits;
  }

  closed_lawful : (w : Seen) → Lawful w → drop 1 w.scopes ≡ s.scopes → Lawful (record w { scopes = drop 1 w.scopes })
  closed_lawful w h outer = record {
    bytes = h.bytes;
    scoped = subst (λ (scopes : List (Scope Entity)). 0 < length (drop 1 scopes)) (sym outer) lawful.scoped;
    entities = each_dropped _ 1 w.scopes h.entities;
    functions_formed = h.functions_formed;
    open_are_empty = h.open_are_empty;
    complete_have_words = h.complete_have_words;
    members_lawful = h.members_lawful;
    sized = h.sized;
    few = h.few;
    statics_stand = h.statics_stand;
    threads_stand = h.threads_stand;
    tags_lawful = h.tags_lawful;
    ranked = h.ranked;
    variables_solid = h.variables_solid;
    objects_known = h.objects_known;
    whole_fits = h.whole_fits;
  }

  abbrev begun_from : Seen → Seen
  begun_from v = record v { frame = length kind.params; result = kind.result }

  abbrev with_body_read : FunctionInfo → List Stmt → Seen → FunctionInfo
  with_body_read f items w = record f { body = Some (record { items = items }); frame_words = w.frame }

  abbrev closed : Seen → FunctionInfo → List Stmt → Seen
  closed w f items = record w { scopes = drop 1 w.scopes; functions = slice_set w.functions number (with_body_read f items w); definitions = w.definitions ++ number ∷ [] }

  -- the function takes the body that was read
  module _ (a : Unit {0}) (v : Seen) (opens : Leaves (λ b t. Opens 0 (kinds parameters) opened t) opened a v) (items : List Stmt) (w : Seen)
      (lists : Leaves (Lists kind.result false (begun_from v)) (begun_from v) items w) (f : FunctionInfo) (known : slice_get w.functions number ≡ Some f) where
    outer : drop 1 w.scopes ≡ s.scopes
    outer = lists.outer ∙ opens.outer

    functions_are : w.functions ≡ s.functions
    functions_are = lists.known.steady.functions_are ∙ opens.known.calm.functions_are

    info_is : f ≡ is.info
    info_is = let there : Some f ≡ Some is.info = sym known ∙ ap (λ fs. slice_get fs number) functions_are ∙ is.known in cc

    abbrev ended : Seen
    ended = record w { scopes = drop 1 w.scopes }

    ended_lawful : Lawful ended
    ended_lawful = closed_lawful w lists.lawful outer

    declared : IsDeclared ended.structures (with_body_read f items w)
    declared =
        let old = each_get (IsDeclared ended.structures) ended.functions number f ended_lawful.functions_formed known in
        record { formed = old.formed; fits = old.fits; unframed = λ none. absurd (cc) }

    back_to_w : (u : Tables) → Leads (closed w f items) u → Leads w u
    back_to_w u leads = changed_back ended ended_lawful number f (with_body_read f items w) known declared refl refl (omega arith) u leads

    back_to_s : (u : Tables) → Leads (closed w f items) u → Leads s u
    back_to_s u leads = opens.back u (lists.back u (back_to_w u leads))

    body_holds : BodyHolds (record ended { functions = slice_set ended.functions number (with_body_read f items w) }) f.kind.params f.kind.result w.frame (record { items = items })
    body_holds few u leads =
        let body : Body = record { items = items } in
        let u' = in_frame u f.kind.params body in
        let to_w = changed_back ended ended_lawful number f (with_body_read f items w) known declared refl refl (omega arith) u leads in
        let w_leads : Leads w u' = record { named = to_w.named; stay = to_w.stay; begin = to_w.begin; thread_begin = to_w.thread_begin } in
        let v_leads = lists.back u' w_leads in
        let params_are : f.kind.params ≡ kind.params = ap (λ (x : FunctionInfo). x.kind.params) info_is ∙ is.params in
        let result_is : f.kind.result ≡ kind.result = ap (λ (x : FunctionInfo). x.kind.result) info_is ∙ is.result in
        let standing = stands_itself u'.frame in
        let params_stand : Standing u'.frame (parameter_objects 0 (kinds parameters)) =
        subst (λ ts. Standing u'.frame (parameter_objects 0 ts)) (params_are ∙ same) (front_of _ (parameter_objects 0 f.kind.params) (list_automatics u.structures items) standing) in
        let knows = opens.known.tables u' v_leads (tt, filed.knows u' (opens.back u' v_leads)) params_stand in
        let autos = lists.known.laid u' w_leads few in
        record {
          typed = λ small. subst (λ r. ListIsTyped u' r false items) (sym result_is)
              (lists.known.tables u' w_leads small knows (back_of _ (parameter_objects 0 f.kind.params) (list_automatics u.structures items) standing) tt).1;
          laid = laid_joined 0 (length kind.params) w.frame (parameter_objects 0 f.kind.params) (list_automatics u.structures items)
              (subst (λ n. LaidOut 0 (parameter_objects 0 f.kind.params) n) (ap length params_are) (subst (λ n. LaidOut 0 (parameter_objects 0 f.kind.params) n) (omega arith) (parameters_laid 0 f.kind.params))) autos;
        }

    short_before : AreShort (slice_set w.functions number (with_body_read f items w)) → AreShort s.functions
    short_before short =
        let old = each_get (IsDeclared ended.structures) ended.functions number f ended_lawful.functions_formed known in
        let none = old.unframed (ap (λ (x : FunctionInfo). x.body) info_is ∙ fresh) in
        subst AreShort functions_are (short_changed w.functions number f (with_body_read f items w) known (omega (arith, none)) short)

    closed_values : AreShort (slice_set w.functions number (with_body_read f items w)) → (u : Tables) → Leads (closed w f items) u → IsSmall u → AreValued w u
    closed_values short u leads small =
        let body : Body = record { items = items } in
        let u' = in_frame u f.kind.params body in
        let few : w.frame < 2 ^ 32 - 1 = short number (with_body_read f items w) (get_set w.functions number (with_body_read f items w) (get_inside w.functions number f known)) in
        let laid = (body_holds few u leads).laid in
        let to_w = back_to_w u leads in
        let w_leads : Leads w u' = record { named = to_w.named; stay = to_w.stay; begin = to_w.begin; thread_begin = to_w.thread_begin } in
        let v_leads = lists.back u' w_leads in
        let params_are : f.kind.params ≡ kind.params = ap (λ (x : FunctionInfo). x.kind.params) info_is ∙ is.params in
        let standing = stands_itself u'.frame in
        let params_stand : Standing u'.frame (parameter_objects 0 (kinds parameters)) =
        subst (λ ts. Standing u'.frame (parameter_objects 0 ts)) (params_are ∙ same) (front_of _ (parameter_objects 0 f.kind.params) (list_automatics u.structures items) standing) in
        let knows = opens.known.tables u' v_leads (tt, filed.knows u' (opens.back u' v_leads)) params_stand in
        let small' : IsSmall u' = record {
          statics = small.statics;
          thread_locals = small.thread_locals;
          frame = λ k o e. let within = object_within 0 w.frame u'.frame k o laid e in omega (arith, few, within);
        } in
        let old = calm_values opened v opens.known.calm u' (filed.valued (short_before short) u' (opens.back u' v_leads) small') in
        lists.known.values u' w_leads small' knows (back_of _ (parameter_objects 0 f.kind.params) (list_automatics u.structures items) standing) tt old

    closed_filed : IsFiled (closed w f items)
    closed_filed = record {
      knows = λ u leads. subst (λ scopes. EachEntity (IsKnownEntity u) scopes) (sym outer) (filed.knows u (back_to_s u leads));
      bodied = λ i g body there g_is few u leads.
          changed_filed ended ended_lawful number f (with_body_read f items w) known declared refl refl (omega arith)
          (λ b b_is. let same_body : record { items = items } ≡ b = cc in subst (λ x. BodyHolds (record ended { functions = slice_set ended.functions number (with_body_read f items w) }) f.kind.params f.kind.result w.frame x) same_body body_holds)
          ended_bodied i g body there g_is few u leads;
      valued = λ short u leads small. closed_values short u leads small;
      defined = defined_now w.functions w.definitions number f (with_body_read f items w) known (record { items = items }) (ap (λ (x : FunctionInfo). x.body) info_is ∙ fresh) refl ended_defined;
    }
      where
        ended_bodied : AreBodied ended
        ended_bodied i g body there g_is few u leads =
            filed.bodied i g body (ap (λ fs. slice_get fs i) (sym functions_are) ∙ there) g_is few u (opens.back u (lists.back u leads))

        ended_defined : AreDefined w.functions w.definitions
        ended_defined =
            subst (λ fs. AreDefined fs w.definitions) (sym functions_are)
            (subst (AreDefined s.functions) (sym (lists.known.steady.definitions_are ∙ opens.known.calm.definitions_are)) filed.defined)

    variables_are : w.variables ≡ s.variables
    variables_are = lists.known.steady.variables_are ∙ opens.known.calm.variables_are

    closed_agrees : Agrees s → Agrees (closed w f items)
    closed_agrees h name t storage n named =
        subst (λ vs. VariableIs vs n t) (sym variables_are) (h name t storage n (subst (λ scopes. found_here scopes name ≡ Some (Variable t storage (Some n))) outer named))

    pub closed_left : Leaves {A = Unit {0}} (λ b t. Ends s t) s tt (closed w f items)
    closed_left = record {
      lawful = closed_of (changed_lawful ended ended_lawful number f (with_body_read f items w) known declared refl refl (omega arith));
      stay = stay_twice s.structures v.structures w.structures opens.stay lists.stay;
      known = (closed_filed, closed_agrees);
      outer = ap (drop 1) outer;
      back = back_to_s;
      begun = λ k begun. lists.begun k (opens.begun k begun);
    }
      where
        closed_of : Lawful (record ended { functions = slice_set ended.functions number (with_body_read f items w) }) → Lawful (closed w f items)
        closed_of h = h

  -- what stands behind the body
  abbrev defines : List Stmt → Seen → Read (Unit {0})
  defines items w = function_defined number items (record w { scopes = drop 1 w.scopes })

  defined_left : (a : Unit {0}) (v : Seen) → Leaves (λ b t. Opens 0 (kinds parameters) opened t) opened a v → (items : List Stmt) (w : Seen)
      → Leaves (Lists kind.result false (begun_from v)) (begun_from v) items w → (found : Option FunctionInfo) → slice_get w.functions number ≡ found
      → Left {A = Unit {0}} (λ b t. Ends s t) s (and_then (with_body found number items w.frame (record w { scopes = drop 1 w.scopes })) (λ _ t. Good tt (record t { definitions = t.definitions ++ number ∷ [] })))
  unfolding and_then
  defined_left a v opens items w lists (Some f) known = record { holds = closed_left a v opens items w lists f known }
  defined_left a v opens items w lists None known =
      let clash : None ≡ Some is.info = sym known ∙ ap (λ fs. slice_get fs number) (lists.known.steady.functions_are ∙ opens.known.calm.functions_are) ∙ is.known in
      absurd (cc)

  block_read_left : (a : Unit {0}) (v : Seen) → Leaves (λ b t. Opens 0 (kinds parameters) opened t) opened a v → (r : Read (List Stmt))
      → Left (Lists kind.result false (begun_from v)) (begun_from v) r → Left (λ b t. Ends s t) s (and_then r defines)
  unfolding and_then
  block_read_left a v opens (Bad n p) h = record { holds = tt }
  block_read_left a v opens (Good items w) h = defined_left a v opens items w h.holds (slice_get w.functions number) refl

  inside : (a : Unit {0}) (v : Seen) → Leaves (λ b t. Opens 0 (kinds parameters) opened t) opened a v → IsInside kind.result (begun_from v)
  inside a v opens = record { lawful = lawful_begun v opens.lawful; result_is = refl; formed = subst (λ ss. IsFormed ss kind.result) (sym opens.known.structures_are) formed }
    where
      lawful_begun : (v : Seen) → Lawful v → Lawful (begun_from v)
      lawful_begun v h = h

  opened_left : (r : Read (Unit {0})) → Left (λ b t. Opens 0 (kinds parameters) opened t) opened r
      → Left (λ b t. Ends s t) s (and_then (and_then (and_then {A = Unit {0}} (and_then {B = Unit {0}} r (λ _ v. Good tt (begun_from v))) (λ _ v. block v)) (λ items w. Good items (record w { scopes = drop 1 w.scopes })))
      (λ items. function_defined number items))
  unfolding and_then
  opened_left (Bad n p) h = record { holds = tt }
  opened_left (Good a v) h = flat (block (begun_from v)) (block_read_left a v h.holds (block (begun_from v)) (block_left (begun_from v) (inside a v h.holds)))
    where
      flat : (r : Read (List Stmt)) → Left (λ b t. Ends s t) s (and_then r defines)
          → Left (λ b t. Ends s t) s (and_then (and_then r (λ items w. Good items (record w { scopes = drop 1 w.scopes }))) (λ items. function_defined number items))
      flat (Good items w) h = h
      flat (Bad n p) h = record { holds = tt }

  pub body_left : Left (λ b t. Ends s t) s (body_read number kind parameters block s)
  unfolding body_read scoped and_then
  body_left = opened_left (parameters_declared 0 parameters opened) (parameters_left 0 parameters opened opened_lawful each)
