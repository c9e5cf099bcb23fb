-- Declarations and definitions of file scope keep what was seen, and what is true at file scope, where variables do, which proofs/Variables shows.
use Rattle.std.proofs.Common.{◌≡◌, ℕ, Bool, true, false, refl, sym, ◌∙◌, ap, subst, List, [], ◌∷◌, map, slice_get, Option, Some, None, inl, inr}
use Rattle.std.specs.Prelude.{◌⊎◌, nat_eq, ◌||◌, if◌then◌else◌}
use denote.Hole.Carrier.{hidden}
use Rattle.scopes.specs.Number.{number_of, noted}
use Rattle.scopes.specs.Scope.{found_here, declare}
use Rattle.c_tree.specs.declared.declarations.Decl.{Decl}
use Rattle.c_tree.specs.declared.declarations.FunctionDefinition.{FunctionDefinition}
use Rattle.c_tree.specs.declared.declarations.Init.{Init}
use Rattle.c_tree.specs.declared.statements.BlockItem.{BlockItem}
use Rattle.c_tree.specs.declared.statements.External.{External}
use Rattle.c_tree.specs.declared.statements.External.TheVariants as external
use Rattle.c_tree.specs.declared.words.Span.{Span}
use Rattle.eff_types.specs.Effects.{union}
use Rattle.eff_types.specs.declared.levels.Effects.{Effects}
use Rattle.eff_types.specs.declared.types.CType.{CType}
use Rattle.eff_types.specs.declared.types.CType.TheBlock.{hidden-the_row-CType-0, shape-the_row-CType-0, hidden-the_row-CType-1, shape-the_row-CType-1}
use Rattle.eff_types.specs.declared.types.CType.TheVariants as a_type
use Rattle.eff_types.specs.declared.types.FnType.{FnType}
use Rattle.core_unit.specs.Shapes.{function_in, is_unsized}
use Rattle.core_unit.proofs.Callees.{function_in-Function}
use Rattle.core_unit.specs.declared.body.Stmt.{Stmt}
use Rattle.core_unit.specs.declared.expressions.Storage.{Storage}
use Rattle.core_unit.specs.declared.tables.StructInfo.{StructInfo}
use Rattle.type_rules.specs.Declarations.{Named, no_initializer, is_other_type, typedef_declared, function_of, function_named, variable_named, name_declared, file_name, named_at, named_by, without_statements, file_declaration, declaration, all_specifiers, not_defined, defined_as, typedef_defined, defined_name, definition, is_redefined}
use Rattle.type_rules.specs.Declarators.{made, own_parameters, parts_type}
use Rattle.type_rules.specs.Functions.{function_declared}
use Rattle.type_rules.specs.Reading.{Read, Good, and_then, text_of, name_number}
use Rattle.type_rules.specs.Recursion.{declarator}
use Rattle.type_rules.specs.Seen.{Seen}
use Rattle.type_rules.specs.Specifiers.{base_type, no_specifiers}
use Rattle.type_rules.specs.Statements.{block_items}
use Rattle.type_rules.specs.Types.{with_effects, attributed, effects_in}
use Rattle.type_rules.specs.Units.{external_read, externals}
use Rattle.type_rules.specs.declared.declarators.Parameter.{Parameter}
use Rattle.type_rules.specs.declared.declarators.Part.{Part}
use Rattle.type_rules.specs.declared.declarators.Part.TheVariants.{PointerTo, ArrayOf, FunctionOf}
use Rattle.type_rules.specs.declared.declarators.Shape.{Shape}
use Rattle.type_rules.specs.declared.names.Entity.{Entity}
use Rattle.type_rules.specs.declared.names.Entity.TheVariants.{Variable, TypeName}
use Rattle.type_rules.specs.declared.specifiers.Specifiers.{Specifiers}
use Rattle.type_laws.proofs.Bodies.{Ends, body_left}
use Rattle.type_laws.proofs.Calling.{FunctionIsFormed, function_in_formed}
use Rattle.type_laws.proofs.Declared.{AreSpecified, IsShaped, IsParameter, PartIsFormed, MakesFormed, made_is_formed}
use Rattle.type_laws.proofs.Declarators.{or_first, first_of_three, parameter_stays, specified_stays}
use Rattle.type_laws.proofs.Declaring.{GoesOn, declaration_left, all_specifiers_keep}
use Rattle.type_laws.proofs.Definitions.{AreDefined}
use Rattle.type_laws.proofs.Each.{each_as, each_get}
use Rattle.type_laws.proofs.Formed.{IsFormed}
use Rattle.type_laws.proofs.Growing.{calm_values}
use Rattle.type_laws.proofs.Functions.{AreShort, IsFiled, VariableIs, Agrees, IsDeclaredAs, DeclaresFunction, function_is, function_left}
use Rattle.type_laws.proofs.Left.{Left, Leaves, then_left, gives_left, fails_left, refused_left, left_as, left_of}
use Rattle.type_laws.proofs.Scopes.{each_declared, here_before}
use Rattle.type_laws.proofs.Specifying.{Silent, none_formed}
use Rattle.type_laws.proofs.Statements.{block_items_left}
use Rattle.type_laws.proofs.Steps.{faults_left, noted_left, declared_left}
use Rattle.type_laws.proofs.Trees.{declarator_keeps}
use Rattle.type_laws.proofs.Triples.{Each, IsKnownEntity, IsDeclared, Lawful, Made, Always}

-- what is true at file scope
pub record IsSound (s : Seen) : Type 0 where
  pub filed : IsFiled s
  pub agrees : Agrees s

pub sound_noted : (s : Seen) (names : List (List ℕ)) → IsSound s → IsSound (record s { names = names })
sound_noted s names h = record { filed = record { knows = h.filed.knows; bodied = h.filed.bodied; valued = h.filed.valued; defined = h.filed.defined }; agrees = h.agrees }

-- what was true at file scope stays true
abbrev pub Files : {A : Type 0} → Seen → A → Seen → Type 0
Files s a t = IsSound s → IsSound t

pub made_files : {A : Type 0} (K : A → Seen → Type 0) (s t : Seen) (a : A) → Made Always K Silent s a t → IsSound s → IsSound t
made_files K s t a h sound = record {
  filed = record {
    knows = λ u leads. (h.tables u leads (sound.filed.knows u (h.back u leads)) tt).0;
    bodied = λ i f body known is few u leads.
        sound.filed.bodied i f body (ap (λ fs. slice_get fs i) (sym h.calm.functions_are) ∙ known) is few u (h.back u leads);
    valued = λ short u leads small. calm_values s t h.calm u (sound.filed.valued (subst AreShort h.calm.functions_are short) u (h.back u leads) small);
    defined = subst (λ fs. AreDefined fs t.definitions) (sym h.calm.functions_are) (subst (AreDefined s.functions) (sym h.calm.definitions_are) sound.filed.defined);
  };
  agrees = λ name t' storage n is. subst (λ vs. VariableIs vs n t') (sym h.calm.variables_are) (sound.agrees name t' storage n (h.old name t' storage (Some n) is));
}

abbrev FilesItems : Seen → List Stmt → Seen → Type 0
FilesItems s items t = IsSound s → IsSound t

files_go_on : GoesOn FilesItems
files_go_on = record {
  same = λ s filed. filed;
  specified = λ s t b h. made_files AreSpecified s t b h;
  shaped = λ s t d h. made_files IsShaped s t d h;
  further = λ s t v xs ys back first second filed. second (first filed);
  named = λ s t names xs h sound. h (sound_noted s names sound);
}

-- a name that is declared without tables
typed_name : (s : Seen) (number : ℕ) (t : CType) → IsSound s → IsSound (record s { scopes = declare s.scopes number (TypeName t) })
typed_name s number t sound = record {
  filed = record {
    knows = λ u leads. each_declared (IsKnownEntity u) s.scopes number (TypeName t) (sound.filed.knows u leads) tt;
    bodied = sound.filed.bodied;
    valued = sound.filed.valued;
    defined = sound.filed.defined;
  };
  agrees = λ x u storage n is. of x u storage n (here_before s.scopes number (TypeName t) x (Variable u storage (Some n)) is);
}
  where
    of : (x : ℕ) (u : CType) (storage : Storage) (n : ℕ)
        → ((x ≡ number) × (TypeName t ≡ Variable u storage (Some n))) ⊎ ((nat_eq x number ≡ false) × (found_here s.scopes x ≡ Some (Variable u storage (Some n)))) → VariableIs s.variables n u
    of x u storage n (inl q) = let clash : TypeName t ≡ Variable u storage (Some n) = q.1 in absurd (cc)
    of x u storage n (inr q) = sound.agrees x u storage n q.1

no_initializer_left : (R : Seen → Type 0) (i : Option Init) (s : Seen) → Lawful s → R s → Left (λ (a : Unit {0}) t. R t) s (no_initializer i s)
no_initializer_left R None s lawful h = gives_left _ s tt lawful h
no_initializer_left R (Some i) s lawful h = fails_left s 9 _

typedef_left : (d : Named) (here : Option Entity) (s : Seen) → Lawful s → MakesFormed d.made s → Left (Files s) s (typedef_declared d here s)
unfolding typedef_declared and_then
typedef_left d here s lawful makes =
    faults_left s (is_other_type here d.made.kind) (d.made.mistyped || d.made.noreturn || d.specifiers.is_thread_local) d.made.conflicting
    (d.made.incomplete || is_unsized d.made.kind) d.name.start _ (λ a b c e.
    let formed = makes (first_of_three d.made.mistyped d.made.noreturn d.specifiers.is_thread_local b) (or_first d.made.incomplete (is_unsized d.made.kind) e) in
    then_left s (Good tt (record s { scopes = declare s.scopes d.number (TypeName d.made.kind) })) _
    (declared_left (λ (x : Unit {0}) t. Files s x t) s d.number (TypeName d.made.kind) tt lawful formed (typed_name s d.number d.made.kind)) (λ x t h.
    no_initializer_left (λ v. IsSound s → IsSound v) d.init t h.lawful h.known))

-- a function of this type
function_formed : (s : Seen) (d : Named) (f : FnType) → function_in d.made.kind ≡ Some f → MakesFormed d.made s → d.made.mistyped || d.specifiers.is_thread_local ≡ false
    → d.made.incomplete ≡ false → IsFormed s.structures (a_type.Function f)
function_formed s d f is makes mistyped incomplete =
    subst (IsFormed s.structures) (function_is d.made.kind f is) (makes (or_first d.made.mistyped d.specifiers.is_thread_local mistyped) incomplete)

function_named_left : (d : Named) (f : FnType) (here : Option Entity) (s : Seen) → Lawful s → MakesFormed d.made s → function_in d.made.kind ≡ Some f
    → Left (Files s) s (function_named d f here s)
unfolding function_named and_then
function_named_left d f here s lawful makes is =
    then_left s (function_declared (function_of d.name d.number d.specifiers d.made f false) here s) _
    (function_left (function_of d.name d.number d.specifiers d.made f false) s lawful (λ a b. function_formed s d f is makes a b) here) (λ n t h.
    no_initializer_left (λ v. IsSound s → IsSound v) d.init t h.lawful (λ sound. record { filed = h.known.filed sound.filed; agrees = h.known.agrees sound.agrees }))

-- Variables of file scope keep what is true there: what the laws below rest on.
abbrev pub VariablesKeep : Type 0
VariablesKeep = (d : Named) (here : Option Entity) (s : Seen) → Lawful s → MakesFormed d.made s → function_in d.made.kind ≡ None → found_here s.scopes d.number ≡ here
    → Left (λ (a : Unit {0}) t. Files s a t) s (variable_named d here s)

module _ (variables : VariablesKeep) where
  name_left : (d : Named) (found : Option FnType) (here : Option Entity) (s : Seen) → Lawful s → MakesFormed d.made s → function_in d.made.kind ≡ found → found_here s.scopes d.number ≡ here
      → Left (λ (a : Unit {0}) t. Files s a t) s (name_declared d found here s)
  name_left d (Some f) here s lawful makes is at = function_named_left d f here s lawful makes is
  name_left d None here s lawful makes is at = variables d here s lawful makes is at

  file_name_left : (d : Named) (s : Seen) → Lawful s → MakesFormed d.made s → Left (λ (a : Unit {0}) t. Files s a t) s (file_name d s)
  unfolding and_then
  file_name_left d s lawful makes = of d.specifiers.is_typedef
    where
      of : (test : Bool) → Left (λ (a : Unit {0}) t. Files s a t) s
          ((if test then typedef_declared d (found_here s.scopes d.number) else name_declared d (function_in d.made.kind) (found_here s.scopes d.number)) s)
      of true = typedef_left d (found_here s.scopes d.number) s lawful makes
      of false = name_left d (function_in d.made.kind) (found_here s.scopes d.number) s lawful makes refl refl

  silent_left : (next : Named → Seen → Read (Unit {0})) (d : Named) (s : Seen) → Left (λ (a : Unit {0}) t. Files s a t) s (next d s) → Left (FilesItems s) s (without_statements next d s)
  unfolding and_then
  silent_left next d s h = then_left s (next d s) _ h (λ a t g. gives_left (FilesItems s) t [] g.lawful g.known)

  file_declaration_left : (d : Decl) (s : Seen) → Lawful s → Left (λ (a : Unit {0}) t. Files s a t) s (file_declaration d s)
  unfolding file_declaration and_then
  file_declaration_left d s lawful =
      then_left s (declaration (without_statements file_name) d s) _
      (declaration_left FilesItems files_go_on (without_statements file_name) (λ n t t_lawful makes. silent_left file_name n t (file_name_left n t t_lawful makes)) d s lawful) (λ items t h.
      gives_left _ t tt h.lawful h.known)

-- What a declarator says of its own parameters.
with_function : (e : Effects) (more : List Effects) (g : FnType)
    → with_effects (e ∷ more) (a_type.Function g) ≡ a_type.Function (record g { effects = union (g.effects ∷ e ∷ more) })
unfolding with_effects hidden hidden-the_row-CType-0 shape-the_row-CType-0 hidden-the_row-CType-1 shape-the_row-CType-1
with_function e more g = refl

some_params : (f g : FnType) → Some g ≡ Some f → f.params ≡ g.params
some_params f g e = ap (λ (x : FnType). x.params) (same e)
  where
    same : Some g ≡ Some f → f ≡ g
    same e = cc

attributed_params : (more : List Effects) (g f : FnType) → function_in (attributed more (a_type.Function g)) ≡ Some f → f.params ≡ g.params
attributed_params [] g f is = some_params f g (sym (function_in-Function g) ∙ is)
attributed_params (e ∷ es) g f is =
    some_params f (record g { effects = union (g.effects ∷ e ∷ es) })
    (sym (function_in-Function (record g { effects = union (g.effects ∷ e ∷ es) })) ∙ ap function_in (sym (with_function e es g)) ∙ is)

-- the parameters of the declared function
pub record HasParameters (s : Seen) (f : FnType) (ps : List Parameter) : Type 0 where
  pub each : Each (IsParameter s.structures) ps
  pub same : f.params ≡ map (λ p. p.kind) ps

own_of : (s : Seen) (t : CType) (more : List Effects) (parts : List Part) (f : FnType) (ps : List Parameter) → Each (PartIsFormed s.structures) parts
    → own_parameters parts ≡ Some ps → function_in (attributed more (parts_type t parts)) ≡ Some f → HasParameters s f ps
own_of s t more [] f ps each own is = absurd (cc)
own_of s t more (PointerTo ∷ parts) f ps each own is = absurd (cc)
own_of s t more (ArrayOf n ∷ parts) f ps each own is = absurd (cc)
own_of s t more (FunctionOf qs attributes ∷ parts) f ps each own is =
    let same : qs ≡ ps = cc in
    record {
      each = subst (Each (IsParameter s.structures)) same each.0;
      same = attributed_params more _ f is ∙ ap (λ (rs : List Parameter). map (λ p. p.kind) rs) same;
    }

made_parameters : (s : Seen) (b : Specifiers) (d : Shape) (place : ℕ) (f : FnType) (ps : List Parameter) → IsShaped d s → (made s.structures b d place).parameters ≡ Some ps
    → function_in (made s.structures b d place).kind ≡ Some f → HasParameters s f ps
unfolding made
made_parameters s b d place f ps shaped own is = own_of s (base_type b) (effects_in b.attributes) d.parts f ps shaped own is

formed_result : (structures : List StructInfo) (found : Option FnType) (f : FnType) → found ≡ Some f → FunctionIsFormed structures found → IsFormed structures f.result
formed_result structures (Some g) f is h = let same : g ≡ f = cc in subst (λ (x : FnType). IsFormed structures x.result) same h.result
formed_result structures None f is h = absurd (cc)

-- a function that was declared gives a type that is formed
function_result : (structures : List StructInfo) (f : FnType) → IsFormed structures (a_type.Function f) → IsFormed structures f.result
function_result structures f formed = formed_result structures (function_in (a_type.Function f)) f (function_in-Function f) (function_in_formed structures (a_type.Function f) formed)

each_get_formed : (t : Seen) → Lawful t → {f : FnType} → {n : ℕ} → IsDeclaredAs f n t → IsFormed t.structures f.result
each_get_formed t lawful {f} {n} is =
    subst (IsFormed t.structures) is.result
    (function_result t.structures is.info.kind (each_get (IsDeclared t.structures) t.functions n is.info lawful.functions_formed is.known).formed)

-- definitions of functions
module _ (body : List BlockItem) (d : Named) (s : Seen) (lawful : Lawful s) (filed : IsSound s) (makes : MakesFormed d.made s)
    (own : (f : FnType) (ps : List Parameter) → d.made.parameters ≡ Some ps → function_in d.made.kind ≡ Some f → HasParameters s f ps) where
  defined_function : (f : FnType) (ps : List Parameter) (here : Option Entity) → function_in d.made.kind ≡ Some f → d.made.parameters ≡ Some ps
      → Left (λ (a : Unit {0}) t. IsSound t) s (defined_as d (Some f) (Some ps) (block_items body) here s)
  unfolding and_then
  defined_function f ps here is parameters =
      then_left s (function_declared (function_of d.name d.number d.specifiers d.made f true) here s) _
      (function_left (function_of d.name d.number d.specifiers d.made f true) s lawful (λ a b. function_formed s d f is makes a b) here) (λ n t h.
      let has = own f ps parameters is in
      let formed = formed_part f is t h in
      left_as (λ (a : Unit {0}) v. Ends t v) (λ a v. IsSound v) t _
      (body_left t h.lawful (h.known.filed filed.filed) n f ps (block_items body) h.known.is (h.known.fresh refl) formed
      (each_as (IsParameter s.structures) (IsParameter t.structures) ps (λ p q. parameter_stays s.structures t.structures p h.stay lawful.open_are_empty q) has.each) has.same
      (λ v v_inside. block_items_left f.result body v v_inside)) (λ a v g. record { filed = g.known.0; agrees = g.known.1 (h.known.agrees filed.agrees) }))
    where
      formed_part : (f : FnType) → function_in d.made.kind ≡ Some f → (t : Seen) → {n : ℕ} → Leaves (DeclaresFunction f true s) s n t → IsFormed t.structures f.result
      formed_part f is t h = each_get_formed t h.lawful h.known.is

  undefined : (f : Bool) (here : Option Entity) → Left (λ (a : Unit {0}) t. IsSound t) s (not_defined d.name f here s)
  unfolding and_then
  undefined f here = refused_left s (is_redefined s.functions f here) 2 d.name.start _ (λ e. fails_left s 3 d.name.start)

  as_left : (found : Option FnType) (given : Option (List Parameter)) (here : Option Entity) → function_in d.made.kind ≡ found → d.made.parameters ≡ given
      → Left (λ (a : Unit {0}) t. IsSound t) s (defined_as d found given (block_items body) here s)
  as_left (Some f) (Some ps) here is parameters = defined_function f ps here is parameters
  as_left (Some f) None here is parameters = undefined true here
  as_left None (Some ps) here is parameters = undefined false here
  as_left None None here is parameters = undefined false here

  defined_name_left : Left (λ (a : Unit {0}) t. IsSound t) s (defined_name (block_items body) d s)
  unfolding defined_name and_then
  defined_name_left = of d.specifiers.is_typedef
    where
      here : Option Entity
      here = found_here s.scopes d.number

      of : (test : Bool) → Left (λ (a : Unit {0}) t. IsSound t) s
          ((if test then typedef_defined d.name d.made here else defined_as d (function_in d.made.kind) d.made.parameters (block_items body) here) s)
      of true = refused_left s (is_other_type here d.made.kind) 2 d.name.start _ (λ e. fails_left s 3 d.name.start)
      of false = as_left (function_in d.made.kind) d.made.parameters here refl refl

named_definition_left : (body : List BlockItem) (b : Specifiers) (d : Shape) (name : Option Span) (s : Seen) → Lawful s → IsSound s → AreSpecified b s → IsShaped d s
    → Left (λ (items : List Stmt) t. IsSound t) s (named_at b d None (without_statements (defined_name (block_items body))) name s)
unfolding and_then name_number
named_definition_left body b d None s lawful filed specified shaped = gives_left _ s [] lawful filed
named_definition_left body b d (Some name) s lawful filed specified shaped =
    let names = noted s.names (text_of s.source name) in
    let number = number_of s.names (text_of s.source name) in
    let after = record s { names = names } in
    let n : Named = record { name = name; number = number; specifiers = b; made = made s.structures b d name.start; init = None } in
    noted_left s names _
    (then_left after (defined_name (block_items body) n after) _
    (defined_name_left body n after lawful (sound_noted s names filed) (made_is_formed s b d name.start lawful.complete_have_words specified shaped)
    (λ f ps own is. of_noted names f ps (made_parameters s b d name.start f ps shaped own is))) (λ a t h. gives_left _ t [] h.lawful h.known))
  where
    of_noted : (names : List (List ℕ)) (f : FnType) (ps : List Parameter) → HasParameters s f ps → HasParameters (record s { names = names }) f ps
    of_noted names f ps h = record { each = h.each; same = h.same }

pub definition_left : (f : FunctionDefinition) (s : Seen) → Lawful s → IsSound s → Left (λ (a : Unit {0}) t. IsSound t) s (definition block_items f s)
unfolding definition and_then
definition_left f s lawful filed =
    then_left s (all_specifiers f.specs no_specifiers s) _ (left_of Always AreSpecified Silent s _ (all_specifiers_keep f.specs no_specifiers s lawful (none_formed s))) (λ b t h.
    then_left t (declarator f.declarator t) _ (left_of Always IsShaped Silent t _ (declarator_keeps f.declarator t h.lawful)) (λ d v g.
    let v_filed = made_files IsShaped t v d g.known (made_files AreSpecified s t b h.known filed) in
    then_left v (named_by b d None (without_statements (defined_name (block_items f.body))) v) _
    (named_definition_left f.body b d d.name v g.lawful v_filed (specified_stays b t v g.stay h.lawful.open_are_empty h.known.known) g.known.known) (λ items w k.
    gives_left _ w tt k.lawful k.known)))

-- all declarations and definitions
module _ (variables : VariablesKeep) where
  external_left : (e : External) (s : Seen) → Lawful s → IsSound s → Left (λ (a : Unit {0}) t. IsSound t) s (external_read e s)
  external_left (external.Declaration d) s lawful filed =
      left_as (λ (a : Unit {0}) t. Files s a t) (λ a t. IsSound t) s _ (file_declaration_left variables d s lawful) (λ a t h. h.known filed)
  external_left (external.Function f) s lawful filed = definition_left f s lawful filed

  pub externals_left : (es : List External) (s : Seen) → Lawful s → IsSound s → Left (λ (a : Unit {0}) t. IsSound t) s (externals es s)
  unfolding and_then
  externals_left [] s lawful filed = gives_left _ s tt lawful filed
  externals_left (e ∷ es) s lawful filed =
      then_left s (external_read e s) _ (external_left e s lawful filed) (λ a t h.
      left_as (λ (b : Unit {0}) v. IsSound v) (λ b v. IsSound v) t _ (externals_left es t h.lawful h.known) (λ b v g. g.known))
