-- Declarations by their parts: what holds of each declared name holds of them all.
use Rattle.std.proofs.Common.{◌≡◌, ℕ, Bool, true, refl, sym, ◌∙◌, ap, List, [], ◌∷◌, ◌++◌, append_assoc, Option, Some, None}
use Rattle.std.specs.Prelude.{◌&&◌}
use Rattle.scopes.specs.Number.{number_of, noted}
use Rattle.c_tree.specs.declared.declarations.Decl.{Decl}
use Rattle.c_tree.specs.declared.declarations.Init.{Init}
use Rattle.c_tree.specs.declared.declarations.InitDeclarator.{InitDeclarator}
use Rattle.c_tree.specs.declared.expressions.Spec.{Spec}
use Rattle.c_tree.specs.declared.words.Span.{Span}
use Rattle.core_unit.specs.Layout.{automatics, list_automatics}
use Rattle.core_unit.specs.Typed.{Tables, ListIsTyped, is_variable}
use Rattle.core_unit.specs.declared.body.Stmt.{Stmt}
use Rattle.core_unit.specs.declared.tables.StructInfo.{StructInfo}
use Rattle.eff_types.specs.declared.types.CType.{CType}
use Rattle.type_rules.specs.Declarations.{all_specifiers, Named, named_at, init_declarator, is_bare, is_attributed, init_declarators, declaration, block_name, block_declaration}
use Rattle.type_rules.specs.Declarators.{made}
use Rattle.type_rules.specs.Reading.{Read, and_then, text_of, name_number}
use Rattle.type_rules.specs.Recursion.{specifier, declarator}
use Rattle.type_rules.specs.Seen.{Seen}
use Rattle.type_rules.specs.Specifiers.{no_specifiers}
use Rattle.type_rules.specs.declared.declarators.Shape.{Shape}
use Rattle.type_rules.specs.declared.specifiers.Specifiers.{Specifiers}
use Rattle.type_laws.proofs.Blocks.{DeclaresVariables, AlwaysTyped, block_name_left}
use Rattle.type_laws.proofs.Declared.{AreSpecified, IsShaped, MakesFormed, made_is_formed}
use Rattle.type_laws.proofs.Declarators.{specified_stays}
use Rattle.type_laws.proofs.Each.{each_joined}
use Rattle.type_laws.proofs.Growing.{NoAutos, grows_of_made, grows_then, grows_as, grows_same}
use Rattle.type_laws.proofs.Left.{Left, then_left, gives_left, left_as, left_of, refused_left}
use Rattle.type_laws.proofs.Specifying.{Silent, none_formed}
use Rattle.type_laws.proofs.Steps.{noted_left}
use Rattle.type_laws.proofs.Trees.{specifier_keeps, declarator_keeps}
use Rattle.type_laws.proofs.Triples.{Lawful, Leads, Made, Triple, Always, then_keeps, gives_keeps, anyway}

pub all_specifiers_keep : (specs : List Spec) (b : Specifiers) (s : Seen) → Lawful s → AreSpecified b s → Triple Always AreSpecified Silent s (all_specifiers specs b s)
unfolding and_then
all_specifiers_keep [] b s lawful known = gives_keeps s b lawful known (λ u leads knows p. tt)
all_specifiers_keep (x ∷ xs) b s lawful known =
    then_keeps s (specifier x b s) _ (specifier_keeps x b s lawful known) (λ next t t_lawful t_stay next_known. anyway t _ (all_specifiers_keep xs next t t_lawful next_known))

-- `R`: what declared names leave, which goes on from one to the next
pub record GoesOn (R : Seen → List Stmt → Seen → Type 0) : Type 0 where
  pub same : (s : Seen) → R s [] s
  pub specified : (s t : Seen) (b : Specifiers) → Made Always AreSpecified Silent s b t → R s [] t
  pub shaped : (s t : Seen) (d : Shape) → Made Always IsShaped Silent s d t → R s [] t
  pub further : (s t v : Seen) (xs ys : List Stmt) → ((u : Tables) → Leads v u → Leads t u) → R s xs t → R t ys v → R s (xs ++ ys) v
  pub named : (s t : Seen) (names : List (List ℕ)) (xs : List Stmt) → R (record s { names = names }) xs t → R s xs t

module _ (R : Seen → List Stmt → Seen → Type 0) (goes : GoesOn R) (next : Named → Seen → Read (List Stmt))
    (next_left : (d : Named) (s : Seen) → Lawful s → MakesFormed d.made s → Left (R s) s (next d s)) where
  at_left : (b : Specifiers) (d : Shape) (i : Option Init) (name : Option Span) (s : Seen) → Lawful s → AreSpecified b s → IsShaped d s → Left (R s) s (named_at b d i next name s)
  unfolding and_then name_number
  at_left b d i None s lawful specified shaped = gives_left (R s) s [] lawful (goes.same s)
  at_left b d i (Some name) s lawful specified shaped =
      let names = noted s.names (text_of s.source name) in
      let number = number_of s.names (text_of s.source name) in
      let m = made s.structures b d name.start in
      noted_left s names _ (left_as (R (record s { names = names })) (R s) (record s { names = names }) _
      (next_left (record { name = name; number = number; specifiers = b; made = m; init = i }) (record s { names = names }) lawful
      (made_is_formed s b d name.start lawful.complete_have_words specified shaped)) (λ xs t h. goes.named s t names xs h.known))

  declarator_left : (b : Specifiers) (d : InitDeclarator) (s : Seen) → Lawful s → AreSpecified b s → Left (R s) s (init_declarator b next d s)
  unfolding init_declarator and_then
  declarator_left b d s lawful specified =
      then_left s (declarator d.declarator s) _ (left_of Always IsShaped Silent s _ (declarator_keeps d.declarator s lawful)) (λ shape t h.
      left_as (R t) (R s) t _ (at_left b shape d.init shape.name t h.lawful (specified_stays b s t h.stay lawful.open_are_empty specified) h.known.known) (λ xs v g.
      goes.further s t v [] xs g.back (goes.shaped s t shape h.known) g.known))

  declarators_left : (b : Specifiers) (ds : List InitDeclarator) (s : Seen) → Lawful s → AreSpecified b s → Left (R s) s (init_declarators b next ds s)
  unfolding and_then
  declarators_left b [] s lawful specified = gives_left (R s) s [] lawful (goes.same s)
  declarators_left b (d ∷ ds) s lawful specified =
      then_left s (init_declarator b next d s) _ (declarator_left b d s lawful specified) (λ xs t h.
      then_left t (init_declarators b next ds t) _ (declarators_left b ds t h.lawful (specified_stays b s t h.stay lawful.open_are_empty specified)) (λ ys v g.
      gives_left _ v (xs ++ ys) g.lawful (goes.further s t v xs ys g.back h.known g.known)))

  pub declaration_left : (d : Decl) (s : Seen) → Lawful s → Left (R s) s (declaration next d s)
  unfolding declaration and_then
  declaration_left d s lawful =
      then_left s (all_specifiers d.specs no_specifiers s) _ (left_of Always AreSpecified Silent s _ (all_specifiers_keep d.specs no_specifiers s lawful (none_formed s))) (λ b t h.
      refused_left t (is_bare d.declarators && is_attributed b) 3 d.place _ (λ e.
      left_as (R t) (R s) t _ (declarators_left b d.declarators t h.lawful h.known.known) (λ xs v g.
      goes.further s t v [] xs g.back (goes.specified s t b h.known) g.known)))

-- lists of statements
pub autos_joined : (structures : List StructInfo) (xs ys : List Stmt) → list_automatics structures (xs ++ ys) ≡ list_automatics structures xs ++ list_automatics structures ys
autos_joined structures [] ys = refl
autos_joined structures (x ∷ xs) ys =
    ap (λ rest. automatics structures x ++ rest) (autos_joined structures xs ys) ∙ sym (append_assoc (automatics structures x) (list_automatics structures xs) (list_automatics structures ys))

pub typed_joined : (u : Tables) (r : CType) (looped : Bool) (xs ys : List Stmt) → ListIsTyped u r looped xs → ListIsTyped u r looped ys → ListIsTyped u r looped (xs ++ ys)
typed_joined u r looped [] ys p q = q
typed_joined u r looped (x ∷ xs) ys p q = (p.0, typed_joined u r looped xs ys p.1 q)

none_declared : {A : Type 0} (K : A → Seen → Type 0) (s t : Seen) (a : A) → Made Always K Silent s a t → DeclaresVariables s [] t
none_declared K s t a h = record {
  declares = grows_as Always Always NoAutos (λ structures. list_automatics structures []) (Silent a) (AlwaysTyped []) s t (λ u leads small p. p) (λ u leads. refl) (λ u leads small p q r looped. tt)
      (grows_of_made K Silent s a t h);
  variables = tt;
}

declares_further : (s t v : Seen) (xs ys : List Stmt) → ((u : Tables) → Leads v u → Leads t u) → DeclaresVariables s xs t → DeclaresVariables t ys v → DeclaresVariables s (xs ++ ys) v
declares_further s t v xs ys back first second = record {
  declares = grows_as Always Always (λ structures. list_automatics structures xs ++ list_automatics structures ys) (λ structures. list_automatics structures (xs ++ ys))
      (λ u. AlwaysTyped xs u × AlwaysTyped ys u) (AlwaysTyped (xs ++ ys)) s v (λ u leads small p. p) (λ u leads. sym (autos_joined u.structures xs ys))
      (λ u leads small p q r looped. typed_joined u r looped xs ys (q.0 r looped) (q.1 r looped))
      (grows_then Always (λ structures. list_automatics structures xs) (λ structures. list_automatics structures ys) (AlwaysTyped xs) (AlwaysTyped ys) s t v back first.declares
      (grows_as (λ u. Always u × AlwaysTyped xs u) Always (λ structures. list_automatics structures ys) (λ structures. list_automatics structures ys) (AlwaysTyped ys) (AlwaysTyped ys) t v
      (λ u leads small p. tt) (λ u leads. refl) (λ u leads small p q. q) second.declares));
  variables = each_joined (λ x. is_variable x ≡ true) xs ys first.variables second.variables;
}

declares_named : (s t : Seen) (names : List (List ℕ)) (xs : List Stmt) → DeclaresVariables (record s { names = names }) xs t → DeclaresVariables s xs t
declares_named s t names xs h = record {
  declares = record { steady = h.declares.steady; few = h.declares.few; laid = h.declares.laid; tables = h.declares.tables; values = h.declares.values };
  variables = h.variables;
}

block_goes_on : GoesOn DeclaresVariables
block_goes_on = record {
  same = λ s. record {
    declares = grows_same Always s (AlwaysTyped []) (λ u p r looped. tt);
    variables = tt;
  };
  specified = λ s t b h. none_declared AreSpecified s t b h;
  shaped = λ s t d h. none_declared IsShaped s t d h;
  further = declares_further;
  named = declares_named;
}

pub block_declaration_left : (d : Decl) (s : Seen) → Lawful s → Left (DeclaresVariables s) s (block_declaration d s)
unfolding block_declaration
block_declaration_left d s lawful = declaration_left DeclaresVariables block_goes_on block_name (λ n t t_lawful makes. block_name_left n t t_lawful makes) d s lawful
