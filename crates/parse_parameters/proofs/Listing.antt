-- Parameters and type names: each rule as an equation.
use Rattle.std.proofs.Common.{◌≡◌, refl, ℕ, suc, ◌-◌, ◌<◌, ◌≤◌, max, Bool, true, false, cond, ◌||◌, List, [], ◌∷◌, ◌++◌, length, map, Option, Some, None, ap, sym, ◌∙◌, append_assoc, arith}
use Rattle.grammar.specs.Parts.{Return, Take, Call, Either}
use Rattle.grammar.specs.Parser.{Outcome, Got, Bad, after, deepen}
use Rattle.c_tree.specs.declared.expressions.Spec.{Spec}
use Rattle.c_grammar.specs.declared.terminal.Terminal.TheVariants as k
use Rattle.c_grammar.specs.Lexemes.{Lexeme, is}
use Rattle.c_grammar.specs.declared.state.SpecifierContext.{SpecifierContext}
use Rattle.c_grammar.specs.declared.state.SpecifierContext.TheVariants.{«Type» as TypeContext}
use Rattle.c_grammar.specs.declared.state.DeclaratorKind.TheVariants.{Parameter as ParameterKind}
use Rattle.c_grammar.specs.Rules.{Scope, SpecsRead, DeclaratorRead, ParamsRead, Specs, Declarator, Params, ParamList, TypeName}
use Rattle.c_grammar.specs.Specifiers.{no_specs, type_name, after as behind_specs}
use Rattle.c_grammar.specs.Declarators.{param, join, with_name, add_param, no_params, params, param_list, hide}
use Rattle.c_grammar.specs.Lookahead.{starts_specs}
use Rattle.parse_input.specs.Input.{behind, sees, cut_scope}
use Rattle.parse_input.specs.Reads.{named, reads}
use Rattle.parse_input.proofs.Steps.{plain_rule, reads_shorter, sees_less}
use Rattle.parse_declared.specs.Parameters.{ParamRead, one_param, with_param, behind_params}
use Rattle.parse_input.proofs.Choices.{sees_first, passed}

pub a_type_name : (room : ℕ) (s : Scope) (ts : List Lexeme) → named room (TypeName s) ts ≡ reads (named room) (type_name s) ts
a_type_name room s ts = plain_rule room (TypeName s) ts (type_name s) refl

pub params_rule : (room : ℕ) (s : Scope) (ts : List Lexeme)
    → named room (Params s) ts ≡ cond (sees (starts_specs TypeContext s no_specs) ts) (named room (ParamList TypeContext s []) ts) (Got no_params 0 ts)
params_rule room s ts =
    plain_rule room (Params s) ts (params s) refl
    ∙ ap (λ o. cond (sees (λ t. starts_specs TypeContext s no_specs t || false) ts) o (Got no_params 0 ts)) (passed (named room (ParamList TypeContext s []) ts))
    ∙ ap (λ b. cond b (named room (ParamList TypeContext s []) ts) (Got no_params 0 ts))
    (sees_first (starts_specs TypeContext s no_specs) ts)

-- one parameter, and those behind it
abbrev next : ℕ → Scope → ParamRead → ℕ → List Lexeme → Outcome Lexeme ParamsRead
next room s p d left =
    cond (sees (is k.Comma) left) (behind_params (with_param no_params p) d (named room (ParamList TypeContext (hide p.name s) []) (behind left)))
    (Got (with_param no_params p) d left)

abbrev one : List Spec → DeclaratorRead → ParamRead
one specs y = record { param = param specs y; name = y.name }

names_first : (name : Option (List ℕ)) (more : List (List ℕ)) → with_name name more ≡ with_name name [] ++ more
names_first None more = refl
names_first (Some x) more = refl

module _ (d e : ℕ) (specs : List Spec) (y : DeclaratorRead) (left : List Lexeme) where
  ends_or_goes : (c : Bool) (q : Outcome Lexeme ParamsRead)
      → deepen d (deepen e (cond c (after (λ more f us. deepen f (Got (add_param specs y more) 0 us)) q) (Got (add_param specs y no_params) 0 left)))
      ≡ cond c (behind_params (with_param no_params (one specs y)) (max d (max e 0)) q)
      (Got (with_param no_params (one specs y)) (max d (max e 0)) left)
  ends_or_goes false q = refl
  ends_or_goes true (Bad deep us) = refl
  ends_or_goes true (Got more f us) =
      let deeper : max d (max e (max f 0)) ≡ max (max d (max e 0)) f = omega arith in
      ap (λ n. Got (add_param specs y more) n us) deeper
      ∙ ap (λ names. Got (record { params = param specs y ∷ more.params; names = names }) (max (max d (max e 0)) f) us) (names_first y.name more.names)

module _ (room : ℕ) (s : Scope) (before : List Spec) where
  -- behind a declarator
  abbrev rest : List Spec → DeclaratorRead → List Lexeme → Outcome Lexeme ParamsRead
  rest specs y left =
      reads (named room) (Either (Take (is k.Comma) (λ c. Call (ParamList TypeContext (hide y.name s) []) (λ more. Return (add_param specs y more))))
      (Return (add_param specs y no_params))) left

  rest_is : (d e : ℕ) (specs : List Spec) (y : DeclaratorRead) (left : List Lexeme)
      → deepen d (deepen e (rest specs y left)) ≡ next room s (one specs y) (max d (max e 0)) left
  rest_is d e specs y left = go (sees (is k.Comma) left)
    where
      go : (c : Bool)
          → deepen d (deepen e (cond c (cond c (after (λ more f us. deepen f (Got (add_param specs y more) 0 us)) (named room (ParamList TypeContext (hide y.name s) []) (behind left)))
          (Bad false left)) (Got (add_param specs y no_params) 0 left)))
          ≡ cond c (behind_params (with_param no_params (one specs y)) (max d (max e 0)) (named room (ParamList TypeContext (hide y.name s) []) (behind left)))
          (Got (with_param no_params (one specs y)) (max d (max e 0)) left)
      go true = ends_or_goes d e specs y left true (named room (ParamList TypeContext (hide y.name s) []) (behind left))
      go false = refl

  behind_declarator : (d : ℕ) (specs : List Spec) (o : Outcome Lexeme DeclaratorRead)
      → deepen d (after (λ y e left. deepen e (rest specs y left)) o)
      ≡ after (λ p e left. next room s p e left) (deepen d (after (λ y e left. deepen e (Got (one specs y) 0 left)) o))
  behind_declarator d specs (Got y e left) = rest_is d e specs y left
  behind_declarator d specs (Bad deep left) = refl

  behind_specifiers : (o : Outcome Lexeme SpecsRead)
      → after (λ x d us. deepen d (after (λ y e left. deepen e (rest (join before x.specs) y left)) (named room (Declarator s ParameterKind (behind_specs x.bracket)) us))) o
      ≡ after (λ p e left. next room s p e left)
      (after (λ x d us. deepen d (after (λ y e left. deepen e (Got (one (join before x.specs) y) 0 left)) (named room (Declarator s ParameterKind (behind_specs x.bracket)) us))) o)
  behind_specifiers (Got x d us) = behind_declarator d (join before x.specs) (named room (Declarator s ParameterKind (behind_specs x.bracket)) us)
  behind_specifiers (Bad deep us) = refl

  list_rule : (context : SpecifierContext) (ts : List Lexeme)
      → named room (ParamList context s before) ts ≡ after (λ p e left. next room s p e left) (reads (named room) (one_param context s before) ts)
  list_rule context ts =
      plain_rule room (ParamList context s before) ts (param_list context s before) refl ∙ behind_specifiers (named room (Specs context s no_specs) ts)

behind_none : (o : Outcome Lexeme ParamsRead) → o ≡ behind_params no_params 0 o
behind_none (Got x d left) = let same : d ≡ max 0 d = omega arith in ap (λ n. Got x n left) same
behind_none (Bad deep left) = refl

behind_both : (a : ParamsRead) (p : ParamRead) (d e : ℕ) (o : Outcome Lexeme ParamsRead)
    → behind_params a d (behind_params (with_param no_params p) e o) ≡ behind_params (with_param a p) (max d e) o
behind_both a p d e (Bad deep left) = refl
behind_both a p d e (Got x f left) =
    let same : max d (max e f) ≡ max (max d e) f = omega arith in
    ap (λ n. Got (record { params = a.params ++ (p.param ∷ x.params); names = a.names ++ (with_name p.name [] ++ x.names) }) n left) same
    ∙ ap (λ ps. Got (record { params = ps; names = a.names ++ (with_name p.name [] ++ x.names) }) (max (max d e) f) left) (sym (append_assoc a.params (p.param ∷ []) x.params))
    ∙ ap (λ ns. Got (record { params = (a.params ++ p.param ∷ []) ++ x.params; names = ns }) (max (max d e) f) left) (sym (append_assoc a.names (with_name p.name []) x.names))

pub list_begins : (room : ℕ) (context : SpecifierContext) (s : Scope) (before : List Spec) (ts : List Lexeme)
    → named room (ParamList context s before) ts ≡ behind_params no_params 0 (named room (ParamList context s before) ts)
list_begins room context s before ts = behind_none (named room (ParamList context s before) ts)

-- the outcome of the whole list, by the parameters so far and the rest
module _ (room : ℕ) (whole : Outcome Lexeme ParamsRead) (list : ParamsRead) (d : ℕ) (context : SpecifierContext) (s : Scope) (before : List Spec) (ts : List Lexeme)
    (so_far : whole ≡ behind_params list d (named room (ParamList context s before) ts)) where
  list_next : (o : Outcome Lexeme ParamRead) → reads (named room) (one_param context s before) ts ≡ o
      → whole ≡ behind_params list d (after (λ p e left. next room s p e left) o)
  list_next o h = so_far ∙ ap (λ q. behind_params list d q) (list_rule room s before context ts ∙ ap (λ q. after (λ p e left. next room s p e left) q) h)

  pub list_stops : (deep : Bool) (us : List Lexeme) → reads (named room) (one_param context s before) ts ≡ Bad deep us → whole ≡ Bad deep us
  list_stops deep us h = list_next (Bad deep us) h

  module _ (p : ParamRead) (e : ℕ) (us : List Lexeme) (h : reads (named room) (one_param context s before) ts ≡ Got p e us) where
    pub list_goes : sees (is k.Comma) us ≡ true
        → whole ≡ behind_params (with_param list p) (max d e) (named room (ParamList TypeContext (hide p.name s) []) (behind us))
    list_goes c =
        list_next (Got p e us) h
        ∙ ap (λ b. behind_params list d (cond b (behind_params (with_param no_params p) e (named room (ParamList TypeContext (hide p.name s) []) (behind us)))
        (Got (with_param no_params p) e us))) c
        ∙ behind_both list p d e (named room (ParamList TypeContext (hide p.name s) []) (behind us))

    pub list_ends : sees (is k.Comma) us ≡ false → whole ≡ Got (with_param list p) (max d e) us
    list_ends c =
        list_next (Got p e us) h
        ∙ ap (λ b. behind_params list d (cond b (behind_params (with_param no_params p) e (named room (ParamList TypeContext (hide p.name s) []) (behind us)))
        (Got (with_param no_params p) e us))) c

    -- the same at what the code has
    pub goes_on : (list' : ParamsRead) (d' : ℕ) (s' : Scope) (before' : List Spec) (ts' : List Lexeme) → sees (is k.Comma) us ≡ true
        → list' ≡ with_param list p → d' ≡ max d e → s' ≡ hide p.name s → before' ≡ [] → ts' ≡ behind us
        → whole ≡ behind_params list' d' (named room (ParamList TypeContext s' before') ts')
    goes_on list' d' s' before' ts' c same_list same_depth same_scope none rest = rw (same_list, same_depth, same_scope, none, rest) (list_goes c)

    pub ends_so : (list' : ParamsRead) (d' : ℕ) (us' : List Lexeme) → sees (is k.Comma) us ≡ false
        → list' ≡ with_param list p → d' ≡ max d e → us' ≡ us → whole ≡ Got list' d' us'
    ends_so list' d' us' c same_list same_depth rest = rw (same_list, same_depth, rest) (list_ends c)

-- hidden names are forgotten
pub cut_all : (s : Scope) → cut_scope (length s.types) s ≡ s
cut_all s = let none : length s.types - length s.types ≡ 0 = omega arith in rw none refl

pub cut_hidden : (m : ℕ) (name : Option (List ℕ)) (s : Scope) → m ≤ length s.types → cut_scope m (hide name s) ≡ cut_scope m s
cut_hidden m None s l = refl
cut_hidden m (Some name) s l = let one_more : suc (length s.types) - m ≡ suc (length s.types - m) = omega arith in rw one_more refl

pub mark_hidden : (m : ℕ) (name : Option (List ℕ)) (s : Scope) → m ≤ length s.types → m ≤ length (hide name s).types
mark_hidden m None s l = l
mark_hidden m (Some name) s l = omega arith

pub comma_less : (room : ℕ) (context : SpecifierContext) (s : Scope) (before : List Spec) (ts : List Lexeme) (p : ParamRead) (e : ℕ) (us vs : List Lexeme)
    → reads (named room) (one_param context s before) ts ≡ Got p e us → sees (is k.Comma) us ≡ true → vs ≡ behind us → length vs < length ts
comma_less room context s before ts p e us vs h c v =
    let short = reads_shorter room (one_param context s before) ts p e us h in
    let fewer = sees_less (is k.Comma) us c in
    let same = ap length v in
    omega arith

pub cut_on : (m : ℕ) (name : Option (List ℕ)) (s s' before : Scope) → s' ≡ hide name s → cut_scope m s ≡ before → m ≤ length s.types → cut_scope m s' ≡ before
cut_on m name s s' before e c l = ap (λ scope. cut_scope m scope) e ∙ cut_hidden m name s l ∙ c

pub mark_on : (m : ℕ) (name : Option (List ℕ)) (s s' : Scope) → s' ≡ hide name s → m ≤ length s.types → m ≤ length s'.types
mark_on m name s s' e l = rw e (mark_hidden m name s l)
