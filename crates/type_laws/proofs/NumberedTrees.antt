-- The calls of an expression have consecutive numbers, those that begin at its first token first.
use Rattle.std.proofs.Common.{ℕ, ◌+◌, ◌<◌, ◌≤◌, Bool, true, false, refl, sym, subst, List, [], Option, Some, arith}
use Rattle.std.proofs.lemmas.List.{append-nil}
use Rattle.c_tree.specs.declared.expressions.Declarator as of_declarator
use Rattle.c_tree.specs.declared.expressions.Declarator.{Declarator, Row_of-Declarator, end_of-Declarator, more_of-Declarator, Held-Declarator-Array-2}
use Rattle.c_tree.specs.declared.expressions.Expr as expr
use Rattle.c_tree.specs.declared.expressions.Expr.{Expr, Row_of-Expr, end_of-Expr, more_of-Expr, end_of-TypeName, more_of-TypeName}
use Rattle.c_tree.specs.declared.expressions.Parameters as params
use Rattle.c_tree.specs.declared.expressions.Parameters.{Parameters, Row_of-Param, end_of-Param, more_of-Param}
use Rattle.c_tree.specs.declared.expressions.Spec as spec
use Rattle.c_tree.specs.declared.expressions.Spec.{Spec, Row_of-Spec, end_of-Spec, more_of-Spec, Row_of-Member, end_of-Member, more_of-Member, Row_of-Enumerator, end_of-Enumerator, more_of-Enumerator}
use Rattle.tree_order.specs.Stands.{Then, Behind, ExprStands, ExprsStand}
use Rattle.core_unit.specs.declared.tables.MemberInfo.{MemberInfo}
use Rattle.type_rules.specs.Calls.{spine}
use Rattle.type_rules.specs.Declarators.{member, parameter}
use Rattle.type_rules.specs.Reading.{Read, and_then}
use Rattle.type_rules.specs.Recursion.{value, arguments, specifiers, specifier, member_lines, members, enumerators, declarator, parameter_list, parameters, expression, written as written_of}
use Rattle.type_rules.specs.Seen.{Seen}
use Rattle.type_rules.specs.Specifiers.{no_specifiers, enumerator}
use Rattle.type_rules.specs.declared.declarators.Parameter.{Parameter}
use Rattle.type_rules.specs.declared.found.Found.{Found}
use Rattle.type_rules.specs.declared.found.Operand.{Operand}
use Rattle.type_rules.specs.declared.specifiers.Specifiers.{Specifiers}
use Rattle.type_laws.proofs.Numbered.{Reads, then_idle, gives_reads, reads_as, found_spots, given_spots}
use Rattle.type_laws.proofs.NumberedAccess.{access_reads, sizes_of_types_read, unaries_read, postfixes_read, elements_read, assignments_read}
use Rattle.type_laws.proofs.NumberedCalls.{IsMore, argument_reads, calls_read, casts_read, character_reads, fresh_reads, name_reads, number_reads, parenthesised_reads, text_reads}
use Rattle.type_laws.proofs.NumberedOperators.{ReadsFrom, operations_read, choices_read}
use Rattle.type_laws.proofs.NumberedTypes.{AlwaysIdle, WrittenIsCounted, typedef_idle, structure_name_idle, structure_idle, enumeration_name_idle, enumeration_idle, enumerator_idle, pointer_idle, array_idle, function_idle, parameter_idle, type_name_idle, member_idle}
use Rattle.type_laws.proofs.Progress.{Progress, progress, RunAt, CountedAt, SpineAt, counted_at, none_at, joined_at, spine_none_at, token_at, token_use_at, spine_of_run_at, two_at, three_at, call_at}
use Rattle.type_laws.proofs.SiteRanges.{CalledFrom, Token}

-- an expression that stands behind the first token of another, of which it is the whole
inside : (stands : ℕ → ℕ → Type 0) (first : ℕ) (n : Progress) (r : Read Found) → Reads found_spots (RunAt stands n) r → Reads found_spots (SpineAt (Behind stands) first 0 n) r
inside stands first n r h = reads_as r h (λ f m run. spine_of_run_at stands first n (found_spots f) m run)

-- the arguments of a call are all that were read
given_alone : (stands : ℕ → ℕ → Type 0) (n : Progress) (r : Read (List Operand)) → Reads given_spots (IsMore [] (RunAt stands n)) r → Reads given_spots (RunAt stands n) r
given_alone stands n r h = reads_as r h (λ given m x. subst (λ xs. RunAt stands n xs m) (sym x.is) x.holds)

counted : (stands : ℕ → ℕ → Type 0) (n : Progress) (r : Read Found) → Reads found_spots (RunAt stands n) r → Reads found_spots (CountedAt n) r
counted stands n r h = reads_as r h (λ f m run. counted_at stands n (found_spots f) m run)

further : (a b c : ℕ) → a < b → b < c → a < c
further a b c p q = omega (arith, p, q)

no_nearer : (a b c : ℕ) → a < b → b ≤ c → a < c
no_nearer a b c p q = omega (arith, p, q)

at_least : (a b c : ℕ) → a < b → b ≤ c → a ≤ c
at_least a b c p q = omega (arith, p, q)

-- An expression has a first token.
mutual
  unfolding ExprStands

  pub expr_long : (e : Expr) (from to : ℕ) → ExprStands e from to → from < to
  expr_long (expr.Name at) from to h = h
  expr_long (expr.Number at) from to h = h
  expr_long (expr.Character at) from to h = h
  expr_long (expr.Text strings) from to h = h
  expr_long (expr.SizeofType' place _ name) from to h = h
  expr_long (expr.Parenthesised' place _ (more_of-Expr e end_of-Expr)) from to h = further from h.0 to h.1 (expr_long e h.0 to h.2)
  expr_long (expr.Index' place _ (more_of-Expr a end_of-Expr) _ (more_of-Expr i end_of-Expr)) from to h = further from h.0 to (expr_long a from h.0 h.1) (expr_long i h.0 to h.2)
  expr_long (expr.Call' place _ (more_of-Expr f end_of-Expr) _ es) from to h = no_nearer from h.1.0 to (expr_long f from h.1.0 h.1.1) (exprs_long es h.1.0 to h.1.2)
  expr_long (expr.Access' place _ (more_of-Expr e end_of-Expr) operator at) from to h = expr_long e from to h
  expr_long (expr.Step' place _ (more_of-Expr e end_of-Expr) operator) from to h = expr_long e from to h
  expr_long (expr.Unary' place operator _ (more_of-Expr e end_of-Expr)) from to h = further from h.0 to h.1 (expr_long e h.0 to h.2)
  expr_long (expr.Cast' place _ name _ (more_of-Expr e end_of-Expr)) from to h = further from h.0 to h.1 (expr_long e h.0 to h.2)
  expr_long (expr.Binary' place _ (more_of-Expr a end_of-Expr) operator at _ (more_of-Expr b end_of-Expr)) from to h =
      further from h.0 to (expr_long a from h.0 h.1) (expr_long b h.0 to h.2)
  expr_long (expr.Conditional' place _ (more_of-Expr c end_of-Expr) _ (more_of-Expr a end_of-Expr) _ (more_of-Expr b end_of-Expr)) from to h =
      further from h.0 to (expr_long c from h.0 h.1) (further h.0 h.2.0 to (expr_long a h.0 h.2.0 h.2.1) (expr_long b h.2.0 to h.2.2))
  expr_long (expr.Assignment' place _ (more_of-Expr a end_of-Expr) operator at _ (more_of-Expr b end_of-Expr)) from to h =
      further from h.0 to (expr_long a from h.0 h.1) (expr_long b h.0 to h.2)

  exprs_long : {n : _} (es : Row_of-Expr n) (from to : ℕ) → ExprsStand es from to → from ≤ to
  exprs_long end_of-Expr from to h = h
  exprs_long (more_of-Expr e es) from to h = at_least from h.0 to (expr_long e from h.0 h.1) (exprs_long es h.0 to h.2)

mutual
  unfolding value ExprStands spine and_then

  pub value_reads : (called : Bool) (first : ℕ) (e : Expr) (s : Seen) → first + spine e ≤ s.sites
      → Reads found_spots (SpineAt (ExprStands e) first (spine e) (progress s)) (value called first e s)
  value_reads called first (expr.Name at) s room =
      name_reads (SpineAt Token first 0 (progress s)) called at s (token_at first (progress s)) (λ place. token_use_at first (progress s) place)
  value_reads called first (expr.Number at) s room = number_reads (SpineAt Token first 0 (progress s)) at s (token_at first (progress s))
  value_reads called first (expr.Character at) s room = character_reads (SpineAt Token first 0 (progress s)) at s (token_at first (progress s))
  value_reads called first (expr.Text strings) s room = text_reads (SpineAt Token first 0 (progress s)) strings s (token_at first (progress s))
  value_reads called first (expr.Parenthesised' place _ (more_of-Expr e end_of-Expr)) s room =
      parenthesised_reads (SpineAt (Behind (ExprStands e)) first 0 (progress s)) place _ s
      (inside (ExprStands e) first (progress s) _ (fresh_reads (ExprStands e) (spine e) _ (λ n t there. value_reads called n e t there) s))
  value_reads called first (expr.Index' place _ (more_of-Expr a end_of-Expr) _ (more_of-Expr i end_of-Expr)) s room =
      elements_read (SpineAt (ExprStands a) first (spine a) (progress s)) (RunAt (ExprStands i)) (SpineAt (Then (ExprStands a) (ExprStands i)) first (spine a) (progress s))
      (two_at (ExprStands a) (ExprStands i) first (spine a) (progress s) room) place _ _ s (value_reads false first a s room)
      (fresh_reads (ExprStands i) (spine i) _ (λ n t there. value_reads false n i t there))
  value_reads called first (expr.Call' place _ (more_of-Expr f end_of-Expr) _ es) s room =
      calls_read (SpineAt (ExprStands f) first (spine f) (progress s)) (RunAt (ExprsStand es)) (SpineAt (CalledFrom place (Then (ExprStands f) (ExprsStand es))) first (spine f + 1) (progress s))
      place (first + spine f) (call_at (ExprStands f) (ExprsStand es) place first (spine f) (progress s) room (omega (arith, room))) _ _ s (value_reads true first f s (omega (arith, room)))
      (λ t. given_alone (ExprsStand es) (progress t) (arguments [] es t) (arguments_read [] es t))
  value_reads called first (expr.Access' place _ (more_of-Expr e end_of-Expr) operator at) s room =
      access_reads (SpineAt (ExprStands e) first (spine e) (progress s)) place operator at _ s (value_reads false first e s room)
  value_reads called first (expr.Step' place _ (more_of-Expr e end_of-Expr) operator) s room =
      postfixes_read (SpineAt (ExprStands e) first (spine e) (progress s)) place operator _ s (value_reads false first e s room)
  value_reads called first (expr.Unary' place operator _ (more_of-Expr e end_of-Expr)) s room =
      unaries_read (SpineAt (Behind (ExprStands e)) first 0 (progress s)) place operator _ s
      (spine_none_at (Behind (ExprStands e)) first (progress s) (λ from to h. further from h.0 to h.1 (expr_long e h.0 to h.2))) (λ xs m h. h.same)
      (inside (ExprStands e) first (progress s) _ (fresh_reads (ExprStands e) (spine e) _ (λ n t there. value_reads false n e t there) s))
  value_reads called first (expr.SizeofType' place _ (more_of-TypeName at _ specs _ (more_of-Declarator d end_of-Declarator) end_of-TypeName)) s room =
      sizes_of_types_read (SpineAt Token first 0 (progress s)) place _ s (token_at first (progress s))
      (type_name_idle at _ _ (λ t. specifiers_idle specs no_specifiers t) (λ t. declarator_idle d t) s)
  value_reads called first (expr.Cast' place _ (more_of-TypeName at _ specs _ (more_of-Declarator d end_of-Declarator) end_of-TypeName) _ (more_of-Expr e end_of-Expr)) s room =
      inside (ExprStands e) first (progress s) _
      (casts_read (RunAt (ExprStands e)) place _ _ s
      (type_name_idle at _ _ (λ t. specifiers_idle specs no_specifiers t) (λ t. declarator_idle d t) s)
      (fresh_reads (ExprStands e) (spine e) _ (λ n t there. value_reads false n e t there)))
  value_reads called first (expr.Binary' place _ (more_of-Expr a end_of-Expr) operator at _ (more_of-Expr b end_of-Expr)) s room =
      operations_read (SpineAt (ExprStands a) first (spine a) (progress s)) (RunAt (ExprStands b)) (SpineAt (Then (ExprStands a) (ExprStands b)) first (spine a) (progress s))
      (two_at (ExprStands a) (ExprStands b) first (spine a) (progress s) room) place operator _ _ s (value_reads false first a s room)
      (fresh_reads (ExprStands b) (spine b) _ (λ n t there. value_reads false n b t there))
  value_reads called first (expr.Conditional' place _ (more_of-Expr c end_of-Expr) _ (more_of-Expr a end_of-Expr) _ (more_of-Expr b end_of-Expr)) s room =
      choices_read (SpineAt (ExprStands c) first (spine c) (progress s)) (RunAt (ExprStands a)) (SpineAt (Then (ExprStands c) (ExprStands a)) first (spine c) (progress s))
      (RunAt (ExprStands b)) (SpineAt (Then (ExprStands c) (Then (ExprStands a) (ExprStands b))) first (spine c) (progress s))
      (two_at (ExprStands c) (ExprStands a) first (spine c) (progress s) room) (three_at (ExprStands c) (ExprStands a) (ExprStands b) first (spine c) (progress s) room)
      place _ _ _ s (value_reads false first c s room) (fresh_reads (ExprStands a) (spine a) _ (λ n t there. value_reads false n a t there))
      (fresh_reads (ExprStands b) (spine b) _ (λ n t there. value_reads false n b t there))
  value_reads called first (expr.Assignment' place _ (more_of-Expr a end_of-Expr) operator at _ (more_of-Expr b end_of-Expr)) s room =
      assignments_read (SpineAt (ExprStands a) first (spine a) (progress s)) (RunAt (ExprStands b)) (SpineAt (Then (ExprStands a) (ExprStands b)) first (spine a) (progress s))
      (two_at (ExprStands a) (ExprStands b) first (spine a) (progress s) room) place operator _ _ s (value_reads false first a s room)
      (fresh_reads (ExprStands b) (spine b) _ (λ n t there. value_reads false n b t there))

  arguments_read : {n : _} (given : List Operand) (es : Row_of-Expr n) (s : Seen)
      → Reads given_spots (IsMore (given_spots given) (RunAt (ExprsStand es) (progress s))) (arguments given es s)
  arguments_read given end_of-Expr s =
      gives_reads s given (record { more = []; is = sym (append-nil (given_spots given)); holds = none_at (ExprsStand end_of-Expr) (progress s) (λ from to h. h) })
  arguments_read given (more_of-Expr e es) s =
      argument_reads (RunAt (ExprStands e) (progress s)) (RunAt (ExprsStand es)) (RunAt (Then (ExprStands e) (ExprsStand es)) (progress s))
      (joined_at (ExprStands e) (ExprsStand es) (progress s)) given _ _ s
      (fresh_reads (ExprStands e) (spine e) _ (λ n t there. value_reads false n e t there) s) (λ all t. arguments_read all es t)

  pub specifiers_idle : {n : _} (specs : Row_of-Spec n) (b : Specifiers) → AlwaysIdle (specifiers specs b)
  specifiers_idle end_of-Spec b s = gives_reads s b refl
  specifiers_idle (more_of-Spec x xs) b s =
      then_idle (progress s) (specifier x b s) _ (specifier_idle x b s) (λ next t. specifiers_idle xs next t)

  pub specifier_idle : (x : Spec) (b : Specifiers) → AlwaysIdle (specifier x b)
  specifier_idle (spec.Storage p word) b s = gives_reads s _ refl
  specifier_idle (spec.Function p word) b s = gives_reads s _ refl
  specifier_idle (spec.Qualifier p word) b s = gives_reads s _ refl
  specifier_idle (spec.«Type» p word) b s = gives_reads s _ refl
  specifier_idle (spec.TypedefName name) b s = typedef_idle name b s
  specifier_idle (spec.Attribute a) b s = gives_reads s _ refl
  specifier_idle (spec.StructName p name) b s = structure_name_idle name b s
  specifier_idle (spec.Struct' p tag _ ms) b s = structure_idle p tag _ b (λ t. member_lines_idle ms [] t) s
  specifier_idle (spec.EnumName p name) b s = enumeration_name_idle name b s
  specifier_idle (spec.Enum' p tag _ constants) b s = enumeration_idle tag _ b (λ t. enumerators_idle constants (Some 0) t) s

  member_lines_idle : {n : _} (ms : Row_of-Member n) (before : List MemberInfo) → AlwaysIdle (member_lines ms before)
  member_lines_idle end_of-Member before s = gives_reads s before refl
  member_lines_idle (more_of-Member p _ specs _ ds ms) before s =
      then_idle (progress s) (specifiers specs no_specifiers s) _ (specifiers_idle specs no_specifiers s) (λ b t.
      then_idle (progress t) (members ds b before t) _ (members_idle ds b before t) (λ now v. member_lines_idle ms now v))

  members_idle : {n : _} (ds : Row_of-Declarator n) (b : Specifiers) (before : List MemberInfo) → AlwaysIdle (members ds b before)
  members_idle end_of-Declarator b before s = gives_reads s before refl
  members_idle (more_of-Declarator d ds) b before s =
      then_idle (progress s) (member b (declarator d) before s) _ (member_idle b (declarator d) before (λ t. declarator_idle d t) s) (λ now t.
      members_idle ds b now t)

  enumerators_idle : {n : _} (es : Row_of-Enumerator n) (next : Option ℕ) → AlwaysIdle (enumerators es next)
  enumerators_idle end_of-Enumerator next s = gives_reads s next refl
  enumerators_idle (more_of-Enumerator name constant es) next s =
      then_idle (progress s) (enumerator name (written_of constant) next s) _ (enumerator_idle name (written_of constant) next (written_counts constant) s) (λ now t.
      enumerators_idle es now t)

  written_counts : (size : Held-Declarator-Array-2) → WrittenIsCounted (written_of size)
  written_counts of_declarator.None' = tt
  written_counts (of_declarator.Some' _ (more_of-Expr e end_of-Expr)) =
      λ s. counted (ExprStands e) (progress s) _ (fresh_reads (ExprStands e) (spine e) _ (λ n t there. value_reads false n e t there) s)

  pub declarator_idle : (d : Declarator) → AlwaysIdle (declarator d)
  declarator_idle (of_declarator.Name name) s = gives_reads s _ refl
  declarator_idle of_declarator.Absent s = gives_reads s _ refl
  declarator_idle (of_declarator.Pointer' p qualifiers _ (more_of-Declarator d end_of-Declarator)) s =
      pointer_idle (declarator d) (λ t. declarator_idle d t) s
  declarator_idle (of_declarator.Parenthesised' p _ (more_of-Declarator d end_of-Declarator)) s = declarator_idle d s
  declarator_idle (of_declarator.Array' _ (more_of-Declarator d end_of-Declarator) p size) s =
      array_idle (declarator d) (written_of size) (λ t. declarator_idle d t) (written_counts size) s
  declarator_idle (of_declarator.Function' _ (more_of-Declarator d end_of-Declarator) p ps attributes) s =
      function_idle (declarator d) (parameter_list ps) attributes (λ t. declarator_idle d t) (λ t. parameter_list_idle ps t) s

  parameter_list_idle : (ps : Parameters) → AlwaysIdle (parameter_list ps)
  parameter_list_idle (params.List' _ ps) s = parameters_idle ps [] s
  parameter_list_idle params.Empty s = gives_reads s [] refl
  parameter_list_idle (params.Void p) s = gives_reads s [] refl

  parameters_idle : {n : _} (ps : Row_of-Param n) (before : List Parameter) → AlwaysIdle (parameters ps before)
  parameters_idle end_of-Param before s = gives_reads s before refl
  parameters_idle (more_of-Param p _ specs _ (more_of-Declarator d end_of-Declarator) ps) before s =
      then_idle (progress s) (parameter p (specifiers specs no_specifiers) (declarator d) before s) _
      (parameter_idle p (specifiers specs no_specifiers) (declarator d) before (λ t. specifiers_idle specs no_specifiers t) (λ t. declarator_idle d t) s) (λ now t.
      parameters_idle ps now t)

-- an expression that begins where none around it does
pub expression_reads : (e : Expr) → ReadsFrom found_spots (RunAt (ExprStands e)) (expression e)
unfolding expression
expression_reads e = fresh_reads (ExprStands e) (spine e) _ (λ n t there. value_reads false n e t there)
