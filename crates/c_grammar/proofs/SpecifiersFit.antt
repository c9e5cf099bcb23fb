-- One token decides in specifiers, structures, enumerations and attributes.
use Rattle.std.proofs.Common.{◌≡◌, ℕ, Bool, true, false, not, ◌&&◌, ◌||◌, List, [], ◌∷◌, Option, Some, None, refl}
use Rattle.grammar.specs.Parts.{Call}
use Rattle.grammar.specs.Parser.{begins, nothing}
use Rattle.grammar.proofs.Checked.{Checks, Orders, within, apart, alike}
use Rattle.c_tree.specs.declared.words.AttrSpelling.{AttrSpelling}
use Rattle.c_tree.specs.declared.words.AttrSpelling.TheVariants.{Brackets, Gnu}
use Rattle.c_grammar.specs.Lexemes.{Lexeme}
use Rattle.c_grammar.specs.Expressions.{has_type}
use Rattle.c_grammar.specs.declared.state.SpecifierContext.{SpecifierContext}
use Rattle.c_grammar.specs.declared.state.StorageClass.{StorageClass}
use Rattle.c_grammar.specs.declared.state.TypeSpecifiers.{TypeSpecifiers}
use Rattle.c_grammar.specs.declared.state.SpecifierContext.TheVariants.{File as FileContext, Block as BlockContext, Member as MemberContext, «Type» as TypeContext, Barred as BarredContext}
use Rattle.c_grammar.specs.declared.state.StorageClass.TheVariants.{Static as StaticStorage}
use Rattle.c_grammar.specs.declared.state.TypeSpecifiers.TheVariants.{Complete as CompleteSpecifiers}
use Rattle.c_grammar.specs.declared.state.DeclaratorKind.TheVariants.{Member as MemberKind}
use Rattle.c_grammar.specs.declared.state.Bracket.TheVariants.{Unknown}
use Rattle.c_grammar.specs.Rules.{Scope, SpecsState, SpecsRead, Specs, Members, MemberDeclarators, Enumerators, ClangWords, GnuWords, Effect, Attributes}
use Rattle.std.proofs.Common.{is_none}
use Rattle.c_grammar.specs.declared.terminal.Terminal.{Terminal}
use Rattle.c_grammar.specs.declared.terminal.Terminal.TheVariants as k
use Rattle.c_grammar.specs.Lexemes.{is, is_among, has_text}
use Rattle.c_grammar.specs.Specifiers.{no_specs, specs_until, after_terminal, is_whole, is_spec_word, is_barred, has_argument, is_plain_effect, plain_effects, next_context}
use Rattle.c_grammar.specs.Lookahead.{c_lookahead, starts_specs, starts_declarator, ends_specs, ends_attributes, empty_specs}
use Rattle.c_grammar.proofs.Every.{All, all, rows, self, each, call_first, apart_none, apart_also, apart_through, alike_five, within_self}
use Rattle.c_tree.specs.declared.words.Span.{Span}
use Rattle.c_tree.specs.declared.words.AttrWord.{AttrWord}
use Rattle.c_tree.specs.declared.expressions.Spec.{Spec}
use Rattle.c_tree.specs.declared.expressions.Spec.TheVariants as spec
use Rattle.c_grammar.specs.Lexemes.{span}
use Rattle.c_grammar.specs.Expressions.{Reading}
use Rattle.c_grammar.specs.Specifiers.{more_specs, tagged, structure, enumeration, attr, bracket_rest, spec_of, is_abstract}
use Rattle.c_grammar.proofs.Fine.{Fine, begins_not}

-- Specifiers with and without their end, so that both can be computed.
abbrev SpecsFine : Bool → SpecifierContext → Scope → SpecsState → Type 0
SpecsFine ends context s state =
    All (λ t. alike (starts_specs context s state t) (begins c_lookahead (specs_until ends context s state) t))
    × (empty_specs ends ≡ nothing c_lookahead (specs_until ends context s state))
    × Orders c_lookahead All all 1 (specs_until ends context s state)
    × Checks c_lookahead All all (λ x t. ends_specs context x.bracket s t) (specs_until ends context s state)

-- the terminals that a specifier of one word may have
abbrev spec_words : List Terminal
spec_words =
    k.Typedef ∷ k.Static ∷ k.Extern ∷ k.ThreadLocal ∷ k.Inline ∷ k.NoReturn ∷ k.Const ∷ k.Volatile ∷ k.Restrict ∷ k.Void ∷ k.Char ∷ k.Int ∷ k.Signed
    ∷ k.Unsigned ∷ k.Name ∷ []

words_within : (context : SpecifierContext) (s : Scope) (state : SpecsState) → All (λ t. within (is_spec_word context s state t) (is_among spec_words t))
words_within FileContext s state = λ x p. refl
words_within BlockContext s state = λ x p. refl
words_within MemberContext s state = λ x p. refl
words_within TypeContext s state = λ x p. refl
words_within BarredContext s state = λ x p. refl

abbrev no_word : SpecifierContext → SpecsState → Lexeme → Bool
no_word context state t =
    (is k.Struct t && is_none state.type_specifiers)
    || ((is k.Enum t && is_none state.type_specifiers) || (is k.Attribute t || ((is k.OpenBracket t && not (is_barred context)) || false)))

no_word_apart : (context : SpecifierContext) (state : SpecsState) → All (λ t. apart (is_among spec_words t) (no_word context state t))
no_word_apart context state = λ x p. refl

words_apart : (context : SpecifierContext) (s : Scope) (state : SpecsState) → All (λ t. apart (is_spec_word context s state t) (no_word context state t))
words_apart context s state =
    each (λ t. apart (is_spec_word context s state t) (no_word context state t))
    (λ t. apart_through (is_spec_word context s state t) (is_among spec_words t) (no_word context state t)
    (all (λ u. within (is_spec_word context s state u) (is_among spec_words u)) (words_within context s state) t)
    (all (λ u. apart (is_among spec_words u) (no_word context state u)) (no_word_apart context state) t))

words_first : (context : SpecifierContext) (s : Scope) (state : SpecsState)
    → All (λ t. alike (starts_specs context s state t) (is_spec_word context s state t || no_word context state t))
words_first context s state =
    each (λ t. alike (starts_specs context s state t) (is_spec_word context s state t || no_word context state t))
    (λ t. alike_five (is_spec_word context s state t) (is k.Struct t && is_none state.type_specifiers) (is k.Enum t && is_none state.type_specifiers)
    (is k.Attribute t) (is k.OpenBracket t && not (is_barred context)))

-- what follows more specifiers follows the whole
more_follows : (context : SpecifierContext) (s : Scope) (x : SpecsRead)
    → All (λ t. within (ends_specs context x.bracket s t) (ends_specs (next_context context) x.bracket s t))
more_follows FileContext s x = self (λ t. ends_specs FileContext x.bracket s t)
more_follows BlockContext s x = self (λ t. ends_specs BlockContext x.bracket s t)
more_follows MemberContext s x = self (λ t. ends_specs MemberContext x.bracket s t)
more_follows TypeContext s x = self (λ t. ends_specs TypeContext x.bracket s t)
more_follows BarredContext s x = barred_follows s x.bracket
  where
    barred_follows : (s : Scope) (o : Option ℕ) → All (λ t. within (ends_specs BarredContext o s t) (ends_specs TypeContext o s t))
    barred_follows s None = λ y p. refl
    barred_follows s (Some q) = λ y p. within_self (not (has_type s.types (record { terminal = k.Name; token = p; text = y })))

-- one specifier more
abbrev Follows : SpecifierContext → Scope → SpecsRead → Lexeme → Bool
Follows context s x t = ends_specs context x.bracket s t

more_fine : (context : SpecifierContext) (s : Scope) (state : SpecsState) (first : Spec) → Checks c_lookahead All all (Follows context s) (more_specs context s state first)
more_fine context s state first = λ a. (begins_not (Specs (next_context context) s state) a, more_follows context s a, tt)

-- a tag or a definition
tagged_fine : (context : SpecifierContext) (s : Scope) (w : StorageClass) (l : Bool) (definition : Option Span → Reading SpecsRead) (alone : Span → Spec)
    → ((tag : Option Span) → Checks c_lookahead All all (Follows context s) (definition tag))
    → Checks c_lookahead All all (Follows context s)
    (tagged context definition (λ tag. more_specs context s (record { storage = w; is_thread_local = l; type_specifiers = Some CompleteSpecifiers }) (alone tag)))
tagged_fine BlockContext s w false definition alone definition_fine = (refl, (λ y p. refl), (λ y p. refl), (λ t e. (refl, (λ y p. refl), (λ y p. refl), (λ u f. definition_fine (Some (span t))), more_fine BlockContext s (record { storage = w; is_thread_local = false; type_specifiers = Some CompleteSpecifiers }) (alone (span t)))), (λ t e. definition_fine None))
tagged_fine BlockContext s StaticStorage true definition alone definition_fine = (refl, (λ y p. refl), (λ y p. refl), (λ t e. (refl, (λ y p. refl), (λ y p. refl), (λ u f. definition_fine (Some (span t))), more_fine BlockContext s (record { storage = StaticStorage; is_thread_local = true; type_specifiers = Some CompleteSpecifiers }) (alone (span t)))), (λ t e. definition_fine None))
tagged_fine context s w l definition alone definition_fine = (refl, (λ y p. refl), (λ y p. refl), (λ t e. (refl, (λ y p. refl), (λ y p. refl), (λ u f. definition_fine (Some (span t))), more_fine context s (record { storage = w; is_thread_local = l; type_specifiers = Some CompleteSpecifiers }) (alone (span t)))), (λ t e. definition_fine None))

structure_fine : (context : SpecifierContext) (s : Scope) (w : StorageClass) (l : Bool) (q : ℕ)
    → Checks c_lookahead All all (Follows context s) (structure context s (record { storage = w; is_thread_local = l; type_specifiers = Some CompleteSpecifiers }) q)
structure_fine context s w l q =
    tagged_fine context s w l (λ tag. Call (Members s) (λ lines. more_specs context s (record { storage = w; is_thread_local = l; type_specifiers = Some CompleteSpecifiers }) (spec.Struct q tag lines)))
    (λ tag. spec.StructName q tag)
    (λ tag lines. ((λ y p. refl), (λ y p. refl), more_fine context s (record { storage = w; is_thread_local = l; type_specifiers = Some CompleteSpecifiers }) (spec.Struct q tag lines)))

enumeration_fine : (context : SpecifierContext) (s : Scope) (w : StorageClass) (l : Bool) (q : ℕ)
    → Checks c_lookahead All all (Follows context s) (enumeration context s (record { storage = w; is_thread_local = l; type_specifiers = Some CompleteSpecifiers }) q)
enumeration_fine context s w l q =
    tagged_fine context s w l (λ tag. Call (Enumerators s) (λ lines. more_specs context s (record { storage = w; is_thread_local = l; type_specifiers = Some CompleteSpecifiers }) (spec.Enum q tag lines)))
    (λ tag. spec.EnumName q tag)
    (λ tag lines. ((λ y p. refl), (λ y p. refl), more_fine context s (record { storage = w; is_thread_local = l; type_specifiers = Some CompleteSpecifiers }) (spec.Enum q tag lines)))

-- an attribute, or the end before a bracket
attribute_fine : (context : SpecifierContext) (s : Scope) (state : SpecsState) (q : ℕ) (spelling : AttrSpelling) (words : List AttrWord)
    → Checks c_lookahead All all (Follows context s) (more_specs context s state (spec.Attribute (attr q spelling words)))
attribute_fine context s state q spelling words = more_fine context s state (spec.Attribute (attr q spelling words))

bracket_fine : (context : SpecifierContext) (ends : Bool) (s : Scope) (state : SpecsState) (q : ℕ)
    → Checks c_lookahead All all (Follows context s) (bracket_rest (is_abstract context && ends) context s state q)
bracket_fine TypeContext true s state q = (
  refl,
  (λ y p. refl),
  (λ y p. apart_none (not (has_type s.types (record { terminal = k.Name; token = p; text = y })))),
  (λ t e words. ((λ y p. refl), (λ y p. refl), attribute_fine TypeContext s state q Brackets words)),
  tt,
)
bracket_fine BarredContext true s state q = (
  refl,
  (λ y p. refl),
  (λ y p. apart_none (not (has_type s.types (record { terminal = k.Name; token = p; text = y })))),
  (λ t e words. ((λ y p. refl), (λ y p. refl), attribute_fine BarredContext s state q Brackets words)),
  tt,
)
bracket_fine context ends s state q = (
  refl,
  (λ y p. refl),
  (λ y p. refl),
  (λ t e words. ((λ y p. refl), (λ y p. refl), attribute_fine context s state q Brackets words)),
  (λ t e. tt),
)

specs_none_false : (context : SpecifierContext) (s : Scope) (w : StorageClass) (l : Bool) → SpecsFine false context s (record { storage = w; is_thread_local = l; type_specifiers = None })
specs_none_false FileContext s w l = (
  words_first FileContext s (record { storage = w; is_thread_local = l; type_specifiers = None }),
  refl,
  (tt, (tt, (tt, (tt, (tt, tt))))),
  (
    refl,
    words_apart FileContext s (record { storage = w; is_thread_local = l; type_specifiers = None }),
    (λ y p. refl),
    (λ t e. more_fine FileContext s (after_terminal (record { storage = w; is_thread_local = l; type_specifiers = None }) t.terminal) (spec_of t.terminal t)),
    (
      refl,
      (λ y p. refl),
      (λ y p. refl),
      (λ t e. structure_fine FileContext s w l t.token.start),
      (
        refl,
        (λ y p. refl),
        (λ y p. refl),
        (λ t e. enumeration_fine FileContext s w l t.token.start),
        (
          refl,
          (λ y p. refl),
          (λ y p. refl),
          (λ t e u f v g words. ((λ y p. refl), (λ y p. refl), attribute_fine FileContext s (record { storage = w; is_thread_local = l; type_specifiers = None }) t.token.start Gnu words)),
          (refl, (λ y p. refl), (λ y p. refl), (λ t e. bracket_fine FileContext false s (record { storage = w; is_thread_local = l; type_specifiers = None }) t.token.start), (λ t e. tt)),
        ),
      ),
    ),
  ),
)
specs_none_false context s w l = (
  words_first context s (record { storage = w; is_thread_local = l; type_specifiers = None }),
  refl,
  (tt, (tt, (tt, (tt, (tt, tt))))),
  (
    refl,
    words_apart context s (record { storage = w; is_thread_local = l; type_specifiers = None }),
    (λ y p. refl),
    (λ t e. more_fine context s (after_terminal (record { storage = w; is_thread_local = l; type_specifiers = None }) t.terminal) (spec_of t.terminal t)),
    (
      refl,
      (λ y p. refl),
      (λ y p. refl),
      (λ t e. structure_fine context s w l t.token.start),
      (
        refl,
        (λ y p. refl),
        (λ y p. refl),
        (λ t e. enumeration_fine context s w l t.token.start),
        (
          refl,
          (λ y p. refl),
          (λ y p. refl),
          (λ t e u f v g words. ((λ y p. refl), (λ y p. refl), attribute_fine context s (record { storage = w; is_thread_local = l; type_specifiers = None }) t.token.start Gnu words)),
          (refl, (λ y p. refl), (λ y p. refl), (λ t e. bracket_fine context false s (record { storage = w; is_thread_local = l; type_specifiers = None }) t.token.start), (λ t e. tt)),
        ),
      ),
    ),
  ),
)

specs_some_true : (context : SpecifierContext) (s : Scope) (w : StorageClass) (l : Bool) (c : TypeSpecifiers) → SpecsFine true context s (record { storage = w; is_thread_local = l; type_specifiers = Some c })
specs_some_true FileContext s w l c = (
  words_first FileContext s (record { storage = w; is_thread_local = l; type_specifiers = Some c }),
  refl,
  (tt, (tt, (tt, (tt, (tt, tt))))),
  (
    refl,
    words_apart FileContext s (record { storage = w; is_thread_local = l; type_specifiers = Some c }),
    (λ y p. refl),
    (λ t e. more_fine FileContext s (after_terminal (record { storage = w; is_thread_local = l; type_specifiers = Some c }) t.terminal) (spec_of t.terminal t)),
    (
      refl,
      (λ y p. refl),
      (λ y p. refl),
      (λ t e. structure_fine FileContext s w l t.token.start),
      (
        refl,
        (λ y p. refl),
        (λ y p. refl),
        (λ t e. enumeration_fine FileContext s w l t.token.start),
        (
          refl,
          (λ y p. refl),
          (λ y p. refl),
          (λ t e u f v g words. ((λ y p. refl), (λ y p. refl), attribute_fine FileContext s (record { storage = w; is_thread_local = l; type_specifiers = Some c }) t.token.start Gnu words)),
          (refl, (λ y p. refl), (λ y p. refl), (λ t e. bracket_fine FileContext true s (record { storage = w; is_thread_local = l; type_specifiers = Some c }) t.token.start), tt),
        ),
      ),
    ),
  ),
)
specs_some_true context s w l c = (
  words_first context s (record { storage = w; is_thread_local = l; type_specifiers = Some c }),
  refl,
  (tt, (tt, (tt, (tt, (tt, tt))))),
  (
    refl,
    words_apart context s (record { storage = w; is_thread_local = l; type_specifiers = Some c }),
    (λ y p. refl),
    (λ t e. more_fine context s (after_terminal (record { storage = w; is_thread_local = l; type_specifiers = Some c }) t.terminal) (spec_of t.terminal t)),
    (
      refl,
      (λ y p. refl),
      (λ y p. refl),
      (λ t e. structure_fine context s w l t.token.start),
      (
        refl,
        (λ y p. refl),
        (λ y p. refl),
        (λ t e. enumeration_fine context s w l t.token.start),
        (
          refl,
          (λ y p. refl),
          (λ y p. refl),
          (λ t e u f v g words. ((λ y p. refl), (λ y p. refl), attribute_fine context s (record { storage = w; is_thread_local = l; type_specifiers = Some c }) t.token.start Gnu words)),
          (refl, (λ y p. refl), (λ y p. refl), (λ t e. bracket_fine context true s (record { storage = w; is_thread_local = l; type_specifiers = Some c }) t.token.start), tt),
        ),
      ),
    ),
  ),
)

specs_some_false : (context : SpecifierContext) (s : Scope) (w : StorageClass) (l : Bool) (c : TypeSpecifiers) → SpecsFine false context s (record { storage = w; is_thread_local = l; type_specifiers = Some c })
specs_some_false FileContext s w l c = (
  words_first FileContext s (record { storage = w; is_thread_local = l; type_specifiers = Some c }),
  refl,
  (tt, (tt, (tt, (tt, (tt, tt))))),
  (
    refl,
    words_apart FileContext s (record { storage = w; is_thread_local = l; type_specifiers = Some c }),
    (λ y p. refl),
    (λ t e. more_fine FileContext s (after_terminal (record { storage = w; is_thread_local = l; type_specifiers = Some c }) t.terminal) (spec_of t.terminal t)),
    (
      refl,
      (λ y p. refl),
      (λ y p. refl),
      (λ t e. structure_fine FileContext s w l t.token.start),
      (
        refl,
        (λ y p. refl),
        (λ y p. refl),
        (λ t e. enumeration_fine FileContext s w l t.token.start),
        (
          refl,
          (λ y p. refl),
          (λ y p. refl),
          (λ t e u f v g words. ((λ y p. refl), (λ y p. refl), attribute_fine FileContext s (record { storage = w; is_thread_local = l; type_specifiers = Some c }) t.token.start Gnu words)),
          (refl, (λ y p. refl), (λ y p. refl), (λ t e. bracket_fine FileContext false s (record { storage = w; is_thread_local = l; type_specifiers = Some c }) t.token.start), (λ t e. tt)),
        ),
      ),
    ),
  ),
)
specs_some_false context s w l c = (
  words_first context s (record { storage = w; is_thread_local = l; type_specifiers = Some c }),
  refl,
  (tt, (tt, (tt, (tt, (tt, tt))))),
  (
    refl,
    words_apart context s (record { storage = w; is_thread_local = l; type_specifiers = Some c }),
    (λ y p. refl),
    (λ t e. more_fine context s (after_terminal (record { storage = w; is_thread_local = l; type_specifiers = Some c }) t.terminal) (spec_of t.terminal t)),
    (
      refl,
      (λ y p. refl),
      (λ y p. refl),
      (λ t e. structure_fine context s w l t.token.start),
      (
        refl,
        (λ y p. refl),
        (λ y p. refl),
        (λ t e. enumeration_fine context s w l t.token.start),
        (
          refl,
          (λ y p. refl),
          (λ y p. refl),
          (λ t e u f v g words. ((λ y p. refl), (λ y p. refl), attribute_fine context s (record { storage = w; is_thread_local = l; type_specifiers = Some c }) t.token.start Gnu words)),
          (refl, (λ y p. refl), (λ y p. refl), (λ t e. bracket_fine context false s (record { storage = w; is_thread_local = l; type_specifiers = Some c }) t.token.start), (λ t e. tt)),
        ),
      ),
    ),
  ),
)

specs_some : (ends : Bool) (context : SpecifierContext) (s : Scope) (w : StorageClass) (l : Bool) (c : TypeSpecifiers) → SpecsFine ends context s (record { storage = w; is_thread_local = l; type_specifiers = Some c })
specs_some true context s w l c = specs_some_true context s w l c
specs_some false context s w l c = specs_some_false context s w l c

specs_by : (context : SpecifierContext) (s : Scope) (w : StorageClass) (l : Bool) (type_specifiers : Option TypeSpecifiers) → Fine (Specs context s (record { storage = w; is_thread_local = l; type_specifiers = type_specifiers }))
specs_by context s w l None = specs_none_false context s w l
specs_by context s w l (Some c) = specs_some (is_whole context (record { storage = w; is_thread_local = l; type_specifiers = Some c })) context s w l c

pub specs_fine : (context : SpecifierContext) (s : Scope) (state : SpecsState) → Fine (Specs context s state)
specs_fine context s state = specs_by context s state.storage state.is_thread_local state.type_specifiers

member_specs : (s : Scope) (o : Option ℕ) → All (λ t. within (starts_declarator s MemberKind Unknown t || false) (ends_specs MemberContext o s t))
member_specs s None = λ x p. refl
member_specs s (Some q) = λ x p. refl

effects_apart : (spelling : AttrSpelling) → All (λ t. apart (has_argument t) (is_plain_effect spelling t))
effects_apart spelling =
    each (λ t. apart (has_argument t) (is_plain_effect spelling t)) (λ t. apart_also (has_argument t) (is k.Name t && has_text (plain_effects spelling) t))

attributes_follow : (s : Scope) (o : Option ℕ) → All (λ t. within (ends_attributes o s t) (ends_attributes o s t))
attributes_follow s o = self (λ t. ends_attributes o s t)

pub members_fine : (s : Scope) → Fine (Members s)
members_fine s = (call_first (λ t. starts_specs MemberContext s no_specs t), refl, (refl, (λ a e. (refl, (λ b f. (tt, cc))))), (λ a. (member_specs s a.bracket, begins_not (Specs MemberContext s no_specs) a, (λ a. ((λ x p. refl), (λ x p. refl), (refl, (λ x p. refl), (λ x p. refl), (λ t e. tt), (λ a. ((λ x p. refl), (λ x p. refl), tt))))))))

pub member_declarators_fine : (s : Scope) → Fine (MemberDeclarators s)
member_declarators_fine s = (call_first (λ t. starts_declarator s MemberKind Unknown t), refl, (refl, (λ a e. (tt, tt))), (λ a. ((λ x p. refl), (λ x p. refl), (refl, (λ x p. refl), (λ x p. refl), (λ t e. (λ a. ((λ x p. refl), (λ x p. refl), tt))), (λ t e. tt)))))

pub enumerators_fine : (s : Scope) → Fine (Enumerators s)
enumerators_fine s = (search rows depth 20, refl, tt, (λ t e. (refl, (λ x p. refl), (λ x p. refl), (λ t e. (λ a. ((λ x p. refl), (λ x p. refl), (refl, (λ x p. refl), (λ x p. refl), (λ t e. tt), (λ t e. (refl, (λ x p. refl), (λ x p. refl), (λ t e. tt), (λ a. ((λ x p. refl), (λ x p. refl), tt)))))))), (refl, (λ x p. refl), (λ x p. refl), (λ t e. tt), (λ t e. (refl, (λ x p. refl), (λ x p. refl), (λ t e. tt), (λ a. ((λ x p. refl), (λ x p. refl), tt))))))))

pub clang_words_fine : Fine ClangWords
clang_words_fine = (search rows depth 20, refl, tt, (λ t e. (λ t e. (λ t e. (λ a. ((λ x p. refl), (λ x p. refl), (refl, (λ x p. refl), (λ x p. refl), (λ t e. (λ a. ((λ x p. refl), (λ x p. refl), tt))), (λ t e. (λ t e. tt)))))))))

pub gnu_words_fine : Fine GnuWords
gnu_words_fine = (search rows depth 20, refl, (refl, (λ a e. (tt, tt))), (λ a. ((λ x p. refl), (λ x p. refl), (refl, (λ x p. refl), (λ x p. refl), (λ t e. (λ a. ((λ x p. refl), (λ x p. refl), tt))), (λ t e. (λ t e. tt))))))

pub effect_fine : (spelling : AttrSpelling) → Fine (Effect spelling)
effect_fine Brackets = (search rows depth 20, refl, (tt, tt), (refl, effects_apart Brackets, (λ x p. refl), (λ t e. (refl, (λ x p. refl), (λ x p. refl), (λ t e. (λ t e. (λ t e. tt))), tt)), (λ t e. tt)))
effect_fine Gnu = (search rows depth 20, refl, (tt, tt), (refl, effects_apart Gnu, (λ x p. refl), (λ t e. (refl, (λ x p. refl), (λ x p. refl), (λ t e. (λ t e. (λ t e. tt))), tt)), (λ t e. tt)))

pub attributes_fine : (s : Scope) → Fine (Attributes s)
attributes_fine s = ((λ x p. refl), refl, (tt, (tt, tt)), (refl, (λ x p. refl), (λ x p. refl), (λ t e. (refl, (λ x p. refl), (λ x p. apart_none (not (has_type s.types (record { terminal = k.Name; token = p; text = x })))), (λ t e. (λ a. ((λ x p. refl), (λ x p. refl), (λ a. (begins_not (Attributes s) a, attributes_follow s a.bracket, tt))))), tt)), (refl, (λ x p. refl), (λ x p. refl), (λ t e. (λ t e. (λ t e. (λ a. ((λ x p. refl), (λ x p. refl), (λ a. (begins_not (Attributes s) a, attributes_follow s a.bracket, tt))))))), tt)))
