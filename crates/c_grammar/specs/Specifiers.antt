-- Specifiers, structures, enumerations and attributes.
--
--     specs  = spec { spec } .
--     spec   = "typedef" | "static" | "extern" | "_Thread_local" | "inline" | "_Noreturn" | qual | type | attr .
--     qual   = "const" | "volatile" | "restrict" .
--     type   = "void" | "char" | "int" | "signed" | "unsigned" | struct | enum | typedefname .
--     struct = "struct" [ ident ] "{" member { member } "}" | "struct" ident .
--     member = specs declarator { "," declarator } ";" .
--     enum   = "enum" [ ident ] "{" enumr { "," enumr } [ "," ] "}" | "enum" ident .
--     enumr  = ident [ "=" cond ] .
--     attr   = "[" "[" "clang" ":" ":" effect { "," "clang" ":" ":" effect } "]" "]"
--            | "__attribute__" "(" "(" gnu { "," gnu } ")" ")" .
--     gnu    = effect | "noreturn" .
--     effect = ( "nonblocking" | "nonallocating" ) [ "(" ( "true" | "false" ) ")" ] | "blocking" | "allocating" .
--     typename = specs [ abstract ] .
--
-- Further rules: the type specifiers are `void`, `char`, `signed char`, `int`, `signed`, `signed int`, `unsigned`,
-- `unsigned int` in any order, or one structure, enumeration or typedef name; at most one of `typedef`, `static`,
-- `extern`; in a block no `typedef`, `extern`, `inline`, `_Noreturn`, and `_Thread_local` stands with `static`;
-- parameters, members and type names have no storage word; structures and enumerations are defined at file scope
-- and in structures alone.
use Rattle.std.specs.Prelude.{ℕ, Bool, true, false, cond, not, ◌&&◌, ◌||◌, List, [], ◌∷◌, Option, Some, None, is_some, is_none, codes}
use Rattle.grammar.specs.Parts.{Return, Take, Call, Either}
use Rattle.c_tree.specs.declared.words.Span.{Span}
use Rattle.c_tree.specs.declared.words.Attr.{Attr}
use Rattle.c_tree.specs.declared.words.AttrWord.{AttrWord}
use Rattle.c_tree.specs.declared.words.AttrSpelling.{AttrSpelling}
use Rattle.c_tree.specs.declared.words.AttrSpelling.TheVariants.{Brackets, Gnu}
use Rattle.c_tree.specs.declared.words.Effect.TheVariants as effect
use Rattle.c_tree.specs.declared.words.StorageWord.TheVariants as storage
use Rattle.c_tree.specs.declared.words.FunctionWord.TheVariants as function_word
use Rattle.c_tree.specs.declared.words.Qualifier.TheVariants as qualifier
use Rattle.c_tree.specs.declared.words.TypeWord.TheVariants as type_word
use Rattle.c_tree.specs.declared.expressions.Spec.{Spec}
use Rattle.c_tree.specs.declared.expressions.Spec.TheVariants as spec
use Rattle.c_tree.specs.declared.expressions.Member.{Member}
use Rattle.c_tree.specs.declared.expressions.Enumerator.{Enumerator}
use Rattle.c_tree.specs.declared.expressions.Declarator as declarator
use Rattle.c_tree.specs.declared.expressions.TypeName as names
use Rattle.c_tree.specs.declared.expressions.Expr.{Expr}
use Rattle.c_grammar.specs.declared.terminal.Terminal.{Terminal}
use Rattle.c_grammar.specs.declared.terminal.Terminal.TheVariants as k
use Rattle.c_grammar.specs.Lexemes.{Lexeme, span, place, is, is_among, has_text}
use Rattle.c_grammar.specs.Trees.{specs_place}
use Rattle.c_grammar.specs.declared.state.SpecifierContext.{SpecifierContext}
use Rattle.c_grammar.specs.declared.state.StorageClass.{StorageClass}
use Rattle.c_grammar.specs.declared.state.TypeSpecifiers.{TypeSpecifiers}
use Rattle.c_grammar.specs.declared.state.Bracket.{Bracket}
use Rattle.c_grammar.specs.declared.state.SpecifierContext.TheVariants.{File as FileContext, Block as BlockContext, Member as MemberContext, «Type» as TypeContext, Barred as BarredContext}
use Rattle.c_grammar.specs.declared.state.StorageClass.TheVariants.{Absent as NoStorage, Static as StaticStorage, Other as OtherStorage}
use Rattle.c_grammar.specs.declared.state.TypeSpecifiers.TheVariants.{Char as CharSpecifier, Int as IntSpecifier, Signed as SignedSpecifier, Unsigned as UnsignedSpecifier, Complete as CompleteSpecifiers}
use Rattle.c_grammar.specs.declared.state.DeclaratorKind.TheVariants.{Member as MemberKind, Abstract as AbstractKind}
use Rattle.c_grammar.specs.declared.state.Bracket.TheVariants.{Unknown, Passed, Opened}
use Rattle.c_grammar.specs.Rules.{Scope, SpecsState, SpecsRead, AttributesRead, Conditional, Specs, Members, MemberDeclarators, Enumerators, ClangWords, GnuWords, Effect, Attributes, Declarator}
use Rattle.c_grammar.specs.Expressions.{Reading, word, dead_end, has_type}

-- the reserved names: they are not declared as ordinary names
abbrev pub reserved_names : List (List ℕ)
reserved_names =
    codes "NULL" ∷ codes "size_t" ∷ codes "pthread_t" ∷ codes "pthread_mutex_t" ∷ codes "PTHREAD_MUTEX_INITIALIZER"
    ∷ codes "malloc" ∷ codes "calloc" ∷ codes "free" ∷ codes "pthread_create" ∷ codes "pthread_join"
    ∷ codes "pthread_mutex_lock" ∷ codes "pthread_mutex_unlock" ∷ codes "usleep" ∷ codes "puts" ∷ codes "putchar"
    ∷ codes "abs" ∷ codes "__rtsan_disable" ∷ codes "__rtsan_enable" ∷ codes "exit" ∷ codes "abort" ∷ []

abbrev pub is_ordinary_name : Lexeme → Bool
is_ordinary_name t = is k.Name t && not (has_text reserved_names t)

-- no specifier was read yet
abbrev pub no_specs : SpecsState
no_specs = record { storage = NoStorage; is_thread_local = false; type_specifiers = None }

abbrev pub has_no_storage : StorageClass → Bool
has_no_storage NoStorage = true
has_no_storage _ = false

abbrev pub is_static : StorageClass → Bool
is_static StaticStorage = true
is_static _ = false

abbrev pub is_storage_word : SpecifierContext → SpecsState → Lexeme → Bool
is_storage_word FileContext state t = is k.ThreadLocal t || (is_among (k.Typedef ∷ k.Static ∷ k.Extern ∷ []) t && has_no_storage state.storage)
is_storage_word BlockContext state t = is k.ThreadLocal t || (is k.Static t && has_no_storage state.storage)
is_storage_word _ state t = false

abbrev pub is_function_word : Scope → Lexeme → Bool
is_function_word s t = is_among (k.Inline ∷ k.NoReturn ∷ []) t && not s.block

abbrev pub is_qualifier : Lexeme → Bool
is_qualifier t = is_among (k.Const ∷ k.Volatile ∷ k.Restrict ∷ []) t

-- the type word joins what was read before it
abbrev pub joins : Option TypeSpecifiers → Terminal → Bool
joins None terminal = true
joins (Some CharSpecifier) k.Signed = true
joins (Some IntSpecifier) k.Signed = true
joins (Some IntSpecifier) k.Unsigned = true
joins (Some SignedSpecifier) k.Char = true
joins (Some SignedSpecifier) k.Int = true
joins (Some UnsignedSpecifier) k.Int = true
joins (Some type_specifiers) terminal = false

abbrev pub joined : Option TypeSpecifiers → Terminal → TypeSpecifiers
joined None k.Char = CharSpecifier
joined None k.Int = IntSpecifier
joined None k.Signed = SignedSpecifier
joined None k.Unsigned = UnsignedSpecifier
joined type_specifiers terminal = CompleteSpecifiers

abbrev pub is_type_word : SpecsState → Lexeme → Bool
is_type_word state t = is_among (k.Void ∷ k.Char ∷ k.Int ∷ k.Signed ∷ k.Unsigned ∷ []) t && joins state.type_specifiers t.terminal

-- a typedef name, where no type specifier stands before it
abbrev pub is_type_here : Scope → SpecsState → Lexeme → Bool
is_type_here s state t = is k.Name t && (is_none state.type_specifiers && has_type s.types t)

-- a specifier of one word
abbrev pub is_spec_word : SpecifierContext → Scope → SpecsState → Lexeme → Bool
is_spec_word context s state t =
    is_storage_word context state t
    || (is_function_word s t || (is_qualifier t || (is_type_word state t || is_type_here s state t)))

abbrev pub after_terminal : SpecsState → Terminal → SpecsState
after_terminal state k.Typedef = record state { storage = OtherStorage }
after_terminal state k.Static = record state { storage = StaticStorage }
after_terminal state k.Extern = record state { storage = OtherStorage }
after_terminal state k.ThreadLocal = record state { is_thread_local = true }
after_terminal state k.Void = record state { type_specifiers = Some CompleteSpecifiers }
after_terminal state k.Char = record state { type_specifiers = Some (joined state.type_specifiers k.Char) }
after_terminal state k.Int = record state { type_specifiers = Some (joined state.type_specifiers k.Int) }
after_terminal state k.Signed = record state { type_specifiers = Some (joined state.type_specifiers k.Signed) }
after_terminal state k.Unsigned = record state { type_specifiers = Some (joined state.type_specifiers k.Unsigned) }
after_terminal state k.Name = record state { type_specifiers = Some CompleteSpecifiers }
after_terminal state _ = state

abbrev pub after_type : SpecsState → SpecsState
after_type state = record state { type_specifiers = Some CompleteSpecifiers }

abbrev pub spec_of : Terminal → Lexeme → Spec
spec_of k.Typedef t = spec.Storage (place t) storage.Typedef
spec_of k.Static t = spec.Storage (place t) storage.Static
spec_of k.Extern t = spec.Storage (place t) storage.Extern
spec_of k.ThreadLocal t = spec.Storage (place t) storage.ThreadLocal
spec_of k.Inline t = spec.Function (place t) function_word.Inline
spec_of k.NoReturn t = spec.Function (place t) function_word.NoReturn
spec_of k.Const t = spec.Qualifier (place t) qualifier.Const
spec_of k.Volatile t = spec.Qualifier (place t) qualifier.Volatile
spec_of k.Restrict t = spec.Qualifier (place t) qualifier.Restrict
spec_of k.Void t = spec.Type (place t) type_word.Void
spec_of k.Char t = spec.Type (place t) type_word.Char
spec_of k.Int t = spec.Type (place t) type_word.Int
spec_of k.Signed t = spec.Type (place t) type_word.Signed
spec_of k.Unsigned t = spec.Type (place t) type_word.Unsigned
spec_of _ t = spec.TypedefName (span t)

-- The words of a type, if there are any, are one whole form, and `_Thread_local` in a block stands with `static`.
-- This is asked where the specifiers end.
abbrev pub has_static : SpecifierContext → SpecsState → Bool
has_static BlockContext state = not state.is_thread_local || is_static state.storage
has_static _ state = true

abbrev pub is_whole : SpecifierContext → SpecsState → Bool
is_whole context state = is_some state.type_specifiers && has_static context state

-- structures and enumerations are defined here
abbrev pub defines : SpecifierContext → Bool
defines FileContext = true
defines MemberContext = true
defines _ = false

-- an abstract declarator, which may begin with a `[`, may follow
abbrev pub is_abstract : SpecifierContext → Bool
is_abstract TypeContext = true
is_abstract BarredContext = true
is_abstract _ = false

abbrev pub is_barred : SpecifierContext → Bool
is_barred BarredContext = true
is_barred _ = false

-- behind the first specifier a bracket may stand
abbrev pub next_context : SpecifierContext → SpecifierContext
next_context BarredContext = TypeContext
next_context context = context

abbrev pub with_spec : Spec → SpecsRead → SpecsRead
with_spec first more = record { specs = first ∷ more.specs; bracket = more.bracket }

abbrev pub more_specs : SpecifierContext → Scope → SpecsState → Spec → Reading SpecsRead
more_specs context s state first = Call (Specs (next_context context) s state) (λ more. Return (with_spec first more))

abbrev pub opens_definition : SpecifierContext → Lexeme → Bool
opens_definition context t = is k.OpenBrace t && defines context

-- A tag with a definition behind it or alone, or a definition without a tag.
abbrev pub tagged : SpecifierContext → (Option Span → Reading SpecsRead) → (Span → Reading SpecsRead) → Reading SpecsRead
tagged context definition alone =
    Either (word k.Name (λ tag. Either (Take (opens_definition context) (λ o. definition (Some (span tag)))) (alone (span tag))))
    (Take (opens_definition context) (λ o. definition None))

abbrev pub structure : SpecifierContext → Scope → SpecsState → ℕ → Reading SpecsRead
structure context s state p =
    tagged context (λ tag. Call (Members s) (λ lines. more_specs context s state (spec.Struct p tag lines)))
    (λ tag. more_specs context s state (spec.StructName p tag))

abbrev pub enumeration : SpecifierContext → Scope → SpecsState → ℕ → Reading SpecsRead
enumeration context s state p =
    tagged context (λ tag. Call (Enumerators s) (λ lines. more_specs context s state (spec.Enum p tag lines)))
    (λ tag. more_specs context s state (spec.EnumName p tag))

abbrev pub attr : ℕ → AttrSpelling → List AttrWord → Attr
attr p spelling words = record { place = p; spelling = spelling; words = words }

-- `__attribute__` behind that word
abbrev pub gnu_rest : {A : Type 0} → (List AttrWord → Reading A) → Reading A
gnu_rest rest = word k.OpenParen (λ t. word k.OpenParen (λ u. Call GnuWords rest))

-- a whole end of the specifiers, with what was read
abbrev pub end_specs : Bool → Option ℕ → Reading SpecsRead
end_specs true bracket = Return (record { specs = []; bracket = bracket })
end_specs false bracket = dead_end (record { specs = []; bracket = bracket })

-- Behind the specifiers of a parameter or a type name a `[` begins an attribute or an array. One more token
-- decides: a second `[` makes it an attribute; else the specifiers have ended before it, and its place is told. An
-- array is a node and an attribute none, so the `[` itself is never refused for depth, and a node that begins with
-- the token behind it asks the same as one that begins with the `[`.
abbrev pub bracket_rest : Bool → SpecifierContext → Scope → SpecsState → ℕ → Reading SpecsRead
bracket_rest ends context s state p =
    Either (word k.OpenBracket (λ o. Call ClangWords (λ words. more_specs context s state (spec.Attribute (attr p Brackets words)))))
    (end_specs ends (Some p))

abbrev pub specs_until : Bool → SpecifierContext → Scope → SpecsState → Reading SpecsRead
specs_until ends context s state =
    Either (Take (is_spec_word context s state) (λ t. more_specs context s (after_terminal state t.terminal) (spec_of t.terminal t)))
    (Either (Take (λ t. is k.Struct t && is_none state.type_specifiers) (λ t. structure context s (after_type state) (place t)))
    (Either (Take (λ t. is k.Enum t && is_none state.type_specifiers) (λ t. enumeration context s (after_type state) (place t)))
    (Either (word k.Attribute (λ t. gnu_rest (λ words. more_specs context s state (spec.Attribute (attr (place t) Gnu words)))))
    (Either (Take (λ t. is k.OpenBracket t && not (is_barred context)) (λ t. bracket_rest (is_abstract context && ends) context s state (place t)))
    (end_specs ends None)))))

abbrev pub specs : SpecifierContext → Scope → SpecsState → Reading SpecsRead
specs context s state = specs_until (is_whole context state) context s state

-- the lines of a structure up to its `}`, and the declarators of a line up to their `;`
abbrev pub members : Scope → Reading (List Member)
members s =
    Call (Specs MemberContext s no_specs) (λ x. Call (MemberDeclarators s) (λ ds.
    Either (word k.CloseBrace (λ c. Return (record { place = specs_place x.specs; specs = x.specs; declarators = ds } ∷ [])))
    (Call (Members s) (λ more. Return (record { place = specs_place x.specs; specs = x.specs; declarators = ds } ∷ more)))))

abbrev pub member_declarators : Scope → Reading (List declarator.Declarator)
member_declarators s =
    Call (Declarator s MemberKind Unknown) (λ d.
    Either (word k.Comma (λ c. Call (MemberDeclarators s) (λ more. Return (d.tree ∷ more))))
    (word k.Semicolon (λ c. Return (d.tree ∷ []))))

-- the enumerators up to the `}`
abbrev pub enumerator_rest : Scope → Lexeme → Option Expr → Reading (List Enumerator)
enumerator_rest s name value =
    Either (word k.CloseBrace (λ c. Return (record { name = span name; value = value } ∷ [])))
    (word k.Comma (λ c. Either (word k.CloseBrace (λ d. Return (record { name = span name; value = value } ∷ [])))
    (Call (Enumerators s) (λ more. Return (record { name = span name; value = value } ∷ more)))))

abbrev pub enumerators : Scope → Reading (List Enumerator)
enumerators s =
    Take is_ordinary_name (λ name. Either
    (word k.Equal (λ t. Call (Conditional s) (λ value. enumerator_rest s name (Some value))))
    (enumerator_rest s name None))

-- the words of an attribute, up to its end
abbrev pub is_word : List ℕ → Lexeme → Bool
is_word text t = is k.Name t && has_text (text ∷ []) t

abbrev pub clang_words : Reading (List AttrWord)
clang_words =
    Take (is_word (codes "clang")) (λ t. word k.Colon (λ u. word k.Colon (λ v. Call (Effect Brackets) (λ one.
    Either (word k.Comma (λ c. Call ClangWords (λ more. Return (one ∷ more))))
    (word k.CloseBracket (λ c. word k.CloseBracket (λ d. Return (one ∷ []))))))))

abbrev pub gnu_words : Reading (List AttrWord)
gnu_words =
    Call (Effect Gnu) (λ one.
    Either (word k.Comma (λ c. Call GnuWords (λ more. Return (one ∷ more))))
    (word k.CloseParen (λ c. word k.CloseParen (λ d. Return (one ∷ [])))))

-- the effects that may have an argument, and the others
abbrev pub has_argument : Lexeme → Bool
has_argument t = is k.Name t && has_text (codes "nonblocking" ∷ codes "nonallocating" ∷ []) t

abbrev pub plain_effects : AttrSpelling → List (List ℕ)
plain_effects Brackets = codes "blocking" ∷ codes "allocating" ∷ []
plain_effects Gnu = codes "blocking" ∷ codes "allocating" ∷ codes "noreturn" ∷ []

abbrev pub is_plain_effect : AttrSpelling → Lexeme → Bool
is_plain_effect spelling t = not (has_argument t) && (is k.Name t && has_text (plain_effects spelling) t)

abbrev pub is_truth : Lexeme → Bool
is_truth t = is k.Name t && has_text (codes "true" ∷ codes "false" ∷ []) t

abbrev pub effect_with : Lexeme → Option Bool → AttrWord
effect_with t argument =
    record { place = place t; effect = cond (has_text (codes "nonblocking" ∷ []) t) (effect.NonBlocking argument) (effect.NonAllocating argument) }

abbrev pub plain_effect : Lexeme → AttrWord
plain_effect t =
    record { place = place t; effect = cond (has_text (codes "blocking" ∷ []) t) effect.Blocking (cond (has_text (codes "allocating" ∷ []) t) effect.Allocating effect.NoReturn) }

abbrev pub effect_parts : AttrSpelling → Reading AttrWord
effect_parts spelling =
    Either (Take has_argument (λ t. Either
    (word k.OpenParen (λ o. Take is_truth (λ v. word k.CloseParen (λ c. Return (effect_with t (Some (has_text (codes "true" ∷ []) v)))))))
    (Return (effect_with t None))))
    (Take (is_plain_effect spelling) (λ t. Return (plain_effect t)))

-- The attributes behind a parameter list. A `[` there begins an attribute or makes an array of the declarator;
-- as behind specifiers, one more token decides.
abbrev pub with_attribute : Attr → AttributesRead → AttributesRead
with_attribute first more = record { attributes = first ∷ more.attributes; bracket = more.bracket }

abbrev pub attributes : Scope → Reading AttributesRead
attributes s =
    Either (word k.OpenBracket (λ t. Either
    (word k.OpenBracket (λ o. Call ClangWords (λ words. Call (Attributes s) (λ more. Return (with_attribute (attr (place t) Brackets words) more)))))
    (Return (record { attributes = []; bracket = Some (place t) }))))
    (Either (word k.Attribute (λ t. gnu_rest (λ words. Call (Attributes s) (λ more. Return (with_attribute (attr (place t) Gnu words) more)))))
    (Return (record { attributes = []; bracket = None })))

-- what the specifiers tell of a `[` at the front of the declarator behind them
abbrev pub after : Option ℕ → Bracket
after None = Passed
after (Some p) = Opened p

abbrev pub type_name : Scope → Reading names.TypeName
type_name s =
    Call (Specs TypeContext s no_specs) (λ x. Call (Declarator s AbstractKind (after x.bracket))
    (λ d. Return (record { place = specs_place x.specs; specs = x.specs; declarator = d.tree })))
