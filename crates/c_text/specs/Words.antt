-- The words of the language that are told one by one: keywords, punctuators, headers.
use Rattle.std.specs.Prelude.{ℕ, Bool, List, [], ◌∷◌, ◌++◌, codes}
use Rattle.std.specs.List.{list_any}
use Rattle.std.specs.Str.{bytes_eq}

-- whether a word is one of a list of words
abbrev pub is_one_of : List (List ℕ) → List ℕ → Bool
is_one_of words word = list_any (λ w. bytes_eq w word) words

-- the keywords (C17 6.4.1), and `__attribute__`
abbrev pub keywords : List (List ℕ)
keywords =
    codes "auto" ∷ codes "break" ∷ codes "case" ∷ codes "char" ∷ codes "const" ∷ codes "continue"
    ∷ codes "default" ∷ codes "do" ∷ codes "double" ∷ codes "else" ∷ codes "enum" ∷ codes "extern"
    ∷ codes "float" ∷ codes "for" ∷ codes "goto" ∷ codes "if" ∷ codes "inline" ∷ codes "int"
    ∷ codes "long" ∷ codes "register" ∷ codes "restrict" ∷ codes "return" ∷ codes "short"
    ∷ codes "signed" ∷ codes "sizeof" ∷ codes "static" ∷ codes "struct" ∷ codes "switch"
    ∷ codes "typedef" ∷ codes "union" ∷ codes "unsigned" ∷ codes "void" ∷ codes "volatile"
    ∷ codes "while" ∷ codes "_Alignas" ∷ codes "_Alignof" ∷ codes "_Atomic" ∷ codes "_Bool"
    ∷ codes "_Complex" ∷ codes "_Generic" ∷ codes "_Imaginary" ∷ codes "_Noreturn"
    ∷ codes "_Static_assert" ∷ codes "_Thread_local" ∷ codes "__attribute__" ∷ []

-- the punctuators of three, two and one bytes (C17 6.4.6, without `#`, `##` and the digraphs)
abbrev pub triples : List (List ℕ)
triples = codes "..." ∷ codes "<<=" ∷ codes ">>=" ∷ []

abbrev pub doubles : List (List ℕ)
doubles =
    codes "->" ∷ codes "++" ∷ codes "--" ∷ codes "<<" ∷ codes ">>" ∷ codes "<=" ∷ codes ">=" ∷ codes "=="
    ∷ codes "!=" ∷ codes "&&" ∷ codes "||" ∷ codes "*=" ∷ codes "/=" ∷ codes "%=" ∷ codes "+=" ∷ codes "-="
    ∷ codes "&=" ∷ codes "^=" ∷ codes "|=" ∷ []

abbrev pub singles : List (List ℕ)
singles =
    codes ";" ∷ codes "," ∷ codes "(" ∷ codes ")" ∷ codes "=" ∷ codes "{" ∷ codes "}" ∷ codes "*"
    ∷ codes "[" ∷ codes "]" ∷ codes "." ∷ codes "&" ∷ codes "+" ∷ codes "-" ∷ codes "<" ∷ codes ">"
    ∷ codes "!" ∷ codes "/" ∷ codes "%" ∷ codes ":" ∷ codes "?" ∷ codes "|" ∷ codes "^" ∷ codes "~" ∷ []

abbrev pub punctuators : List (List ℕ)
punctuators = triples ++ (doubles ++ singles)

-- the headers that a directive may name (this project's own rule)
abbrev pub headers : List (List ℕ)
headers =
    codes "<stdlib.h>" ∷ codes "<stdio.h>" ∷ codes "<unistd.h>" ∷ codes "<pthread.h>"
    ∷ codes "<sanitizer/rtsan_interface.h>" ∷ []
