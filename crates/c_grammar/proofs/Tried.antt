-- The grammar tried on small files: what is read, and where a file is refused.
use Rattle.std.proofs.Common.{◌≡◌, true, [], ◌∷◌, refl, codes, not, ◌==◌, ◌++◌}
use Rattle.grammar.specs.Parser.{parse}
use Rattle.c_grammar.specs.declared.terminal.Terminal.TheVariants as k
use Rattle.std.specs.List.{list_all}
use Rattle.c_text.specs.Words.{doubles, singles}
use Rattle.c_text.specs.declared.TokenKind.TheVariants as kinds
use Rattle.c_grammar.specs.Lexemes.{number, terminal_of, keyword_terminals, punctuator_terminals}
use Rattle.c_grammar.specs.Worked.{terminal, name, reads, refused_at}

-- int x; static int y = 1, *z = {1, 2,}; unsigned int a[3]; typedef int T; T b; T *c;
declarations : reads 200 (
    terminal k.Int ∷ name (codes "x") ∷ terminal k.Semicolon ∷ terminal k.Static ∷ terminal k.Int ∷ name (codes "y") ∷ terminal k.Equal ∷ terminal k.Number ∷
    terminal k.Comma ∷ terminal k.Star ∷ name (codes "z") ∷ terminal k.Equal ∷ terminal k.OpenBrace ∷ terminal k.Number ∷ terminal k.Comma ∷ terminal k.Number ∷
    terminal k.Comma ∷ terminal k.CloseBrace ∷ terminal k.Semicolon ∷ terminal k.Unsigned ∷ terminal k.Int ∷ name (codes "a") ∷ terminal k.OpenBracket ∷
    terminal k.Number ∷ terminal k.CloseBracket ∷ terminal k.Semicolon ∷ terminal k.Typedef ∷ terminal k.Int ∷ name (codes "T") ∷ terminal k.Semicolon ∷
    name (codes "T") ∷ name (codes "b") ∷ terminal k.Semicolon ∷ name (codes "T") ∷ terminal k.Star ∷ name (codes "c") ∷ terminal k.Semicolon ∷ []) ≡ true
unfolding parse
declarations = refl

-- int f(int a, char *b) { return a + b[0]; } void g(void) [[clang::nonblocking]] { f(1, 2); }
functions : reads 200 (
    terminal k.Int ∷ name (codes "f") ∷ terminal k.OpenParen ∷ terminal k.Int ∷ name (codes "a") ∷ terminal k.Comma ∷ terminal k.Char ∷ terminal k.Star ∷
    name (codes "b") ∷ terminal k.CloseParen ∷ terminal k.OpenBrace ∷ terminal k.Return ∷ name (codes "a") ∷ terminal k.Plus ∷ name (codes "b") ∷
    terminal k.OpenBracket ∷ terminal k.Number ∷ terminal k.CloseBracket ∷ terminal k.Semicolon ∷ terminal k.CloseBrace ∷ terminal k.Void ∷ name (codes "g") ∷
    terminal k.OpenParen ∷ terminal k.Void ∷ terminal k.CloseParen ∷ terminal k.OpenBracket ∷ terminal k.OpenBracket ∷ name (codes "clang") ∷ terminal k.Colon ∷
    terminal k.Colon ∷ name (codes "nonblocking") ∷ terminal k.CloseBracket ∷ terminal k.CloseBracket ∷ terminal k.OpenBrace ∷ name (codes "f") ∷
    terminal k.OpenParen ∷ terminal k.Number ∷ terminal k.Comma ∷ terminal k.Number ∷ terminal k.CloseParen ∷ terminal k.Semicolon ∷ terminal k.CloseBrace ∷ []) ≡ true
unfolding parse
functions = refl

-- void f(void) __attribute__((nonblocking(true), noreturn)); [[clang::blocking]] int g(void) [[clang::allocating]][3];
attributes : reads 200 (
    terminal k.Void ∷ name (codes "f") ∷ terminal k.OpenParen ∷ terminal k.Void ∷ terminal k.CloseParen ∷ terminal k.Attribute ∷ terminal k.OpenParen ∷
    terminal k.OpenParen ∷ name (codes "nonblocking") ∷ terminal k.OpenParen ∷ name (codes "true") ∷ terminal k.CloseParen ∷ terminal k.Comma ∷
    name (codes "noreturn") ∷ terminal k.CloseParen ∷ terminal k.CloseParen ∷ terminal k.Semicolon ∷ terminal k.OpenBracket ∷ terminal k.OpenBracket ∷
    name (codes "clang") ∷ terminal k.Colon ∷ terminal k.Colon ∷ name (codes "blocking") ∷ terminal k.CloseBracket ∷ terminal k.CloseBracket ∷ terminal k.Int ∷
    name (codes "g") ∷ terminal k.OpenParen ∷ terminal k.Void ∷ terminal k.CloseParen ∷ terminal k.OpenBracket ∷ terminal k.OpenBracket ∷ name (codes "clang") ∷
    terminal k.Colon ∷ terminal k.Colon ∷ name (codes "allocating") ∷ terminal k.CloseBracket ∷ terminal k.CloseBracket ∷ terminal k.OpenBracket ∷ terminal k.Number ∷
    terminal k.CloseBracket ∷ terminal k.Semicolon ∷ []) ≡ true
unfolding parse
attributes = refl

-- struct s { int a; struct { int free; } b, *c; } t; enum e { A = 1, B, }; struct s u;
structures : reads 200 (
    terminal k.Struct ∷ name (codes "s") ∷ terminal k.OpenBrace ∷ terminal k.Int ∷ name (codes "a") ∷ terminal k.Semicolon ∷ terminal k.Struct ∷
    terminal k.OpenBrace ∷ terminal k.Int ∷ name (codes "free") ∷ terminal k.Semicolon ∷ terminal k.CloseBrace ∷ name (codes "b") ∷ terminal k.Comma ∷
    terminal k.Star ∷ name (codes "c") ∷ terminal k.Semicolon ∷ terminal k.CloseBrace ∷ name (codes "t") ∷ terminal k.Semicolon ∷ terminal k.Enum ∷
    name (codes "e") ∷ terminal k.OpenBrace ∷ name (codes "A") ∷ terminal k.Equal ∷ terminal k.Number ∷ terminal k.Comma ∷ name (codes "B") ∷ terminal k.Comma ∷
    terminal k.CloseBrace ∷ terminal k.Semicolon ∷ terminal k.Struct ∷ name (codes "s") ∷ name (codes "u") ∷ terminal k.Semicolon ∷ []) ≡ true
unfolding parse
structures = refl

-- typedef int T(void) { T x; } T y;
defined_typedef : reads 200 (
    terminal k.Typedef ∷ terminal k.Int ∷ name (codes "T") ∷ terminal k.OpenParen ∷ terminal k.Void ∷ terminal k.CloseParen ∷ terminal k.OpenBrace ∷
    name (codes "T") ∷ name (codes "x") ∷ terminal k.Semicolon ∷ terminal k.CloseBrace ∷ name (codes "T") ∷ name (codes "y") ∷ terminal k.Semicolon ∷ []) ≡ true
unfolding parse
defined_typedef = refl

-- typedef int T; void f(void) { int x = (T)1 + sizeof(T) + sizeof(x)[1] + (T*)(x)->y; x = (x) + 1; }
casts : reads 200 (
    terminal k.Typedef ∷ terminal k.Int ∷ name (codes "T") ∷ terminal k.Semicolon ∷ terminal k.Void ∷ name (codes "f") ∷ terminal k.OpenParen ∷ terminal k.Void ∷
    terminal k.CloseParen ∷ terminal k.OpenBrace ∷ terminal k.Int ∷ name (codes "x") ∷ terminal k.Equal ∷ terminal k.OpenParen ∷ name (codes "T") ∷
    terminal k.CloseParen ∷ terminal k.Number ∷ terminal k.Plus ∷ terminal k.Sizeof ∷ terminal k.OpenParen ∷ name (codes "T") ∷ terminal k.CloseParen ∷ terminal k.Plus ∷
    terminal k.Sizeof ∷ terminal k.OpenParen ∷ name (codes "x") ∷ terminal k.CloseParen ∷ terminal k.OpenBracket ∷ terminal k.Number ∷ terminal k.CloseBracket ∷
    terminal k.Plus ∷ terminal k.OpenParen ∷ name (codes "T") ∷ terminal k.Star ∷ terminal k.CloseParen ∷ terminal k.OpenParen ∷ name (codes "x") ∷
    terminal k.CloseParen ∷ terminal k.Arrow ∷ name (codes "y") ∷ terminal k.Semicolon ∷ name (codes "x") ∷ terminal k.Equal ∷ terminal k.OpenParen ∷
    name (codes "x") ∷ terminal k.CloseParen ∷ terminal k.Plus ∷ terminal k.Number ∷ terminal k.Semicolon ∷ terminal k.CloseBrace ∷ []) ≡ true
unfolding parse
casts = refl

-- void f(void) { for (int i = 0; i < 3; i++) if (i) break; else continue; do ; while (1); while (1) { } if (1) if (2) ; else ; }
statements : reads 200 (
    terminal k.Void ∷ name (codes "f") ∷ terminal k.OpenParen ∷ terminal k.Void ∷ terminal k.CloseParen ∷ terminal k.OpenBrace ∷ terminal k.For ∷ terminal k.OpenParen ∷
    terminal k.Int ∷ name (codes "i") ∷ terminal k.Equal ∷ terminal k.Number ∷ terminal k.Semicolon ∷ name (codes "i") ∷ terminal k.Less ∷ terminal k.Number ∷
    terminal k.Semicolon ∷ name (codes "i") ∷ terminal k.Increment ∷ terminal k.CloseParen ∷ terminal k.If ∷ terminal k.OpenParen ∷ name (codes "i") ∷
    terminal k.CloseParen ∷ terminal k.Break ∷ terminal k.Semicolon ∷ terminal k.Else ∷ terminal k.Continue ∷ terminal k.Semicolon ∷ terminal k.Do ∷ terminal k.Semicolon ∷
    terminal k.While ∷ terminal k.OpenParen ∷ terminal k.Number ∷ terminal k.CloseParen ∷ terminal k.Semicolon ∷ terminal k.While ∷ terminal k.OpenParen ∷ terminal k.Number ∷
    terminal k.CloseParen ∷ terminal k.OpenBrace ∷ terminal k.CloseBrace ∷ terminal k.If ∷ terminal k.OpenParen ∷ terminal k.Number ∷ terminal k.CloseParen ∷ terminal k.If ∷
    terminal k.OpenParen ∷ terminal k.Number ∷ terminal k.CloseParen ∷ terminal k.Semicolon ∷ terminal k.Else ∷ terminal k.Semicolon ∷ terminal k.CloseBrace ∷ []) ≡ true
unfolding parse
statements = refl

-- int (*f)(int), (*(*g)(int (*)(void), int []))[3]; void h(int (*)(int), int [2], int *[], int ());
declarators : reads 200 (
    terminal k.Int ∷ terminal k.OpenParen ∷ terminal k.Star ∷ name (codes "f") ∷ terminal k.CloseParen ∷ terminal k.OpenParen ∷ terminal k.Int ∷ terminal k.CloseParen ∷
    terminal k.Comma ∷ terminal k.OpenParen ∷ terminal k.Star ∷ terminal k.OpenParen ∷ terminal k.Star ∷ name (codes "g") ∷ terminal k.CloseParen ∷ terminal k.OpenParen ∷
    terminal k.Int ∷ terminal k.OpenParen ∷ terminal k.Star ∷ terminal k.CloseParen ∷ terminal k.OpenParen ∷ terminal k.Void ∷ terminal k.CloseParen ∷ terminal k.Comma ∷
    terminal k.Int ∷ terminal k.OpenBracket ∷ terminal k.CloseBracket ∷ terminal k.CloseParen ∷ terminal k.CloseParen ∷ terminal k.OpenBracket ∷ terminal k.Number ∷
    terminal k.CloseBracket ∷ terminal k.Semicolon ∷ terminal k.Void ∷ name (codes "h") ∷ terminal k.OpenParen ∷ terminal k.Int ∷ terminal k.OpenParen ∷ terminal k.Star ∷
    terminal k.CloseParen ∷ terminal k.OpenParen ∷ terminal k.Int ∷ terminal k.CloseParen ∷ terminal k.Comma ∷ terminal k.Int ∷ terminal k.OpenBracket ∷ terminal k.Number ∷
    terminal k.CloseBracket ∷ terminal k.Comma ∷ terminal k.Int ∷ terminal k.Star ∷ terminal k.OpenBracket ∷ terminal k.CloseBracket ∷ terminal k.Comma ∷ terminal k.Int ∷
    terminal k.OpenParen ∷ terminal k.CloseParen ∷ terminal k.CloseParen ∷ terminal k.Semicolon ∷ []) ≡ true
unfolding parse
declarators = refl

-- typedef int T; void f(int T) { T = 1; } void g(void) { T T = 1; T = 2; }
hidden_names : reads 200 (
    terminal k.Typedef ∷ terminal k.Int ∷ name (codes "T") ∷ terminal k.Semicolon ∷ terminal k.Void ∷ name (codes "f") ∷ terminal k.OpenParen ∷ terminal k.Int ∷
    name (codes "T") ∷ terminal k.CloseParen ∷ terminal k.OpenBrace ∷ name (codes "T") ∷ terminal k.Equal ∷ terminal k.Number ∷ terminal k.Semicolon ∷
    terminal k.CloseBrace ∷ terminal k.Void ∷ name (codes "g") ∷ terminal k.OpenParen ∷ terminal k.Void ∷ terminal k.CloseParen ∷ terminal k.OpenBrace ∷
    name (codes "T") ∷ name (codes "T") ∷ terminal k.Equal ∷ terminal k.Number ∷ terminal k.Semicolon ∷ name (codes "T") ∷ terminal k.Equal ∷ terminal k.Number ∷
    terminal k.Semicolon ∷ terminal k.CloseBrace ∷ []) ≡ true
unfolding parse
hidden_names = refl

-- typedef int T; void f(int (T), int (T x));
typedef_param : reads 200 (
    terminal k.Typedef ∷ terminal k.Int ∷ name (codes "T") ∷ terminal k.Semicolon ∷ terminal k.Void ∷ name (codes "f") ∷ terminal k.OpenParen ∷ terminal k.Int ∷
    terminal k.OpenParen ∷ name (codes "T") ∷ terminal k.CloseParen ∷ terminal k.Comma ∷ terminal k.Int ∷ terminal k.OpenParen ∷ name (codes "T") ∷
    name (codes "x") ∷ terminal k.CloseParen ∷ terminal k.CloseParen ∷ terminal k.Semicolon ∷ []) ≡ true
unfolding parse
typedef_param = refl

-- typedef int T; void f(void) { { int T; T = 1; } T x; }
scopes : reads 200 (
    terminal k.Typedef ∷ terminal k.Int ∷ name (codes "T") ∷ terminal k.Semicolon ∷ terminal k.Void ∷ name (codes "f") ∷ terminal k.OpenParen ∷ terminal k.Void ∷
    terminal k.CloseParen ∷ terminal k.OpenBrace ∷ terminal k.OpenBrace ∷ terminal k.Int ∷ name (codes "T") ∷ terminal k.Semicolon ∷ name (codes "T") ∷
    terminal k.Equal ∷ terminal k.Number ∷ terminal k.Semicolon ∷ terminal k.CloseBrace ∷ name (codes "T") ∷ name (codes "x") ∷ terminal k.Semicolon ∷
    terminal k.CloseBrace ∷ []) ≡ true
unfolding parse
scopes = refl

-- void f(void) { int g(void); }
function_in_a_block : refused_at 200 (
    terminal k.Void ∷ name (codes "f") ∷ terminal k.OpenParen ∷ terminal k.Void ∷ terminal k.CloseParen ∷ terminal k.OpenBrace ∷ terminal k.Int ∷ name (codes "g") ∷
    terminal k.OpenParen ∷ terminal k.Void ∷ terminal k.CloseParen ∷ terminal k.Semicolon ∷ terminal k.CloseBrace ∷ []) ≡ 8
unfolding parse
function_in_a_block = refl

-- void f(void) { extern int g; }
extern_in_a_block : refused_at 200 (
    terminal k.Void ∷ name (codes "f") ∷ terminal k.OpenParen ∷ terminal k.Void ∷ terminal k.CloseParen ∷ terminal k.OpenBrace ∷ terminal k.Extern ∷ terminal k.Int ∷
    name (codes "g") ∷ terminal k.Semicolon ∷ terminal k.CloseBrace ∷ []) ≡ 6
unfolding parse
extern_in_a_block = refl

-- void f(void) { break; }
break_alone : refused_at 200 (
    terminal k.Void ∷ name (codes "f") ∷ terminal k.OpenParen ∷ terminal k.Void ∷ terminal k.CloseParen ∷ terminal k.OpenBrace ∷ terminal k.Break ∷ terminal k.Semicolon ∷
    terminal k.CloseBrace ∷ []) ≡ 6
unfolding parse
break_alone = refl

-- static extern int x;
two_storages : refused_at 200 (
    terminal k.Static ∷ terminal k.Extern ∷ terminal k.Int ∷ name (codes "x") ∷ terminal k.Semicolon ∷ []) ≡ 1
unfolding parse
two_storages = refl

-- unsigned char c;
unsigned_char : refused_at 200 (
    terminal k.Unsigned ∷ terminal k.Char ∷ name (codes "c") ∷ terminal k.Semicolon ∷ []) ≡ 1
unfolding parse
unsigned_char = refl

-- int malloc;
reserved : refused_at 200 (
    terminal k.Int ∷ name (codes "malloc") ∷ terminal k.Semicolon ∷ []) ≡ 1
unfolding parse
reserved = refl

-- void f(void) { goto a; }
goto : refused_at 200 (
    terminal k.Void ∷ name (codes "f") ∷ terminal k.OpenParen ∷ terminal k.Void ∷ terminal k.CloseParen ∷ terminal k.OpenBrace ∷ terminal k.Unused ∷
    name (codes "a") ∷ terminal k.Semicolon ∷ terminal k.CloseBrace ∷ []) ≡ 6
unfolding parse
goto = refl

-- void f(void) { 1 + 2 = 3; }
no_lvalue : refused_at 200 (
    terminal k.Void ∷ name (codes "f") ∷ terminal k.OpenParen ∷ terminal k.Void ∷ terminal k.CloseParen ∷ terminal k.OpenBrace ∷ terminal k.Number ∷ terminal k.Plus ∷
    terminal k.Number ∷ terminal k.Equal ∷ terminal k.Number ∷ terminal k.Semicolon ∷ terminal k.CloseBrace ∷ []) ≡ 9
unfolding parse
no_lvalue = refl

-- typedef int T; void f(int T, T x);
hidden_type : refused_at 200 (
    terminal k.Typedef ∷ terminal k.Int ∷ name (codes "T") ∷ terminal k.Semicolon ∷ terminal k.Void ∷ name (codes "f") ∷ terminal k.OpenParen ∷ terminal k.Int ∷
    name (codes "T") ∷ terminal k.Comma ∷ name (codes "T") ∷ name (codes "x") ∷ terminal k.CloseParen ∷ terminal k.Semicolon ∷ []) ≡ 10
unfolding parse
hidden_type = refl

-- void f(void) { struct s { int a; } x; }
structure_in_a_block : refused_at 200 (
    terminal k.Void ∷ name (codes "f") ∷ terminal k.OpenParen ∷ terminal k.Void ∷ terminal k.CloseParen ∷ terminal k.OpenBrace ∷ terminal k.Struct ∷
    name (codes "s") ∷ terminal k.OpenBrace ∷ terminal k.Int ∷ name (codes "a") ∷ terminal k.Semicolon ∷ terminal k.CloseBrace ∷ name (codes "x") ∷
    terminal k.Semicolon ∷ terminal k.CloseBrace ∷ []) ≡ 8
unfolding parse
structure_in_a_block = refl

-- int f(int)[3];
bracket : refused_at 200 (
    terminal k.Int ∷ name (codes "f") ∷ terminal k.OpenParen ∷ terminal k.Int ∷ terminal k.CloseParen ∷ terminal k.OpenBracket ∷ terminal k.Number ∷
    terminal k.CloseBracket ∷ terminal k.Semicolon ∷ []) ≡ 999
unfolding parse
bracket = refl

-- int f(void) [[clang::noreturn]];
two_attribute_brackets : refused_at 200 (
    terminal k.Int ∷ name (codes "f") ∷ terminal k.OpenParen ∷ terminal k.Void ∷ terminal k.CloseParen ∷ terminal k.OpenBracket ∷ terminal k.OpenBracket ∷
    name (codes "clang") ∷ terminal k.Colon ∷ terminal k.Colon ∷ name (codes "noreturn") ∷ terminal k.CloseBracket ∷ terminal k.CloseBracket ∷
    terminal k.Semicolon ∷ []) ≡ 10
unfolding parse
two_attribute_brackets = refl

-- int x = (1);
parentheses_are_a_node : refused_at 3 (
    terminal k.Int ∷ name (codes "x") ∷ terminal k.Equal ∷ terminal k.OpenParen ∷ terminal k.Number ∷ terminal k.CloseParen ∷ terminal k.Semicolon ∷ []) ≡ 999
unfolding parse
parentheses_are_a_node = refl

-- int x = (1);
no_room_for_the_number : refused_at 2 (
    terminal k.Int ∷ name (codes "x") ∷ terminal k.Equal ∷ terminal k.OpenParen ∷ terminal k.Number ∷ terminal k.CloseParen ∷ terminal k.Semicolon ∷ []) ≡ 4
unfolding parse
no_room_for_the_number = refl

-- void f(void) [[clang::blocking]];
attribute_has_no_node : refused_at 2 (
    terminal k.Void ∷ name (codes "f") ∷ terminal k.OpenParen ∷ terminal k.Void ∷ terminal k.CloseParen ∷ terminal k.OpenBracket ∷ terminal k.OpenBracket ∷
    name (codes "clang") ∷ terminal k.Colon ∷ terminal k.Colon ∷ name (codes "blocking") ∷ terminal k.CloseBracket ∷ terminal k.CloseBracket ∷
    terminal k.Semicolon ∷ []) ≡ 999
unfolding parse
attribute_has_no_node = refl

-- void f(void) [3];
array_of_a_function : refused_at 2 (
    terminal k.Void ∷ name (codes "f") ∷ terminal k.OpenParen ∷ terminal k.Void ∷ terminal k.CloseParen ∷ terminal k.OpenBracket ∷ terminal k.Number ∷
    terminal k.CloseBracket ∷ terminal k.Semicolon ∷ []) ≡ 6
unfolding parse
array_of_a_function = refl

-- int x = sizeof(int);
sizeof_type : refused_at 3 (
    terminal k.Int ∷ name (codes "x") ∷ terminal k.Equal ∷ terminal k.Sizeof ∷ terminal k.OpenParen ∷ terminal k.Int ∷ terminal k.CloseParen ∷ terminal k.Semicolon ∷ []) ≡ 999
unfolding parse
sizeof_type = refl

-- int x = sizeof(y);
sizeof_expression : refused_at 3 (
    terminal k.Int ∷ name (codes "x") ∷ terminal k.Equal ∷ terminal k.Sizeof ∷ terminal k.OpenParen ∷ name (codes "y") ∷ terminal k.CloseParen ∷
    terminal k.Semicolon ∷ []) ≡ 5
unfolding parse
sizeof_expression = refl

-- void f(void) { 1, 2, 3; }
comma_leans : refused_at 6 (
    terminal k.Void ∷ name (codes "f") ∷ terminal k.OpenParen ∷ terminal k.Void ∷ terminal k.CloseParen ∷ terminal k.OpenBrace ∷ terminal k.Number ∷ terminal k.Comma ∷
    terminal k.Number ∷ terminal k.Comma ∷ terminal k.Number ∷ terminal k.Semicolon ∷ terminal k.CloseBrace ∷ []) ≡ 999
unfolding parse
comma_leans = refl

-- void f(void) { 1, 2, 3; }
no_room_for_a_comma : refused_at 5 (
    terminal k.Void ∷ name (codes "f") ∷ terminal k.OpenParen ∷ terminal k.Void ∷ terminal k.CloseParen ∷ terminal k.OpenBrace ∷ terminal k.Number ∷ terminal k.Comma ∷
    terminal k.Number ∷ terminal k.Comma ∷ terminal k.Number ∷ terminal k.Semicolon ∷ terminal k.CloseBrace ∷ []) ≡ 9
unfolding parse
no_room_for_a_comma = refl

-- the terminals of words: each punctuator of one or two bytes has one of its own, and `...` is not used
while_terminal : terminal_of kinds.Keyword (codes "while") ≡ k.While
unfolding keyword_terminals
while_terminal = refl

goto_terminal : terminal_of kinds.Keyword (codes "goto") ≡ k.Unused
unfolding keyword_terminals
goto_terminal = refl

dots_terminal : terminal_of kinds.Punctuator (codes "...") ≡ k.Unused
unfolding punctuator_terminals
dots_terminal = refl

punctuators_used : list_all (λ w. not (number (terminal_of kinds.Punctuator w) == number k.Unused)) (doubles ++ singles) ≡ true
unfolding punctuator_terminals
punctuators_used = refl
