-- The text that `gen` makes for a number of functions.
use Rattle.std.specs.Prelude.{ℕ, ◌-◌, ◌/◌, ◌%◌, ◌==◌, if◌then◌else◌, List, [], ◌∷◌, codes, decimal, flat_map}
use Rattle.std.specs.List.{concat, range_with_len}

-- each fourth function is marked
abbrev pub attribute : ℕ → List ℕ
attribute number = if number % 4 == 3 then codes " [[clang::nonblocking]]" else []

-- a function writes an element of `g` and calls the function of half its number
unfoldable pub function_line : ℕ → List ℕ
function_line number = concat (codes "int f" ∷ decimal number ∷ codes "(int x)" ∷ attribute number ∷ codes " { g[" ∷ decimal (number % 8)
    ∷ codes "] = x; return f" ∷ decimal ((number - 1) / 2) ∷ codes "(x) + 1; }\n" ∷ [])

-- `main` calls each function
unfoldable pub call_line : ℕ → List ℕ
call_line number = concat (codes "  s = s + f" ∷ decimal number ∷ codes "(" ∷ decimal number ∷ codes ") % 100;\n" ∷ [])

-- the lines in order
unfoldable pub generated_text : ℕ → List ℕ
generated_text count = concat (
    codes "int g[8];\n" ∷ codes "int f0(int x) { return x + 1; }\n"
    ∷ flat_map function_line (range_with_len 1 (count - 1))
    ∷ codes "int main(void) {\n" ∷ codes "  int s = 0;\n"
    ∷ flat_map call_line (range_with_len 0 count)
    ∷ codes "  return s % 256;\n" ∷ codes "}\n" ∷ [])
