-- Initializers in braces, part by part.
use Rattle.std.proofs.Common.{◌≡◌, ◌∙◌, refl, sym, ap, ℕ, ◌+◌, ◌<◌, ◌≤◌, Bool, true, false, List, [], ◌∷◌, ◌++◌, length, get_or, drop, Option, Some, None, arith}
use Rattle.std.proofs.Math.ListN.{drop_of_length-le}
use Rattle.std.proofs.lemmas.List.{drop_more, nil_from_length}
use Rattle.std.specs.Prelude.{◌==◌, if◌then◌else◌, nat_eq, nat_lt, slice_get, Err}
use denote.Hole.Carrier.{hidden}
use Rattle.c_tree.specs.declared.declarations.Init.{Init}
use Rattle.c_tree.specs.declared.declarations.Init.TheBlock.{hidden-the_row-Init-0, shape-the_row-Init-0}
use Rattle.c_tree.specs.declared.declarations.Init.TheVariants as written
use Rattle.c_tree.specs.declared.declarations.Init as form
use Rattle.c_tree.specs.declared.expressions.Expr.{Expr}
use Rattle.core_unit.specs.Layout.{words_of}
use Rattle.core_unit.specs.Shapes.{is_scalar, is_aggregate}
use Rattle.core_unit.specs.declared.body.Braces.TheVariants.{Bare}
use Rattle.core_unit.specs.declared.body.Initializer as made
use Rattle.core_unit.specs.declared.body.Initializer.{Initializer}
use Rattle.core_unit.specs.declared.body.Initializer.TheVariants as init
use Rattle.eff_types.specs.declared.types.CType.{CType}
use Rattle.eff_types.specs.declared.types.CType.TheBlock.{hidden-the_row-CType-0, shape-the_row-CType-0}
use Rattle.eff_types.specs.declared.types.CType.TheVariants as ctype
use Rattle.eff_types.specs.declared.types.FnType.{FnType}
use Rattle.type_initializers.proofs.ObjectForms.{count_row}
use Rattle.type_initializers.specs.Parts.{one_part, part_list, is_zero_list, braced_list, braced_first, parts_by, list_by, listed_as, is_zero_init, is_zero_alone, is_bare_zero}
use Rattle.type_recursion.proofs.Continued.{then_good, then_bad, then_assoc, then_alike, then_gives, then_end}
use Rattle.type_rules.specs.Access.{known_members}
use Rattle.type_rules.specs.InitialValues.{initializer_words}
use Rattle.type_rules.specs.Initializers.{initialized, parts, part, part_as, part_type, member_kind, by_expression, by_list, is_zeroing, braced, count, finished, listed}
use Rattle.type_rules.specs.Reading.{Read, Good, Bad, Rule, and_then, gives}
use Rattle.type_rules.specs.Seen.{Seen}
use Rattle.typing_state.specs.Answers.{Gives}
use Rattle.typing_state.specs.declared.stop.Stop.{Stop}
use Rattle.typing_state.specs.declared.stop.Stop.TheVariants as stop

-- a list of more than nothing
some : {A : Type 0} (x : A) (xs : List A) → (length (x ∷ xs) == 0) ≡ false
some x xs = grind arith

zeroing_row : (is : List Init) (source : List ℕ) → is_zeroing (hidden-the_row-Init-0 is) source ≡ is_zero_list source is
unfolding hidden hidden-the_row-Init-0 shape-the_row-Init-0
zeroing_row [] source = refl
zeroing_row (form.Value e ∷ []) source = refl
zeroing_row (i ∷ []) source = refl
zeroing_row (form.Value e ∷ j ∷ is) source = refl
zeroing_row (i ∷ j ∷ is) source = refl

-- one number of value 0 alone
pub zero-list : (source : List ℕ) (i : Init) (is : List Init) → is_zero_list source (i ∷ is) ≡ (if length is == 0 then is_zero_init source i else false)
zero-list source i [] = refl
zero-list source i (j ∷ is) = rw (some j is) refl

pub zero-alone : (i : Initializer) (is : List Initializer) → is_zero_alone (i ∷ is) ≡ (if length is == 0 then is_bare_zero i else false)
zero-alone i [] = refl
zero-alone i (j ∷ is) = rw (some j is) refl

pub zero-none : (source : List ℕ) (is : List Init) → length is ≡ 0 → is_zero_list source is ≡ false
zero-none source is none = ap (λ js. is_zero_list source js) (nil_from_length is none)

pub alone-none : (is : List Initializer) → length is ≡ 0 → is_zero_alone is ≡ false
alone-none is none = ap (λ js. is_zero_alone js) (nil_from_length is none)

pub braced-none : (fixed : Bool) (p : ℕ) (t : CType) (is : List Init) (s : Seen) → length is ≡ 0 → braced_list fixed p t is s ≡ Bad 9 p
braced-none fixed p t is s none = ap (λ js. braced_list fixed p t js s) (nil_from_length is none)

pub braced-some : (fixed : Bool) (p : ℕ) (t : CType) (i : Init) (is : List Init) (s : Seen) →
    braced_list fixed p t (i ∷ is) s ≡ braced_first fixed p t i (length is == 0) s
braced-some fixed p t i is s = refl

braced_row : (fixed : Bool) (p : ℕ) (t : CType) (is : List Init) (s : Seen) → braced fixed p t (hidden-the_row-Init-0 is) s ≡ braced_list fixed p t is s
unfolding hidden hidden-the_row-Init-0 shape-the_row-Init-0
braced_row fixed p t [] s = refl
braced_row fixed p t (form.Value e ∷ []) s = refl
braced_row fixed p t (i ∷ []) s = refl
braced_row fixed p t (form.Value e ∷ j ∷ is) s = rw (some j is) refl
braced_row fixed p t (i ∷ j ∷ is) s = refl

empty_row : (is : List Init) → nat_eq (count (hidden-the_row-Init-0 is)) 0 ≡ (length is == 0)
empty_row is = ap (λ n. nat_eq n 0) (count_row is)

rest_of : (p : ℕ) (read : CType → Rule Initializer) (rest : Initializer → Rule Initializer) (kind : Option CType) (s : Seen) →
    part_as p read rest kind s ≡ and_then (part_as p read (λ x. gives x) kind s) rest
unfolding and_then
rest_of p read rest None s = refl
rest_of p read rest (Some t) s = sym (then_assoc (read t s) (λ x u. Good x u) rest)

-- a part, and then the rest
part-rest : (p : ℕ) (t : CType) (i : ℕ) (read : CType → Rule Initializer) (rest : Initializer → Rule Initializer) (s : Seen) →
    part p t i read rest s ≡ and_then (part p t i read (λ x. gives x) s) rest
unfolding part and_then
part-rest p t i read rest s = rest_of p read rest (part_type s.structures t i) s

parts_row : (fixed : Bool) (p : ℕ) (t : CType) (i : ℕ) (given : List Initializer) (is : List Init) (s : Seen) →
    parts fixed p t i given (hidden-the_row-Init-0 is) s ≡ and_then (part_list fixed p t i given is s) (λ all. finished t all)
unfolding initialized part_list one_part and_then hidden hidden-the_row-Init-0 shape-the_row-Init-0
parts_row fixed p t i given [] s = refl
parts_row fixed p t i given (x ∷ xs) s =
    part-rest p t i (λ u. initialized fixed u x) (λ y. parts fixed p t (i + 1) (given ++ y ∷ []) (hidden-the_row-Init-0 xs)) s
    ∙ then_alike (one_part fixed p t i x s) _ _ (λ y u. parts_row fixed p t (i + 1) (given ++ y ∷ []) xs u)
    ∙ sym (then_assoc (one_part fixed p t i x s) _ _)

list_alike : (p : ℕ) (t : CType) (m n : Bool) (z y : List ℕ → Bool) (a b c d : Rule Initializer) (s : Seen) →
    m ≡ n → z s.source ≡ y s.source → a s ≡ b s → c s ≡ d s → by_list p t m z a c s ≡ by_list p t n y b d s
unfolding by_list
list_alike p t m n z y a b c d s empty e f g =
    ap (λ v. if v then Bad 9 p else if z s.source then Good (init.Zeros (words_of s.structures t)) s else if is_scalar t then a s else if is_aggregate t then c s else Bad 9 p) empty
    ∙ ap (λ v. if n then Bad 9 p else if v then Good (init.Zeros (words_of s.structures t)) s else if is_scalar t then a s else if is_aggregate t then c s else Bad 9 p) e
    ∙ ap (λ r. if n then Bad 9 p else if y s.source then Good (init.Zeros (words_of s.structures t)) s else if is_scalar t then r else if is_aggregate t then c s else Bad 9 p) f
    ∙ ap (λ r. if n then Bad 9 p else if y s.source then Good (init.Zeros (words_of s.structures t)) s else if is_scalar t then b s else if is_aggregate t then r else Bad 9 p) g

pub init-Value : (fixed : Bool) (t : CType) (e : Expr) (s : Seen) → initialized fixed t (written.Value e) s ≡ by_expression fixed t e s
unfolding initialized
init-Value fixed t e s = refl

pub init-List : (fixed : Bool) (t : CType) (p : ℕ) (is : List Init) (s : Seen) → initialized fixed t (written.List p is) s ≡ list_by fixed p t is s
unfolding initialized list_by parts_by hidden hidden-the_row-Init-0 shape-the_row-Init-0
init-List fixed t p is s = list_alike p t _ _ _ _ _ _ _ _ s (empty_row is) (zeroing_row is s.source) (braced_row fixed p t is s) (parts_row fixed p t 0 [] is s)

pub list-form : (fixed : Bool) (p : ℕ) (t : CType) (is : List Init) (s : Seen) → list_by fixed p t is s
    ≡ (if length is == 0 then Bad 9 p
    else if is_zero_list s.source is then Good (init.Zeros (words_of s.structures t)) s
    else if is_scalar t then braced_list fixed p t is s
    else if is_aggregate t then parts_by fixed p t is s
    else Bad 9 p)
unfolding list_by by_list
list-form fixed p t is s = refl

pub parts-form : (fixed : Bool) (p : ℕ) (t : CType) (is : List Init) (s : Seen) →
    parts_by fixed p t is s ≡ and_then (part_list fixed p t 0 [] is s) (λ all. finished t all)
unfolding parts_by
parts-form fixed p t is s = refl

-- a part of an array or a structure
abbrev pub part_in : Bool → ℕ → Option CType → Init → Rule Initializer
part_in fixed p (Some u) i = initialized fixed u i
part_in fixed p None i = λ s. Bad 9 p

in_kind : (fixed : Bool) (p : ℕ) (kind : Option CType) (i : Init) (s : Seen) → part_as p (λ u. initialized fixed u i) (λ x. gives x) kind s ≡ part_in fixed p kind i s
in_kind fixed p (Some u) i s = then_end (initialized fixed u i s)
in_kind fixed p None i s = refl

part-form : (fixed : Bool) (p : ℕ) (t : CType) (n : ℕ) (i : Init) (s : Seen) → one_part fixed p t n i s ≡ part_in fixed p (part_type s.structures t n) i s
unfolding one_part part and_then
part-form fixed p t n i s = in_kind fixed p (part_type s.structures t n) i s

if_in : (fixed : Bool) (p : ℕ) (b : Bool) (t : CType) (i : Init) (s : Seen) →
    part_in fixed p (if b then Some t else None) i s ≡ (if b then initialized fixed t i s else Bad 9 p)
if_in fixed p true t i s = refl
if_in fixed p false t i s = refl

pub part-Array : (fixed : Bool) (p : ℕ) (t : CType) (count n : ℕ) (i : Init) (s : Seen) →
    one_part fixed p (ctype.Array t count) n i s ≡ (if nat_lt n count then initialized fixed t i s else Bad 9 p)
unfolding hidden hidden-the_row-CType-0 shape-the_row-CType-0
part-Array fixed p t count n i s = part-form fixed p (ctype.Array t count) n i s ∙ if_in fixed p (nat_lt n count) t i s

pub part-Struct : (fixed : Bool) (p k n : ℕ) (i : Init) (s : Seen) →
    one_part fixed p (ctype.Struct k) n i s ≡ part_in fixed p (member_kind (known_members (slice_get s.structures k)) n) i s
part-Struct fixed p k n i s = part-form fixed p (ctype.Struct k) n i s

pub part-Void : (fixed : Bool) (p n : ℕ) (i : Init) (s : Seen) → one_part fixed p ctype.Void n i s ≡ Bad 9 p
part-Void fixed p n i s = part-form fixed p ctype.Void n i s

pub part-Char : (fixed : Bool) (p n : ℕ) (i : Init) (s : Seen) → one_part fixed p ctype.Char n i s ≡ Bad 9 p
part-Char fixed p n i s = part-form fixed p ctype.Char n i s

pub part-Int : (fixed : Bool) (p n : ℕ) (i : Init) (s : Seen) → one_part fixed p ctype.Int n i s ≡ Bad 9 p
part-Int fixed p n i s = part-form fixed p ctype.Int n i s

pub part-Unsigned : (fixed : Bool) (p n : ℕ) (i : Init) (s : Seen) → one_part fixed p ctype.Unsigned n i s ≡ Bad 9 p
part-Unsigned fixed p n i s = part-form fixed p ctype.Unsigned n i s

pub part-Mutex : (fixed : Bool) (p n : ℕ) (i : Init) (s : Seen) → one_part fixed p ctype.Mutex n i s ≡ Bad 9 p
part-Mutex fixed p n i s = part-form fixed p ctype.Mutex n i s

pub part-Pointer : (fixed : Bool) (p : ℕ) (t : CType) (n : ℕ) (i : Init) (s : Seen) → one_part fixed p (ctype.Pointer t) n i s ≡ Bad 9 p
part-Pointer fixed p t n i s = part-form fixed p (ctype.Pointer t) n i s

pub part-Function : (fixed : Bool) (p : ℕ) (t : FnType) (n : ℕ) (i : Init) (s : Seen) → one_part fixed p (ctype.Function t) n i s ≡ Bad 9 p
part-Function fixed p t n i s = part-form fixed p (ctype.Function t) n i s

listed-same : (words : ℕ) (given : List Initializer) → listed words given ≡ listed_as words given
unfolding listed_as initializer_words
listed-same words [] = refl
listed-same words (made.Value Bare e ∷ []) = refl
listed-same words (i ∷ []) = refl
listed-same words (made.Value Bare e ∷ j ∷ is) = refl
listed-same words (i ∷ j ∷ is) = refl

pub finished-form : (t : CType) (given : List Initializer) (s : Seen) → finished t given s ≡ Good (listed_as (words_of s.structures t) given) s
unfolding finished and_then
finished-form t given s = ap (λ i. Good i s) (listed-same (words_of s.structures t) given)

-- one part more of a list, a fault, and the end
here : {A : Type 0} (xs : List A) (i : ℕ) (x : A) → i < length xs → x ≡ get_or xs i x → drop i xs ≡ x ∷ drop (i + 1) xs
here xs i x below is = drop_more xs i x below ∙ ap (λ y. y ∷ drop (i + 1) xs) (sym is)

split : (fixed : Bool) (p : ℕ) (t : CType) (n : ℕ) (given : List Initializer) (xs : List Init) (i : ℕ) (x : Init) (s : Seen) (whole : Read (List Initializer)) →
    i < length xs → x ≡ get_or xs i x → whole ≡ part_list fixed p t n given (drop i xs) s →
    whole ≡ and_then (one_part fixed p t n x s) (λ y. part_list fixed p t (n + 1) (given ++ y ∷ []) (drop (i + 1) xs))
unfolding part_list
split fixed p t n given xs i x s whole below is so_far = so_far ∙ ap (λ ys. part_list fixed p t n given ys s) (here xs i x below is)

pub part-more : (fixed : Bool) (p : ℕ) (t : CType) (n m : ℕ) (given all : List Initializer) (xs : List Init) (i : ℕ) (x : Init) (y : Initializer) (s u : Seen)
    (whole : Read (List Initializer)) → i < length xs → x ≡ get_or xs i x → whole ≡ part_list fixed p t n given (drop i xs) s →
    one_part fixed p t n x s ≡ Good y u → all ≡ given ++ y ∷ [] → m ≡ n + 1 → whole ≡ part_list fixed p t m all (drop (i + 1) xs) u
part-more fixed p t n m given all xs i x y s u whole below is so_far good grown next =
    split fixed p t n given xs i x s whole below is so_far ∙ then_good (one_part fixed p t n x s) _ y u good
    ∙ ap (λ g. part_list fixed p t (n + 1) g (drop (i + 1) xs) u) (sym grown) ∙ ap (λ k. part_list fixed p t k all (drop (i + 1) xs) u) (sym next)

pub part-stop : (fixed : Bool) (p : ℕ) (t : CType) (n : ℕ) (given : List Initializer) (xs : List Init) (i : ℕ) (x : Init) (s u v : Seen)
    (whole : Read (List Initializer)) (why : Stop) → i < length xs → x ≡ get_or xs i x → whole ≡ part_list fixed p t n given (drop i xs) s →
    Gives (one_part fixed p t n x s) (Err why) u → Gives whole (Err why) v
part-stop fixed p t n given xs i x s u v whole (stop.Fault number place) below is so_far bad =
    split fixed p t n given xs i x s whole below is so_far ∙ then_bad (one_part fixed p t n x s) _ number place bad
part-stop fixed p t n given xs i x s u v whole stop.NoMemory below is so_far bad = tt

pub part-end : (fixed : Bool) (p : ℕ) (t : CType) (n : ℕ) (given : List Initializer) (xs : List Init) (i : ℕ) (s : Seen) (whole : Read (List Initializer)) →
    length xs ≤ i → whole ≡ part_list fixed p t n given (drop i xs) s → whole ≡ Good given s
unfolding part_list
part-end fixed p t n given xs i s whole past so_far = so_far ∙ ap (λ ys. part_list fixed p t n given ys s) (drop_of_length-le xs past)

pub ruleset braced_rules = (braced-none, braced-some)

pub ruleset zero_rules = (zero-none, zero-list)

pub ruleset alone_rules = (alone-none, zero-alone)

pub ruleset init_rules = (init-Value, init-List)

pub ruleset list_rules = (then_good, then_bad, list-form, parts-form)

pub ruleset part_rules = (part-Array, part-Struct, part-Void, part-Char, part-Int, part-Unsigned, part-Mutex, part-Pointer, part-Function)

pub ruleset finished_rules = (finished-form)
