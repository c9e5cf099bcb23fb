-- What is appended for initializers, one after another, and for a block variable.
use Rattle.std.proofs.Common.{◌≡◌, refl, sym, ap, ◌∙◌, subst, ℕ, zero, suc, ◌+◌, ◌<◌, ◌≤◌, List, [], ◌∷◌, ◌++◌, map, replicate, length, take, arith, get_or, length-append}
use Rattle.std.proofs.lemmas.List.{take_more, take_all}
use denote.Hole.Carrier.{hidden}
use Rattle.core_unit.specs.Stores.{stores, all_stores, Byte, Zero as StoredZero, Undefined as StoredUndefined}
use Rattle.core_unit.specs.declared.body.Braces.{Braces}
use Rattle.core_unit.specs.declared.body.Initializer.{Initializer}
use Rattle.core_unit.specs.declared.body.Initializer.TheBlock.{hidden-the_row-Initializer-0, shape-the_row-Initializer-0}
use Rattle.core_unit.specs.declared.body.Initializer.TheVariants as init
use Rattle.core_unit.specs.declared.expressions.Expr.{Expr}
use Rattle.core_unit.specs.declared.tables.UnitParts.{UnitParts}
use Rattle.c_codegen.specs.declared.draft.Draft.{Draft}
use Rattle.c_codegen.specs.Emits.{here, EmitsInitializer, EmitsInitializers, listed_stores}
use Rattle.c_codegen.specs.Sizes.{initializer_size, listed_size}
use Rattle.c_codegen.proofs.EmittedStatements.{emits-Absent, emits-Zeros, emits-Mutex, emits-Value, emits-List, emits-Text, emits_no_initializers, emits_initializer, listed_stores_more, listed_size_more, emits-automatic, emits-static, emits-thread_local}

-- How many words an initializer stores.

length_replicate : {A : Type 0} (count : ℕ) (x : A) → length (replicate count x) ≡ count
length_replicate zero x = refl
length_replicate (suc count) x = ap suc (length_replicate count x)

length_map : {A B : Type 0} (f : A → B) (l : List A) → length (map f l) ≡ length l
length_map f [] = refl
length_map f (x ∷ l) = ap suc (length_map f l)

stores_row : (is : List Initializer) → all_stores (hidden-the_row-Initializer-0 is) ≡ listed_stores is
unfolding stores hidden hidden-the_row-Initializer-0 shape-the_row-Initializer-0
stores_row [] = refl
stores_row (x ∷ is) = ap (λ l. stores x ++ l) (stores_row is)

pub stored-Absent : (count : ℕ) → length (stores (init.Absent count)) ≡ count
unfolding stores
stored-Absent count = length_replicate count StoredUndefined

pub stored-Value : (round : Braces) (e : Expr) → length (stores (init.Value round e)) ≡ 1
unfolding stores
stored-Value round e = refl

pub stored-List : (is : List Initializer) (zeros : ℕ) → length (stores (init.List is zeros)) ≡ length (listed_stores is) + zeros
unfolding stores hidden hidden-the_row-Initializer-0 shape-the_row-Initializer-0
stored-List is zeros =
    length-append (all_stores (hidden-the_row-Initializer-0 is)) (replicate zeros StoredZero)
    ∙ ap (λ n. length (all_stores (hidden-the_row-Initializer-0 is)) + n) (length_replicate zeros StoredZero)
    ∙ ap (λ l. length l + zeros) (stores_row is)

pub stored-Text : (bytes : List ℕ) (zeros : ℕ) → length (stores (init.Text bytes zeros)) ≡ length bytes + zeros
unfolding stores
stored-Text bytes zeros = omega (arith, length-append (map Byte bytes) (replicate zeros StoredZero), length_map Byte bytes, length_replicate zeros StoredZero)

pub stored-Zeros : (count : ℕ) → length (stores (init.Zeros count)) ≡ count
unfolding stores
stored-Zeros count = length_replicate count StoredZero

pub stored-Mutex : length (stores init.Mutex) ≡ 1
unfolding stores
stored-Mutex = refl

pub ruleset initializer_emissions = (stored-Absent, stored-Value, stored-List, stored-Text, stored-Zeros, stored-Mutex, emits-Absent, emits-Zeros, emits-Mutex, emits-Value, emits-List, emits-Text)

-- Initializers of a list: so many of them were appended, and the next words come behind this offset.
pub record AreBegun (u : UnitParts) (old new : Draft) (offset next : ℕ) (done : List Initializer) : Type 0 where
  pub code : EmitsInitializers u old new offset done
  pub long : here new ≡ here old + listed_size done
  pub behind : next ≡ offset + length (listed_stores done)

pub begun_none : (u : UnitParts) (d : Draft) (offset : ℕ) → AreBegun u d d offset offset []
begun_none u d offset = record { code = emits_no_initializers u d d offset refl; long = omega arith; behind = omega arith }

one_more : (is : List Initializer) (n : ℕ) (x : Initializer) → n < length is → x ≡ get_or is n x → take (n + 1) is ≡ take n is ++ x ∷ []
one_more is n x low same = take_more is n x low ∙ ap (λ y. take n is ++ y ∷ []) (sym same)

pub begun_next : (u : UnitParts) (d0 d1 d2 : Draft) (offset at next : ℕ) (is : List Initializer) (n : ℕ) (x : Initializer) → n < length is → x ≡ get_or is n x →
    AreBegun u d0 d1 offset at (take n is) → EmitsInitializer u d1 d2 at x → here d2 ≡ here d1 + initializer_size x → next ≡ at + length (stores x) → AreBegun u d0 d2 offset next (take (n + 1) is)
begun_next u d0 d1 d2 offset at next is n x low same so_far code long behind = subst (AreBegun u d0 d2 offset next) (sym (one_more is n x low same)) (record {
  code = emits_initializer u d0 d1 d2 offset at (take n is) x so_far.code so_far.behind code;
  long = omega (arith, so_far.long, long, listed_size_more (take n is) x);
  behind = omega (arith, so_far.behind, behind, ap length (listed_stores_more (take n is) x), length-append (listed_stores (take n is)) (stores x));
})

pub initializers_room : (is : List Initializer) (n : ℕ) (x : Initializer) → n < length is → x ≡ get_or is n x → listed_size (take n is) + initializer_size x ≤ listed_size is
initializers_room [] n x low same = absurd (omega (arith, low))
initializers_room (y ∷ is) zero x low same = let alike : initializer_size x ≡ initializer_size y = ap initializer_size same in omega (arith, alike)
initializers_room (y ∷ is) (suc n) x low same = let rest = initializers_room is n x (omega (arith, low)) same in omega (arith, rest)

pub initializers_frame : (is : List Initializer) (n : ℕ) (x : Initializer) → n < length is → x ≡ get_or is n x →
    length (listed_stores (take n is)) + length (stores x) ≤ length (listed_stores is)
initializers_frame [] n x low same = absurd (omega (arith, low))
initializers_frame (y ∷ is) zero x low same =
    let alike : length (stores x) ≡ length (stores y) = ap (λ z. length (stores z)) same in omega (arith, alike, length-append (stores y) (listed_stores is))
initializers_frame (y ∷ is) (suc n) x low same =
    let rest = initializers_frame is n x (omega (arith, low)) same in
    omega (arith, rest, length-append (stores y) (listed_stores is), length-append (stores y) (listed_stores (take n is)))

pub begun_all : (u : UnitParts) (d0 d1 : Draft) (offset next : ℕ) (is : List Initializer) (n : ℕ) → length is ≤ n → AreBegun u d0 d1 offset next (take n is) → AreBegun u d0 d1 offset next is
begun_all u d0 d1 offset next is n past so_far = subst (AreBegun u d0 d1 offset next) (take_all n is past) so_far

pub ruleset list_emissions = (initializers_room, initializers_frame, begun_all)

-- A block variable.

pub ruleset variable_emissions = (emits-automatic, emits-static, emits-thread_local)
