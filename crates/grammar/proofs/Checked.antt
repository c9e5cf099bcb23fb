-- The conditions on a grammar with each question about all tokens asked by a computation. Of a grammar that is
-- written out most of them are `refl`.
use Rattle.std.proofs.Common.{◌≡◌, ℕ, ltb, Bool, true, false, not, ◌||◌, Some, None, refl, sym}
use Rattle.std.proofs.lemmas.Bool.{ltb-true}
use Rattle.grammar.specs.Parts.{Parts, Return, Take, Call, Either, Production, Plain, Node, Chain}
use Rattle.grammar.specs.Parser.{Lookahead, nothing, begins, holds}
use Rattle.grammar.specs.LL1.{Decided, Ranked, IsLL1Production}

-- where the first holds, so does the second
abbrev pub within : Bool → Bool → Bool
within a true = true
within a false = not a

-- not both
abbrev pub apart : Bool → Bool → Bool
apart true b = not b
apart false b = true

abbrev pub alike : Bool → Bool → Bool
alike true b = b
alike false b = not b

pub within_true : (a b : Bool) → within a b ≡ true → a ≡ true → b ≡ true
within_true a true h e = refl
within_true true false h e = h
within_true false false h e = e

pub apart_false : (a b : Bool) → apart a b ≡ true → a ≡ true → b ≡ false
apart_false true true h e = sym h
apart_false true false h e = refl
apart_false false b h e = cc

pub apart_other : (a b : Bool) → apart a b ≡ true → b ≡ true → a ≡ false
apart_other true true h e = sym h
apart_other true false h e = cc
apart_other false b h e = refl

pub alike_same : (a b : Bool) → alike a b ≡ true → a ≡ b
alike_same true true h = refl
alike_same true false h = cc
alike_same false true h = cc
alike_same false false h = refl

pub alike_self : (a : Bool) → alike a a ≡ true
alike_self true = refl
alike_self false = refl

-- `All` says of a test that all tokens pass it.
module _ {T N : Type 0} {V : N → Type 0} (lookahead : Lookahead T N V) (All : (T → Bool) → Type 0)
    (all : (test : T → Bool) → All test → (t : T) → test t ≡ true) where
  abbrev pub Checks : {A : Type 0} → (A → T → Bool) → Parts T N V A → Type 0
  Checks follows (Return x) = Unit {0}
  Checks follows (Take test rest) = (t : T) → test t ≡ true → Checks follows (rest t)
  Checks {A} follows (Call n rest) = (a : V n) →
      All (λ t. within (begins lookahead (rest a) t) (lookahead.follow n a t))
      × All (λ t. within (holds (λ x. follows x t) (nothing lookahead (rest a))) (lookahead.follow n a t))
      × Checks follows (rest a)
  Checks {A} follows (Either one other) =
      (nothing lookahead one ≡ None)
      × All (λ t. apart (begins lookahead one t) (begins lookahead other t))
      × All (λ t. apart (holds (λ x. follows x t) (nothing lookahead other)) (begins lookahead one t))
      × Checks follows one × Checks follows other

  pub decided : {A : Type 0} (follows : A → T → Bool) → (g : Parts T N V A) → Checks follows g → Decided lookahead follows g
  decided follows (Return x) c = tt
  decided follows (Take test rest) c = λ t e. decided follows (rest t) (c t e)
  decided follows (Call n rest) c =
      λ a. (
        (λ t e. within_true (begins lookahead (rest a) t) (lookahead.follow n a t) (all (λ u. within (begins lookahead (rest a) u) (lookahead.follow n a u)) (c a).0 t) e),
        (λ x t e f. within_true (holds (λ y. follows y t) (nothing lookahead (rest a))) (lookahead.follow n a t)
            (all (λ u. within (holds (λ y. follows y u) (nothing lookahead (rest a))) (lookahead.follow n a u)) (c a).1 t) (rw e f)),
        decided follows (rest a) (c a).2,
      )
  decided follows (Either one other) c = (
    c.0,
    (λ t e. apart_false (begins lookahead one t) (begins lookahead other t) (all (λ u. apart (begins lookahead one u) (begins lookahead other u)) c.1 t) e),
    (λ x t e f. apart_false (holds (λ y. follows y t) (nothing lookahead other)) (begins lookahead one t)
        (all (λ u. apart (holds (λ y. follows y u) (nothing lookahead other)) (begins lookahead one u)) c.2 t) (rw e f)),
    decided follows one c.3,
    decided follows other c.4,
  )

  abbrev pub Orders : {A : Type 0} → ℕ → Parts T N V A → Type 0
  Orders rank (Return x) = Unit {0}
  Orders rank (Take test rest) = Unit {0}
  Orders rank (Call n rest) = (ltb (lookahead.rank n) rank ≡ true) × ((a : V n) → lookahead.nullable n ≡ Some a → Orders rank (rest a))
  Orders rank (Either one other) = Orders rank one × Orders rank other

  pub ranked : {A : Type 0} (rank : ℕ) → (g : Parts T N V A) → Orders rank g → Ranked lookahead rank g
  ranked rank (Return x) c = tt
  ranked rank (Take test rest) c = tt
  ranked rank (Call n rest) c = (ltb-true (lookahead.rank n) rank c.0, (λ a e. ranked rank (rest a) (c.1 a e)))
  ranked rank (Either one other) c = (ranked rank one c.0, ranked rank other c.1)

  abbrev pub ChecksProduction : (n : N) → Production T N V (V n) → Type 0
  ChecksProduction n (Plain parts) =
      All (λ t. alike (lookahead.first n t) (begins lookahead parts t))
      × (lookahead.nullable n ≡ nothing lookahead parts)
      × Orders (lookahead.rank n) parts
      × Checks (lookahead.follow n) parts
  ChecksProduction n (Node parts) =
      All (λ t. alike (lookahead.first n t) (begins lookahead parts t))
      × (lookahead.nullable n ≡ None)
      × (nothing lookahead parts ≡ None)
      × Orders (lookahead.rank n) parts
      × Checks (lookahead.follow n) parts
  ChecksProduction n (Chain start step) =
      All (λ t. alike (lookahead.first n t) (begins lookahead start t || holds (λ x. begins lookahead (step x) t) (nothing lookahead start)))
      × (lookahead.nullable n ≡ nothing lookahead start)
      × Orders (lookahead.rank n) start
      × Checks (λ x t. lookahead.follow n x t || begins lookahead (step x) t) start
      × ((y : V n) → nothing lookahead (step y) ≡ None)
      × ((y : V n) → Orders (lookahead.rank n) (step y))
      × ((y : V n) → Checks (λ x t. lookahead.follow n x t || begins lookahead (step x) t) (step y))
      × ((x : V n) → All (λ t. apart (lookahead.follow n x t) (begins lookahead (step x) t)))

  pub fits : (n : N) (p : Production T N V (V n)) → ChecksProduction n p → IsLL1Production lookahead n p
  fits n (Plain parts) c = (
    (λ t. alike_same (lookahead.first n t) (begins lookahead parts t) (all (λ u. alike (lookahead.first n u) (begins lookahead parts u)) c.0 t)),
    c.1,
    ranked (lookahead.rank n) parts c.2,
    decided (lookahead.follow n) parts c.3,
  )
  fits n (Node parts) c = (
    (λ t. alike_same (lookahead.first n t) (begins lookahead parts t) (all (λ u. alike (lookahead.first n u) (begins lookahead parts u)) c.0 t)),
    c.1,
    c.2,
    ranked (lookahead.rank n) parts c.3,
    decided (lookahead.follow n) parts c.4,
  )
  fits n (Chain start step) c = (
    (λ t. alike_same (lookahead.first n t) (begins lookahead start t || holds (λ x. begins lookahead (step x) t) (nothing lookahead start))
        (all (λ u. alike (lookahead.first n u) (begins lookahead start u || holds (λ x. begins lookahead (step x) u) (nothing lookahead start))) c.0 t)),
    c.1,
    ranked (lookahead.rank n) start c.2,
    decided (λ x t. lookahead.follow n x t || begins lookahead (step x) t) start c.3,
    c.4,
    (λ y. ranked (lookahead.rank n) (step y) (c.5 y)),
    (λ y. decided (λ x t. lookahead.follow n x t || begins lookahead (step x) t) (step y) (c.6 y)),
    (λ x t e. apart_false (lookahead.follow n x t) (begins lookahead (step x) t) (all (λ u. apart (lookahead.follow n x u) (begins lookahead (step x) u)) (c.7 x) t) e),
  )
