-- Each word of static storage and of thread-local variables holds a value of the unit at first.
use Rattle.std.proofs.Common.{◌≡◌, ℕ, zero, suc, ◌<◌, ◌≤◌, ◌+◌, Bool, true, false, refl, subst, List, [], ◌∷◌, slice_get, Some, arith}
use Rattle.std.specs.Prelude.{nat_eq, if◌then◌else◌}
use Rattle.core_unit.specs.Layout.{LaidOut}
use Rattle.core_unit.specs.Units.{IsInitialWord}
use Rattle.core_unit.specs.Words.{packed}
use Rattle.core_unit.specs.declared.tables.Object.{Object}
use Rattle.core_unit.specs.declared.words.Word.{Word}
use Rattle.core_unit.specs.declared.words.Word.TheVariants as word
use Rattle.type_rules.specs.Seen.{Seen}
use Rattle.type_rules.specs.Units.{with_whole, words_from, value_at, parts_of}
use Rattle.type_rules.specs.declared.notes.Initial.{Initial}
use Rattle.type_laws.proofs.Each.{Each}
use Rattle.type_laws.proofs.Growing.{IsSmall, AreValued, object_within}
use Rattle.type_laws.proofs.Lists.{get_inside}
use Rattle.type_laws.proofs.Opening.{IsRead}
use Rattle.type_laws.proofs.Valued.{IsValue, Valued}
use Rattle.type_laws.proofs.Whole.{IsWithinLimits, statics_laid, threads_laid, leads_with, whole_tables, words_told, whole_length}

-- where an object of a row stands
record StandsWithin (first last : ℕ) (o : Object) : Type 0 where
  from : first ≤ o.at
  upto : o.at + o.words ≤ last
  some : 0 < o.words

ends_behind : (first last : ℕ) (os : List Object) → LaidOut first os last → first ≤ last
ends_behind first last [] laid = omega arith
ends_behind first last (o ∷ os) laid = let rest = ends_behind (first + o.words) last os laid.2 in omega arith

object_stands : (first last : ℕ) (os : List Object) (i : ℕ) (o : Object) → LaidOut first os last → slice_get os i ≡ Some o → StandsWithin first last o
object_stands first last [] i o laid there = absurd (cc)
object_stands first last (x ∷ xs) zero o laid there =
    let same : x ≡ o = cc in
    let at = laid.0 in
    let rest = ends_behind (first + x.words) last xs laid.2 in
    subst (λ (y : Object). StandsWithin first last y) same (record { from = omega (arith, at); upto = omega (arith, at, rest); some = laid.1 })
object_stands first last (x ∷ xs) (suc i) o laid there =
    let h = object_stands (first + x.words) last xs i o laid.2 there in
    let from = h.from in
    record { from = omega (arith, from); upto = h.upto; some = h.some }

module _ (s : Seen) (read : IsRead s) (limits : IsWithinLimits s) where
  value_told : (value : Word) → IsValue (whole_tables s []) value → IsInitialWord (parts_of s) (packed value)
  unfolding parts_of
  value_told word.Zero h = (word.Zero, record { in_range = tt; bits = refl }, tt)
  value_told (word.Number bits) h = (word.Number bits, record { in_range = h; bits = refl }, tt)
  value_told (word.DataPointer address) h =
      let o = h.1 in
      let stands = object_stands 1 (1 + s.static_words) s.statics o.index o.object (statics_laid s read.lawful limits) o.known in
      let from = stands.from in
      let upto = stands.upto in
      let some = stands.some in
      let at = o.begins in
      let few = limits.static_words in
      let long = words_told 1 s.static_words s.static_values in
      (word.DataPointer address, record { in_range = (omega (arith, from, at), omega (arith, upto, some, at, few)); bits = refl }, omega (arith, upto, some, at, long))
  value_told (word.FunctionPointer number level) h =
      let inside = get_inside (with_whole s.whole 0 s.functions) number h.0 h.1 in
      let long = whole_length s.whole 0 s.functions in
      let few = limits.functions in
      (word.FunctionPointer number level, record { in_range = omega (arith, inside, long, few); bits = refl }, inside)
  value_told value h = absurd h

  zero_told : IsInitialWord (parts_of s) 0
  unfolding packed
  zero_told = (word.Zero, record { in_range = tt; bits = refl }, tt)

  word_told : (at before : ℕ) (values : List Initial) → Valued (whole_tables s []) values → IsInitialWord (parts_of s) before → IsInitialWord (parts_of s) (value_at at values before)
  word_told at before [] each h = h
  word_told at before (i ∷ is) each h =
      word_told at (if nat_eq i.at at then packed i.word else before) is each.1 (chosen (nat_eq i.at at) (packed i.word) before (value_told i.word each.0) h)
    where
      chosen : (test : Bool) (a b : ℕ) → IsInitialWord (parts_of s) a → IsInitialWord (parts_of s) b → IsInitialWord (parts_of s) (if test then a else b)
      chosen true a b p q = p
      chosen false a b p q = q

  words_hold : (first n : ℕ) (values : List Initial) → Valued (whole_tables s []) values → Each (IsInitialWord (parts_of s)) (words_from first n values)
  words_hold first zero values each = tt
  words_hold first (suc n) values each = (word_told first 0 values each zero_told, words_hold (first + 1) n values each)

  pub are_valued : AreValued s (whole_tables s [])
  are_valued = read.filed.valued (λ i f there. let few = limits.frames i f there in omega (arith, few)) (whole_tables s []) (leads_with s []) small
    where
      small : IsSmall (whole_tables s [])
      small = record {
        statics = λ k o e. let within = object_within 1 (1 + s.static_words) s.statics k o (statics_laid s read.lawful limits) e in let words = limits.static_words in omega (arith, within, words);
        thread_locals = λ k o e. let within = object_within 0 s.thread_words s.thread_locals k o (threads_laid s read.lawful limits) e in let words = limits.thread_words in omega (arith, within, words);
        frame = λ k o e. absurd (cc);
      }

  pub static_words_hold : Each (IsInitialWord (parts_of s)) (words_from 1 s.static_words s.static_values)
  static_words_hold = words_hold 1 s.static_words s.static_values are_valued.0

  pub thread_words_hold : Each (IsInitialWord (parts_of s)) (words_from 0 s.thread_words s.thread_values)
  thread_words_hold = words_hold 0 s.thread_words s.thread_values are_valued.1
