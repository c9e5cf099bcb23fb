-- What a sink took by one write after another.
use Rattle.std.proofs.Common.{◌≡◌, ℕ, ◌+◌, ◌-◌, ◌≤◌, ◌<◌, min, ◌^◌, List, [], ◌∷◌, ◌++◌, length, take, drop, get_or, Option, Some, None, Result, Ok, Err, refl, sym, ap, ◌∙◌, arith, length-drop, append_assoc}
use Rattle.std.specs.List.{flat_map}
use Rattle.std.proofs.Math.Seq.{take-add}
use Rattle.std.proofs.lemmas.List.{take_all, take_more, take-append-drop, append-nil}
use Rattle.std.proofs.lemmas.List.Concat.{flat_map-append}
use Rattle.std.proofs.lemmas.Grind.{common_steps}
use Rattle.rt_base.specs.Outside.{Rose, SinkState, Appends, AppendsPrefix, TakesFront, TakesAll, FailsWithin, FailsAtOnce, IsWritten}

-- a sink that was asked for nothing has taken nothing
Appends-nothing : (taken : Option (List ℕ)) → Appends taken taken []
Appends-nothing None = tt
Appends-nothing (Some old) = grind (arith, common_steps)

-- one piece and then another are the two as one piece
Appends-more : (old between new : Option (List ℕ)) (first second : List ℕ) → Appends old between first → Appends between new second → Appends old new (first ++ second)
Appends-more None between new first second a b = tt
Appends-more (Some old) between new first second a b = (rw a at b) ∙ ap Some (append_assoc old first second)

-- what was taken of a piece, and then more from the front of what was left of it
Appends-step : (old between new : Option (List ℕ)) (bytes : List ℕ) (written count : ℕ) → Appends old between (take written bytes) → Appends between new (take count (take (length bytes - written) (drop written bytes))) → Appends old new (take (written + count) bytes)
Appends-step old between new bytes written count a b =
    let left : take (length bytes - written) (drop written bytes) ≡ drop written bytes =
    take_all (length bytes - written) (drop written bytes) (omega (arith, length-drop written bytes)) in
    rw take-add (Appends-more old between new (take written bytes) (take count (drop written bytes)) a (rw left at b))

-- what was taken whole is a prefix of every piece that begins with it
Appends-prefix : (old new : Option (List ℕ)) (front rest bytes : List ℕ) → Appends old new front → front ++ rest ≡ bytes → AppendsPrefix old new bytes
Appends-prefix None new front rest bytes a parts = tt
Appends-prefix (Some old) new front rest bytes a parts =
    record { front = front; rest = rest; parts = parts; taken = a }

-- a write that failed leaves what was taken of a piece, which is a prefix of it
Appends-stopped : (old between new : Option (List ℕ)) (bytes : List ℕ) (written : ℕ) → Appends old between (take written bytes) → new ≡ between → AppendsPrefix old new bytes
Appends-stopped old between new bytes written a kept =
    Appends-prefix old new (take written bytes) (drop written bytes) bytes (rw kept a) (take-append-drop written bytes)

-- one piece taken whole, and then a prefix of another, is a prefix of the two as one piece
Appends-then-prefix : (old between new : Option (List ℕ)) (first second : List ℕ) → Appends old between first → AppendsPrefix between new second → AppendsPrefix old new (first ++ second)
Appends-then-prefix None between new first second a b = tt
Appends-then-prefix (Some old) between new first second a b =
    let taken : TakesFront (old ++ first) new second = rw a at b in
    record {
      front = first ++ taken.front;
      rest = taken.rest;
      parts = append_assoc first taken.front taken.rest ∙ ap (λ l. first ++ l) taken.parts;
      taken = taken.taken ∙ ap Some (append_assoc old first taken.front);
    }

-- a prefix of a piece is a prefix of every longer piece that begins with it
AppendsPrefix-longer : (old new : Option (List ℕ)) (first second : List ℕ) → AppendsPrefix old new first → AppendsPrefix old new (first ++ second)
AppendsPrefix-longer None new first second a = tt
AppendsPrefix-longer (Some old) new first second a = record {
  front = a.front;
  rest = a.rest ++ second;
  parts = sym (append_assoc a.front a.rest second) ∙ ap (λ l. l ++ second) a.parts;
  taken = a.taken;
}

-- a count that rose from a later value rose from the earlier one
rose_later : (before between now : ℕ) → before ≤ between → Rose between now → Rose before now
rose_later before between now le rose = omega arith

-- a sink that was asked for nothing has taken nothing
pub takes_nothing : (sink : SinkState) → TakesAll [] sink sink
takes_nothing sink = record { taken = Appends-nothing sink.taken; later = omega arith }

-- one piece and then another are the two as one piece
pub takes_more : (old between new : SinkState) (first second : List ℕ) → TakesAll first old between → TakesAll second between new → TakesAll (first ++ second) old new
takes_more old between new first second a b =
    let l = a.later in
    let m = b.later in
    record { taken = Appends-more old.taken between.taken new.taken first second a.taken b.taken; later = omega (arith, l, m) }

-- a fault within a piece is one within every longer piece that begins with it
pub fails_longer : (old new : SinkState) (first second : List ℕ) → FailsWithin first old new → FailsWithin (first ++ second) old new
fails_longer old new first second f =
    record { taken = AppendsPrefix-longer old.taken new.taken first second f.taken; rose = f.rose; later = f.later }

-- one piece taken whole, and then a fault within another, is a fault within the two as one piece
pub takes_then_fails : (old between new : SinkState) (first second : List ℕ) → TakesAll first old between → FailsWithin second between new → FailsWithin (first ++ second) old new
takes_then_fails old between new first second a f =
    let l = a.later in
    let m = f.later in
    record {
      taken = Appends-then-prefix old.taken between.taken new.taken first second a.taken f.taken;
      rose = rose_later old.faults between.faults new.faults a.later f.rose;
      later = omega (arith, l, m);
    }

-- a fault within a piece, behind what was taken and with more to come, is one within the whole
pub fails_behind : (old between new : SinkState) (first piece rest whole : List ℕ) → TakesAll first old between → FailsWithin piece between new → first ++ (piece ++ rest) ≡ whole → FailsWithin whole old new
fails_behind old between new first piece rest whole a f parts =
    rw (← parts) (takes_then_fails old between new first (piece ++ rest) a (fails_longer between new piece rest f))

-- one piece taken whole, and then what a writer did of another
pub written_behind : {T E : Type 0} (result : Result T E) (old between new : SinkState) (first second : List ℕ) → TakesAll first old between → IsWritten second result between new → IsWritten (first ++ second) result old new
written_behind (Ok done) old between new first second a w = takes_more old between new first second a w
written_behind (Err fault) old between new first second a w = takes_then_fails old between new first second a w

-- what was taken of a piece, and then more from the front of what was left of it
pub takes_step : (old between new : SinkState) (bytes : List ℕ) (written count : ℕ) → TakesAll (take written bytes) old between → TakesAll (take count (take (length bytes - written) (drop written bytes))) between new → TakesAll (take (written + count) bytes) old new
takes_step old between new bytes written count a b =
    let l = a.later in
    let m = b.later in
    record { taken = Appends-step old.taken between.taken new.taken bytes written count a.taken b.taken; later = omega (arith, l, m) }

-- a write that failed leaves what was taken of a piece, which is a prefix of it
pub fails_step : (old between new : SinkState) (bytes : List ℕ) (written : ℕ) → TakesAll (take written bytes) old between → FailsAtOnce between new → FailsWithin bytes old new
fails_step old between new bytes written a f =
    let l = a.later in
    let m = f.later in
    record {
      taken = Appends-stopped old.taken between.taken new.taken bytes written a.taken f.same;
      rose = rose_later old.faults between.faults new.faults a.later f.rose;
      later = omega (arith, l, m);
    }

flat_map-take_more : {X : Type 0} (f : X → List ℕ) (xs : List X) (i : ℕ) (d : X) → i < length xs → flat_map f (take (i + 1) xs) ≡ flat_map f (take i xs) ++ f (get_or xs i d)
flat_map-take_more f xs i d within =
    ap (flat_map f) (take_more xs i d within)
    ∙ flat_map-append f (take i xs) (get_or xs i d ∷ [])
    ∙ ap (λ (ys : List ℕ). flat_map f (take i xs) ++ ys) (append-nil (f (get_or xs i d)))

-- after the text of one element more
pub takes_next : {X : Type 0} (f : X → List ℕ) (xs : List X) (i : ℕ) (d : X) (old between new : SinkState) → i < length xs → TakesAll (flat_map f (take i xs)) old between → TakesAll (f (get_or xs i d)) between new → TakesAll (flat_map f (take (i + 1) xs)) old new
takes_next f xs i d old between new within a b =
    rw (flat_map-take_more f xs i d within) (takes_more old between new (flat_map f (take i xs)) (f (get_or xs i d)) a b)

-- after a fault within the text of an element
pub fails_next : {X : Type 0} (f : X → List ℕ) (xs : List X) (i : ℕ) (d : X) (old between new : SinkState) → i < length xs → TakesAll (flat_map f (take i xs)) old between → FailsWithin (f (get_or xs i d)) between new → FailsWithin (flat_map f xs) old new
fails_next f xs i d old between new within a b =
    let whole : flat_map f (take i xs) ++ (f (get_or xs i d) ++ flat_map f (drop (i + 1) xs)) ≡ flat_map f xs =
    sym (append_assoc (flat_map f (take i xs)) (f (get_or xs i d)) (flat_map f (drop (i + 1) xs)))
    ∙ ap (λ (ys : List ℕ). ys ++ flat_map f (drop (i + 1) xs)) (sym (flat_map-take_more f xs i d within))
    ∙ sym (flat_map-append f (take (i + 1) xs) (drop (i + 1) xs))
    ∙ ap (flat_map f) (take-append-drop (i + 1) xs) in
    fails_behind old between new (flat_map f (take i xs)) (f (get_or xs i d)) (flat_map f (drop (i + 1) xs)) (flat_map f xs) a b whole
