-- What was gathered by one write after another.
use Rattle.std.proofs.Common.{◌≡◌, ◌∙◌, refl, sym, ap, ℕ, ◌+◌, ◌<◌, List, [], ◌∷◌, ◌++◌, length, take, drop, get_or, append_assoc, Result, Ok, Err}
use Rattle.std.specs.List.{flat_map}
use Rattle.std.proofs.lemmas.List.{append-nil, take_more, take-append-drop}
use Rattle.std.proofs.lemmas.List.Concat.{flat_map-append}
use Rattle.rt_base.specs.Outside.{SinkState, TakesAll, FailsWithin, IsWritten}
use Rattle.rt_base.proofs.Pieces.{takes_nothing, takes_more, fails_longer, takes_then_fails, fails_behind}
use Rattle.printing.specs.Gathered.{Gathers, IsGathered}

-- a piece that fits is held behind the others
pub gathers_held : (bytes held left : List ℕ) (sink : SinkState) → left ≡ held ++ bytes → Gathers bytes held sink left sink
gathers_held bytes held left sink e = record { front = []; parts = e; taken = takes_nothing sink }

-- a piece that fits once the sink was handed the others
pub gathers_emptied : (bytes held empty left : List ℕ) (old new : SinkState) → TakesAll held old new → empty ≡ [] → left ≡ empty ++ bytes → Gathers bytes held old left new
gathers_emptied bytes held empty left old new a e g = record { front = held; parts = ap (λ (l : List ℕ). held ++ l) (g ∙ ap (λ (l : List ℕ). l ++ bytes) e); taken = a }

-- a piece that the sink was handed behind the others
pub gathered_through : {T E : Type 0} (result : Result T E) (bytes held empty left : List ℕ) (old between new : SinkState) → TakesAll held old between → empty ≡ [] → left ≡ empty →
    IsWritten bytes result between new → IsGathered bytes result held old left new
gathered_through (Ok done) bytes held empty left old between new a e g w = record {
  front = held ++ bytes;
  parts = ap (λ (l : List ℕ). (held ++ bytes) ++ l) (g ∙ e) ∙ append-nil (held ++ bytes);
  taken = takes_more old between new held bytes a w;
}
gathered_through (Err fault) bytes held empty left old between new a e g w = takes_then_fails old between new held bytes a w

-- nothing more
pub gathers_nothing : (held : List ℕ) (sink : SinkState) → Gathers [] held sink held sink
gathers_nothing held sink = gathers_held [] held held sink (sym (append-nil held))

-- the fronts of two writes, and what is held after both
parts_more : (first second held between left one two : List ℕ) → one ++ between ≡ held ++ first → two ++ left ≡ between ++ second → (one ++ two) ++ left ≡ held ++ (first ++ second)
parts_more first second held between left one two e g =
    append_assoc one two left
    ∙ (ap (λ (l : List ℕ). one ++ l) g
    ∙ (sym (append_assoc one between second) ∙ (ap (λ (l : List ℕ). l ++ second) e ∙ append_assoc held first second)))

-- one text and then another are the two as one text
pub gathers_more : (first second held mid left : List ℕ) (old between new : SinkState) → Gathers first held old mid between → Gathers second mid between left new → Gathers (first ++ second) held old left new
gathers_more first second held mid left old between new a b = record {
  front = a.front ++ b.front;
  parts = parts_more first second held mid left a.front b.front a.parts b.parts;
  taken = takes_more old between new a.front b.front a.taken b.taken;
}

-- one text, and then a fault within another
pub gathers_then_fails : (first second held mid : List ℕ) (old between new : SinkState) → Gathers first held old mid between → FailsWithin (mid ++ second) between new → FailsWithin (held ++ (first ++ second)) old new
gathers_then_fails first second held mid old between new a f =
    let whole : a.front ++ (mid ++ second) ≡ held ++ (first ++ second) =
    sym (append_assoc a.front mid second) ∙ (ap (λ (l : List ℕ). l ++ second) a.parts ∙ append_assoc held first second) in
    rw (← whole) (takes_then_fails old between new a.front (mid ++ second) a.taken f)

-- one text, and then what a writer did of another
pub gathered_behind : {T E : Type 0} (result : Result T E) (first second held mid left : List ℕ) (old between new : SinkState) → Gathers first held old mid between → IsGathered second result mid between left new →
    IsGathered (first ++ second) result held old left new
gathered_behind (Ok done) first second held mid left old between new a b = gathers_more first second held mid left old between new a b
gathered_behind (Err fault) first second held mid left old between new a b = gathers_then_fails first second held mid old between new a b

-- a fault within a text is one within every longer text that begins with it
pub fails_before : (first second held : List ℕ) (old new : SinkState) → FailsWithin (held ++ first) old new → FailsWithin (held ++ (first ++ second)) old new
fails_before first second held old new f = rw (← append_assoc held first second) (fails_longer old new (held ++ first) second f)

-- the whole text is written once the sink was handed what is held
pub written_whole : {T E : Type 0} (result : Result T E) (bytes left : List ℕ) (old between new : SinkState) → Gathers bytes [] old left between → IsWritten left result between new → IsWritten bytes result old new
written_whole (Ok done) bytes left old between new a w = rw (← a.parts) (takes_more old between new a.front left a.taken w)
written_whole (Err fault) bytes left old between new a w = rw (← a.parts) (takes_then_fails old between new a.front left a.taken w)

flat_map_more : {X : Type 0} (f : X → List ℕ) (xs : List X) (i : ℕ) (d : X) → i < length xs → flat_map f (take (i + 1) xs) ≡ flat_map f (take i xs) ++ f (get_or xs i d)
flat_map_more f xs i d within =
    ap (flat_map f) (take_more xs i d within)
    ∙ flat_map-append f (take i xs) (get_or xs i d ∷ [])
    ∙ ap (λ (ys : List ℕ). flat_map f (take i xs) ++ ys) (append-nil (f (get_or xs i d)))

-- after the text of one element more
pub gathers_next : {X : Type 0} (f : X → List ℕ) (xs : List X) (i : ℕ) (d : X) (held mid left : List ℕ) (old between new : SinkState) → i < length xs → Gathers (flat_map f (take i xs)) held old mid between →
    Gathers (f (get_or xs i d)) mid between left new → Gathers (flat_map f (take (i + 1) xs)) held old left new
gathers_next f xs i d held mid left old between new within a b =
    rw (flat_map_more f xs i d within) (gathers_more (flat_map f (take i xs)) (f (get_or xs i d)) held mid left old between new a b)

-- after a fault within the text of an element
pub fails_at : {X : Type 0} (f : X → List ℕ) (xs : List X) (i : ℕ) (d : X) (held mid : List ℕ) (old between new : SinkState) → i < length xs → Gathers (flat_map f (take i xs)) held old mid between →
    FailsWithin (mid ++ f (get_or xs i d)) between new → FailsWithin (held ++ flat_map f xs) old new
fails_at f xs i d held mid old between new within a b =
    let front : FailsWithin (held ++ flat_map f (take (i + 1) xs)) old new =
    rw (flat_map_more f xs i d within) (gathers_then_fails (flat_map f (take i xs)) (f (get_or xs i d)) held mid old between new a b) in
    let whole : flat_map f (take (i + 1) xs) ++ flat_map f (drop (i + 1) xs) ≡ flat_map f xs =
    sym (flat_map-append f (take (i + 1) xs) (drop (i + 1) xs)) ∙ ap (flat_map f) (take-append-drop (i + 1) xs) in
    rw (← whole) (fails_before (flat_map f (take (i + 1) xs)) (flat_map f (drop (i + 1) xs)) held old new front)

-- A front of the whole text was gathered, and the rest remains.
pub record Remains (rest whole held : List ℕ) (old : SinkState) (left : List ℕ) (now : SinkState) : Type 0 where
  pub written : List ℕ
  pub parts : written ++ rest ≡ whole
  pub gathered : Gathers written held old left now

-- nothing is written yet
pub remains_all : (whole held : List ℕ) (sink : SinkState) → Remains whole whole held sink held sink
remains_all whole held sink = record { written = []; parts = refl; gathered = gathers_nothing held sink }

-- after one text more
pub remains_next : (first rest whole held mid left : List ℕ) (old between new : SinkState) → Remains (first ++ rest) whole held old mid between → Gathers first mid between left new → Remains rest whole held old left new
remains_next first rest whole held mid left old between new r a = record {
  written = r.written ++ first;
  parts = append_assoc r.written first rest ∙ r.parts;
  gathered = gathers_more r.written first held mid left old between new r.gathered a;
}

-- after a fault within a text
pub remains_fault : (first rest whole held mid : List ℕ) (old between new : SinkState) → Remains (first ++ rest) whole held old mid between → FailsWithin (mid ++ first) between new → FailsWithin (held ++ whole) old new
remains_fault first rest whole held mid old between new r f =
    rw (← r.parts) (gathers_then_fails r.written (first ++ rest) held mid old between new r.gathered (fails_before first rest mid between new f))

-- at the end
pub remains_last : {T E : Type 0} (result : Result T E) (rest whole held mid left : List ℕ) (old between new : SinkState) → Remains rest whole held old mid between → IsGathered rest result mid between left new →
    IsGathered whole result held old left new
remains_last result rest whole held mid left old between new r b =
    rw (← r.parts) (gathered_behind result r.written rest held mid left old between new r.gathered b)
