-- A line is gathered as its head, its message and its end.
use Rattle.std.proofs.Common.{◌≡◌, ◌∙◌, ap, List, ℕ, ◌++◌, decimal, Result}
use Rattle.c_text.specs.Place.{LineColumn}
use Rattle.printing.specs.Gathered.{Gathers, IsGathered}
use Rattle.printing.proofs.Gathering.{gathers_more, gathered_behind, gathers_then_fails, fails_before}
use Rattle.rt_base.specs.Outside.{SinkState, FailsWithin}
use Rattle.warning_text.specs.WarningText.{head_of, line_at}

module _ (file : List ℕ) (at : LineColumn) (sort message end line column : List ℕ) (lines : line ≡ decimal at.line) (columns : column ≡ decimal at.column) where
  head_is : head_of file line column sort ≡ head_of file (decimal at.line) (decimal at.column) sort
  head_is = ap (λ (l : List ℕ). head_of file l column sort) lines ∙ ap (λ (c : List ℕ). head_of file (decimal at.line) c sort) columns

  -- a fault within the head
  pub head_fails : (held : List ℕ) (old new : SinkState) → FailsWithin (held ++ head_of file line column sort) old new → FailsWithin (held ++ line_at file at sort message end) old new
  head_fails held old new f =
      let head : List ℕ = head_of file (decimal at.line) (decimal at.column) sort in
      fails_before (head ++ message) end held old new (fails_before head message held old new (rw head_is at f))

  -- a fault within the message
  pub message_fails : (held mid : List ℕ) (old between new : SinkState) → Gathers (head_of file line column sort) held old mid between → FailsWithin (mid ++ message) between new →
      FailsWithin (held ++ line_at file at sort message end) old new
  message_fails held mid old between new a f =
      let head : List ℕ = head_of file (decimal at.line) (decimal at.column) sort in
      fails_before (head ++ message) end held old new (gathers_then_fails head message held mid old between new (rw head_is at a) f)

  -- the end behind the others
  pub line_behind : {T E : Type 0} (result : Result T E) (held one two left : List ℕ) (old first second new : SinkState) → Gathers (head_of file line column sort) held old one first →
      Gathers message one first two second → IsGathered end result two second left new → IsGathered (line_at file at sort message end) result held old left new
  line_behind result held one two left old first second new a b w =
      let head : List ℕ = head_of file (decimal at.line) (decimal at.column) sort in
      gathered_behind result (head ++ message) end held two left old second new (gathers_more head message held one two old first second (rw head_is at a) b) w
