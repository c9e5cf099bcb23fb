-- The event of an access is allowed where it found the word.
use Rattle.std.proofs.Common.{◌≡◌, ◌<◌, ℕ, List, length, slice_index}
use Rattle.word_mem.specs.declared.access.Access.{Access}
use Rattle.word_mem.specs.declared.access.Access.TheVariants.{Read, Write, Replace, Add, Subtract}
use Rattle.word_mem.specs.Replay.{IsAllowed}
use Rattle.word_mem.specs.Accesses.{event_of}

pub access_is_allowed : (a : Access) (at found : ℕ) (words : List ℕ) → at < length words → found ≡ slice_index words at → IsAllowed words (event_of a at found)
access_is_allowed Read at found words within is = (within, is)
access_is_allowed (Write word) at found words within is = (within, tt)
access_is_allowed (Replace old new) at found words within is = (within, is)
access_is_allowed (Add n) at found words within is = (within, is)
access_is_allowed (Subtract n) at found words within is = (within, is)
