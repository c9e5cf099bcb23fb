-- The reads of one file, from one turn of a loop to the next.
use Rattle.std.proofs.Common.{◌≡◌, ℕ, ◌+◌, ◌≤◌, ◌<◌, List, [], ◌++◌, length, take, Option, Some, refl, arith, length-append}
use Rattle.std.proofs.lemmas.List.{length-take-le}
use Rattle.rt_base.specs.Reads.{Reads, Begun, More, ReadsPast}

-- no read was made yet
pub Reads-begun : {S : Type 0} (gives : S → List ℕ → ℕ → Option (List ℕ) → S → Type 0) (name : List ℕ) (first : S) (bytes : List ℕ) → bytes ≡ [] → Reads gives name first bytes first
Reads-begun gives name first bytes e = rw e Begun

-- one more read, whose bytes are the front of its buffer
pub Reads-more : {S : Type 0} (gives : S → List ℕ → ℕ → Option (List ℕ) → S → Type 0) (name : List ℕ) (first between now : S) (bytes buffer after : List ℕ) (start count : ℕ) → Reads gives name first bytes between → start ≡ length bytes → gives between name start (Some (take count buffer)) now → 0 < count → count ≤ length buffer → after ≡ bytes ++ take count buffer → Reads gives name first after now
Reads-more gives name first between now bytes buffer after start count reads place gave some within e =
    let taken : 0 < length (take count buffer) = omega (arith, length-take-le count buffer within) in
    rw e (More bytes (take count buffer) between now reads (rw place at gave) taken)

-- one more read, whose bytes go past the limit
pub Reads-past : {S : Type 0} (gives : S → List ℕ → ℕ → Option (List ℕ) → S → Type 0) (name : List ℕ) (first between now : S) (bytes buffer : List ℕ) (start count limit : ℕ) → Reads gives name first bytes between → start ≡ length bytes → gives between name start (Some (take count buffer)) now → count ≤ length buffer → length bytes ≤ limit → limit < length bytes + count → ReadsPast gives name first limit now
Reads-past gives name first between now bytes buffer start count limit reads place gave some within past = record {
  bytes = bytes;
  piece = take count buffer;
  between = between;
  reads = reads;
  within = within;
  last_read = rw place at gave;
  past = omega (arith, length-take-le count buffer some);
}
