-- The count of one fault in a list of files in memory.
use Rattle.std.proofs.Common.{◌≡◌, ℕ, zero, suc, ◌+◌, ◌-◌, ◌^◌, min, ◌≤◌, ◌<◌, Bool, true, false, List, [], ◌∷◌, length, get_or, Some, None, refl, sym, ap, ◌∙◌, arith}
use Rattle.std.proofs.Math.ListN.{set}
use Rattle.std.proofs.lemmas.List.{get_or_default}
use Rattle.std.specs.Prelude.{if◌then◌else◌, is_some}
use Rattle.std.specs.Str.{bytes_eq}
use Rattle.rt_base.specs.Outside.{Rose}
use Rattle.rt_base.specs.InMemory.{FilesInMemory, after_fault}
use Rattle.rt_base.specs.declared.listed.MemFile.{MemFile}
use Rattle.rt_base.specs.Memory.{file_named, bytes_named, faults_named, one_more, with_fault}

-- no file before this place has the name
abbrev pub NoneBefore : List MemFile → ℕ → List ℕ → Type 0
NoneBefore files i name = (k : ℕ) (d : MemFile) → k < i → bytes_eq (get_or files k d).name name ≡ false

NoneBefore-rest : (file : MemFile) (files : List MemFile) (i : ℕ) (name : List ℕ) → NoneBefore (file ∷ files) (suc i) name → NoneBefore files i name
NoneBefore-rest file files i name none k d h = none (suc k) d (omega arith)

-- the first file of the name is counted
pub with_fault-at : (files : List MemFile) (i : ℕ) (name : List ℕ) (file : MemFile) → NoneBefore files i name → i < length files → file ≡ get_or files i file → bytes_eq file.name name ≡ true → set files i (record file { faults = one_more file.faults }) ≡ with_fault files name
with_fault-at [] i name file none h is same = absurd (omega arith)
with_fault-at (x ∷ xs) zero name file none h is same =
    let first : bytes_eq x.name name ≡ true = rw (← is) same in
    rw (first, is) refl
with_fault-at (x ∷ xs) (suc i) name file none h is same =
    let first : bytes_eq x.name name ≡ false = none zero x (omega arith) in
    rw first (ap (λ l. x ∷ l) (with_fault-at xs i name file (NoneBefore-rest x xs i name none) (omega arith) is same))

pub file_named-at : (files : List MemFile) (i : ℕ) (name : List ℕ) (file : MemFile) → NoneBefore files i name → i < length files → file ≡ get_or files i file → bytes_eq file.name name ≡ true → file_named files name ≡ Some file
file_named-at [] i name file none h is same = absurd (omega arith)
file_named-at (x ∷ xs) zero name file none h is same =
    let first : bytes_eq x.name name ≡ true = rw (← is) same in
    rw first (ap Some (sym is))
file_named-at (x ∷ xs) (suc i) name file none h is same =
    let first : bytes_eq x.name name ≡ false = none zero x (omega arith) in
    rw first (file_named-at xs i name file (NoneBefore-rest x xs i name none) (omega arith) is same)

-- a list that lacks the name stays
pub with_fault-none : (files : List MemFile) (i : ℕ) (name : List ℕ) → NoneBefore files i name → length files ≤ i → files ≡ with_fault files name
with_fault-none [] i name none h = refl
with_fault-none (x ∷ xs) zero name none h = absurd (omega arith)
with_fault-none (x ∷ xs) (suc i) name none h =
    let first : bytes_eq x.name name ≡ false = none zero x (omega arith) in
    rw first (ap (λ l. x ∷ l) (with_fault-none xs i name (NoneBefore-rest x xs i name none) (omega arith)))

pub file_named-none : (files : List MemFile) (i : ℕ) (name : List ℕ) → NoneBefore files i name → length files ≤ i → file_named files name ≡ None
file_named-none [] i name none h = refl
file_named-none (x ∷ xs) zero name none h = absurd (omega arith)
file_named-none (x ∷ xs) (suc i) name none h =
    let first : bytes_eq x.name name ≡ false = none zero x (omega arith) in
    rw first (file_named-none xs i name (NoneBefore-rest x xs i name none) (omega arith))

-- the store that counts the fault, where the file at its place was read three times
pub with_fault-store : (whole files : List MemFile) (i : ℕ) (name : List ℕ) (tested read kept : MemFile) (count : ℕ) → files ≡ whole → NoneBefore files i name → i < length files → tested ≡ get_or files i tested → read ≡ get_or files i read → kept ≡ get_or files i kept → true ≡ bytes_eq tested.name name → count ≡ min (read.faults + 1) (2 ^ 64 - 1) → read.faults < 2 ^ 64 → set files i (record { name = kept.name; bytes = kept.bytes; faults = count }) ≡ with_fault whole name
with_fault-store whole files i name tested read kept count e none h at_tested at_read at_kept same counted small =
    let one : tested ≡ kept = at_tested ∙ get_or_default files i tested kept h ∙ sym at_kept in
    let two : read ≡ kept = at_read ∙ get_or_default files i read kept h ∙ sym at_kept in
    let named : bytes_eq kept.name name ≡ true = rw (← one) (sym same) in
    let more : count ≡ one_more read.faults = grind arith in
    rw (more, two, ← e) (with_fault-at files i name kept none h at_kept named)

-- then there is a file of the name
pub file_named-store : (whole files : List MemFile) (i : ℕ) (name : List ℕ) (tested : MemFile) → files ≡ whole → NoneBefore files i name → i < length files → tested ≡ get_or files i tested → true ≡ bytes_eq tested.name name → file_named whole name ≡ Some tested
file_named-store whole files i name tested e none h at_tested same =
    rw (← e) (file_named-at files i name tested none h at_tested (sym same))

-- a fault of a name leaves the bytes of every file
bytes_named-step : (file : MemFile) (files : List MemFile) (name q : List ℕ) → bytes_named (with_fault files name) q ≡ bytes_named files q → bytes_named (with_fault (file ∷ files) name) q ≡ bytes_named (file ∷ files) q
bytes_named-step file files name q h = grind arith

pub bytes_named-with_fault : (files : List MemFile) (name q : List ℕ) → bytes_named (with_fault files name) q ≡ bytes_named files q
bytes_named-with_fault [] name q = refl
bytes_named-with_fault (file ∷ files) name q = bytes_named-step file files name q (bytes_named-with_fault files name q)

-- no count falls
faults_named-step : (file : MemFile) (files : List MemFile) (before after : ℕ) (name q : List ℕ) → before ≤ after → faults_named files before q ≤ faults_named (with_fault files name) after q → faults_named (file ∷ files) before q ≤ faults_named (with_fault (file ∷ files) name) after q
faults_named-step file files before after name q le h = grind arith

pub faults_named-later : (files : List MemFile) (before after : ℕ) (name q : List ℕ) → before ≤ after → faults_named files before q ≤ faults_named (with_fault files name) after q
faults_named-later [] before after name q le = le
faults_named-later (file ∷ files) before after name q le = faults_named-step file files before after name q le (faults_named-later files before after name q le)

-- one more is a rise, and no fall
one_more-rose : (count : ℕ) → Rose count (one_more count)
one_more-rose count = grind arith

one_more-later : (count : ℕ) (found : Bool) → count ≤ (if found then count else one_more count)
one_more-later count found = grind arith

-- the count of the name itself rises
faults_named-rose-step : (file : MemFile) (files : List MemFile) (lacking : ℕ) (name : List ℕ) → Rose (faults_named files lacking name) (faults_named (with_fault files name) (if is_some (file_named files name) then lacking else one_more lacking) name) → Rose (faults_named (file ∷ files) lacking name) (faults_named (with_fault (file ∷ files) name) (if is_some (file_named (file ∷ files) name) then lacking else one_more lacking) name)
faults_named-rose-step file files lacking name h = grind arith

pub faults_named-rose : (files : List MemFile) (lacking : ℕ) (name : List ℕ) → Rose (faults_named files lacking name) (faults_named (with_fault files name) (if is_some (file_named files name) then lacking else one_more lacking) name)
faults_named-rose [] lacking name = one_more-rose lacking
faults_named-rose (file ∷ files) lacking name = faults_named-rose-step file files lacking name (faults_named-rose files lacking name)

-- the clauses of a read that failed
pub after_fault-rose : (m : FilesInMemory) (name : List ℕ) → Rose (faults_named m.files m.lacking name) (faults_named (after_fault m name).files (after_fault m name).lacking name)
after_fault-rose m name = faults_named-rose m.files m.lacking name

pub after_fault-later : (m : FilesInMemory) (name q : List ℕ) → faults_named m.files m.lacking q ≤ faults_named (after_fault m name).files (after_fault m name).lacking q
after_fault-later m name q =
    faults_named-later m.files m.lacking _ name q (one_more-later m.lacking (is_some (file_named m.files name)))

pub after_fault-same : (m : FilesInMemory) (name q : List ℕ) → bytes_named (after_fault m name).files q ≡ bytes_named m.files q
after_fault-same m name q = bytes_named-with_fault m.files name q
