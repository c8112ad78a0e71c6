-- What a writer has received after a text, or a prefix of it, was written. The bytes that a writer has received are given as Some bytes if they are known, and as None otherwise. If the bytes that were received before a write aren't known, nothing is claimed about the write.
use Rattle.std.specs.Prelude.{◌≡◌, ◌<◌, ℕ, List, ◌++◌, Option, Result, Ok, Err, length}
use Rattle.std.specs.Io.KnownBytes.{Appends}
use Rattle.crush_units.specs.declared.write.WriteFault.{WriteFault}
use Rattle.crush_units.specs.declared.write.WriteFault.TheVariants.{Write, OutOfMemory}

-- between old and new, the writer has received a prefix of the text, which may be empty or the whole text
abbrev pub AppendsPrefix : Option (List ℕ) → Option (List ℕ) → List ℕ → Type 0
AppendsPrefix old new text = (begun : List ℕ) × (rest : List ℕ) × (text ≡ begun ++ rest) × Appends old new begun

-- between old and new, the writer has received a proper prefix of the text: a beginning, but not all of it
abbrev pub AppendsLess : Option (List ℕ) → Option (List ℕ) → List ℕ → Type 0
AppendsLess old new text = (begun : List ℕ) × (rest : List ℕ) × (text ≡ begun ++ rest) × (0 < length rest) × Appends old new begun

-- if the result is Ok, the writer has received the whole text between old and new. If the result is an error, the writer has received a proper prefix of the text: a beginning, but not all of it
abbrev pub Writes : {X E : Type 0} → Result X E → Option (List ℕ) → Option (List ℕ) → List ℕ → Type 0
Writes (Ok x) old new text = Appends old new text
Writes (Err e) old new text = AppendsLess old new text

-- the number of a fault
abbrev pub write_fault_number : WriteFault → ℕ
write_fault_number Write = 1
write_fault_number OutOfMemory = 2
