-- The notes of faults of bytes.
use Rattle.std.proofs.Common.{◌≡◌, ℕ, ◌≤◌, Bool, true, false, List, Option, Some, None, length, refl, sym, ap, ◌∙◌}
use Rattle.std.specs.Prelude.{IfSome}
use Rattle.crush_reasons.specs.Fault.{fault_line, fault_text}
use Rattle.crush_reasons.specs.Place.{OriginData}
use Rattle.crush_script.specs.Job.{IsJobFault}
use Rattle.crush_script.specs.declared.fault.JobFault.{JobFault}
use Rattle.crush_script.specs.declared.fault.JobFault.TheVariants.{BadLine, NoSuchCommand, OpenBatch, TooManyOperators, DuplicateOperator, Text, OutOfMemory, TooLong, TooManyCalls}
use Rattle.crush_units.specs.declared.limits.TheConstants.{LONGEST_JOB}
use Rattle.crush_input.specs.declared.fault.RunFault.{RunFault}
use Rattle.crush_input.specs.declared.fault.RunFault.TheVariants as run
use Rattle.crush_input.specs.Input.{IsInput}
use Rattle.crush_input.specs.Notes.{AreNotesOfFault, place_notes}
use Rattle.crush_input.specs.Stages.{IsNoJob}

-- the notes are the same if the bytes and the origins are the same
at_origins : (o p : ℕ → OriginData) (xs ys : List ℕ) (f : JobFault) → xs ≡ ys → o ≡ p → fault_text (o (fault_line xs f)) xs f ≡ fault_text (p (fault_line ys f)) ys f
at_origins o p xs ys f same origins = λ i. fault_text (origins i (fault_line (same i) f)) (same i) f

-- the notes of a fault are the same for both texts: if the fault has a place, then there are at most as many bytes as a job may have, and then both texts are equal
same_text : (o p : ℕ → OriginData) (xs ys : List ℕ) (f : JobFault) → (length xs ≤ LONGEST_JOB → xs ≡ ys) → (length xs ≤ LONGEST_JOB → o ≡ p) → IsJobFault xs f → fault_text (o (fault_line xs f)) xs f ≡ fault_text (p (fault_line ys f)) ys f
same_text o p xs ys (BadLine n why) same origins h = at_origins o p xs ys (BadLine n why) (same h.short) (origins h.short)
same_text o p xs ys (NoSuchCommand n) same origins h = at_origins o p xs ys (NoSuchCommand n) (same h.short) (origins h.short)
same_text o p xs ys (OpenBatch n) same origins h = at_origins o p xs ys (OpenBatch n) (same h.short) (origins h.short)
same_text o p xs ys (TooManyOperators n) same origins h = at_origins o p xs ys (TooManyOperators n) (same h.short) (origins h.short)
same_text o p xs ys (DuplicateOperator n) same origins h = at_origins o p xs ys (DuplicateOperator n) (same h.short) (origins h.short)
same_text o p xs ys (TooManyCalls n) same origins h = at_origins o p xs ys (TooManyCalls n) (same h.short) (origins h.short)
same_text o p xs ys (Text f) same origins h = at_origins o p xs ys (Text f) (same h.short) (origins h.short)
same_text o p xs ys TooLong same origins h = refl
same_text o p xs ys OutOfMemory same origins h = refl

same_notes : (explain : Bool) (o p : ℕ → OriginData) (xs ys : List ℕ) (f : JobFault) → (length xs ≤ LONGEST_JOB → xs ≡ ys) → (length xs ≤ LONGEST_JOB → o ≡ p) → IsJobFault xs f
    → place_notes explain o xs f ≡ place_notes explain p ys f
same_notes true o p xs ys f same origins h = same_text o p xs ys f same origins h
same_notes false o p xs ys f same origins h = refl

-- the notes that are computed from the beginning of the bytes are the notes of all bytes; the beginning is the whole if there are at most as many bytes as a job may have
pub place_of_front : (explain : Bool) (o : ℕ → OriginData) (bytes front : List ℕ) (f : JobFault) (own : OriginData) (text : List ℕ) → explain ≡ true → (length bytes ≤ LONGEST_JOB → bytes ≡ front) → IsJobFault bytes f
    → own ≡ o (fault_line front f) → text ≡ fault_text own front f → text ≡ place_notes explain o bytes f
place_of_front explain o bytes front f own text on same h there is =
    is ∙ ap (λ a. fault_text a front f) there ∙ sym (same_text o o bytes front f same (λ short. refl) h) ∙ ap (λ e. place_notes e o bytes f) (sym on)

-- the notes of a fault are right: they have the fault's place, and there are none without `--explain`
pub place_noted : (explain : Bool) (o : ℕ → OriginData) (bytes : List ℕ) (f : JobFault) (notes : List ℕ) → notes ≡ place_notes explain o bytes f → AreNotesOfFault explain o (Some bytes) (run.Job f) notes
place_noted explain o bytes f notes is = (λ quiet. is ∙ ap (λ e. place_notes e o bytes f) quiet, is)

-- the bytes were read of `all`; and if there are at most as many as a job may have, then their lines have the same origins
abbrev pub ComeFrom : (ℕ → OriginData) → (ℕ → OriginData) → List ℕ → List ℕ → Type 0
ComeFrom o p bytes all = IsInput bytes all × (length bytes ≤ LONGEST_JOB → o ≡ p)

pub from_same : (o : ℕ → OriginData) (all : Option (List ℕ)) (bytes : List ℕ) → IfSome all (IsInput bytes) → IfSome all (ComeFrom o o bytes)
from_same o None bytes input = tt
from_same o (Some xs) bytes input = (input, λ short. refl)

-- the notes that are computed from the bytes that were read are the notes of all bytes
pub place_of_all : (explain : Bool) (o p : ℕ → OriginData) (all : Option (List ℕ)) (bytes : List ℕ) (f : JobFault) (notes : List ℕ) → IfSome all (ComeFrom o p bytes) → IsJobFault bytes f → notes ≡ place_notes explain o bytes f
    → IfSome all (λ xs. notes ≡ place_notes explain p xs f)
place_of_all explain o p None bytes f notes input h is = tt
place_of_all explain o p (Some xs) bytes f notes input h is = is ∙ same_notes explain o p bytes xs f input.0.read input.1 h

pub noted_of_all : (explain : Bool) (o p : ℕ → OriginData) (all : Option (List ℕ)) (bytes : List ℕ) (f : RunFault) (notes : List ℕ) → IfSome all (ComeFrom o p bytes) → IsNoJob (Some bytes) f → AreNotesOfFault explain o (Some bytes) f notes
    → AreNotesOfFault explain p all f notes
noted_of_all explain o p all bytes (run.Job f) notes input h told = (told.0, place_of_all explain o p all bytes f notes input h.1 told.1)
noted_of_all explain o p all bytes run.Read notes input h told = absurd h
noted_of_all explain o p all bytes run.Write notes input h told = absurd h
noted_of_all explain o p all bytes run.Memory notes input h told = told
noted_of_all explain o p all bytes run.Thread notes input h told = absurd h
noted_of_all explain o p all bytes (run.Refused n) notes input h told = absurd h
noted_of_all explain o p all bytes (run.Made n) notes input h told = absurd h
noted_of_all explain o p all bytes (run.Conflicts n) notes input h told = absurd h
noted_of_all explain o p all bytes (run.Differs n) notes input h told = absurd h
noted_of_all explain o p all bytes run.NoItem notes input h told = absurd h
noted_of_all explain o p all bytes run.NoType notes input h told = absurd h
noted_of_all explain o p all bytes run.NoClass notes input h told = absurd h
noted_of_all explain o p all bytes (run.SecondMap w s) notes input h told = absurd h
