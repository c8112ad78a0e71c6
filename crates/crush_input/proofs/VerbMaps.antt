-- The map files of verbs: what is true of the bytes that were read is also true of all bytes of a file.
use Rattle.std.proofs.Common.{◌≡◌, ◌<◌, ◌≤◌, ℕ, List, Option, Some, None, length, ap, subst, ◌∙◌, arith}
use Rattle.std.specs.Prelude.{IfSome}
use mathlib.Core.Logic.{dite}
use native.Mathlib.Decide.{dec_le}
use Rattle.crush_text.specs.declared.fault.TextFault.{TextFault}
use Rattle.crush_options.specs.declared.parsed_options.MapForm.{MapForm}
use Rattle.crush_units.specs.declared.limits.TheConstants.{LONGEST_JOB}
use Rattle.crush_input.specs.declared.verb_maps.VerbMapFault.{VerbMapFault}
use Rattle.crush_input.specs.declared.verb_maps.VerbMapFault.TheVariants as verb
use Rattle.crush_input.specs.Input.{IsInput}
use Rattle.crush_input.specs.VerbMaps.{AreNotesOfVerbMap, CanBeShown, IsVerbMapFault, IsVerbTextFault, verb_flaw_notes, verb_map_notes}

long_of_all : (bytes xs : List ℕ) → IsInput bytes xs → LONGEST_JOB < length bytes → LONGEST_JOB < length xs
long_of_all bytes xs input h = dite (dec_le (length xs) LONGEST_JOB) (λ few. let same = ap length (input.whole few) in absurd (omega (arith, same, h, few))) (λ many. omega (arith, many))

text_fault_of_all : (maps : MapForm) (bytes xs : List ℕ) (f : VerbMapFault) → IsInput bytes xs → IsVerbTextFault maps bytes f → IsVerbTextFault maps xs f
text_fault_of_all maps bytes xs (verb.Text f) input h = subst (λ (z : List ℕ). IsVerbTextFault maps z (verb.Text f)) (input.read h.0) h
text_fault_of_all maps bytes xs verb.Cut input h = subst (λ (z : List ℕ). IsVerbTextFault maps z verb.Cut) (input.read h.0) h
text_fault_of_all maps bytes xs verb.TooLong input h = long_of_all bytes xs input h
text_fault_of_all maps bytes xs verb.Read input h = absurd h
text_fault_of_all maps bytes xs verb.Memory input h = tt

some_fault_of_all : (maps : MapForm) (all : Option (List ℕ)) (bytes : List ℕ) (f : VerbMapFault) → IfSome all (IsInput bytes) → IsVerbTextFault maps bytes f → IfSome all (λ xs. IsVerbTextFault maps xs f)
some_fault_of_all maps None bytes f input h = tt
some_fault_of_all maps (Some xs) bytes f input h = text_fault_of_all maps bytes xs f input h

-- a fault of the bytes that were read is a fault of the file
pub verb_fault_of_all : (maps : MapForm) (all : Option (List ℕ)) (bytes : List ℕ) (f : VerbMapFault) → IfSome all (IsInput bytes) → IsVerbTextFault maps bytes f → IsVerbMapFault maps all f
verb_fault_of_all maps all bytes (verb.Text f) input h = some_fault_of_all maps all bytes (verb.Text f) input h
verb_fault_of_all maps all bytes verb.Cut input h = some_fault_of_all maps all bytes verb.Cut input h
verb_fault_of_all maps all bytes verb.TooLong input h = some_fault_of_all maps all bytes verb.TooLong input h
verb_fault_of_all maps all bytes verb.Read input h = absurd h
verb_fault_of_all maps all bytes verb.Memory input h = some_fault_of_all maps all bytes verb.Memory input h

flaw_noted_of_all : (shown : List ℕ) (all : Option (List ℕ)) (bytes : List ℕ) (f : TextFault) (notes : List ℕ) → IfSome all (IsInput bytes) → length bytes ≤ LONGEST_JOB → notes ≡ verb_flaw_notes shown bytes f → IfSome all (λ xs. notes ≡ verb_flaw_notes shown xs f)
flaw_noted_of_all shown None bytes f notes input few is = tt
flaw_noted_of_all shown (Some xs) bytes f notes input few is = is ∙ ap (λ z. verb_flaw_notes shown z f) (input.read few)

-- the notes that are computed from the bytes that were read are the notes of the file
pub verb_noted_of_all : (maps : MapForm) (name shown : List ℕ) (all : Option (List ℕ)) (bytes : List ℕ) (f : VerbMapFault) (notes : List ℕ) → IfSome all (IsInput bytes) → IsVerbTextFault maps bytes f → AreNotesOfVerbMap name shown (Some bytes) f notes → AreNotesOfVerbMap name shown all f notes
verb_noted_of_all maps name shown all bytes (verb.Text f) notes input h told = flaw_noted_of_all shown all bytes f notes input h.0 told
verb_noted_of_all maps name shown all bytes verb.Cut notes input h told = told
verb_noted_of_all maps name shown all bytes verb.TooLong notes input h told = told
verb_noted_of_all maps name shown all bytes verb.Read notes input h told = absurd h
verb_noted_of_all maps name shown all bytes verb.Memory notes input h told = told

-- for each file, it is possible that memory ran out
pub memory_is_fault : (maps : MapForm) (all : Option (List ℕ)) → IsVerbMapFault maps all verb.Memory
memory_is_fault maps None = tt
memory_is_fault maps (Some xs) = tt

-- the notes of a fault of the bytes are right for this fault
pub verb_noted : (maps : MapForm) (name shown bytes : List ℕ) (f : VerbMapFault) (notes : List ℕ) → IsVerbTextFault maps bytes f → notes ≡ verb_map_notes shown bytes f → AreNotesOfVerbMap name shown (Some bytes) f notes
verb_noted maps name shown bytes (verb.Text f) notes h is = is
verb_noted maps name shown bytes verb.Cut notes h is = is
verb_noted maps name shown bytes verb.TooLong notes h is = is
verb_noted maps name shown bytes verb.Read notes h is = absurd h
verb_noted maps name shown bytes verb.Memory notes h is = is

-- a fault of the bytes can be shown
pub can_be_shown : (maps : MapForm) (bytes : List ℕ) (f : VerbMapFault) → IsVerbTextFault maps bytes f → CanBeShown f bytes
can_be_shown maps bytes (verb.Text f) h = h.0
can_be_shown maps bytes verb.Cut h = tt
can_be_shown maps bytes verb.TooLong h = tt
can_be_shown maps bytes verb.Read h = tt
can_be_shown maps bytes verb.Memory h = tt
