-- The second map that the command line names, the notes of its faults, and the notes of the job's faults.
use Rattle.std.proofs.Common.{◌≡◌, ℕ, Bool, false, List, Option, Some, None, Result, Ok, Err, inl, inr, length, refl, ap, subst, ◌∙◌, arith}
use Rattle.std.specs.Prelude.{IfOk, IfSome}
use mathlib.Core.Logic.{dite}
use native.Mathlib.Decide.{dec_le}
use Rattle.crush_map.specs.MapData.{MapData}
use Rattle.crush_text.specs.declared.fault.TextFault.{TextFault}
use Rattle.crush_text.specs.Flaw.{IsFlawOrOutOfMemory, IsMapFlaw}
use Rattle.crush_script.specs.Fault.{is_out_of_memory}
use Rattle.crush_options.specs.declared.parsed_options.Options.{Options}
use Rattle.crush_units.specs.declared.limits.TheConstants.{LONGEST_JOB}
use Rattle.crush_input.specs.declared.fault.RunFault.{RunFault}
use Rattle.crush_input.specs.declared.fault.RunFault.TheVariants as run
use Rattle.crush_input.specs.declared.fault.SecondMapFault.{SecondMapFault}
use Rattle.crush_input.specs.declared.fault.SecondMapFault.TheVariants as unread
use Rattle.crush_input.specs.declared.fault.SecondMap.{SecondMap}
use Rattle.crush_input.specs.Input.{IsInput, job_bytes}
use Rattle.crush_input.specs.Options.{IsMapFault, AreNotesForOptions, AreNotesOfInputFault, IsSecondMapFault, IsTextOf}
use Rattle.crush_input.specs.Notes.{AreNotesOfFault, AreNotesOfFile, AreNotesOfSecondMap, AreNotesOfSecondMapFault, flaw_notes}
use Rattle.crush_input.specs.Origins.{job_origin}
use Rattle.crush_input.specs.Stages.{IsInputFault, IsNoJob}

-- a fault of a text is a flaw of the text, unless it is that memory ran out
pub flaw_where : (bytes : List ℕ) (f : TextFault) → is_out_of_memory f.kind ≡ false → IsFlawOrOutOfMemory bytes f → IsMapFlaw bytes f
flaw_where bytes f room (inl want) = let e = ap is_out_of_memory want in absurd cc
flaw_where bytes f room (inr flaw) = flaw

-- the notes of a flaw are right: they have the flaw's place, and there are none without `--explain`
pub flaw_noted : (explain : Bool) (w : SecondMap) (name bytes : List ℕ) (f : TextFault) (notes : List ℕ) → notes ≡ flaw_notes explain name bytes f → AreNotesOfSecondMap explain name (Some bytes) (run.SecondMap w (unread.Text f)) notes
flaw_noted explain w name bytes f notes is = (λ quiet. is ∙ ap (λ e. flaw_notes e name bytes f) quiet, is)

-- the notes that are computed from the bytes that were read are the notes of all bytes of the file
flaw_of_all : (explain : Bool) (name : List ℕ) (all : Option (List ℕ)) (bytes : List ℕ) (f : TextFault) (notes : List ℕ) → IfSome all (IsInput bytes) → IsSecondMapFault bytes (unread.Text f) → notes ≡ flaw_notes explain name bytes f
    → IfSome all (λ xs. notes ≡ flaw_notes explain name xs f)
flaw_of_all explain name None bytes f notes input h is = tt
flaw_of_all explain name (Some xs) bytes f notes input h is = is ∙ ap (λ z. flaw_notes explain name z f) (input.read h.0)

other_of_all : (explain : Bool) (name : List ℕ) (all : Option (List ℕ)) (bytes : List ℕ) (f : SecondMapFault) (notes : List ℕ) → IfSome all (IsInput bytes) → IsSecondMapFault bytes f → AreNotesOfSecondMapFault explain name (Some bytes) f notes
    → AreNotesOfSecondMapFault explain name all f notes
other_of_all explain name all bytes (unread.Text f) notes input h told = (told.0, flaw_of_all explain name all bytes f notes input h told.1)
other_of_all explain name all bytes unread.TooLong notes input h told = told
other_of_all explain name all bytes unread.Read notes input h told = told

pub map_noted_of_all : (explain : Bool) (why : SecondMap) (name : List ℕ) (all : Option (List ℕ)) (bytes : List ℕ) (f : RunFault) (notes : List ℕ) → IfSome all (IsInput bytes) → IsMapFault why (Some bytes) f → AreNotesOfSecondMap explain name (Some bytes) f notes → AreNotesOfSecondMap explain name all f notes
map_noted_of_all explain why name all bytes (run.Job j) notes input h told = told
map_noted_of_all explain why name all bytes run.Read notes input h told = told
map_noted_of_all explain why name all bytes run.Write notes input h told = told
map_noted_of_all explain why name all bytes run.Memory notes input h told = told
map_noted_of_all explain why name all bytes run.Thread notes input h told = told
map_noted_of_all explain why name all bytes (run.Refused n) notes input h told = told
map_noted_of_all explain why name all bytes (run.Made n) notes input h told = told
map_noted_of_all explain why name all bytes (run.Conflicts n) notes input h told = told
map_noted_of_all explain why name all bytes (run.Differs n) notes input h told = told
map_noted_of_all explain why name all bytes run.NoItem notes input h told = told
map_noted_of_all explain why name all bytes run.NoType notes input h told = told
map_noted_of_all explain why name all bytes run.NoClass notes input h told = told
map_noted_of_all explain why name all bytes (run.SecondMap w f) notes input h told = other_of_all explain name all bytes f notes input h.1 told

-- if the bytes that were read are the text of a map, then so are all bytes of the file
text_of_all : (m : MapData) (all : Option (List ℕ)) (bytes : List ℕ) → IfSome all (IsInput bytes) → IsTextOf m bytes → IfSome all (IsTextOf m)
text_of_all m None bytes input is = tt
text_of_all m (Some xs) bytes input is = subst (IsTextOf m) (input.read is.short) is

pub map_of_all : {E : Type 0} (r : Result MapData E) (all : Option (List ℕ)) (bytes : List ℕ) → IfSome all (IsInput bytes) → IfOk r (λ m. IsTextOf m bytes) → IfOk r (λ m. IfSome all (IsTextOf m))
map_of_all (Ok m) all bytes input is = text_of_all m all bytes input is
map_of_all (Err f) all bytes input is = tt

other_fault_of_all : (all : Option (List ℕ)) (bytes : List ℕ) (f : SecondMapFault) → IfSome all (IsInput bytes) → IsSecondMapFault bytes f → IfSome all (λ xs. IsSecondMapFault xs f)
other_fault_of_all None bytes f input h = tt
other_fault_of_all (Some xs) bytes (unread.Text f) input h = subst (λ (z : List ℕ). IsSecondMapFault z (unread.Text f)) (input.read h.0) h
other_fault_of_all (Some xs) bytes unread.TooLong input h = dite (dec_le (length xs) LONGEST_JOB) (λ few. let same = ap length (input.whole few) in absurd (omega (arith, same, h, few))) (λ many. omega (arith, many))
other_fault_of_all (Some xs) bytes unread.Read input h = tt

pub map_fault_of_all : (why : SecondMap) (all : Option (List ℕ)) (bytes : List ℕ) (f : RunFault) → IfSome all (IsInput bytes) → IsMapFault why (Some bytes) f → IsMapFault why all f
map_fault_of_all why all bytes (run.Job j) input h = absurd h
map_fault_of_all why all bytes run.Read input h = absurd h
map_fault_of_all why all bytes run.Write input h = absurd h
map_fault_of_all why all bytes run.Memory input h = tt
map_fault_of_all why all bytes run.Thread input h = absurd h
map_fault_of_all why all bytes (run.Refused n) input h = absurd h
map_fault_of_all why all bytes (run.Made n) input h = absurd h
map_fault_of_all why all bytes (run.Conflicts n) input h = absurd h
map_fault_of_all why all bytes (run.Differs n) input h = absurd h
map_fault_of_all why all bytes run.NoItem input h = absurd h
map_fault_of_all why all bytes run.NoType input h = absurd h
map_fault_of_all why all bytes run.NoClass input h = absurd h
map_fault_of_all why all bytes (run.SecondMap w s) input h = (h.0, other_fault_of_all all bytes s input h.1)

-- a failed read is a fault of the second map, whatever bytes its file has
pub unread_map : (why : SecondMap) (all : Option (List ℕ)) → IsMapFault why all (run.SecondMap why unread.Read)
unread_map why None = (refl, tt)
unread_map why (Some xs) = (refl, tt)

-- each other fault that occurs while the file is read is that memory ran out, which is also possible for the second map
pub other_map : (why : SecondMap) (f : RunFault) (all : Option (List ℕ)) → IsInputFault f → (f ≡ run.Read → ⊥) → IsMapFault why all f
other_map why (run.Job j) all h other = absurd h
other_map why run.Read all h other = absurd (other refl)
other_map why run.Write all h other = absurd h
other_map why run.Memory all h other = tt
other_map why run.Thread all h other = absurd h
other_map why (run.Refused n) all h other = absurd h
other_map why (run.Made n) all h other = absurd h
other_map why (run.Conflicts n) all h other = absurd h
other_map why (run.Differs n) all h other = absurd h
other_map why run.NoItem all h other = absurd h
other_map why run.NoType all h other = absurd h
other_map why run.NoClass all h other = absurd h
other_map why (run.SecondMap w s) all h other = absurd h

pub other_noted : (explain : Bool) (name : List ℕ) (all : Option (List ℕ)) (f : RunFault) (notes : List ℕ) → IsInputFault f → (f ≡ run.Read → ⊥) → AreNotesOfFile explain name f notes → AreNotesOfSecondMap explain name all f notes
other_noted explain name all (run.Job j) notes h other told = absurd h
other_noted explain name all run.Read notes h other told = absurd (other refl)
other_noted explain name all run.Write notes h other told = absurd h
other_noted explain name all run.Memory notes h other told = told
other_noted explain name all run.Thread notes h other told = absurd h
other_noted explain name all (run.Refused n) notes h other told = absurd h
other_noted explain name all (run.Made n) notes h other told = absurd h
other_noted explain name all (run.Conflicts n) notes h other told = absurd h
other_noted explain name all (run.Differs n) notes h other told = absurd h
other_noted explain name all run.NoItem notes h other told = absurd h
other_noted explain name all run.NoType notes h other told = absurd h
other_noted explain name all run.NoClass notes h other told = absurd h
other_noted explain name all (run.SecondMap w s) notes h other told = absurd h

-- the notes of a job that couldn't be read, or of bytes that aren't a job, are those of a run with these options
pub part_as_wanted : (content : List ℕ → Option (List ℕ)) (options : Options) (input : Option (List ℕ)) (f : RunFault) (notes : List ℕ) → IsInputFault f → AreNotesOfInputFault options f notes → AreNotesForOptions content options input (Err f) notes
part_as_wanted content options input (run.Job j) notes h told = absurd h
part_as_wanted content options input run.Read notes h told = told
part_as_wanted content options input run.Write notes h told = absurd h
part_as_wanted content options input run.Memory notes h told = told
part_as_wanted content options input run.Thread notes h told = absurd h
part_as_wanted content options input (run.Refused n) notes h told = absurd h
part_as_wanted content options input (run.Made n) notes h told = absurd h
part_as_wanted content options input (run.Conflicts n) notes h told = absurd h
part_as_wanted content options input (run.Differs n) notes h told = absurd h
part_as_wanted content options input run.NoItem notes h told = absurd h
part_as_wanted content options input run.NoType notes h told = absurd h
part_as_wanted content options input run.NoClass notes h told = absurd h
part_as_wanted content options input (run.SecondMap w s) notes h told = absurd h

pub no_job_as_wanted : (content : List ℕ → Option (List ℕ)) (options : Options) (input all : Option (List ℕ)) (f : RunFault) (notes : List ℕ) → IsNoJob all f
    → AreNotesOfFault options.mode.explain (job_origin content options input) (job_bytes content options input) f notes → AreNotesForOptions content options input (Err f) notes
no_job_as_wanted content options input all (run.Job j) notes h told = told
no_job_as_wanted content options input all run.Read notes h told = absurd h
no_job_as_wanted content options input all run.Write notes h told = absurd h
no_job_as_wanted content options input all run.Memory notes h told = told
no_job_as_wanted content options input all run.Thread notes h told = absurd h
no_job_as_wanted content options input all (run.Refused n) notes h told = absurd h
no_job_as_wanted content options input all (run.Made n) notes h told = absurd h
no_job_as_wanted content options input all (run.Conflicts n) notes h told = absurd h
no_job_as_wanted content options input all (run.Differs n) notes h told = absurd h
no_job_as_wanted content options input all run.NoItem notes h told = absurd h
no_job_as_wanted content options input all run.NoType notes h told = absurd h
no_job_as_wanted content options input all run.NoClass notes h told = absurd h
no_job_as_wanted content options input all (run.SecondMap w s) notes h told = absurd h
