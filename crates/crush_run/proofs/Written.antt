-- What parts of a run write, and what a whole run writes.
use Rattle.std.proofs.Common.{◌≡◌, ℕ, List, ◌++◌, Option, Some, None, Result, Ok, Err, refl}
use Rattle.std.specs.Prelude.{IfErr}
use Rattle.std.specs.Io.KnownBytes.{Appends, Keeps}
use Rattle.crush_units.specs.Writes.{Writes}
use Rattle.crush_units.specs.declared.write.WriteFault.{WriteFault}
use Rattle.crush_units.specs.declared.write.WriteFault.TheVariants as write
use Rattle.crush_units.proofs.Appending.{appends_both, less_of_both, then_less}
use Rattle.crush_since.specs.SinceNames.{WritesOrNothing}
use Rattle.crush_options.specs.declared.parsed_options.Mode.{Mode}
use Rattle.crush_input.specs.declared.fault.RunFault.{RunFault}
use Rattle.crush_input.specs.declared.fault.RunFault.TheVariants as run
use Rattle.crush_run.specs.Output.{IsPut, IsWritten}
use Rattle.crush_run.specs.Early.{IsEarlyFault}
use Rattle.crush_run.specs.Stages.{IsCheckFault}

-- if nothing is written, then the writer has what it had before
pub keeps_same : (old : Option (List ℕ)) → Keeps old old
keeps_same None = tt
keeps_same (Some xs) = refl

-- if a write of a text writes nothing when memory runs out, then IsPut holds for this write
pub put_of_writes : {X : Type 0} (r : Result X WriteFault) (old new : Option (List ℕ)) (text : List ℕ) → Writes r old new text → (r ≡ Err write.OutOfMemory → Keeps old new) → IsPut r old new text
put_of_writes (Ok x) old new text is none = is
put_of_writes (Err write.Write) old new text is none = is
put_of_writes (Err write.OutOfMemory) old new text is none = none refl

-- the same for a write of a text that may be empty
pub put_of_part : {X : Type 0} (r : Result X WriteFault) (old new : Option (List ℕ)) (text : List ℕ) → WritesOrNothing r old new text → (r ≡ Err write.OutOfMemory → Keeps old new) → IsPut r old new text
put_of_part (Ok x) old new text is none = is
put_of_part (Err write.Write) old new text is none = is
put_of_part (Err write.OutOfMemory) old new text is none = none refl

-- the same for a write of a text that is already in memory
pub put_of_laid_out : {X : Type 0} (r : Result X WriteFault) (old new : Option (List ℕ)) (text : List ℕ) → Writes r old new text → IfErr r (λ f. f ≡ write.Write) → IsPut r old new text
put_of_laid_out (Ok x) old new text is only = is
put_of_laid_out (Err write.Write) old new text is only = is
put_of_laid_out (Err write.OutOfMemory) old new text is only = absurd cc

-- if a write has written less than a text, then it has written less than this text followed by another text
less_put : (X : Type 0) (f : WriteFault) (old new : Option (List ℕ)) (first second : List ℕ) → IsPut {X = X} (Err f) old new first → IsPut {X = X} (Err f) old new (first ++ second)
less_put X write.Write old new first second less = less_of_both old new first second less
less_put X write.OutOfMemory old new first second kept = kept

pub less_of_put : {X : Type 0} (r : Result X WriteFault) (e f : WriteFault) (old new : Option (List ℕ)) (first second : List ℕ) → r ≡ Err e → e ≡ f → IsPut {X = X} (Err f) old new first → IsPut r old new (first ++ second)
less_of_put {X = X} r e f old new first second is same less = rw (is, same) (less_put X f old new first second less)

-- a write of a text, followed by a write of another text that is already in memory: IsPut holds for both texts together
pub put_behind : {X : Type 0} (r : Result X WriteFault) (old mid new : Option (List ℕ)) (first second : List ℕ) → Appends old mid first → Writes r mid new second → IfErr r (λ f. f ≡ write.Write) → IsPut r old new (first ++ second)
put_behind (Ok x) old mid new first second whole is only = appends_both old mid new first second whole is
put_behind (Err write.Write) old mid new first second whole is only = then_less old mid new first second whole is
put_behind (Err write.OutOfMemory) old mid new first second whole is only = absurd cc

-- if a run ends because of a check, it writes nothing
unwritten_where_checked : (X : Type 0) (mode : Mode) (f : RunFault) (old : Option (List ℕ)) (text : List ℕ) → IsCheckFault mode f → IsWritten {X = X} (Err f) old old text
unwritten_where_checked X mode (run.Job j) old text h = absurd h
unwritten_where_checked X mode run.Read old text h = absurd h
unwritten_where_checked X mode run.Write old text h = absurd h
unwritten_where_checked X mode run.Memory old text h = absurd h
unwritten_where_checked X mode run.Thread old text h = absurd h
unwritten_where_checked X mode (run.Refused n) old text h = keeps_same old
unwritten_where_checked X mode (run.Made n) old text h = keeps_same old
unwritten_where_checked X mode (run.Conflicts n) old text h = keeps_same old
unwritten_where_checked X mode (run.Differs n) old text h = keeps_same old
unwritten_where_checked X mode run.NoItem old text h = keeps_same old
unwritten_where_checked X mode run.NoType old text h = keeps_same old
unwritten_where_checked X mode run.NoClass old text h = keeps_same old
unwritten_where_checked X mode (run.SecondMap w s) old text h = absurd h

pub unwritten_of_check : {X : Type 0} (mode : Mode) (r : Result X RunFault) (e f : RunFault) (old : Option (List ℕ)) (text : List ℕ) → r ≡ Err e → e ≡ f → IsCheckFault mode f → IsWritten r old old text
unwritten_of_check {X = X} mode r e f old text is same h = rw (is, same) (unwritten_where_checked X mode f old text h)

-- if a run ends before there is a history, it writes nothing
unwritten_early : (X : Type 0) (f : RunFault) (old : Option (List ℕ)) (text : List ℕ) → IsEarlyFault f → IsWritten {X = X} (Err f) old old text
unwritten_early X (run.Job j) old text early = keeps_same old
unwritten_early X run.Read old text early = keeps_same old
unwritten_early X run.Write old text early = absurd early
unwritten_early X run.Memory old text early = keeps_same old
unwritten_early X run.Thread old text early = keeps_same old
unwritten_early X (run.Refused n) old text early = absurd early
unwritten_early X (run.Made n) old text early = absurd early
unwritten_early X (run.Conflicts n) old text early = absurd early
unwritten_early X (run.Differs n) old text early = absurd early
unwritten_early X run.NoItem old text early = absurd early
unwritten_early X run.NoType old text early = absurd early
unwritten_early X run.NoClass old text early = absurd early
unwritten_early X (run.SecondMap w s) old text early = keeps_same old

pub nothing_written : {X : Type 0} (r : Result X RunFault) (f : RunFault) (old : Option (List ℕ)) (text : List ℕ) → r ≡ Err f → IsEarlyFault f → IsWritten r old old text
nothing_written {X = X} r f old text is early = rw is (unwritten_early X f old text early)
