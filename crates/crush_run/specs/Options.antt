-- How a run ends if a command line selects its job and its output.
use Rattle.std.specs.Prelude.{ℕ, List, Option, Result, Ok, Err, IfSome}
use Rattle.crush_script.specs.Job.{HasJob, JobData}
use Rattle.crush_options.specs.declared.parsed_options.Options.{Options}
use Rattle.crush_input.specs.declared.output.Output.{Output}
use Rattle.crush_input.specs.declared.fault.RunFault.{RunFault}
use Rattle.crush_input.specs.declared.fault.RunFault.TheVariants as run
use Rattle.crush_input.specs.declared.summary.Summary.{Summary}
use Rattle.crush_reasons.specs.Place.{OriginData}
use Rattle.crush_input.specs.Notes.{text_of}
use Rattle.crush_run.specs.Run.{Ends, IsRunFault}
use Rattle.crush_input.specs.Options.{IsOutputFault, IsOutputOf}

-- whether a run may end with this fault. A fault of the second map is possible only if the bytes are a job, and if reading the second map may fail with this fault (`IsOutputFault`). Any other fault is possible in the same cases as in a run of a job (`IsRunFault`).
abbrev pub IsOptionsFault : (List ℕ → Option (List ℕ)) → Options → Option (List ℕ) → RunFault → Type 0
IsOptionsFault content options all (run.SecondMap which fault) = IfSome all HasJob × IsOutputFault content options.output_spec (run.SecondMap which fault)
IsOptionsFault content options all fault = IsRunFault options.mode all fault

-- there is an output that the options select (`IsOutputOf`), and the run of the job ends as Ends says for this output. The notes of the run refer to the text of these bytes. `origin` says from which file each line comes.
pub record EndsWithOutput (content : List ℕ → Option (List ℕ)) (options : Options) (origin : ℕ → OriginData) (bytes : List ℕ) (job : JobData) (result : Result Summary RunFault) (old new : Option (List ℕ)) (notes : List ℕ) : Type 0 where
  pub what : Output
  pub output : IsOutputOf content options.output_spec what
  pub ends : Ends options.mode what job (text_of options.mode.explain origin bytes job.table) result old new notes

-- ENDS AS SELECTED: the run ends as EndsWithOutput says, if it succeeds, fails to write, or ends because of refused calls, of differences that remain, of buckets that were created in spite of `--no-make`, of lost changes, or of a name that the map doesn't have. The definition says nothing about any other end.
abbrev pub EndsAsOptionsSay : (List ℕ → Option (List ℕ)) → Options → (ℕ → OriginData) → List ℕ → JobData → Result Summary RunFault → Option (List ℕ) → Option (List ℕ) → List ℕ → Type 0
EndsAsOptionsSay content options origin bytes job (Ok s) old new notes = EndsWithOutput content options origin bytes job (Ok s) old new notes
EndsAsOptionsSay content options origin bytes job (Err run.Write) old new notes = EndsWithOutput content options origin bytes job (Err run.Write) old new notes
EndsAsOptionsSay content options origin bytes job (Err (run.Refused n)) old new notes = EndsWithOutput content options origin bytes job (Err (run.Refused n)) old new notes
EndsAsOptionsSay content options origin bytes job (Err (run.Made n)) old new notes = EndsWithOutput content options origin bytes job (Err (run.Made n)) old new notes
EndsAsOptionsSay content options origin bytes job (Err (run.Conflicts n)) old new notes = EndsWithOutput content options origin bytes job (Err (run.Conflicts n)) old new notes
EndsAsOptionsSay content options origin bytes job (Err (run.Differs n)) old new notes = EndsWithOutput content options origin bytes job (Err (run.Differs n)) old new notes
EndsAsOptionsSay content options origin bytes job (Err run.NoItem) old new notes = EndsWithOutput content options origin bytes job (Err run.NoItem) old new notes
EndsAsOptionsSay content options origin bytes job (Err run.NoType) old new notes = EndsWithOutput content options origin bytes job (Err run.NoType) old new notes
EndsAsOptionsSay content options origin bytes job (Err run.NoClass) old new notes = EndsWithOutput content options origin bytes job (Err run.NoClass) old new notes
EndsAsOptionsSay content options origin bytes job (Err fault) old new notes = Unit {0}
