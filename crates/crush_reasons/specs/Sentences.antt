-- The sentences for faults and refusals, in an operator's words. The page docs/user/RULES.md has the same sentences.
use Rattle.std.specs.Prelude.{ℕ, List, [], codes}
use Rattle.crush_history.specs.declared.call.Reply.{Reply}
use Rattle.crush_history.specs.declared.call.Reply.TheVariants.{Done, Dones, Refused, BatchRefused, Stale}
use Rattle.crush_edits.specs.Refusal.{refusal_sentence}
use Rattle.crush_script.specs.declared.fault.JobFault.{JobFault}
use Rattle.crush_script.specs.declared.fault.JobFault.TheVariants as job

-- FAULTS OF A JOB. The sentences for three kinds of faults depend on the job's text, so they are in other files: `Flaws.antt` has those for faults of the map's text, `Commands.antt` those for a word that isn't a command, and `Misfit.antt` those for a line that isn't allowed at its place
abbrev pub job_sentence : JobFault → List ℕ
job_sentence (job.BadLine number why) = []
job_sentence (job.NoSuchCommand number) = []
job_sentence (job.OpenBatch number) = codes "this batch is not ended: add `commit` before the next %operator line"
job_sentence (job.TooManyOperators number) = codes "a job has at most 16 operators"
job_sentence (job.DuplicateOperator number) = codes "another operator above has this name"
job_sentence (job.Text fault) = []
job_sentence job.OutOfMemory = codes "not enough memory for the job"
job_sentence job.TooLong = codes "a job has at most 16777216 bytes"
job_sentence (job.TooManyCalls number) = codes "a job has at most 65536 commands and batches"

-- the sentence for a guarded batch that was refused because the map has changed since the operator looked at it. A guarded batch begins with `begin at N`, and N is the number of changes that the operator has seen
abbrev pub stale_sentence : List ℕ
stale_sentence = codes "the map has changed in the meantime: look at it again, and write `begin at` with the new number of changes"

-- the sentence for a reply that is a refusal; an empty text for any other reply
abbrev pub reply_sentence : Reply → List ℕ
reply_sentence (Done d) = []
reply_sentence (Dones d) = []
reply_sentence (Refused r) = refusal_sentence r
reply_sentence (BatchRefused index r) = refusal_sentence r
reply_sentence (Stale n) = stale_sentence
