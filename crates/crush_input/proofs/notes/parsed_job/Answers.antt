use Rattle.crush_input.proofs.notes.parsed_job.Goals as goal

-- what a parsed job represents doesn't depend on the numbers of the lines with its edits
pub returns-clause-job : goal.returns-clause-job
returns-clause-job c = λ said stands. record { map = stands.map; adjusted = stands.adjusted; scripts = stands.scripts }
