use Rattle.crush_script.proofs.Cuts.{section_part-begins}
use Rattle.crush_script.proofs.line.cut_job.Goals as goal

pub returns-clause-begins : goal.returns-clause-begins
returns-clause-begins c = rw (c.split_at.ensures.back, c.length_to_section.ensures.length) (section_part-begins c.args.job.now)
