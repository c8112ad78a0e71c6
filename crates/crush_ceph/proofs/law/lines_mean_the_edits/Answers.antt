use Rattle.crush_ceph.proofs.LawLines.{each_line_means_its_edits, lines_mean_the_edits}
use Rattle.crush_ceph.proofs.law.lines_mean_the_edits.Goals as goal

pub returns-clause-line : goal.returns-clause-line
returns-clause-line c = each_line_means_its_edits

pub returns-clause-edits : goal.returns-clause-edits
returns-clause-edits c = lines_mean_the_edits
