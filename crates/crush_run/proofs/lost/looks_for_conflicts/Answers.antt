use Rattle.std.proofs.Common.{◌&&◌, nat_lt, ap, sym, ◌∙◌}
use Rattle.crush_run.proofs.Headings.{names_counted}
use Rattle.crush_run.proofs.lost.looks_for_conflicts.Goals as goal

pub returns : goal.returns
returns c = c.are_both.ensures ∙ ap (λ n. c.args.conflicts && nat_lt 1 n) (sym (names_counted c.args.scripts.now))
