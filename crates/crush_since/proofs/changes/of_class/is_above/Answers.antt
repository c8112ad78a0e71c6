use Rattle.std.proofs.Common.{ap, sym, ◌∙◌}
use Rattle.std.specs.Option.{option_copied}
use Rattle.crush_since.specs.ClassChangesSeen.{row_depth}
use Rattle.crush_since.proofs.ClassChangeLaws.{last_is_first}
use Rattle.crush_since.proofs.changes.of_class.is_above.Goals as goal

pub returns-in-Some : goal.returns-in-Some
returns-in-Some c = last_is_first row_depth c.args.depth c.args.kept.now _ (ap option_copied (sym c.in-Some.is) ∙ c.last.ensures.value)

pub returns-in-None : goal.returns-in-None
returns-in-None c = last_is_first row_depth c.args.depth c.args.kept.now _ (ap option_copied (sym c.in-None.is) ∙ c.last.ensures.value)
