use Rattle.std.proofs.Common.{◌≡◌, ◌++◌, subst}
use Rattle.std.specs.Prelude.{OnOk}
use Rattle.crush_since.specs.ChangeText.{change_line}
use Rattle.crush_since.proofs.changes.lines.push_row_of.Goals as goal

pub returns : goal.returns
returns g c =
    subst (λ l. OnOk c.push_line.result (c.push_line.new.out.items ≡ l)) (λ i. c.args.out.now.items ++ change_line (c.setting.ensures i) (c.setting-2.ensures i) c.args.widths.now (c.shown_change-change.ensures i)) c.push_line.ensures
