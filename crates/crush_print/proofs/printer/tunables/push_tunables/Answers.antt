use Rattle.std.proofs.Common.{ap, map}
use Rattle.std.specs.Prelude.{codes, flat_map}
use Rattle.crush_edits.specs.SettingSeen.{tunable_data}
use Rattle.crush_print.specs.Lines.{tunable_line}
use Rattle.crush_print.specs.MapText.{tunable_section}
use Rattle.crush_print.proofs.InOrder.{section_pushed}
use Rattle.crush_print.proofs.printer.tunables.push_tunables.Goals as goal

pub returns : goal.returns
unfolding tunable_section
returns c =
    section_pushed c.push_all_tunables.result c.args.out.now.items c.extend_from_slice.new.self.items c.push_all_tunables.new.out.items (codes "# begin crush map\n")
    (flat_map tunable_line (map tunable_data c.tunables-tunables.result.now.entries)) (flat_map tunable_line c.args.setting.now.tunables)
    c.in_ok-extend_from_slice.ensures.items c.push_all_tunables.ensures (ap (flat_map tunable_line) c.tunables-tunables.ensures)
