use Rattle.std.proofs.Common.{ap, ◌∙◌}
use Rattle.std.specs.Prelude.{None, codes, flat_map}
use Rattle.crush_model.specs.ItemRows.{device_row}
use Rattle.crush_nodes.specs.Seen.{leaf_data}
use Rattle.crush_print.specs.Lines.{device_line}
use Rattle.crush_print.specs.MapText.{device_lines, device_section}
use Rattle.crush_print.proofs.InOrder.{section_pushed}
use Rattle.crush_print.proofs.printer.devices.push_devices.Goals as goal

pub returns : goal.returns
unfolding device_section
returns g c = λ t stands.
    section_pushed c.push_leaves.result c.args.out.now.items c.extend_from_slice.new.self.items c.push_leaves.new.out.items (codes "\n# devices\n")
    (flat_map (λ r. device_line (device_row None (leaf_data r.now))) c.as_slice.result.now) (device_lines t)
    c.in_ok-extend_from_slice.ensures.items c.push_leaves.ensures
    (ap (flat_map (λ r. device_line (device_row None (leaf_data r.now)))) c.as_slice.ensures.value ∙ c.in_ok-devices.ensures.lines t stands)
