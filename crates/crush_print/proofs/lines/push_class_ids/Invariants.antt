use Rattle.std.proofs.Common.{◌≡◌, ◌++◌, take, map}
use Rattle.std.specs.Prelude.{flat_map}
use Rattle.crush_nodes.specs.Seen.{shadow_data}
use Rattle.crush_print.specs.Lines.{class_id_line}
use Rattle.crush_print.proofs.lines.push_class_ids.Given as goal

abbrev pub invariant-loop-id : goal.invariant-loop-id
invariant-loop-id g l = l.out.items ≡ l.fn.out.items ++ flat_map class_id_line (map shadow_data (take l.id-index l.ids))
