use Rattle.std.proofs.Common.{◌≡◌, ◌++◌, map}
use Rattle.std.specs.Prelude.{flat_map}
use Rattle.crush_edits.specs.SettingSeen.{tunable_data}
use Rattle.crush_print.specs.Lines.{tunable_line}
use Rattle.crush_print.proofs.printer.tunables.push_all_tunables.Given as goal

-- the text so far, together with the lines that still follow, is the complete text
abbrev pub invariant-loop-name : goal.invariant-loop-name
invariant-loop-name l =
    l.out.items ++ flat_map tunable_line (map tunable_data l.name-iterator)
    ≡ l.fn.out.items ++ flat_map tunable_line (map tunable_data l.tunables.entries)
