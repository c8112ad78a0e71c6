use Rattle.std.proofs.Common.{◌≡◌, ◌++◌, take}
use Rattle.std.specs.Prelude.{flat_map}
use Rattle.crush_print.specs.Lines.{kind_line}
use Rattle.crush_print.specs.MapText.{kind_text}
use Rattle.crush_print.proofs.printer.kinds.push_numbers.Given as goal

abbrev pub invariant-loop-number : goal.invariant-loop-number
invariant-loop-number l = l.out.items ≡ l.fn.out.items ++ flat_map (λ n. kind_line n (kind_text l.setting n)) (take l.number-index l.numbers)
