use Rattle.std.proofs.Common.{ℕ, ap, ◌∙◌}
use Rattle.std.specs.Prelude.{codes, flat_map}
use Rattle.crush_print.specs.Lines.{kind_line}
use Rattle.crush_print.specs.MapText.{kind_text, kind_numbers, kind_section}
use Rattle.crush_print.proofs.InOrder.{section_pushed}
use Rattle.crush_print.proofs.printer.kinds.push_kinds.Goals as goal

pub returns : goal.returns
unfolding kind_section
returns c =
    let line = λ (n : ℕ). kind_line n (kind_text c.args.setting.now n) in
    section_pushed c.push_numbers.result c.args.out.now.items c.extend_from_slice.new.self.items c.push_numbers.new.out.items (codes "\n# types\n")
    (flat_map line c.as_slice.result.now) (flat_map line (kind_numbers c.args.setting.now))
    c.in_ok-extend_from_slice.ensures.items c.push_numbers.ensures (ap (flat_map line) (c.as_slice.ensures.value ∙ c.in_ok-numbers.ensures))
