use Rattle.std.proofs.Common.{◌≡◌, ◌≤◌, ◌+◌, ◌++◌, ap, arith, drop, length, refl, sym, ◌∙◌}
use Rattle.std.proofs.lemmas.List.{append-nil, drop-drop, drop_all, length-drop}
use Rattle.std.specs.Prelude.{flat_map}
use Rattle.crush_ceph.specs.Commands.{command_line, cut}
use Rattle.crush_ceph.proofs.Cutting.{next_count, next_lines}
use Rattle.crush_ceph.proofs.text.push_commands.Goals as goal

pub commands-init : goal.commands-init
commands-init c = record { lines = refl; count = omega arith; few = omega arith; bound = omega arith }

pub commands-preserved : goal.commands-preserved
commands-preserved c =
    let steps = c.args.steps.now in
    let from = c.commands.from in
    let len = c.first_command-len.result in
    let rest = c.split_at.result.1.now in
    let back = c.split_at.ensures.back in
    let first = c.first_command-len.ensures.cut in
    let so_far = c.commands.invariant in
    let pushed = c.in_ok-push_command.ensures ∙ ap (λ l. c.commands.text.items ++ command_line l) c.split_at-in-commands.ensures.front in
    let at : drop len rest ≡ drop (from + len) steps = ap (λ l. drop len l) back ∙ drop-drop len from steps in
    let lines = next_lines rest len _ _ _ first pushed (ap (λ r. c.commands.text.items ++ flat_map command_line (cut r)) back ∙ so_far.lines) in
    let count = next_count rest len first in
    let same = ap (λ l. length (cut l)) back in
    let others = ap (λ l. length (cut l)) at in
    let some = c.first_command-len.ensures.some in
    record {
      lines = ap (λ l. c.push_command.new.text.items ++ flat_map command_line (cut l)) (sym at) ∙ lines;
      count = omega (arith, so_far.count, count, same, others);
      few = omega (arith, so_far.few, some);
      bound = omega (arith, c.first_command-len.ensures.bound, c.split_at.ensures.back_len, so_far.bound);
    }

pub returns-clause-lines : goal.returns-clause-lines
returns-clause-lines c =
    let steps = c.args.steps.now in
    let last : length steps ≤ c.commands.from = omega (arith, c.commands-test.false) in
    sym (append-nil c.commands.text.items) ∙ ap (λ l. c.commands.text.items ++ flat_map command_line (cut l)) (sym (drop_all c.commands.from steps last)) ∙ c.commands.invariant.lines

pub returns-clause-count : goal.returns-clause-count
returns-clause-count c =
    let steps = c.args.steps.now in
    let last : length steps ≤ c.commands.from = omega (arith, c.commands-test.false) in
    omega (arith, c.commands.invariant.count, ap (λ l. length (cut l)) (drop_all c.commands.from steps last))
