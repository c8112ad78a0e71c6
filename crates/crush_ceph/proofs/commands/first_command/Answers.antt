use Rattle.std.proofs.Common.{◌≡◌, ◌<◌, ◌+◌, ◌∷◌, ap, arith, drop, length, sym, take, ◌∙◌}
use Rattle.std.proofs.lemmas.List.{drop-drop, length-drop}
use Rattle.crush_ceph.specs.Commands.{cut}
use Rattle.crush_ceph.proofs.Cutting.{run, run_ends, run_more, some_cut}
use Rattle.crush_ceph.proofs.commands.first_command.Goals as goal

pub steps-init : goal.steps-init
steps-init c = record { within = c.requires; run = omega arith }

pub steps-preserved : goal.steps-preserved
steps-preserved c =
    let steps = c.args.steps.now in
    let last = c.steps.last in
    let more = run_more (drop last steps) (sym c.joins_next.ensures.value ∙ c.steps-test.true) in
    let rest = ap run (drop-drop 1 last steps) in
    record { within = c.joins_next.ensures.next c.steps-test.true; run = omega (arith, c.steps.invariant.run, more, rest) }

pub returns-clause-bound : goal.returns-clause-bound
returns-clause-bound c = omega (arith, c.steps.invariant.within)

pub returns-clause-cut : goal.returns-clause-cut
returns-clause-cut c =
    let steps = c.args.steps.now in
    let last = c.steps.last in
    let some : 0 < length (drop last steps) = omega (arith, length-drop last steps, c.steps.invariant.within) in
    let ends = run_ends (drop last steps) some (sym c.joins_next.ensures.value ∙ c.steps-test.false) in
    let is : run steps ≡ last + 1 = omega (arith, c.steps.invariant.run, ends) in
    some_cut steps c.requires ∙ ap (λ n. take n steps ∷ cut (drop n steps)) is
