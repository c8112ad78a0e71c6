use Rattle.std.proofs.Common.{ap, map, sym, arith, ◌∙◌}
use Rattle.std.proofs.lemmas.List.{take_all}
use Rattle.crush_conflicts.specs.Aspects.{of_either}
use Rattle.crush_conflicts.specs.Cases.{lost_among, lost_aspects}
use Rattle.crush_conflicts.specs.CasesSeen.{case_data, found_data}
use Rattle.crush_conflicts.proofs.CaseLaws.{lost_more}
use Rattle.crush_conflicts.proofs.cases.Case.lost_aspects.Goals as goal

pub loop-found-init : goal.loop-found-init
loop-found-init g c = λ t stands. c.none-lost.ensures

pub loop-found-preserved : goal.loop-found-preserved
loop-found-preserved g c = λ t stands.
    c.or-lost.ensures ∙ (λ j. of_either (c.loop-found.invariant t stands j) (c.lost_of-more.ensures t stands j))
    ∙ sym (lost_more t (case_data c.args.self.now) c.as_slice-alone.result.now c.loop-found.found-index c.found-item.result c.loop-found-test.true c.found-item.is)

pub returns : goal.returns
unfolding lost_aspects
returns g c = λ t stands.
    c.loop-found.invariant t stands
    ∙ ap (λ xs. lost_among t (case_data c.args.self.now) (map found_data xs)) (take_all c.loop-found.found-index c.as_slice-alone.result.now (omega (arith, c.loop-found-test.false)) ∙ c.as_slice-alone.ensures.value)
