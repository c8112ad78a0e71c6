use Rattle.std.proofs.Common.{ap, map, sym, arith, refl, ◌∙◌}
use Rattle.std.specs.Prelude.{◌||◌}
use Rattle.std.specs.List.{list_any}
use Rattle.std.proofs.lemmas.List.{take_all}
use Rattle.crush_conflicts.specs.Cases.{is_kept_of}
use Rattle.crush_conflicts.specs.CasesSeen.{case_data, found_data}
use Rattle.crush_conflicts.proofs.CaseLaws.{any_more}
use Rattle.crush_conflicts.proofs.cases.Case.is_some_kept.Goals as goal

pub loop-found-preserved : goal.loop-found-preserved
loop-found-preserved g c = λ t stands lost.
    c.is_either-is_kept.ensures ∙ (λ j. c.loop-found.invariant t stands lost j || c.is_kept_of-is_this.ensures t stands lost j)
    ∙ sym (any_more (is_kept_of t (case_data c.args.self.now)) c.as_slice-alone.result.now c.loop-found.found-index c.found-item.result c.loop-found-test.true c.found-item.is)

pub returns : goal.returns
returns g c = λ t stands lost.
    c.loop-found.invariant t stands lost
    ∙ ap (λ xs. list_any (is_kept_of t (case_data c.args.self.now)) (map found_data xs)) (take_all c.loop-found.found-index c.as_slice-alone.result.now (omega (arith, c.loop-found-test.false)) ∙ c.as_slice-alone.ensures.value)
