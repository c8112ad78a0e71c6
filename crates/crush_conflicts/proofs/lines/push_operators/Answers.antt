use Rattle.std.proofs.Common.{◌++◌, ap, sym, arith, append-nil, ◌∙◌}
use Rattle.std.specs.Prelude.{flat_map}
use Rattle.std.proofs.lemmas.List.{take_all}
use Rattle.crush_items.proofs.WalkLaws.{flat-map, more_steps, one_more}
use Rattle.crush_conflicts.specs.CasesSeen.{case_data, found_data}
use Rattle.crush_conflicts.specs.Lines.{operator_text, told_operator}
use Rattle.crush_conflicts.proofs.lines.push_operators.Goals as goal

pub loop-found-init : goal.loop-found-init
loop-found-init g c = λ t stands lost. sym (append-nil _)

pub loop-found-preserved : goal.loop-found-preserved
loop-found-preserved g c = λ t stands lost.
    let s = c.args.naming.now.setting.now in
    let case = case_data c.args.case.now in
    one_more _ _ _ _ _ _ (c.loop-found.invariant t stands lost)
    (c.in_ok-push_if_told.ensures t stands ∙ ap (λ told. c.loop-found.text.items ++ told_operator s t told (found_data c.found-item.result)) (c.told_of-told.ensures t stands lost))
    (more_steps (λ x. operator_text s t case (found_data x)) c.as_slice-alone.result.now c.loop-found.found-index c.found-item.result c.loop-found-test.true c.found-item.is)

pub returns : goal.returns
returns g c = λ t stands lost.
    let s = c.args.naming.now.setting.now in
    let case = case_data c.args.case.now in
    c.loop-found.invariant t stands lost
    ∙ ap (λ xs. c.args.text.now.items ++ flat_map (λ x. operator_text s t case (found_data x)) xs) (take_all c.loop-found.found-index c.as_slice-alone.result.now (omega (arith, c.loop-found-test.false)) ∙ c.as_slice-alone.ensures.value)
    ∙ ap (λ l. c.args.text.now.items ++ l) (flat-map (operator_text s t case) found_data c.args.case.now.alone.items)
