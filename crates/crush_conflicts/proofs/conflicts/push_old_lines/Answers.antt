use Rattle.std.proofs.Common.{ℕ, List, ◌++◌, ap, sym, arith, append-nil, ◌∙◌}
use Rattle.std.specs.Prelude.{flat_map}
use Rattle.std.proofs.lemmas.List.{take_all}
use Rattle.crush_items.specs.Items.{item_step}
use Rattle.crush_items.specs.Tree.{WalkStepData}
use Rattle.crush_items.proofs.WalkLaws.{flat-map, more_steps, one_more}
use Rattle.crush_conflicts.specs.Conflicts.{old_case, old_lines}
use Rattle.crush_conflicts.specs.Lines.{case_line}
use Rattle.crush_conflicts.proofs.conflicts.push_old_lines.Goals as goal

pub loop-item-init : goal.loop-item-init
loop-item-init g c = λ t z os known before after are. sym (append-nil _)

pub loop-item-preserved : goal.loop-item-preserved
loop-item-preserved g c = λ t z os known before after are.
    let s = c.args.naming.now.setting.now in
    one_more _ _ _ _ _ _ (c.loop-item.invariant t z os known before after are)
    (c.in_ok-push_case.ensures t known ∙ ap (λ case. c.loop-item.lines.items ++ case_line s t case) (c.in-Ok.ensures t z os before after are))
    (more_steps (λ x. case_line s t (old_case t os z (item_step x))) c.in_order-all.result.now c.loop-item.item-index c.item-item.result c.loop-item-test.true c.item-item.is)

pub returns : goal.returns
unfolding old_lines
returns g c = λ t z os known before after are.
    let s = c.args.naming.now.setting.now in
    let line : WalkStepData → List ℕ = λ step. case_line s t (old_case t os z step) in
    c.loop-item.invariant t z os known before after are
    ∙ ap (λ xs. c.args.lines.now.items ++ flat_map (λ x. line (item_step x)) xs) (take_all c.loop-item.item-index c.in_order-all.result.now (omega (arith, c.loop-item-test.false)))
    ∙ ap (λ l. c.args.lines.now.items ++ l) (flat-map line item_step c.in_order-all.result.now ∙ ap (flat_map line) (c.in_order-all.ensures t before))
