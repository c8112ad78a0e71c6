use Rattle.std.proofs.Common.{◌++◌, ap, map, sym, arith, append-nil, ◌∙◌}
use Rattle.std.specs.Prelude.{flat_map}
use Rattle.std.proofs.lemmas.List.{take_all}
use Rattle.crush_items.specs.Items.{item_step}
use Rattle.crush_items.proofs.WalkLaws.{more_steps, one_more}
use Rattle.crush_conflicts.specs.NewItems.{new_name}
use Rattle.crush_conflicts.proofs.new_items.push_new_names.Goals as goal

pub loop-item-init : goal.loop-item-init
loop-item-init g c = λ t stands. sym (append-nil _)

pub loop-item-preserved : goal.loop-item-preserved
loop-item-preserved g c = λ t stands.
    one_more _ _ _ _ _ _ (c.loop-item.invariant t stands) (c.in_ok-push_if_new.ensures t stands)
    (more_steps (λ x. new_name t (item_step x)) c.args.items.now c.loop-item.item-index c.item-item.result c.loop-item-test.true c.item-item.is)

pub returns : goal.returns
returns g c = λ t stands.
    c.loop-item.invariant t stands
    ∙ ap (λ xs. map (λ n. n.now) c.args.names.now.items ++ flat_map (λ x. new_name t (item_step x)) xs) (take_all c.loop-item.item-index c.args.items.now (omega (arith, c.loop-item-test.false)))
