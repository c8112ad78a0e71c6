use Rattle.std.proofs.Common.{◌∙◌, ap, map}
use Rattle.crush_items.specs.Items.{item_entry}
use Rattle.crush_items.specs.Tree.{WalkStepData}
use Rattle.crush_compare.proofs.WithinLaws.{run_here, run_nowhere, views_of}
use Rattle.crush_compare.proofs.below.run_of.Goals as goal

pub returns-in-Some : goal.returns-in-Some
returns-in-Some g c = λ t stands by_id has tree.
    let xs = c.args.items.now.all.items in
    run_here t (map item_entry xs) c.args.under.now c.in-Some.place c.run.result stands.lawful has (views_of xs ∙ ap (map (λ (s : WalkStepData). s.item)) tree) (c.in-Some.ensures.entry t (map item_entry xs) stands.lawful by_id) c.run.ensures.from
    (c.run.ensures.table t stands tree)

pub returns-in-None : goal.returns-in-None
returns-in-None g c = λ t stands by_id has tree.
    run_nowhere t (map item_entry c.args.items.now.all.items) c.args.under.now stands.lawful has (c.in-None.ensures.entry t (map item_entry c.args.items.now.all.items) stands.lawful by_id)
