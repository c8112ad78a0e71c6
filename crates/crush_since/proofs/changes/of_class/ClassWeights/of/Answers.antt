use Rattle.std.proofs.Common.{ap, map, sym, ◌∙◌}
use Rattle.crush_print.specs.ClassItems.{step_weight}
use Rattle.crush_since.proofs.ClassChangeLaws.{weights_of_entries}
use Rattle.crush_since.proofs.changes.of_class.ClassWeights.of.Goals as goal

pub returns : goal.returns
returns g c = λ t u tables.
    let class = c.args.class.now in
    record {
      before = c.in_ok-before.ensures t tables.old ∙ ap (map (step_weight t class)) (sym tables.trees.before) ∙ weights_of_entries t class c.args.both.now.maps.old.all.items;
      after = c.in_ok-after.ensures u tables.new ∙ ap (map (step_weight u class)) (sym tables.trees.after) ∙ weights_of_entries u class c.args.both.now.maps.new.all.items;
    }
