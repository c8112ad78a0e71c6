use Rattle.std.proofs.Common.{◌++◌, ap, map, ◌∙◌}
use Rattle.std.specs.Prelude.{None}
use Rattle.crush_conflicts.specs.Conflicts.{new_lines, old_lines}
use Rattle.crush_conflicts.specs.NewItems.{each_once}
use Rattle.crush_conflicts.proofs.conflicts.conflict_lines.Goals as goal

pub returns : goal.returns
returns g c = λ t z os before after are. record {
  names = map (λ n. n.now) c.in_ok-names.names.items;
  new = c.in_ok-names.ensures t os before are;
  lines =
      c.in_ok-push_new_lines.ensures t z os before before after are
      ∙ (λ j. (c.in_ok-push_old_lines.ensures t z os before before after are ∙ ap (λ l. l ++ old_lines c.args.setting.now t os z) c.new-lines.ensures.items) j
      ++ new_lines c.args.setting.now t os z (each_once None (map (λ n. n.now) (c.as_slice.ensures.value j))));
}
