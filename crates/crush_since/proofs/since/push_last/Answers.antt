use Rattle.std.proofs.Common.{◌∙◌, ◌++◌}
use Rattle.crush_compare.specs.declared.identity.Identity.TheVariants.{Ids}
use Rattle.crush_model.specs.Table.{total}
use Rattle.crush_since.specs.Since.{plain_map, totals_line, last_lines}
use Rattle.crush_since.proofs.BesideLaws.{last_sections}
use Rattle.crush_since.proofs.since.push_last.Goals as goal

pub returns : goal.returns
unfolding last_lines
returns g c = λ t u a b.
    last_sections (plain_map c.args.old.now.setting t) (plain_map c.args.new.now.setting u) c.args.counts.now _ _ _ _ (c.in_ok-push_lines_beside.ensures t u a b)
    (c.in_ok-push_totals.ensures ∙ (λ i. c.push_lines_beside.new.out.items ++ totals_line (c.total.ensures t a i) (c.total-2.ensures u b i))) c.in_ok-push_counts.ensures
