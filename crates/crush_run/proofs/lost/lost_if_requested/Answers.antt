use Rattle.std.proofs.Common.{Option, ap, sym, subst, ◌∙◌}
use Rattle.crush_map.specs.MapData.{MapData}
use Rattle.crush_input.specs.Notes.{IsKept}
use Rattle.crush_run.specs.Lost.{line_count}
use Rattle.crush_run.proofs.Headings.{both_first, is_not_none}
use Rattle.crush_run.proofs.lost.lost_if_requested.Goals as goal

pub returns-then-not-looks_for_conflicts : goal.returns-then-not-looks_for_conflicts
returns-then-not-looks_for_conflicts c = λ s t z kept stands. record {
  lines = λ on. absurd (let bad = sym c.if-not-looks_for_conflicts.true ∙ c.looks_for_conflicts.ensures ∙ on in cc);
  none = λ off. c.new.ensures.items;
  count = sym (ap line_count c.new.ensures.items);
}

pub unreachable-requires : goal.unreachable-requires
unreachable-requires c = is_not_none _ (c.requires (both_first c.args.conflicts _ (sym c.looks_for_conflicts.ensures ∙ c.if-not-looks_for_conflicts.false))) c.in_default.is

pub returns : goal.returns
returns c = λ s t z kept stands.
    let on = sym c.looks_for_conflicts.ensures ∙ c.if-not-looks_for_conflicts.false in
    record {
      lines = λ _. c.in_ok-lines.ensures s t z (subst (λ (o : Option MapData). IsKept o s t) c.in-Some.is (kept (both_first c.args.conflicts _ on))) stands;
      none = λ off. absurd (let bad = sym off ∙ on in cc);
      count = c.count_lines-count.ensures ∙ ap line_count c.as_slice.ensures.value;
    }
