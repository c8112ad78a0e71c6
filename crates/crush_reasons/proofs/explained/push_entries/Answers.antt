use Rattle.std.proofs.Common.{map, nat_lt, subst, sym, take, ◌∙◌, arith}
use Rattle.std.proofs.lemmas.List.{take_all}
use Rattle.crush_history.specs.HistoryText.{names_of}
use Rattle.crush_history.specs.Script.{scripts_data}
use Rattle.crush_history.proofs.RefusedLines.{no_refusals, refusals-take}
use Rattle.crush_reasons.specs.Explained.{AreExplained}
use Rattle.crush_reasons.specs.EditsLeft.{head_in, lines_left}
use Rattle.crush_reasons.specs.declared.near.TheConstants.{MOST_LOOKS}
use Rattle.crush_reasons.proofs.EditsLeft.{all_left, head_is, left_taken}
use Rattle.crush_reasons.proofs.Explaining.{more_explained, none_explained}
use Rattle.crush_reasons.proofs.explained.push_entries.Goals as goal
use Rattle.crush_reasons.proofs.explained.push_entries.Goals.{else-is_refused, then-is_refused}

pub loop-place-init : goal.loop-place-init
loop-place-init g c = record {
  told = none_explained (head_in (g.O.Locates.origin c.args.told.now.origins.now) (map (λ numbers. numbers.items) c.args.told.now.sections.now)) (names_of (scripts_data c.args.told.now.scripts.now)) c.args.map.now c.args.text.now.items;
  left = all_left _ _ c.in_ok-left.ensures;
  few = omega arith;
  refused = no_refusals;
}

pub loop-place-preserved : goal.loop-place-preserved
loop-place-preserved g c =
    let made = c.in_ok-push_made.ensures in
    let sections = map (λ numbers. numbers.items) c.args.told.now.sections.now in
    let placed = c.refused_place.ensures ∙ head_is (g.O.Locates.origin c.args.told.now.origins.now) sections (lines_left c.loop-place.left) (take c.loop-place.place c.args.entries.now) c.index-entries-place.result c.loop-place.invariant.left in
    let told = more_explained _ _ _ _ _ _ _ _ c.args.entries.now c.loop-place.place c.index-entries-place.result _ _ c.loop-place.invariant.told
    made.setting made.stands made.lines c.loop-place-test.true c.index-entries-place.is c.operator_name.ensures (λ i. record { place = placed i; looks = nat_lt (c.loop-place.invariant.refused i) MOST_LOOKS }) in
    let left = left_taken sections (lines_left c.loop-place.left) _ c.args.entries.now c.loop-place.place c.index-entries-place.result c.loop-place.invariant.left c.pass.ensures c.loop-place-test.true c.index-entries-place.is in
    let so_far = c.loop-place.invariant.refused in
    let more = refusals-take c.args.entries.now c.loop-place.place c.index-entries-place.result c.loop-place-test.true c.index-entries-place.is in
    elim c.if-is_refused.branch [
      | then-is_refused w ↦ let counted = rw (sym c.is_refused.ensures ∙ w.if-is_refused.true) at more in record { told = told; left = left; few = omega (arith, w.refused-is, c.loop-place.invariant.few); refused = omega (arith, w.refused-is, counted, so_far) }
      | else-is_refused w ↦ let counted = rw (sym c.is_refused.ensures ∙ w.if-is_refused.false) at more in record { told = told; left = left; few = omega (arith, w.refused-is, c.loop-place.invariant.few); refused = omega (arith, w.refused-is, counted, so_far) }
    ]

pub returns : goal.returns
returns g c = subst (AreExplained _ _ _ _ _ _) (take_all c.loop-place.place c.args.entries.now c.loop-place-test.false) c.loop-place.invariant.told
