use Rattle.std.proofs.Common.{ap, map, ◌∙◌, ◌++◌, refl}
use Rattle.std.specs.Prelude.{Some}
use Rattle.crush_print.proofs.InOrder.{section_pushed}
use Rattle.crush_since.specs.ChangePart.{part_rows}
use Rattle.crush_since.specs.ChangeText.{rows_text}
use Rattle.crush_since.specs.ClassChanges.{class_changes_text, class_rows, staying}
use Rattle.crush_since.specs.ClassChangesSeen.{row_counts, row_depth, shown_change}
use Rattle.crush_since.specs.SeenChange.{row_change}
use Rattle.crush_since.specs.Since.{plain_map}
use Rattle.crush_since.proofs.ClassChangeLaws.{shown_rows}
use Rattle.crush_since.proofs.changes.push_class_changes.Goals as goal

pub returns : goal.returns
unfolding class_changes_text
returns g c = λ t u a b.
    let s = c.args.old.now.setting in
    let p = c.args.new.now.setting in
    let class = c.args.class.now in
    let maps = c.in_ok-both.both.maps in
    let weights = c.in_ok-weights.weights in
    let tables = c.in_ok-both.ensures.tables t u a b in
    let old = c.in_ok-both.ensures.old in
    let new = c.in_ok-both.ensures.new in
    let part =
    ap (map (row_change maps)) c.as_slice.ensures.value ∙ c.in_ok-rows.ensures t u tables ∙ (λ i. part_rows c.args.part.now (plain_map (old i).setting t) (plain_map (new i).setting u)) in
    let kept =
    ap (map (shown_change maps (Some weights))) (c.as_slice-2.ensures.value ∙ c.in_ok-rows-2.ensures) ∙ shown_rows t u class maps weights c.as_slice.result.now (c.in_ok-weights.ensures t u tables) ∙ ap (class_rows t u class) part in
    section_pushed c.push_behind.result c.args.out.now.items c.push_rows.new.out.items c.push_behind.new.out.items (rows_text s p (class_rows t u class (part_rows c.args.part.now (plain_map s t) (plain_map p u)))) _ _
    (c.in_ok-push_rows.ensures ∙ (λ i. c.args.out.now.items ++ rows_text (old i).setting (new i).setting (kept i))) (c.push_behind.ensures t u a b) refl
