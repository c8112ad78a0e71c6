use Rattle.std.proofs.Common.{refl, ◌∙◌}
use Rattle.crush_history.specs.HistoryText.{names_of}
use Rattle.crush_history.specs.Script.{scripts_data}
use Rattle.crush_reasons.proofs.Creating.{lines_all, lines_first, lines_more}
use Rattle.crush_reasons.proofs.created.push_entries.Goals as goal

pub loop-place-init : goal.loop-place-init
loop-place-init c = record { setting = refl; left = λ t st. lines_first c.args.map.now.setting t (names_of (scripts_data c.args.scripts.now)) c.args.entries.now c.args.text.now.items c.args.map.now st }

pub loop-place-preserved : goal.loop-place-preserved
loop-place-preserved c =
    let so_far = c.loop-place.invariant in
    let pushed = c.in_ok-push_created.ensures in
    record {
      setting = pushed.setting ∙ so_far.setting;
      left = λ t st.
          lines_more c.args.map.now.setting t (names_of (scripts_data c.args.scripts.now)) c.args.entries.now c.loop-place.place c.index-entries-place.result _ _ _ _ _ _ _ _ _ _
          c.loop-place-test.true c.index-entries-place.is so_far.setting c.operator_name-name.ensures c.has_looks.ensures c.looks_after-left.ensures pushed.lines pushed.stands (so_far.left t st);
    }

pub returns : goal.returns
returns c = λ t st. lines_all _ t (names_of (scripts_data c.args.scripts.now)) c.args.entries.now c.loop-place.place _ _ _ _ _ c.loop-place-test.false (c.loop-place.invariant.left t st)
