use Rattle.std.proofs.Common.{ap, sym, subst, ◌≤◌, ◌∙◌}
use Rattle.std.specs.Prelude.{is_some}
use Rattle.crush_units.specs.declared.limits.TheConstants.{MOST_BUCKETS}
use Rattle.crush_model.specs.Table.{is_named}
use Rattle.crush_edits.specs.Setting.{kind_number}
use Rattle.crush_edits.proofs.Others.{full_has_no_room}
use Rattle.crush_apply.proofs.Singles.{not_zero}
use Rattle.crush_apply.proofs.add_bucket.check_add.Goals as goal

pub returns-then-counts-ge-MOST_BUCKETS-clause-refused : goal.returns-then-counts-ge-MOST_BUCKETS-clause-refused
returns-then-counts-ge-MOST_BUCKETS-clause-refused g c = λ t st.
    full_has_no_room c.args.setting.now t c.args.name.now c.args.kind.now c.in-Some.number (ap (kind_number c.args.setting.now) (sym c.as_bytes.ensures.value) ∙ sym c.in-Some.ensures) (not_zero c.in-Some.number c.number.result c.number.ensures.value c.if-number-eq0.false)
    (ap (is_named t) (sym c.as_str.ensures.value) ∙ ap is_some (sym (c.id_of.ensures t st)) ∙ sym c.if-is_some.ensures) (subst (λ k. MOST_BUCKETS ≤ k) (c.counts.ensures.buckets t st) c.if-counts-ge-MOST_BUCKETS.true)
