use Rattle.std.proofs.Common.{◌≡◌, true, false, ap, sym, ◌∙◌}
use Rattle.std.specs.Prelude.{is_none}
use Rattle.crush_edits.specs.Setting.{kind_number}
use Rattle.crush_edits.specs.declared.location.Pair.{Pair}
use Rattle.crush_apply.specs.Culprit.{unknown_type}
use Rattle.crush_apply.proofs.FirstNames.{name_here, name_later, none_told}
use Rattle.crush_apply.proofs.route.culprit.unknown_type.Goals as goal

pub returns-then-is_none : goal.returns-then-is_none
returns-then-is_none c =
    let p = c.pair-item.result in
    let unknown : is_none (kind_number c.args.setting.now p.kind) ≡ true = ap (λ n. is_none (kind_number c.args.setting.now n)) (sym c.as_bytes.ensures.value) ∙ ap is_none (sym c.kind_number.ensures) ∙ none_told c.kind_number.result c.is_none.result c.is_none.ensures ∙ c.if-is_none.true in
    sym (c.loop-pair.invariant ∙ name_here (λ (q : Pair) l. is_none (kind_number c.args.setting.now q.kind)) (λ (q : Pair). q.kind) _ c.loop-pair.pair-index p c.loop-pair-test.true c.pair-item.is unknown)
    ∙ ap (unknown_type c.args.setting.now) c.pairs-pairs.ensures.value

pub loop-pair-preserved : goal.loop-pair-preserved
loop-pair-preserved c =
    let p = c.pair-item.result in
    let known : is_none (kind_number c.args.setting.now p.kind) ≡ false = ap (λ n. is_none (kind_number c.args.setting.now n)) (sym c.as_bytes.ensures.value) ∙ ap is_none (sym c.kind_number.ensures) ∙ none_told c.kind_number.result c.is_none.result c.is_none.ensures ∙ c.if-is_none.false in
    c.loop-pair.invariant ∙ name_later (λ (q : Pair) l. is_none (kind_number c.args.setting.now q.kind)) (λ (q : Pair). q.kind) _ c.loop-pair.pair-index p c.loop-pair-test.true c.pair-item.is known
