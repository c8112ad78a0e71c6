use Rattle.std.proofs.Common.{[], ◌∷◌, ◌++◌, append-nil, ap, sym, ◌∙◌}
use Rattle.std.proofs.lemmas.List.{append_assoc}
use Rattle.std.specs.Prelude.{map}
use Rattle.crush_edits.specs.SettingSeen.{kind_data}
use Rattle.crush_edits.proofs.SettingLaws.{new_number}
use Rattle.crush_edits.proofs.setting.kinds.Kinds.try_copy.Goals as goal

pub push-requires : goal.push-requires
push-requires c =
    new_number c.self.inside.names.entries c.into_iter-number-iterator.ensures.into_iter_gives.4 c.loop-number.copy (map kind_data c.next.new.self) (kind_data (c.in-Some.number.now, c.in-Some.name.now))
    (ap (λ es. c.loop-number.copy ++ map kind_data es) (sym c.in-Some.ensures.steps) ∙ c.loop-number.invariant ∙ sym c.self.view_is)

pub loop-number-preserved : goal.loop-number-preserved
loop-number-preserved c =
    ap (λ ks. ks ++ map kind_data c.next.new.self) (c.in_ok-push.ensures.ok ∙ ap (λ n. c.loop-number.copy ++ kind_data (c.in-Some.number.now, n) ∷ []) c.in_ok-name.ensures)
    ∙ append_assoc c.loop-number.copy (kind_data (c.in-Some.number.now, c.in-Some.name.now) ∷ []) (map kind_data c.next.new.self)
    ∙ ap (λ es. c.loop-number.copy ++ map kind_data es) (sym c.in-Some.ensures.steps) ∙ c.loop-number.invariant

pub returns : goal.returns
returns c = sym (append-nil c.loop-number.copy) ∙ ap (λ es. c.loop-number.copy ++ map kind_data es) (sym c.in-None.ensures.steps.0) ∙ c.loop-number.invariant
