use Rattle.std.proofs.Common.{◌∙◌, sym}
use Rattle.std.specs.Prelude.{flat_map}
use Rattle.crush_since.specs.Changes.{has_some}
use Rattle.crush_since.specs.Settings.{setting_lines}
use Rattle.crush_since.specs.Since.{all_ids, id_line, plain_map}
use Rattle.crush_since.proofs.AskedLaws.{items_are_told, setting_is_told}
use Rattle.crush_since.proofs.since.changed.is_changed.Goals as goal

pub returns-then-is_setting_listed : goal.returns-then-is_setting_listed
returns-then-is_setting_listed g c = λ t u a b.
    setting_is_told c.args.old.now.setting c.args.new.now.setting t u
    (sym (c.is_setting_listed.ensures ∙ (λ k. has_some (setting_lines (c.setting.ensures k) (c.setting-2.ensures k)))) ∙ c.if-is_setting_listed.true)

pub returns : goal.returns
returns g c = λ t u a b.
    let ids = all_ids t u in
    items_are_told c.args.old.now.setting c.args.new.now.setting t u c.is_different.result
    (sym (c.is_setting_listed.ensures ∙ (λ k. has_some (setting_lines (c.setting.ensures k) (c.setting-2.ensures k)))) ∙ c.if-is_setting_listed.false)
    (c.is_different.ensures t u ids (c.in_ok-both.ensures.pairs t u a b).pairs
    ∙ (λ k. has_some (flat_map (id_line (plain_map (c.in_ok-both.ensures.old k).setting t) (plain_map (c.in_ok-both.ensures.new k).setting u)) ids)))
