use Rattle.std.proofs.Common.{◌≡◌, ◌++◌, [], map, ap, ◌∙◌}
use Rattle.std.specs.Prelude.{flat_map}
use Rattle.std.proofs.lemmas.Result.{IfOk-weaker}
use Rattle.crush_edits.specs.SettingSeen.{rule_data}
use Rattle.crush_since.specs.Classes.{entry_class, rule_classes}
use Rattle.crush_since.specs.Collected.{collected}
use Rattle.crush_since.specs.CollectedSeen.{item_data}
use Rattle.crush_items.specs.Items.{item_entry}
use Rattle.crush_since.specs.declared.since.collected.Source.TheVariants.{Old, New}
use Rattle.crush_since.proofs.ClassLaws.{classes_listed, three_pushed}
use Rattle.crush_since.proofs.since.classes.classes_of.Goals as goal

pub returns : goal.returns
returns g c =
    IfOk-weaker c.collected.result _ _
    (λ uses is t u a b.
    is ∙ ap collected (three_pushed _ _ _ _ _ _ _ (ap (map item_data) c.new-items.ensures.items)
    (c.in_ok-push_devices.ensures ∙ ap (λ l. map item_data c.new-items.result.items ++ flat_map (λ x. entry_class Old (item_entry x)) l) c.as_slice.ensures.value)
    (c.in_ok-push_devices-2.ensures ∙ ap (λ l. map item_data c.push_devices.new.items.items ++ flat_map (λ x. entry_class New (item_entry x)) l) c.as_slice-2.ensures.value)
    (c.in_ok-push_rules.ensures ∙ ap (λ l. map item_data c.push_devices-2.new.items.items ++ rule_classes l) (c.rules.ensures ∙ ap (λ s. s.rules) c.setting.ensures)))
    ∙ classes_listed t u c.in_ok-before.before.all.items c.in_ok-after.after.all.items c.args.new.now.setting.rules a.lawful b.lawful (c.in_ok-before.ensures.entries t a) (c.in_ok-after.ensures.entries u b))
    c.collected.ensures
