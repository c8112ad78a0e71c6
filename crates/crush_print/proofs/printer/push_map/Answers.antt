use Rattle.std.proofs.Common.{◌≡◌, ◌++◌, sym, subst}
use Rattle.std.specs.Prelude.{codes, OnOk}
use Rattle.crush_model.specs.Stands.{Stands}
use Rattle.crush_print.specs.MapText.{tunable_section, device_section, kind_section, bucket_section, rule_section, map_text}
use Rattle.crush_print.proofs.InOrder.{map_done}
use Rattle.crush_print.proofs.printer.push_map.Goals as goal

pub returns : goal.returns
unfolding map_text
returns g c = λ t stands.
    let s = c.setting-setting.result.now in
    let here = subst (λ f. Stands f t) (sym c.forest-forest.ensures) stands in
    subst (λ x. OnOk c.extend_from_slice.result (c.extend_from_slice.new.self.items ≡ c.args.out.now.items ++ map_text c.args.form x t)) c.setting-setting.ensures
    (map_done c.extend_from_slice.result c.args.out.now.items _ _ _ _ _ _ (tunable_section s) (device_section t) (kind_section s) (bucket_section c.args.form s t) (rule_section s t) (codes "\n# end crush map\n")
    c.in_ok-push_tunables.ensures (c.in_ok-push_devices.ensures t here) c.in_ok-push_kinds.ensures (c.in_ok-push_roots.ensures t here) (c.in_ok-push_rules.ensures t stands) c.extend_from_slice.ensures.items)
