use Rattle.std.proofs.Common.{ap, [], ◌∷◌, ◌++◌, ◌∙◌}
use Rattle.std.specs.Prelude.{map, bytes_eq}
use Rattle.std.specs.Map.{lookup}
use Rattle.indexmap.proofs.CallerLemmas.{insert_entry-new}
use Rattle.crush_edits.specs.Setting.{SettingData, has_tunable}
use Rattle.crush_edits.specs.SettingSeen.{tunable_data}
use Rattle.crush_edits.proofs.SettingLaws.{tunable_got, not_got, map-push}
use Rattle.crush_edits.proofs.setting.Setting.push_tunable.Goals as goal

pub returns-clause-ok : goal.returns-clause-ok
returns-clause-ok c =
    let none = not_got (lookup (bytes_eq c.args.name) c.self.inside.tunables.entries) (tunable_got c.args.name c.self.inside.tunables.entries ∙ ap (λ s. has_tunable s c.args.name) c.self.view_is ∙ c.requires) in
    let pushed = c.in_ok-insert.ensures.entries ∙ insert_entry-new bytes_eq c.self.inside.tunables c.args.name c.args.value none in
    let seen = ap (map tunable_data) pushed ∙ map-push tunable_data c.self.inside.tunables.entries (c.args.name, c.args.value) in
    λ j. record (c.self.view_is j) { tunables = (seen ∙ ap (λ (s : SettingData). s.tunables ++ tunable_data (c.args.name, c.args.value) ∷ []) c.self.view_is) j }
