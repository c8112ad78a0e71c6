-- What it means that edits lead from one table to another: they are applied one after the other, and each of them is allowed, succeeds and changes the map.
use Rattle.std.specs.Prelude.{◌≡◌, ℕ, List, [], ◌∷◌, true}
use Rattle.crush_model.specs.Table.{Row}
use Rattle.crush_edits.specs.declared.edit.Edit.{Edit}
use Rattle.crush_edits.specs.Setting.{SettingData}
use Rattle.crush_edits.specs.Answer.{done}
use Rattle.crush_edits.specs.Edit.{edit}

-- LEADS: the edits lead from the table t to the table u. Each edit is applied to the table to which the edits before it have led. The edit is allowed on this table, succeeds there, and changes it. `Allowed` says which edits are allowed on a table, and s is the setting of the map
abbrev pub Leads : (List Row → Edit → Type 0) → SettingData → List Row → List Edit → List Row → Type 0
Leads Allowed s t [] u = t ≡ u
Leads Allowed s t (e ∷ es) u = Allowed t e × (made : ℕ) × (v : List Row) × (edit s t e ≡ done true made v) × Leads Allowed s v es u
