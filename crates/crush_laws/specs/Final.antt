-- WHICH TEXTS END LAWFULLY: each word has the form that the grammar requires at its place, and the map that all lines together build is lawful. After earlier lines, the map that has been built so far needn't be lawful.
use Rattle.std.specs.Prelude.{◌≡◌, ℕ, List, [], ◌∷◌}
use Rattle.crush_model.specs.Table.{Row}
use Rattle.crush_model.specs.Lawful.{Lawful}
use Rattle.crush_edits.specs.Setting.{SettingData}
use Rattle.crush_edits.specs.Fits.{Fits}
use Rattle.crush_builder.specs.Built.{Draft}
use Rattle.crush_units.specs.Words.{Word, ended, words}
use Rattle.crush_text.specs.Flow.{State}
use Rattle.crush_text.specs.Document.{IsWhole, start}
use Rattle.crush_laws.specs.Admitted.{WordLeads}

-- WORDS LEAD from the state s to the draft d by their forms alone: each word leads to the next state, which needn't be lawful. The text may end after the last word, and its lines have built d
abbrev pub LeadTo : State → List Word → Draft → Type 0
LeadTo s [] d = IsWhole s d
LeadTo s (w ∷ ws) d = (u : State) × WordLeads s w.text ws u × LeadTo u ws d

-- A TEXT THAT ENDS LAWFULLY: the bytes can be split into words up to their end, and the words lead from the empty draft to a draft with this setting, this table and this number of adjusted weights. The table is lawful, and the setting fits the table.
pub record EndsLawfully (bytes : List ℕ) (s : SettingData) (t : List Row) (adjusted : ℕ) : Type 0 where
  pub draft : Draft
  pub led : LeadTo start (words 0 bytes).words draft
  pub end : (place : ℕ) × ((words 0 bytes).stop ≡ ended place)
  pub setting : draft.setting ≡ s
  pub table : draft.table ≡ t
  pub count : draft.adjusted ≡ adjusted
  pub lawful : Lawful t
  pub fits : Fits s t
