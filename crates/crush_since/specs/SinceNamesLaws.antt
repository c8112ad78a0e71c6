-- A law about the text that says what has changed if items are matched by their names.
use Rattle.std.specs.Prelude.{◌≡◌, List, ◌++◌}
use Rattle.crush_edits.specs.Setting.{SettingData}
use Rattle.crush_model.specs.Lawful.{Lawful}
use Rattle.crush_model.specs.Table.{Row, total}
use Rattle.crush_since.specs.Since.{plain_map, totals_line}
use Rattle.crush_since.specs.Tallies.{counts_line, no_tally}
use Rattle.crush_since.specs.SinceNames.{since_names_text}

-- if a map whose table is lawful is compared with itself by names, the text has only its last two lines, and all counts are 0
abbrev pub NothingByNamesSinceItself : Type 0
NothingByNamesSinceItself = (s : SettingData) (t : List Row) → Lawful t → since_names_text (plain_map s t) (plain_map s t) ≡ totals_line (total t) (total t) ++ counts_line no_tally
