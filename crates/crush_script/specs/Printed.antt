-- Laws about edits: a printed edit is parsed as the same edit, and each edit that was parsed can be printed.
use Rattle.std.specs.Prelude.{◌≡◌, ◌<◌, ◌^◌, ℕ, List, Ok}
use Rattle.crush_units.specs.OsdName.{osd_name}
use Rattle.crush_units.specs.declared.limits.TheConstants.{DEVICE_IDS}
use Rattle.crush_edits.specs.Pushed.{IsLocation}
use Rattle.crush_edits.specs.declared.location.Pair.{Pair}
use Rattle.crush_edits.specs.declared.edit.Placing.{Placing}
use Rattle.crush_edits.specs.declared.edit.Edit.{Edit}
use Rattle.crush_edits.specs.declared.edit.Edit.TheVariants.{Place}
use Rattle.crush_script.specs.declared.command.Command.TheVariants as says
use Rattle.crush_script.specs.Lines.{line_words}
use Rattle.crush_script.specs.Command.{command}
use Rattle.crush_edits.specs.EditText.{edit_text}
use Rattle.crush_history.specs.Said.{IsSaid}

-- PRINTED IS READ: if a command can express an edit, then the printed line of the edit is parsed as the same edit
abbrev pub PrintedIsRead : Type 0
PrintedIsRead = (e : Edit) → IsSaid e → command (line_words (edit_text e)) ≡ Ok (says.Edit e)

-- READ IS SAID: if an edit was parsed from a line, then a command can express the edit. So the printed line of the edit is parsed as the same edit
abbrev pub ReadIsSaid : Type 0
ReadIsSaid = (words : List (List ℕ)) (e : Edit) → command words ≡ Ok (says.Edit e) → IsSaid e

-- PLACED IS READ: if an edit places the device with the id d under the name `osd.N`, where N is this id, then the printed line of the edit is parsed as the same edit. The law requires that the id d is below DEVICE_IDS, that the weight w is below 2^32, and that `at` has the form of a location
abbrev pub PlacedIsRead : Type 0
PlacedIsRead = (how : Placing) (d w : ℕ) (at : List Pair) → d < DEVICE_IDS → w < 2 ^ 32 → IsLocation at → command (line_words (edit_text (Place how d (osd_name d) w at))) ≡ Ok (says.Edit (Place how d (osd_name d) w at))
