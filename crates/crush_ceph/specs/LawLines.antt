-- The law about the lines of Ceph's commands: each line means the edits of its command, and all lines together mean all edits. A line means the edits that Ceph makes if a shell runs the line (`edits_of_line`).
use Rattle.std.specs.Prelude.{◌≡◌, ℕ, ◌<◌, false, List, [], ◌∷◌, ◌++◌, All, Option, Some, flat_map, length, map, option_and_then, option_map}
use Rattle.crush_model.specs.Table.{Row}
use Rattle.crush_edits.specs.declared.edit.Edit.{Edit}
use Rattle.crush_edits.specs.declared.edit.Edit.TheVariants.{Move, RemoveClass, SetClass}
use Rattle.crush_edits.specs.Setting.{SettingData}
use Rattle.crush_history.specs.Said.{IsSaid}
use Rattle.crush_ceph.specs.Commands.{command_line, cut}
use Rattle.crush_ceph.specs.LawCommands.{edits_done, edits_for_ceph}
use Rattle.crush_ceph.specs.LineEdits.{edits_of_line, is_all_devices}
use Rattle.crush_ceph.specs.Steps.{ceph_steps}
use Rattle.crush_ceph.specs.declared.steps.CephStep.{CephStep}
use Rattle.crush_ceph.specs.declared.steps.CephStep.TheVariants.{Does, ReweightAll}

-- what Ceph requires of an edit, in addition to the forms of the edit's words. The location of a `move` has at least one pair (a `move` without a pair is refused with `NoPlace`). The device of a `set-device-class` or `rm-device-class` isn't called `all` or `any`, because Ceph reads these words as all devices. Ceph reads `*` in the same way, but no name has this character
abbrev pub IsForCeph : Edit → Type 0
IsForCeph (Move name at) = 0 < length at
IsForCeph (SetClass name class) = is_all_devices name ≡ false
IsForCeph (RemoveClass name) = is_all_devices name ≡ false
IsForCeph e = Unit {0}

-- an edit that a line can express: a command of a script can express the edit, and the edit meets the requirements of Ceph (`IsForCeph`)
abbrev pub IsSaidEdit : Edit → Type 0
IsSaidEdit e = IsSaid e × IsForCeph e

-- a step that a line can express: `reweight-all`, or an edit that satisfies `IsSaidEdit`
abbrev pub IsSaidStep : CephStep → Type 0
IsSaidStep (Does e) = IsSaidEdit e
IsSaidStep ReweightAll = Unit {0}

-- the line of a command means exactly the edits of the command's steps, in their order
abbrev pub LineMeansEdits : List CephStep → Type 0
LineMeansEdits c = edits_of_line (command_line c) ≡ Some (flat_map edits_done c)

-- EACH LINE MEANS THE EDITS of its command, if a line can express each of the steps (`IsSaidStep`)
abbrev pub EachLineMeansItsEdits : Type 0
EachLineMeansItsEdits = (steps : List CephStep) → All IsSaidStep steps → All LineMeansEdits (cut steps)

-- the edits of several lines, one line after the other; none if one of the lines isn't one of Ceph's commands in `edits_of_line`
abbrev pub edits_of_lines : List (List ℕ) → Option (List Edit)
edits_of_lines [] = Some []
edits_of_lines (line ∷ lines) = option_and_then (λ (es : List Edit). option_map (λ (more : List Edit). es ++ more) (edits_of_lines lines)) (edits_of_line line)

-- ALL LINES MEAN ALL EDITS: if a line can express each edit (`IsSaidEdit`), then the lines for a list of edits mean exactly these edits, in the same order. Each edit has the form in which Ceph accepts it
abbrev pub LinesMeanTheEdits : Type 0
LinesMeanTheEdits = (s : SettingData) (t : List Row) (es : List Edit) → All IsSaidEdit es → edits_of_lines (map command_line (cut (ceph_steps s t es))) ≡ Some (edits_for_ceph s t es)
