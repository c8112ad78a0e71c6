-- The text with the commands of Ceph that make the same changes as a list of edits.
use Rattle.std.specs.Prelude.{ℕ, List, ◌++◌, flat_map, length}
use Rattle.crush_model.specs.Table.{Row}
use Rattle.crush_edits.specs.declared.edit.Edit.{Edit}
use Rattle.crush_edits.specs.Setting.{SettingData}
use Rattle.crush_history.specs.Ceph.{ceph_heading}
use Rattle.crush_ceph.specs.Commands.{command_line, cut}
use Rattle.crush_ceph.specs.Steps.{ceph_steps}
use Rattle.crush_ceph.specs.declared.steps.CephStep.{CephStep}

-- a line with the number of commands, and then a line for each command. Each command is given as the list of its steps
abbrev pub commands_text : List (List CephStep) → List ℕ
commands_text cs = ceph_heading (length cs) ++ flat_map command_line cs

-- CEPH TEXT: the edits es as Ceph's own commands. Before the first edit, the map has the setting s (its types, tunables and rules) and the table t
unfoldable pub ceph_text : SettingData → List Row → List Edit → List ℕ
ceph_text s t es = commands_text (cut (ceph_steps s t es))
