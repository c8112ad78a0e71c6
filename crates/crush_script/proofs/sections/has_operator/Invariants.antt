use Rattle.std.proofs.Common.{◌≡◌, drop}
use Rattle.crush_history.specs.Script.{scripts_data}
use Rattle.crush_script.specs.Sections.{has_operator}
use Rattle.crush_script.proofs.sections.has_operator.Given as goal

abbrev pub invariant-loop-script : goal.invariant-loop-script
invariant-loop-script l = has_operator (scripts_data (drop l.script-index l.scripts)) l.name ≡ has_operator (scripts_data l.scripts) l.name
