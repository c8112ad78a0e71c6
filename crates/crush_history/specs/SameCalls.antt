-- What `==` returns for two calls, two entries, two slips (a slip is a call with its reply) and two scripts.
use Rattle.std.specs.Prelude.{Bool}
use Rattle.crush_history.specs.declared.call.Call.{Call}
use Rattle.crush_history.specs.declared.entry.Entry.{Entry}
use Rattle.crush_history.specs.declared.entry.Slip.{Slip}
use Rattle.crush_history.specs.declared.script.Script.{Script}
use Rattle.crush_history.specs.contracts.call.CallPartialEq.TheImpl as call
use Rattle.crush_history.specs.contracts.entry.EntryPartialEq.TheImpl as entry
use Rattle.crush_history.specs.contracts.entry.SlipPartialEq.TheImpl as slip
use Rattle.crush_history.specs.contracts.script.ScriptPartialEq.TheImpl as script

-- whether the two calls are equal
abbrev pub same_call : Call → Call → Bool
same_call = (call.ghosts).eq

-- whether the two entries are equal
abbrev pub same_entry : Entry → Entry → Bool
same_entry = (entry.ghosts).eq

-- whether the two slips are equal
abbrev pub same_slip : Slip → Slip → Bool
same_slip = (slip.ghosts).eq

-- whether the two scripts are equal
abbrev pub same_script : Script → Script → Bool
same_script = (script.ghosts).eq
