use Rattle.std.proofs.Common.{◌≡◌, ◌++◌}
use Rattle.std.specs.Prelude.{map}
use Rattle.crush_edits.specs.SettingSeen.{kind_data}
use Rattle.crush_edits.proofs.setting.kinds.Kinds.try_copy.Given as goal

-- the types so far are copied: the copy and the types that are left are all types
abbrev pub invariant-loop-number : goal.invariant-loop-number
invariant-loop-number l = l.copy ++ map kind_data l.number-iterator ≡ l.self
