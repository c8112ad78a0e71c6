use Rattle.std.proofs.Common.{◌≡◌, ◌++◌}
use Rattle.crush_edits.proofs.setting.copy_tunables.Given as goal

-- the tunables so far are copied: the copies and the tunables that are left are all tunables
abbrev pub invariant-loop-name : goal.invariant-loop-name
invariant-loop-name l = l.copies.entries ++ l.name-iterator ≡ l.tunables.entries
