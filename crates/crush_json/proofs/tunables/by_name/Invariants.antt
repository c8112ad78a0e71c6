use Rattle.std.proofs.Common.{◌≡◌, map}
use Rattle.serde_json.specs.Data.{no_members}
use Rattle.crush_edits.specs.SettingSeen.{tunable_data}
use Rattle.crush_json.specs.MapDocument.{with_tunables}
use Rattle.crush_json.specs.Seen.{number_members}
use Rattle.crush_json.proofs.tunables.by_name.Given as goal

-- the entries so far, together with the tunables that are still to come, give the final members
abbrev pub invariant-loop-name : goal.invariant-loop-name
invariant-loop-name l = with_tunables (number_members l.sorted.entries) (map tunable_data l.name-iterator) ≡ with_tunables no_members (map tunable_data l.tunables.entries)
