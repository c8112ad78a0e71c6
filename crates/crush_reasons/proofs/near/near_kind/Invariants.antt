use Rattle.std.proofs.Common.{◌≡◌, map}
use Rattle.crush_edits.specs.SettingSeen.{kind_data}
use Rattle.crush_reasons.specs.Near.{first_near_kind}
use Rattle.crush_reasons.proofs.near.near_kind.Given as goal

abbrev pub invariant-loop-kind : goal.invariant-loop-kind
invariant-loop-kind l = first_near_kind l.name l.setting.kinds ≡ first_near_kind l.name (map kind_data l.kind-iterator)
