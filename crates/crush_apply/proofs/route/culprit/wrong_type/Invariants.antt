use Rattle.std.proofs.Common.{◌≡◌, drop}
use Rattle.crush_edits.specs.declared.location.Pair.{Pair}
use Rattle.crush_apply.specs.Culprit.{first_name, is_wrong_type}
use Rattle.crush_apply.proofs.route.culprit.wrong_type.Given as goal

-- the pairs that are left have the same first wrong type as all pairs
abbrev pub invariant-loop-k : goal.invariant-loop-k
invariant-loop-k l = first_name (is_wrong_type l.setting) (λ (p : Pair). p.kind) l.pairs ≡ first_name (is_wrong_type l.setting) (λ (p : Pair). p.kind) (drop l.k l.pairs)
