use Rattle.std.proofs.Common.{◌≡◌, drop}
use Rattle.std.specs.Prelude.{map}
use Rattle.crush_edits.specs.declared.location.Pair.{Pair}
use Rattle.crush_edits.specs.Located.{has_twice}
use Rattle.crush_apply.proofs.route.refusals.has_type_twice.Given as goal

-- the pairs that are left have a type twice if and only if all pairs do
abbrev pub invariant-loop-k : goal.invariant-loop-k
invariant-loop-k l = has_twice (map (λ (p : Pair). p.kind) l.pairs) ≡ has_twice (map (λ (p : Pair). p.kind) (drop l.k l.pairs))
