use Rattle.std.proofs.Common.{◌≡◌, drop}
use Rattle.crush_edits.specs.Located.{names_it}
use Rattle.crush_edits.specs.declared.location.Pair.{Pair}
use Rattle.crush_apply.specs.Culprit.{first_name}
use Rattle.crush_apply.proofs.route.culprit.repeated_bucket.Given as goal

-- the pairs that are left have the same first repeated bucket name as all pairs
abbrev pub invariant-loop-k : goal.invariant-loop-k
invariant-loop-k l = first_name (λ (p : Pair) x. names_it x p.name) (λ (p : Pair). p.name) l.pairs ≡ first_name (λ (p : Pair) x. names_it x p.name) (λ (p : Pair). p.name) (drop l.k l.pairs)
