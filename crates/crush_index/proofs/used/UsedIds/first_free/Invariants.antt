use Rattle.std.proofs.Common.{◌≡◌, ℕ, ◌<◌, ◌≤◌, true}
use Rattle.crush_index.specs.UsedAnswers.{used_answer}
use Rattle.crush_index.proofs.used.UsedIds.first_free.Given as goal

abbrev pub invariant-loop-id : goal.invariant-loop-id
invariant-loop-id l = (k : ℕ) → l.least ≤ k → k < l.id → used_answer l.self k ≡ true
