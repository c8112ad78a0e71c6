-- What a batch counts.
use Rattle.std.proofs.Common.{◌≡◌, ℕ, ◌+◌, ◌<◌, ◌≤◌, Bool, true, false, List, [], ◌∷◌, length, ap, arith}
use Rattle.crush_model.specs.Table.{Row}
use Rattle.crush_edits.specs.declared.refusal.Refusal.{Refusal}
use Rattle.crush_edits.specs.declared.refusal.Dones.{Dones}
use Rattle.crush_edits.specs.declared.edit.Edit.{Edit}
use Rattle.crush_edits.specs.Setting.{SettingData}
use Rattle.crush_edits.specs.Answer.{Answer, refused, done}
use Rattle.crush_edits.specs.Edit.{edit}
use Rattle.crush_edits.specs.Batch.{batch_refused, batch_done, no_dones, one_changed, with_done, and_then, batch_from}
use Rattle.crush_edits.specs.LawBatch.{BatchCounts, BatchStops}

-- the counts of a batch are added to the counts of what was done before it
record Adds (d e : Dones) (n : ℕ) : Type 0 where
  all : e.edits ≡ d.edits + n
  some : e.changed ≤ d.changed + n

one_at_most : (b : Bool) → one_changed b ≤ 1
one_at_most true = omega arith
one_at_most false = omega arith

adds : (s : SettingData) (es : List Edit) (d : Dones) (t u : List Row) (e : Dones) → batch_from s es d t ≡ batch_done e u → Adds d e (length es)
adds s [] d t u e is = let same : d ≡ e = cc in record { all = omega (arith, ap (λ (x : Dones). x.edits) same); some = omega (arith, ap (λ (x : Dones). x.changed) same) }
adds s (x ∷ es) d t u e is = by_answer (edit s t x) is (λ c v. adds s es c v u e) where
  by_answer : (a : Answer) → and_then d a (batch_from s es) ≡ batch_done e u → ((c : Dones) (v : List Row) → batch_from s es c v ≡ batch_done e u → Adds c e (length es)) → Adds d e (length (x ∷ es))
  by_answer (refused r) f rest = absurd cc
  by_answer (done changed made v) f rest =
      let more = rest (with_done d changed made) v f in
      record { all = omega (arith, more.all); some = omega (arith, more.some, one_at_most changed) }

pub batch_counts : BatchCounts
batch_counts s t u es d is = let more = adds s es no_dones t u d is in (omega (arith, more.all), omega (arith, more.some))

stops : (s : SettingData) (es : List Edit) (d : Dones) (t : List Row) (k : ℕ) (r : Refusal) → batch_from s es d t ≡ batch_refused k r → k < d.edits + length es
stops s [] d t k r is = absurd cc
stops s (x ∷ es) d t k r is = by_answer (edit s t x) is (λ c v. stops s es c v k r) where
  by_answer : (a : Answer) → and_then d a (batch_from s es) ≡ batch_refused k r → ((c : Dones) (v : List Row) → batch_from s es c v ≡ batch_refused k r → k < c.edits + length es) → k < d.edits + length (x ∷ es)
  by_answer (refused q) f rest = let same : d.edits ≡ k = cc in omega (arith, same)
  by_answer (done changed made v) f rest = omega (arith, rest (with_done d changed made) v f)

pub batch_stops : BatchStops
batch_stops s t es index r is = omega (arith, stops s es no_dones t index r is)
