-- Lemmas about how the counts of ids grow by one id.
use Rattle.std.proofs.Common.{◌≡◌, ℕ, ◌+◌, ◌<◌, ◌≤◌, ◌^◌, Bool, true, false, List, length, get_or, take, ap, sym, ◌∙◌, refl, arith}
use Rattle.std.specs.Prelude.{Option}
use Rattle.std.specs.List.{count_by}
use Rattle.std.proofs.lemmas.List.Sums.{count_by_more_yes, count_by_more_no}
use Rattle.crush_units.specs.declared.id.ItemId.{ItemId}
use Rattle.crush_model.specs.Count.{one_if}
use Rattle.crush_model.specs.Table.{Row}
use Rattle.crush_items.specs.ItemData.{ItemData, item_of}
use Rattle.crush_since.specs.Tallies.{is_made, is_removed, is_renamed, is_moved, is_reweighed, is_reclassed, tally_of, tally_with, HasRoom}
use Rattle.crush_since.specs.declared.since.tally.Tally.{Tally}

-- a count after one more element
pub count_more : {X : Type 0} (p : X → Bool) (xs : List X) (i : ℕ) (x : X) → i < length xs → x ≡ get_or xs i x → count_by p (take (i + 1) xs) ≡ count_by p (take i xs) + one_if (p x)
count_more p xs i x lt is = at (p x) refl where
  at : (b : Bool) → p x ≡ b → count_by p (take (i + 1) xs) ≡ count_by p (take i xs) + one_if (p x)
  at true e = let one : one_if (p x) ≡ 1 = ap one_if e in omega (arith, one, count_by_more_yes p xs i x lt (ap p (sym is) ∙ e))
  at false e = let none : one_if (p x) ≡ 0 = ap one_if e in omega (arith, none, count_by_more_no p xs i x lt (ap p (sym is) ∙ e))

-- no count of the tally n is greater than k
pub record AtMost (k : ℕ) (n : Tally) : Type 0 where
  pub made : n.made ≤ k
  pub removed : n.removed ≤ k
  pub renamed : n.renamed ≤ k
  pub moved : n.moved ≤ k
  pub reweighed : n.reweighed ≤ k
  pub reclassed : n.reclassed ≤ k

pub one_at_most : (b : Bool) → one_if b ≤ 1
one_at_most true = omega arith
one_at_most false = omega arith

pub room_for_one : (k : ℕ) (n : Tally) → AtMost k n → k + 1 < 2 ^ 64 → HasRoom n
room_for_one k n most small = record {
  made = let le = most.made in omega (arith, small, le);
  removed = let le = most.removed in omega (arith, small, le);
  renamed = let le = most.renamed in omega (arith, small, le);
  moved = let le = most.moved in omega (arith, small, le);
  reweighed = let le = most.reweighed in omega (arith, small, le);
  reclassed = let le = most.reclassed in omega (arith, small, le);
}

pub at_most_more : (k : ℕ) (n m : Tally) (before after : Option ItemData) → AtMost k n → m ≡ tally_with n before after → AtMost (k + 1) m
at_most_more k n m before after most is = record {
  made = let le = most.made in omega (arith, le, one_at_most (is_made before after), ap (λ (x : Tally). x.made) is);
  removed = let le = most.removed in omega (arith, le, one_at_most (is_removed before after), ap (λ (x : Tally). x.removed) is);
  renamed = let le = most.renamed in omega (arith, le, one_at_most (is_renamed before after), ap (λ (x : Tally). x.renamed) is);
  moved = let le = most.moved in omega (arith, le, one_at_most (is_moved before after), ap (λ (x : Tally). x.moved) is);
  reweighed = let le = most.reweighed in omega (arith, le, one_at_most (is_reweighed before after), ap (λ (x : Tally). x.reweighed) is);
  reclassed = let le = most.reclassed in omega (arith, le, one_at_most (is_reclassed before after), ap (λ (x : Tally). x.reclassed) is);
}
