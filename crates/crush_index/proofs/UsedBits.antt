-- Whether an id is used, for an id that has a bit, and for an id in the hash set.
use Rattle.std.proofs.Common.{◌≡◌, ◌⊎◌, inl, inr, ⊎_elim, ℕ, ◌+◌, ◌*◌, ◌/◌, ◌%◌, ◌<◌, ◌≤◌, max, true, get_or, ap, ◌∙◌, arith}
use Rattle.std.specs.Prelude.{◌==◌, ◌||◌, if◌then◌else◌, is_some, nat_eq, nat_lt}
use Rattle.std.specs.Int.{bit_at}
use Rattle.std.proofs.lemmas.Bool.{cases_order}
use Rattle.std.proofs.lemmas.Bool.Decides.{nat_tests}
use Rattle.indexmap.specs.IndexSet.{contains}
use Rattle.crush_index.specs.Chains.{chain_answer}
use Rattle.crush_index.specs.declared.used.UsedIds.{UsedIds}
use Rattle.crush_index.specs.UsedAnswers.{used_answer}
use Rattle.crush_index.specs.UsedKept.{near_ids}

below : (a n : ℕ) → a < n → nat_lt a n ≡ true
below a n h = grind (arith, nat_tests)

-- SEARCHED: all ids from `least` up to the first id of the word with the index `place` are used, without this first id
abbrev pub Searched : UsedIds → ℕ → ℕ → Type 0
Searched used least place = (k : ℕ) → least ≤ k → k < 64 * place → used_answer used k ≡ true

pub searched_first : (used : UsedIds) (least place : ℕ) → place ≡ least / 64 → Searched used least place
searched_first used least place e k from to = absurd (omega (arith, e, from, to))

below_or_not : (k n : ℕ) → (k < n) ⊎ (n ≤ k)
below_or_not k n = ⊎_elim (λ e. inr (omega arith)) (λ other. ⊎_elim (λ below. inl below) (λ above. inr (omega arith)) other) (cases_order k n)

-- after the last word was searched, all ids before its end, or before least, are used
pub searched_words : (used : UsedIds) (least place : ℕ) → Searched used least place → (next : ℕ) → next ≤ max (64 * place) least → (k : ℕ) → least ≤ k → k < next → used_answer used k ≡ true
searched_words used least place before next h k from to = before k from (omega (arith, h, from, to))

module _ (used : UsedIds) (least place : ℕ) (within : place < 1089) (before : Searched used least place) where
  -- an id of the word whose bit is set is used
  used_here : (k : ℕ) → k / 64 ≡ place → bit_at (get_or used.words.items place 0) (k % 64) ≡ 1 → used_answer used k ≡ true
  used_here k e one =
      ap (λ b. (if b then bit_at (get_or used.words.items (k / 64) 0) (k % 64) == 1 else contains nat_eq used.sparse k) || is_some (chain_answer (nat_eq k) used.overflow)) (below k near_ids (omega (arith, e, within)))
      ∙ ap (λ z. (bit_at (get_or used.words.items z 0) (k % 64) == 1) || is_some (chain_answer (nat_eq k) used.overflow)) e
      ∙ ap (λ z. (z == 1) || is_some (chain_answer (nat_eq k) used.overflow)) one

  pub searched_word : (from : ℕ) → ((i : ℕ) → i < 64 → least ≤ 64 * place + i → from ≤ i) → ((i : ℕ) → from ≤ i → i < 64 → bit_at (get_or used.words.items place 0) i ≡ 1) → Searched used least (place + 1)
  searched_word from each full k low high = ⊎_elim
      (λ earlier. before k low earlier)
      (λ here.
      let same : k / 64 ≡ place = omega (arith, here, high) in
      let bit : from ≤ k % 64 = each (k % 64) (omega arith) (omega (arith, same, low)) in
      used_here k same (full (k % 64) bit (omega arith)))
      (below_or_not k (64 * place))

  pub found_clear : (from bit : ℕ) → bit < 64 → ((i : ℕ) → i < 64 → least ≤ 64 * place + i → from ≤ i) → ((i : ℕ) → from ≤ i → i < bit → bit_at (get_or used.words.items place 0) i ≡ 1)
      → (k : ℕ) → least ≤ k → k < place * 64 + bit → used_answer used k ≡ true
  found_clear from bit small each first k from_least to = ⊎_elim
      (λ earlier. before k from_least earlier)
      (λ here.
      let same : k / 64 ≡ place = omega (arith, here, to, small) in
      let in_word : from ≤ k % 64 = each (k % 64) (omega arith) (omega (arith, same, from_least)) in
      used_here k same (first (k % 64) in_word (omega (arith, to, same, here))))
      (below_or_not k (64 * place))
