-- The bits of a word in which all bits below one are set.
use Rattle.std.proofs.Common.{◌≡◌, ◌≢◌, ◌⊎◌, inl, inr, ⊎_elim, w64, ℕ, ◌-◌, ◌*◌, ◌%◌, ◌^◌, ◌<◌, ◌≤◌, max, bit_or, ap, sym, ◌∙◌, arith}
use Rattle.std.proofs.lemmas.Bool.{cases_order}
use Rattle.std.specs.Int.{bit_at, trailing_ones}
use Rattle.std.proofs.lemmas.Nat.{one_shl, or_lt}
use Rattle.std.proofs.lemmas.Nat.Bits.{bit_at_or, bit_at_ones, bit_at_ones_above, bit_at-lt, bit_at-trailing_ones}

below_or_not : (k n : ℕ) → (k < n) ⊎ (n ≤ k)
below_or_not k n = ⊎_elim (λ e. inr (omega arith)) (λ other. ⊎_elim (λ below. inl below) (λ above. inr (omega arith)) other) (cases_order k n)

module _ (word least : ℕ) (within : least < 64) where
  abbrev filled : ℕ
  filled = bit_or word (1 * 2 ^ least % 2 ^ 64 - 1)

  ones : 1 * 2 ^ least % 2 ^ 64 - 1 ≡ 2 ^ least - 1
  ones = ap (λ z. z - 1) (one_shl least 64 within)

  pub filled_low : (i : ℕ) → i < least → bit_at filled i ≡ 1
  filled_low i h =
      let set : bit_at (1 * 2 ^ least % 2 ^ 64 - 1) i ≡ 1 = ap (λ z. bit_at z i) ones ∙ bit_at_ones least i h in
      bit_at_or word (1 * 2 ^ least % 2 ^ 64 - 1) i ∙ ap (max (bit_at word i)) set ∙ omega (arith, bit_at-lt word i)

  pub filled_high : (i : ℕ) → least ≤ i → bit_at filled i ≡ bit_at word i
  filled_high i h =
      let clear : bit_at (1 * 2 ^ least % 2 ^ 64 - 1) i ≡ 0 = ap (λ z. bit_at z i) ones ∙ bit_at_ones_above least i h in
      bit_at_or word (1 * 2 ^ least % 2 ^ 64 - 1) i ∙ ap (max (bit_at word i)) clear ∙ omega arith

  -- the lowest bit that isn't set
  module _ (fits : word < 2 ^ 64) (some : filled ≢ 18446744073709551615) where
    small : filled < 2 ^ 64
    small = or_lt 64 word (1 * 2 ^ least % 2 ^ 64 - 1) fits (omega arith)

    lowest : (trailing_ones w64 filled < 64) × (bit_at filled (trailing_ones w64 filled) ≡ 0) × ((i : ℕ) → i < trailing_ones w64 filled → bit_at filled i ≡ 1)
    lowest = bit_at-trailing_ones w64 filled (omega (arith, small, some))

    pub clear_within : trailing_ones w64 filled < 64
    clear_within = lowest.0

    pub clear_least : least ≤ trailing_ones w64 filled
    clear_least = not_below (trailing_ones w64 filled) lowest.1 where
      not_below : (k : ℕ) → bit_at filled k ≡ 0 → least ≤ k
      not_below k clear = ⊎_elim
          (λ below. absurd (omega (arith, filled_low k below, clear)))
          (λ h. h)
          (below_or_not k least)

    pub clear_itself : bit_at word (trailing_ones w64 filled) ≡ 0
    clear_itself = sym (filled_high (trailing_ones w64 filled) clear_least) ∙ lowest.1

    pub clear_first : (i : ℕ) → least ≤ i → i < trailing_ones w64 filled → bit_at word i ≡ 1
    clear_first i from to = sym (filled_high i from) ∙ lowest.2 i to
