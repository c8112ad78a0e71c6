use Rattle.std.proofs.Common.{◌≡◌, ℕ, ◌<◌, ◌≤◌, ap, sym, subst, ◌∙◌}
use Rattle.std.specs.Int.{bit_at}
use Rattle.std.proofs.lemmas.Nat.Bits.{bit_at_ones}
use Rattle.crush_index.proofs.WordBits.{filled_high, clear_within, clear_least, clear_itself, clear_first}
use Rattle.crush_index.proofs.word.first_clear.Goals as goal

pub returns-then-filled-clause-none : goal.returns-then-filled-clause-none
returns-then-filled-clause-none c i from to =
    sym (filled_high c.args.word c.args.least c.requires i from) ∙ ap (λ z. bit_at z i) c.if-filled.true ∙ bit_at_ones 64 i to

pub returns-clause-within : goal.returns-clause-within
returns-clause-within c = subst (λ k. k < 64) (sym c.trailing_ones.ensures) (clear_within c.args.word c.args.least c.requires c.ranges.word.fits c.if-filled.false)

pub returns-clause-least : goal.returns-clause-least
returns-clause-least c = subst (λ k. c.args.least ≤ k) (sym c.trailing_ones.ensures) (clear_least c.args.word c.args.least c.requires c.ranges.word.fits c.if-filled.false)

pub returns-clause-clear : goal.returns-clause-clear
returns-clause-clear c = subst (λ k. bit_at c.args.word k ≡ 0) (sym c.trailing_ones.ensures) (clear_itself c.args.word c.args.least c.requires c.ranges.word.fits c.if-filled.false)

pub returns-clause-first : goal.returns-clause-first
returns-clause-first c = subst (λ k. (i : ℕ) → c.args.least ≤ i → i < k → bit_at c.args.word i ≡ 1) (sym c.trailing_ones.ensures) (clear_first c.args.word c.args.least c.requires c.ranges.word.fits c.if-filled.false)
