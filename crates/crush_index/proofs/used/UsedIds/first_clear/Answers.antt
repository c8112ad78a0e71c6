use Rattle.std.proofs.Common.{◌≡◌, ◌<◌, ◌≤◌, ℕ, length, get_or, subst, ◌∙◌, arith}
use Rattle.std.specs.Int.{bit_at}
use Rattle.std.proofs.lemmas.List.{get_or_default}
use Rattle.crush_index.proofs.UsedBits.{searched_word, searched_words, found_clear}
use Rattle.crush_index.proofs.used.UsedIds.first_clear.Goals as goal

pub returns-in-Some-clause-used : goal.returns-in-Some-clause-used
returns-in-Some-clause-used c =
    let used = c.args.self.now in
    let place = c.loop-place.place in
    let within : place < length used.words.items = omega (arith, c.loop-place-test.true, c.len-place-end.ensures) in
    let hint : place < 1089 = omega (arith, within, used.few) in
    let word : c.index.result.now ≡ get_or used.words.items place 0 = c.index.ensures ∙ get_or_default used.words.items place c.index.result.now 0 within in
    found_clear used c.args.least place hint c.loop-place.invariant c.first_bit-from.result c.in-Some.bit
    c.in-Some.ensures.within c.first_bit-from.ensures.each
    (subst (λ w. (i : ℕ) → c.first_bit-from.result ≤ i → i < c.in-Some.bit → bit_at w i ≡ 1) word c.in-Some.ensures.first)

pub loop-place-preserved : goal.loop-place-preserved
loop-place-preserved c =
    let used = c.args.self.now in
    let place = c.loop-place.place in
    let within : place < length used.words.items = omega (arith, c.loop-place-test.true, c.len-place-end.ensures) in
    let hint : place < 1089 = omega (arith, within, used.few) in
    let word : c.index.result.now ≡ get_or used.words.items place 0 = c.index.ensures ∙ get_or_default used.words.items place c.index.result.now 0 within in
    searched_word used c.args.least place hint c.loop-place.invariant c.first_bit-from.result c.first_bit-from.ensures.each
    (subst (λ w. (i : ℕ) → c.first_bit-from.result ≤ i → i < 64 → bit_at w i ≡ 1) word c.in_default.ensures.none)

pub returns-clause-used : goal.returns-clause-used
returns-clause-used c = searched_words c.args.self.now c.args.least c.loop-place.place c.loop-place.invariant c.max.result (omega (arith, c.max.ensures, c.len.ensures, c.len-place-end.ensures, c.loop-place-test.false))
