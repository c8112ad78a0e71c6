use Rattle.std.proofs.Common.{◌≡◌, ◌<◌, List, ℕ, length, drop, refl, sym, ◌∙◌, rules}
use Rattle.crush_script.proofs.Cuts.{word_place, no_word_left, next_word}
use Rattle.crush_script.proofs.line.LineWords.next.Goals as goal

pub returns-then-is_empty : goal.returns-then-is_empty
returns-then-is_empty c =
    let text : List ℕ = c.self.inside.text.now in
    let rest : List ℕ = c.split_at.result.1.now in
    let is : rest ≡ drop (word_place text) text = rw (← c.word_at.ensures.place) c.split_at.ensures.back in
    let none : length rest ≡ 0 = search rules in
    sym c.self.view_is ∙ no_word_left text rest is none

pub returns : goal.returns
returns c =
    let text : List ℕ = c.self.inside.text.now in
    let rest : List ℕ = c.split_at.result.1.now in
    let is : rest ≡ drop (word_place text) text = rw (← c.word_at.ensures.place) c.split_at.ensures.back in
    let some : 0 < length rest = search rules in
    sym c.self.view_is ∙ next_word text rest is some ∙ rw (← c.blank_at.ensures.place, ← c.split_at-2.ensures.front, ← c.split_at-2.ensures.back) refl
