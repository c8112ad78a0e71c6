use Rattle.std.proofs.Common.{◌≡◌, ◌∙◌, ℕ, [], sym, refl, arith, vec_len, slice_index_or}
use Rattle.std.proofs.lemmas.List.Elements.{All-rest, All-head, All-same}
use borrow.Author.Count.{below_more}
use Rattle.crush_history.specs.History.{EntryData}
use Rattle.crush_map.specs.MapData.{MapData}
use Rattle.crush_gauge.specs.Held.{Held, held}
use Rattle.crush_editor.specs.Seat.{seat_data, seen_of, reads}
use Rattle.crush_editor.proofs.Closing.{cut_length}
use Rattle.crush_editor.proofs.editor.Editor.begin.Goals as goal

pub loop-reader-preserved : goal.loop-reader-preserved
loop-reader-preserved g c =
    let i = c.loop-reader.invariant in
    let s = c.in-Some.ensures.steps in
    let n = vec_len c.loop-reader.seats in
    let p = c.in-Ok.ensures in
    let l = p.len in
    let a0 = i.0 in let a1 = i.1 in let a2 = i.2 in let a3 = i.3 in
    let s1 = s.1 in
    let cut = cut_length _ _ _ s.0 in
    let q = c.split_off-ledger_share.ensures in let q1 = q.parts_left in let q2 = q.amount_left in
    let Is : Held MapData EntryData → Type 0 = λ r. r ≡ held g.N.Desk.gauge (reads g.N.Desk.opening []) in
    let fresh = All-head Is _ _ (All-same Is _ _ (sym s.0) i.5) in
    let made : seat_data c.len-operator.result c.new.result.items (seen_of c.in-Some.reader.view) ≡ seat_data n [] [] = λ j. seat_data (c.len-operator.ensures j) (c.new.ensures.items j) (seen_of (fresh j).view) in (
      omega arith,
      omega arith,
      omega arith,
      omega arith,
      i.4,
      All-rest Is _ _ _ s.0 i.5,
      λ k less. below_more (λ (j : ℕ). slice_index_or c.push.new.self.items j (seat_data 0 [] []) ≡ seat_data j [] []) n (λ j low. p.by_index.0 j (seat_data 0 [] []) low ∙ i.6 j low) (p.by_index.1 (seat_data 0 [] []) refl ∙ made) k (omega arith),
    )
