use Rattle.std.proofs.Common.{◌≡◌, ◌∙◌, ◌+◌, ℕ, List, IfSome, length, ap, sym, refl, subst, arith, rules}
use Rattle.crush_history.specs.History.{EntryData, of_operator}
use Rattle.crush_map.specs.MapData.{MapData}
use Rattle.crush_editor.specs.History.{IsLegalFrom}
use Rattle.crush_editor.specs.Book.{MakesAll, StandsAfter}
use Rattle.crush_editor.specs.Seat.{IsSubsequence}
use Rattle.crush_editor.specs.Seat.{seen_of}
use mathlib.Core.List.{IsPrefix}
use Rattle.crush_editor.proofs.Closing.{told, took-none, took-more, took-all}
use Rattle.crush_editor.proofs.Seats.{stands_later}
use Rattle.crush_editor.proofs.editor.Editor.close.Goals as goal

pub loop-seat-init : goal.loop-seat-init
loop-seat-init g c = (refl, took-none _ _ _ _ _ _ (search rules) (search rules) c.book.invariant.3 c.book.invariant.4)

pub loop-seat-preserved : goal.loop-seat-preserved
loop-seat-preserved g c =
    let i = c.loop-seat.invariant in
    let s = c.seat.inside in
    let h = c.loop-seat.book.history in
    let x = c.in-Some.seat in
    let begins : IsPrefix x.seen h = rw (← c.seat.view_is) (subst (λ (x : List EntryData). IsPrefix x h) (ap (λ x. seen_of x.view) c.into_note.ensures) c.merge_note.ensures.begins) in
    let stands : IsSubsequence x.slips (of_operator x.operator h) = rw (← c.seat.view_is) (stands_later s.operator s.slips.items _ h c.seat.invariant.4.stands (subst (λ (x : List EntryData). IsPrefix x h) (ap (λ x. seen_of x.view) c.into_note.ensures) c.merge_note.ensures.begins)) in
    let more : c.merge.new.self.amount ≡ c.loop-seat.all.amount + told x = c.merge.ensures.amount ∙ ap (λ (k : ℕ). c.loop-seat.all.amount + k) (c.seat.invariant.3 ∙ ap told c.seat.view_is) in
    let next : c.merge.new.self.parts ≡ c.loop-seat.all.parts + 1 = c.merge.ensures.parts ∙ ap (λ (k : ℕ). c.loop-seat.all.parts + k) c.seat.invariant.2 in (
      c.merge_note.ensures.book ∙ i.0,
      rw c.merge_note.ensures.book (took-more c.args.seats.items h _ _ _ _ _ _ _ _ x c.requires.order i.1 c.in-Some.ensures.steps.0 c.in-Some.ensures.steps.1 next more stands begins),
    )

pub returns-clause-opening : goal.returns-clause-opening
returns-clause-opening g c =
    let b = c.loop-seat.book in
    let o : b.opening ≡ g.N.Desk.opening = ap (λ x. x.opening) c.loop-seat.invariant.0 ∙ c.book.invariant.1 in
    subst (λ (x : MapData). IfSome (g.O.KeptOpening.kept c.into_closed.result.opening) (λ (m : MapData). m ≡ x)) o c.into_closed.ensures.opening

pub returns-clause-history : goal.returns-clause-history
returns-clause-history g c =
    let i = c.loop-seat.invariant in
    let b = c.loop-seat.book in
    let o : b.opening ≡ g.N.Desk.opening = ap (λ x. x.opening) i.0 ∙ c.book.invariant.1 in
    let none = c.in-None.ensures.steps.0 in
    let left = i.1.left_is in
    let parts : c.loop-seat.all.parts ≡ g.N.Ledger.parts = (let v = c.requires.count in let k = c.args.seats.ok in omega arith) in
    let whole : c.loop-seat.all.amount ≡ length b.history = c.audit.ensures.whole parts ∙ c.book.invariant.2 ∙ sym (ap (λ x. length x.history) i.0) in
    rw (c.into_closed.ensures.map, c.into_closed.ensures.history)
    (took-all g.N.Desk.opening b.map c.args.seats.items b.history _ _ _ _ i.1 none whole
    (subst (λ (x : MapData). IsLegalFrom x b.history) o c.into_closed.ensures.legal)
    (subst (λ (x : MapData). StandsAfter x b.map b.history) o c.into_closed.ensures.stands))

pub returns-clause-all : goal.returns-clause-all
returns-clause-all g c =
    let b = c.loop-seat.book in
    let o : b.opening ≡ g.N.Desk.opening = ap (λ x. x.opening) c.loop-seat.invariant.0 ∙ c.book.invariant.1 in
    rw (c.into_closed.ensures.map, c.into_closed.ensures.history) (subst (λ (x : MapData). MakesAll x b.map b.history) o c.into_closed.ensures.all)
