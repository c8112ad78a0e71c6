use Rattle.std.proofs.Common.{ap, refl, arith, rules}
use Rattle.crush_editor.specs.Book.{opening_of}
use Rattle.crush_editor.proofs.Commits.{counts, follows, kept_push, made_now}
use Rattle.crush_editor.proofs.book.Book.commit_copied.Goals as goal

pub overflow_add-changes : goal.overflow_add-changes
overflow_add-changes g c =
    let i = c.self.inside in
    let n = counts (g.O.KeptOpening.kept i.opening) (opening_of i.seat.view) i.map i.history.items i.changes i.seat.view c.in-Ok.reply c.self.invariant in
    let e = c.change_of.ensures in
    omega (arith, n, e)

pub publish-requires : goal.publish-requires
publish-requires g c =
    let i = c.self.inside in (
      refl,
      (
        search rules,
        rw c.change_of.ensures
            (follows (g.O.KeptOpening.kept i.opening) (opening_of i.seat.view) i.map c.make_call.new.map i.history.items i.changes i.seat.view c.args.k c.args.call c.in-Ok.reply c.self.invariant c.in-Ok.ensures.made c.total-weight.result (λ e. absurd (omega arith)) c.total-weight.ensures),
      ),
    )

pub invariant_of-self-2 : goal.invariant_of-self-2
invariant_of-self-2 g c =
    let i = c.self.inside in
    rw (c.push_reserved.ensures.items, c.reserve.ensures.items, c.change_of.ensures, ap (λ b. b.view) c.publish.ensures)
    (kept_push (g.O.KeptOpening.kept i.opening) (opening_of i.seat.view) i.map c.make_call.new.map i.history.items i.changes i.seat.view c.args.k c.args.call c.in-Ok.reply c.self.invariant c.in-Ok.ensures.made c.requires.operator (λ e. absurd (omega arith)))

pub returns-clause-made : goal.returns-clause-made
returns-clause-made g c =
    let i = c.self.inside in
    rw (← c.self.view_is) (made_now (g.O.KeptOpening.kept i.opening) (opening_of i.seat.view) i.map c.make_call.new.map i.history.items i.changes i.seat.view c.args.k c.args.call c.in-Ok.reply c.self.invariant c.in-Ok.ensures.made)

pub returns-clause-history : goal.returns-clause-history
returns-clause-history g c = search rules

pub returns-clause-opening : goal.returns-clause-opening
returns-clause-opening g c = search rules
