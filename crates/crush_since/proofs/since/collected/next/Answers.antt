use Rattle.std.proofs.Common.{◌∷◌, reverse, map, ap, sym, ◌∙◌, arith}
use Rattle.crush_since.specs.CollectedSeen.{item_data, use_data}
use Rattle.crush_since.proofs.SortedItems.{first_same, first_other, last_first}
use Rattle.crush_since.proofs.since.collected.next.Goals as goal

pub returns-then-same_name-clause-next : goal.returns-then-same_name-clause-next
returns-then-same_name-clause-next c =
    let done = reverse (map use_data c.args.done.now.items) in
    ap (λ x. x ∷ done) c.with.ensures.data
    ∙ sym (first_same (item_data c.args.item.now) (use_data c.args.current) done (sym c.same_name.ensures ∙ c.if-same_name.true))

pub returns-then-same_name-clause-low : goal.returns-then-same_name-clause-low
returns-then-same_name-clause-low c = c.with.ensures.low

pub returns-clause-next : goal.returns-clause-next
returns-clause-next c =
    let done = reverse (map use_data c.args.done.now.items) in
    ap (λ x. x ∷ reverse (map use_data c.push.new.self.items)) c.of.ensures.data
    ∙ ap (λ l. item_data c.args.item.now ∷ l) (ap (λ l. reverse (map use_data l)) c.in_ok-push.ensures.items ∙ last_first use_data c.args.done.now.items c.args.current)
    ∙ sym (first_other (item_data c.args.item.now) (use_data c.args.current) done (sym c.same_name.ensures ∙ c.if-same_name.false))

pub returns-clause-low : goal.returns-clause-low
returns-clause-low c = λ k. omega (arith, c.of.ensures.low k)
