use Rattle.std.proofs.Common.{sym, ◌∙◌}
use Rattle.crush_edits.specs.KindsTold.{number_told}
use Rattle.crush_edits.proofs.FirstNumbers.{told_with, first_new, first_there}
use Rattle.crush_edits.proofs.setting.kinds.tell_first.Goals as goal

pub returns-in_ok-insert-clause-ok : goal.returns-in_ok-insert-clause-ok
returns-in_ok-insert-clause-ok c = λ n.
    told_with c.args.numbers.now c.insert.new.self c.args.name c.args.number c.in_ok-insert.ensures.updates n
    ∙ first_new (number_told c.args.numbers.now) c.args.name.items c.args.number (sym c.contains_key.ensures ∙ c.if-not-contains_key.true) n

pub returns-else-not-contains_key-clause-ok : goal.returns-else-not-contains_key-clause-ok
returns-else-not-contains_key-clause-ok c =
    first_there (number_told c.args.numbers.now) c.args.name.items c.args.number (sym c.contains_key.ensures ∙ c.if-not-contains_key.false)
