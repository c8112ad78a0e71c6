use Rattle.std.proofs.Common.{sym, subst}
use Rattle.crush_apply.specs.UndoSteps.{GetsAnyMemory}
use Rattle.crush_apply.proofs.addition.undo_addition.Goals as goal

pub detach_if_any-requires : goal.detach_if_any-requires
detach_if_any-requires g c = let back = c.requires.1 in (back.without, back.leaves)

pub restore_buffer-requires : goal.restore_buffer-requires
restore_buffer-requires g c =
    let back = c.requires.1 in (
      c.requires.0,
      subst (λ z. GetsAnyMemory c.args.addition.place c.args.addition.memory z c.requires.0) (sym (c.detach_if_any.ensures back.without back.leaves)) back.memory,
    )

pub returns : goal.returns
returns g c = λ f back. c.restore_buffer.ensures f (subst (λ z. GetsAnyMemory c.args.addition.place c.args.addition.memory z f) (sym (c.detach_if_any.ensures back.without back.leaves)) back.memory)
