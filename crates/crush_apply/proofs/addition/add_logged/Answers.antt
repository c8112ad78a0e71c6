use Rattle.std.proofs.Common.{sym, subst}
use Rattle.crush_apply.specs.UndoSteps.{GetsAnyMemory}
use Rattle.crush_apply.proofs.Undone.{noted_memory, noted_item, grown_adds}
use Rattle.crush_apply.proofs.addition.add_logged.Goals as goal

pub restore_buffer-requires : goal.restore_buffer-requires
restore_buffer-requires g c =
    let f = c.args.hierarchy.now in (
      f,
      subst (λ z. GetsAnyMemory c.args.place c.in_ok-memory.memory z f) (sym c.in-Err.ensures.adds.err) (noted_memory c.args.place c.in_ok-memory.memory f c.grow_buffer.new.self c.in_ok-memory.ensures),
    )

pub returns-in-Err-clause-adds : goal.returns-in-Err-clause-adds
returns-in-Err-clause-adds g c =
    let f = c.args.hierarchy.now in
    record {
      stands = tt;
      rooms = tt;
      err = c.restore_buffer.ensures f (subst (λ z. GetsAnyMemory c.args.place c.in_ok-memory.memory z f) (sym c.in-Err.ensures.adds.err) (noted_memory c.args.place c.in_ok-memory.memory f c.grow_buffer.new.self c.in_ok-memory.ensures));
    }

pub returns-clause-adds : goal.returns-clause-adds
returns-clause-adds g c = grown_adds c.args.place _ c.args.hierarchy.now c.grow_buffer.new.self c.add.new.self _ _ _ c.in_ok-memory.ensures c.in_default.ensures.adds

pub returns-clause-goes : goal.returns-clause-goes
returns-clause-goes g c = record {
  without = c.grow_buffer.new.self;
  leaves = noted_item c.grow_buffer.new.self c.add.new.self _ _ c.id-item.ensures c.in_default.ensures.there (c.in_default.ensures.goes c.in_ok-memory.ensures.room);
  memory = noted_memory c.args.place c.in_ok-memory.memory c.args.hierarchy.now c.grow_buffer.new.self c.in_ok-memory.ensures;
}
