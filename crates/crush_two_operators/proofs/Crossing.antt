-- Proves that everything that is passed to a thread may be sent to it.
use denote.RattleType.{RattleType}
use denote.Param.{param}
use denote.Param.Send.{IsSend, IsSync, sendable}
use denote.Param.SendFields.{FieldsHave, declared_send}
use denote.Ref.{NamedLft}
use denote.Struct.Field.{shr_ref_field, shr_slice_field}
use denote.Struct.Tuple.{TupleAt, type_at, parts}
use mathlib.Core.List.{List, [], ◌∷◌}
use mir.Syntax.{Sym}
use Rattle.std.proofs.Crossing.{crosses}
use Rattle.std.specs.contracts.alloc.Global as Global
use Rattle.std.specs.contracts.impls.GlobalAllocator.TheImpl as GlobalImpl
use Rattle.std.specs.declared.sync.ledger.Ledger as Ledger
use Rattle.crush_map.specs.contracts.map.CrushMap as CrushMap
use Rattle.crush_editor.specs.declared.locked.Desk as Desk
use Rattle.crush_editor.specs.declared.opening.KeptOpening as KeptOpening
use Rattle.crush_editor.specs.contracts.locked.Seat as Seat
use Rattle.crush_editor.specs.contracts.editor.Editor as Editor
use Rattle.crush_editor.proofs.locked.Seat.TheSendSync.{the_send as seat_send}
use Rattle.crush_editor.proofs.Sharing.{editor_sync}

-- the allocator may be sent to another thread
alloc_sent : IsSend Global.the_row
alloc_sent = search (sendable, crosses) depth 20

module _ (N R W : RattleType) (g : Desk.Ghosts N.Denot) (l : Ledger.Ghosts N.Denot) (o : KeptOpening.Ghosts (CrushMap.the_row Global.the_row GlobalImpl.ghosts).Denot) (a b c : NamedLft) where
  -- what a thread's closure owns: a reference to the runtime, the allocator, a reference to the editor, the seat, and a reference to the list
  abbrev pub owned : List RattleType
  owned = (shr_ref_field a (param 1 R) tt).row ∷ Global.the_row ∷ (shr_ref_field b (Editor.the_row (param 0 N) (CrushMap.the_row Global.the_row GlobalImpl.ghosts) g l o) tt).row
      ∷ Seat.the_row (param 0 N) g l ∷ (shr_slice_field c (param 2 W) tt).row ∷ []

  editor_shared : IsSync (Editor.the_row (param 0 N) (CrushMap.the_row Global.the_row GlobalImpl.ghosts) g l o)
  editor_shared = editor_sync (param 0 N) g l o

  module _ (rt : IsSync (param 1 R)) (given : IsSync (param 2 W)) where
    -- each of them may be sent to another thread, and so may the closure
    all_send : FieldsHave IsSend (parts owned)
    all_send = (search (rt, sendable), (search (alloc_sent, sendable), (search (editor_shared, sendable), (search (seat_send, sendable), (search (given, sendable), tt)))))

    pub worker_send : (name : Sym) → IsSend (TupleAt name owned)
    worker_send name = declared_send (type_at name owned) all_send
