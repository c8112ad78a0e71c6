-- Everything that the closure of a worker owns may be sent to another thread.
use denote.RattleType.{RattleType}
use denote.Param.{param}
use denote.Param.Send.{IsSend, IsSync, sendable}
use denote.Param.SendFields.{FieldsHave, declared_send}
use denote.Ref.{NamedLft}
use denote.Struct.Field.{shr_ref_field}
use denote.Struct.Tuple.{TupleAt, type_at, parts}
use mathlib.Core.List.{List, [], ◌∷◌}
use mir.Syntax.{Sym}
use Rattle.std.proofs.Crossing.{crosses}
use Rattle.std.specs.contracts.alloc.Global as Global
use Rattle.std.specs.contracts.impls.GlobalAllocator.TheImpl as GlobalImpl
use Rattle.std.specs.declared.sync.ledger.Ledger as Ledger
use Rattle.crush_history.specs.contracts.call.Call as Call
use Rattle.std.specs.contracts.vec.Vec as Vec
use Rattle.crush_history.proofs.call.Call.TheSendSync.{the_send as call_send}
use Rattle.crush_editor.specs.declared.locked.Desk as Desk
use Rattle.crush_editor.specs.contracts.locked.Seat as Seat
use Rattle.crush_editor.specs.contracts.editor.Editor as Editor
use Rattle.crush_editor.proofs.locked.Seat.TheSendSync.{the_send as seat_send}
use Rattle.crush_editor.specs.contracts.opening.WithoutSnapshot as WithoutSnapshot
use Rattle.crush_editor.specs.declared.opening.KeptOpening as KeptOpening
use Rattle.crush_editor.proofs.Sharing.{unkept_editor_sync}

-- the allocator may be sent to another thread
alloc_sent : IsSend Global.the_row
alloc_sent = search (sendable, crosses) depth 20

module _ (R G N : RattleType) (g : Desk.Ghosts N.Denot) (l : Ledger.Ghosts N.Denot) (o : KeptOpening.Ghosts WithoutSnapshot.the_row.Denot) (a b c : NamedLft) where
  -- the types of everything that the closure of a worker owns: references to the runtime, the editor and the gate, and the allocator, the seat and the calls
  abbrev pub owned : List RattleType
  owned = (shr_ref_field a (param 2 R) tt).row ∷ Global.the_row ∷ (shr_ref_field b (Editor.the_row (param 0 N) WithoutSnapshot.the_row g l o) tt).row
      ∷ (shr_ref_field c (param 1 G) tt).row ∷ Seat.the_row (param 0 N) g l ∷ Vec.the_row Call.the_row Global.the_row GlobalImpl.ghosts ∷ []

  editor_shared : IsSync (Editor.the_row (param 0 N) WithoutSnapshot.the_row g l o)
  editor_shared = unkept_editor_sync (param 0 N) g l o

  calls_sent : IsSend (Vec.the_row Call.the_row Global.the_row GlobalImpl.ghosts)
  calls_sent = search (call_send, sendable, crosses) depth 20

  module _ (rt : IsSync (param 2 R)) (gate : IsSync (param 1 G)) where
    -- a value of each of these types may be sent to another thread
    owned_send : FieldsHave IsSend (parts owned)
    owned_send = (search (rt, sendable), (search (alloc_sent, sendable), (search (editor_shared, sendable), (search (gate, sendable), (search (seat_send, sendable), (search (calls_sent, sendable), tt))))))

    -- so the closure may be sent to another thread
    pub worker_send : (name : Sym) → IsSend (TupleAt name owned)
    worker_send name = declared_send (type_at name owned) owned_send
