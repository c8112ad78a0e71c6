-- Threads may share an editor: they may share its gauge, and what its lock protects may be sent to another thread.
use denote.RattleType.{RattleType}
use denote.Hole.{as_row}
use denote.Param.Send.{IsSend, IsSync, sendable}
use denote.Param.SendFields.{declared_sync}
use Rattle.std.proofs.Crossing.{crosses}
use Rattle.std.specs.declared.sync.ledger.Ledger as Ledger
use Rattle.std.specs.contracts.alloc.Global as Global
use Rattle.std.specs.contracts.impls.GlobalAllocator.TheImpl as GlobalImpl
use Rattle.std.specs.contracts.sync.Mutex as Mutex
use Rattle.crush_gauge.proofs.gauge.Gauge.TheSendSync.{the_sync as any_gauge_sync}
use Rattle.crush_history.specs.contracts.entry.Entry as Entry
use Rattle.crush_map.specs.contracts.map.CrushMap as CrushMap
use Rattle.crush_gauge.specs.contracts.gauge.Gauge as Gauge
use Rattle.crush_editor.specs.contracts.law.OfMap as OfMap
use Rattle.crush_editor.specs.contracts.law.OfMapLawCrushMapGlobalEntry.TheImpl as OfMapImpl
use Rattle.crush_editor.specs.contracts.locked.Locked as Locked
use Rattle.crush_editor.specs.contracts.editor.Editor as Editor
use Rattle.crush_editor.specs.contracts.lock_free_reader.LockFreeReader as LockFreeReader
use Rattle.crush_editor.specs.contracts.state_lock.StateLock as StateLock
use Rattle.crush_editor.specs.declared.locked.Desk as Desk
use Rattle.crush_editor.specs.declared.opening.KeptOpening as KeptOpening
use Rattle.crush_editor.specs.contracts.opening.WithoutSnapshot as WithoutSnapshot
use Rattle.crush_editor.proofs.Crossing.{locked_send, map_sent}

gauge_sync : IsSync (as_row (Gauge.the_field (CrushMap.the_row Global.the_row GlobalImpl.ghosts) Entry.the_row OfMap.the_row OfMapImpl.ghosts))
gauge_sync = search (any_gauge_sync, sendable, crosses) depth 20

module _ (N O : RattleType) (g : Desk.Ghosts N.Denot) (g' : Ledger.Ghosts N.Denot) (o : KeptOpening.Ghosts O.Denot) (opening : IsSend O) where
  locked : IsSend (Locked.the_row N O g g' o)
  locked = locked_send N O g g' o opening

  desk_sync : IsSync (as_row (Mutex.the_field (Locked.the_row N O g g' o)))
  desk_sync = search (locked, sendable, crosses) depth 20

  dial_sync : IsSync (LockFreeReader.the_row N g g')
  dial_sync = declared_sync (LockFreeReader.the_type N g g') (gauge_sync, (search (sendable, crosses) depth 10, tt))

  door_sync : IsSync (StateLock.the_row N O g g' o)
  door_sync = declared_sync (StateLock.the_type N O g g' o) (desk_sync, tt)

  dial_field : IsSync (as_row (LockFreeReader.the_field N g g'))
  dial_field = search (dial_sync, sendable, crosses) depth 20

  door_field : IsSync (as_row (StateLock.the_field N O g g' o))
  door_field = search (door_sync, sendable, crosses) depth 20

  any_editor_sync : IsSync (Editor.the_row N O g g' o)
  any_editor_sync = declared_sync (Editor.the_type N O g g' o) (dial_field, (door_field, tt))

unkept_sent : IsSend WithoutSnapshot.the_row
unkept_sent = search (sendable, crosses) depth 10

-- threads may share an editor that keeps its opening map, and also one that doesn't
module _ (N : RattleType) (g : Desk.Ghosts N.Denot) (g' : Ledger.Ghosts N.Denot) where
  pub editor_sync : (o : KeptOpening.Ghosts (CrushMap.the_row Global.the_row GlobalImpl.ghosts).Denot) → IsSync (Editor.the_row N (CrushMap.the_row Global.the_row GlobalImpl.ghosts) g g' o)
  editor_sync o = any_editor_sync N (CrushMap.the_row Global.the_row GlobalImpl.ghosts) g g' o map_sent

  pub unkept_editor_sync : (o : KeptOpening.Ghosts WithoutSnapshot.the_row.Denot) → IsSync (Editor.the_row N WithoutSnapshot.the_row g g' o)
  unkept_editor_sync o = any_editor_sync N WithoutSnapshot.the_row g g' o unkept_sent
