-- What an editor's lock protects may be sent to another thread, since each of its fields may.
use denote.RattleType.{RattleType}
use denote.Hole.{as_row}
use denote.Param.Send.{IsSend, view_send, sendable}
use denote.Param.SendFields.{declared_send, as_row_send}
use denote.Struct.Field.{row_field, u32-field, u64-field}
use Rattle.std.proofs.Crossing.{crosses, Vec-send, Box-send}
use Rattle.std.specs.contracts.alloc.Global as Global
use Rattle.std.specs.contracts.impls.GlobalAllocator.TheImpl as GlobalImpl
use Rattle.std.specs.contracts.vec.Vec as Vec
use Rattle.crush_edits.proofs.setting.Setting.TheSendSync.{the_send as setting_send}
use Rattle.crush_units.proofs.name.Name.TheSendSync.{the_send as name_send}
use Rattle.crush_tree.specs.contracts.forest.Forest as Forest
use Rattle.crush_edits.specs.contracts.setting.Setting as Setting
use Rattle.crush_map.specs.contracts.map.CrushMap.TheInside as MapInside
use Rattle.crush_tree.specs.contracts.forest.Forest.TheInside as ForestInside
use Rattle.crush_index.specs.contracts.hashing.Hashing as Hashing
use Rattle.crush_index.proofs.hashing.Hashing.TheSendSync.{the_send as hashing_send}
use Rattle.crush_editor.proofs.IndexCrossing.{index_sent}
use Rattle.crush_hierarchy.specs.contracts.hierarchy.Hierarchy as Hierarchy
use Rattle.crush_hierarchy.specs.contracts.hierarchy.Hierarchy.TheInside as HierarchyInside
use Rattle.crush_units.specs.contracts.weight.Weight as Weight
use Rattle.crush_nodes.specs.contracts.node.Header as Header
use Rattle.crush_nodes.specs.contracts.view.Counts as Counts
use Rattle.crush_nodes.specs.contracts.node.Leaf as Leaf
use Rattle.crush_nodes.specs.contracts.node.Bucket as Bucket
use Rattle.crush_nodes.specs.contracts.node.Node as Node
use Rattle.crush_nodes.proofs.node.Bucket.TheLaws.TheKnot.{send-Bucket, send-Node}
use Rattle.crush_history.specs.contracts.entry.Entry as Entry
use Rattle.crush_map.specs.contracts.map.CrushMap as CrushMap
use Rattle.crush_gauge.specs.contracts.seat.BookSeat as BookSeat
use Rattle.atomic_table.proofs.shared.Seat.TheSendSync.{the_send as table_seat_send}
use Rattle.crush_history.proofs.entry.Entry.TheSendSync.{the_send as entry_send}
use Rattle.crush_editor.specs.contracts.book.Book as Book
use Rattle.crush_editor.specs.contracts.locked.Locked as Locked
use Rattle.crush_editor.specs.contracts.locked.Locked.TheInside as LockedInside
use Rattle.crush_editor.specs.declared.locked.Desk as Desk
use Rattle.crush_editor.specs.declared.opening.KeptOpening as KeptOpening
use Rattle.std.specs.declared.sync.ledger.Ledger as Ledger
use Rattle.std.specs.contracts.sync.ledger.Book as Count
use Rattle.std.specs.contracts.sync.ledger.Share as Share
use Rattle.std.proofs.sync.ledger.Book.TheSendSync.{the_send as count_send}
use Rattle.std.proofs.sync.ledger.Share.TheSendSync.{the_send as share_send}
use Rattle.crush_editor.specs.contracts.book.Book.TheInside as Inside

leaf_sent : IsSend (Leaf.the_field Global.the_row GlobalImpl.ghosts).row
leaf_sent = search (name_send, sendable, crosses) depth 20

header_sent : IsSend (as_row (Header.the_field Global.the_row GlobalImpl.ghosts))
header_sent = search (name_send, sendable, crosses) depth 20

weight_sent : IsSend (as_row Weight.the_field)
weight_sent = search sendable depth 10

bucket_sent : IsSend (Bucket.the_row Global.the_row GlobalImpl.ghosts)
bucket_sent = send-Bucket Global.the_row GlobalImpl.ghosts (λ h s. Vec-send h s) weight_sent header_sent (as_row_send (Leaf.the_field Global.the_row GlobalImpl.ghosts) leaf_sent) (λ h s. Box-send h s)

node_sent : IsSend (Node.the_row Global.the_row GlobalImpl.ghosts)
node_sent = as_row_send (Node.the_field Global.the_row GlobalImpl.ghosts) (send-Node Global.the_row GlobalImpl.ghosts leaf_sent (λ h s. Box-send h s) bucket_sent)

nodes_sent : IsSend (as_row (Vec.the_field (Node.the_row Global.the_row GlobalImpl.ghosts) Global.the_row GlobalImpl.ghosts))
nodes_sent = as_row_send (Vec.the_field (Node.the_row Global.the_row GlobalImpl.ghosts) Global.the_row GlobalImpl.ghosts) (search (node_sent, sendable, crosses) depth 20)

forest_sent : IsSend (Forest.the_row Global.the_row GlobalImpl.ghosts)
forest_sent = view_send _ _ _ _ _ (declared_send (ForestInside.the_type Global.the_row GlobalImpl.ghosts) (nodes_sent, (nodes_sent, tt)))

machine_sent : IsSend (as_row Global.the_field)
machine_sent = search (sendable, crosses) depth 10

hashing_sent : IsSend (as_row Hashing.the_field)
hashing_sent = search (hashing_send, sendable, crosses) depth 10

counts_sent : IsSend (as_row Counts.the_field)
counts_sent = search (sendable, crosses) depth 10

number_sent : IsSend (as_row u64-field)
number_sent = search sendable

changes_sent : IsSend (as_row u32-field)
changes_sent = search sendable

hierarchy_sent : IsSend (Hierarchy.the_row Global.the_row GlobalImpl.ghosts)
hierarchy_sent = view_send _ _ _ _ _ (declared_send (HierarchyInside.the_type Global.the_row GlobalImpl.ghosts)
    (machine_sent, (hashing_sent, (as_row_send (Forest.the_field Global.the_row GlobalImpl.ghosts) forest_sent, (index_sent, (counts_sent, (number_sent, tt)))))))

pub map_sent : IsSend (CrushMap.the_row Global.the_row GlobalImpl.ghosts)
map_sent = view_send _ _ _ _ _ (declared_send (MapInside.the_type Global.the_row GlobalImpl.ghosts) (as_row_send Setting.the_field setting_send, (as_row_send (Hierarchy.the_field Global.the_row GlobalImpl.ghosts) hierarchy_sent, tt)))

entry_sent : IsSend Entry.the_row
entry_sent = search (entry_send, sendable, crosses) depth 20

history_sent : IsSend (as_row (Vec.the_field Entry.the_row Global.the_row GlobalImpl.ghosts))
history_sent = search (entry_sent, sendable, crosses) depth 20

seat_sent : IsSend (BookSeat.the_row (CrushMap.the_row Global.the_row GlobalImpl.ghosts) Entry.the_row)
seat_sent = search (table_seat_send, sendable, crosses) depth 20

module _ (O : RattleType) (o : KeptOpening.Ghosts O.Denot) (opening : IsSend O) where
  opening_field : IsSend (as_row (row_field O))
  opening_field = search (opening, sendable)

  pub book_send : IsSend (Book.the_row Global.the_row O GlobalImpl.ghosts o)
  book_send = view_send _ _ _ _ _ (declared_send (Inside.the_type Global.the_row O GlobalImpl.ghosts o)
      (opening_field, (as_row_send (CrushMap.the_field Global.the_row GlobalImpl.ghosts) map_sent, (history_sent, (changes_sent, (as_row_send (BookSeat.the_field (CrushMap.the_row Global.the_row GlobalImpl.ghosts) Entry.the_row) seat_sent, tt))))))

module _ (N O : RattleType) (g : Desk.Ghosts N.Denot) (g' : Ledger.Ghosts N.Denot) (o : KeptOpening.Ghosts O.Denot) (opening : IsSend O) where
  count_sent : IsSend (as_row (Count.the_field N g'))
  count_sent = search (count_send, sendable)

  share_sent : IsSend (as_row (Share.the_field N g'))
  share_sent = search (share_send, sendable)

  pub locked_send : IsSend (Locked.the_row N O g g' o)
  locked_send = view_send _ _ _ _ _ (declared_send (LockedInside.the_type N O g g' o)
      (as_row_send (Book.the_field Global.the_row O GlobalImpl.ghosts o) (book_send O o opening), (count_sent, (share_sent, tt))))
