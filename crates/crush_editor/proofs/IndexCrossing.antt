-- An index may be sent to another thread, because its tables and its links may be sent.
use denote.RattleType.{RattleType}
use denote.Hole.{as_row}
use denote.Param.Send.{IsSend, sendable}
use denote.Param.SendFields.{declared_send, as_row_send}
use Rattle.std.proofs.Crossing.{crosses, Box-send}
use Rattle.std.specs.contracts.alloc.Global as Global
use Rattle.indexmap.proofs.map.IndexMap.TheSendSync.{the_send as map_send}
use Rattle.indexmap.proofs.set.IndexSet.TheSendSync.{the_send as set_send}
use Rattle.crush_index.proofs.chain.Chain.TheLaws.TheKnot.{send-Chain}
use Rattle.crush_index.specs.contracts.chain.Chain as Chain
use Rattle.crush_index.specs.contracts.key.Key as Key
use Rattle.crush_index.proofs.key.Key.TheSendSync.{the_send as key_send}
use Rattle.crush_index.specs.contracts.hashing.Hashing as Hashing
use Rattle.crush_index.proofs.hashing.Hashing.TheSendSync.{the_send as hashing_send}
use Rattle.crush_index.specs.contracts.slot.Entry as Entry
use Rattle.crush_index.specs.contracts.slot.Slot as Slot
use Rattle.crush_index.proofs.slot.Entry.TheSendSync.{the_send as entry_send}
use Rattle.crush_index.proofs.slot.Slot.TheSendSync.{the_send as slot_send}
use Rattle.crush_index.specs.contracts.names.Names as Names
use Rattle.crush_index.specs.contracts.dense_map.DenseMap as DenseMap
use Rattle.crush_index.specs.contracts.slots.Slots as Slots
use Rattle.crush_index.specs.contracts.places.Places as Places
use Rattle.crush_index.specs.contracts.used.UsedIds as UsedIds
use Rattle.crush_index.specs.contracts.index.Index as Index
use Rattle.crush_units.specs.contracts.id.BucketId as BucketId
use Rattle.crush_units.proofs.id.BucketId.TheSendSync.{the_send as bucket_id_send}

module _ (K V : RattleType) (k : IsSend K) (v : IsSend V) where
  chain_sent : IsSend (as_row (Chain.the_field K V))
  chain_sent = as_row_send (Chain.the_field K V) (send-Chain K V (search (k, sendable)) (search (v, sendable)) (λ h s. Box-send h s))

machine_sent : IsSend (as_row Global.the_field)
machine_sent = search (sendable, crosses) depth 10

hashing_sent : IsSend (as_row Hashing.the_field)
hashing_sent = search (hashing_send, sendable, crosses) depth 10

names_sent : IsSend Names.the_row
names_sent = declared_send Names.the_type
    (machine_sent, (hashing_sent, (search (map_send, key_send, sendable, crosses) depth 20, (search (chain_sent, key_send, sendable, crosses) depth 20, tt))))

entries_sent : IsSend (DenseMap.the_row Entry.the_row)
entries_sent = declared_send (DenseMap.the_type Entry.the_row)
    (search (entry_send, sendable, crosses) depth 20, (search (map_send, entry_send, hashing_send, sendable, crosses) depth 20, (chain_sent _ Entry.the_row (search sendable) entry_send, (search sendable, tt))))

numbers_sent : IsSend (DenseMap.the_row BucketId.the_row)
numbers_sent = declared_send (DenseMap.the_type BucketId.the_row)
    (search (bucket_id_send, sendable, crosses) depth 20, (search (map_send, bucket_id_send, hashing_send, sendable, crosses) depth 20, (chain_sent _ BucketId.the_row (search sendable) bucket_id_send, (search sendable, tt))))

entered_sent : IsSend (DenseMap.the_row Slot.the_row)
entered_sent = declared_send (DenseMap.the_type Slot.the_row)
    (search (slot_send, sendable, crosses) depth 20, (search (map_send, slot_send, hashing_send, sendable, crosses) depth 20, (chain_sent _ Slot.the_row (search sendable) slot_send, (search sendable, tt))))

slots_sent : IsSend Slots.the_row
slots_sent = declared_send Slots.the_type (search (numbers_sent, sendable), (search (entered_sent, sendable), tt))

places_sent : IsSend Places.the_row
places_sent = declared_send Places.the_type (search (entries_sent, sendable), (search (slots_sent, sendable), tt))

used_sent : IsSend UsedIds.the_row
used_sent = declared_send UsedIds.the_type (search (sendable, crosses) depth 20, (search (set_send, hashing_send, sendable, crosses) depth 20, (search (chain_sent, sendable, crosses) depth 20, tt)))

whole_sent : IsSend Index.the_row
whole_sent = declared_send Index.the_type
    (machine_sent, (search (names_sent, sendable), (search (places_sent, sendable), (search (used_sent, sendable), tt))))

pub index_sent : IsSend (as_row Index.the_field)
index_sent = search (whole_sent, sendable)
