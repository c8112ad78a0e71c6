-- A history as a JSON value: an object for each entry. The object has everything that the entry's history line shows.
use Rattle.std.specs.Prelude.{ℕ, ◌+◌, List, [], ◌∷◌, Option, Some, None, codes, slice_index_or}
use Rattle.crush_model.specs.Count.{one_if}
use Rattle.crush_edits.specs.declared.refusal.Refusal.{Refusal}
use Rattle.crush_edits.specs.Refusal.{refusal_name, refusal_error}
use Rattle.crush_history.specs.declared.call.Reply.{Reply}
use Rattle.crush_history.specs.declared.call.Reply.TheVariants.{Done, Dones, Refused, BatchRefused, Stale}
use Rattle.crush_history.specs.History.{EntryData}
use Rattle.crush_history.specs.HistoryText.{call_text, reply_text}
use Rattle.serde_json.specs.Data.{Data, string, object, Members, member, no_members}
use Rattle.crush_json.specs.Values.{natural, list, text_if}

-- the last members of an entry's object: the number of the entry, the name of its operator, the name of the refusal if the call was refused, and the reply as text
abbrev pub last_members : ℕ → List ℕ → Option (List ℕ) → List ℕ → Members
last_members number operator refusal reply =
    member (codes "number") (natural number) (member (codes "operator") (string operator) (text_if (codes "refusal") refusal (member (codes "reply") (string reply) no_members)))

-- the object of an entry whose call succeeded: how many of its edits changed the map, and how many buckets were created
abbrev pub made_document : ℕ → List ℕ → List ℕ → ℕ → ℕ → List ℕ → Data
made_document number operator call changed made reply =
    object (member (codes "call") (string call) (member (codes "changed") (natural changed) (member (codes "made") (natural made) (last_members number operator None reply))))

-- the members of the object of an entry whose call was refused. They include the error number and the name of the refusal
abbrev pub refused_members : ℕ → List ℕ → List ℕ → Refusal → List ℕ → Members
refused_members number operator call r reply =
    member (codes "call") (string call) (member (codes "errno") (natural (refusal_error r)) (last_members number operator (Some (refusal_name r)) reply))

-- the object of an entry with a guarded batch that was refused because the number of earlier calls that changed the map isn't the number in the batch. `changes` is the number of these calls, and the error number is 11
abbrev pub stale_document : ℕ → List ℕ → List ℕ → ℕ → List ℕ → Data
stale_document number operator call changes reply =
    object (member (codes "call") (string call) (member (codes "changes") (natural changes) (member (codes "errno") (natural 11) (last_members number operator (Some (codes "Stale")) reply))))

-- the object of an entry with this number, this operator's name, this call as text, and this reply. If an edit of a batch was refused, the member `at` is the index of this edit in the batch, from 0
unfoldable pub answered_document : ℕ → List ℕ → List ℕ → Reply → Data
answered_document number operator call (Done d) = made_document number operator call (one_if d.changed) d.made (reply_text (Done d))
answered_document number operator call (Dones d) = made_document number operator call d.changed d.made (reply_text (Dones d))
answered_document number operator call (Refused r) = object (refused_members number operator call r (reply_text (Refused r)))
answered_document number operator call (BatchRefused index r) =
    object (member (codes "at") (natural index) (refused_members number operator call r (reply_text (BatchRefused index r))))
answered_document number operator call (Stale n) = stale_document number operator call n (reply_text (Stale n))

-- the object of an entry with this number and this operator's name
abbrev pub entry_document : ℕ → List ℕ → EntryData → Data
entry_document number operator e = answered_document number operator (call_text e.call) e.reply

-- the objects of entries. The first entry has the number `number`, and `names` are the names of the operators
unfoldable pub entry_documents : List (List ℕ) → ℕ → List EntryData → List Data
entry_documents names number [] = []
entry_documents names number (e ∷ h) = entry_document number (slice_index_or names e.operator []) e ∷ entry_documents names (number + 1) h

-- HISTORY DOCUMENT: the list of the entries' objects; the first entry has the number 1
unfoldable pub history_document : List (List ℕ) → List EntryData → Data
history_document names h = list (entry_documents names 1 h)
