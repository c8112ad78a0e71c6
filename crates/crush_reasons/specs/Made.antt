-- The entries of a history whose calls created more buckets than they have `add-bucket` commands, and the history lines of these entries.
use Rattle.std.specs.Prelude.{ℕ, ◌+◌, List, [], ◌∷◌, ◌++◌, Bool, true, false, if◌then◌else◌, nat_lt, slice_index_or}
use Rattle.std.specs.List.{count_by}
use Rattle.crush_edits.specs.declared.edit.Edit.{Edit}
use Rattle.crush_edits.specs.declared.edit.Edit.TheVariants.{AddBucket}
use Rattle.crush_history.specs.declared.call.Call.{Call}
use Rattle.crush_history.specs.declared.call.Call.TheVariants.{One, Batch, Guarded}
use Rattle.crush_history.specs.declared.call.Reply.{Reply}
use Rattle.crush_history.specs.declared.call.Reply.TheVariants.{Done, Dones, Refused, BatchRefused, Stale}
use Rattle.crush_history.specs.History.{EntryData}
use Rattle.crush_history.specs.HistoryText.{entry_text}

-- whether an edit is an `add-bucket`, which creates one bucket if it is applied
abbrev pub is_add_bucket : Edit → Bool
is_add_bucket (AddBucket name kind) = true
is_add_bucket e = false

-- the number of `add-bucket` commands in a call
abbrev pub add_bucket_count : Call → ℕ
add_bucket_count (One e) = if is_add_bucket e then 1 else 0
add_bucket_count (Batch es) = count_by is_add_bucket es
add_bucket_count (Guarded seen es) = count_by is_add_bucket es

-- the number of buckets that a call created, according to its reply
abbrev pub buckets_made : Reply → ℕ
buckets_made (Done d) = d.made
buckets_made (Dones d) = d.made
buckets_made (Refused r) = 0
buckets_made (BatchRefused index r) = 0
buckets_made (Stale n) = 0

-- MAKES MORE: whether the call of an entry created more buckets than it has `add-bucket` commands. In this case, a location of the call named a bucket that wasn't in the map, and the call created this bucket, too
abbrev pub makes_more : EntryData → Bool
makes_more e = nat_lt (add_bucket_count e.call) (buckets_made e.reply)

-- the number of entries for which `makes_more` is true
abbrev pub makings : List EntryData → ℕ
makings h = count_by makes_more h

-- the history line of an entry for which `makes_more` is true; nothing for any other entry
abbrev pub made_line : ℕ → List ℕ → EntryData → List ℕ
made_line number operator e = if makes_more e then entry_text number operator e else []

-- MADE TEXT: the history lines of all entries for which `makes_more` is true, each with its number in the history. `number` is the number of the first entry of the list
unfoldable pub made_text : List (List ℕ) → ℕ → List EntryData → List ℕ
made_text names number [] = []
made_text names number (e ∷ h) = made_line number (slice_index_or names e.operator []) e ++ made_text names (number + 1) h
