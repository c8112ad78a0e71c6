-- The lines of a job that have the refused edits of batches.
use Rattle.std.specs.Prelude.{◌≡◌, ℕ, ◌+◌, ◌==◌, Bool, List, [], Option, None, Some, drop, if◌then◌else◌, length, map, nat_lt, set, slice_get, slice_index_or}
use Rattle.std.specs.List.{sum_by}
use Rattle.std.specs.Option.{option_map_or}
use Rattle.crush_history.specs.declared.call.Reply.{Reply}
use Rattle.crush_history.specs.declared.call.Reply.TheVariants.{BatchRefused}
use Rattle.crush_history.specs.History.{EntryData}
use Rattle.crush_history.specs.Refused.{refusals}
use Rattle.crush_reasons.specs.declared.edits_left.EditPlace.{EditPlace}
use Rattle.crush_reasons.specs.declared.edits_left.EditsLeft.{EditsLeft}
use Rattle.crush_reasons.specs.declared.explained.EntryHead.{EntryHead}
use Rattle.crush_reasons.specs.declared.near.TheConstants.{MOST_LOOKS}
use Rattle.crush_reasons.specs.Place.{OriginData, command_head, origin_data}
use Rattle.crush_reasons.specs.Replay.{edits_of}

-- the number of edits in all those calls of the entries h that are calls of this operator
abbrev pub edits_given : ℕ → List EntryData → ℕ
edits_given operator h = sum_by (λ (e : EntryData). if e.operator == operator then length (edits_of e.call) else 0) h

-- the index of the refused edit in its batch, from 0; none if the reply isn't the refusal of an edit of a batch
abbrev pub refused_index : Reply → Option ℕ
refused_index (BatchRefused index r) = Some index
refused_index reply = None

-- the place of the refused edit of the entry `e`, as it is printed; empty if the entry has no refused edit of a batch. The entries `before` come before `e` in the history. The function `head` gives the place of an edit. The arguments of `head` are the index of an operator, and the number of the edit among all edits of this operator, from 0
abbrev pub entry_place : (ℕ → ℕ → List ℕ) → List EntryData → EntryData → List ℕ
entry_place head before e = option_map_or (λ index. head e.operator (edits_given e.operator before + index)) (refused_index e.reply) []

-- whether the map is searched for a similar name, to explain the entry that follows the entries `before`. The map is searched only for the first refused entries, because each search goes through all names
abbrev pub looks_behind : List EntryData → Bool
looks_behind before = nat_lt (refusals before) MOST_LOOKS

-- HEAD: the values that are needed for the reason for an entry, besides the entry and the map. `place` is the place of the refused edit of a batch, as it is printed, and `looks` says whether the map is searched for similar names
pub record HeadData : Type 0 where
  pub place : List ℕ
  pub looks : Bool

abbrev pub entry_head : (ℕ → ℕ → List ℕ) → List EntryData → EntryData → HeadData
entry_head head before e = record { place = entry_place head before e; looks = looks_behind before }

-- EDIT LINE: the number of the line that has the edit k of an operator; none if the operator has no edit k. An operator's edits count from 0. `sections` has, for each operator, the lines of the operator's edits
abbrev pub line_in : List (List ℕ) → ℕ → ℕ → Option ℕ
line_in sections operator k = slice_get (slice_index_or sections operator []) k

-- the place of an edit that is on this line, as it is printed: the name of the line's file if there is one, and the line's number in this file; empty if there is no line
abbrev pub line_place : (ℕ → OriginData) → Option ℕ → List ℕ
line_place origin line = option_map_or (λ n. command_head (origin n) n) line []

abbrev pub head_in : (ℕ → OriginData) → List (List ℕ) → ℕ → ℕ → List ℕ
head_in origin sections operator k = line_place origin (line_in sections operator k)

-- LEFT: `sections` has, for each operator, the lines of all edits of this operator. `left` has the same lines without the lines of the edits in the entries `h`, which are the operator's first edits
abbrev pub AreLeft : List (List ℕ) → List (List ℕ) → List EntryData → Type 0
AreLeft sections left h = (operator : ℕ) → slice_index_or left operator [] ≡ drop (edits_given operator h) (slice_index_or sections operator [])

abbrev pub lines_left : EditsLeft → List (List ℕ)
lines_left left = map (λ l. l.now) left.lines.items

-- the place of the refused edit of an entry, if `left` has the lines of all edits of this entry and of the entries after it; empty if the entry has no refused edit of a batch
abbrev pub head_left : (ℕ → OriginData) → List (List ℕ) → EntryData → List ℕ
head_left origin left e = option_map_or (λ index. line_place origin (line_in left e.operator index)) (refused_index e.reply) []

-- the lines that are left after one more entry: the lines of the entry's edits are removed from the lines of its operator
abbrev pub left_behind : List (List ℕ) → EntryData → List (List ℕ)
left_behind left e = set left e.operator (drop (length (edits_of e.call)) (slice_index_or left e.operator []))

-- the place of the refused edit of a batch, as it is printed; empty if the place isn't known
abbrev pub told_place : Option EditPlace → List ℕ
told_place None = []
told_place (Some p) = command_head (origin_data p.origin) p.line

abbrev pub head_data : EntryHead → HeadData
head_data h = record { place = told_place h.place; looks = h.looks }
