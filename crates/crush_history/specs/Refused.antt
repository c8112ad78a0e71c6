-- The entries of a history that were refused, and their lines.
use Rattle.std.specs.Prelude.{ℕ, ◌+◌, List, [], ◌∷◌, ◌++◌, Bool, true, false, if◌then◌else◌, slice_index_or}
use Rattle.crush_history.specs.declared.call.Reply.{Reply}
use Rattle.crush_history.specs.declared.call.Reply.TheVariants.{Done, Dones, Refused, BatchRefused, Stale}
use Rattle.crush_history.specs.History.{EntryData}
use Rattle.crush_history.specs.HistoryText.{entry_text}

-- whether a reply refuses an edit or a batch, or says that a guarded batch is stale
abbrev pub is_refused : Reply → Bool
is_refused (Done d) = false
is_refused (Dones d) = false
is_refused (Refused r) = true
is_refused (BatchRefused index r) = true
is_refused (Stale n) = true

-- how many entries of a history were refused
unfoldable pub refusals : List EntryData → ℕ
refusals [] = 0
refusals (e ∷ h) = (if is_refused e.reply then 1 else 0) + refusals h

-- the line of an entry if it was refused, and otherwise no text
abbrev pub refused_line : ℕ → List ℕ → EntryData → List ℕ
refused_line number operator e = if is_refused e.reply then entry_text number operator e else []

-- REFUSED TEXT: the lines of the entries that were refused. The entries, refused or not, are numbered one after the other, and the first entry has the given number. `names` has each operator's name at the operator's index
unfoldable pub refused_text : List (List ℕ) → ℕ → List EntryData → List ℕ
refused_text names number [] = []
refused_text names number (e ∷ h) = refused_line number (slice_index_or names e.operator []) e ++ refused_text names (number + 1) h
