-- How the words of a line of a section are parsed. Each definition gives a value, or the fault that says why the line can't be parsed.
use Rattle.std.specs.Prelude.{ℕ, ◌+◌, List, [], ◌∷◌, ◌++◌, length, nat_lt, Option, Some, None, codes, bytes_eq, Result, Ok, Err, if◌then◌else◌}
use Rattle.crush_units.specs.Name.{is_name}
use Rattle.crush_units.specs.Weight.{weight_of_text}
use Rattle.crush_units.specs.declared.weight.WeightFault.{WeightFault}
use Rattle.crush_units.specs.declared.limits.TheConstants.{MOST_PAIRS}
use Rattle.crush_edits.specs.declared.location.Pair.{Pair}
use Rattle.crush_edits.specs.declared.edit.Edit.{Edit}
use Rattle.crush_edits.specs.declared.edit.Edit.TheVariants.{Place, Move, Swap, Reweight, ReweightSubtree, Remove, AddBucket, Rename, SetClass, RemoveClass}
use Rattle.crush_script.specs.declared.command.Command.{Command}
use Rattle.crush_script.specs.declared.command.Command.TheVariants as says
use Rattle.crush_edits.specs.declared.keyword.Keyword.{Keyword}
use Rattle.crush_edits.specs.declared.keyword.Keyword.TheVariants as word
use Rattle.crush_edits.specs.Keyword.{keyword_of}
use Rattle.crush_script.specs.declared.command.Placing.{Placing}
use Rattle.crush_script.specs.declared.command.LineFault.{LineFault}
use Rattle.crush_script.specs.declared.command.LineFault.TheVariants.{Word, NoOperator, NoSuchCommand}
use Rattle.crush_script.specs.declared.fault.Due.{Due}
use Rattle.crush_script.specs.declared.fault.Due.TheVariants as due
use Rattle.crush_text.specs.Flow.{◌>>=◌}
use Rattle.crush_history.specs.Said.{device_named}
use Rattle.crush_script.specs.Words.{pair_of, is_pair, count_of}

-- a value that was read from the first words, and the words after them
pub record Read (X : Type 0) : Type 0 where
  pub value : X
  pub rest : List (List ℕ)

-- a misfit: the fault of a line in which the word at this index is missing, or isn't what the form of the line requires. The index counts from 0
abbrev pub misfit : ℕ → Due → LineFault
misfit index d = Word (record { word = index; due = d })

-- the next word, which has this index in the line, as a name. If there is no next word, or if it isn't a name, the result is a misfit. The argument d is what the misfit reports as required, for example the name of a device.
unfoldable pub name_at : ℕ → Due → List (List ℕ) → Result (Read (List ℕ)) LineFault
name_at index d [] = Err (misfit index d)
name_at index d (word ∷ rest) = if is_name word then Ok (record { value = word; rest = rest }) else Err (misfit index d)

-- the weight that parsing the word at this index has given, and the words after it. If parsing has failed, the result is a misfit. A weight is at most HEAVIEST_BUCKET units
abbrev pub read_weight : ℕ → Result ℕ WeightFault → List (List ℕ) → Result (Read ℕ) LineFault
read_weight index (Ok units) rest = Ok (record { value = units; rest = rest })
read_weight index (Err fault) rest = Err (misfit index due.Weight)

-- the next word, which has this index, as a weight. If there is no next word, or if it isn't a weight, the result is a misfit
unfoldable pub weight_at : ℕ → List (List ℕ) → Result (Read ℕ) LineFault
weight_at index [] = Err (misfit index due.Weight)
weight_at index (word ∷ rest) = read_weight index (weight_of_text word) rest

-- the value if no word is left. Otherwise the result is a misfit at the next word, which has this index
unfoldable pub end_at : {X : Type 0} → ℕ → X → List (List ℕ) → Result X LineFault
end_at index value [] = Ok value
end_at index value (word ∷ rest) = Err (misfit index due.End)

-- the location l after the pair of the word `TYPE=NAME` was appended. If l has MOST_PAIRS pairs already, or if the word isn't a pair, the result is a misfit. The first pair of the line has the index `first`.
unfoldable pub with_pair : ℕ → List Pair → List ℕ → Result (List Pair) LineFault
with_pair first l word =
    if nat_lt (length l) MOST_PAIRS then (if is_pair word then Ok (l ++ pair_of word ∷ []) else Err (misfit (first + length l) due.Pair))
    else Err (misfit (first + length l) due.NoMorePairs)

-- the location l after the pairs of all these words were appended, in their order. The result is a misfit at the first word that can't be appended
unfoldable pub with_pairs : ℕ → List Pair → List (List ℕ) → Result (List Pair) LineFault
with_pairs first l [] = Ok l
with_pairs first l (word ∷ rest) = with_pair first l word >>= λ more. with_pairs first more rest

-- `PAIR ..`: all words that are left, as a location of 0 to 16 pairs
unfoldable pub location_at : ℕ → List (List ℕ) → Result (List Pair) LineFault
location_at first words = with_pairs first [] words

-- the id of the device that the first word after the command names. If the word isn't the name of a device, there is no id, and the result is a misfit at this word
abbrev pub the_device : Option ℕ → Result ℕ LineFault
the_device None = Err (misfit 1 due.Device)
the_device (Some id) = Ok id

-- `osd.N W PAIR ..`: a device's name, a weight and a location
unfoldable pub placing_at : List (List ℕ) → Result Placing LineFault
placing_at words = do
  name ← name_at 1 due.Device words
  device ← the_device (device_named name.value)
  weight ← weight_at 2 name.rest
  at ← location_at 3 weight.rest
  Ok (record { device = device; name = name.value; weight = weight.value; at = at })

-- `NAME PAIR ..`: a name and a location
unfoldable pub located_at : List (List ℕ) → Result (List ℕ × List Pair) LineFault
located_at words = do
  name ← name_at 1 due.Name words
  at ← location_at 2 name.rest
  Ok (name.value, at)

-- `NAME`: a name and no further word
unfoldable pub one_name_at : List (List ℕ) → Result (List ℕ) LineFault
one_name_at words = do
  name ← name_at 1 due.Name words
  end_at 2 name.value name.rest

-- `NAME NAME`, `NAME TYPENAME`, `FROM TO` or `CLASS NAME`: two names and no further word
unfoldable pub two_names_at : List (List ℕ) → Result (List ℕ × List ℕ) LineFault
two_names_at words = do
  first ← name_at 1 due.Name words
  second ← name_at 2 due.Name first.rest
  end_at 3 (first.value, second.value) second.rest

-- `NAME W`: the name of a device or a bucket, a weight, and no further word
unfoldable pub name_and_weight_at : List (List ℕ) → Result (List ℕ × ℕ) LineFault
name_and_weight_at words = do
  name ← name_at 1 due.Name words
  weight ← weight_at 2 name.rest
  end_at 3 (name.value, weight.value) weight.rest

-- the edit of a command. `rest` has the words after the command. In `set-device-class CLASS NAME`, the class comes before the name
abbrev pub edit_of : Keyword → List (List ℕ) → Result Edit LineFault
edit_of (word.Place how) rest = placing_at rest >>= λ p. Ok (Place how p.device p.name p.weight p.at)
edit_of word.Move rest = located_at rest >>= λ p. Ok (Move p.0 p.1)
edit_of word.SwapBucket rest = two_names_at rest >>= λ p. Ok (Swap p.0 p.1)
edit_of word.Reweight rest = name_and_weight_at rest >>= λ p. Ok (Reweight p.0 p.1)
edit_of word.ReweightSubtree rest = name_and_weight_at rest >>= λ p. Ok (ReweightSubtree p.0 p.1)
edit_of word.Rm rest = one_name_at rest >>= λ name. Ok (Remove name)
edit_of word.AddBucket rest = two_names_at rest >>= λ p. Ok (AddBucket p.0 p.1)
edit_of word.RenameBucket rest = two_names_at rest >>= λ p. Ok (Rename p.0 p.1)
edit_of word.SetDeviceClass rest = two_names_at rest >>= λ p. Ok (SetClass p.1 p.0)
edit_of word.RmDeviceClass rest = one_name_at rest >>= λ name. Ok (RemoveClass name)

-- the edit of a command, as in `edit_of`. If the first word is no command, the result is NoSuchCommand
abbrev pub edit_by : Option Keyword → List (List ℕ) → Result Edit LineFault
edit_by None rest = Err NoSuchCommand
edit_by (Some keyword) rest = edit_of keyword rest

-- the edit of a line. `first` is its first word, and `rest` has the words after it
unfoldable pub edit_at : List ℕ → List (List ℕ) → Result Edit LineFault
edit_at first rest = edit_by (keyword_of first) rest

-- the number of changes that the word at this index spells, and the words after it. If the word doesn't spell a number of changes, the result is a misfit
abbrev pub read_count : ℕ → Option ℕ → List (List ℕ) → Result (Read ℕ) LineFault
read_count index (Some n) rest = Ok (record { value = n; rest = rest })
read_count index None rest = Err (misfit index due.Changes)

-- the next word, which has this index, as a number of changes. If there is no next word, or if it isn't such a number, the result is a misfit
unfoldable pub count_at : ℕ → List (List ℕ) → Result (Read ℕ) LineFault
count_at index [] = Err (misfit index due.Changes)
count_at index (word ∷ rest) = read_count index (count_of word) rest

-- the words after `begin`: no words, or `at N` and no further word
unfoldable pub begin_at : List (List ℕ) → Result Command LineFault
begin_at [] = Ok (says.Begin None)
begin_at (word ∷ rest) = if bytes_eq word (codes "at") then (count_at 2 rest >>= λ seen. end_at 3 (says.Begin (Some seen.value)) seen.rest) else Err (misfit 1 due.At)

-- a line of a section after its first line: no words, `begin`, `begin at N`, `commit`, or a command for an edit
unfoldable pub command : List (List ℕ) → Result Command LineFault
command [] = Ok says.Nothing
command (first ∷ rest) =
    if bytes_eq first (codes "begin") then begin_at rest
    else if bytes_eq first (codes "commit") then end_at 1 says.Commit rest
    else edit_at first rest >>= λ edit. Ok (says.Edit edit)

-- `%operator NAME`, the line that begins a section: the name of its operator
unfoldable pub operator : List (List ℕ) → Result (List ℕ) LineFault
operator [] = Err NoOperator
operator (first ∷ rest) = if bytes_eq first (codes "%operator") then one_name_at rest else Err NoOperator
