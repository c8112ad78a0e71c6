-- What the line of a command means: the edits that Ceph makes if a shell runs the line. The forms of the commands are those of Ceph's documentation. These definitions don't use `command_line`, with which the program's lines are defined.
use Rattle.std.specs.Prelude.{ℕ, ◌==◌, Bool, not, ◌&&◌, ◌||◌, List, [], ◌∷◌, Option, Some, None, bytes_eq, codes, filter, if◌then◌else◌, length, map, nat_lt, option_and_then, option_map}
use Rattle.std.specs.List.{list_any, slice_split}
use Rattle.crush_units.specs.ExactWeight.{cut_of}
use Rattle.crush_units.specs.Weight.{fraction_of, number_in}
use Rattle.crush_edits.specs.declared.location.Pair.{Pair}
use Rattle.crush_edits.specs.declared.edit.Edit.{Edit}
use Rattle.crush_edits.specs.declared.edit.Edit.TheVariants.{Place, Move, Swap, Reweight, ReweightSubtree, Remove, AddBucket, Rename, SetClass, RemoveClass}
use Rattle.crush_edits.specs.declared.edit.Placing.{Placing}
use Rattle.crush_edits.specs.declared.keyword.Keyword.{Keyword}
use Rattle.crush_edits.specs.declared.keyword.Keyword.TheVariants as key
use Rattle.crush_edits.specs.Keyword.{keyword_of}
use Rattle.crush_history.specs.Ceph.{is_dashed}
use Rattle.crush_history.specs.Said.{device_named}

-- whether a byte ends a word of a line: a space or a line feed
abbrev pub ends_word : ℕ → Bool
ends_word b = b == 32 || b == 10

-- the words of a line: its longest runs of bytes that are neither spaces nor line feeds. The words that the program prints have no bytes that a shell would interpret
unfoldable pub words_of_line : List ℕ → List (List ℕ)
words_of_line line = filter (λ (word : List ℕ). nat_lt 0 (length word)) (slice_split ends_word line)

-- the option that confirms a swap of two buckets (the *assent*)
abbrev pub assent_word : List ℕ
assent_word = codes "--yes-i-really-mean-it"

-- whether a word is an option other than the assent. Ceph reads each word that begins with `-` as an option
abbrev pub is_option : List ℕ → Bool
is_option word = is_dashed word && not (bytes_eq word assent_word)

-- the words of a command, given the words after `ceph osd crush`. If the first of the given words is `--`, this word is left out, and Ceph reads no word after it as an option. Without `--`, the result is none if one of the words is an option. The result is also none if there are no words
abbrev pub without_options : List (List ℕ) → Option (List (List ℕ))
without_options [] = None
without_options (word ∷ words) = if bytes_eq word (codes "--") then Some words else if list_any is_option (word ∷ words) then None else Some (word ∷ words)

-- a pair TYPE=NAME of a location, given the parts into which each `=` splits its word; none if there aren't exactly two parts
abbrev pub pair_of_parts : List (List ℕ) → Option Pair
pair_of_parts (kind ∷ name ∷ []) = Some (record { kind = kind; name = name })
pair_of_parts parts = None

-- the pair of a location that a word `TYPE=NAME` gives; none if the word doesn't have exactly one `=`
abbrev pub pair_said : List ℕ → Option Pair
pair_said word = pair_of_parts (slice_split (λ (b : ℕ). b == 61) word)

-- the location that words `PAIR ..` give; none if one of the words isn't a pair
abbrev pub location_said : List (List ℕ) → Option (List Pair)
location_said [] = Some []
location_said (word ∷ words) = option_and_then (λ (p : Pair). option_map (λ (at : List Pair). p ∷ at) (location_said words)) (pair_said word)

-- the weight that Ceph reads in a word, in units of a 65536th. Ceph rounds a weight down to a whole number of units
abbrev pub weight_said : List ℕ → ℕ
weight_said word = cut_of (number_in word) (length (fraction_of word))

-- the edit that places a device, given the words `osd.N WEIGHT PAIR ..` after `add`, `set` or `create-or-move`; none if the words don't have this form
abbrev pub placing_said : Placing → List (List ℕ) → Option (List Edit)
placing_said how (name ∷ weight ∷ pairs) =
    option_and_then (λ (device : ℕ). option_map (λ (at : List Pair). Place how device name (weight_said weight) at ∷ []) (location_said pairs)) (device_named name)
placing_said how words = None

-- the edit that moves an item, given the words `NAME PAIR ..` after `move`; none if the words don't have this form
abbrev pub move_said : List (List ℕ) → Option (List Edit)
move_said (name ∷ pairs) = option_map (λ (at : List Pair). Move name at ∷ []) (location_said pairs)
move_said words = None

-- the edit that swaps two buckets, given the words `NAME NAME` after `swap-bucket`, with or without the assent after the names; none if the words don't have this form
abbrev pub swap_said : List (List ℕ) → Option (List Edit)
swap_said (a ∷ b ∷ []) = Some (Swap a b ∷ [])
swap_said (a ∷ b ∷ word ∷ []) = if bytes_eq word assent_word then Some (Swap a b ∷ []) else None
swap_said words = None

-- the edit that sets a weight, given the words `NAME WEIGHT` after `reweight` or `reweight-subtree`; none if there aren't exactly two words. `edit` makes the edit from the name and the weight
abbrev pub weighing_said : (List ℕ → ℕ → Edit) → List (List ℕ) → Option (List Edit)
weighing_said edit (name ∷ weight ∷ []) = Some (edit name (weight_said weight) ∷ [])
weighing_said edit words = None

-- the edit that removes an item, given the word `NAME` after `rm` or `remove`; none if there isn't exactly one word
abbrev pub removal_said : List (List ℕ) → Option (List Edit)
removal_said (name ∷ []) = Some (Remove name ∷ [])
removal_said words = None

-- the edit that moves a new bucket to a location; no edit if the location has no pair
abbrev pub moved_to : List ℕ → List Pair → List Edit
moved_to name [] = []
moved_to name (p ∷ at) = Move name (p ∷ at) ∷ []

-- the edits that create a bucket, and then move it to a location if there is a pair, given the words `NAME TYPE PAIR ..` after `add-bucket`; none if the words don't have this form
abbrev pub bucket_said : List (List ℕ) → Option (List Edit)
bucket_said (name ∷ kind ∷ pairs) = option_map (λ (at : List Pair). AddBucket name kind ∷ moved_to name at) (location_said pairs)
bucket_said words = None

-- the edit that renames a bucket, given the words `FROM TO` after `rename-bucket`; none if there aren't exactly two words
abbrev pub renaming_said : List (List ℕ) → Option (List Edit)
renaming_said (from ∷ to ∷ []) = Some (Rename from to ∷ [])
renaming_said words = None

-- whether a word is one that Ceph reads as all devices, if the word is the first in a list of devices
abbrev pub is_all_devices : List ℕ → Bool
is_all_devices word = bytes_eq word (codes "all") || bytes_eq word (codes "any") || bytes_eq word (codes "*")

-- the edits that give a class to each of the devices, in the order of the words, given the words `CLASS NAME ..` after `set-device-class`; none if there is no NAME, or if Ceph reads the first NAME as all devices
abbrev pub classes_given : List (List ℕ) → Option (List Edit)
classes_given (class ∷ name ∷ names) = if is_all_devices name then None else Some (map (λ (device : List ℕ). SetClass device class) (name ∷ names))
classes_given words = None

-- the edits that take the class away from each of the devices, in the order of the words, given the words `NAME ..` after `rm-device-class`; none if there is no NAME, or if Ceph reads the first NAME as all devices
abbrev pub classes_taken : List (List ℕ) → Option (List Edit)
classes_taken (name ∷ names) = if is_all_devices name then None else Some (map (λ (device : List ℕ). RemoveClass device) (name ∷ names))
classes_taken words = None

-- the edits of a command, given the keyword that is its first word, and the words after it; none if there is no keyword, or if the words don't have the command's form
abbrev pub edits_by : Option Keyword → List (List ℕ) → Option (List Edit)
edits_by (Some (key.Place how)) words = placing_said how words
edits_by (Some key.Move) words = move_said words
edits_by (Some key.SwapBucket) words = swap_said words
edits_by (Some key.Reweight) words = weighing_said (λ (name : List ℕ) (weight : ℕ). Reweight name weight) words
edits_by (Some key.ReweightSubtree) words = weighing_said (λ (name : List ℕ) (weight : ℕ). ReweightSubtree name weight) words
edits_by (Some key.Rm) words = removal_said words
edits_by (Some key.AddBucket) words = bucket_said words
edits_by (Some key.RenameBucket) words = renaming_said words
edits_by (Some key.SetDeviceClass) words = classes_given words
edits_by (Some key.RmDeviceClass) words = classes_taken words
edits_by None words = None

-- the edits of a command, given all its words. The command `reweight-all` makes no edit, whatever words follow
abbrev pub edits_said : List (List ℕ) → Option (List Edit)
edits_said [] = None
edits_said (word ∷ words) = if bytes_eq word (codes "reweight-all") then Some [] else edits_by (keyword_of word) words

-- the edits of a line, given all its words; none if they don't begin with `ceph osd crush`, or if the words after these three aren't a command
abbrev pub edits_of_words : List (List ℕ) → Option (List Edit)
edits_of_words (a ∷ b ∷ c ∷ words) = if bytes_eq a (codes "ceph") && bytes_eq b (codes "osd") && bytes_eq c (codes "crush") then option_and_then edits_said (without_options words) else None
edits_of_words words = None

-- EDITS OF A LINE: the edits that Ceph makes if a shell runs the line; none if the line isn't one of the commands above
unfoldable pub edits_of_line : List ℕ → Option (List Edit)
edits_of_line line = edits_of_words (words_of_line line)
