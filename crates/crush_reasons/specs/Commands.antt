-- The reason why a line of a script is rejected if its first word isn't a command.
use Rattle.std.specs.Prelude.{ℕ, Bool, ◌&&◌, ◌||◌, List, [], ◌∷◌, ◌++◌, Option, Some, None, bytes_eq, codes, find, if◌then◌else◌}
use Rattle.crush_edits.specs.declared.keyword.Keyword.TheVariants.{Place, Move, SwapBucket, Reweight, ReweightSubtree, Rm, AddBucket, RenameBucket, SetDeviceClass, RmDeviceClass}
use Rattle.crush_edits.specs.declared.edit.Placing.TheVariants.{Insert, CreateOrMove, Update}
use Rattle.crush_edits.specs.Keyword.{keyword_word}
use Rattle.crush_script.specs.Lines.{word_in_line}
use Rattle.crush_reasons.specs.Near.{is_one_off, is_swapped}
use Rattle.crush_reasons.specs.Shown.{told}

-- whether a word is similar to a command: at most one byte differs, one byte is missing or extra, or two neighbouring bytes are exchanged
abbrev pub is_near_command : List ℕ → List ℕ → Bool
is_near_command a b = is_one_off a b || is_swapped a b

-- the words of all commands, and the words `begin` and `commit` of a batch. One command has two words: `rm` and `remove`
abbrev pub commands : List (List ℕ)
commands =
    keyword_word (Place Insert) ∷ (keyword_word (Place Update) ∷ (keyword_word (Place CreateOrMove) ∷ (keyword_word Move ∷ (keyword_word SwapBucket
    ∷ (keyword_word Reweight ∷ (keyword_word ReweightSubtree ∷ (keyword_word Rm ∷ (codes "remove" ∷ (keyword_word AddBucket ∷ (keyword_word RenameBucket
    ∷ (keyword_word SetDeviceClass ∷ (keyword_word RmDeviceClass ∷ (codes "begin" ∷ (codes "commit" ∷ []))))))))))))))

-- the first command of a list that is similar to a word; none if no command of the list is similar
unfoldable pub first_command : List ℕ → List (List ℕ) → Option (List ℕ)
first_command word words = find (λ (w : List ℕ). is_near_command word w) words

unfoldable pub near_command : List ℕ → Option (List ℕ)
near_command word = first_command word commands

unfoldable pub meant_text : Option (List ℕ) → List ℕ
meant_text None = codes "see --help"
meant_text (Some command) = codes "did you mean " ++ command ++ codes "?"

-- whether a line begins with `ceph osd crush`, the words with which Ceph's own commands begin
abbrev pub is_of_ceph : List ℕ → Bool
is_of_ceph line =
    bytes_eq (word_in_line 0 line) (codes "ceph") && (bytes_eq (word_in_line 1 line) (codes "osd") && bytes_eq (word_in_line 2 line) (codes "crush"))

-- the reason for a word that isn't a command; the reason suggests a similar command if there is one
unfoldable pub no_word : List ℕ → List ℕ
no_word word = told word ++ codes " is not a command: " ++ meant_text (near_command word)

-- NO COMMAND: the reason why a line is rejected if its first word isn't a command
abbrev pub no_command : List ℕ → List ℕ
no_command line =
    if is_of_ceph line then codes "leave out `ceph osd crush`"
    else no_word (word_in_line 0 line)
