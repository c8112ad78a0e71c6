-- An edit as the command of Ceph that makes the same change.
use Rattle.std.specs.Prelude.{ℕ, ◌==◌, Bool, false, ◌||◌, List, [], ◌∷◌, ◌++◌, codes, decimal, if◌then◌else◌}
use Rattle.std.specs.List.{list_any}
use Rattle.crush_edits.specs.declared.location.Pair.{Pair}
use Rattle.crush_edits.specs.declared.edit.Edit.{Edit}
use Rattle.crush_edits.specs.declared.edit.Edit.TheVariants.{Place, Move, Swap, Reweight, ReweightSubtree, Remove, AddBucket, Rename, SetClass, RemoveClass}
use Rattle.crush_units.specs.ExactWeight.{exact_text}
use Rattle.crush_edits.specs.EditText.{edit_text, pairs_text}
use Rattle.crush_edits.specs.declared.keyword.Keyword.TheVariants as key
use Rattle.crush_edits.specs.Keyword.{keyword_word, placing_word}

-- the option ` --yes-i-really-mean-it` for a swap, which Ceph requires if the two buckets have different parents; no text for any other edit
abbrev pub assent : Edit → List ℕ
assent (Place how device name weight at) = []
assent (Move name at) = []
assent (Swap a b) = codes " --yes-i-really-mean-it"
assent (Reweight name weight) = []
assent (ReweightSubtree name weight) = []
assent (Remove name) = []
assent (AddBucket name kind) = []
assent (Rename from to) = []
assent (SetClass name class) = []
assent (RemoveClass name) = []

-- whether a word begins with `-`
abbrev pub is_dashed : List ℕ → Bool
is_dashed [] = false
is_dashed (b ∷ rest) = b == 45

-- whether a pair TYPE=NAME of the location begins with `-`, that is, whether its TYPE does
abbrev pub has_dashed_type : List Pair → Bool
has_dashed_type at = list_any (λ (p : Pair). is_dashed p.kind) at

-- whether a command has, after its first word, a word that begins with `-`, which Ceph would read as an option
abbrev pub has_dash : Edit → Bool
has_dash (Place how device name weight at) = is_dashed name || has_dashed_type at
has_dash (Move name at) = is_dashed name || has_dashed_type at
has_dash (Swap a b) = is_dashed a || is_dashed b
has_dash (Reweight name weight) = is_dashed name
has_dash (ReweightSubtree name weight) = is_dashed name
has_dash (Remove name) = is_dashed name
has_dash (AddBucket name kind) = is_dashed name || is_dashed kind
has_dash (Rename from to) = is_dashed from || is_dashed to
has_dash (SetClass name class) = is_dashed class || is_dashed name
has_dash (RemoveClass name) = is_dashed name

-- the words before a command. If a word after the command's first word begins with `-`, the words before the command end in `--`, because Ceph reads no options after `--`
abbrev pub ceph_head : Edit → List ℕ
ceph_head e = if has_dash e then codes "ceph osd crush -- " else codes "ceph osd crush "

-- a command's first word, a name, and a weight in exact form, separated by spaces
abbrev pub name_and_exact : List ℕ → List ℕ → ℕ → List ℕ
name_and_exact first name weight = first ++ codes " " ++ name ++ codes " " ++ exact_text weight

-- the words of a command. They are the same as in a script, except that weights are in exact form: Ceph rounds a weight down, and reads exactly the edit's weight from this form
abbrev pub ceph_words : Edit → List ℕ
ceph_words (Place how device name weight at) = name_and_exact (placing_word how) name weight ++ pairs_text at
ceph_words (Move name at) = edit_text (Move name at)
ceph_words (Swap a b) = edit_text (Swap a b)
ceph_words (Reweight name weight) = name_and_exact (keyword_word key.Reweight) name weight
ceph_words (ReweightSubtree name weight) = name_and_exact (keyword_word key.ReweightSubtree) name weight
ceph_words (Remove name) = edit_text (Remove name)
ceph_words (AddBucket name kind) = edit_text (AddBucket name kind)
ceph_words (Rename from to) = edit_text (Rename from to)
ceph_words (SetClass name class) = edit_text (SetClass name class)
ceph_words (RemoveClass name) = edit_text (RemoveClass name)

-- an edit as a line for a shell: the words before the command, the command, the option of `assent` if the edit is a swap, and a line feed
abbrev pub ceph_line : Edit → List ℕ
ceph_line e = ceph_head e ++ ceph_words e ++ (assent e ++ codes "\n")

-- the line `# N commands`, where N is the number of commands, with a line feed
unfoldable pub ceph_heading : ℕ → List ℕ
ceph_heading count = codes "# " ++ decimal count ++ codes " commands\n"
