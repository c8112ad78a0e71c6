-- A plan as a JSON value. Each edit of the plan is a command in the form that a monitor of Ceph accepts. The members of each object are sorted by name.
use Rattle.std.specs.Prelude.{ℕ, true, List, [], ◌∷◌, ◌++◌, Option, Some, None, codes, map}
use Rattle.std.specs.Str.Lossy.{utf8_lossy}
use Rattle.crush_units.specs.ExactWeight.{exact_text}
use Rattle.crush_edits.specs.declared.location.Pair.{Pair}
use Rattle.crush_edits.specs.declared.edit.Edit.{Edit}
use Rattle.crush_edits.specs.declared.edit.Edit.TheVariants.{Place, Move, Swap, Reweight, ReweightSubtree, Remove, AddBucket, Rename, SetClass, RemoveClass}
use Rattle.crush_edits.specs.EditText.{pair_word}
use Rattle.crush_edits.specs.Keyword.{edit_keyword, keyword_word}
use Rattle.json.specs.Json as json
use Rattle.json.specs.Print.{print}
use Rattle.json.specs.Tree.{json_tokens}
use Rattle.serde_json.specs.Data.{Data, boolean, string, object, member, no_members}
use Rattle.serde_json.specs.Written.{outline}
use Rattle.crush_json.specs.Values.{natural, list}

-- the members `ms` with a member before them, which has this name and this value
abbrev pub told : List ℕ → Data → json.Members → json.Members
told name d ms = json.member name (outline d) ms

-- the members `ms` with a member before them, which has this name and a text as its value
abbrev pub text : List ℕ → List ℕ → json.Members → json.Members
text name s ms = told name (string s) ms

-- the last member of a command that has a weight. The weight is a decimal number, written with its exact text
abbrev pub weight : ℕ → json.Members
weight w = json.member (codes "weight") (json.number (exact_text w)) json.no_members

-- the pairs of a location, each as a text `TYPE=NAME`
abbrev pub pair_values : List Pair → List Data
pair_values at = map (λ p. string (pair_word p)) at

-- one name as a list, because Ceph's command takes a list of names
abbrev pub one_name : List ℕ → Data
one_name name = list (string name ∷ [])

-- COMMANDS as values. The next nine definitions give the values for the commands of edits. `weighing` is for the edits `Reweight` and `ReweightSubtree`, and each of the other definitions is for one kind of edit. The argument `prefix` has the words with which the command begins
unfoldable pub placing : List ℕ → ℕ → ℕ → List Pair → json.Json
placing prefix device w at =
    json.object (told (codes "args") (list (pair_values at)) (told (codes "id") (natural device) (text (codes "prefix") prefix (weight w))))

unfoldable pub moving : List ℕ → List ℕ → List Pair → json.Json
moving prefix name at = json.object (told (codes "args") (list (pair_values at)) (text (codes "name") name (text (codes "prefix") prefix json.no_members)))

unfoldable pub swapping : List ℕ → List ℕ → List ℕ → json.Json
swapping prefix a b =
    json.object (text (codes "dest") b (text (codes "prefix") prefix (text (codes "source") a
    (told (codes "yes_i_really_mean_it") (boolean true) json.no_members))))

unfoldable pub weighing : List ℕ → List ℕ → ℕ → json.Json
weighing prefix name w = json.object (text (codes "name") name (text (codes "prefix") prefix (weight w)))

unfoldable pub removing : List ℕ → List ℕ → json.Json
removing prefix name = json.object (text (codes "name") name (text (codes "prefix") prefix json.no_members))

unfoldable pub adding : List ℕ → List ℕ → List ℕ → json.Json
adding prefix name kind = json.object (text (codes "name") name (text (codes "prefix") prefix (text (codes "type") kind json.no_members)))

unfoldable pub renaming : List ℕ → List ℕ → List ℕ → json.Json
renaming prefix from to = json.object (text (codes "dstname") to (text (codes "prefix") prefix (text (codes "srcname") from json.no_members)))

unfoldable pub classing : List ℕ → List ℕ → List ℕ → json.Json
classing prefix name class = json.object (text (codes "class") class (told (codes "ids") (one_name name) (text (codes "prefix") prefix json.no_members)))

unfoldable pub declassing : List ℕ → List ℕ → json.Json
declassing prefix name = json.object (told (codes "ids") (one_name name) (text (codes "prefix") prefix json.no_members))

-- the value for the command of an edit. The command begins with the words `prefix`
abbrev pub prefixed : List ℕ → Edit → json.Json
prefixed prefix (Place how device name w at) = placing prefix device w at
prefixed prefix (Move name at) = moving prefix name at
prefixed prefix (Swap a b) = swapping prefix a b
prefixed prefix (Reweight name w) = weighing prefix name w
prefixed prefix (ReweightSubtree name w) = weighing prefix name w
prefixed prefix (Remove name) = removing prefix name
prefixed prefix (AddBucket name kind) = adding prefix name kind
prefixed prefix (Rename from to) = renaming prefix from to
prefixed prefix (SetClass name class) = classing prefix name class
prefixed prefix (RemoveClass name) = declassing prefix name

-- the words with which the command of an edit begins: `osd crush `, and the first word of the edit's command in a script
abbrev pub command_words : Edit → List ℕ
command_words e = codes "osd crush " ++ keyword_word (edit_keyword e)

-- AN EDIT as the value for the command that does the edit
abbrev pub command : Edit → json.Json
command e = prefixed (command_words e) e

-- values as the items of an array
abbrev pub all_of : List json.Json → json.Items
all_of [] = json.no_items
all_of (j ∷ js) = json.item j (all_of js)

-- a line as text, in which U+FFFD replaces the bytes that aren't UTF-8
abbrev pub line_value : List ℕ → Data
line_value line = string (utf8_lossy line)

-- the lines that describe the differences that remain, as a list of texts
unfoldable pub stays_document : List (List ℕ) → Data
stays_document rest = list (map line_value rest)

-- if there is a history, the members `ms` with the member `history` before them; otherwise only the members `ms`
abbrev pub behind_history : Option Data → json.Members → json.Members
behind_history None ms = ms
behind_history (Some h) ms = told (codes "history") h ms

-- how many buckets have different ids in the two maps, and how many have different class ids. The buckets are matched by their names
unfoldable pub aside_document : ℕ → ℕ → Data
aside_document ids class_ids = object (member (codes "class_ids") (natural class_ids) (member (codes "ids") (natural ids) no_members))

-- PLAN DOCUMENT: the numbers of buckets whose ids or class ids differ, the history if there is one, the commands of the edits, and the differences that remain
unfoldable pub plan_document : Option Data → List Edit → List (List ℕ) → ℕ → ℕ → json.Json
plan_document history edits rest ids class_ids =
    json.object (told (codes "aside") (aside_document ids class_ids) (behind_history history (json.member (codes "plan") (json.array (all_of (map command edits)))
    (told (codes "stays") (stays_document rest) json.no_members))))

-- the bytes of the document: the value without spaces, and a line feed
unfoldable pub plan_document_text : json.Json → List ℕ
plan_document_text j = print (json_tokens j) ++ codes "\n"
