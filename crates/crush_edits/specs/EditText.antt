-- The text of an edit, which is the command that makes the edit in a script.
use Rattle.std.specs.Prelude.{ℕ, List, ◌++◌, codes, flat_map}
use Rattle.crush_units.specs.Weight.{weight_text}
use Rattle.crush_edits.specs.declared.location.Pair.{Pair}
use Rattle.crush_edits.specs.declared.edit.Edit.{Edit}
use Rattle.crush_edits.specs.declared.edit.Edit.TheVariants.{Place, Move, Swap, Reweight, ReweightSubtree, Remove, AddBucket, Rename, SetClass, RemoveClass}
use Rattle.crush_edits.specs.declared.keyword.Keyword.TheVariants as key
use Rattle.crush_edits.specs.Keyword.{keyword_word}

-- a pair of a location: `TYPE=NAME`
abbrev pub pair_word : Pair → List ℕ
pair_word p = p.kind ++ codes "=" ++ p.name

-- a pair of a location, after a space: ` TYPE=NAME`
abbrev pub pair_text : Pair → List ℕ
pair_text p = codes " " ++ p.kind ++ codes "=" ++ p.name

-- the pairs of a location, in the given order
abbrev pub pairs_text : List Pair → List ℕ
pairs_text at = flat_map pair_text at

-- a command's first word, a space and a name
abbrev pub one_name : List ℕ → List ℕ → List ℕ
one_name first name = first ++ codes " " ++ name

-- a command's first word, and then two names, each after a space
abbrev pub two_names : List ℕ → List ℕ → List ℕ → List ℕ
two_names first a b = first ++ codes " " ++ a ++ codes " " ++ b

-- a command's first word, and then a name and a weight with five digits after the point, each after a space
abbrev pub name_and_weight : List ℕ → List ℕ → ℕ → List ℕ
name_and_weight first name weight = first ++ codes " " ++ name ++ codes " " ++ weight_text weight

-- AN EDIT as the command that makes it in a script
abbrev pub edit_text : Edit → List ℕ
edit_text (Place how device name weight at) = name_and_weight (keyword_word (key.Place how)) name weight ++ pairs_text at
edit_text (Move name at) = one_name (keyword_word key.Move) name ++ pairs_text at
edit_text (Swap a b) = two_names (keyword_word key.SwapBucket) a b
edit_text (Reweight name weight) = name_and_weight (keyword_word key.Reweight) name weight
edit_text (ReweightSubtree name weight) = name_and_weight (keyword_word key.ReweightSubtree) name weight
edit_text (Remove name) = one_name (keyword_word key.Rm) name
edit_text (AddBucket name kind) = two_names (keyword_word key.AddBucket) name kind
edit_text (Rename from to) = two_names (keyword_word key.RenameBucket) from to
edit_text (SetClass name class) = two_names (keyword_word key.SetDeviceClass) class name
edit_text (RemoveClass name) = one_name (keyword_word key.RmDeviceClass) name
