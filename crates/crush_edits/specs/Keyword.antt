-- The commands of a script that make edits: the first word of each command, and the form of its line.
use Rattle.std.specs.Prelude.{ℕ, List, ◌||◌, Option, Some, None, codes, bytes_eq, if◌then◌else◌}
use Rattle.crush_edits.specs.declared.edit.Edit.{Edit}
use Rattle.crush_edits.specs.declared.edit.Edit.TheVariants.{Place, Move, Swap, Reweight, ReweightSubtree, Remove, AddBucket, Rename, SetClass, RemoveClass}
use Rattle.crush_edits.specs.declared.edit.Placing.{Placing}
use Rattle.crush_edits.specs.declared.edit.Placing.TheVariants.{Insert, CreateOrMove, Update}
use Rattle.crush_edits.specs.declared.keyword.Keyword.{Keyword}
use Rattle.crush_edits.specs.declared.keyword.Keyword.TheVariants as key

-- the kind of the commands that begin with this word, or none if no command that makes an edit begins with it
unfoldable pub keyword_of : List ℕ → Option Keyword
keyword_of first =
    if bytes_eq first (codes "add") then Some (key.Place Insert)
    else if bytes_eq first (codes "set") then Some (key.Place Update)
    else if bytes_eq first (codes "create-or-move") then Some (key.Place CreateOrMove)
    else if bytes_eq first (codes "move") then Some key.Move
    else if bytes_eq first (codes "swap-bucket") then Some key.SwapBucket
    else if bytes_eq first (codes "reweight") then Some key.Reweight
    else if bytes_eq first (codes "reweight-subtree") then Some key.ReweightSubtree
    else if bytes_eq first (codes "rm") || bytes_eq first (codes "remove") then Some key.Rm
    else if bytes_eq first (codes "add-bucket") then Some key.AddBucket
    else if bytes_eq first (codes "rename-bucket") then Some key.RenameBucket
    else if bytes_eq first (codes "set-device-class") then Some key.SetDeviceClass
    else if bytes_eq first (codes "rm-device-class") then Some key.RmDeviceClass
    else None

-- the first word of the command that places a device in this way
abbrev pub placing_word : Placing → List ℕ
placing_word Insert = codes "add"
placing_word CreateOrMove = codes "create-or-move"
placing_word Update = codes "set"

-- the first word of the commands of a kind. A command of the kind Rm may begin with `rm` or `remove`; this definition gives `rm`
abbrev pub keyword_word : Keyword → List ℕ
keyword_word (key.Place how) = placing_word how
keyword_word key.Move = codes "move"
keyword_word key.SwapBucket = codes "swap-bucket"
keyword_word key.Reweight = codes "reweight"
keyword_word key.ReweightSubtree = codes "reweight-subtree"
keyword_word key.Rm = codes "rm"
keyword_word key.AddBucket = codes "add-bucket"
keyword_word key.RenameBucket = codes "rename-bucket"
keyword_word key.SetDeviceClass = codes "set-device-class"
keyword_word key.RmDeviceClass = codes "rm-device-class"

-- the form of the line of the command that places a device in this way
abbrev pub placing_form : Placing → List ℕ
placing_form Insert = codes "add osd.N WEIGHT TYPE=NAME .."
placing_form CreateOrMove = codes "create-or-move osd.N WEIGHT TYPE=NAME .."
placing_form Update = codes "set osd.N WEIGHT TYPE=NAME .."

-- the form of the line of a command of this kind
abbrev pub keyword_form : Keyword → List ℕ
keyword_form (key.Place how) = placing_form how
keyword_form key.Move = codes "move NAME TYPE=NAME .."
keyword_form key.SwapBucket = codes "swap-bucket NAME NAME"
keyword_form key.Reweight = codes "reweight NAME WEIGHT"
keyword_form key.ReweightSubtree = codes "reweight-subtree NAME WEIGHT"
keyword_form key.Rm = codes "rm NAME"
keyword_form key.AddBucket = codes "add-bucket NAME TYPE"
keyword_form key.RenameBucket = codes "rename-bucket FROM TO"
keyword_form key.SetDeviceClass = codes "set-device-class CLASS NAME"
keyword_form key.RmDeviceClass = codes "rm-device-class NAME"

-- the kind of the command that makes an edit in a script
abbrev pub edit_keyword : Edit → Keyword
edit_keyword (Place how device name weight at) = key.Place how
edit_keyword (Move name at) = key.Move
edit_keyword (Swap a b) = key.SwapBucket
edit_keyword (Reweight name weight) = key.Reweight
edit_keyword (ReweightSubtree name weight) = key.ReweightSubtree
edit_keyword (Remove name) = key.Rm
edit_keyword (AddBucket name kind) = key.AddBucket
edit_keyword (Rename from to) = key.RenameBucket
edit_keyword (SetClass name class) = key.SetDeviceClass
edit_keyword (RemoveClass name) = key.RmDeviceClass
