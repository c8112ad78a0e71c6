-- The documents that are written for programs: one value on one line, with the history if it is requested.
use Rattle.std.specs.Prelude.{ℕ, List, ◌++◌, Option, Some, None, codes}
use Rattle.serde_json.specs.Data.{Data, object, Members, member, no_members}
use Rattle.serde_json.specs.Written.{compact_text}

-- if there is a history, the members `ms` with the member `history` before them; otherwise only the members `ms`
abbrev pub with_history : Option Data → Members → Members
with_history None ms = ms
with_history (Some h) ms = member (codes "history") h ms

-- an object with a member that has this name and the value `told`. If there is a history, the object also has the member `history`, before this member
abbrev pub document_of : List ℕ → Option Data → Data → Data
document_of name history told = object (with_history history (member name told no_members))

-- DOCUMENT: `{"history":H,"map":M}`, or without a history `{"map":M}`
unfoldable pub document : Option Data → Data → Data
document history map = document_of (codes "map") history map

-- `{"history":H,"tree":T}`, or without a history `{"tree":T}`
unfoldable pub document_of_tree : Option Data → Data → Data
document_of_tree history tree = document_of (codes "tree") history tree

-- the bytes of a document: the value without spaces, and a line feed
unfoldable pub document_text : Data → List ℕ
document_text d = compact_text d ++ codes "\n"
