-- The tokens of JSON values, in the order in which a writer writes them.
use Rattle.std.specs.Prelude.{ℕ, ℤ, List, [], ◌∷◌, ◌++◌, Option, Some, None, codes, flat_map}
use Rattle.crush_units.specs.declared.id.ItemId.{ItemId}
use Rattle.crush_units.specs.declared.id.ItemId.TheVariants.{Device, Bucket}
use Rattle.crush_units.specs.ExactWeight.{exact_text}
use Rattle.crush_units.specs.Id.{item_number}
use Rattle.crush_model.specs.Table.{Row, kids}
use Rattle.crush_nodes.specs.Views.{ViewData}
use Rattle.crush_edits.specs.Setting.{SettingData}
use Rattle.json.specs.Token.{Token, key}
use Rattle.json.specs.Tree.{json_tokens}
use Rattle.serde_json.specs.Data.{Data, string}
use Rattle.serde_json.specs.Written.{outline}
use Rattle.crush_json.specs.TreeDocument.{id_values, type_word}
use Rattle.crush_json.specs.Values.{natural, whole, list}

-- the tokens of a value
abbrev pub tokens_of : Data → List Token
tokens_of d = json_tokens (outline d)

-- the tokens of values, one after the other
abbrev pub tokens_of_all : List Data → List Token
tokens_of_all ds = flat_map tokens_of ds

-- the tokens of a member: its name and its value
abbrev pub member_tokens : List ℕ → Data → List Token
member_tokens name d = key name ∷ tokens_of d

-- the tokens of a member with a text; no tokens if there is no text
abbrev pub text_tokens_if : List ℕ → Option (List ℕ) → List Token
text_tokens_if name None = []
text_tokens_if name (Some text) = member_tokens name (string text)

-- the tokens of a member with a whole number; no tokens if there is no number
abbrev pub whole_tokens_if : List ℕ → Option ℤ → List Token
whole_tokens_if name None = []
whole_tokens_if name (Some z) = member_tokens name (whole z)

-- the tokens of the member with the ids of a bucket's items; no tokens for a device
abbrev pub children_tokens : List Row → ItemId → List Token
children_tokens t (Device d) = []
children_tokens t (Bucket b) = member_tokens (codes "children") (list (id_values (kids t b)))

-- the tokens of the members that describe an item
abbrev pub item_tokens : SettingData → ViewData → List Token
item_tokens s v =
    member_tokens (codes "id") (whole (item_number v.id)) ++ member_tokens (codes "name") (string v.name) ++ member_tokens (codes "type") (string (type_word s v.id v.kind))
    ++ member_tokens (codes "type_id") (natural v.kind) ++ member_tokens (codes "weight") (natural v.weight)

-- the tokens of the member `weight`, whose value is a decimal number, written with the exact text of the weight
abbrev pub weight_tokens : ℕ → List Token
weight_tokens w = key (codes "weight") ∷ Token.number (exact_text w) ∷ []

-- the tokens of the last members of the object for an entry of a history
abbrev pub last_tokens : ℕ → List ℕ → Option (List ℕ) → List ℕ → List Token
last_tokens number operator refusal reply =
    member_tokens (codes "number") (natural number) ++ member_tokens (codes "operator") (string operator) ++ text_tokens_if (codes "refusal") refusal
    ++ member_tokens (codes "reply") (string reply)

-- the tokens of the member with the history; no tokens if there is no history
abbrev pub history_tokens_if : Option Data → List Token
history_tokens_if None = []
history_tokens_if (Some h) = member_tokens (codes "history") h
