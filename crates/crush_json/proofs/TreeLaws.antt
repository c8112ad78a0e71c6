-- The tokens of a tree's nodes.
use Rattle.std.proofs.Common.{◌≡◌, ℕ, Bool, true, false, List, [], ◌∷◌, ◌++◌, Option, Some, None, refl, sym, ap, ◌∙◌, append-nil}
use Rattle.std.specs.Prelude.{codes, if◌then◌else◌}
use Rattle.json.specs.Token.{Token, begin_object, end_object}
use Rattle.json.specs.Tree.{members_tokens}
use Rattle.crush_units.specs.declared.id.ItemId.{ItemId}
use Rattle.crush_units.specs.declared.id.ItemId.TheVariants.{Device, Bucket}
use Rattle.crush_model.specs.Table.{Row}
use Rattle.crush_nodes.specs.Views.{ViewData}
use Rattle.crush_edits.specs.Setting.{SettingData}
use Rattle.serde_json.specs.Data.{Data, Members, member}
use Rattle.serde_json.specs.Written.{members_outline}
use Rattle.crush_json.specs.Tokens.{children_tokens, item_tokens, member_tokens, text_tokens_if, tokens_of, tokens_of_all}
use Rattle.crush_json.specs.TreeDocument.{item_members, node_document, with_children}
use Rattle.crush_json.specs.Values.{natural, text_if}

-- the tokens of members, and of the closing brace
abbrev pub rest_of : Members → List Token
rest_of ms = members_tokens (members_outline ms)

-- the tokens of a text that may be missing
pub text_before : (name : List ℕ) (o : Option (List ℕ)) (ms : Members) → rest_of (text_if name o ms) ≡ text_tokens_if name o ++ rest_of ms
text_before name None ms = refl
text_before name (Some text) ms = refl

-- the tokens of the ids of a bucket's items
children_before : (t : List Row) (i : ItemId) (ms : Members) → rest_of (with_children t i ms) ≡ children_tokens t i ++ rest_of ms
children_before t (Device d) ms = refl
children_before t (Bucket b) ms = refl

-- the tokens of a node
pub node_told : (s : SettingData) (t : List Row) (depth : ℕ) (v : ViewData)
    → begin_object ∷ (children_tokens t v.id ++ (member_tokens (codes "depth") (natural depth) ++ (text_tokens_if (codes "device_class") v.class ++ (item_tokens s v ++ end_object ∷ []))))
    ≡ tokens_of (node_document s t depth v)
unfolding node_document
node_told s t depth v =
    let below : Members = text_if (codes "device_class") v.class (item_members s v) in
    ap (λ (l : List Token). begin_object ∷ l)
    (ap (λ (l : List Token). children_tokens t v.id ++ (member_tokens (codes "depth") (natural depth) ++ l)) (sym (text_before (codes "device_class") v.class (item_members s v)))
    ∙ sym (children_before t v.id (member (codes "depth") (natural depth) below)))

-- the tokens of a value that is written only if a test is true
pub told_if : (b : Bool) (d : Data) → b ≡ true → tokens_of d ≡ tokens_of_all (if b then d ∷ [] else [])
told_if true d holds = sym (append-nil (tokens_of d))
told_if false d holds = absurd cc

pub not_told : (b : Bool) (d : Data) (old : List Token) → b ≡ false → old ≡ old ++ tokens_of_all (if b then d ∷ [] else [])
not_told true d old fails = absurd cc
not_told false d old fails = sym (append-nil old)
