-- Numbers with their names are the members of an object.
use Rattle.std.proofs.Common.{◌≡◌, ℕ, List, [], ◌∷◌, ◌++◌, String, Global, Ordering, Less, Equal, Greater, string_bytes, string_cmp, refl, ap, sym, ◌∙◌, append_assoc}
use Rattle.std.specs.Prelude.{flat_map}
use Rattle.std.specs.BTreeMap.{insert_entry}
use Rattle.std.specs.Ordering.{match_ordering}
use Rattle.json.specs.Token.{Token, end_object}
use Rattle.json.specs.Tree.{members_tokens}
use Rattle.serde_json.specs.Data.{put}
use Rattle.serde_json.specs.Written.{members_outline}
use Rattle.crush_json.specs.Seen.{number_members}
use Rattle.crush_json.specs.Tokens.{member_tokens}
use Rattle.crush_json.specs.Values.{natural}

abbrev Entry : Type 0
Entry = String Global × ℕ

numbers-match_ordering : (o : Ordering) (a b c : List Entry) → number_members (match_ordering o a b c) ≡ match_ordering o (number_members a) (number_members b) (number_members c)
numbers-match_ordering Less a b c = refl
numbers-match_ordering Equal a b c = refl
numbers-match_ordering Greater a b c = refl

-- one more number, which is inserted at the position of its name
pub numbers-insert_entry : (es : List Entry) (k : String Global) (v : ℕ) → number_members (insert_entry string_cmp es k v) ≡ put (string_bytes k) (natural v) (number_members es)
numbers-insert_entry [] k v = refl
numbers-insert_entry (e ∷ es) k v = numbers-match_ordering (string_cmp k e.0) _ _ _ ∙ rw (numbers-insert_entry es k v)

-- the tokens of the object are those of its members, one member after the other
pub numbers_told : (es : List Entry) → members_tokens (members_outline (number_members es)) ≡ flat_map (λ e. member_tokens (string_bytes e.0) (natural e.1)) es ++ end_object ∷ []
numbers_told [] = refl
numbers_told (e ∷ es) =
    ap (λ (l : List Token). member_tokens (string_bytes e.0) (natural e.1) ++ l) (numbers_told es)
    ∙ sym (append_assoc (member_tokens (string_bytes e.0) (natural e.1)) (flat_map (λ e. member_tokens (string_bytes e.0) (natural e.1)) es) (end_object ∷ []))
