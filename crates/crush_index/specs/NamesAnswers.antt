-- Which id the table of names has for a name, and when its answers are right for a table of rows.
use Rattle.std.specs.Prelude.{◌≡◌, ℕ, List, Option, if◌then◌else◌, bytes_eq}
use Rattle.std.specs.Option.{option_or}
use Rattle.indexmap.specs.IndexMap.{get}
use Rattle.crush_units.specs.declared.id.ItemId.{ItemId}
use Rattle.crush_model.specs.Table.{Row, id_named}
use Rattle.crush_index.specs.Chains.{chain_answer}
use Rattle.crush_index.specs.Keys.{key_of, same_key}
use Rattle.crush_index.specs.declared.names.Names.{Names}

-- the id that a name has in the hash map, or, if the hash map doesn't have the name, its id in the chain
abbrev pub id_answer : Names → List ℕ → Option ItemId
id_answer names n = option_or (get same_key names.ids (key_of names.hashing n)) (chain_answer (same_key (key_of names.hashing n)) names.overflow)

-- NAMES OF A TABLE: each name has the id of the item that has this name in the table, and no id if there is no such item
abbrev pub AreNamesOf : List Row → Names → Type 0
AreNamesOf t names = (n : List ℕ) → id_answer names n ≡ id_named t n

-- each name has the same id as before
abbrev pub AnswersSame : Names → Names → Type 0
AnswersSame old new = (n : List ℕ) → id_answer new n ≡ id_answer old n

-- one name has the id that the option o gives, or no id if o is None; each other name has the same id as before
abbrev pub AnswersOne : Names → Names → List ℕ → Option ItemId → Type 0
AnswersOne old new name o =
    (n : List ℕ) → id_answer new n ≡ (if bytes_eq name n then o else id_answer old n)

-- the name `name` has the id that the option o gives, and the name `other` has the id that the option p gives; None means no id. Every other name has the same id as before. If both names are equal, the name has the id that o gives
abbrev pub AnswersTwo : Names → Names → List ℕ → Option ItemId → List ℕ → Option ItemId → Type 0
AnswersTwo old new name o other p =
    (n : List ℕ) → id_answer new n ≡ (if bytes_eq name n then o else (if bytes_eq other n then p else id_answer old n))
