-- WHICH WORDS SPELL A DOCUMENT. There is one definition for each production of the grammar, and the comment above the definition has this production. In a production, [x] is an optional x, {x} is any number of x, and | separates alternatives. Each definition says that `words` are the words of its production, followed by the words `rest`. A name, a class or a WORD can be any word here. Lawful documents require that each of these words has the form of a name, so that none of them is a brace. They also require that no type has the name of a word that begins a statement.
use Rattle.std.specs.Prelude.{◌≡◌, ◌⊎◌, ℕ, ℤ, Bool, true, false, nat_eq, List, [], ◌∷◌, Option, Some, None, Ok, codes, drop}
use Rattle.std.specs.List.{starts_with}
use Rattle.std.specs.Str.Parse.{digits_value}
use Rattle.crush_units.specs.declared.limits.TheConstants.{LARGEST_RULE_NUMBER, LARGEST_TUNABLE, LAST_DEVICE_ID, LAST_TYPE}
use Rattle.crush_units.specs.Alg.{alg_text}
use Rattle.crush_units.specs.Weight.{weight_of_text}
use Rattle.crush_model.specs.Items.{ShadowData}
use Rattle.crush_units.specs.Numbers.{is_number, is_negative, is_signed, signed_value}
use Rattle.crush_laws.specs.Document.{ItemLine, BucketLines, StepLine, takes, chooses, sets, emits, RuleLines, First, tunable, kind, device, Second, bucket, rule, Document}

-- N: the word w is written with digits and is the number n, which is at most `most`
abbrev pub IsNumber : ℕ → ℕ → List ℕ → Type 0
IsNumber most n w = (is_number most w ≡ true) × (digits_value 10 w ≡ n)

-- NEG: the word w is the negative number -n, which is in the range of bucket ids
abbrev pub IsBucketNumber : ℕ → List ℕ → Type 0
IsBucketNumber n w = (is_negative w ≡ true) × (digits_value 10 (drop 1 w) ≡ n)

-- INT: the word w is the integer n, which is in the range of a step's count
abbrev pub IsSigned : ℤ → List ℕ → Type 0
IsSigned n w = (is_signed w ≡ true) × (signed_value w ≡ n)

-- {x}: any number of things, one after the other. S says how each of them is spelled
abbrev pub SpellsEach : {A : Type 0} → (A → List (List ℕ) → List (List ℕ) → Type 0) → List A → List (List ℕ) → List (List ℕ) → Type 0
SpellsEach S [] words rest = words ≡ rest
SpellsEach S (x ∷ xs) words rest = (more : List (List ℕ)) × S x words more × SpellsEach S xs more rest

-- [`class` CLASS]: an optional part
abbrev pub SpellsClass : Option (List ℕ) → List (List ℕ) → List (List ℕ) → Type 0
SpellsClass None words rest = words ≡ rest
SpellsClass (Some class) words rest = words ≡ codes "class" ∷ class ∷ rest

-- [KEY N]: an optional part
abbrev pub SpellsSize : List ℕ → Option ℕ → List (List ℕ) → List (List ℕ) → Type 0
SpellsSize key None words rest = words ≡ rest
SpellsSize key (Some n) words rest = (w : List ℕ) × IsNumber LARGEST_RULE_NUMBER n w × (words ≡ key ∷ w ∷ rest)

-- `tunable` NAME N | `type` N NAME | `device` N NAME [`class` CLASS]
abbrev pub SpellsFirst : First → List (List ℕ) → List (List ℕ) → Type 0
SpellsFirst (tunable name n) words rest = (w : List ℕ) × IsNumber LARGEST_TUNABLE n w × (words ≡ codes "tunable" ∷ name ∷ w ∷ rest)
SpellsFirst (kind n name) words rest = (w : List ℕ) × IsNumber LAST_TYPE n w × (words ≡ codes "type" ∷ w ∷ name ∷ rest)
SpellsFirst (device n name class) words rest = (w : List ℕ) × (more : List (List ℕ)) × IsNumber LAST_DEVICE_ID n w × (words ≡ codes "device" ∷ w ∷ name ∷ more) × SpellsClass class more rest

-- `id` NEG `class` CLASS
abbrev pub SpellsClassId : ShadowData → List (List ℕ) → List (List ℕ) → Type 0
SpellsClassId c words rest = (w : List ℕ) × IsBucketNumber c.id w × (words ≡ codes "id" ∷ w ∷ codes "class" ∷ c.class ∷ rest)

-- [`hash` `0`]: an optional part; the 0 may have leading zeros
abbrev pub SpellsHash : List (List ℕ) → List (List ℕ) → Type 0
SpellsHash words rest = (words ≡ rest) ⊎ ((w : List ℕ) × IsNumber 0 0 w × (words ≡ codes "hash" ∷ w ∷ rest))

-- `item` NAME [`weight` WEIGHT]: an item with this name, and with this weight in units, if the line gives a weight
abbrev pub SpellsWeighed : List ℕ → Option ℕ → List (List ℕ) → List (List ℕ) → Type 0
SpellsWeighed name None words rest = words ≡ codes "item" ∷ name ∷ rest
SpellsWeighed name (Some units) words rest = (w : List ℕ) × (weight_of_text w ≡ Ok units) × (words ≡ codes "item" ∷ name ∷ codes "weight" ∷ w ∷ rest)

-- the same, with the name and the weight of an `ItemLine` of the document
abbrev pub SpellsItem : ItemLine → List (List ℕ) → List (List ℕ) → Type 0
SpellsItem i words rest = SpellsWeighed i.name i.weight words rest

-- TYPE NAME `{` `id` NEG {`id` NEG `class` CLASS} `alg` ALG [`hash` `0`] {item} `}`
pub record SpellsBucket (b : BucketLines) (words rest : List (List ℕ)) : Type 0 where
  pub id : List ℕ
  pub behind_id : List (List ℕ)
  pub behind_alg : List (List ℕ)
  pub behind_hash : List (List ℕ)
  pub head : words ≡ b.kind ∷ b.name ∷ codes "{" ∷ codes "id" ∷ id ∷ behind_id
  pub number : IsBucketNumber b.id id
  pub class_ids : SpellsEach SpellsClassId b.class_ids behind_id (codes "alg" ∷ alg_text b.alg ∷ behind_alg)
  pub hash : SpellsHash behind_alg behind_hash
  pub items : SpellsEach SpellsItem b.items behind_hash (codes "}" ∷ rest)

-- the word for what a step chooses: items of a type (`choose`), or devices below such items (`chooseleaf`)
abbrev pub choice_word : Bool → List ℕ
choice_word false = codes "choose"
choice_word true = codes "chooseleaf"

-- the word that says how the step chooses them: `firstn` or `indep`
abbrev pub order_word : Bool → List ℕ
order_word true = codes "firstn"
order_word false = codes "indep"

-- `step` and then `take` NAME [`class` CLASS] | (`choose` | `chooseleaf`) (`firstn` | `indep`) INT `type` TYPE | SET N | `emit`
abbrev pub SpellsStep : StepLine → List (List ℕ) → List (List ℕ) → Type 0
SpellsStep (takes name class) words rest = (more : List (List ℕ)) × (words ≡ codes "step" ∷ codes "take" ∷ name ∷ more) × SpellsClass class more rest
SpellsStep (chooses leaf firstn n type) words rest = (w : List ℕ) × IsSigned n w × (words ≡ codes "step" ∷ choice_word leaf ∷ order_word firstn ∷ w ∷ codes "type" ∷ type ∷ rest)
SpellsStep (sets name n) words rest = (w : List ℕ) × (starts_with nat_eq name (codes "set_") ≡ true) × IsNumber LARGEST_RULE_NUMBER n w × (words ≡ codes "step" ∷ name ∷ w ∷ rest)
SpellsStep emits words rest = words ≡ codes "step" ∷ codes "emit" ∷ rest

-- `rule` NAME `{` (`id` | `ruleset`) N `type` WORD [`min_size` N] [`max_size` N] {`step` step} `}`
pub record SpellsRule (r : RuleLines) (words rest : List (List ℕ)) : Type 0 where
  pub key : List ℕ
  pub id : List ℕ
  pub behind_type : List (List ℕ)
  pub behind_least : List (List ℕ)
  pub behind_most : List (List ℕ)
  pub head : words ≡ codes "rule" ∷ r.name ∷ codes "{" ∷ key ∷ id ∷ codes "type" ∷ r.kind ∷ behind_type
  pub id_key : (key ≡ codes "id") ⊎ (key ≡ codes "ruleset")
  pub number : IsNumber LARGEST_RULE_NUMBER r.id id
  pub min_size : SpellsSize (codes "min_size") r.min_size behind_type behind_least
  pub max_size : SpellsSize (codes "max_size") r.max_size behind_least behind_most
  pub steps : SpellsEach SpellsStep r.steps behind_most (codes "}" ∷ rest)

-- bucket | rule
abbrev pub SpellsSecond : Second → List (List ℕ) → List (List ℕ) → Type 0
SpellsSecond (bucket b) words rest = SpellsBucket b words rest
SpellsSecond (rule r) words rest = SpellsRule r words rest

-- WORDS SPELL A DOCUMENT: {first} {second}
abbrev pub Spells : List (List ℕ) → Document → Type 0
Spells words doc = (more : List (List ℕ)) × SpellsEach SpellsFirst doc.first words more × SpellsEach SpellsSecond doc.second more []
