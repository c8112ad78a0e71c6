-- WHICH TEXTS ARE LAWFUL: each word has the form that the grammar requires at its place, and the map that the lines have built is lawful after each line. These definitions don't mention faults. What the lines have built so far is called a *draft*.
use Rattle.std.specs.Prelude.{◌≡◌, ◌⊎◌, ℕ, ◌<◌, Bool, true, false, nat_eq, List, [], ◌∷◌, Some, Ok, codes, drop, slice_index}
use Rattle.std.specs.List.{starts_with}
use Rattle.crush_units.specs.declared.alg.Alg.{Alg}
use Rattle.crush_units.specs.Alg.{alg_text}
use Rattle.crush_units.specs.Weight.{are_digits, weight_of_text}
use Rattle.crush_model.specs.Table.{Row, is_placed}
use Rattle.crush_edits.specs.Setting.{SettingData}
use Rattle.crush_builder.specs.Built.{Draft, add_rule}
use Rattle.crush_builder.specs.Building.{IsPending, item_named}
use Rattle.crush_builder.specs.Rules.{complete_bucket_named}
use Rattle.crush_units.specs.Words.{Word, ended, words}
use Rattle.crush_units.specs.Numbers.{is_number, is_signed}
use Rattle.crush_text.specs.Role.{Role, value, kind_of_word, item_of, bucket_of_word, units, key, any_word, number, opening, tunable_name, type_number, type_name, device_id, new_name, bucket_id, id_or_alg, id_class, algorithm, item_or_end, item, lone_item, weight, rule_name, rule_id_key, rule_id, step_or_end, step_word, taken_bucket, step_order, step_count, step_type}
use Rattle.crush_text.specs.Form.{Mode, first, second, begun, numbered, filling, ruled, Form, done, word, optional, ahead}
use Rattle.crush_text.specs.Grammar.{next}
use Rattle.crush_text.specs.Flow.{State, between, amid, arrive}
use Rattle.crush_text.specs.Document.{IsMap, IsWhole, start}

-- a draft is lawful: its table is lawful, its setting fits the table, and an incomplete bucket is consistent with both (`IsPending`)
pub record IsLawfulDraft (d : Draft) : Type 0 where
  pub map : IsMap d
  pub pending : IsPending d.setting d.table d.pending

-- the word w begins a statement: it is `tunable`, `device` or `type`, and no bucket or rule was read before (`late` is false); or it is `rule`; or it is the name of a type other than type 0, which begins a bucket
abbrev pub BeginsStatement : Draft → Bool → List ℕ → Type 0
BeginsStatement d late w = ((late ≡ false) × ((w ≡ codes "tunable") ⊎ ((w ≡ codes "device") ⊎ (w ≡ codes "type")))) ⊎ ((w ≡ codes "rule") ⊎ (0 < kind_of_word d w))

-- the word w begins a step of a rule: it is `take`, `choose`, `chooseleaf` or `emit`, or it starts with `set_`
abbrev pub BeginsStep : List ℕ → Type 0
BeginsStep w = (w ≡ codes "take") ⊎ ((w ≡ codes "choose") ⊎ ((w ≡ codes "chooseleaf") ⊎ ((w ≡ codes "emit") ⊎ (starts_with nat_eq w (codes "set_") ≡ true))))

-- the word w is the name of a device, or of a bucket whose closing brace was read; and no bucket holds this item, so that a bucket can list it
abbrev pub IsFree : Draft → List ℕ → Type 0
IsFree d w = (item_named d w ≡ Some (item_of d w)) × (is_placed d.table (item_of d w) ≡ false)

-- the word w has the form that the role r requires. (The role of a word is what the word is for.) For example, w is a given word of the grammar, a number, digits, `-` and digits, the name of an item that can be listed, the name of a bucket whose closing brace was read, or a weight. A word of the role `number`, `step_count` or `weight` is also in its range. Other limits, the forms of names, and whether a name or an id is already used are not checked here: they are conditions on the map that the line builds.
abbrev pub IsFor : Draft → Role → List ℕ → Type 0
IsFor d (key k) w = w ≡ k
IsFor d (any_word e) w = Unit {0}
IsFor d (number most) w = is_number most w ≡ true
IsFor d (opening late or) w = BeginsStatement d late w
IsFor d tunable_name w = Unit {0}
IsFor d type_number w = are_digits 10 w ≡ true
IsFor d (type_name n) w = Unit {0}
IsFor d device_id w = are_digits 10 w ≡ true
IsFor d new_name w = Unit {0}
IsFor d bucket_id w = (slice_index w 0 ≡ 45) × (are_digits 10 (drop 1 w) ≡ true)
IsFor d id_or_alg w = (w ≡ codes "id") ⊎ (w ≡ codes "alg")
IsFor d id_class w = Unit {0}
IsFor d algorithm w = (a : Alg) × (w ≡ alg_text a)
IsFor d (item_or_end any or) w = (w ≡ codes "item") ⊎ (w ≡ codes "}")
IsFor d item w = IsFree d w
IsFor d lone_item w = IsFree d w
IsFor d (weight i) w = weight_of_text w ≡ Ok (units w)
IsFor d rule_name w = Unit {0}
IsFor d rule_id_key w = (w ≡ codes "id") ⊎ (w ≡ codes "ruleset")
IsFor d rule_id w = are_digits 10 w ≡ true
IsFor d (step_or_end k or) w = (w ≡ codes "step") ⊎ (w ≡ codes "}")
IsFor d step_word w = BeginsStep w
IsFor d taken_bucket w = complete_bucket_named d w ≡ Some (bucket_of_word d w)
IsFor d step_order w = (w ≡ codes "firstn") ⊎ (w ≡ codes "indep")
IsFor d step_count w = is_signed w ≡ true
IsFor d step_type w = Unit {0}

-- the word w, followed by the words `rest`, leads from a form of the rest of a line to the state m: w has the form that its role requires, and m is the state after w. The form that is required after w can depend on the value of w
abbrev pub LeadsFrom : Draft → Form → List ℕ → List Word → State → Type 0
LeadsFrom d (word r more) w rest m = IsFor d r w × (m ≡ arrive d rest (more (value d r w)))
LeadsFrom d (done p) w rest m = ⊥
LeadsFrom d (optional k f g) w rest m = ⊥
LeadsFrom d (ahead k f g) w rest m = ⊥

-- the word w, followed by the words `rest`, leads from a state to the state m. Between two lines, w is the first word of the next line
abbrev pub WordLeads : State → List ℕ → List Word → State → Type 0
WordLeads (between p) w rest m = LeadsFrom p.draft (next p) w rest m
WordLeads (amid d f) w rest m = LeadsFrom d f w rest m

-- between two lines of a rule, the map that also has this rule, with the steps that were read so far, is lawful. In any other mode, nothing is required
abbrev pub IsLawfulMode : Draft → Mode → Type 0
IsLawfulMode d first = Unit {0}
IsLawfulMode d second = Unit {0}
IsLawfulMode d begun = Unit {0}
IsLawfulMode d numbered = Unit {0}
IsLawfulMode d (filling any) = Unit {0}
IsLawfulMode d (ruled r) = IsMap (add_rule d r)

-- between two lines, what was built so far is lawful; within a line, nothing is required
abbrev pub IsLawfulState : State → Type 0
IsLawfulState (between p) = IsLawfulDraft p.draft × IsLawfulMode p.draft p.mode
IsLawfulState (amid d f) = Unit {0}

-- WORDS BUILD the draft d from the state s: each word leads to the next state, and each of these states is lawful (`IsLawfulState`). The text may end after the last word, and its lines have built d
abbrev pub Build : State → List Word → Draft → Type 0
Build s [] d = IsWhole s d
Build s (w ∷ ws) d = (u : State) × WordLeads s w.text ws u × IsLawfulState u × Build u ws d

-- A LAWFUL TEXT: the bytes can be split into words up to their end, and the words build, from the empty draft, a draft with this setting, this table and this number of adjusted weights
pub record IsLawfulText (bytes : List ℕ) (s : SettingData) (t : List Row) (adjusted : ℕ) : Type 0 where
  pub draft : Draft
  pub built : Build start (words 0 bytes).words draft
  pub end : (place : ℕ) × ((words 0 bytes).stop ≡ ended place)
  pub setting : draft.setting ≡ s
  pub table : draft.table ≡ t
  pub count : draft.adjusted ≡ adjusted
