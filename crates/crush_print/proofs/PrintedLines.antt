-- The words of each printed line, and of a whole printed map.
use Rattle.std.proofs.Common.{◌≡◌, ℕ, suc, ◌<◌, ◌≤◌, ◌^◌, Bool, true, false, List, [], ◌∷◌, ◌++◌, Option, Some, None, refl, sym, subst, append_assoc, arith}
use Rattle.std.proofs.lemmas.List.Elements.{All-weaker}
use Rattle.std.specs.Prelude.{All, IfSome, flat_map, decimal, ℤ, pos, negsuc, codes, if◌then◌else◌}
use Rattle.std.specs.Option.{option_map_or}
use Rattle.std.specs.Fmt.{signed_decimal}
use Rattle.crush_units.specs.declared.limits.TheConstants.{LARGEST_RULE_NUMBER}
use Rattle.crush_units.specs.Name.{IsName}
use Rattle.crush_units.specs.Alg.{alg_text}
use Rattle.crush_units.specs.declared.alg.Alg.{Alg}
use Rattle.crush_units.specs.declared.id.ItemId.{ItemId}
use Rattle.crush_units.specs.declared.id.ItemId.TheVariants.{Device, Bucket}
use Rattle.crush_model.specs.Items.{ShadowData}
use Rattle.crush_model.specs.Lawful.{IsDeviceRow, IsBucketRow, IsShadowId}
use Rattle.crush_model.specs.Table.{Row, row_of, kids, item_weight}
use Rattle.crush_edits.specs.Setting.{TunableData, StepData, take, choose, set, emit, RuleData, SettingData}
use Rattle.crush_edits.specs.Fits.{IsTunable, IsRule, IsCount}
use Rattle.crush_print.specs.declared.weight_form.WeightForm.{WeightForm}
use Rattle.crush_print.specs.Lines.{weight_in, id_text, class_text, tunable_line, device_line, kind_line, item_line, class_id_line, bucket_head, bucket_choice, bucket_lines}
use Rattle.crush_print.specs.RuleLines.{bucket_name, take_line, choice_text, choose_line, set_line, step_line, rule_head, size_line, rule_lines}
use Rattle.crush_print.specs.MapText.{kind_text}
use Rattle.crush_print.proofs.PrintedWords.{Spells, spells_nothing, spells_both, spells_word, spells_blank, spells_brace, spells_comment, spells_all, fixed, number_name, negative_name, weight_name, alg_name, in_line}

-- THE WORDS of each line
abbrev pub class_words : Option (List ℕ) → List (List ℕ)
class_words None = []
class_words (Some c) = codes "class" ∷ c ∷ []

abbrev pub tunable_words : TunableData → List (List ℕ)
tunable_words k = codes "tunable" ∷ k.name ∷ decimal k.value ∷ []

abbrev pub device_words : Row → List (List ℕ)
device_words r = codes "device" ∷ id_text r.id ∷ r.name ∷ class_words r.class

abbrev pub kind_words : ℕ → List ℕ → List (List ℕ)
kind_words n name = codes "type" ∷ decimal n ∷ name ∷ []

abbrev pub item_words : WeightForm → List ℕ → ℕ → List (List ℕ)
item_words form name weight = codes "item" ∷ name ∷ codes "weight" ∷ weight_in form weight ∷ []

abbrev pub class_id_words : ShadowData → List (List ℕ)
class_id_words c = codes "id" ∷ id_text (Bucket c.id) ∷ codes "class" ∷ c.class ∷ []

abbrev pub head_words : List ℕ → List ℕ → ItemId → List (List ℕ)
head_words kind name id = kind ∷ name ∷ codes "{" ∷ codes "id" ∷ id_text id ∷ []

abbrev pub choice_words : Row → List (List ℕ)
choice_words r = codes "alg" ∷ option_map_or alg_text r.alg [] ∷ codes "hash" ∷ codes "0" ∷ []

abbrev pub bucket_words : List ℕ → Row → List (List ℕ) → List (List ℕ)
bucket_words kind r items = head_words kind r.name r.id ++ flat_map class_id_words r.class_ids ++ choice_words r ++ items ++ codes "}" ∷ []

abbrev pub choice_word : Bool → List ℕ
choice_word leaf = if leaf then codes "chooseleaf" else codes "choose"

abbrev pub order_word : Bool → List ℕ
order_word firstn = if firstn then codes "firstn" else codes "indep"

abbrev pub step_words : List Row → StepData → List (List ℕ)
step_words t (take b class) = codes "step" ∷ codes "take" ∷ bucket_name t b ∷ class_words class
step_words t (choose leaf firstn count kind) = codes "step" ∷ choice_word leaf ∷ order_word firstn ∷ signed_decimal count ∷ codes "type" ∷ kind ∷ []
step_words t (set name value) = codes "step" ∷ name ∷ decimal value ∷ []
step_words t emit = codes "step" ∷ codes "emit" ∷ []

abbrev pub size_words : List ℕ → Option ℕ → List (List ℕ)
size_words key None = []
size_words key (Some n) = key ∷ decimal n ∷ []

abbrev pub rule_head_words : RuleData → List (List ℕ)
rule_head_words r = codes "rule" ∷ r.name ∷ codes "{" ∷ codes "id" ∷ decimal r.id ∷ codes "type" ∷ r.kind ∷ []

abbrev pub rule_words : List Row → RuleData → List (List ℕ)
rule_words t r = rule_head_words r ++ size_words (codes "min_size") r.min_size ++ size_words (codes "max_size") r.max_size ++ flat_map (step_words t) r.steps ++ codes "}" ∷ []

-- the words that are computed from the row of an item; none if the table doesn't have the item
abbrev pub words_of : List Row → ItemId → (Row → List (List ℕ)) → List (List ℕ)
words_of t i words = option_map_or words (row_of t i) []

abbrev pub kid_words : WeightForm → List Row → ItemId → List (List ℕ)
kid_words form t i = words_of t i (λ (r : Row). item_words form r.name (item_weight t i r.weight))

abbrev pub whole_words : WeightForm → SettingData → List Row → ℕ → List (List ℕ)
whole_words form s t b = words_of t (Bucket b) (λ (r : Row). bucket_words (kind_text s r.kind) r (flat_map (kid_words form t) (kids t b)))

-- THE WORDS LINE BY LINE: each printed line has its words
class_spells : (name : List ℕ) (class : Option (List ℕ)) → IsName name → IfSome class IsName → Spells (name ++ (class_text class ++ codes "\n")) (name ∷ class_words class)
class_spells name None n k = spells_word name 10 [] [] n refl spells_nothing
class_spells name (Some c) n k = spells_word name 32 _ _ n refl (spells_word (codes "class") 32 _ _ (fixed (codes "class") refl) refl (spells_word c 10 [] [] k refl spells_nothing))

tunable_text_spells : (name : List ℕ) (n : ℕ) → IsName name → n < 10 ^ 10 → Spells (codes "tunable " ++ name ++ codes " " ++ decimal n ++ codes "\n") (codes "tunable" ∷ name ∷ decimal n ∷ [])
tunable_text_spells name n h k = simp append_assoc (spells_word (codes "tunable") 32 _ _ (fixed (codes "tunable") refl) refl (spells_word name 32 _ _ h refl (spells_word (decimal n) 10 [] [] (number_name n k) refl spells_nothing)))

pub tunable_spells : (k : TunableData) → IsTunable k → Spells (tunable_line k) (tunable_words k)
unfolding tunable_line
tunable_spells k h = tunable_text_spells k.name k.value h.name (let v = h.value in omega (arith, v))

device_id_name : (i : ItemId) (d : ℕ) → i ≡ Device d → d < 10 ^ 10 → IsName (id_text i)
device_id_name i d e h = subst (λ (j : ItemId). IsName (id_text j)) (sym e) (number_name d h)

bucket_id_name : (i : ItemId) (b : ℕ) → i ≡ Bucket b → b < 10 ^ 10 → IsName (id_text i)
bucket_id_name i b e h = subst (λ (j : ItemId). IsName (id_text j)) (sym e) (negative_name b h)

device_text_spells : (id name : List ℕ) (class : Option (List ℕ)) → IsName id → IsName name → IfSome class IsName → Spells (codes "device " ++ id ++ codes " " ++ name ++ class_text class ++ codes "\n") (codes "device" ∷ id ∷ name ∷ class_words class)
device_text_spells id name class i n k = simp append_assoc (spells_word (codes "device") 32 _ _ (fixed (codes "device") refl) refl (spells_word id 32 _ _ i refl (class_spells name class n k)))

pub device_spells : (r : Row) (d : ℕ) → r.id ≡ Device d → IsName r.name → IsDeviceRow d r → Spells (device_line r) (device_words r)
unfolding device_line
device_spells r d e n h = device_text_spells (id_text r.id) r.name r.class (device_id_name r.id d e (let v = h.id in omega (arith, v))) n h.class

kind_text_spells : (n : ℕ) (name : List ℕ) → n < 10 ^ 10 → IsName name → Spells (codes "type " ++ decimal n ++ codes " " ++ name ++ codes "\n") (kind_words n name)
kind_text_spells n name h k = simp append_assoc (spells_word (codes "type") 32 _ _ (fixed (codes "type") refl) refl (spells_word (decimal n) 32 _ _ (number_name n h) refl (spells_word name 10 [] [] k refl spells_nothing)))

pub kind_spells : (n : ℕ) (name : List ℕ) → n < 10 ^ 10 → IsName name → Spells (kind_line n name) (kind_words n name)
unfolding kind_line
kind_spells n name h k = kind_text_spells n name h k

item_text_spells : (name weight : List ℕ) → IsName name → IsName weight → Spells (codes "\titem " ++ name ++ codes " weight " ++ weight ++ codes "\n") (codes "item" ∷ name ∷ codes "weight" ∷ weight ∷ [])
item_text_spells name weight n h = simp append_assoc (spells_blank 9 _ _ refl refl (spells_word (codes "item") 32 _ _ (fixed (codes "item") refl) refl (spells_word name 32 _ _ n refl (spells_word (codes "weight") 32 _ _ (fixed (codes "weight") refl) refl (spells_word weight 10 [] [] h refl spells_nothing)))))

pub item_spells : (form : WeightForm) (name : List ℕ) (w : ℕ) → IsName name → w < 2 ^ 32 → Spells (item_line form name w) (item_words form name w)
unfolding item_line
item_spells form name w n h = item_text_spells name (weight_in form w) n (weight_name form w h)

remark_spells : (w : List ℕ) → IsName w → Spells (w ++ codes "\t\t# do not change unnecessarily\n") (w ∷ [])
remark_spells w n = spells_word w 9 _ _ n refl (spells_blank 9 _ _ refl refl (spells_comment (codes " do not change unnecessarily") [] [] refl spells_nothing))

class_id_text_spells : (id class : List ℕ) → IsName id → IsName class → Spells (codes "\tid " ++ id ++ codes " class " ++ class ++ codes "\t\t# do not change unnecessarily\n") (codes "id" ∷ id ∷ codes "class" ∷ class ∷ [])
class_id_text_spells id class i c = simp append_assoc (spells_blank 9 _ _ refl refl (spells_word (codes "id") 32 _ _ (fixed (codes "id") refl) refl (spells_word id 32 _ _ i refl (spells_word (codes "class") 32 _ _ (fixed (codes "class") refl) refl (remark_spells class c)))))

pub class_id_spells : (c : ShadowData) → IsShadowId c → Spells (class_id_line c) (class_id_words c)
unfolding class_id_line
class_id_spells c h = class_id_text_spells (id_text (Bucket c.id)) c.class (negative_name c.id (let v = h.most in omega (arith, v))) h.class

head_text_spells : (kind name id : List ℕ) → IsName kind → IsName name → IsName id → Spells (kind ++ codes " " ++ name ++ codes " {\n\tid " ++ id ++ codes "\t\t# do not change unnecessarily\n") (kind ∷ name ∷ codes "{" ∷ codes "id" ∷ id ∷ [])
head_text_spells kind name id k n i = simp append_assoc
    (spells_word kind 32 _ _ k refl (spells_word name 32 _ _ n refl (spells_brace 123 _ _ refl refl refl (spells_blank 10 _ _ refl refl (spells_blank 9 _ _ refl refl
    (spells_word (codes "id") 32 _ _ (fixed (codes "id") refl) refl (remark_spells id i)))))))

head_spells : (kind name : List ℕ) (i : ItemId) (b : ℕ) → IsName kind → IsName name → i ≡ Bucket b → b < 10 ^ 10 → Spells (bucket_head kind name i) (head_words kind name i)
unfolding bucket_head
head_spells kind name i b k n e h = head_text_spells kind name (id_text i) k n (bucket_id_name i b e h)

hash_spells : (alg : List ℕ) → IsName alg → Spells (alg ++ codes "\n\thash 0\t# rjenkins1\n") (alg ∷ codes "hash" ∷ codes "0" ∷ [])
hash_spells alg h = spells_word alg 10 _ _ h refl (spells_blank 9 _ _ refl refl (spells_word (codes "hash") 32 _ _ (fixed (codes "hash") refl) refl (spells_word (codes "0") 9 _ _ (fixed (codes "0") refl) refl (spells_comment (codes " rjenkins1") [] [] refl spells_nothing))))

choice_text_spells : (weight alg : List ℕ) → IsName weight → IsName alg → Spells (codes "\t# weight " ++ weight ++ codes "\n\talg " ++ alg ++ codes "\n\thash 0\t# rjenkins1\n") (codes "alg" ∷ alg ∷ codes "hash" ∷ codes "0" ∷ [])
choice_text_spells weight alg h k = simp append_assoc (spells_blank 9 _ _ refl refl (spells_comment (codes " weight " ++ weight) (9 ∷ (codes "alg" ++ 32 ∷ (alg ++ codes "\n\thash 0\t# rjenkins1\n"))) _ (in_line weight h.allowed) (spells_blank 9 _ _ refl refl (spells_word (codes "alg") 32 _ _ (fixed (codes "alg") refl) refl (hash_spells alg k)))))

alg_there : (alg : Option Alg) → (alg ≡ None → ⊥) → IsName (option_map_or alg_text alg [])
alg_there None h = absurd (h refl)
alg_there (Some a) h = alg_name a

choice_spells : (form : WeightForm) (r : Row) (w : ℕ) → (r.alg ≡ None → ⊥) → w < 2 ^ 32 → Spells (bucket_choice form r w) (choice_words r)
unfolding bucket_choice
choice_spells form r w a h = choice_text_spells (weight_in form w) (option_map_or alg_text r.alg []) (weight_name form w h) (alg_there r.alg a)

brace_spells : Spells (codes "}\n") (codes "}" ∷ [])
brace_spells = spells_brace 125 _ _ refl refl refl (spells_blank 10 _ _ refl refl spells_nothing)

pub bucket_spells : (form : WeightForm) (kind : List ℕ) (r : Row) (b w : ℕ) (items : List ℕ) (words : List (List ℕ)) → r.id ≡ Bucket b → IsName kind → IsName r.name → IsBucketRow b r → w < 2 ^ 32 → Spells items words
    → Spells (bucket_lines form kind r w items) (bucket_words kind r words)
unfolding bucket_lines
bucket_spells form kind r b w items words e k n h light each =
    let ids : Spells (flat_map class_id_line r.class_ids) (flat_map class_id_words r.class_ids) = spells_all class_id_line class_id_words r.class_ids (All-weaker IsShadowId (λ c. Spells (class_id_line c) (class_id_words c)) class_id_spells r.class_ids h.class_ids) in
    spells_both _ _ _ _ (spells_both _ _ _ _ (spells_both _ _ _ _ (spells_both _ _ _ _ (head_spells kind r.name r.id b k n e (let v = h.most in omega (arith, v))) ids) (choice_spells form r w h.alg light)) each) brace_spells

-- the steps of a rule
take_text_spells : (name : List ℕ) (class : Option (List ℕ)) → IsName name → IfSome class IsName → Spells (codes "\tstep take " ++ name ++ class_text class ++ codes "\n") (codes "step" ∷ codes "take" ∷ name ∷ class_words class)
take_text_spells name class n k = simp append_assoc (spells_blank 9 _ _ refl refl (spells_word (codes "step") 32 _ _ (fixed (codes "step") refl) refl (spells_word (codes "take") 32 _ _ (fixed (codes "take") refl) refl (class_spells name class n k))))

take_spells : (name : List ℕ) (class : Option (List ℕ)) → IsName name → IfSome class IsName → Spells (take_line name class) (codes "step" ∷ codes "take" ∷ name ∷ class_words class)
unfolding take_line
take_spells name class n k = take_text_spells name class n k

choice_front : (leaf firstn : Bool) (b : List ℕ) (y : List (List ℕ)) → Spells b y → Spells (choice_text leaf firstn ++ b) (codes "step" ∷ choice_word leaf ∷ order_word firstn ∷ y)
unfolding choice_text
choice_front true true b y h = spells_blank 9 _ _ refl refl (spells_word (codes "step") 32 _ _ (fixed (codes "step") refl) refl (spells_word (codes "chooseleaf") 32 _ _ (fixed (codes "chooseleaf") refl) refl (spells_word (codes "firstn") 32 _ _ (fixed (codes "firstn") refl) refl h)))
choice_front true false b y h = spells_blank 9 _ _ refl refl (spells_word (codes "step") 32 _ _ (fixed (codes "step") refl) refl (spells_word (codes "chooseleaf") 32 _ _ (fixed (codes "chooseleaf") refl) refl (spells_word (codes "indep") 32 _ _ (fixed (codes "indep") refl) refl h)))
choice_front false true b y h = spells_blank 9 _ _ refl refl (spells_word (codes "step") 32 _ _ (fixed (codes "step") refl) refl (spells_word (codes "choose") 32 _ _ (fixed (codes "choose") refl) refl (spells_word (codes "firstn") 32 _ _ (fixed (codes "firstn") refl) refl h)))
choice_front false false b y h = spells_blank 9 _ _ refl refl (spells_word (codes "step") 32 _ _ (fixed (codes "step") refl) refl (spells_word (codes "choose") 32 _ _ (fixed (codes "choose") refl) refl (spells_word (codes "indep") 32 _ _ (fixed (codes "indep") refl) refl h)))

count_name : (z : ℤ) → IsCount z → IsName (signed_decimal z)
count_name (pos n) h = number_name n (omega (arith, h))
count_name (negsuc n) h = negative_name (suc n) (omega (arith, h))

choose_text_spells : (leaf firstn : Bool) (count kind : List ℕ) → IsName count → IsName kind → Spells (choice_text leaf firstn ++ count ++ codes " type " ++ kind ++ codes "\n") (codes "step" ∷ choice_word leaf ∷ order_word firstn ∷ count ∷ codes "type" ∷ kind ∷ [])
choose_text_spells leaf firstn count kind c k = simp append_assoc (choice_front leaf firstn (count ++ 32 ∷ (codes "type" ++ 32 ∷ (kind ++ 10 ∷ []))) (count ∷ codes "type" ∷ kind ∷ []) (spells_word count 32 _ _ c refl (spells_word (codes "type") 32 _ _ (fixed (codes "type") refl) refl (spells_word kind 10 [] [] k refl spells_nothing))))

choose_spells : (leaf firstn : Bool) (count : ℤ) (kind : List ℕ) → IsCount count → IsName kind → Spells (choose_line leaf firstn count kind) (codes "step" ∷ choice_word leaf ∷ order_word firstn ∷ signed_decimal count ∷ codes "type" ∷ kind ∷ [])
unfolding choose_line
choose_spells leaf firstn count kind c k = choose_text_spells leaf firstn (signed_decimal count) kind (count_name count c) k

set_text_spells : (name value : List ℕ) → IsName name → IsName value → Spells (codes "\tstep " ++ name ++ codes " " ++ value ++ codes "\n") (codes "step" ∷ name ∷ value ∷ [])
set_text_spells name value n v = simp append_assoc (spells_blank 9 _ _ refl refl (spells_word (codes "step") 32 _ _ (fixed (codes "step") refl) refl (spells_word name 32 _ _ n refl (spells_word value 10 [] [] v refl spells_nothing))))

set_spells : (name : List ℕ) (value : ℕ) → IsName name → value < 10 ^ 10 → Spells (set_line name value) (codes "step" ∷ name ∷ decimal value ∷ [])
unfolding set_line
set_spells name value n v = set_text_spells name (decimal value) n (number_name value v)

-- the words in a step that have to be names are names
abbrev pub NamesOfStep : List Row → StepData → Type 0
NamesOfStep t (take b class) = IsName (bucket_name t b) × IfSome class IsName
NamesOfStep t (choose leaf firstn count kind) = IsCount count × IsName kind
NamesOfStep t (set name value) = IsName name × (value < 10 ^ 10)
NamesOfStep t emit = Unit {0}

pub step_spells : (t : List Row) (x : StepData) → NamesOfStep t x → Spells (step_line t x) (step_words t x)
step_spells t (take b class) h = take_spells (bucket_name t b) class h.0 h.1
step_spells t (choose leaf firstn count kind) h = choose_spells leaf firstn count kind h.0 h.1
step_spells t (set name value) h = set_spells name value h.0 h.1
step_spells t emit h = spells_blank 9 _ _ refl refl (spells_word (codes "step") 32 _ _ (fixed (codes "step") refl) refl (spells_word (codes "emit") 10 [] [] (fixed (codes "emit") refl) refl spells_nothing))

rule_head_text_spells : (name id kind : List ℕ) → IsName name → IsName id → IsName kind → Spells (codes "rule " ++ name ++ codes " {\n\tid " ++ id ++ codes "\n\ttype " ++ kind ++ codes "\n") (codes "rule" ∷ name ∷ codes "{" ∷ codes "id" ∷ id ∷ codes "type" ∷ kind ∷ [])
rule_head_text_spells name id kind n i k = simp append_assoc
    (spells_word (codes "rule") 32 _ _ (fixed (codes "rule") refl) refl (spells_word name 32 _ _ n refl (spells_brace 123 _ _ refl refl refl (spells_blank 10 _ _ refl refl (spells_blank 9 _ _ refl refl
    (spells_word (codes "id") 32 _ _ (fixed (codes "id") refl) refl (spells_word id 10 _ _ i refl (spells_blank 9 _ _ refl refl (spells_word (codes "type") 32 _ _ (fixed (codes "type") refl) refl (spells_word kind 10 [] [] k refl spells_nothing))))))))))

size_spells : (key : List ℕ) (size : Option ℕ) → IsName key → IfSome size (λ n. n ≤ LARGEST_RULE_NUMBER) → Spells (size_line (9 ∷ (key ++ 32 ∷ [])) size) (size_words key size)
unfolding size_line
size_spells key None n h = spells_nothing
size_spells key (Some m) n h = simp append_assoc (spells_blank 9 _ _ refl refl (spells_word key 32 _ _ n refl (spells_word (decimal m) 10 [] [] (number_name m (omega (arith, h))) refl spells_nothing)))

rule_head_spells : (s : SettingData) (r : RuleData) → IsRule s r → Spells (rule_head r) (rule_head_words r)
unfolding rule_head
rule_head_spells s r h = rule_head_text_spells r.name (decimal r.id) r.kind h.name (number_name r.id (let v = h.id in omega (arith, v))) h.kind

pub rule_spells : (s : SettingData) (t : List Row) (r : RuleData) → IsRule s r → All (NamesOfStep t) r.steps → Spells (rule_lines t r) (rule_words t r)
unfolding rule_lines
rule_spells s t r h each =
    let steps : Spells (flat_map (step_line t) r.steps) (flat_map (step_words t) r.steps) = spells_all (step_line t) (step_words t) r.steps (All-weaker (NamesOfStep t) (λ x. Spells (step_line t x) (step_words t x)) (step_spells t) r.steps each) in
    spells_both _ _ _ _ (spells_both _ _ _ _ (spells_both _ _ _ _ (spells_both _ _ _ _ (rule_head_spells s r h)
    (size_spells (codes "min_size") r.min_size (fixed (codes "min_size") refl) h.min_size)) (size_spells (codes "max_size") r.max_size (fixed (codes "max_size") refl) h.max_size)) steps) brace_spells
