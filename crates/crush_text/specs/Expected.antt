-- What the grammar expects at a word of each role, and the words with which each optional part can begin.
use Rattle.std.specs.Prelude.{ℕ, Bool, true, false, List, [], ◌∷◌, bytes_eq, codes, if◌then◌else◌}
use Rattle.crush_units.specs.declared.id.ItemId.{ItemId}
use Rattle.crush_units.specs.declared.id.ItemId.TheVariants.{Device, Bucket}
use Rattle.crush_text.specs.declared.expected.Expected.{Expected}
use Rattle.crush_text.specs.declared.expected.Expected.TheVariants as expect
use Rattle.crush_text.specs.declared.expected.Keyword.{Keyword}
use Rattle.crush_text.specs.declared.expected.Keyword.TheVariants as keyword
use Rattle.crush_text.specs.declared.expected.Optional.{Optional}
use Rattle.crush_text.specs.declared.expected.Optional.TheVariants as optional
use Rattle.crush_text.specs.Role.{Role, key, any_word, number, opening, tunable_name, type_number, type_name, device_id, new_name, bucket_id, id_or_alg, id_class, algorithm, item_or_end, item, lone_item, weight, rule_name, rule_id_key, rule_id, step_or_end, step_word, taken_bucket, step_order, step_count, step_type}

-- the word of each keyword
abbrev pub keyword_word : Keyword → List ℕ
keyword_word keyword.Brace = codes "{"
keyword_word keyword.Id = codes "id"
keyword_word keyword.Class = codes "class"
keyword_word keyword.Type = codes "type"
keyword_word keyword.Hash = codes "hash"
keyword_word keyword.Weight = codes "weight"
keyword_word keyword.MinSize = codes "min_size"
keyword_word keyword.MaxSize = codes "max_size"

-- the keyword with this word. Any word that isn't one of the first seven keywords gives `MaxSize`. Of all these words, the grammar uses only `max_size` as a keyword
abbrev pub keyword_of : List ℕ → Keyword
keyword_of w =
    if bytes_eq w (codes "{") then keyword.Brace
    else (if bytes_eq w (codes "id") then keyword.Id
    else (if bytes_eq w (codes "class") then keyword.Class
    else (if bytes_eq w (codes "type") then keyword.Type
    else (if bytes_eq w (codes "hash") then keyword.Hash
    else (if bytes_eq w (codes "weight") then keyword.Weight
    else (if bytes_eq w (codes "min_size") then keyword.MinSize
    else keyword.MaxSize))))))

-- the words with which this optional part can begin. `Sizes` begins with `min_size` or, if the part has no `min_size`, with `max_size`
abbrev pub words_of : Optional → List (List ℕ)
words_of optional.Nothing = []
words_of optional.Class = codes "class" ∷ []
words_of optional.Hash = codes "hash" ∷ []
words_of optional.Weight = codes "weight" ∷ []
words_of optional.MaxSize = codes "max_size" ∷ []
words_of optional.Sizes = codes "min_size" ∷ codes "max_size" ∷ []

-- whether the item is a device
abbrev pub is_device : ItemId → Bool
is_device (Device n) = true
is_device (Bucket b) = false

-- WHAT IS EXPECTED at the place of a word with this role, as a fault reports it
abbrev pub expected : Role → Expected
expected (key k) = expect.Keyword (keyword_of k)
expected (any_word e) = e
expected (number most) = expect.Number most
expected (opening late or) = expect.Statement late or
expected tunable_name = expect.TunableName
expected type_number = expect.TypeNumber
expected (type_name n) = expect.TypeName
expected device_id = expect.DeviceId
expected new_name = expect.NewName
expected bucket_id = expect.BucketId
expected id_or_alg = expect.IdOrAlg
expected id_class = expect.IdClass
expected algorithm = expect.Algorithm
expected (item_or_end any or) = expect.ItemOrEnd or
expected item = expect.ItemName
expected lone_item = expect.ItemName
expected (weight i) = expect.Weight (is_device i)
expected rule_name = expect.RuleName
expected rule_id_key = expect.IdOrRuleset
expected rule_id = expect.RuleId
expected (step_or_end k or) = expect.StepOrEnd or
expected step_word = expect.StepWord
expected taken_bucket = expect.TakenBucket
expected step_order = expect.FirstnOrIndep
expected step_count = expect.Count
expected step_type = expect.StepType
