-- THE GRAMMAR, line by line. A line here is a part of the text that adds one thing to the map, or to the bucket or the rule that is being read. Line feeds don't matter. The comment of each definition gives the words of a line. N is a number, NEG is `-` and a number, and INT is a number with or without `-`. `[ ]` enclose an optional part. d is the draft before the line.
use Rattle.std.specs.Prelude.{ℕ, Bool, List, [], ◌∷◌, ◌++◌, Option, true, false, codes, length, if◌then◌else◌, Some, None}
use Rattle.crush_units.specs.declared.id.ItemId.{ItemId}
use Rattle.crush_edits.specs.Setting.{StepData, take, choose, set, emit, RuleData}
use Rattle.crush_builder.specs.Built.{Draft, with_tunable, with_kind, with_device, begun_bucket, with_id, with_class_id, with_alg, with_next_item, with_end, add_rule}
use Rattle.crush_units.specs.declared.limits.TheConstants.{LARGEST_RULE_NUMBER, LARGEST_TUNABLE}
use Rattle.crush_text.specs.declared.statement_kind.StatementKind.{StatementKind}
use Rattle.crush_text.specs.declared.statement_kind.StatementKind.TheVariants as statement_kinds
use Rattle.crush_text.specs.declared.expected.Optional.{Optional}
use Rattle.crush_text.specs.declared.expected.Optional.TheVariants.{Class, Hash, Weight, MaxSize, Sizes}
use Rattle.crush_text.specs.declared.expected.Expected.TheVariants as expect
use Rattle.crush_text.specs.Role.{key, any_word, number, opening, tunable_name, type_number, type_name, device_id, new_name, bucket_id, id_or_alg, id_class, algorithm, item_or_end, item, lone_item, weight, rule_name, rule_id_key, rule_id, step_or_end, step_word, StepWord, takes, chooses, sets, emits, taken_bucket, step_order, step_count, step_type}
use Rattle.crush_text.specs.Form.{Mode, first, second, begun, numbered, filling, ruled, Progress, at, passing, Form, done, optional, ahead, ◌>>=◌, ◌>>◌}

-- `tunable` NAME N
abbrev pub tunable_line : Draft → Form
tunable_line d = do
  x ← tunable_name
  n ← number LARGEST_TUNABLE
  done (at first (with_tunable d x n))

-- `type` N NAME
abbrev pub type_line : Draft → Form
type_line d = do
  n ← type_number
  x ← type_name n
  done (at first (with_kind d n x))

-- [`class` CLASS], for the device n with the name x
abbrev pub device_class : Draft → ℕ → List ℕ → Form
device_class d n x = optional (codes "class")
    (do
      key (codes "class")
      c ← any_word expect.Class
      done (at first (with_device d n x (Some c))))
    (done (passing Class (at first (with_device d n x None))))

-- `device` N NAME [`class` CLASS]
abbrev pub device_line : Draft → Form
device_line d = do
  n ← device_id
  x ← new_name
  device_class d n x

-- TYPE NAME. The word TYPE was read before, and is the name of the type with the number k
abbrev pub bucket_line : Draft → ℕ → Form
bucket_line d k = do
  x ← new_name
  done (at begun (begun_bucket d k x))

-- `{` `id` NEG
abbrev pub id_line : Draft → Form
id_line d = do
  key (codes "{")
  key (codes "id")
  b ← bucket_id
  done (at numbered (with_id d b))

-- NEG `class` CLASS, after `id`
abbrev pub class_id_line : Draft → Form
class_id_line d = do
  b ← bucket_id
  key (codes "class")
  c ← id_class
  done (at numbered (with_class_id d b c))

-- ALG [`hash` `0`], after `alg`
abbrev pub alg_line : Draft → Form
alg_line d = do
  a ← algorithm
  optional (codes "hash")
      (do
        key (codes "hash")
        number 0
        done (at (filling false) (with_alg d a)))
      (done (passing Hash (at (filling false) (with_alg d a))))

-- a class id if `more`, otherwise the algorithm
abbrev pub id_or_alg_line : Draft → Bool → Form
id_or_alg_line d more = if more then class_id_line d else alg_line d

-- WEIGHT, for the item i
abbrev pub item_weight_line : Draft → ItemId → Form
item_weight_line d i = do
  w ← weight i
  done (at (filling true) (with_next_item d i (Some w)))

-- NAME `weight` WEIGHT
abbrev pub weighed_item : Draft → Form
weighed_item d = do
  i ← item
  key (codes "weight")
  item_weight_line d i

-- NAME
abbrev pub weightless_item : Draft → Form
weightless_item d = do
  i ← lone_item
  done (passing Weight (at (filling true) (with_next_item d i None)))

-- NAME [`weight` WEIGHT], after `item`
abbrev pub item_line : Draft → Form
item_line d = ahead (codes "weight") (weighed_item d) (weightless_item d)

-- an item if `more`, otherwise the end of the bucket, whose brace was read already
abbrev pub item_or_brace : Draft → Bool → Form
item_or_brace d more = if more then item_line d else done (at second (with_end d))

-- a rule without steps: it has the name x, the id n, the type k, and the least and the largest size of pools
abbrev pub new_rule : List ℕ → ℕ → List ℕ → Option ℕ → Option ℕ → RuleData
new_rule x n k least most = record { name = x; id = n; kind = k; min_size = least; max_size = most; steps = [] }

-- the optional part with sizes that could still follow in the head of a rule that has no `max_size`. The argument is the head's `min_size`
abbrev pub sizes_left : Option ℕ → Optional
sizes_left None = Sizes
sizes_left (Some n) = MaxSize

-- [`max_size` N]
abbrev pub max_size : Draft → List ℕ → ℕ → List ℕ → Option ℕ → Form
max_size d x n k least = optional (codes "max_size")
    (do
      key (codes "max_size")
      most ← number LARGEST_RULE_NUMBER
      done (at (ruled (new_rule x n k least (Some most))) d))
    (done (passing (sizes_left least) (at (ruled (new_rule x n k least None)) d)))

-- [`min_size` N] [`max_size` N]
abbrev pub sizes : Draft → List ℕ → ℕ → List ℕ → Form
sizes d x n k = optional (codes "min_size")
    (do
      key (codes "min_size")
      least ← number LARGEST_RULE_NUMBER
      max_size d x n k (Some least))
    (max_size d x n k None)

-- `rule` NAME `{` (`id` | `ruleset`) N `type` WORD [`min_size` N] [`max_size` N]
abbrev pub rule_line : Draft → Form
rule_line d = do
  x ← rule_name
  key (codes "{")
  rule_id_key
  n ← rule_id
  key (codes "type")
  k ← any_word expect.RuleType
  sizes d x n k

-- the rule r with the step s appended to its steps
abbrev pub with_step : RuleData → StepData → RuleData
with_step r s = record r { steps = r.steps ++ s ∷ [] }

-- the form of the end of a step's line: the step s is added to the rule r
abbrev pub step_done : Draft → RuleData → StepData → Form
step_done d r s = done (at (ruled (with_step r s)) d)

-- NAME [`class` CLASS], after `take`
abbrev pub take_step : Draft → RuleData → Form
take_step d r = do
  b ← taken_bucket
  optional (codes "class")
      (do
        key (codes "class")
        c ← any_word expect.Class
        step_done d r (take b (Some c)))
      (done (passing Class (at (ruled (with_step r (take b None))) d)))

-- (`firstn` | `indep`) INT `type` TYPE, after `choose`, or after `chooseleaf` if `leaf`
abbrev pub choose_step : Draft → RuleData → Bool → Form
choose_step d r leaf = do
  firstn ← step_order
  n ← step_count
  key (codes "type")
  k ← step_type
  step_done d r (choose leaf firstn n k)

-- N, after the word x, which begins with `set_`
abbrev pub set_step : Draft → RuleData → List ℕ → Form
set_step d r x = do
  n ← number LARGEST_RULE_NUMBER
  step_done d r (set x n)

-- the rest of a step after its first word
abbrev pub step_behind : Draft → RuleData → StepWord → Form
step_behind d r takes = take_step d r
step_behind d r (chooses leaf) = choose_step d r leaf
step_behind d r (sets x) = set_step d r x
step_behind d r emits = step_done d r emit

-- a step if `more`, otherwise the end of the rule, whose brace was read already
abbrev pub step_or_brace : Draft → RuleData → Bool → Form
step_or_brace d r more = if more then step_word >>= step_behind d r else done (at second (add_rule d r))

-- the rest of the statement, or of its first line, after its first word
abbrev pub statement : Draft → StatementKind → Form
statement d statement_kinds.Tunable = tunable_line d
statement d statement_kinds.Type = type_line d
statement d statement_kinds.Device = device_line d
statement d (statement_kinds.Bucket k) = bucket_line d k
statement d statement_kinds.Rule = rule_line d

-- the lines that may come next in this mode, after a line that has left out the optional part k
abbrev pub line_forms : Draft → Optional → Mode → Form
line_forms d k first = opening false k >>= statement d
line_forms d k second = opening true k >>= statement d
line_forms d k begun = id_line d
line_forms d k numbered = id_or_alg >>= id_or_alg_line d
line_forms d k (filling any) = item_or_end any k >>= item_or_brace d
line_forms d k (ruled r) = step_or_end (length r.steps) k >>= step_or_brace d r

-- the lines that may come next after this progress
abbrev pub next : Progress → Form
next p = line_forms p.draft p.passed p.mode
