-- The lines of a printed rule, each computed from the rule; the table gives the names of the buckets that the rule takes.
use Rattle.std.specs.Prelude.{ℕ, ℤ, Bool, List, [], ◌++◌, Option, Some, None, codes, decimal, flat_map, unwrap_or, if◌then◌else◌}
use Rattle.std.specs.Fmt.{signed_decimal}
use Rattle.crush_units.specs.declared.id.ItemId.TheVariants.{Bucket}
use Rattle.crush_model.specs.Table.{Row, name_of}
use Rattle.crush_edits.specs.Setting.{StepData, take, choose, set, emit, RuleData}
use Rattle.crush_print.specs.Lines.{class_text}

-- the name that the bucket b has in the table, even if the bucket had another name when the rule was read; an empty name if the table doesn't have the bucket
unfoldable pub bucket_name : List Row → ℕ → List ℕ
bucket_name t b = unwrap_or (name_of t (Bucket b)) []

-- `step take NAME`, and ` class C` if the step takes a class
unfoldable pub take_line : List ℕ → Option (List ℕ) → List ℕ
take_line name class = codes "\tstep take " ++ name ++ class_text class ++ codes "\n"

-- the first words of a step that chooses: `choose` or `chooseleaf`, and `firstn` or `indep`
unfoldable pub choice_text : Bool → Bool → List ℕ
choice_text leaf firstn =
    if leaf then (if firstn then codes "\tstep chooseleaf firstn " else codes "\tstep chooseleaf indep ")
    else (if firstn then codes "\tstep choose firstn " else codes "\tstep choose indep ")

-- `step choose firstn INT type NAME`, or the same with the other first words of `choice_text`
unfoldable pub choose_line : Bool → Bool → ℤ → List ℕ → List ℕ
choose_line leaf firstn count kind = choice_text leaf firstn ++ signed_decimal count ++ codes " type " ++ kind ++ codes "\n"

-- `step NAME N`: the line of a step that sets a value. The reader of maps accepts such a step only if NAME begins with `set_`
unfoldable pub set_line : List ℕ → ℕ → List ℕ
set_line name value = codes "\tstep " ++ name ++ codes " " ++ decimal value ++ codes "\n"

-- the line of a step
abbrev pub step_line : List Row → StepData → List ℕ
step_line t (take b class) = take_line (bucket_name t b) class
step_line t (choose leaf firstn count kind) = choose_line leaf firstn count kind
step_line t (set name value) = set_line name value
step_line t emit = codes "\tstep emit\n"

-- `rule NAME {`, the line of the rule's id, and the line of its type
unfoldable pub rule_head : RuleData → List ℕ
rule_head r = codes "rule " ++ r.name ++ codes " {\n\tid " ++ decimal r.id ++ codes "\n\ttype " ++ r.kind ++ codes "\n"

-- the line of a pool size; nothing if the rule doesn't have this size
unfoldable pub size_line : List ℕ → Option ℕ → List ℕ
size_line key None = []
size_line key (Some n) = key ++ decimal n ++ codes "\n"

-- the lines of a rule: its head, the sizes of the pools that it is for, and its steps in their order
unfoldable pub rule_lines : List Row → RuleData → List ℕ
rule_lines t r =
    rule_head r ++ size_line (codes "\tmin_size ") r.min_size ++ size_line (codes "\tmax_size ") r.max_size
    ++ flat_map (step_line t) r.steps ++ codes "}\n"
