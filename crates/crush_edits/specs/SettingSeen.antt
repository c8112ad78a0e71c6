-- What contracts see of the values in the code that make up a setting.
use Rattle.std.specs.Prelude.{ℕ, List, Bool, false, ◌==◌, map}
use Rattle.crush_edits.specs.Setting.{KindData, TunableData, StepData, take, choose, set, emit, RuleData}
use Rattle.crush_edits.specs.declared.setting.KeptRule.{KeptRule}
use Rattle.crush_edits.specs.declared.setting.KeptStep.{KeptStep}
use Rattle.crush_edits.specs.declared.setting.KeptStep.TheVariants.{Take, Choose, Set, Emit}

-- what contracts see of a type. In the code, a type is a pair of a number and a name
abbrev pub kind_data : ℕ × List ℕ → KindData
kind_data e = record { number = e.0; name = e.1 }

-- what contracts see of a tunable. In the code, a tunable is a pair of a name and a value
abbrev pub tunable_data : List ℕ × ℕ → TunableData
tunable_data e = record { name = e.0; value = e.1 }

-- what contracts see of a step of a rule
abbrev pub step_data : KeptStep → StepData
step_data (Take b class) = take b class
step_data (Choose leaf firstn count kind) = choose leaf firstn count kind
step_data (Set word value) = set word value
step_data Emit = emit

-- what contracts see of a rule
abbrev pub rule_data : KeptRule → RuleData
rule_data r = record { name = r.name; id = r.id; kind = r.kind; min_size = r.min_size; max_size = r.max_size; steps = map step_data r.steps.items }

-- whether the step takes the bucket
abbrev pub takes_bucket : ℕ → KeptStep → Bool
takes_bucket b (Take taken class) = taken == b
takes_bucket b (Choose leaf firstn count kind) = false
takes_bucket b (Set word value) = false
takes_bucket b Emit = false
