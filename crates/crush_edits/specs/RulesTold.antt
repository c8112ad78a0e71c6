-- The set of the buckets that rules take. For each bucket, the set has the distance of the bucket's id below 0.
use Rattle.std.specs.Prelude.{◌≡◌, ◌||◌, ℕ, List}
use Rattle.std.specs.BTreeSet.{BTreeSet, contains}
use Rattle.std.specs.List.{list_any}
use Rattle.std.specs.Ordering.{nat_cmp}
use Rattle.crush_model.specs.Table.{member}
use Rattle.crush_edits.specs.Setting.{RuleData, taken_by}
use Rattle.crush_edits.specs.SettingSeen.{takes_bucket}
use Rattle.crush_edits.specs.declared.setting.KeptStep.{KeptStep}

-- THE SET IS RIGHT: it has a bucket if and only if a step of a rule takes it
abbrev pub AreTakenBy : List RuleData → BTreeSet ℕ → Type 0
AreTakenBy rules taken = (b : ℕ) → contains nat_cmp taken b ≡ member b (taken_by rules)

-- the new set has a bucket if and only if the old set has it or one of the steps takes it
abbrev pub ComeAsTaken : List KeptStep → BTreeSet ℕ → BTreeSet ℕ → Type 0
ComeAsTaken steps old new = (b : ℕ) → contains nat_cmp new b ≡ contains nat_cmp old b || list_any (takes_bucket b) steps
