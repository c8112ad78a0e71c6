-- The result of an edit: a refusal, or the table after the edit.
use Rattle.std.specs.Prelude.{ℕ, List, [], ◌∷◌, Option, Some, None, Bool, false, not, if◌then◌else◌, nat_lt}
use Rattle.crush_units.specs.declared.id.ItemId.{ItemId}
use Rattle.crush_units.specs.Id.{is_device_id}
use Rattle.crush_model.specs.Table.{Row}
use Rattle.crush_model.specs.Lawful.{is_too_heavy, has_too_many}
use Rattle.crush_edits.specs.declared.refusal.Refusal.{Refusal}
use Rattle.crush_edits.specs.declared.refusal.Refusal.TheVariants.{NoRoom, SumTooLarge}
use Rattle.crush_edits.specs.Changed.{same_table}
use Rattle.crush_units.specs.declared.limits.TheConstants.{HEAVIEST_DEVICE}

-- the table after an edit, and how many buckets the edit created
pub record After : Type 0 where
  pub table : List Row
  pub made : ℕ

-- the table t as the table after an edit that creates no bucket
abbrev pub kept : List Row → After
kept t = record { table = t; made = 0 }

-- the result of f for the value, if there is one. Otherwise the table is unchanged, and no bucket is created
abbrev pub on_some : {X : Type 0} → List Row → Option X → (X → After) → After
on_some t None f = kept t
on_some t (Some x) f = f x

-- whether there is a value, and the test holds for it
abbrev pub meets : {X : Type 0} → (X → Bool) → Option X → Bool
meets test None = false
meets test (Some x) = test x

-- whether there is an id, and it is the id of a device
abbrev pub is_a_device : Option ItemId → Bool
is_a_device i = meets is_device_id i

-- whether there is an id, and it is the id of a bucket
abbrev pub is_a_bucket : Option ItemId → Bool
is_a_bucket i = meets (λ x. not (is_device_id x)) i

-- whether the weight is above the largest that a device can have
abbrev pub is_heavy : ℕ → Bool
is_heavy w = nat_lt HEAVIEST_DEVICE w

-- the refusal NoRoom with its test: the table after the edit has too many devices or buckets
abbrev pub room_test : After → Refusal × Bool
room_test a = (NoRoom, has_too_many a.table)

-- the refusal SumTooLarge with its test: a sum of weights in the table after the edit is too large
abbrev pub sum_test : After → Refusal × Bool
sum_test a = (SumTooLarge, is_too_heavy a.table)

-- the first refusal of a list whose test holds, or none. The list has each refusal with the result of its test
abbrev pub first_refusal : List (Refusal × Bool) → Option Refusal
first_refusal [] = None
first_refusal (p ∷ ps) = if p.1 then Some p.0 else first_refusal ps

-- the result of an edit. `refused` has the refusal. `done` says whether the table has changed and how many buckets were created, and has the table after the edit
pub data Answer : Type 0 where
  refused : Refusal → Answer
  done : Bool → ℕ → List Row → Answer

-- the result of an edit of the table t: the refusal, if there is one, and otherwise the table after the edit. Whether the table has changed is found by comparing it with t
abbrev pub answer : Option Refusal → List Row → After → Answer
answer (Some r) t a = refused r
answer None t a = done (not (same_table t a.table)) a.made a.table
