-- A TEXT AS A DOCUMENT: its statements in order, with all names as they are written in the text.
use Rattle.std.specs.Prelude.{ℕ, ℤ, Bool, List, Option}
use Rattle.crush_units.specs.declared.alg.Alg.{Alg}
use Rattle.crush_model.specs.Items.{ShadowData}

-- a line for an item of a bucket: the item's name, and the weight that the line gives, in units of 1/65536, if it gives one
pub record ItemLine : Type 0 where
  pub name : List ℕ
  pub weight : Option ℕ

-- a bucket: the name of its type, its own name, the distance of its id below 0 (2 for the id -2), its class ids, its algorithm and the lines of its items
pub record BucketLines : Type 0 where
  pub kind : List ℕ
  pub name : List ℕ
  pub id : ℕ
  pub class_ids : List ShadowData
  pub alg : Alg
  pub items : List ItemLine

-- a step of a rule. `takes` has a bucket's name, and a class if the step has one. `chooses` has four parts: whether the step is `chooseleaf` (otherwise `choose`), whether it is `firstn` (otherwise `indep`), a number, and the name of a type. `sets` has the first word of the step, which begins with `set_`, and a number. `emits` is the step `emit`.
pub data StepLine : Type 0 where
  takes : List ℕ → Option (List ℕ) → StepLine
  chooses : Bool → Bool → ℤ → List ℕ → StepLine
  sets : List ℕ → ℕ → StepLine
  emits : StepLine

-- a rule: its name, its id, the word after `type`, its sizes `min_size` and `max_size`, each if it is written, and its steps
pub record RuleLines : Type 0 where
  pub name : List ℕ
  pub id : ℕ
  pub kind : List ℕ
  pub min_size : Option ℕ
  pub max_size : Option ℕ
  pub steps : List StepLine

-- a line of the first part of a document: a tunable's name and value; a type's number and name; or a device's id and name, and the device's class if it has one
pub data First : Type 0 where
  tunable : List ℕ → ℕ → First
  kind : ℕ → List ℕ → First
  device : ℕ → List ℕ → Option (List ℕ) → First

-- a statement of the second part of a document: a bucket or a rule
pub data Second : Type 0 where
  bucket : BucketLines → Second
  rule : RuleLines → Second

-- A DOCUMENT: the lines of its first part, and the statements of its second part
pub record Document : Type 0 where
  pub first : List First
  pub second : List Second
