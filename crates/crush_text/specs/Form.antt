-- The forms of lines: which words can follow in the rest of a line.
use Rattle.std.specs.Prelude.{ℕ, Bool, List}
use Rattle.crush_edits.specs.Setting.{RuleData}
use Rattle.crush_builder.specs.Built.{Draft}
use Rattle.crush_text.specs.declared.expected.Optional.{Optional}
use Rattle.crush_text.specs.declared.expected.Optional.TheVariants.{Nothing}
use Rattle.crush_text.specs.Role.{Role, El}

-- which lines may come next. `first`: a statement, before the first bucket or rule. `second`: a statement, after a bucket or a rule. `begun`: the line of a bucket's id. `numbered`: a class id of the bucket, or its algorithm. `filling`: an item of the bucket, or its end; here the Bool says whether the bucket has an item already. `ruled`: a step of this rule, or the rule's end
pub data Mode : Type 0 where
  first : Mode
  second : Mode
  begun : Mode
  numbered : Mode
  filling : Bool → Mode
  ruled : RuleData → Mode

-- the progress after some lines: the draft that the lines have built, which lines may come next, and the optional part that the last line has left out at its end. A draft is an unfinished map
pub record Progress : Type 0 where
  pub mode : Mode
  pub draft : Draft
  pub passed : Optional

-- the progress in the mode m with the draft d, after a line that has left out no optional part
abbrev pub at : Mode → Draft → Progress
at m d = record { mode = m; draft = d; passed = Nothing }

-- the same progress, after a line that has left out the optional part k
abbrev pub passing : Optional → Progress → Progress
passing k p = record p { passed = k }

-- the form of the rest of a line. `done`: the line is complete, with this progress. `word`: a word of this role, and then the form that depends on the word's value. `optional`: the first form if the next word is the key, otherwise the second form. `ahead`: the first form if the word after the next one is the key, otherwise the second form
pub data Form : Type 0 where
  done : Progress → Form
  word : (r : Role) → (El r → Form) → Form
  optional : List ℕ → Form → Form → Form
  ahead : List ℕ → Form → Form → Form

infixr 5 ◌>>=◌
infixr 5 ◌>>◌
-- a word of the role r, and then the form that depends on its value
abbrev pub ◌>>=◌ : (r : Role) → (El r → Form) → Form
r >>= more = word r more

-- a word of the role r whose value isn't used, and then this form
abbrev pub ◌>>◌ : Role → Form → Form
r >> more = word r (λ _. more)
