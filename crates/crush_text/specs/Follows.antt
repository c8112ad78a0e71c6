-- Which word may follow after other words of a map's text.
use Rattle.std.specs.Prelude.{◌≡◌, ◌⊎◌, ℕ, List, [], ◌∷◌}
use Rattle.crush_builder.specs.Built.{Draft}
use Rattle.crush_units.specs.Words.{Word}
use Rattle.crush_text.specs.Role.{Role, item, lone_item}
use Rattle.crush_text.specs.Form.{Form, done, word, optional, ahead}
use Rattle.crush_text.specs.Grammar.{next}
use Rattle.crush_text.specs.Rows.{IsRight}
use Rattle.crush_text.specs.Flow.{State, between, amid}
use Rattle.crush_text.specs.Document.{SpellsNext, Spell, start}
use Rattle.crush_text.specs.Expected.{words_of}

-- w is one of these words
abbrev pub IsOneOf : List (List ℕ) → List ℕ → Type 0
IsOneOf [] w = ⊥
IsOneOf (k ∷ ks) w = (w ≡ k) ⊎ IsOneOf ks w

-- the role of a word if a weight follows the word. For the name of an item, this is `item`. Any other role stays the same
abbrev pub weighed : Role → Role
weighed lone_item = item
weighed r = r

-- the word w has no fault as the next word of this form. If the form requires the name of an item, w is judged as if a weight followed it (`weighed`)
abbrev pub FitsForm : Draft → Form → List ℕ → Type 0
FitsForm d (word r more) w = IsRight d (weighed r) w
FitsForm d (done p) w = ⊥
FitsForm d (optional k f g) w = ⊥
FitsForm d (ahead k f g) w = ⊥

-- THE WORDS THAT MAY FOLLOW in this state. These are the words that have no fault in the expected role, and also the words with which an optional part can begin if the line before has left out this part. `expected_at` names this role and this optional part
abbrev pub MayFollow : State → List ℕ → Type 0
MayFollow (between p) w = IsOneOf (words_of p.passed) w ⊎ FitsForm p.draft (next p) w
MayFollow (amid d f) w = FitsForm d f w

-- THE TEXT GOES ON with the word w after the words `before`. If the words `others` follow w, then neither w nor any of the words `before` has a fault
pub record GoesOn (before : List Word) (w : Word) : Type 0 where
  pub others : List Word
  pub so_far : State
  pub spelled : Spell start before (w ∷ others) so_far
  pub further : State
  pub right : SpellsNext so_far w.text others further
