-- The places at which the reader may report that memory ran out.
use Rattle.std.specs.Prelude.{◌≡◌, ◌⊎◌, ℕ, List, [], ◌∷◌, ◌++◌}
use Rattle.crush_units.specs.Words.{Word, Text, words, stopped, ended}
use Rattle.crush_text.specs.declared.fault.TextFault.{TextFault}
use Rattle.crush_text.specs.Flow.{State}
use Rattle.crush_text.specs.Document.{Spell, start}
use Rattle.crush_text.specs.Flaw.{IsOutOfMemory}

-- RIGHT UP TO a place: a word of the text is at this place. This word and all words before it spell lines, and perhaps the beginning of one more line, so none of these words has a fault
pub record IsRightUpTo (t : Text) (place : ℕ) : Type 0 where
  pub before : List Word
  pub last : Word
  pub next : List Word
  pub all : t.words ≡ before ++ last ∷ next
  pub so_far : State
  pub spelled : Spell start (before ++ last ∷ []) next so_far
  pub here : place ≡ last.place

-- if the fault is OutOfMemory, then one of two statements is true. Either the text is right up to the fault's place, so this place is before any flaw. Or the text has no words, and the place is the end of the text
abbrev pub IsFoundInTime : List ℕ → TextFault → Type 0
IsFoundInTime bytes f = IsOutOfMemory f → IsRightUpTo (words 0 bytes) f.place ⊎ (words 0 bytes ≡ stopped (ended f.place))
