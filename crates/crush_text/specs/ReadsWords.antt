-- What the contracts of the functions that read one word promise.
use Rattle.std.specs.Prelude.{◌≡◌, ◌||◌, ℕ, ◌<◌, List, true, false, Result, Ok, IfOk, OnOk, length, nat_eq, codes}
use Rattle.std.specs.List.{starts_with}
use Rattle.crush_units.specs.Name.{is_name, IsName}
use Rattle.crush_builder.specs.Built.{Draft}
use Rattle.crush_builder.specs.Building.{IsDraft}
use Rattle.crush_text.specs.declared.fault.TextFault.{TextFault}
use Rattle.crush_units.specs.Words.{Text, is_brace_word}
use Rattle.crush_text.specs.declared.reader.MapReader.{MapReader}
use Rattle.crush_text.specs.declared.reader.word.PlacedWord.{PlacedWord}
use Rattle.crush_text.specs.declared.reader.step.FirstOfStep.{FirstOfStep}
use Rattle.crush_text.specs.declared.reader.step.FirstOfStep.TheVariants as steps
use Rattle.crush_text.specs.declared.expected.Expected.{Expected}
use Rattle.crush_text.specs.declared.expected.Expected.TheVariants as expect
use Rattle.crush_text.specs.Expected.{expected}
use Rattle.crush_text.specs.Role.{Role, El, value}
use Rattle.crush_text.specs.Room.{IsFreeWord, IsInRange, IsFreeValue}
use Rattle.crush_text.specs.Reads.{word_of, next_at, word_at, Gives}

-- the next word was read, at a place where e is expected. A word that is returned is a brace or a name, and the text after it has fewer words than the text before it
pub record TakesWord (e : Expected) (old new : Text) (x : Result PlacedWord TextFault) : Type 0 where
  pub gives : Gives (λ w. (word_of w, new)) x (next_at e old)
  pub formed : IfOk x (λ w. (is_brace_word w.text.now || is_name w.text.now) ≡ true)
  pub shorter : OnOk x (length new.words < length old.words)

-- a property that every draft has. Contracts use it for roles in which the result doesn't depend on the draft
abbrev pub AnyDraft : Draft → Type 0
AnyDraft d = Unit {0}

-- A WORD was read in the role r. For each draft that meets `drafts`, the result is that of the definitions: the function returned the word, or it failed with the word's fault. A word that is returned is a name, isn't a brace, and may be used in this role
pub record ReadsWord (r : Role) (drafts : Draft → Type 0) (old new : Text) (x : Result PlacedWord TextFault) : Type 0 where
  pub gives : (d : Draft) → drafts d → Gives (λ w. (value d r w.text.now, new)) x (word_at d r old)
  pub next : IfOk x (λ w. next_at (expected r) old ≡ Ok (word_of w, new))
  pub plain : IfOk x (λ w. is_brace_word w.text.now ≡ false)
  pub named : IfOk x (λ w. IsName w.text.now)
  pub free : IfOk x (λ w. (d : Draft) → drafts d → IsFreeWord d r w.text.now)
  pub shorter : OnOk x (length new.words < length old.words)

-- A WORD was read in the role r, and its value was returned. For each draft that meets `drafts`, the result is that of the definitions: the function returned the value that the word has in this role, or it failed with the word's fault. A value that is returned is in the role's range, and may be used in this role
pub record ReadsValue {X : Type 0} (r : Role) (view : X → El r) (drafts : Draft → Type 0) (old new : Text) (x : Result X TextFault) : Type 0 where
  pub gives : (d : Draft) → drafts d → Gives (λ v. (view v, new)) x (word_at d r old)
  pub range : IfOk x (λ v. IsInRange r (view v))
  pub free : IfOk x (λ v. (d : Draft) → drafts d → IsFreeValue d r (view v))
  pub shorter : OnOk x (length new.words < length old.words)

-- a method of the map's reader has read a word, and `ReadsWord` holds for each draft that the builder represents. The builder is unchanged
pub record FindsWord {A : _} (r : Role) (old new : MapReader A) (x : Result PlacedWord TextFault) : Type 0 where
  pub reads : ReadsWord r (IsDraft old.builder) old.text new.text x
  pub kept : new.builder ≡ old.builder

-- a method of the map's reader has read a value, and `ReadsValue` holds for each draft that the builder represents. The builder is unchanged
pub record FindsValue {A : _} {X : Type 0} (r : Role) (view : X → El r) (old new : MapReader A) (x : Result X TextFault) : Type 0 where
  pub reads : ReadsValue r view (IsDraft old.builder) old.text new.text x
  pub kept : new.builder ≡ old.builder

-- the word that was read at the beginning of the text `old`, where e is expected, is at this place, and `new` is the text after it
abbrev pub StoodAt : Expected → Text → Text → ℕ → Type 0
StoodAt e old new place = (text : List ℕ) × (next_at e old ≡ Ok (record { place = place; text = text }, new))

-- what is known about the value of a step's first word. If the value is `Set w`, then w is a name that begins with `set_`, and the place of w is the place of this word in the text `old`. For any other value, nothing is required
abbrev pub IsFirstOfStep : Text → Text → FirstOfStep → Type 0
IsFirstOfStep old new steps.Take = Unit {0}
IsFirstOfStep old new (steps.Choose leaf) = Unit {0}
IsFirstOfStep old new (steps.Set w) = IsName w.text.now × (starts_with nat_eq w.text.now (codes "set_") ≡ true) × StoodAt expect.StepWord old new w.place
IsFirstOfStep old new steps.Emit = Unit {0}
