-- Which results of a call that applies an edit are right, given what the edit does to the table.
use Rattle.std.specs.Prelude.{◌≡◌, false, List, [], ◌∷◌, Option, Result, Err, IfOk, OnErr}
use Rattle.crush_model.specs.Table.{Row}
use Rattle.crush_model.specs.Forest.{ForestData}
use Rattle.crush_model.specs.Stands.{Stands}
use Rattle.crush_nodes.specs.Room.{room}
use Rattle.crush_nodes.specs.declared.place.Place.{Place}
use Rattle.crush_edits.specs.declared.refusal.Refusal.{Refusal}
use Rattle.crush_edits.specs.declared.refusal.Done.{Done}
use Rattle.crush_edits.specs.declared.refusal.EditFault.{EditFault}
use Rattle.crush_edits.specs.declared.refusal.EditFault.TheVariants.{Refused, OutOfMemory}
use Rattle.crush_edits.specs.Answer.{After, Answer, refused, answer, first_refusal, room_test, sum_test}
use Rattle.crush_edits.specs.Outcome.{IsDone, IsChange}

-- The call changed the hierarchy f to g and returned x; `a t` is what the edit gives for the table t. Take any table t that f represents. If x is Ok, then the edit isn't refused for t, and g represents the table after the edit. If x is a refusal, then the edit gives this refusal for t. If x is OutOfMemory, then the edit would change t. If x is an Err, or if x says that nothing has changed, then g equals f
pub record AnswersAs (a : List Row → Answer) (f g : ForestData) (x : Result Done EditFault) : Type 0 where
  pub done : IfOk x (λ d. (t : List Row) → Stands f t → IsDone (Stands g) (a t) d)
  pub refused : (r : Refusal) → x ≡ Err (Refused r) → (t : List Row) → Stands f t → a t ≡ refused r
  pub change : x ≡ Err OutOfMemory → (t : List Row) → Stands f t → IsChange (a t)
  pub unchanged : OnErr x (g ≡ f)
  pub still : IfOk x (λ d. d.changed ≡ false → g ≡ f)

-- A weaker form of AnswersAs, for a call that may run out of memory whatever the edit gives for the table. If the edit has changed nothing, g need not equal f
pub record Makes (a : List Row → Answer) (f g : ForestData) (x : Result Done EditFault) : Type 0 where
  pub done : IfOk x (λ d. (t : List Row) → Stands f t → IsDone (Stands g) (a t) d)
  pub refused : (r : Refusal) → x ≡ Err (Refused r) → (t : List Row) → Stands f t → a t ≡ refused r
  pub unchanged : OnErr x (g ≡ f)

-- each place has as much room in g as in f: as many further items fit into it without a new allocation
abbrev pub KeepsRooms : ForestData → ForestData → Type 0
KeepsRooms f g = (p : Place) → room g p ≡ room f p

-- NoRoom if the table after the edit has too many items, otherwise SumTooLarge if a sum in it is too large, otherwise None
abbrev pub last_refusal : After → Option Refusal
last_refusal a = first_refusal (room_test a ∷ (sum_test a ∷ []))

-- what an edit gives if NoRoom and SumTooLarge are the only refusals that are still possible
abbrev pub last_answer : List Row → After → Answer
last_answer t a = answer (last_refusal a) t a
