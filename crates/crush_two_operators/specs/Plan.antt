-- A plan is a list of edits, which are called its steps. The first change of the map must be the first step, the second change must be the second step, and so on.
use Rattle.std.specs.Prelude.{ℕ, ◌≡◌, ◌+◌, ◌≤◌, List, [], ◌∷◌, Some, length, map, filter}
use Rattle.std.specs.List.{All, slice_get}
use Rattle.crush_edits.specs.declared.edit.Edit.{Edit}
use Rattle.crush_history.specs.declared.call.Call.{Call}
use Rattle.crush_history.specs.declared.call.Call.TheVariants.{Guarded}
use Rattle.crush_history.specs.History.{EntryData, AnsweredData, is_change, changes}
use Rattle.crush_editor.specs.Seat.{SeatData}

-- the call for the step e with the number n, counted from 0: a guarded batch with only this edit. The batch is made only if exactly n calls have changed the map before it
abbrev pub step : ℕ → Edit → Call
step n e = Guarded n (e ∷ [])

-- the calls for these steps, if the first step has the number n
abbrev pub steps_from : ℕ → List Edit → List Call
steps_from n [] = []
steps_from n (e ∷ es) = step n e ∷ steps_from (n + 1) es

-- the calls of a history that changed the map, in order
abbrev pub changing : List EntryData → List Call
changing h = map (λ (e : EntryData). e.call) (filter (λ (e : EntryData). is_change e.reply) h)

-- the call c is the call for a step of the plan, with the number of this step
abbrev pub IsStep : List Edit → Call → Type 0
IsStep plan c = (n : ℕ) × (e : Edit) × (slice_get plan n ≡ Some e) × (c ≡ step n e)

-- FOLLOWED: each call of the history is the call for a step of the plan. The calls that changed the map are the calls for all steps of the plan, each once and in order
pub record IsFollowed (plan : List Edit) (h : List EntryData) : Type 0 where
  pub calls : All (λ (e : EntryData). IsStep plan e.call) h
  pub steps : changing h ≡ steps_from 0 plan

-- a seat has followed the plan: `old` is the seat before, and `new` is the seat after. The operator is unchanged. A seat has a slip for each answered call. If all calls in the slips of `old` are for steps of the plan, then so are all calls in the slips of `new`. The seat `new` has seen at least as many changes as the plan has steps.
pub record HasFollowed (old : SeatData) (plan : List Edit) (new : SeatData) : Type 0 where
  pub operator : new.operator ≡ old.operator
  pub calls : All (λ (a : AnsweredData). IsStep plan a.call) old.slips → All (λ (a : AnsweredData). IsStep plan a.call) new.slips
  pub done : length plan ≤ changes new.seen
