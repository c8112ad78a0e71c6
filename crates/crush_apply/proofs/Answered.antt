-- The result of a call is right, as AnswersAs defines it, for each way in which a call can end.
use Rattle.std.proofs.Common.{◌≡◌, ℕ, Bool, true, false, List, ap, sym, subst, ◌∙◌, refl}
use Rattle.std.specs.Prelude.{not, length, Result, Ok, Err, IsErrAnd}
use Rattle.crush_model.specs.Table.{Row}
use Rattle.crush_model.specs.Forest.{ForestData}
use Rattle.crush_model.specs.Stands.{Stands}
use Rattle.crush_model.specs.Lawful.{Lawful, is_too_heavy, has_too_many}
use Rattle.crush_model.proofs.Passing.{lawful_room}
use Rattle.crush_model.proofs.Weighs.{lawful_light}
use Rattle.crush_edits.specs.declared.refusal.Refusal.{Refusal}
use Rattle.crush_edits.specs.declared.refusal.Refusal.TheVariants.{NoRoom, SumTooLarge}
use Rattle.crush_edits.specs.declared.refusal.Done.{Done}
use Rattle.crush_edits.specs.declared.refusal.EditFault.{EditFault}
use Rattle.crush_edits.specs.declared.refusal.EditFault.TheVariants.{Refused, OutOfMemory}
use Rattle.crush_edits.specs.Answer.{After, Answer, refused, done, kept}
use Rattle.crush_edits.specs.Changed.{same_table}
use Rattle.crush_edits.specs.Outcome.{IsDone, IsChange}
use Rattle.crush_edits.specs.Placing.{put_after}
use Rattle.crush_edits.specs.Put.{put}
use Rattle.crush_edits.specs.Stops.{fresh_stops}
use Rattle.crush_edits.proofs.Changes.{table_refl}
use Rattle.crush_apply.specs.Answered.{AnswersAs, Makes, last_answer}
use Rattle.crush_apply.specs.Destination.{DestinationData, Leads}
use Rattle.crush_apply.proofs.Refused.{same_refusal, no_want, no_refusal}

-- THE WAYS to end: done, refused, or out of memory
pub when_done : (a : List Row → Answer) (f g : ForestData) (d : Done) → (d.changed ≡ false → g ≡ f) → ((t : List Row) → Stands f t → IsDone (Stands g) (a t) d) → AnswersAs a f g (Ok d)
when_done a f g d still h = record { done = h; refused = λ r is. absurd cc; change = λ is. absurd cc; unchanged = tt; still = still }

pub when_changed : (a : List Row → Answer) (f g : ForestData) (m : ℕ) → ((t : List Row) → Stands f t → IsDone (Stands g) (a t) (record { changed = true; made = m })) → AnswersAs a f g (Ok (record { changed = true; made = m }))
when_changed a f g m h = when_done a f g _ (λ is. absurd cc) h

pub when_still : (a : List Row → Answer) (f : ForestData) (m : ℕ) → ((t : List Row) → Stands f t → IsDone (Stands f) (a t) (record { changed = false; made = m })) → AnswersAs a f f (Ok (record { changed = false; made = m }))
when_still a f m h = when_done a f f _ (λ is. refl) h

pub when_refused : (a : List Row → Answer) (f g : ForestData) (q : Refusal) (x : Result Done EditFault) → IsErrAnd x (λ e. e ≡ Refused q) → g ≡ f → ((t : List Row) → Stands f t → a t ≡ refused q) → AnswersAs a f g x
when_refused a f g q (Ok d) h same told = elim h [ ]
when_refused a f g q (Err e) h same told = record {
  done = tt;
  refused = λ r is t st. told t st ∙ ap refused (same_refusal q r (Err e) h is);
  change = λ is. absurd (no_want q (Err e) h is);
  unchanged = same;
  still = tt;
}

pub when_lacking : (a : List Row → Answer) (f g : ForestData) (x : Result Done EditFault) → IsErrAnd x (λ e. e ≡ OutOfMemory) → g ≡ f → ((t : List Row) → Stands f t → IsChange (a t)) → AnswersAs a f g x
when_lacking a f g (Ok d) h same changes = elim h [ ]
when_lacking a f g (Err e) h same changes = record {
  done = tt;
  refused = λ r is. absurd (no_refusal r (Err e) h is);
  change = λ is. changes;
  unchanged = same;
  still = tt;
}

-- an error that is passed on
pub when_passed : (a : List Row → Answer) (f g : ForestData) (e : EditFault) (x : Result Done EditFault) → IsErrAnd x (λ z. z ≡ e) → AnswersAs a f g (Err e) → AnswersAs a f g x
when_passed a f g e (Ok d) h told = elim h [ ]
when_passed a f g e (Err z) h told = subst (λ y. AnswersAs a f g (Err y)) (sym h) told

-- AnswersAs implies the weaker Makes
pub makes_so : (a : List Row → Answer) (f g : ForestData) (x : Result Done EditFault) → AnswersAs a f g x → Makes a f g x
makes_so a f g x told = record { done = told.done; refused = told.refused; unchanged = told.unchanged }

pub makes_passed : (a : List Row → Answer) (f g : ForestData) (e : EditFault) (x : Result Done EditFault) → IsErrAnd x (λ z. z ≡ e) → Makes a f g (Err e) → Makes a f g x
makes_passed a f g e (Ok d) h told = elim h [ ]
makes_passed a f g e (Err z) h told = subst (λ y. Makes a f g (Err y)) (sym h) told

-- if two results are equal and one of them is right, the other is right too
pub when_is : (a : List Row → Answer) (f g : ForestData) (x y : Result Done EditFault) → y ≡ x → AnswersAs a f g x → AnswersAs a f g y
when_is a f g x y is told = subst (AnswersAs a f g) (sym is) told

-- the same if two edits give the same for each table
pub when_same : (a b : List Row → Answer) (f g : ForestData) (x : Result Done EditFault) → ((t : List Row) → Stands f t → a t ≡ b t) → AnswersAs b f g x → AnswersAs a f g x
when_same a b f g (Ok d) same told = record {
  done = λ t st. subst (λ z. IsDone (Stands g) z d) (sym (same t st)) (told.done t st);
  refused = λ r is. absurd cc;
  change = λ is. absurd cc;
  unchanged = told.unchanged;
  still = told.still;
}
when_same a b f g (Err e) same told = record {
  done = tt;
  refused = λ r is t st. same t st ∙ told.refused r is t st;
  change = λ is t st. subst IsChange (sym (same t st)) (told.change is t st);
  unchanged = told.unchanged;
  still = told.still;
}

-- THE LAST ANSWER: only NoRoom and SumTooLarge are still possible
pub last_no_room : (t : List Row) (a : After) → has_too_many a.table ≡ true → last_answer t a ≡ refused NoRoom
last_no_room t a many = rw many refl

pub last_too_heavy : (t : List Row) (a : After) → has_too_many a.table ≡ false → is_too_heavy a.table ≡ true → last_answer t a ≡ refused SumTooLarge
last_too_heavy t a few heavy = rw (few, heavy) refl

pub last_made : (t : List Row) (a : After) → has_too_many a.table ≡ false → is_too_heavy a.table ≡ false → (b : _) → same_table t a.table ≡ b → last_answer t a ≡ done (not b) a.made a.table
last_made t a few light b same = rw (few, light) (ap (λ z. done (not z) a.made a.table) same)

-- putting the row r at the destination is what the edit gives, unless it is refused, and it changes the table
pub record IsPut (t : List Row) (a : Answer) (r : Row) (to : DestinationData) : Type 0 where
  pub leads : Leads t to
  pub told : a ≡ last_answer t (put_after t r to.stops)
  pub other : same_table t (put t r to.stops) ≡ false

pub put_no_room : {t : List Row} {a : Answer} {r : Row} {to : DestinationData} → IsPut t a r to → has_too_many (put t r to.stops) ≡ true → a ≡ refused NoRoom
put_no_room {t = t} {r = r} {to = to} p many = p.told ∙ last_no_room t (put_after t r to.stops) many

pub put_too_heavy : {t : List Row} {a : Answer} {r : Row} {to : DestinationData} → IsPut t a r to → has_too_many (put t r to.stops) ≡ false → is_too_heavy (put t r to.stops) ≡ true → a ≡ refused SumTooLarge
put_too_heavy {t = t} {r = r} {to = to} p few heavy = p.told ∙ last_too_heavy t (put_after t r to.stops) few heavy

pub put_made : {t : List Row} {a : Answer} {r : Row} {to : DestinationData} → IsPut t a r to → has_too_many (put t r to.stops) ≡ false → is_too_heavy (put t r to.stops) ≡ false → a ≡ done true to.fresh (put t r to.stops)
put_made {t = t} {r = r} {to = to} p few light = p.told ∙ last_made t (put_after t r to.stops) few light false p.other ∙ ap (λ k. done true k (put t r to.stops)) (sym p.leads.fresh)

-- the same, from the results of the two tests in the code: whether room is lacking, and whether sums fit
pub from_not : (b c : Bool) → b ≡ not c → b ≡ false → c ≡ true
from_not b true e f = refl
from_not b false e f = absurd cc

pub from_yes : (b c : Bool) → b ≡ not c → b ≡ true → c ≡ false
from_yes b true e f = absurd cc
from_yes b false e f = refl

pub sums_fail : {t : List Row} {a : Answer} {r : Row} {to : DestinationData} {lacks fits : Bool} → IsPut t a r to → lacks ≡ has_too_many (put t r to.stops) → lacks ≡ false
    → (has_too_many (put t r to.stops) ≡ false → fits ≡ not (is_too_heavy (put t r to.stops))) → fits ≡ false → a ≡ refused SumTooLarge
sums_fail {t = t} {r = r} {to = to} {fits = fits} p is few test over = let room = sym is ∙ few in put_too_heavy p room (from_not fits (is_too_heavy (put t r to.stops)) (test room) over)

pub both_pass : {t : List Row} {a : Answer} {r : Row} {to : DestinationData} {lacks fits : Bool} → IsPut t a r to → lacks ≡ has_too_many (put t r to.stops) → lacks ≡ false
    → (has_too_many (put t r to.stops) ≡ false → fits ≡ not (is_too_heavy (put t r to.stops))) → fits ≡ true → a ≡ done true to.fresh (put t r to.stops)
both_pass {t = t} {r = r} {to = to} {fits = fits} p is few test fit = let room = sym is ∙ few in put_made p room (from_yes fits (is_too_heavy (put t r to.stops)) (test room) fit)

-- putting two rows is the same if it gives the same table
pub put_same : (t : List Row) (x y : Row) (to : DestinationData) → Leads t to → put t x to.stops ≡ put t y to.stops → same_table t (put t x to.stops) ≡ false → IsPut t (last_answer t (put_after t x to.stops)) y to
put_same t x y to leads same other = record {
  leads = leads;
  told = ap (λ (u : List Row). last_answer t (record { table = u; made = length (fresh_stops t to.stops) })) same;
  other = ap (same_table t) (sym same) ∙ other;
}

-- the edit changes nothing
pub last_kept : (t : List Row) → Lawful t → last_answer t (kept t) ≡ done false 0 t
last_kept t lawful = last_made t (kept t) (lawful_room t lawful) (lawful_light t lawful) true (table_refl t)
