-- The history that the editor returns when it is closed has exactly the calls of the scripts.
use Rattle.std.proofs.Common.{◌≡◌, ℕ, zero, suc, ◌<◌, ◌≤◌, List, [], ◌∷◌, length, get_or, refl, sym, ap, ◌∙◌, arith}
use Rattle.std.proofs.lemmas.List.{get_or_past}
use mathlib.Core.Logic.{dite}
use native.Mathlib.Decide.{dec_le}
use Rattle.crush_map.specs.MapData.{MapData}
use Rattle.crush_history.specs.Script.{scripts_data}
use Rattle.crush_history.specs.declared.script.Script.{Script}
use Rattle.crush_history.specs.History.{EntryData}
use Rattle.crush_history.specs.Turns.{calls_at, calls_of}
use Rattle.crush_editor.specs.Seat.{SeatData, seat_data, slips_of, IsHistoryOfSeats}
use Rattle.crush_run.specs.Script.{Carries}

at_place : (scripts : List Script) (k : ℕ) → k < length scripts → (e : Script) × (calls_at (scripts_data scripts) k ≡ (get_or scripts k e).calls.items)
at_place [] k less = absurd (omega arith)
at_place (x ∷ xs) zero less = (x, refl)
at_place (x ∷ xs) (suc k) less = at_place xs k (omega arith)

past : (scripts : List Script) (k : ℕ) → length scripts ≤ k → calls_at (scripts_data scripts) k ≡ []
past [] k above = refl
past (x ∷ xs) zero above = absurd (omega arith)
past (x ∷ xs) (suc k) above = past xs k (omega arith)

pub carries : (o m : MapData) (h : List EntryData) (scripts : List Script) (seats : List SeatData) → IsHistoryOfSeats o m h seats → length seats ≡ length scripts
    → ((k : ℕ) (e : Script) → k < length scripts → calls_of (slips_of seats k) ≡ (get_or scripts k e).calls.items) → Carries o scripts m h
carries o m h scripts seats kept same each = record {
  legal = kept.legal;
  stands = kept.stands;
  calls = λ k. dite (dec_le (suc k) (length scripts))
      (λ less. let p = at_place scripts k less in ap calls_of (kept.slips k) ∙ each k p.0 less ∙ sym p.1)
      (λ above. ap calls_of (kept.slips k ∙ ap (λ (s : SeatData). s.slips) (get_or_past seats k (seat_data 0 [] []) (omega arith))) ∙ sym (past scripts k (omega arith)));
}
