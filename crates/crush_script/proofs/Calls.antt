-- Adding a call to the last script, and a number to the last list.
use Rattle.std.proofs.Common.{◌≡◌, ℕ, zero, suc, ◌+◌, List, [], ◌∷◌, ◌++◌, length, map, get_or, set, ap, sym, ◌∙◌, arith}
use Rattle.std.specs.Prelude.{Vec}
use Rattle.crush_history.specs.declared.call.Call.{Call}
use Rattle.crush_history.specs.declared.script.Script.{Script}
use Rattle.crush_history.specs.Script.{ScriptData, script_data}
use Rattle.crush_script.specs.Sections.{call_in_last, lines_data, number_in_last}

-- adding a call to the last script is replacing this script with one that has one more call
pub call_in_last-set : (c : Call) (xs : List Script) (i : ℕ) (s n : Script) → i + 1 ≡ length xs → s ≡ get_or xs i s → script_data n ≡ record (script_data s) { calls = s.calls.items ++ c ∷ [] } → call_in_last c (map script_data xs) ≡ map script_data (set xs i n)
call_in_last-set c [] i s n last is more = absurd (omega arith)
call_in_last-set c (x ∷ []) zero s n last is more = ap (λ (r : ScriptData). r ∷ []) (ap (λ (y : Script). record (script_data y) { calls = y.calls.items ++ c ∷ [] }) (sym is) ∙ sym more)
call_in_last-set c (x ∷ []) (suc i) s n last is more = absurd (omega arith)
call_in_last-set c (x ∷ y ∷ xs) zero s n last is more = absurd (omega arith)
call_in_last-set c (x ∷ y ∷ xs) (suc i) s n last is more = ap (λ (r : List ScriptData). script_data x ∷ r) (call_in_last-set c (y ∷ xs) i s n (omega arith) is more)

-- adding a number to the last list is replacing this list with one that has one more number
pub number_in_last-set : {Z : Type 0} (n : ℕ) (xs : List (Vec ℕ Z)) (i : ℕ) (s m : Vec ℕ Z) → i + 1 ≡ length xs → s ≡ get_or xs i s → m.items ≡ s.items ++ n ∷ [] → number_in_last n (lines_data xs) ≡ lines_data (set xs i m)
number_in_last-set n [] i s m last is more = absurd (omega arith)
number_in_last-set n (x ∷ []) zero s m last is more = ap (λ (r : List ℕ). r ∷ []) (ap (λ y. y.items ++ n ∷ []) (sym is) ∙ sym more)
number_in_last-set n (x ∷ []) (suc i) s m last is more = absurd (omega arith)
number_in_last-set n (x ∷ y ∷ xs) zero s m last is more = absurd (omega arith)
number_in_last-set n (x ∷ y ∷ xs) (suc i) s m last is more = ap (λ (r : List (List ℕ)). x.items ∷ r) (number_in_last-set n (y ∷ xs) i s m (omega arith) is more)
