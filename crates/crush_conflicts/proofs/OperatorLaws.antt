-- The operators of scripts, one script after the other.
use Rattle.std.proofs.Common.{◌≡◌, ℕ, zero, suc, ◌+◌, ◌<◌, List, [], ◌∷◌, ◌++◌, length, take, get_or, ap, sym, refl, ◌∙◌, add-one, arith}
use Rattle.crush_model.specs.Table.{Row}
use Rattle.crush_edits.specs.Setting.{SettingData}
use Rattle.crush_history.specs.History.{EntryData}
use Rattle.crush_history.specs.HistoryText.{names_of}
use Rattle.crush_history.specs.Script.{scripts_data}
use Rattle.crush_history.specs.declared.script.Script.{Script}
use Rattle.crush_conflicts.specs.Alone.{table_of_operator}
use Rattle.crush_conflicts.specs.Conflicts.{OperatorData, operators_from}

abbrev operators_of : SettingData → List Row → List EntryData → ℕ → List Script → List OperatorData
operators_of s t h k scripts = operators_from s t h k (names_of (scripts_data scripts))

abbrev pub operator_of : SettingData → List Row → List EntryData → ℕ → Script → OperatorData
operator_of s t h k x = record { name = x.name; table = table_of_operator s t h k }

more_by : (s : SettingData) (t : List Row) (h : List EntryData) (k j : ℕ) (scripts : List Script) (i : ℕ) (x : Script) → i < length scripts → x ≡ get_or scripts i x → j ≡ k + i
    → operators_of s t h k (take (suc i) scripts) ≡ operators_of s t h k (take i scripts) ++ operator_of s t h j x ∷ []
more_by s t h k j [] i x lt is at = absurd (omega (arith, lt))
more_by s t h k j (y ∷ ys) zero x lt is at = let same : k ≡ j = omega (arith, at) in λ l. operator_of s t h (same l) (sym is l) ∷ []
more_by s t h k j (y ∷ ys) (suc i) x lt is at = ap (λ l. operator_of s t h k y ∷ l) (more_by s t h (k + 1) j ys i x (omega (arith, lt)) is (omega (arith, at)))

pub operators_more : (s : SettingData) (t : List Row) (h : List EntryData) (scripts : List Script) (i : ℕ) (x : Script) → i < length scripts → x ≡ get_or scripts i x
    → operators_from s t h 0 (names_of (scripts_data (take (i + 1) scripts))) ≡ operators_from s t h 0 (names_of (scripts_data (take i scripts))) ++ operator_of s t h i x ∷ []
operators_more s t h scripts i x lt is = ap (λ n. operators_of s t h 0 (take n scripts)) (add-one i) ∙ more_by s t h 0 i scripts i x lt is (omega arith)
