-- Scripts without their calls.
use Rattle.std.proofs.Common.{◌≡◌, ℕ, ◌+◌, ◌<◌, Bool, true, false, ◌&&◌, List, [], ◌∷◌, ◌++◌, Option, None, Some, length, take, get_or, sym, ap, refl, ◌∙◌}
use Rattle.std.specs.Prelude.{is_some}
use Rattle.std.proofs.lemmas.List.{length-map, map_push, take_more}
use Rattle.std.proofs.lemmas.Option.{none-some}
use Rattle.crush_history.specs.HistoryText.{names_of}
use Rattle.crush_history.specs.Script.{ScriptData, script_data, scripts_data}
use Rattle.crush_history.specs.declared.script.Script.{Script}

-- with one more script, the names are the names before, followed by the name of this script
names-push : (ys : List Script) (y : Script) → names_of (scripts_data (ys ++ y ∷ [])) ≡ names_of (scripts_data ys) ++ y.name ∷ []
names-push ys y = ap names_of (map_push script_data ys y) ∙ map_push (λ (x : ScriptData). x.name) (scripts_data ys) (script_data y)

pub headings_push : (left xs : List Script) (i : ℕ) (s x : Script) → i < length xs → x ≡ get_or xs i x → s.name ≡ x.name
    → names_of (scripts_data left) ≡ names_of (scripts_data (take i xs)) → names_of (scripts_data (left ++ s ∷ [])) ≡ names_of (scripts_data (take (i + 1) xs))
headings_push left xs i s x below is named so_far =
    names-push left s
    ∙ (λ j. so_far j ++ (named ∙ ap (λ (y : Script). y.name) is) j ∷ [])
    ∙ sym (names-push (take i xs) (get_or xs i x))
    ∙ ap (λ ys. names_of (scripts_data ys)) (sym (take_more xs i x below))

-- there are as many names as scripts
pub names_counted : (scripts : List Script) → length (names_of (scripts_data scripts)) ≡ length scripts
names_counted scripts = length-map (scripts_data scripts) (λ (x : ScriptData). x.name) ∙ length-map scripts script_data

-- if both conditions are true, then the first condition is true
pub both_first : (a b : Bool) → (a && b) ≡ true → a ≡ true
both_first true b is = refl
both_first false b is = is

-- an option that has a value is not None
pub is_not_none : {X : Type 0} (o : Option X) → is_some o ≡ true → o ≡ None → ⊥
is_not_none None some none = absurd cc
is_not_none (Some x) some none = none-some x (sym none)
