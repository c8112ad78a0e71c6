-- A law about the buckets that a location creates.
use Rattle.std.specs.Prelude.{◌≡◌, ℕ, ◌≤◌, ◌==◌, List, if◌then◌else◌}
use Rattle.std.specs.List.{count_by, sum_by}
use Rattle.crush_model.specs.Table.{Row}
use Rattle.crush_edits.specs.declared.location.Pair.{Pair}
use Rattle.crush_edits.specs.LawRoute.{of_stop}
use Rattle.crush_edits.specs.Setting.{SettingData, kind_number}
use Rattle.crush_edits.specs.Stops.{StopData, fresh_stops, stops}
use Rattle.crush_reasons.specs.Created.{is_created}

-- no two stops have the same type. A stop is a pair of a location, but with the number of the pair's type in place of the type's name
abbrev pub OnceTyped : List StopData → Type 0
OnceTyped ps = (k : ℕ) → count_by (λ (p : StopData). p.kind == k) ps ≤ 1

-- if no two stops of a location have the same type, then the pairs for which `is_created` holds are exactly the stops for which an edit creates a bucket. The law says this with sums: each function has the same sum over these pairs as over these stops. The sums leave out pairs whose types the setting doesn't have. An edit is refused if its location has such a pair, or has a type twice
abbrev pub CreatedAreFresh : Type 0
CreatedAreFresh = (s : SettingData) (t : List Row) (l : List Pair) (f : StopData → ℕ) → OnceTyped (stops s l)
    → sum_by f (fresh_stops t (stops s l)) ≡ sum_by (λ (p : Pair). if is_created s t l p then of_stop f (kind_number s p.kind) p.name else 0) l
