-- After a commit, the invariant of the book is still true.
use Rattle.std.proofs.Common.{◌≡◌, ◌≢◌, ℕ, ◌+◌, ◌<◌, ◌≤◌, Bool, true, false, Option, Some, None, List, [], ◌∷◌, ◌++◌, length, refl, sym, ap, ◌∙◌, subst, arith, length-append}
use Rattle.std.specs.Prelude.{if◌then◌else◌, IfSome}
use Rattle.std.proofs.lemmas.List.Elements.{All-push, All-nil}
use Rattle.crush_units.specs.declared.limits.TheConstants.{MOST_ENTRIES, MOST_OPERATORS}
use Rattle.crush_model.specs.Table.{Row, total}
use Rattle.crush_model.specs.Forest.{IsSound, rows_of}
use Rattle.crush_model.specs.Stands.{Stands}
use Rattle.crush_model.proofs.Stands.{stands_for_rows}
use Rattle.crush_tree.specs.Sameness.{IsSameForest}
use Rattle.crush_edits.specs.Setting.{SettingData}
use Rattle.crush_map.specs.MapData.{MapData, MapStands}
use Rattle.crush_history.specs.declared.call.Call.{Call}
use Rattle.crush_history.specs.declared.call.Reply.{Reply}
use Rattle.crush_history.specs.History.{EntryData, call_outcome, counted_after, table_after, IsLegalBehind, IsLegal, is_change, change_of, changes}
use Rattle.crush_history.specs.Turns.{Makes}
use Rattle.crush_history.proofs.Histories.{table_after-push, IsLegal-push}
use Rattle.crush_history.proofs.EntryLines.{changes-push}
use Rattle.crush_gauge.specs.declared.limits.TheConstants.{MOST_CHANGES}
use Rattle.crush_gauge.specs.declared.view.View.{View}
use Rattle.crush_gauge.specs.declared.view.View.TheVariants.{Book}
use Rattle.crush_gauge.specs.Rule.{known, Follows, grown}
use Rattle.crush_editor.specs.History.{entry, IsLegalFrom, table_from, weight_from, OpensGauge}
use Rattle.crush_editor.specs.Book.{opening_of, IsKept, IsParted, IsSameMap, MakesAll, StandsAfter, StandsAsBefore}

change-le : (b : Bool) → (if b then 1 else 0) ≤ 1
change-le true = omega arith
change-le false = omega arith

-- there are no more changes than entries
pub changes-le : (h : List EntryData) → changes h ≤ length h
unfolding changes
changes-le [] = omega arith
changes-le (e ∷ h) = let c = change-le (is_change e.reply) in let r = changes-le h in omega arith

pub counts : (p : Option MapData) (o m : MapData) (h : List EntryData) (n : ℕ) (v : View MapData EntryData) (r : Reply) → IsKept p o m h n v → n + change_of r ≤ MOST_ENTRIES + 1
counts p o m h n v r kept = let c = change-le (is_change r) in let l = changes-le h in let a = kept.room in let b = kept.counted in omega arith

-- a history with an entry isn't empty
not_empty : (h : List EntryData) (e : EntryData) → h ++ e ∷ [] ≢ []
not_empty [] e is = absurd cc
not_empty (x ∷ h) e is = absurd cc

module _ (p : Option MapData) (o m n : MapData) (h : List EntryData) (c : ℕ) (v : View MapData EntryData) (k : ℕ) (call : Call) (r : Reply) (kept : IsKept p o m h c v) (made : Makes c m n call r) where
  abbrev e : EntryData
  e = entry k call r

  -- the call was made after as many changes as the history h has
  pub made_now : Makes (changes h) m n call r
  made_now = subst (λ (i : ℕ). Makes i m n call r) kept.counted made

  abbrev there : (r ≡ (call_outcome o.setting (table_from o h) (changes h) call).reply) × MapStands n o.setting (call_outcome o.setting (table_from o h) (changes h) call).table
  there = made_now o.setting (table_from o h) kept.stands

  pub legal_push : IsLegalFrom o (h ++ e ∷ [])
  legal_push = IsLegal-push o.setting (rows_of o.forest) h e kept.legal there.0

  pub stands_push : StandsAfter o n (h ++ e ∷ [])
  stands_push = subst (MapStands n o.setting) (sym (table_after-push o.setting (rows_of o.forest) h e)) there.1

  pub all_push : MakesAll o n (h ++ e ∷ [])
  all_push s t stands =
      let so_far = kept.all s t stands in
      let now = made_now s (table_after s t h) so_far.1 in
      (IsLegal-push s t h e so_far.0 now.0, subst (MapStands n s) (sym (table_after-push s t h e)) now.1)

  pub changes_push : changes (h ++ e ∷ []) ≡ c + change_of r
  changes_push = changes-push h e ∙ ap (λ (x : ℕ). x + change_of r) (sym kept.counted)

  -- the gauge may publish the history with the new entry
  pub follows : (w : ℕ) → length h ≢ MOST_ENTRIES → ((t : List Row) → Stands n.forest t → w ≡ total t) → Follows IsLegalFrom (λ _. changes) weight_from v (e ∷ []) (c + change_of r) w
  follows w room weighs =
      let few : changes (h ++ e ∷ []) ≤ MOST_CHANGES = (let a = changes-le (h ++ e ∷ []) in let l = length-append h (e ∷ []) in let b = kept.room in omega arith) in
      let u : List Row = table_from o (h ++ e ∷ []) in
      let is : w ≡ total u = weighs u stands_push.forest in
      let light = stands_push.forest.lawful.total in
      subst (λ (x : View MapData EntryData). Follows IsLegalFrom (λ _. changes) weight_from x (e ∷ []) (c + change_of r) w) (sym kept.snapshot)
      ((legal_push, few, omega arith), changes_push, sym is)

  kept_more : k < MOST_OPERATORS → length h ≢ MOST_ENTRIES → IsKept p o n (h ++ e ∷ []) (c + change_of r) (grown (e ∷ []) v)
  kept_more below room = record {
    opening = kept.opening;
    parted = λ none. absurd (not_empty h e none);
    legal = legal_push;
    stands = stands_push;
    all = all_push;
    operators = All-push (λ (x : EntryData). x.operator < MOST_OPERATORS) h e kept.operators below;
    room = let l = length-append h (e ∷ []) in let w = kept.room in omega arith;
    counted = sym changes_push;
    snapshot = ap (grown (e ∷ [])) kept.snapshot;
  }

  pub kept_push : k < MOST_OPERATORS → length h ≢ MOST_ENTRIES → IsKept p (opening_of (grown (e ∷ []) v)) n (h ++ e ∷ []) (c + change_of r) (grown (e ∷ []) v)
  kept_push below room =
      let is : opening_of (grown (e ∷ []) v) ≡ o = ap (λ (x : View MapData EntryData). opening_of (grown (e ∷ []) x)) kept.snapshot in
      subst (λ (x : MapData). IsKept p x n (h ++ e ∷ []) (c + change_of r) (grown (e ∷ []) v)) (sym is) (kept_more below room)

-- a history without entries has no changes
no_changes : ◌≡◌ {A = ℕ} 0 (changes [])
unfolding changes
no_changes = refl

no_entry : (o : MapData) → (IsLegalFrom o []) × (table_from o [] ≡ rows_of o.forest)
unfolding IsLegalBehind counted_after
no_entry o = (tt, refl)

-- an empty history is legal, and the table after it is the table before it
nothing_asked : (s : SettingData) (t : List Row) → (IsLegal s t []) × (t ≡ table_after s t [])
unfolding IsLegalBehind counted_after
nothing_asked s t = (tt, refl)

-- the map m, which calls will change, represents each table that the opening represents
pub parted_stands : (p : Option MapData) (m o : MapData) → IsParted p m o → StandsAsBefore o m
parted_stands (Some k) m o parted = parted.stands
parted_stands None m o parted = λ s t stands. subst (λ (x : MapData). MapStands x s t) (sym parted) stands

pub parted_same : (p : Option MapData) (m o : MapData) → IsParted p m o → IsSameMap m o
parted_same (Some k) m o parted = parted.same
parted_same None m o parted = subst (λ (x : MapData). IsSameMap x o) (sym parted) record { setting = refl; forest = refl }

-- what the book keeps of the opening is the opening itself
parted_kept : (p : Option MapData) (m o : MapData) → IsParted p m o → IfSome p (λ (k : MapData). k ≡ o)
parted_kept (Some k) m o parted = parted.kept
parted_kept None m o parted = tt

all_new : (o m : MapData) → StandsAsBefore o m → MakesAll o m []
all_new o m before s t of =
    let none = nothing_asked s t in
    let now = before s t of in
    (none.0, record { setting = now.setting; forest = subst (Stands m.forest) none.1 now.forest })

-- the invariant of a book is true of a new book
first_kept : (p : Option MapData) (o m : MapData) → IsSound o.forest → IsParted p m o → IsKept p o m [] 0 (Book (known o []))
first_kept p o m sound parted =
    let first = no_entry o in
    let before = parted_stands p m o parted in
    let now : MapStands m o.setting (rows_of o.forest) = before o.setting (rows_of o.forest) record { setting = refl; forest = stands_for_rows o.forest sound } in
    record {
      opening = parted_kept p m o parted;
      parted = λ _. parted;
      legal = first.0;
      stands = record { setting = now.setting; forest = subst (Stands m.forest) (sym first.1) now.forest };
      all = all_new o m before;
      operators = All-nil (λ (e : EntryData). e.operator < MOST_OPERATORS);
      room = omega arith;
      counted = no_changes;
      snapshot = refl;
    }

pub kept_new : (p : Option MapData) (o m : MapData) (h : List EntryData) (v : View MapData EntryData) → IsSound o.forest → IsParted p m o → h ≡ [] → v ≡ Book (known o []) → IsKept p (opening_of v) m h 0 v
kept_new p o m h v sound parted none snapshot =
    subst (λ (x : List EntryData × View MapData EntryData). IsKept p (opening_of x.1) m x.0 0 x.1) (λ i. (sym none i, sym snapshot i)) (first_kept p o m sound parted)

-- an opening and its copy satisfy `IsParted`
pub copied : (o m : MapData) → m.setting ≡ o.setting → IsSameForest m.forest o.forest → ((t : List Row) → Stands o.forest t → Stands m.forest t) → IsParted (Some o) m o
copied o m setting same stands = record {
  kept = refl;
  same = record { setting = setting; forest = same };
  stands = λ s t of. record { setting = setting ∙ of.setting; forest = stands t of.forest };
}

-- the opening satisfies what a gauge requires of it (`OpensGauge`)
pub opens : (o : MapData) (w : ℕ) → IsSound o.forest → ((t : List Row) → Stands o.forest t → w ≡ total t) → OpensGauge o w
opens o w sound weighs =
    let first = no_entry o in
    let stands = stands_for_rows o.forest sound in
    let is : w ≡ total (rows_of o.forest) = weighs (rows_of o.forest) stands in
    let light = sound.lawful.total in
    let weight : weight_from o [] ≡ w = ap total first.1 ∙ sym is in
    let none = no_changes in
    ((first.0, omega arith, omega arith), (sym none, weight))
