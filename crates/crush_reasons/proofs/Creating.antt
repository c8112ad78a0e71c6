-- The hints for created buckets and the lines of the entries that created them, for one more pair, edit or entry; and worked examples.
use Rattle.std.proofs.Common.{◌≡◌, ℕ, ◌+◌, ◌<◌, ◌≤◌, Bool, true, false, List, [], ◌∷◌, ◌++◌, length, drop, get_or, refl, subst, sym, ap, ◌∙◌, append_assoc}
use Rattle.std.proofs.lemmas.List.{append-nil, drop_all, drop_more}
use Rattle.std.specs.List.{list_any}
use Rattle.std.specs.Prelude.{◌||◌, codes, filter, flat_map, map, slice_index_or}
use Rattle.crush_model.specs.Stands.{Stands}
use Rattle.crush_model.specs.Table.{Row}
use Rattle.crush_map.specs.MapData.{MapData}
use Rattle.crush_edits.specs.declared.edit.Edit.{Edit}
use Rattle.crush_edits.specs.declared.location.Pair.{Pair}
use Rattle.crush_edits.specs.Setting.{SettingData}
use Rattle.crush_edits.specs.Stops.{StopData, fresh_stops, stops}
use Rattle.crush_ceph.specs.ForCeph.{table_after_edit}
use Rattle.crush_history.specs.declared.entry.Entry.{Entry}
use Rattle.crush_history.specs.History.{EntryData}
use Rattle.crush_print.proofs.Examples.{example, setting}
use Rattle.crush_reasons.specs.Created.{created_behind, created_line, edit_hints, edits_hints, has_looks, is_created, looks_after}
use Rattle.crush_reasons.specs.declared.near.TheConstants.{MOST_LOOKS}
use Rattle.crush_reasons.specs.Replay.{table_after_edits, table_after_entry}

-- the next value of a list, and the values after it
next_of : {X : Type 0} → (xs : List X) (i : ℕ) (x : X) → i < length xs → x ≡ get_or xs i x → drop i xs ≡ x ∷ drop (i + 1) xs
next_of xs i x h is = drop_more xs i x h ∙ ap (λ y. y ∷ drop (i + 1) xs) (sym is)

-- whether the test holds for one of the values that are left: it holds for the next one, or the values after it decide
pub any_here : {X : Type 0} → (test : X → Bool) (xs : List X) (i : ℕ) (x : X) → i < length xs → x ≡ get_or xs i x → test x ≡ true → list_any test (drop i xs) ≡ true
any_here test xs i x h is holds = ap (list_any test) (next_of xs i x h is) ∙ ap (λ b. b || list_any test (drop (i + 1) xs)) holds

pub any_later : {X : Type 0} → (test : X → Bool) (xs : List X) (i : ℕ) (x : X) → i < length xs → x ≡ get_or xs i x → test x ≡ false → list_any test (drop i xs) ≡ list_any test (drop (i + 1) xs)
any_later test xs i x h is fails = ap (list_any test) (next_of xs i x h is) ∙ ap (λ b. b || list_any test (drop (i + 1) xs)) fails

-- ONE MORE VALUE: its text was appended, and the texts of the values after it are left
pub text_more : {X : Type 0} → (text : X → List ℕ) (xs : List X) (i : ℕ) (x : X) (old now new : List ℕ) → i < length xs → x ≡ get_or xs i x
    → old ++ flat_map text xs ≡ now ++ flat_map text (drop i xs) → new ≡ now ++ text x
    → old ++ flat_map text xs ≡ new ++ flat_map text (drop (i + 1) xs)
text_more text xs i x old now new h is left pushed =
    let rest = flat_map text (drop (i + 1) xs) in
    left ∙ ap (λ l. now ++ flat_map text l) (next_of xs i x h is) ∙ sym (append_assoc now (text x) rest) ∙ ap (λ l. l ++ rest) (sym pushed)

-- HINTS LEFT: after some of the edits were applied to a map, the map `m` represents a table, and the edits that are left lead from this table to the table
-- after all edits. The hints so far were appended to the text `old`, which gave the text `now`
pub record HintsLeft (s : SettingData) (t : List Row) (edits : List Edit) (old now : List ℕ) (m : MapData) (left : List Edit) : Type 0 where
  pub table : List Row
  pub stands : Stands m.forest table
  pub after : table_after_edits s t edits ≡ table_after_edits s table left
  pub hints : old ++ edits_hints s t edits ≡ now ++ edits_hints s table left

pub hints_first : (s : SettingData) (t : List Row) (edits : List Edit) (x : List ℕ) (m : MapData) → Stands m.forest t → HintsLeft s t edits x x m edits
hints_first s t edits x m st = record { table = t; stands = st; after = refl; hints = refl }

-- one more edit
pub hints_more : (s : SettingData) (t : List Row) (edits : List Edit) (i : ℕ) (e : Edit) (old now new : List ℕ) (m n : MapData) → i < length edits → e ≡ get_or edits i e
    → m.setting ≡ s
    → ((u : List Row) → Stands m.forest u → new ≡ now ++ edit_hints m.setting u e)
    → ((u : List Row) → Stands m.forest u → Stands n.forest (table_after_edit m.setting u e))
    → HintsLeft s t edits old now m (drop i edits) → HintsLeft s t edits old new n (drop (i + 1) edits)
unfolding table_after_edits edits_hints
hints_more s t edits i e old now new m n h is same pushed made left =
    let u : List Row = left.table in
    let v : List Row = table_after_edit s u e in
    let next : drop i edits ≡ e ∷ drop (i + 1) edits = next_of edits i e h is in
    let rest = edits_hints s v (drop (i + 1) edits) in
    let here : new ≡ now ++ edit_hints s u e = pushed u left.stands ∙ ap (λ (k : SettingData). now ++ edit_hints k u e) same in
    record {
      table = v;
      stands = subst (λ (k : SettingData). Stands n.forest (table_after_edit k u e)) same (made u left.stands);
      after = left.after ∙ ap (λ (l : List Edit). table_after_edits s u l) next;
      hints = left.hints ∙ ap (λ (l : List Edit). now ++ edits_hints s u l) next ∙ sym (append_assoc now (edit_hints s u e) rest) ∙ ap (λ (l : List ℕ). l ++ rest) (sym here);
    }

-- no edit is left
pub hints_stand : (s : SettingData) (t : List Row) (edits : List Edit) (i : ℕ) (old now : List ℕ) (m : MapData) → length edits ≤ i → HintsLeft s t edits old now m (drop i edits) → Stands m.forest (table_after_edits s t edits)
unfolding table_after_edits
hints_stand s t edits i old now m le left = subst (Stands m.forest) (sym (left.after ∙ ap (λ (l : List Edit). table_after_edits s left.table l) (drop_all i edits le))) left.stands

pub hints_all : (s : SettingData) (t : List Row) (edits : List Edit) (i : ℕ) (old now : List ℕ) (m : MapData) → length edits ≤ i → HintsLeft s t edits old now m (drop i edits) → now ≡ old ++ edits_hints s t edits
unfolding edits_hints
hints_all s t edits i old now m le left = sym (left.hints ∙ ap (λ (l : List Edit). now ++ edits_hints s left.table l) (drop_all i edits le) ∙ append-nil now)

-- LINES LEFT: the same for the entries of a history and their lines. `number` is the number of the first entry that is left, and `looks` says for how many created buckets the map may still be searched
pub record LinesLeft (s : SettingData) (t : List Row) (names : List (List ℕ)) (h : List EntryData) (old now : List ℕ) (m : MapData) (number looks : ℕ) (left : List EntryData) : Type 0 where
  pub table : List Row
  pub stands : Stands m.forest table
  pub lines : old ++ created_behind s t names 1 MOST_LOOKS h ≡ now ++ created_behind s table names number looks left

pub lines_first : (s : SettingData) (t : List Row) (names : List (List ℕ)) (h : List EntryData) (x : List ℕ) (m : MapData) → Stands m.forest t → LinesLeft s t names h x x m 1 MOST_LOOKS h
lines_first s t names h x m st = record { table = t; stands = st; lines = refl }

-- one more entry
pub lines_more : (s : SettingData) (t : List Row) (names : List (List ℕ)) (entries : List Entry) (i : ℕ) (e : Entry) (name old now new : List ℕ) (m n : MapData) (number looks : ℕ) (has : Bool) (after : ℕ)
    → i < length entries → e ≡ get_or entries i e
    → m.setting ≡ s → name ≡ slice_index_or names e.operator [] → has ≡ has_looks looks e → after ≡ looks_after looks e
    → ((u : List Row) → Stands m.forest u → new ≡ now ++ created_line has m.setting u number name e)
    → ((u : List Row) → Stands m.forest u → Stands n.forest (table_after_entry m.setting u e))
    → LinesLeft s t names entries old now m number looks (drop i entries) → LinesLeft s t names entries old new n (number + 1) after (drop (i + 1) entries)
unfolding created_behind
lines_more s t names entries i e name old now new m n number looks has after h is same called searched less pushed made left =
    let u : List Row = left.table in
    let v : List Row = table_after_entry s u e in
    let next : drop i entries ≡ e ∷ drop (i + 1) entries = next_of entries i e h is in
    let line : List ℕ = created_line (has_looks looks e) s u number (slice_index_or names e.operator []) e in
    let rest : ℕ → List ℕ = λ k. created_behind s v names (number + 1) k (drop (i + 1) entries) in
    let here : new ≡ now ++ line =
    pushed u left.stands
    ∙ ap (λ (k : SettingData). now ++ created_line has k u number name e) same
    ∙ ap (λ (k : List ℕ). now ++ created_line has s u number k e) called
    ∙ ap (λ (k : Bool). now ++ created_line k s u number (slice_index_or names e.operator []) e) searched in
    record {
      table = v;
      stands = subst (λ (k : SettingData). Stands n.forest (table_after_entry k u e)) same (made u left.stands);
      lines =
          left.lines
          ∙ ap (λ (l : List Entry). now ++ created_behind s u names number looks l) next
          ∙ sym (append_assoc now line (rest (looks_after looks e)))
          ∙ ap (λ (l : List ℕ). l ++ rest (looks_after looks e)) (sym here)
          ∙ ap (λ (k : ℕ). new ++ rest k) (sym less);
    }

-- no entry is left
pub lines_all : (s : SettingData) (t : List Row) (names : List (List ℕ)) (entries : List Entry) (i : ℕ) (old now : List ℕ) (m : MapData) (number looks : ℕ) → length entries ≤ i
    → LinesLeft s t names entries old now m number looks (drop i entries) → now ≡ old ++ created_behind s t names 1 MOST_LOOKS entries
unfolding created_behind
lines_all s t names entries i old now m number looks le left =
    sym (left.lines ∙ ap (λ (l : List Entry). now ++ created_behind s left.table names number looks l) (drop_all i entries le) ∙ append-nil now)

-- a pair of a location
abbrev pair : List ℕ → List ℕ → Pair
pair kind name = record { kind = kind; name = name }

-- the names of the pairs for which buckets are created, and the names of the stops before the first stop that the table has. They are the same, except for their order
abbrev created : List Pair → List (List ℕ)
created l = map (λ (p : Pair). p.name) (filter (is_created setting example l) l)

abbrev fresh : List Pair → List (List ℕ)
fresh l = map (λ (p : StopData). p.name) (fresh_stops example (stops setting l))

-- a new host in a bucket of the map
new_host : (created (pair (codes "root") (codes "default") ∷ (pair (codes "host") (codes "h11") ∷ [])) ≡ codes "h11" ∷ []) × (fresh (pair (codes "root") (codes "default") ∷ (pair (codes "host") (codes "h11") ∷ [])) ≡ codes "h11" ∷ [])
new_host = (refl, refl)

-- a host of the map: the names of the types above it aren't used
old_host : (created (pair (codes "host") (codes "h1") ∷ (pair (codes "rack") (codes "r1") ∷ [])) ≡ []) × (fresh (pair (codes "host") (codes "h1") ∷ (pair (codes "rack") (codes "r1") ∷ [])) ≡ [])
old_host = (refl, refl)

-- two new buckets, in the order of the location or by ascending types
two_new : (created (pair (codes "root") (codes "defualt") ∷ (pair (codes "rack") (codes "r1") ∷ [])) ≡ codes "defualt" ∷ (codes "r1" ∷ [])) × (fresh (pair (codes "root") (codes "defualt") ∷ (pair (codes "rack") (codes "r1") ∷ [])) ≡ codes "r1" ∷ (codes "defualt" ∷ []))
two_new = (refl, refl)
