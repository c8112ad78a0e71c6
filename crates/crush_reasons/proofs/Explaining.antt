-- The lines of refused entries with their reasons, for a history that grows by one entry.
use Rattle.std.proofs.Common.{◌≡◌, ℕ, ◌+◌, ◌<◌, List, [], ◌∷◌, ◌++◌, length, take, get_or, refl, subst, sym, ap, ◌∙◌, append_assoc, arith}
use Rattle.std.proofs.lemmas.List.{append-nil, take_more, length-take-le}
use Rattle.std.specs.Prelude.{slice_index_or}
use Rattle.crush_model.specs.Stands.{Stands}
use Rattle.crush_model.specs.Table.{Row}
use Rattle.crush_map.specs.MapData.{MapData}
use Rattle.crush_edits.specs.Setting.{SettingData}
use Rattle.crush_history.specs.declared.entry.Entry.{Entry}
use Rattle.crush_history.specs.History.{EntryData}
use Rattle.crush_reasons.specs.Explained.{AreExplained, explained_behind, explained_line}
use Rattle.crush_reasons.specs.EditsLeft.{HeadData, entry_head}
use Rattle.crush_reasons.specs.Replay.{changing_edits, history_edits, table_after_edits, table_after_entry}
use Rattle.crush_reasons.proofs.Lines.{two_pushed}
use Rattle.crush_reasons.proofs.Replays.{edits-take, none-made, table-append}

-- the place of each edit of each operator, as it is printed
abbrev Heads : Type 0
Heads = ℕ → ℕ → List ℕ

-- the lines of a history, followed by the lines of one more entry
explained-push : (head : Heads) (s : SettingData) (t : List Row) (names : List (List ℕ)) (n : ℕ) (b h : List EntryData) (e : EntryData)
    → explained_behind head s t names n b (h ++ e ∷ []) ≡ explained_behind head s t names n b h ++ explained_line s (table_after_edits s t (history_edits h)) (n + length h) (slice_index_or names e.operator []) (entry_head head (b ++ h) e) e
unfolding explained_behind table_after_edits
explained-push head s t names n b [] e =
    append-nil _
    ∙ ap (λ m. explained_line s t m (slice_index_or names e.operator []) (entry_head head b e) e) (omega arith)
    ∙ ap (λ (l : List EntryData). explained_line s t (n + 0) (slice_index_or names e.operator []) (entry_head head l e) e) (sym (append-nil b))
explained-push head s t names n b (f ∷ h) e =
    let own = explained_line s t n (slice_index_or names f.operator []) (entry_head head b f) f in
    let next = table_after_entry s t f in
    let more : List EntryData = b ++ f ∷ [] in
    let others = explained_behind head s next names (n + 1) more h in
    let line : List Row → ℕ → List EntryData → List ℕ = λ u m k. explained_line s u m (slice_index_or names e.operator []) (entry_head head k e) e in
    ap (λ z. own ++ z)
    (explained-push head s next names (n + 1) more h e
    ∙ ap (λ m. others ++ line (table_after_edits s next (history_edits h)) m (more ++ h)) (omega arith)
    ∙ ap (λ u. others ++ line u (n + length (f ∷ h)) (more ++ h)) (sym (table-append s t (changing_edits f) (history_edits h)))
    ∙ ap (λ (k : List EntryData). others ++ line (table_after_edits s t (history_edits (f ∷ h))) (n + length (f ∷ h)) k) (append_assoc b (f ∷ []) h))
    ∙ sym (append_assoc own others _)

-- the same for the first entries of a list, and the next entry of the list
explained-take : (head : Heads) (s : SettingData) (t : List Row) (names : List (List ℕ)) (entries : List Entry) (i : ℕ) (e : Entry) → i < length entries → e ≡ get_or entries i e
    → explained_behind head s t names 1 [] (take (i + 1) entries)
    ≡ explained_behind head s t names 1 [] (take i entries)
    ++ explained_line s (table_after_edits s t (history_edits (take i entries))) (i + 1) (slice_index_or names e.operator []) (entry_head head (take i entries) e) e
explained-take head s t names entries i e h is =
    let so_far : List EntryData = take i entries in
    let long : length so_far ≡ i = length-take-le i entries (omega arith) in
    let u = table_after_edits s t (history_edits so_far) in
    let before = explained_behind head s t names 1 [] so_far in
    ap (λ xs. explained_behind head s t names 1 [] xs) (take_more entries i e h)
    ∙ explained-push head s t names 1 [] so_far (get_or entries i e)
    ∙ ap (λ (z : Entry). before ++ explained_line s u (1 + length so_far) (slice_index_or names z.operator []) (entry_head head so_far z) z) (sym is)
    ∙ ap (λ n. before ++ explained_line s u n (slice_index_or names e.operator []) (entry_head head so_far e) e) (omega (arith, long))

-- NO ENTRY: no entries were applied, and no lines were appended
pub none_explained : (head : Heads) (names : List (List ℕ)) (m : MapData) (x : List ℕ) → AreExplained head names m m x x []
unfolding explained_behind
none_explained head names m x = record {
  setting = refl;
  stands = λ t st. subst (Stands m.forest) (none-made m.setting t) st;
  lines = λ t st. sym (append-nil x);
}

-- ONE MORE ENTRY: its lines were appended for the map before the entry, and then its edits were applied to the map
pub more_explained : (head : Heads) (names : List (List ℕ)) (old mid new : MapData) (x y z : List ℕ) (entries : List Entry) (i : ℕ) (e : Entry) (name : List ℕ) (place : HeadData)
    → AreExplained head names old mid x y (take i entries)
    → new.setting ≡ mid.setting
    → ((t : List Row) → Stands mid.forest t → Stands new.forest (table_after_entry mid.setting t e))
    → ((t : List Row) → Stands mid.forest t → z ≡ y ++ explained_line mid.setting t (i + 1) name place e)
    → i < length entries → e ≡ get_or entries i e → name ≡ slice_index_or names e.operator [] → place ≡ entry_head head (take i entries) e
    → AreExplained head names old new x z (take (i + 1) entries)
more_explained head names old mid new x y z entries i e name place so_far same made told h is called placed =
    let s = old.setting in
    let before : List Row → List Row = λ t. table_after_edits s t (history_edits (take i entries)) in
    record {
      setting = same ∙ so_far.setting;
      stands = λ t st.
          subst (Stands new.forest)
          (ap (λ (k : SettingData). table_after_entry k (before t) e) so_far.setting
          ∙ sym (table-append s t (history_edits (take i entries)) (changing_edits e))
          ∙ ap (table_after_edits s t) (sym (edits-take entries i e h is)))
          (made (before t) (so_far.stands t st));
      lines = λ t st.
          let line = told (before t) (so_far.stands t st)
          ∙ ap (λ (k : SettingData). y ++ explained_line k (before t) (i + 1) name place e) so_far.setting
          ∙ ap (λ (n : List ℕ). y ++ explained_line s (before t) (i + 1) n place e) called
          ∙ ap (λ (p : HeadData). y ++ explained_line s (before t) (i + 1) (slice_index_or names e.operator []) p e) placed in
          two_pushed x (explained_behind head s t names 1 [] (take i entries)) (explained_line s (before t) (i + 1) (slice_index_or names e.operator []) (entry_head head (take i entries) e) e) y z (so_far.lines t st) line
          ∙ ap (λ (l : List ℕ). x ++ l) (sym (explained-take head s t names entries i e h is));
    }
