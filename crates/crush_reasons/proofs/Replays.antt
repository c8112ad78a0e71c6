-- Edits that are applied once more, one after the other.
use Rattle.std.proofs.Common.{◌≡◌, ℕ, ◌+◌, ◌<◌, List, [], ◌∷◌, ◌++◌, length, take, get_or, refl, sym, ap, ◌∙◌}
use Rattle.std.proofs.lemmas.List.{append-nil, take_more}
use Rattle.std.proofs.lemmas.List.Concat.{flat_map-append}
use Rattle.crush_model.specs.Table.{Row}
use Rattle.crush_edits.specs.declared.edit.Edit.{Edit}
use Rattle.crush_edits.specs.Setting.{SettingData}
use Rattle.crush_history.specs.declared.entry.Entry.{Entry}
use Rattle.crush_ceph.specs.ForCeph.{table_after_edit}
use Rattle.crush_reasons.specs.Replay.{changing_edits, history_edits, table_after_edits}

-- the table after two lists of edits, applied one list after the other
pub table-append : (s : SettingData) (t : List Row) (es fs : List Edit) → table_after_edits s t (es ++ fs) ≡ table_after_edits s (table_after_edits s t es) fs
unfolding table_after_edits
table-append s t [] fs = refl
table-append s t (e ∷ es) fs = table-append s (table_after_edit s t e) es fs

-- the map after one more edit
pub made-more : (s m : SettingData) (t : List Row) (es : List Edit) (i : ℕ) (e : Edit) → i < length es → e ≡ get_or es i e → m ≡ s
    → table_after_edits s t (take (i + 1) es) ≡ table_after_edit m (table_after_edits s t (take i es)) e
unfolding table_after_edits
made-more s m t es i e h is same =
    ap (table_after_edits s t) (take_more es i e h)
    ∙ table-append s t (take i es) (get_or es i e ∷ [])
    ∙ ap (table_after_edit s (table_after_edits s t (take i es))) (sym is)
    ∙ ap (λ (k : SettingData). table_after_edit k (table_after_edits s t (take i es)) e) (sym same)

pub none-made : (s : SettingData) (t : List Row) → t ≡ table_after_edits s t []
unfolding table_after_edits
none-made s t = refl

-- the edits of a history that changed the map, after one more entry
pub edits-take : (entries : List Entry) (i : ℕ) (e : Entry) → i < length entries → e ≡ get_or entries i e
    → history_edits (take (i + 1) entries) ≡ history_edits (take i entries) ++ changing_edits e
edits-take entries i e h is =
    ap history_edits (take_more entries i e h)
    ∙ flat_map-append changing_edits (take i entries) (get_or entries i e ∷ [])
    ∙ ap (λ (es : List Edit). history_edits (take i entries) ++ es) (append-nil (changing_edits (get_or entries i e)) ∙ ap changing_edits (sym is))
