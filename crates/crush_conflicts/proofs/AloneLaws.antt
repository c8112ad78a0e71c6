-- The table of one operator's calls, one call after the other.
use Rattle.std.proofs.Common.{◌≡◌, ℕ, ◌+◌, ◌<◌, ◌==◌, Bool, true, false, List, [], ◌∷◌, ◌++◌, length, take, get_or, map, ap, sym, refl, ◌∙◌}
use Rattle.std.specs.Prelude.{filter, if◌then◌else◌}
use Rattle.std.proofs.lemmas.List.{map-append, take_more}
use Rattle.std.proofs.lemmas.List.Elements.{filter-append}
use Rattle.crush_model.specs.Table.{Row}
use Rattle.crush_edits.specs.Setting.{SettingData}
use Rattle.crush_history.specs.declared.call.Call.{Call}
use Rattle.crush_history.specs.History.{AnsweredData, EntryData, of_operator}
use Rattle.crush_history.specs.Turns.{calls_of}
use Rattle.crush_conflicts.specs.Alone.{table_after_call, table_after_entry, table_alone, table_of_operator}

table_push : (s : SettingData) (t : List Row) (cs ds : List Call) → table_alone s t (cs ++ ds) ≡ table_alone s (table_alone s t cs) ds
unfolding table_alone
table_push s t [] ds = refl
table_push s t (c ∷ cs) ds = table_push s (table_after_call s t c) cs ds

-- the call of an entry, as a list, if it is one of operator k
abbrev own_call : ℕ → EntryData → List Call
own_call k e = if e.operator == k then e.call ∷ [] else []

abbrev slip : EntryData → AnsweredData
slip e = record { call = e.call; reply = e.reply }

abbrev is_own : ℕ → EntryData → Bool
is_own k e = e.operator == k

abbrev call_of : AnsweredData → Call
call_of a = a.call

own_calls : (e : EntryData) (b : Bool) → map call_of (map slip (if b then e ∷ [] else [])) ≡ (if b then e.call ∷ [] else [])
own_calls e true = refl
own_calls e false = refl

calls_push : (k : ℕ) (h : List EntryData) (e : EntryData) → calls_of (of_operator k (h ++ e ∷ [])) ≡ calls_of (of_operator k h) ++ own_call k e
calls_push k h e =
    ap (λ l. map call_of (map slip l)) (filter-append (is_own k) h (e ∷ []))
    ∙ ap (map call_of) (map-append slip (filter (is_own k) h) (filter (is_own k) (e ∷ [])))
    ∙ map-append call_of (map slip (filter (is_own k) h)) (map slip (filter (is_own k) (e ∷ [])))
    ∙ ap (λ l. calls_of (of_operator k h) ++ l) (own_calls e (e.operator == k))

own_after : (s : SettingData) (t : List Row) (c : Call) (b : Bool) → table_alone s t (if b then c ∷ [] else []) ≡ (if b then table_after_call s t c else t)
unfolding table_alone
own_after s t c true = refl
own_after s t c false = refl

-- one more entry of the history
pub alone_more : (s : SettingData) (t : List Row) (h : List EntryData) (k i : ℕ) (e : EntryData) → i < length h → e ≡ get_or h i e
    → table_of_operator s t (take (i + 1) h) k ≡ table_after_entry s (table_of_operator s t (take i h) k) k e
alone_more s t h k i e lt is =
    ap (λ l. table_of_operator s t l k) (take_more h i e lt ∙ ap (λ x. take i h ++ x ∷ []) (sym is)) ∙ ap (table_alone s t) (calls_push k (take i h) e)
    ∙ table_push s t (calls_of (of_operator k (take i h))) (own_call k e) ∙ own_after s (table_of_operator s t (take i h) k) e.call (e.operator == k)

-- no entry
pub alone_none : (s : SettingData) (t : List Row) (k : ℕ) → table_of_operator s t [] k ≡ t
unfolding table_alone
alone_none s t k = refl
