-- Calls that are made one after the other, with one more call and one more script.
use Rattle.std.proofs.Common.{◌≡◌, ℕ, suc, ◌+◌, ◌<◌, List, [], ◌∷◌, ◌++◌, length, take, get_or, refl, sym, ap, ◌∙◌, append_assoc, arith}
use Rattle.std.proofs.lemmas.List.{append-nil, take_more, map_push, length-take-le, length-map}
use Rattle.crush_model.specs.Table.{Row}
use Rattle.crush_edits.specs.Setting.{SettingData}
use Rattle.crush_history.specs.declared.call.Call.{Call}
use Rattle.crush_history.specs.declared.call.Reply.{Reply}
use Rattle.crush_history.specs.declared.script.Script.{Script}
use Rattle.crush_history.proofs.Histories.{changes-append, count-after, count-from, counted_after-append, counted_after-push}
use Rattle.crush_history.specs.Script.{ScriptData, script_data, scripts_data}
use Rattle.crush_history.specs.History.{EntryData, Counted, untouched, behind, later, counted_after, changes, call_outcome, table_after, entry_on, turn, turns, turns_from}

-- one more call of an operator adds one entry at the end
pub turn-push : (s : SettingData) (q : Counted) (k : ℕ) (cs : List Call) (c : Call) → turn s q k (cs ++ c ∷ []) ≡ turn s q k cs ++ entry_on s (counted_after s q (turn s q k cs)) k c ∷ []
unfolding counted_after turn
turn-push s q k [] c = refl
turn-push s q k (d ∷ cs) c = ap (λ (z : List EntryData). entry_on s q k d ∷ z) (turn-push s (later s q (entry_on s q k d)) k cs c)

-- the entries of the calls up to and including index i are the entries of the calls before i, followed by the entry of call i
pub turn-take : (s : SettingData) (q : Counted) (k : ℕ) (calls : List Call) (i : ℕ) (d : Call) → i < length calls
    → turn s q k (take (i + 1) calls) ≡ turn s q k (take i calls) ++ entry_on s (counted_after s q (turn s q k (take i calls))) k (get_or calls i d) ∷ []
turn-take s q k calls i d h = ap (turn s q k) (take_more calls i d h) ∙ turn-push s q k (take i calls) (get_or calls i d)

-- one more script adds the entries of its calls at the end
pub turns_from-push : (s : SettingData) (q : Counted) (k : ℕ) (xs : List ScriptData) (x : ScriptData)
    → turns_from s q k (xs ++ x ∷ []) ≡ turns_from s q k xs ++ turn s (counted_after s q (turns_from s q k xs)) (k + length xs) x.calls
unfolding turns_from counted_after
turns_from-push s q k [] x = append-nil (turn s q k x.calls) ∙ ap (λ n. turn s q n x.calls) (omega arith)
turns_from-push s q k (y ∷ xs) x =
    let u : Counted = counted_after s q (turn s q k y.calls) in
    ap (λ z. turn s q k y.calls ++ z) (turns_from-push s u (k + 1) xs x)
    ∙ sym (append_assoc (turn s q k y.calls) (turns_from s u (k + 1) xs) _)
    ∙ (λ i. (turn s q k y.calls ++ turns_from s u (k + 1) xs) ++ turn s (sym (counted_after-append s q (turn s q k y.calls) (turns_from s u (k + 1) xs)) i) (index k (length xs) i) x.calls)
  where
    index : (k n : ℕ) → (k + 1) + n ≡ k + suc n
    index k n = omega arith

-- the entries of the scripts up to and including index i are the entries of the scripts before i, followed by the entries of script i
pub turns-take : (s : SettingData) (t : List Row) (scripts : List Script) (i : ℕ) (d : Script) → i < length scripts
    → turns s t (scripts_data (take (i + 1) scripts)) ≡ turns s t (scripts_data (take i scripts)) ++ turn s (counted_after s (untouched t) (turns s t (scripts_data (take i scripts)))) i (get_or scripts i d).calls.items
turns-take s t scripts i d h =
    let so_far : List ScriptData = scripts_data (take i scripts) in
    let long : length so_far ≡ i = length-map (take i scripts) script_data ∙ length-take-le i scripts (omega arith) in
    ap (λ xs. turns s t (scripts_data xs)) (take_more scripts i d h)
    ∙ ap (turns s t) (map_push script_data (take i scripts) (get_or scripts i d))
    ∙ turns_from-push s (untouched t) 0 so_far (script_data (get_or scripts i d))
    ∙ ap (λ n. turns s t so_far ++ turn s (counted_after s (untouched t) (turns s t so_far)) n (get_or scripts i d).calls.items) (omega (arith, long))

-- operator k has made the call with index i: the entries after it, and what the map is then
module _ (s : SettingData) (t : List Row) (k : ℕ) (calls : List Call) (i : ℕ) (c : Call) (start now : List EntryData) (below : i < length calls) (is : c ≡ get_or calls i c) (so_far : now ≡ start ++ turn s (behind t start) k (take i calls)) where
  abbrev q : Counted
  q = behind t start

  abbrev u : Counted
  u = counted_after s q (turn s q k (take i calls))

  -- the number of changes before the call is the number of changes in the history so far
  pub count_now : u.count ≡ changes now
  count_now = count-after s q (turn s q k (take i calls)) ∙ sym (changes-append start (turn s q k (take i calls))) ∙ ap changes (sym so_far)

  pub call_made : (reply : Reply) (next : List EntryData) → reply ≡ (call_outcome s u.table (changes now) c).reply → next ≡ now ++ (record { operator = k; call = c; reply = reply }) ∷ [] → next ≡ start ++ turn s q k (take (i + 1) calls)
  call_made reply next told more =
      let own : ◌≡◌ {A = EntryData} (record { operator = k; call = c; reply = reply }) (entry_on s u k (get_or calls i c)) =
      (λ j. record { operator = k; call = is j; reply = (told ∙ (λ n. (call_outcome s u.table (sym count_now n) (is n)).reply)) j }) in
      more ∙ ap (λ (z : List EntryData). z ++ (record { operator = k; call = c; reply = reply }) ∷ []) so_far
      ∙ append_assoc start (turn s q k (take i calls)) _
      ∙ ap (λ (z : EntryData). start ++ (turn s q k (take i calls) ++ z ∷ [])) own
      ∙ ap (λ (z : List EntryData). start ++ z) (sym (turn-take s q k calls i c below))

  pub table_made : (call_outcome s u.table (changes now) c).table ≡ (counted_after s q (turn s q k (take (i + 1) calls))).table
  table_made =
      (λ j. (call_outcome s u.table (sym count_now j) (is j)).table)
      ∙ ap (λ (z : Counted). z.table) (sym (counted_after-push s q (turn s q k (take i calls)) (entry_on s u k (get_or calls i c))))
      ∙ ap (λ (h : List EntryData). (counted_after s q h).table) (sym (turn-take s q k calls i c below))

-- the next script begins in the state that the scripts so far have left
state_now : (s : SettingData) (t : List Row) (scripts : List Script) (i : ℕ) (now : List EntryData) → now ≡ turns s t (scripts_data (take i scripts))
    → behind (table_after s t (turns s t (scripts_data (take i scripts)))) now ≡ counted_after s (untouched t) (turns s t (scripts_data (take i scripts)))
state_now s t scripts i now so_far =
    let before : List EntryData = turns s t (scripts_data (take i scripts)) in
    let many : changes now ≡ (counted_after s (untouched t) before).count = ap changes so_far ∙ sym (count-from s t before) in
    λ j. record { table = table_after s t before; count = many j }

-- after script i has run, the entries are those of the scripts up to and including index i
pub script_run : (s : SettingData) (t : List Row) (scripts : List Script) (i : ℕ) (x : Script) (now next : List EntryData) → i < length scripts → x ≡ get_or scripts i x
    → now ≡ turns s t (scripts_data (take i scripts)) → next ≡ now ++ turn s (behind (table_after s t (turns s t (scripts_data (take i scripts)))) now) i x.calls.items
    → next ≡ turns s t (scripts_data (take (i + 1) scripts))
script_run s t scripts i x now next h is so_far more =
    let before : List EntryData = turns s t (scripts_data (take i scripts)) in
    more ∙ (λ j. so_far j ++ turn s (state_now s t scripts i now so_far j) i x.calls.items)
    ∙ ap (λ (z : Script). before ++ turn s (counted_after s (untouched t) before) i z.calls.items) is
    ∙ sym (turns-take s t scripts i x h)

pub table_run : (s : SettingData) (t : List Row) (scripts : List Script) (i : ℕ) (x : Script) (now : List EntryData) → i < length scripts → x ≡ get_or scripts i x → now ≡ turns s t (scripts_data (take i scripts))
    → let q = behind (table_after s t (turns s t (scripts_data (take i scripts)))) now in (counted_after s q (turn s q i x.calls.items)).table ≡ table_after s t (turns s t (scripts_data (take (i + 1) scripts)))
table_run s t scripts i x now h is so_far =
    let before : List EntryData = turns s t (scripts_data (take i scripts)) in
    let q : Counted = counted_after s (untouched t) before in
    (λ j. (counted_after s (state_now s t scripts i now so_far j) (turn s (state_now s t scripts i now so_far j) i x.calls.items)).table)
    ∙ ap (λ (z : Counted). z.table) (sym (counted_after-append s (untouched t) before (turn s q i x.calls.items)))
    ∙ ap (table_after s t) (ap (λ (z : Script). before ++ turn s q i z.calls.items) is ∙ sym (turns-take s t scripts i x h))

-- before an operator's first call, none of its calls has an entry
pub no_call : (s : SettingData) (q : Counted) (k : ℕ) (start : List EntryData) → start ≡ start ++ turn s q k []
unfolding turn
no_call s q k start = sym (append-nil start)

pub no_table : (s : SettingData) (q : Counted) (k : ℕ) → q.table ≡ (counted_after s q (turn s q k [])).table
unfolding turn counted_after
no_table s q k = refl

pub no_script : (s : SettingData) (t : List Row) → ◌≡◌ {A = List EntryData} [] (turns s t [])
unfolding turns_from
no_script s t = refl

pub no_script_table : (s : SettingData) (t : List Row) → t ≡ table_after s t (turns s t [])
unfolding turns_from counted_after
no_script_table s t = refl
