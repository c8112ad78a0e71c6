-- Laws of histories.
use Rattle.std.proofs.Common.{◌≡◌, ℕ, zero, suc, ◌+◌, ◌<◌, ◌==◌, Bool, true, false, List, [], ◌∷◌, ◌++◌, length, map, filter, refl, ap, sym, subst, ◌∙◌, arith, rules, tests, length-append, zero-add}
use Rattle.std.proofs.lemmas.List.{map-append, append-nil}
use Rattle.std.proofs.lemmas.List.Elements.{filter-append}
use Rattle.std.proofs.lemmas.List.Sums.{sum_by-cons}
use Rattle.crush_model.specs.Table.{Row}
use Rattle.crush_edits.specs.Setting.{SettingData}
use Rattle.crush_history.specs.declared.call.Call.{Call}
use Rattle.crush_history.specs.Script.{ScriptData, call_count}
use Rattle.crush_history.specs.History.{EntryData, AnsweredData, Counted, untouched, later, counted_after, changes, call_outcome, table_after, IsLegalBehind, IsLegal, of_operator, entry_on, turn, turns_from, turns}
use Rattle.crush_history.specs.Turns.{calls_at, calls_of, TurnsAreHistory}

-- the state after one history and then another: the second history begins in the state that the first one has left
pub counted_after-append : (s : SettingData) (q : Counted) (h g : List EntryData) → counted_after s q (h ++ g) ≡ counted_after s (counted_after s q h) g
unfolding counted_after
counted_after-append s q [] g = refl
counted_after-append s q (e ∷ h) g = counted_after-append s (later s q e) h g

pub changes-append : (h g : List EntryData) → changes (h ++ g) ≡ changes h + changes g
unfolding changes
changes-append [] g = omega arith
changes-append (e ∷ h) g = omega (arith, changes-append h g)

-- a history increases the count in the state by its number of changes
pub count-after : (s : SettingData) (q : Counted) (h : List EntryData) → (counted_after s q h).count ≡ q.count + changes h
unfolding counted_after changes
count-after s q [] = omega arith
count-after s q (e ∷ h) = omega (arith, count-after s (later s q e) h)

pub count-from : (s : SettingData) (t : List Row) (h : List EntryData) → (counted_after s (untouched t) h).count ≡ changes h
count-from s t h = omega (arith, count-after s (untouched t) h)

-- the state after a history of one entry
counted_after-one : (s : SettingData) (u : Counted) (e : EntryData) → counted_after s u (e ∷ []) ≡ later s u e
unfolding counted_after
counted_after-one s u e = refl

pub counted_after-push : (s : SettingData) (q : Counted) (h : List EntryData) (e : EntryData) → counted_after s q (h ++ e ∷ []) ≡ later s (counted_after s q h) e
counted_after-push s q h e = counted_after-append s q h (e ∷ []) ∙ counted_after-one s (counted_after s q h) e

-- if one history is legal, and another is legal after it, then both together are legal
pub IsLegal-append : (s : SettingData) (q : Counted) (h g : List EntryData) → IsLegalBehind s q h → IsLegalBehind s (counted_after s q h) g → IsLegalBehind s q (h ++ g)
unfolding counted_after IsLegalBehind
IsLegal-append s q [] g first second = second
IsLegal-append s q (e ∷ h) g first second = (first.0, IsLegal-append s (later s q e) h g first.1 second)

-- the beginning of a legal history is legal
pub IsLegal-front : (s : SettingData) (q : Counted) (h g : List EntryData) → IsLegalBehind s q (h ++ g) → IsLegalBehind s q h
unfolding IsLegalBehind
IsLegal-front s q [] g legal = tt
IsLegal-front s q (e ∷ h) g legal = (legal.0, IsLegal-front s (later s q e) h g legal.1)

-- the rest of a legal history is legal after its beginning
pub IsLegal-behind : (s : SettingData) (q : Counted) (h g : List EntryData) → IsLegalBehind s q (h ++ g) → IsLegalBehind s (counted_after s q h) g
unfolding counted_after IsLegalBehind
IsLegal-behind s q [] g legal = legal
IsLegal-behind s q (e ∷ h) g legal = IsLegal-behind s (later s q e) h g legal.1

-- a history with one more entry: the table after it, when it is legal, and the reply that the new entry has if it is legal
pub table_after-push : (s : SettingData) (t : List Row) (h : List EntryData) (e : EntryData) → table_after s t (h ++ e ∷ []) ≡ (call_outcome s (table_after s t h) (changes h) e.call).table
table_after-push s t h e =
    ap (λ (q : Counted). q.table) (counted_after-push s (untouched t) h e)
    ∙ ap (λ (n : ℕ). (call_outcome s (table_after s t h) n e.call).table) (count-from s t h)

legal_one : (s : SettingData) (u : Counted) (e : EntryData) → e.reply ≡ (call_outcome s u.table u.count e.call).reply → IsLegalBehind s u (e ∷ [])
unfolding IsLegalBehind
legal_one s u e told = (told, tt)

first_told : (s : SettingData) (u : Counted) (e : EntryData) (h : List EntryData) → IsLegalBehind s u (e ∷ h) → e.reply ≡ (call_outcome s u.table u.count e.call).reply
unfolding IsLegalBehind
first_told s u e h legal = legal.0

pub IsLegal-push : (s : SettingData) (t : List Row) (h : List EntryData) (e : EntryData) → IsLegal s t h → e.reply ≡ (call_outcome s (table_after s t h) (changes h) e.call).reply → IsLegal s t (h ++ e ∷ [])
IsLegal-push s t h e legal told =
    IsLegal-append s (untouched t) h (e ∷ []) legal
    (legal_one s (counted_after s (untouched t) h) e (told ∙ ap (λ (n : ℕ). (call_outcome s (table_after s t h) n e.call).reply) (sym (count-from s t h))))

pub last_told : (s : SettingData) (t : List Row) (h : List EntryData) (e : EntryData) → IsLegal s t (h ++ e ∷ []) → e.reply ≡ (call_outcome s (table_after s t h) (changes h) e.call).reply
last_told s t h e legal =
    first_told s (counted_after s (untouched t) h) e [] (IsLegal-behind s (untouched t) h (e ∷ []) legal)
    ∙ ap (λ (n : ℕ). (call_outcome s (table_after s t h) n e.call).reply) (count-from s t h)

-- the entries of one operator's calls are legal
pub IsLegal-turn : (s : SettingData) (q : Counted) (k : ℕ) (calls : List Call) → IsLegalBehind s q (turn s q k calls)
unfolding turn IsLegalBehind
IsLegal-turn s q k [] = tt
IsLegal-turn s q k (c ∷ cs) = (refl, IsLegal-turn s (later s q (entry_on s q k c)) k cs)

IsLegal-turns_from : (s : SettingData) (q : Counted) (k : ℕ) (scripts : List ScriptData) → IsLegalBehind s q (turns_from s q k scripts)
unfolding turns_from IsLegalBehind
IsLegal-turns_from s q k [] = tt
IsLegal-turns_from s q k (x ∷ xs) =
    IsLegal-append s q (turn s q k x.calls) _ (IsLegal-turn s q k x.calls) (IsLegal-turns_from s (counted_after s q (turn s q k x.calls)) (k + 1) xs)

-- there are as many entries as calls
pub length-turn : (s : SettingData) (q : Counted) (k : ℕ) (calls : List Call) → length (turn s q k calls) ≡ length calls
unfolding turn
length-turn s q k [] = refl
length-turn s q k (c ∷ cs) = ap suc (length-turn s (later s q (entry_on s q k c)) k cs)

length-turns_from : (s : SettingData) (q : Counted) (k : ℕ) (scripts : List ScriptData) → length (turns_from s q k scripts) ≡ call_count scripts
unfolding turns_from
length-turns_from s q k [] = refl
length-turns_from s q k (x ∷ xs) =
    length-append (turn s q k x.calls) _ ∙ ap (λ n. n + length (turns_from s (counted_after s q (turn s q k x.calls)) (k + 1) xs)) (length-turn s q k x.calls)
    ∙ ap (λ n. length x.calls + n) (length-turns_from s (counted_after s q (turn s q k x.calls)) (k + 1) xs)
    ∙ sym (sum_by-cons (λ (y : ScriptData). length y.calls) x xs)

pub length-turns : (s : SettingData) (t : List Row) (scripts : List ScriptData) → length (turns s t scripts) ≡ call_count scripts
length-turns s t scripts = length-turns_from s (untouched t) 0 scripts

-- whether the entry is one of operator k
abbrev is_of : ℕ → EntryData → Bool
is_of k e = e.operator == k

abbrev answered : EntryData → AnsweredData
answered e = record { call = e.call; reply = e.reply }

calls_of-append : (k : ℕ) (h g : List EntryData) → calls_of (of_operator k (h ++ g)) ≡ calls_of (of_operator k h) ++ calls_of (of_operator k g)
calls_of-append k h g =
    ap (λ (r : List EntryData). calls_of (map answered r)) (filter-append (is_of k) h g) ∙ ap calls_of (map-append answered (filter (is_of k) h) (filter (is_of k) g))
    ∙ map-append (λ (r : AnsweredData). r.call) (of_operator k h) (of_operator k g)

own_calls : (s : SettingData) (q : Counted) (k : ℕ) (calls : List Call) → calls_of (of_operator k (turn s q k calls)) ≡ calls
unfolding turn
own_calls s q k [] = refl
own_calls s q k (c ∷ cs) =
    let same : (k == k) ≡ true = search (rules, tests) in
    rw same (ap (λ (r : List Call). c ∷ r) (own_calls s (later s q (entry_on s q k c)) k cs))

other_calls : (s : SettingData) (q : Counted) (k j : ℕ) (calls : List Call) → (k == j) ≡ false → calls_of (of_operator j (turn s q k calls)) ≡ []
unfolding turn
other_calls s q k j [] other = refl
other_calls s q k j (c ∷ cs) other = rw other (other_calls s (later s q (entry_on s q k c)) k j cs other)

-- the entries of the scripts of operator k and later operators have no call of an earlier operator
earlier_calls : (s : SettingData) (q : Counted) (k j : ℕ) (scripts : List ScriptData) → j < k → calls_of (of_operator j (turns_from s q k scripts)) ≡ []
unfolding turns_from
earlier_calls s q k j [] less = refl
earlier_calls s q k j (x ∷ xs) less =
    let other : (k == j) ≡ false = search (rules, tests) in
    calls_of-append j (turn s q k x.calls) _ ∙ ap (λ (r : List Call). r ++ calls_of (of_operator j (turns_from s (counted_after s q (turn s q k x.calls)) (k + 1) xs))) (other_calls s q k j x.calls other)
    ∙ earlier_calls s (counted_after s q (turn s q k x.calls)) (k + 1) j xs (omega arith)

calls_of-turns_from : (s : SettingData) (q : Counted) (k j : ℕ) (scripts : List ScriptData) → calls_of (of_operator (k + j) (turns_from s q k scripts)) ≡ calls_at scripts j
unfolding turns_from
calls_of-turns_from s q k j [] = refl
calls_of-turns_from s q k zero (x ∷ xs) =
    let u : Counted = counted_after s q (turn s q k x.calls) in
    let e : k ≡ k + 0 = omega arith in
    subst (λ (n : ℕ). calls_of (of_operator n (turn s q k x.calls ++ turns_from s u (k + 1) xs)) ≡ x.calls) e
    (calls_of-append k (turn s q k x.calls) (turns_from s u (k + 1) xs)
    ∙ ap (λ (r : List Call). r ++ calls_of (of_operator k (turns_from s u (k + 1) xs))) (own_calls s q k x.calls)
    ∙ ap (λ (r : List Call). x.calls ++ r) (earlier_calls s u (k + 1) k xs (omega arith)) ∙ append-nil x.calls)
calls_of-turns_from s q k (suc j) (x ∷ xs) =
    let u : Counted = counted_after s q (turn s q k x.calls) in
    let e : (k + 1) + j ≡ k + suc j = omega arith in
    let other : (k == (k + 1) + j) ≡ false = search (rules, tests) in
    subst (λ (n : ℕ). calls_of (of_operator n (turn s q k x.calls ++ turns_from s u (k + 1) xs)) ≡ calls_at xs j) e
    (calls_of-append ((k + 1) + j) (turn s q k x.calls) (turns_from s u (k + 1) xs)
    ∙ ap (λ (r : List Call). r ++ calls_of (of_operator ((k + 1) + j) (turns_from s u (k + 1) xs))) (other_calls s q k ((k + 1) + j) x.calls other)
    ∙ calls_of-turns_from s u (k + 1) j xs)

pub turns_are_history : TurnsAreHistory
turns_are_history s t scripts = record {
  legal = IsLegal-turns_from s (untouched t) 0 scripts;
  calls = λ k. subst (λ (n : ℕ). calls_of (of_operator n (turns s t scripts)) ≡ calls_at scripts k) (zero-add k) (calls_of-turns_from s (untouched t) 0 k scripts);
  length = length-turns s t scripts;
}
