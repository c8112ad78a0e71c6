-- The lines of a history with one more line.
use Rattle.std.proofs.Common.{◌≡◌, ℕ, ◌+◌, ◌<◌, List, [], ◌∷◌, ◌++◌, length, take, get_or, refl, sym, ap, subst, ◌∙◌, append_assoc, arith}
use Rattle.std.specs.Prelude.{slice_index_or}
use Rattle.std.proofs.lemmas.List.{append-nil, take_more, length-take-le, length-map, get_or-map}
use Rattle.std.proofs.lemmas.List.Elements.{All-nil, All-push}
use Rattle.crush_history.specs.History.{EntryData, change_of, changes}
use Rattle.crush_history.specs.HistoryText.{line_text, entry_text, entries_text, names_of}
use Rattle.crush_history.specs.declared.entry.Entry.{Entry}
use Rattle.crush_history.specs.Entries.{AreOf}
use Rattle.crush_history.specs.declared.script.Script.{Script}
use Rattle.crush_history.specs.Script.{ScriptData, script_data, scripts_data}

-- the lines with one more entry are the lines before, followed by the line of this entry
pub entries_text-push : (names : List (List ℕ)) (n : ℕ) (h : List EntryData) (e : EntryData)
    → entries_text names n (h ++ e ∷ []) ≡ entries_text names n h ++ entry_text (n + length h) (slice_index_or names e.operator []) e
unfolding entries_text
entries_text-push names n [] e = append-nil _ ∙ ap (λ m. entry_text m (slice_index_or names e.operator []) e) (omega arith)
entries_text-push names n (f ∷ h) e =
    ap (λ z. entry_text n (slice_index_or names f.operator []) f ++ z) (entries_text-push names (n + 1) h e ∙ ap (λ m. entries_text names (n + 1) h ++ entry_text m (slice_index_or names e.operator []) e) (omega arith))
    ∙ sym (append_assoc (entry_text n (slice_index_or names f.operator []) f) (entries_text names (n + 1) h) _)

-- one more entry adds at most one change
pub changes-push : (h : List EntryData) (e : EntryData) → changes (h ++ e ∷ []) ≡ changes h + change_of e.reply
unfolding changes
changes-push [] e = omega arith
changes-push (f ∷ h) e = omega (arith, changes-push h e)

-- the name of the script with an index
pub operator_name-at : (scripts : List Script) (i : ℕ) (x : Script) → i < length scripts → x ≡ get_or scripts i x → x.name ≡ slice_index_or (names_of (scripts_data scripts)) i []
operator_name-at scripts i x h is =
    let long : i < length (scripts_data scripts) = omega (arith, h, length-map scripts script_data) in
    ap (λ (z : Script). z.name) is
    ∙ ap (λ (z : ScriptData). z.name) (sym (get_or-map script_data scripts i x (script_data x) h))
    ∙ sym (get_or-map (λ (z : ScriptData). z.name) (scripts_data scripts) i (script_data x) [] long)

-- the number of changes in the entries up to and including index i is the number in the entries before i, plus 1 if entry i is a change
pub changes-take : (entries : List Entry) (i : ℕ) (e : Entry) → i < length entries → e ≡ get_or entries i e → changes (take (i + 1) entries) ≡ changes (take i entries) + change_of e.reply
changes-take entries i e h is =
    ap (λ xs. changes xs) (take_more entries i e h)
    ∙ changes-push (take i entries) (get_or entries i e)
    ∙ ap (λ (z : Entry). changes (take i entries) + change_of z.reply) (sym is)

-- without entries there are no changes
pub no_changes : ◌≡◌ {A = ℕ} 0 (changes [])
unfolding changes
no_changes = refl

-- the lines of the entries up to and including index i are the lines of the entries before i, followed by the line of entry i
pub lines-take : (names : List (List ℕ)) (entries : List Entry) (i : ℕ) (e : Entry) → i < length entries → e ≡ get_or entries i e
    → entries_text names 1 (take (i + 1) entries) ≡ entries_text names 1 (take i entries) ++ line_text (i + 1) (slice_index_or names e.operator []) e.call e.reply
lines-take names entries i e h is =
    let so_far : List EntryData = take i entries in
    let long : length so_far ≡ i = length-take-le i entries (omega arith) in
    ap (λ xs. entries_text names 1 xs) (take_more entries i e h)
    ∙ entries_text-push names 1 so_far (get_or entries i e)
    ∙ ap (λ (z : Entry). entries_text names 1 so_far ++ entry_text (1 + length so_far) (slice_index_or names z.operator []) z) (sym is)
    ∙ ap (λ n. entries_text names 1 so_far ++ line_text n (slice_index_or names e.operator []) e.call e.reply) (omega (arith, long))

-- without entries there are no lines
pub no_lines : (names : List (List ℕ)) → ◌≡◌ {A = List ℕ} [] (entries_text names 1 [])
unfolding entries_text
no_lines names = refl

-- if there are no entries, then each entry's operator is below n; this is still true after one more entry whose operator is below n
pub none_yet : (n : ℕ) (entries : List Entry) → entries ≡ [] → AreOf n entries
none_yet n entries is = subst (AreOf n) (sym is) (All-nil (λ (e : Entry). e.operator < n))

pub one_more : (n : ℕ) (now next : List Entry) (e : Entry) → next ≡ now ++ e ∷ [] → AreOf n now → e.operator < n → AreOf n next
one_more n now next e is all among = subst (AreOf n) (sym is) (All-push (λ (x : Entry). x.operator < n) now e all among)
