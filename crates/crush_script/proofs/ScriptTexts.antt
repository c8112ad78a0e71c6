-- Printed scripts are read back as the same scripts.
use Rattle.std.proofs.Common.{◌≡◌, ℕ, ◌+◌, ◌<◌, ◌≤◌, ◌&&◌, ◌==◌, Bool, true, false, not, cond, List, [], ◌∷◌, ◌++◌, Option, Some, None, Ok, length, map, take, drop, nat_le, refl, sym, ap, ◌∙◌, subst, arith, rules, tests, append_assoc, length-append}
use Rattle.std.specs.Prelude.{All, AllPairs, bytes_eq, codes, decimal, flat_map}
use Rattle.std.specs.List.{list_all}
use Rattle.std.proofs.lemmas.Bool.{false≢true}
use Rattle.std.proofs.lemmas.List.{append-nil, length-map, map-append, get_or_append_left, get_or-map}
use Rattle.std.proofs.lemmas.List.Elements.{All-head, All-tail}
use Rattle.std.proofs.lemmas.List.Folds.{list_any_none}
use Rattle.std.proofs.lemmas.List.Sums.{sum_by-cons}
use Rattle.std.proofs.Math.Seq.{take-append_seam, drop-append_seam, get_or-append_seam}
use Rattle.crush_units.specs.Name.{IsName}
use Rattle.crush_units.proofs.Names.{is_name_true}
use Rattle.crush_units.specs.declared.limits.TheConstants.{MOST_CALLS, MOST_EDITS, MOST_ENTRIES, MOST_OPERATORS}
use Rattle.crush_edits.specs.declared.edit.Edit.{Edit}
use Rattle.crush_edits.specs.declared.edit.Edit.TheVariants.{Place, Move, Swap, Reweight, ReweightSubtree, Remove, AddBucket, Rename, SetClass, RemoveClass}
use Rattle.crush_edits.specs.declared.edit.Placing.TheVariants.{Insert, CreateOrMove, Update}
use Rattle.crush_text.specs.Document.{IsMapText}
use Rattle.crush_history.specs.declared.call.Call.{Call}
use Rattle.crush_history.specs.declared.call.Call.TheVariants.{One, Batch, Guarded}
use Rattle.crush_history.specs.Script.{ScriptData, call_count}
use Rattle.crush_edits.specs.EditText.{edit_text}
use Rattle.crush_history.specs.HistoryText.{names_of}
use Rattle.crush_script.specs.declared.sections.BegunBatch.{BegunBatch}
use Rattle.crush_script.specs.Command.{name_at, one_name_at, end_at, begin_at, command, operator}
use Rattle.crush_script.specs.Lines.{lines, words_between_blanks, begins_section, length_to_section, map_part, section_part, section_line}
use Rattle.crush_script.specs.Sections.{SectionsData, no_sections, call_in_last, number_in_last, has_operator, without_batch, batch_call, with_line, with_lines}
use Rattle.crush_history.specs.Said.{IsSaid}
use Rattle.crush_script.specs.ScriptsText.{call_lines, script_lines, scripts_text, IsSaidCall, IsSaidScript, ends_line, JobsAreReadBack}
use Rattle.crush_script.proofs.PrintedLaws.{count_word, name_word, printed, printed_is_read}
use Rattle.crush_script.proofs.Counts.{count_read}
use Rattle.crush_script.proofs.MapTexts.{map_texts_have_no_section}
use Rattle.crush_script.proofs.PrintedWords.{joined, is_line_byte, IsWord, both, never, bytes-joined, line_words-joined}

-- LINES have no line feeds in them
abbrev is_no_feed : ℕ → Bool
is_no_feed b = not (b == 10)

abbrev IsLine : List ℕ → Type 0
IsLine line = list_all is_no_feed line ≡ true

line_bytes : (bs : List ℕ) → list_all is_line_byte bs ≡ true → IsLine bs
line_bytes [] h = refl
line_bytes (b ∷ bs) h =
    let p = both (is_line_byte b) (list_all is_line_byte bs) h in
    let no_feed = never is_line_byte b 10 refl p.0 in
    rw (no_feed, line_bytes bs p.1) refl

is_not : (t : Bool) → not t ≡ true → t ≡ false
is_not false h = refl
is_not true h = absurd (false≢true h)

-- the lines of a text that begins with a line and its line feed
lines-ended : (line rest : List ℕ) → IsLine line → lines (line ++ 10 ∷ rest) ≡ line ∷ lines rest
unfolding lines
lines-ended [] rest h = refl
lines-ended (b ∷ bs) rest h =
    let p = both (is_no_feed b) (list_all is_no_feed bs) h in
    let no_feed = is_not (b == 10) p.0 in
    rw (no_feed, lines-ended bs rest p.1) refl

abbrev AreLines : List (List ℕ) → Type 0
AreLines [] = Unit {0}
AreLines (line ∷ rest) = IsLine line × AreLines rest

are_lines-append : (a b : List (List ℕ)) → AreLines a → AreLines b → AreLines (a ++ b)
are_lines-append [] b first second = second
are_lines-append (line ∷ a) b first second = (first.0, are_lines-append a b first.1 second)

abbrev ended : List ℕ → List ℕ
ended line = line ++ codes "\n"

lines-of_text : (ls : List (List ℕ)) → AreLines ls → lines (flat_map ended ls) ≡ ls
unfolding lines
lines-of_text [] are = refl
lines-of_text (line ∷ rest) are =
    ap lines (append_assoc line (10 ∷ []) (flat_map ended rest)) ∙ lines-ended line (flat_map ended rest) are.0 ∙ ap (λ (r : List (List ℕ)). line ∷ r) (lines-of_text rest are.1)

-- the lines of an edit, of a call and of a script
edit_line : (e : Edit) → IsSaid e → IsLine (edit_text e)
edit_line e is =
    let p = printed e is in
    subst IsLine (sym p.text) (line_bytes (joined p.first p.words) (bytes-joined p.first p.words p.is p.are))

edit_lines : (es : List Edit) → All IsSaid es → AreLines (map edit_text es)
edit_lines [] all = tt
edit_lines (e ∷ es) all = (edit_line e (All-head IsSaid e es all), edit_lines es (All-tail IsSaid e es all))

begin_word : IsWord (codes "begin")
begin_word = record { some = omega arith; bytes = refl }

at_word : IsWord (codes "at")
at_word = record { some = omega arith; bytes = refl }

guard_line : (n : ℕ) → n ≤ MOST_ENTRIES → IsLine (codes "begin at " ++ decimal n)
guard_line n few = line_bytes (codes "begin at " ++ decimal n) (bytes-joined (codes "begin") (codes "at" ∷ (decimal n ∷ [])) begin_word (at_word, (count_word n few, tt)))

call_is_lines : (c : Call) → IsSaidCall c → AreLines (call_lines c)
call_is_lines (One e) is = (edit_line e is, tt)
call_is_lines (Guarded seen es) is = (guard_line seen is.2, are_lines-append (map edit_text es) (codes "commit" ∷ []) (edit_lines es is.0) (refl, tt))
call_is_lines (Batch es) is = (refl, are_lines-append (map edit_text es) (codes "commit" ∷ []) (edit_lines es is.0) (refl, tt))

calls_are_lines : (cs : List Call) → All IsSaidCall cs → AreLines (flat_map call_lines cs)
calls_are_lines [] all = tt
calls_are_lines (c ∷ cs) all = are_lines-append (call_lines c) (flat_map call_lines cs) (call_is_lines c (All-head IsSaidCall c cs all)) (calls_are_lines cs (All-tail IsSaidCall c cs all))

operator_word : IsWord (codes "%operator")
operator_word = record { some = omega arith; bytes = refl }

operator_line : (n : List ℕ) → IsName n → IsLine (codes "%operator " ++ n)
operator_line n is = line_bytes (codes "%operator " ++ n) (bytes-joined (codes "%operator") (n ∷ []) operator_word (name_word n is, tt))

scripts_are_lines : (xs : List ScriptData) → All IsSaidScript xs → AreLines (flat_map script_lines xs)
scripts_are_lines [] all = tt
scripts_are_lines (x ∷ xs) all =
    let is = All-head IsSaidScript x xs all in
    are_lines-append (script_lines x) (flat_map script_lines xs) (operator_line x.name is.name, calls_are_lines x.calls is.calls) (scripts_are_lines xs (All-tail IsSaidScript x xs all))

-- STEPS: reading certain lines leads from one state (`Said`) to another, whatever lines follow. The states leave out the numbers of the lines that have edits
record Said : Type 0 where
  scripts : List ScriptData
  calls : ℕ
  begun : Option BegunBatch

abbrev state : List ScriptData → ℕ → Option BegunBatch → Said
state scripts calls begun = record { scripts = scripts; calls = calls; begun = begun }

-- the sections in this state, with these numbers of lines
abbrev lined : List (List ℕ) → Said → SectionsData
lined numbers s = record { scripts = s.scripts; lines = numbers; calls = s.calls; begun = s.begun }

record Goes (n : ℕ) (numbers : List (List ℕ)) (s : Said) (ls : List (List ℕ)) (e : Said) : Type 0 where
  to : ℕ
  more : List (List ℕ)
  same : (rest : List (List ℕ)) → with_lines n (lined numbers s) (ls ++ rest) ≡ with_lines to (lined more e) rest

one_line : (n : ℕ) (numbers more : List (List ℕ)) (s : Said) (line : List ℕ) (e : Said) → with_line n (lined numbers s) line ≡ Ok (lined more e) → Goes n numbers s (line ∷ []) e
unfolding with_lines
one_line n numbers more s line e is = record { to = n + 1; more = more; same = λ rest. rw is refl }

no_line : (n : ℕ) (numbers : List (List ℕ)) (s : Said) → Goes n numbers s [] s
no_line n numbers s = record { to = n; more = numbers; same = λ rest. refl }

goes_on : (n : ℕ) (numbers : List (List ℕ)) (s m e : Said) (a b : List (List ℕ)) → Goes n numbers s a m → ((k : ℕ) (more : List (List ℕ)) → Goes k more m b e) → Goes n numbers s (a ++ b) e
goes_on n numbers s m e a b first second =
    let others = second first.to first.more in
    record { to = others.to; more = others.more; same = λ rest. ap (with_lines n (lined numbers s)) (append_assoc a b rest) ∙ first.same (b ++ rest) ∙ others.same rest }

goes_to : (n : ℕ) (numbers : List (List ℕ)) (s e f : Said) (ls : List (List ℕ)) → e ≡ f → Goes n numbers s ls e → Goes n numbers s ls f
goes_to n numbers s e f ls is goes = subst (Goes n numbers s ls) is goes

-- the line of an edit begins no section
begins_none : (e : Edit) → begins_section (edit_text e) ≡ false
begins_none (Place Insert d n w l) = refl
begins_none (Place CreateOrMove d n w l) = refl
begins_none (Place Update d n w l) = refl
begins_none (Move n l) = refl
begins_none (Swap a b) = refl
begins_none (Reweight n w) = refl
begins_none (ReweightSubtree n w) = refl
begins_none (Remove n) = refl
begins_none (AddBucket n kind) = refl
begins_none (Rename from to) = refl
begins_none (SetClass n c) = refl
begins_none (RemoveClass n) = refl

few : (k m : ℕ) → k < m → nat_le m k ≡ false
few k m less = search (rules, tests)

-- the edits of a batch
batch_goes : (es : List Edit) (n : ℕ) (l : List (List ℕ)) (xs : List ScriptData) (k at : ℕ) (seen : Option ℕ) (done : List Edit) → All IsSaid es → length done + length es ≤ MOST_EDITS
    → Goes n l (state xs k (Some (record { line = at; seen = seen; edits = done }))) (map edit_text es) (state xs k (Some (record { line = at; seen = seen; edits = done ++ es })))
unfolding with_line
batch_goes [] n l xs k at seen done all room = goes_to n l _ _ _ [] (ap (λ (es : List Edit). state xs k (Some (record { line = at; seen = seen; edits = es }))) (sym (append-nil done))) (no_line n l _)
batch_goes (e ∷ es) n l xs k at seen done all room =
    let is = All-head IsSaid e es all in
    let starts = begins_none e in
    let reads = printed_is_read e is in
    let less = few (length done) MOST_EDITS (omega arith) in
    let one = one_line n l (number_in_last n l) (state xs k (Some (record { line = at; seen = seen; edits = done }))) (edit_text e) (state xs k (Some (record { line = at; seen = seen; edits = done ++ e ∷ [] }))) (rw (starts, reads, less) refl) in
    goes_to n l _ _ _ _ (ap (λ (fs : List Edit). state xs k (Some (record { line = at; seen = seen; edits = fs }))) (append_assoc done (e ∷ []) es))
    (goes_on n l _ _ _ (edit_text e ∷ []) (map edit_text es) one (λ m o. batch_goes es m o xs k at seen (done ++ e ∷ []) (All-tail IsSaid e es all) (omega (arith, room, length-append done (e ∷ [])))))

-- adding a call to the last script
last_call : (c : Call) (before : List ScriptData) (x : ScriptData) → call_in_last c (before ++ x ∷ []) ≡ before ++ (record { name = x.name; calls = x.calls ++ c ∷ [] }) ∷ []
last_call c [] x = refl
last_call c (y ∷ []) x = refl
last_call c (y ∷ z ∷ before) x = ap (λ (r : List ScriptData). y ∷ r) (last_call c (z ∷ before) x)

-- the scripts, with these calls added to the last script x
abbrev in_last : List ScriptData → ScriptData → List Call → List ScriptData
in_last before x cs = before ++ (record { name = x.name; calls = x.calls ++ cs }) ∷ []

begin_goes : (n : ℕ) (l : List (List ℕ)) (xs : List ScriptData) (k : ℕ) → k < MOST_CALLS → Goes n l (state xs k None) (codes "begin" ∷ []) (state xs (k + 1) (Some (record { line = n; seen = None; edits = [] })))
unfolding with_line command words_between_blanks begin_at
begin_goes n l xs k room = let less = few k MOST_CALLS room in one_line n l l (state xs k None) (codes "begin") _ (rw less refl)

-- `begin at N`
guard_goes : (n : ℕ) (l : List (List ℕ)) (xs : List ScriptData) (k seen : ℕ) → seen ≤ MOST_ENTRIES → k < MOST_CALLS
    → Goes n l (state xs k None) ((codes "begin at " ++ decimal seen) ∷ []) (state xs (k + 1) (Some (record { line = n; seen = Some seen; edits = [] })))
unfolding with_line command begin_at end_at
guard_goes n l xs k seen small room =
    let less = few k MOST_CALLS room in
    let words = line_words-joined (codes "begin") (codes "at" ∷ (decimal seen ∷ [])) begin_word (at_word, (count_word seen small, tt)) in
    let number = count_read seen small in
    one_line n l l (state xs k None) (codes "begin at " ++ decimal seen) _ (rw (words, number, less) refl)

commit_goes : (n : ℕ) (l : List (List ℕ)) (before : List ScriptData) (x : ScriptData) (k at : ℕ) (seen : Option ℕ) (es : List Edit)
    → Goes n l (state (before ++ x ∷ []) k (Some (record { line = at; seen = seen; edits = es }))) (codes "commit" ∷ []) (state (in_last before x (batch_call seen es ∷ [])) k None)
unfolding with_line command words_between_blanks end_at
commit_goes n l before x k at seen es = one_line n l l _ (codes "commit") _ (ap (λ (xs : List ScriptData). Ok (lined l (state xs k None))) (last_call (batch_call seen es) before x))

call_goes : (c : Call) (n : ℕ) (l : List (List ℕ)) (before : List ScriptData) (x : ScriptData) (k : ℕ) → IsSaidCall c → k < MOST_CALLS
    → Goes n l (state (before ++ x ∷ []) k None) (call_lines c) (state (in_last before x (c ∷ [])) (k + 1) None)
unfolding with_line
call_goes (One e) n l before x k is room =
    let starts = begins_none e in
    let reads = printed_is_read e is in
    let less = few k MOST_CALLS room in
    one_line n l (number_in_last n l) (state (before ++ x ∷ []) k None) (edit_text e) _ (rw (starts, reads, less) (ap (λ (xs : List ScriptData). Ok (lined (number_in_last n l) (state xs (k + 1) None))) (last_call (One e) before x)))
call_goes (Batch es) n l before x k is room =
    goes_on n l _ _ _ (codes "begin" ∷ []) (map edit_text es ++ codes "commit" ∷ []) (begin_goes n l (before ++ x ∷ []) k room)
    (λ m o. goes_on m o _ _ _ (map edit_text es) (codes "commit" ∷ []) (batch_goes es m o (before ++ x ∷ []) (k + 1) n None [] is.0 (omega (arith, is.1))) (λ p q. commit_goes p q before x (k + 1) n None es))
call_goes (Guarded seen es) n l before x k is room =
    goes_on n l _ _ _ ((codes "begin at " ++ decimal seen) ∷ []) (map edit_text es ++ codes "commit" ∷ []) (guard_goes n l (before ++ x ∷ []) k seen is.2 room)
    (λ m o. goes_on m o _ _ _ (map edit_text es) (codes "commit" ∷ []) (batch_goes es m o (before ++ x ∷ []) (k + 1) n (Some seen) [] is.0 (omega (arith, is.1))) (λ p q. commit_goes p q before x (k + 1) n (Some seen) es))

calls_go : (cs : List Call) (n : ℕ) (l : List (List ℕ)) (before : List ScriptData) (x : ScriptData) (k : ℕ) → All IsSaidCall cs → k + length cs ≤ MOST_CALLS
    → Goes n l (state (before ++ x ∷ []) k None) (flat_map call_lines cs) (state (in_last before x cs) (k + length cs) None)
calls_go [] n l before x k all room =
    let none : k + 0 ≡ k = omega arith in
    goes_to n l _ _ _ [] (λ i. state (before ++ (record { name = x.name; calls = sym (append-nil x.calls) i }) ∷ []) (sym none i) None) (no_line n l _)
calls_go (c ∷ cs) n l before x k all room =
    let y : ScriptData = record { name = x.name; calls = x.calls ++ c ∷ [] } in
    let more : k + 1 + length cs ≡ k + length (c ∷ cs) = omega arith in
    goes_to n l _ _ _ _ (λ i. state (before ++ (record { name = x.name; calls = append_assoc x.calls (c ∷ []) cs i }) ∷ []) (more i) None)
    (goes_on n l _ _ _ (call_lines c) (flat_map call_lines cs) (call_goes c n l before x k (All-head IsSaidCall c cs all) (omega arith))
    (λ m o. calls_go cs m o before y (k + 1) (All-tail IsSaidCall c cs all) (omega arith)))

-- the section of an operator
script_goes : (x : ScriptData) (n : ℕ) (l : List (List ℕ)) (before : List ScriptData) (k : ℕ) → IsSaidScript x → length before < MOST_OPERATORS → has_operator before x.name ≡ false → k + length x.calls ≤ MOST_CALLS
    → Goes n l (state before k None) (script_lines x) (state (before ++ x ∷ []) (k + length x.calls) None)
unfolding with_line operator one_name_at name_at end_at
script_goes x n l before k is room own calls =
    let less = few (length before) MOST_OPERATORS room in
    let words = line_words-joined (codes "%operator") (x.name ∷ []) operator_word (name_word x.name is.name, tt) in
    let name = is_name_true x.name is.name in
    let new : ScriptData = record { name = x.name; calls = [] } in
    let head = one_line n l (l ++ [] ∷ []) (state before k None) (codes "%operator " ++ x.name) (state (before ++ new ∷ []) k None) (rw (words, name, less, own) refl) in
    goes_on n l _ _ _ ((codes "%operator " ++ x.name) ∷ []) (flat_map call_lines x.calls) head (λ m o. calls_go x.calls m o before new k is.calls calls)

-- no earlier script has the name of the script x
own_name : (before : List ScriptData) (x : ScriptData) (xs : List ScriptData) → AllPairs (λ (a b : List ℕ). bytes_eq a b ≡ false) (names_of (before ++ x ∷ xs)) → has_operator before x.name ≡ false
own_name before x xs names = list_any_none (λ (y : ScriptData). bytes_eq y.name x.name) before each
  where
    all : names_of (before ++ x ∷ xs) ≡ names_of before ++ x.name ∷ names_of xs
    all = map-append (λ (y : ScriptData). y.name) before (x ∷ xs)

    each : All (λ (y : ScriptData). bytes_eq y.name x.name ≡ false) before
    each i d inside =
        let own : List ℕ = x.name in
        let ls : List (List ℕ) = names_of before in
        let long : length ls ≡ length before = length-map before (λ (y : ScriptData). y.name) in
        let pairs = subst (λ (ns : List (List ℕ)). AllPairs (λ (a b : List ℕ). bytes_eq a b ≡ false) ns) all names in
        let apart = pairs i (length ls) d.name (omega (arith, inside, long)) (omega (arith, length-append ls (own ∷ names_of xs))) in
        let left = get_or_append_left ls (own ∷ names_of xs) d.name i (omega (arith, inside, long)) ∙ get_or-map (λ (y : ScriptData). y.name) before i d d.name inside in
        let right = get_or-append_seam ls own (names_of xs) d.name in
        sym (λ k. bytes_eq (left k) (right k)) ∙ apart

scripts_go : (xs : List ScriptData) (n : ℕ) (l : List (List ℕ)) (before : List ScriptData) (k : ℕ) → All IsSaidScript xs → length before + length xs ≤ MOST_OPERATORS
    → AllPairs (λ (a b : List ℕ). bytes_eq a b ≡ false) (names_of (before ++ xs)) → k + call_count xs ≤ MOST_CALLS
    → Goes n l (state before k None) (flat_map script_lines xs) (state (before ++ xs) (k + call_count xs) None)
scripts_go [] n l before k all room names calls =
    let none : k + 0 ≡ k = omega arith in
    goes_to n l _ _ _ [] (λ i. state (sym (append-nil before) i) (sym none i) None) (no_line n l _)
scripts_go (x ∷ xs) n l before k all room names calls =
    let sum : call_count (x ∷ xs) ≡ length x.calls + call_count xs = sum_by-cons (λ (y : ScriptData). length y.calls) x xs in
    let more : k + length x.calls + call_count xs ≡ k + call_count (x ∷ xs) = omega (arith, sum) in
    let behind = append_assoc before (x ∷ []) xs in
    goes_to n l _ _ _ _ (λ i. state (behind i) (more i) None)
    (goes_on n l _ _ _ (script_lines x) (flat_map script_lines xs)
    (script_goes x n l before k (All-head IsSaidScript x xs all) (omega arith) (own_name before x xs names) (omega (arith, calls, sum)))
    (λ m o. scripts_go xs m o (before ++ x ∷ []) (k + length x.calls) (All-tail IsSaidScript x xs all) (omega (arith, room, length-append before (x ∷ [])))
    (subst (λ (ys : List ScriptData). AllPairs (λ (a b : List ℕ). bytes_eq a b ≡ false) (names_of ys)) (sym behind) names) (omega (arith, calls, sum))))

-- THE MAP'S TEXT before the sections: none of its lines begins a section
cut_behind : (starts : Bool) (text rest : List ℕ) → length_to_section starts text ≡ length text → ends_line starts text ≡ true → (0 < length rest → begins_section rest ≡ true)
    → length_to_section starts (text ++ rest) ≡ length text
cut_behind starts [] [] whole ends begins = refl
cut_behind starts [] (c ∷ cs) whole ends begins = let first = begins (omega arith) in rw (ends, first) refl
cut_behind starts (b ∷ bs) rest whole ends begins = at (starts && b == 37) refl (λ below. cut_behind (b == 10) bs rest below ends begins)
  where
    at : (t : Bool) → (starts && b == 37) ≡ t → (length_to_section (b == 10) bs ≡ length bs → length_to_section (b == 10) (bs ++ rest) ≡ length bs) → length_to_section starts ((b ∷ bs) ++ rest) ≡ length (b ∷ bs)
    at true is again = absurd (omega (arith, ap (λ (u : Bool). cond u 0 (length_to_section (b == 10) bs + 1)) (sym is) ∙ whole))
    at false is again =
        let below : length_to_section (b == 10) bs + 1 ≡ length (b ∷ bs) = ap (λ (u : Bool). cond u 0 (length_to_section (b == 10) bs + 1)) (sym is) ∙ whole in
        ap (λ (u : Bool). cond u 0 (length_to_section (b == 10) (bs ++ rest) + 1)) is ∙ omega (arith, again (omega (arith, below)))

begins_sections : (scripts : List ScriptData) → 0 < length (scripts_text scripts) → begins_section (scripts_text scripts) ≡ true
begins_sections [] some = absurd (omega arith)
begins_sections (x ∷ xs) some = refl

-- if no batch is open at the end, the sections are complete
at_end : (n : ℕ) (e : SectionsData) → e.begun ≡ None → with_lines n e [] ≡ Ok e
unfolding with_lines
at_end n e is = ap (without_batch e) is

pub jobs_are_read_back : JobsAreReadBack
jobs_are_read_back text s t adjusted scripts is last are short =
    let rest : List ℕ = scripts_text scripts in
    let place = cut_behind true text rest (map_texts_have_no_section text s t adjusted is) last (begins_sections scripts) in
    let front : map_part (text ++ rest) ≡ text = ap (λ (n : ℕ). take n (text ++ rest)) place ∙ take-append_seam text rest in
    let back : section_part (text ++ rest) ≡ rest = ap (λ (n : ℕ). drop n (text ++ rest)) place ∙ drop-append_seam text rest in
    let number : ℕ = section_line (text ++ rest) in
    let all : List (List ℕ) = flat_map script_lines scripts in
    let none : 0 + call_count scripts ≡ call_count scripts = omega arith in
    let goes = goes_to number [] _ _ (state scripts (call_count scripts) None) all (ap (λ (k : ℕ). state scripts k None) none) (scripts_go scripts number [] [] 0 are.said (omega (arith, are.few)) are.names (omega (arith, are.calls))) in
    let read : List (List ℕ) = lines (section_part (text ++ rest)) in
    let split : read ≡ all = ap lines back ∙ lines-of_text all (scripts_are_lines scripts are.said) in
    let end = at_end goes.to (lined goes.more (state scripts (call_count scripts) None)) refl in
    record {
      short = short;
      map = subst (λ (m : List ℕ). IsMapText m s t adjusted) (sym front) is;
      said = lined goes.more (state scripts (call_count scripts) None);
      sections = ap (with_lines number no_sections) (split ∙ sym (append-nil all)) ∙ goes.same [] ∙ end;
      scripts = refl;
    }
