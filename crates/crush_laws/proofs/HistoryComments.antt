-- Proves that the lines of a history are comments.
use Rattle.std.proofs.Common.{◌≡◌, ℕ, zero, suc, ◌+◌, ◌/◌, ◌%◌, ◌<◌, ◌==◌, Bool, true, false, not, List, [], ◌∷◌, ◌++◌, nat_lt, refl, ap, ◌∙◌, append_assoc, arith}
use Rattle.std.proofs.lemmas.Bool.Decides.{nat_tests}
use Rattle.std.proofs.lemmas.List.Elements.{All-head, All-tail}
use Rattle.std.proofs.lemmas.List.Folds.{list_all-append}
use Rattle.std.specs.Prelude.{All, codes, decimal, slice_index_or}
use Rattle.std.specs.List.{list_all}
use Rattle.std.specs.Fmt.{digit_glyph, digits_onto, digits}
use Rattle.crush_units.specs.Name.{IsName}
use Rattle.crush_units.specs.Weight.{weight_text, parts_of, digit}
use Rattle.crush_edits.specs.Pushed.{IsLocation}
use Rattle.crush_edits.specs.Refusal.{refusal_name, refusal_error}
use Rattle.crush_edits.specs.declared.location.Pair.{Pair}
use Rattle.crush_edits.specs.declared.edit.Edit.{Edit}
use Rattle.crush_edits.specs.declared.edit.Edit.TheVariants.{Place, Move, Swap, Reweight, ReweightSubtree, Remove, AddBucket, Rename, SetClass, RemoveClass}
use Rattle.crush_edits.specs.declared.edit.Placing.TheVariants.{Insert, CreateOrMove, Update}
use Rattle.crush_edits.specs.declared.refusal.Refusal.{Refusal}
use Rattle.crush_edits.specs.declared.refusal.Refusal.TheVariants.{BadName, BadLocation, NoSuchType, NoPlace, WeightTooLarge, NoSuchItem, NameTaken, AlreadyPlaced, NotPlaced, NotADevice, NotABucket, WrongType, Loop, Nested, NotEmpty, InUse, NotDirectory, AlreadyRenamed, NoRoom, SumTooLarge, ClassBound}
use Rattle.crush_print.proofs.PrintedWords.{in_line}
use Rattle.crush_laws.specs.ReadingBack.{are_comments}
use Rattle.crush_laws.proofs.ReadBack.{comments_behind_are_no_matter}
use Rattle.crush_laws.proofs.Comments.{within}
use Rattle.crush_history.specs.declared.call.Call.{Call}
use Rattle.crush_history.specs.declared.call.Call.TheVariants.{One, Batch, Guarded}
use Rattle.crush_history.specs.declared.call.Reply.{Reply}
use Rattle.crush_history.specs.declared.call.Reply.TheVariants.{Done, Dones, Refused, BatchRefused, Stale}
use Rattle.crush_history.specs.History.{EntryData}
use Rattle.crush_edits.specs.EditText.{pair_text, pairs_text, one_name, two_names, name_and_weight, edit_text}
use Rattle.crush_history.specs.HistoryText.{edits_text, rest_text, guard_text, call_text, digit_of, line_head, refusal_words, reply_text, line_text, entries_text}
use Rattle.crush_laws.specs.Written.{IsNamed, IsNamedCall, HistoryLinesAreComments, WhatIsWrittenIsReadBack}

-- no byte of the text is a line feed
abbrev pub IsInLine : List ℕ → Type 0
IsInLine part = list_all (λ b. not (b == 10)) part ≡ true

-- two texts without line feeds joined have no line feed
pub both_in_line : (a b : List ℕ) → IsInLine a → IsInLine b → IsInLine (a ++ b)
both_in_line a b ha hb = list_all-append (λ x. not (x == 10)) a b ∙ rw (ha, hb) refl

three_in_line : (a b c : List ℕ) → IsInLine a → IsInLine b → IsInLine c → IsInLine (a ++ b ++ c)
three_in_line a b c ha hb hc = both_in_line (a ++ b) c (both_in_line a b ha hb) hc

five_in_line : (a b c d e : List ℕ) → IsInLine a → IsInLine b → IsInLine c → IsInLine d → IsInLine e → IsInLine (a ++ b ++ c ++ d ++ e)
five_in_line a b c d e ha hb hc hd he = three_in_line (a ++ b ++ c) d e (three_in_line a b c ha hb hc) hd he

pub name_in_line : (n : List ℕ) → IsName n → IsInLine n
name_in_line n is = in_line n is.allowed

-- NUMBERS: a digit is greater than a line feed
high : (base d : ℕ) → 10 < base → not (base + d == 10) ≡ true
high base d h = grind (arith, nat_tests)

glyph_in_line : (d : ℕ) → not (digit_glyph false d == 10) ≡ true
glyph_in_line d = by_test (nat_lt d 10) refl
  where
    by_test : (t : Bool) → nat_lt d 10 ≡ t → not (digit_glyph false d == 10) ≡ true
    by_test true e = rw e (high 48 d (omega arith))
    by_test false e = rw e (high 87 d (omega arith))

digits_in_line : (k n : ℕ) (more : List ℕ) → IsInLine more → IsInLine (digits_onto k 10 false n more)
digits_in_line zero n more h = h
digits_in_line (suc k) n more h = by_test (n / 10 == 0) refl (both_in_line (digit_glyph false (n % 10) ∷ []) more (rw (glyph_in_line (n % 10)) refl) h) (digits_in_line k (n / 10) (digit_glyph false (n % 10) ∷ more) (both_in_line (digit_glyph false (n % 10) ∷ []) more (rw (glyph_in_line (n % 10)) refl) h))
  where
    by_test : (t : Bool) → (n / 10 == 0) ≡ t → IsInLine (digit_glyph false (n % 10) ∷ more) → IsInLine (digits_onto k 10 false (n / 10) (digit_glyph false (n % 10) ∷ more)) → IsInLine (digits_onto (suc k) 10 false n more)
    by_test true e last others = rw e last
    by_test false e last others = rw e others

pub number_in_line : (n : ℕ) → IsInLine (decimal n)
unfolding digits
number_in_line n = digits_in_line 64 n [] refl

-- WEIGHTS have no line feed
digit_in_line : (n : ℕ) → not (digit n == 10) ≡ true
digit_in_line n = high 48 (n % 10) (omega arith)

weight_in_line : (w : ℕ) → IsInLine (weight_text w)
weight_in_line w =
    let a = digit_in_line (parts_of w / 10000) in
    let b = digit_in_line (parts_of w / 1000) in
    let c = digit_in_line (parts_of w / 100) in
    let d = digit_in_line (parts_of w / 10) in
    let e = digit_in_line (parts_of w) in
    both_in_line (decimal (parts_of w / 100000)) (46 ∷ digit (parts_of w / 10000) ∷ digit (parts_of w / 1000) ∷ digit (parts_of w / 100) ∷ digit (parts_of w / 10) ∷ digit (parts_of w) ∷ []) (number_in_line (parts_of w / 100000)) (rw (a, b, c, d, e) refl)

-- LOCATIONS have no line feed
pair_in_line : (p : Pair) → IsName p.kind → IsName p.name → IsInLine (pair_text p)
pair_in_line p kind name = both_in_line (codes " " ++ p.kind ++ codes "=") p.name (three_in_line (codes " ") p.kind (codes "=") refl (name_in_line p.kind kind) refl) (name_in_line p.name name)

pairs_in_line : (l : List Pair) → All (λ (p : Pair). IsName p.kind) l → All (λ (p : Pair). IsName p.name) l → IsInLine (pairs_text l)
pairs_in_line [] kinds names = refl
pairs_in_line (p ∷ l) kinds names =
    both_in_line (pair_text p) (pairs_text l) (pair_in_line p (All-head (λ (q : Pair). IsName q.kind) p l kinds) (All-head (λ (q : Pair). IsName q.name) p l names))
    (pairs_in_line l (All-tail (λ (q : Pair). IsName q.kind) p l kinds) (All-tail (λ (q : Pair). IsName q.name) p l names))

location_in_line : (l : List Pair) → IsLocation l → IsInLine (pairs_text l)
location_in_line l is = pairs_in_line l is.kinds is.names

-- EDITS have no line feed
one_in_line : (word n : List ℕ) → IsInLine word → IsName n → IsInLine (one_name word n)
one_in_line word n h is = three_in_line word (codes " ") n h refl (name_in_line n is)

two_in_line : (word a b : List ℕ) → IsInLine word → IsInLine a → IsInLine b → IsInLine (word ++ codes " " ++ a ++ codes " " ++ b)
two_in_line word a b h ha hb = five_in_line word (codes " ") a (codes " ") b h refl ha refl hb

weighed_in_line : (word n : List ℕ) (w : ℕ) → IsInLine word → IsName n → IsInLine (name_and_weight word n w)
weighed_in_line word n w h is = two_in_line word n (weight_text w) h (name_in_line n is) (weight_in_line w)

names_in_line : (word a b : List ℕ) → IsInLine word → IsName a → IsName b → IsInLine (two_names word a b)
names_in_line word a b h first second = two_in_line word a b h (name_in_line a first) (name_in_line b second)

pub edit_in_line : (e : Edit) → IsNamed e → IsInLine (edit_text e)
edit_in_line (Place Insert d n w l) is = both_in_line (name_and_weight (codes "add") n w) (pairs_text l) (weighed_in_line (codes "add") n w refl is.0) (location_in_line l is.1)
edit_in_line (Place CreateOrMove d n w l) is = both_in_line (name_and_weight (codes "create-or-move") n w) (pairs_text l) (weighed_in_line (codes "create-or-move") n w refl is.0) (location_in_line l is.1)
edit_in_line (Place Update d n w l) is = both_in_line (name_and_weight (codes "set") n w) (pairs_text l) (weighed_in_line (codes "set") n w refl is.0) (location_in_line l is.1)
edit_in_line (Move n l) is = both_in_line (one_name (codes "move") n) (pairs_text l) (one_in_line (codes "move") n refl is.0) (location_in_line l is.1)
edit_in_line (Swap a b) is = names_in_line (codes "swap-bucket") a b refl is.0 is.1
edit_in_line (Reweight n w) is = weighed_in_line (codes "reweight") n w refl is
edit_in_line (ReweightSubtree n w) is = weighed_in_line (codes "reweight-subtree") n w refl is
edit_in_line (Remove n) is = one_in_line (codes "rm") n refl is
edit_in_line (AddBucket n kind) is = names_in_line (codes "add-bucket") n kind refl is.0 is.1
edit_in_line (Rename from to) is = names_in_line (codes "rename-bucket") from to refl is.0 is.1
edit_in_line (SetClass n c) is = names_in_line (codes "set-device-class") c n refl is.1 is.0
edit_in_line (RemoveClass n) is = one_in_line (codes "rm-device-class") n refl is

-- CALLS have no line feed
edits_in_line : (es : List Edit) → All IsNamed es → IsInLine (edits_text es)
edits_in_line [] h = refl
edits_in_line (e ∷ es) h =
    both_in_line (edit_text e ++ codes " ; ") (edits_text es) (both_in_line (edit_text e) (codes " ; ") (edit_in_line e (All-head IsNamed e es h)) refl) (edits_in_line es (All-tail IsNamed e es h))

call_in_line : (c : Call) → IsNamedCall c → IsInLine (call_text c)
call_in_line (One e) is = edit_in_line e is
call_in_line (Batch es) is = both_in_line (codes "begin ; ") (rest_text es) refl (both_in_line (edits_text es) (codes "commit") (edits_in_line es is) refl)
call_in_line (Guarded seen es) is =
    both_in_line (guard_text seen) (rest_text es) (three_in_line (codes "begin at ") (decimal seen) (codes " ; ") refl (number_in_line seen) refl) (both_in_line (edits_text es) (codes "commit") (edits_in_line es is) refl)

-- REPLIES, and lines
abbrev EndsLine : List ℕ → Type 0
EndsLine text = (rest : List ℕ) → are_comments true (text ++ rest) ≡ are_comments false rest

ends : (part text : List ℕ) → IsInLine part → EndsLine text → EndsLine (part ++ text)
ends part text h e rest = ap (are_comments true) (append_assoc part text rest) ∙ within part (text ++ rest) h ∙ e rest

line_feed : EndsLine (codes "\n")
line_feed rest = refl

refusal_in_line : (r : Refusal) → IsInLine (refusal_name r)
refusal_in_line BadName = refl
refusal_in_line BadLocation = refl
refusal_in_line NoSuchType = refl
refusal_in_line NoPlace = refl
refusal_in_line WeightTooLarge = refl
refusal_in_line NoSuchItem = refl
refusal_in_line NameTaken = refl
refusal_in_line AlreadyPlaced = refl
refusal_in_line NotPlaced = refl
refusal_in_line NotADevice = refl
refusal_in_line NotABucket = refl
refusal_in_line WrongType = refl
refusal_in_line Loop = refl
refusal_in_line Nested = refl
refusal_in_line NotEmpty = refl
refusal_in_line InUse = refl
refusal_in_line NotDirectory = refl
refusal_in_line AlreadyRenamed = refl
refusal_in_line NoRoom = refl
refusal_in_line SumTooLarge = refl
refusal_in_line ClassBound = refl

refusal_words_in_line : (r : Refusal) → IsInLine (refusal_words r)
refusal_words_in_line r = three_in_line (refusal_name r) (codes " ") (decimal (refusal_error r)) (refusal_in_line r) refl (number_in_line (refusal_error r))

digit_of_in_line : (b : Bool) → IsInLine (digit_of b)
digit_of_in_line true = refl
digit_of_in_line false = refl

reply_in_line : (r : Reply) → IsInLine (reply_text r)
unfolding reply_text
reply_in_line (Done d) =
    both_in_line (codes "done changed " ++ digit_of d.changed ++ codes " made ") (decimal d.made)
    (three_in_line (codes "done changed ") (digit_of d.changed) (codes " made ") refl (digit_of_in_line d.changed) refl) (number_in_line d.made)
reply_in_line (Dones d) =
    both_in_line (codes "dones " ++ decimal d.edits ++ codes " changed " ++ decimal d.changed ++ codes " made ") (decimal d.made)
    (five_in_line (codes "dones ") (decimal d.edits) (codes " changed ") (decimal d.changed) (codes " made ") refl (number_in_line d.edits) refl (number_in_line d.changed) refl) (number_in_line d.made)
reply_in_line (Refused r) = both_in_line (codes "refused ") (refusal_words r) refl (refusal_words_in_line r)
reply_in_line (BatchRefused i r) = both_in_line (codes "refused at " ++ decimal i ++ codes " ") (refusal_words r) (three_in_line (codes "refused at ") (decimal i) (codes " ") refl (number_in_line i) refl) (refusal_words_in_line r)
reply_in_line (Stale n) = both_in_line (codes "refused Stale 11 changes ") (decimal n) refl (number_in_line n)

-- LINES of a history are comment lines
abbrev IsLine : List ℕ → Type 0
IsLine text = (rest : List ℕ) → are_comments false (text ++ rest) ≡ are_comments false rest

line_is_comment : (number : ℕ) (operator : List ℕ) (c : Call) (r : Reply) → IsInLine operator → IsNamedCall c → IsLine (line_text number operator c r)
unfolding line_head
line_is_comment number operator c r h is rest =
    ends (codes " " ++ decimal number ++ codes " " ++ operator ++ codes " " ++ (call_text c ++ codes " = " ++ reply_text r)) (codes "\n")
    (both_in_line (codes " " ++ decimal number ++ codes " " ++ operator ++ codes " ") (call_text c ++ codes " = " ++ reply_text r)
    (five_in_line (codes " ") (decimal number) (codes " ") operator (codes " ") refl (number_in_line number) refl h refl)
    (three_in_line (call_text c) (codes " = ") (reply_text r) (call_in_line c is) refl (reply_in_line r)))
    line_feed rest

operator_in_line : (names : List (List ℕ)) (i : ℕ) → All IsName names → IsInLine (slice_index_or names i [])
operator_in_line [] i h = refl
operator_in_line (n ∷ names) zero h = name_in_line n (All-head IsName n names h)
operator_in_line (n ∷ names) (suc i) h = operator_in_line names i (All-tail IsName n names h)

pub history_lines_are_comments : HistoryLinesAreComments
unfolding entries_text
history_lines_are_comments names number [] ns hs = refl
history_lines_are_comments names number (e ∷ h) ns hs =
    line_is_comment number (slice_index_or names e.operator []) e.call e.reply (operator_in_line names e.operator ns) (All-head (λ (x : EntryData). IsNamedCall x.call) e h hs) (entries_text names (number + 1) h)
    ∙ history_lines_are_comments names (number + 1) h ns (All-tail (λ (x : EntryData). IsNamedCall x.call) e h hs)

-- WHAT IS WRITTEN by a run is read back as the map
pub written_is_read_back : WhatIsWrittenIsReadBack
written_is_read_back form s t names number h l f ns hs = comments_behind_are_no_matter form s t (entries_text names number h) l f (history_lines_are_comments names number h ns hs)
