-- A printed edit is read back as the same edit.
use Rattle.std.proofs.Common.{◌≡◌, ℕ, suc, ◌+◌, ◌/◌, ◌<◌, ◌≤◌, ◌^◌, true, List, [], ◌∷◌, ◌++◌, Some, Ok, length, map, take, drop, get_or, refl, sym, ap, ◌∙◌, arith, append_assoc, length-append}
use Rattle.std.specs.Prelude.{codes, decimal}
use Rattle.std.specs.List.{list_all}
use Rattle.std.specs.Str.Parse.{AllDigits}
use Rattle.std.proofs.lemmas.Bool.Decides.{nat_tests}
use Rattle.std.proofs.lemmas.Fmt.{decimal_is_IsNumeral}
use Rattle.std.proofs.lemmas.List.{append-nil, take_at}
use Rattle.std.proofs.lemmas.List.Folds.{list_all-append}
use Rattle.std.proofs.lemmas.Str.Parse.{digit_from_value}
use Rattle.std.proofs.Math.Seq.{drop-append-add}
use Rattle.crush_units.specs.Name.{IsName, is_name_byte}
use Rattle.crush_units.specs.Weight.{weight_of_text, weight_text, parts_of, digit}
use Rattle.crush_units.proofs.Names.{is_name_true}
use Rattle.crush_units.proofs.ReadBack.{read_again}
use Rattle.crush_units.specs.declared.limits.TheConstants.{MOST_ENTRIES, MOST_PAIRS}
use Rattle.crush_edits.specs.declared.location.Pair.{Pair}
use Rattle.crush_edits.specs.declared.edit.Edit.{Edit}
use Rattle.crush_edits.specs.declared.edit.Edit.TheVariants.{Place, Move, Swap, Reweight, ReweightSubtree, Remove, AddBucket, Rename, SetClass, RemoveClass}
use Rattle.crush_edits.specs.declared.edit.Placing.TheVariants.{Insert, CreateOrMove, Update}
use Rattle.crush_edits.specs.Pushed.{IsLocation}
use Rattle.crush_script.specs.declared.command.Command.TheVariants as says
use Rattle.crush_script.specs.Lines.{line_words}
use Rattle.crush_history.specs.Said.{device_named, IsSaid}
use Rattle.crush_script.specs.Words.{equals_at, pair_of}
use Rattle.crush_script.specs.Command.{name_at, weight_at, end_at, with_pair, with_pairs, location_at, placing_at, located_at, one_name_at, two_names_at, name_and_weight_at, edit_at, command}
use Rattle.crush_edits.specs.Keyword.{keyword_of}
use Rattle.crush_edits.specs.EditText.{edit_text, pairs_text, one_name}
use Rattle.crush_script.specs.Printed.{PrintedIsRead}
use Rattle.crush_script.proofs.Pairs.{pair_added}
use Rattle.crush_script.proofs.PrintedWords.{is_word_byte, IsWord, AreWords, joined, line_words-joined, both, never}

-- names and weights are words
name_bytes : (bs : List ℕ) → list_all is_name_byte bs ≡ true → list_all is_word_byte bs ≡ true
name_bytes [] h = refl
name_bytes (b ∷ bs) h =
    let p = both (is_name_byte b) (list_all is_name_byte bs) h in
    rw (p.0, name_bytes bs p.1) refl

pub name_word : (n : List ℕ) → IsName n → IsWord n
name_word n is = record { some = is.some; bytes = name_bytes n is.allowed }

digit_byte : (d : ℕ) → 48 ≤ d → d ≤ 57 → is_word_byte d ≡ true
digit_byte d low high =
    let a : (48 ≤ d) = low in
    grind (arith, nat_tests)

digits_bytes : (ds : List ℕ) → AllDigits 10 ds → list_all is_word_byte ds ≡ true
digits_bytes [] h = refl
digits_bytes (d ∷ ds) h =
    let r = digit_from_value d h.0 in
    let first = digit_byte d r.0 r.1 in
    rw (first, digits_bytes ds h.1) refl

-- a number of changes is a word
pub count_word : (n : ℕ) → n ≤ MOST_ENTRIES → IsWord (decimal n)
count_word n few =
    let is = decimal_is_IsNumeral n (omega arith) in
    record { some = is.0.0; bytes = digits_bytes (decimal n) is.0.1 }

last_digit : (n : ℕ) → is_word_byte (digit n) ≡ true
last_digit n = digit_byte (digit n) (omega arith) (omega arith)

weight_word : (w : ℕ) → w < 2 ^ 32 → IsWord (weight_text w)
weight_word w small =
    let whole = decimal_is_IsNumeral (parts_of w / 100000) (omega arith) in
    let a = last_digit (parts_of w / 10000) in
    let b = last_digit (parts_of w / 1000) in
    let c = last_digit (parts_of w / 100) in
    let d = last_digit (parts_of w / 10) in
    let e = last_digit (parts_of w) in
    let tail : List ℕ = 46 ∷ digit (parts_of w / 10000) ∷ digit (parts_of w / 1000) ∷ digit (parts_of w / 100) ∷ digit (parts_of w / 10) ∷ digit (parts_of w) ∷ [] in
    let tail_bytes : list_all is_word_byte tail ≡ true = rw (a, b, c, d, e) refl in
    record {
      some = omega (arith, length-append (decimal (parts_of w / 100000)) tail);
      bytes = list_all-append is_word_byte (decimal (parts_of w / 100000)) tail ∙ rw (digits_bytes (decimal (parts_of w / 100000)) whole.0.1, tail_bytes) refl;
    }

-- a pair as a word
abbrev pair_word : Pair → List ℕ
pair_word p = p.kind ++ 61 ∷ p.name

pair_is_word : (p : Pair) → IsName p.kind → IsName p.name → IsWord (pair_word p)
pair_is_word p kind name = record {
  some = omega (arith, length-append p.kind (61 ∷ p.name));
  bytes = list_all-append is_word_byte p.kind (61 ∷ p.name) ∙ rw (name_bytes p.kind kind.allowed, name_bytes p.name name.allowed) refl;
}

equals-behind : (kind name : List ℕ) → list_all is_name_byte kind ≡ true → equals_at (kind ++ 61 ∷ name) ≡ length kind
equals-behind [] name h = refl
equals-behind (b ∷ bs) name h =
    let p = both (is_name_byte b) (list_all is_name_byte bs) h in
    let other = never is_name_byte b 61 refl p.0 in
    rw (other, equals-behind bs name p.1) (omega arith)

pair_of-word : (p : Pair) → IsName p.kind → pair_of (pair_word p) ≡ p
pair_of-word p kind =
    let place = equals-behind p.kind p.name kind.allowed in
    let front : take (equals_at (pair_word p)) (pair_word p) ≡ p.kind = take_at p.kind (61 ∷ p.name) (equals_at (pair_word p)) (sym place) in
    let back : drop (equals_at (pair_word p) + 1) (pair_word p) ≡ p.name = ap (λ (n : ℕ). drop (n + 1) (pair_word p)) place ∙ drop-append-add p.kind (61 ∷ p.name) 1 in
    λ i. record { kind = front i; name = back i }

-- the pairs of a location, as words
record ArePairs (l : List Pair) : Type 0 where
  words : AreWords (map pair_word l)
  reads : (first : ℕ) (m : List Pair) → length m + length l ≤ MOST_PAIRS → with_pairs first m (map pair_word l) ≡ Ok (m ++ l)

one_pair : (first : ℕ) (m : List Pair) (p : Pair) → length m < MOST_PAIRS → IsName p.kind → IsName p.name → with_pair first m (pair_word p) ≡ Ok (m ++ p ∷ [])
one_pair first m p few kind name =
    let e = pair_of-word p kind in
    pair_added first m (m ++ p ∷ []) (pair_word p) p.kind p.name (ap (λ (q : Pair). q.kind) (sym e)) (ap (λ (q : Pair). q.name) (sym e)) (record { room = few; kind_form = kind; name_form = name }) refl

pairs : (l : List Pair) → ((k : ℕ) (d : Pair) → k < length l → IsName (get_or l k d).kind × IsName (get_or l k d).name) → ArePairs l
unfolding with_pairs
pairs [] names = record { words = tt; reads = λ first m few. ap Ok (sym (append-nil m)) }
pairs (p ∷ l) names =
    let first = names 0 p (omega arith) in
    let others = pairs l (λ k d h. names (suc k) d (omega arith)) in
    record {
      words = (pair_is_word p first.0 first.1, others.words);
      reads = λ at m few. rw (one_pair at m p (omega arith) first.0 first.1) (others.reads at (m ++ p ∷ []) (omega (arith, few, length-append m (p ∷ []))) ∙ ap Ok (append_assoc m (p ∷ []) l));
    }

of_location : (l : List Pair) → IsLocation l → ArePairs l
of_location l is = pairs l (λ k d h. (is.kinds k d h, is.names k d h))

-- the printed text consists of words with one space between them
pairs-joined : (v : List ℕ) (l : List Pair) → v ++ pairs_text l ≡ joined v (map pair_word l)
pairs-joined v [] = append-nil v
pairs-joined v (p ∷ l) =
    ap (λ (r : List ℕ). v ++ 32 ∷ (r ++ pairs_text l)) (append_assoc p.kind (61 ∷ []) p.name) ∙ ap (λ (r : List ℕ). v ++ 32 ∷ r) (pairs-joined (pair_word p) l)

three : (a b c : List ℕ) → a ++ b ++ c ≡ a ++ (b ++ c)
three a b c = simp append_assoc

five : (a b c d e : List ℕ) → a ++ b ++ c ++ d ++ e ≡ a ++ (b ++ (c ++ (d ++ e)))
five a b c d e = simp append_assoc

one-joined : (first n : List ℕ) → one_name first n ≡ joined first (n ∷ [])
one-joined first n = three first (codes " ") n

two-joined : (first a b : List ℕ) → first ++ codes " " ++ a ++ codes " " ++ b ≡ joined first (a ∷ (b ∷ []))
two-joined first a b = five first (codes " ") a (codes " ") b

move-joined : (first n : List ℕ) (l : List Pair) → one_name first n ++ pairs_text l ≡ joined first (n ∷ map pair_word l)
move-joined first n l = ap (λ (r : List ℕ). r ++ pairs_text l) (three first (codes " ") n) ∙ three first (32 ∷ n) (pairs_text l) ∙ ap (λ (r : List ℕ). first ++ 32 ∷ r) (pairs-joined n l)

placing-joined : (first n v : List ℕ) (l : List Pair) → (first ++ codes " " ++ n ++ codes " " ++ v) ++ pairs_text l ≡ joined first (n ∷ (v ∷ map pair_word l))
placing-joined first n v l =
    ap (λ (r : List ℕ). r ++ pairs_text l) (five first (codes " ") n (codes " ") v) ∙ grouped first n v (pairs_text l)
    ∙ ap (λ (r : List ℕ). first ++ 32 ∷ (n ++ 32 ∷ r)) (pairs-joined v l)
  where
    grouped : (a b c d : List ℕ) → (a ++ (32 ∷ (b ++ (32 ∷ c)))) ++ d ≡ a ++ (32 ∷ (b ++ (32 ∷ (c ++ d))))
    grouped a b c d = append_assoc a (32 ∷ (b ++ (32 ∷ c))) d ∙ ap (λ (r : List ℕ). a ++ 32 ∷ r) (append_assoc b (32 ∷ c) d)

-- reading the words after the first word
placing_read : (d : ℕ) (n v : List ℕ) (w : ℕ) (l : List Pair) → IsName n → device_named n ≡ Some d → weight_of_text v ≡ Ok w → ArePairs l → length l ≤ MOST_PAIRS
    → placing_at (n ∷ (v ∷ map pair_word l)) ≡ Ok (record { device = d; name = n; weight = w; at = l })
unfolding placing_at name_at weight_at location_at
placing_read d n v w l name device weight are few = let a = is_name_true n name in rw (a, device, weight, are.reads 3 [] (omega arith)) refl

located_read : (n : List ℕ) (l : List Pair) → IsName n → ArePairs l → length l ≤ MOST_PAIRS → located_at (n ∷ map pair_word l) ≡ Ok (n, l)
unfolding located_at name_at location_at
located_read n l name are few = let a = is_name_true n name in rw (a, are.reads 2 [] (omega arith)) refl

one_name_read : (n : List ℕ) → IsName n → one_name_at (n ∷ []) ≡ Ok n
unfolding one_name_at name_at end_at
one_name_read n name = let x = is_name_true n name in rw x refl

two_names_read : (a b : List ℕ) → IsName a → IsName b → two_names_at (a ∷ (b ∷ [])) ≡ Ok (a, b)
unfolding two_names_at name_at end_at
two_names_read a b first second = let x = is_name_true a first in let y = is_name_true b second in rw (x, y) refl

weighed_read : (n v : List ℕ) (w : ℕ) → IsName n → weight_of_text v ≡ Ok w → name_and_weight_at (n ∷ (v ∷ [])) ≡ Ok (n, w)
unfolding name_and_weight_at name_at weight_at end_at
weighed_read n v w name weight = let x = is_name_true n name in rw (x, weight) refl

-- the words of a printed edit, which are parsed as this edit
pub record IsPrinted (e : Edit) : Type 0 where
  pub first : List ℕ
  pub words : List (List ℕ)
  pub text : edit_text e ≡ joined first words
  pub is : IsWord first
  pub are : AreWords words
  pub says : command (first ∷ words) ≡ Ok (says.Edit e)

said : (first : List ℕ) (words : List (List ℕ)) (e : Edit) → edit_text e ≡ joined first words → 0 < length first → list_all is_word_byte first ≡ true → AreWords words
    → command (first ∷ words) ≡ Ok (says.Edit e) → IsPrinted e
said first words e is some bytes are reads = record { first = first; words = words; text = is; is = record { some = some; bytes = bytes }; are = are; says = reads }

pub printed : (e : Edit) → IsSaid e → IsPrinted e
unfolding command keyword_of edit_at
printed (Place Insert d n w l) is =
    let are = of_location l is.at in
    let reads = placing_read d n (weight_text w) w l is.name is.device (read_again w is.weight) are is.at.few in
    said (codes "add") (n ∷ (weight_text w ∷ map pair_word l)) (Place Insert d n w l) (placing-joined (codes "add") n (weight_text w) l) (omega arith) refl (name_word n is.name, (weight_word w is.weight, are.words)) (rw reads refl)
printed (Place CreateOrMove d n w l) is =
    let are = of_location l is.at in
    let reads = placing_read d n (weight_text w) w l is.name is.device (read_again w is.weight) are is.at.few in
    said (codes "create-or-move") (n ∷ (weight_text w ∷ map pair_word l)) (Place CreateOrMove d n w l) (placing-joined (codes "create-or-move") n (weight_text w) l) (omega arith) refl (name_word n is.name, (weight_word w is.weight, are.words)) (rw reads refl)
printed (Place Update d n w l) is =
    let are = of_location l is.at in
    let reads = placing_read d n (weight_text w) w l is.name is.device (read_again w is.weight) are is.at.few in
    said (codes "set") (n ∷ (weight_text w ∷ map pair_word l)) (Place Update d n w l) (placing-joined (codes "set") n (weight_text w) l) (omega arith) refl (name_word n is.name, (weight_word w is.weight, are.words)) (rw reads refl)
printed (Move n l) is =
    let are = of_location l is.1 in
    let reads = located_read n l is.0 are is.1.few in
    said (codes "move") (n ∷ map pair_word l) (Move n l) (move-joined (codes "move") n l) (omega arith) refl (name_word n is.0, are.words) (rw reads refl)
printed (Swap a b) is =
    let reads = two_names_read a b is.0 is.1 in
    said (codes "swap-bucket") (a ∷ (b ∷ [])) (Swap a b) (two-joined (codes "swap-bucket") a b) (omega arith) refl (name_word a is.0, (name_word b is.1, tt)) (rw reads refl)
printed (Reweight n w) is =
    let reads = weighed_read n (weight_text w) w is.0 (read_again w is.1) in
    said (codes "reweight") (n ∷ (weight_text w ∷ [])) (Reweight n w) (two-joined (codes "reweight") n (weight_text w)) (omega arith) refl (name_word n is.0, (weight_word w is.1, tt)) (rw reads refl)
printed (ReweightSubtree n w) is =
    let reads = weighed_read n (weight_text w) w is.0 (read_again w is.1) in
    said (codes "reweight-subtree") (n ∷ (weight_text w ∷ [])) (ReweightSubtree n w) (two-joined (codes "reweight-subtree") n (weight_text w)) (omega arith) refl (name_word n is.0, (weight_word w is.1, tt)) (rw reads refl)
printed (Remove n) is =
    let reads = one_name_read n is in
    said (codes "rm") (n ∷ []) (Remove n) (one-joined (codes "rm") n) (omega arith) refl (name_word n is, tt) (rw reads refl)
printed (AddBucket n kind) is =
    let reads = two_names_read n kind is.0 is.1 in
    said (codes "add-bucket") (n ∷ (kind ∷ [])) (AddBucket n kind) (two-joined (codes "add-bucket") n kind) (omega arith) refl (name_word n is.0, (name_word kind is.1, tt)) (rw reads refl)
printed (Rename from to) is =
    let reads = two_names_read from to is.0 is.1 in
    said (codes "rename-bucket") (from ∷ (to ∷ [])) (Rename from to) (two-joined (codes "rename-bucket") from to) (omega arith) refl (name_word from is.0, (name_word to is.1, tt)) (rw reads refl)
printed (SetClass n c) is =
    let reads = two_names_read c n is.1 is.0 in
    said (codes "set-device-class") (c ∷ (n ∷ [])) (SetClass n c) (two-joined (codes "set-device-class") c n) (omega arith) refl (name_word c is.1, (name_word n is.0, tt)) (rw reads refl)
printed (RemoveClass n) is =
    let reads = one_name_read n is in
    said (codes "rm-device-class") (n ∷ []) (RemoveClass n) (one-joined (codes "rm-device-class") n) (omega arith) refl (name_word n is, tt) (rw reads refl)

-- a printed line is parsed as its words are parsed
pub printed_is_read : PrintedIsRead
printed_is_read e is =
    let p = printed e is in
    ap (λ (t : List ℕ). command (line_words t)) p.text ∙ ap command (line_words-joined p.first p.words p.is p.are) ∙ p.says
