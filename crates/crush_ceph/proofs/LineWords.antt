-- A line of words: how it is cut into these words, and which words weights and locations have.
use Rattle.std.proofs.Common.{◌≡◌, ℕ, ◌/◌, ◌<◌, ◌≤◌, ◌^◌, ◌||◌, ◌==◌, Bool, true, false, List, [], ◌∷◌, ◌++◌, Some, filter, length, ltb, map, refl, sym, ap, ◌∙◌, arith, rules, tests, append_assoc, length-append}
use Rattle.std.specs.Prelude.{All, codes, decimal}
use Rattle.std.specs.List.{list_all, list_any, slice_split}
use Rattle.std.specs.Str.Parse.{AllDigits}
use Rattle.std.proofs.lemmas.Bool.{false≢true}
use Rattle.std.proofs.lemmas.Bool.Decides.{nat_tests}
use Rattle.std.proofs.lemmas.Fmt.{decimal_is_IsNumeral}
use Rattle.std.proofs.lemmas.List.Elements.{All-cons, All-head, All-nil, All-tail}
use Rattle.std.proofs.lemmas.List.Folds.{list_all-append}
use Rattle.std.proofs.lemmas.List.Splits.{slice_split_at, slice_split_none}
use Rattle.std.proofs.lemmas.Str.Parse.{digit_from_value}
use Rattle.crush_units.specs.ExactWeight.{exact_parts, exact_text}
use Rattle.crush_units.specs.Name.{IsName, is_name_byte}
use Rattle.crush_units.specs.Weight.{digit}
use Rattle.crush_units.proofs.Names.{both_true}
use Rattle.crush_edits.specs.declared.location.Pair.{Pair}
use Rattle.crush_edits.specs.EditText.{pairs_text}
use Rattle.crush_edits.specs.Pushed.{IsLocation}
use Rattle.crush_history.specs.Ceph.{has_dashed_type, is_dashed}
use Rattle.crush_ceph.specs.LineEdits.{ends_word, is_option, location_said, pair_of_parts, pair_said, words_of_line}

-- the bytes of printed words: those of names, and `=`
abbrev pub is_word_byte : ℕ → Bool
is_word_byte b = is_name_byte b || b == 61

pub record IsWord (word : List ℕ) : Type 0 where
  pub some : 0 < length word
  pub bytes : list_all is_word_byte word ≡ true

abbrev pub AreWords : List (List ℕ) → Type 0
AreWords [] = Unit {0}
AreWords (word ∷ words) = IsWord word × AreWords words

-- a byte that passes a test differs from a number that doesn't
never : (p : ℕ → Bool) (b n : ℕ) → p n ≡ false → p b ≡ true → (b == n) ≡ false
never p b n fails passes = at (b == n) refl
  where
    at : (t : Bool) → (b == n) ≡ t → (b == n) ≡ false
    at true e = let same : b ≡ n = search (rules, tests) in absurd (false≢true (sym fails ∙ ap p (sym same) ∙ passes))
    at false e = e

inside : (b : ℕ) → is_word_byte b ≡ true → ends_word b ≡ false
inside b h = let space = never is_word_byte b 32 refl h in let feed = never is_word_byte b 10 refl h in rw (space, feed) refl

-- if each byte passes a test, and no byte that passes it passes another one, then none passes the other one
none_pass : (p q : ℕ → Bool) → ((b : ℕ) → p b ≡ true → q b ≡ false) → (bs : List ℕ) → list_all p bs ≡ true → All (λ (b : ℕ). q b ≡ false) bs
none_pass p q never_both [] h = All-nil (λ (b : ℕ). q b ≡ false)
none_pass p q never_both (b ∷ bs) h =
    let parts = both_true (p b) (list_all p bs) h in
    All-cons (λ (x : ℕ). q x ≡ false) b bs (never_both b parts.0) (none_pass p q never_both bs parts.1)

-- words with a space before each, and a text after them
abbrev pub spelled : List (List ℕ) → List ℕ → List ℕ
spelled [] end = end
spelled (word ∷ words) end = 32 ∷ (word ++ spelled words end)

-- the first word of a line, and the words after it
abbrev is_some_word : List ℕ → Bool
is_some_word word = ltb 0 (length word)

kept : (word : List ℕ) (parts : List (List ℕ)) → 0 < length word → filter is_some_word (word ∷ parts) ≡ word ∷ filter is_some_word parts
kept word parts some = let e : ltb 0 (length word) ≡ true = search (rules, tests) in rw e

next_word : (word rest : List ℕ) (b : ℕ) → IsWord word → ends_word b ≡ true → words_of_line (word ++ b ∷ rest) ≡ word ∷ words_of_line rest
unfolding words_of_line
next_word word rest b is ends =
    ap (filter is_some_word) (slice_split_at ends_word word b rest (none_pass is_word_byte ends_word inside word is.bytes) ends) ∙ kept word (slice_split ends_word rest) is.some

no_words : words_of_line [] ≡ []
unfolding words_of_line
no_words = refl

-- THE WORDS of a line that consists of words
pub words_spelled : (word : List ℕ) (words : List (List ℕ)) → IsWord word → AreWords words → words_of_line (word ++ spelled words (codes "\n")) ≡ word ∷ words
words_spelled word [] is are = next_word word [] 10 is refl ∙ ap (λ (r : List (List ℕ)). word ∷ r) no_words
words_spelled word (next ∷ words) is are =
    next_word word (next ++ spelled words (codes "\n")) 32 is refl ∙ ap (λ (r : List (List ℕ)). word ∷ r) (words_spelled next words are.0 are.1)

-- names and exact weights are words
name_bytes : (bs : List ℕ) → list_all is_name_byte bs ≡ true → list_all is_word_byte bs ≡ true
name_bytes [] h = refl
name_bytes (b ∷ bs) h = let parts = both_true (is_name_byte b) (list_all is_name_byte bs) h in rw (parts.0, name_bytes bs parts.1) refl

pub name_word : (n : List ℕ) → IsName n → IsWord n
name_word n is = record { some = is.some; bytes = name_bytes n is.allowed }

digit_byte : (d : ℕ) → 48 ≤ d → d ≤ 57 → is_word_byte d ≡ true
digit_byte d low high =
    let a : (48 ≤ d) = low in
    grind (arith, nat_tests)

digits_bytes : (ds : List ℕ) → AllDigits 10 ds → list_all is_word_byte ds ≡ true
digits_bytes [] h = refl
digits_bytes (d ∷ ds) h =
    let r = digit_from_value d h.0 in
    let first = digit_byte d r.0 r.1 in
    rw (first, digits_bytes ds h.1) refl

last_digit : (n : ℕ) → is_word_byte (digit n) ≡ true
last_digit n = digit_byte (digit n) (omega arith) (omega arith)

pub weight_word : (w : ℕ) → w < 2 ^ 32 → IsWord (exact_text w)
weight_word w small =
    let n = exact_parts w in
    let whole = decimal_is_IsNumeral (n / 1000000) (omega arith) in
    let a = last_digit (n / 100000) in
    let b = last_digit (n / 10000) in
    let c = last_digit (n / 1000) in
    let d = last_digit (n / 100) in
    let e = last_digit (n / 10) in
    let f = last_digit n in
    let tail : List ℕ = 46 ∷ digit (n / 100000) ∷ digit (n / 10000) ∷ digit (n / 1000) ∷ digit (n / 100) ∷ digit (n / 10) ∷ digit n ∷ [] in
    let tail_bytes : list_all is_word_byte tail ≡ true = rw (a, b, c, d, e, f) refl in
    record {
      some = omega (arith, length-append (decimal (n / 1000000)) tail);
      bytes = list_all-append is_word_byte (decimal (n / 1000000)) tail ∙ rw (digits_bytes (decimal (n / 1000000)) whole.0.1, tail_bytes) refl;
    }

undashed : (ds tail : List ℕ) → 0 < length ds → AllDigits 10 ds → is_dashed (ds ++ tail) ≡ false
undashed [] tail some h = absurd (omega (arith, some))
undashed (d ∷ ds) tail some h =
    let r = digit_from_value d h.0 in
    let low : 48 ≤ d = r.0 in
    grind (arith, nat_tests)

pub weight_undashed : (w : ℕ) → w < 2 ^ 32 → is_dashed (exact_text w) ≡ false
weight_undashed w small =
    let n = exact_parts w in
    let whole = decimal_is_IsNumeral (n / 1000000) (omega arith) in
    undashed (decimal (n / 1000000)) (46 ∷ digit (n / 100000) ∷ digit (n / 10000) ∷ digit (n / 1000) ∷ digit (n / 100) ∷ digit (n / 10) ∷ digit n ∷ []) whole.0.0 whole.0.1

-- A PAIR as a word
abbrev pub pair_word : Pair → List ℕ
pair_word p = p.kind ++ 61 ∷ p.name

no_equals : (b : ℕ) → is_name_byte b ≡ true → (b == 61) ≡ false
no_equals b h = never is_name_byte b 61 refl h

pair_read : (p : Pair) → IsName p.kind → IsName p.name → pair_said (pair_word p) ≡ Some p
pair_read p kind name =
    ap pair_of_parts
    (slice_split_at (λ (b : ℕ). b == 61) p.kind 61 p.name (none_pass is_name_byte (λ (b : ℕ). b == 61) no_equals p.kind kind.allowed) refl
    ∙ ap (λ (r : List (List ℕ)). p.kind ∷ r) (slice_split_none (λ (b : ℕ). b == 61) p.name (none_pass is_name_byte (λ (b : ℕ). b == 61) no_equals p.name name.allowed)))

pair_is_word : (p : Pair) → IsName p.kind → IsName p.name → IsWord (pair_word p)
pair_is_word p kind name = record {
  some = omega (arith, length-append p.kind (61 ∷ p.name));
  bytes = list_all-append is_word_byte p.kind (61 ∷ p.name) ∙ rw (name_bytes p.kind kind.allowed, name_bytes p.name name.allowed) refl;
}

-- a word that doesn't begin with `-` isn't an option
pub not_option : (word : List ℕ) → is_dashed word ≡ false → is_option word ≡ false
not_option word h = rw h refl

pub plain_more : (word : List ℕ) (words : List (List ℕ)) → is_option word ≡ false → list_any is_option words ≡ false → list_any is_option (word ∷ words) ≡ false
plain_more word words a b = rw (a, b) refl

pub neither : (a b : Bool) → (a || b) ≡ false → (a ≡ false) × (b ≡ false)
neither false b e = (refl, e)
neither true b e = absurd cc

pair_dashed : (kind name : List ℕ) → 0 < length kind → is_dashed kind ≡ false → is_dashed (kind ++ 61 ∷ name) ≡ false
pair_dashed [] name some h = absurd (omega (arith, some))
pair_dashed (b ∷ bs) name some h = h

-- A LOCATION as words
pub record ArePairs (at : List Pair) : Type 0 where
  pub words : AreWords (map pair_word at)
  pub reads : location_said (map pair_word at) ≡ Some at
  pub plain : has_dashed_type at ≡ false → list_any is_option (map pair_word at) ≡ false

pairs : (at : List Pair) → All (λ (p : Pair). IsName p.kind) at → All (λ (p : Pair). IsName p.name) at → ArePairs at
pairs [] kinds names = record { words = tt; reads = refl; plain = λ h. refl }
pairs (p ∷ at) kinds names =
    let kind = All-head (λ (q : Pair). IsName q.kind) p at kinds in
    let name = All-head (λ (q : Pair). IsName q.name) p at names in
    let others = pairs at (All-tail (λ (q : Pair). IsName q.kind) p at kinds) (All-tail (λ (q : Pair). IsName q.name) p at names) in
    record {
      words = (pair_is_word p kind name, others.words);
      reads = rw (pair_read p kind name, others.reads) refl;
      plain = λ h.
          let parts = neither (is_dashed p.kind) (has_dashed_type at) h in
          plain_more (pair_word p) (map pair_word at) (not_option (pair_word p) (pair_dashed p.kind p.name kind.some parts.0)) (others.plain parts.1);
    }

pub of_location : (at : List Pair) → IsLocation at → ArePairs at
of_location at is = pairs at is.kinds is.names

pub pairs_spelled : (at : List Pair) (end : List ℕ) → pairs_text at ++ end ≡ spelled (map pair_word at) end
pairs_spelled [] end = refl
pairs_spelled (p ∷ at) end =
    let first : List ℕ = p.kind ++ codes "=" ++ p.name in
    ap (λ (r : List ℕ). 32 ∷ r)
    (append_assoc first (pairs_text at) end ∙ ap (λ (r : List ℕ). first ++ r) (pairs_spelled at end) ∙ ap (λ (r : List ℕ). r ++ spelled (map pair_word at) end) (append_assoc p.kind (codes "=") p.name))
