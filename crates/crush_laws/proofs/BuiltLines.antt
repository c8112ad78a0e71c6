-- Proves that the words of each printed line lead from one draft to the next, if what the line builds is lawful. A draft (`Draft`) is what the lines so far have built. A form (`Form`) says which words the rest of a line must have. A state (`State`) is a place in the text: between two lines, or in a line with the form of its rest.
use Rattle.std.proofs.Common.{◌≡◌, ℕ, ◌<◌, ◌≤◌, ◌^◌, Bool, true, false, List, [], ◌∷◌, ◌++◌, length, Option, Some, None, Ok, refl, sym, ap, subst, ◌∙◌, append_assoc, append-nil, arith, inl, inr}
use Rattle.std.proofs.lemmas.Bool.Decides.{nat_tests}
use Rattle.std.proofs.lemmas.Bool.{ne_eqb}
use Rattle.std.proofs.lemmas.Fmt.{decimal_is_IsNumeral, length-decimal-le}
use Rattle.std.proofs.lemmas.Str.Parse.{digit_from_value}
use Rattle.std.specs.Prelude.{map, drop, codes, decimal, bytes_eq, unwrap_or, eqb, nat_le, if◌then◌else◌}
use Rattle.std.specs.Char.{is_ascii_digit}
use Rattle.std.specs.List.{list_all}
use Rattle.std.specs.Str.Parse.{AllDigits, digits_value}
use Rattle.crush_units.specs.declared.alg.Alg.{Alg}
use Rattle.crush_units.specs.declared.alg.Alg.TheVariants.{Straw2}
use Rattle.crush_units.specs.declared.id.ItemId.{ItemId}
use Rattle.crush_units.specs.declared.id.ItemId.TheVariants.{Device}
use Rattle.crush_units.specs.Alg.{alg_text}
use Rattle.crush_units.specs.Weight.{are_digits, weight_of_text}
use Rattle.crush_units.proofs.Algs.{alg_of_text-alg_text}
use Rattle.crush_units.proofs.ReadBack.{read_again}
use Rattle.crush_units.proofs.ExactWeights.{exact_read_again}
use Rattle.crush_units.specs.declared.limits.TheConstants.{LARGEST_TUNABLE}
use Rattle.crush_model.specs.Table.{is_placed}
use Rattle.crush_builder.specs.Built.{Draft, with_tunable, with_kind, with_device, begun_bucket, with_id, with_class_id, with_alg, with_next_item, with_end}
use Rattle.crush_builder.specs.Building.{item_named}
use Rattle.crush_units.specs.Words.{Word, texts, begins_with_key}
use Rattle.crush_text.specs.declared.statement_kind.StatementKind.TheVariants as statement_kinds
use Rattle.crush_units.specs.Numbers.{is_number}
use Rattle.crush_text.specs.Role.{value, kind_of_word, item_of, opened, units, units_or_none, key, any_word, number, type_name, new_name, bucket_id, id_class}
use Rattle.crush_text.specs.Form.{Mode, first, second, begun, numbered, filling, at, Form, done, word, optional, ahead, passing}
use Rattle.crush_text.specs.Grammar.{tunable_line, type_line, device_class, device_line, bucket_line, class_id_line, alg_line, weighed_item, item_weight_line, statement}
use Rattle.crush_print.specs.declared.weight_form.WeightForm.{WeightForm}
use Rattle.crush_print.specs.declared.weight_form.WeightForm.TheVariants.{Rounded, Exact}
use Rattle.crush_print.specs.Lines.{weight_in}
use Rattle.crush_print.proofs.PrintedLines.{class_words}
use Rattle.crush_text.specs.Flow.{State, between, amid, arrive}
use Rattle.crush_text.specs.Document.{IsWhole}
use Rattle.crush_laws.specs.Admitted.{IsLawfulDraft, IsLawfulState, LeadsFrom, WordLeads, Build}
use Rattle.crush_text.specs.declared.expected.Expected.TheVariants as expect
use Rattle.crush_text.specs.declared.expected.Optional.TheVariants.{Class}
use Rattle.crush_laws.proofs.LeftOut.{forget, word_so, whole_so}

-- the words that have these texts and the place 0
abbrev pub plain : List (List ℕ) → List Word
plain ts = map (λ (t : List ℕ). record { place = 0; text = t }) ts

-- WORDS LEAD from one state to another if other given words follow. Which optional part the last line has left out doesn't matter
abbrev pub Goes : State → List (List ℕ) → List (List ℕ) → State → Type 0
Goes s [] others m = forget s ≡ forget m
Goes s (w ∷ ws) others m = (u : State) × WordLeads s w (plain (ws ++ others)) u × IsLawfulState u × Goes u ws others m

-- two states that differ only in the part that was left out have the same words that lead on
goes_so : (s m : State) (ts others : List (List ℕ)) (n : State) → forget s ≡ forget m → Goes m ts others n → Goes s ts others n
goes_so s m [] others n is h = is ∙ h
goes_so s m (w ∷ ts) others n is h = (h.0, word_so s m w (plain (ts ++ others)) h.0 is h.1, h.2, h.3)

-- if words lead from s to m, and further words lead from m to n, then all these words lead from s to n
pub goes_both : (s : State) (a b others : List (List ℕ)) (m n : State) → Goes s a (b ++ others) m → Goes m b others n → Goes s (a ++ b) others n
goes_both s [] b others m n f g = goes_so s m b others n f g
goes_both s (w ∷ a) b others m n f g = (f.0, subst (λ l. WordLeads s w (plain l) f.0) (sym (append_assoc a b others)) f.1, f.2, goes_both f.0 a b others m n f.3 g)

-- the state to which a form leads depends on the words after it, and not on their places
key_of : List ℕ → List (List ℕ) → Bool
key_of k [] = false
key_of k (t ∷ ts) = bytes_eq t k

key_is : (k : List ℕ) (ws : List Word) → begins_with_key k ws ≡ key_of k (texts ws)
unfolding key_of
key_is k [] = refl
key_is k (w ∷ ws) = refl

behind_is : (ws : List Word) → texts (drop 1 ws) ≡ drop 1 (texts ws)
behind_is [] = refl
behind_is (w ∷ ws) = refl

key_alike : (k : List ℕ) (vs ws : List Word) → texts vs ≡ texts ws → begins_with_key k vs ≡ begins_with_key k ws
key_alike k vs ws e = key_is k vs ∙ ap (key_of k) e ∙ sym (key_is k ws)

arrive_alike : (d : Draft) (f : Form) (vs ws : List Word) → texts vs ≡ texts ws → arrive d vs f ≡ arrive d ws f
arrive_alike d (done p) vs ws e = refl
arrive_alike d (word r more) vs ws e = refl
arrive_alike d (optional k f g) vs ws e = λ i. if key_alike k vs ws e i then arrive_alike d f vs ws e i else arrive_alike d g vs ws e i
arrive_alike d (ahead k f g) vs ws e = λ i. if key_alike k (drop 1 vs) (drop 1 ws) (behind_is vs ∙ ap (drop 1) e ∙ sym (behind_is ws)) i then arrive_alike d f vs ws e i else arrive_alike d g vs ws e i

form_alike : (d : Draft) (f : Form) (w : List ℕ) (vs ws : List Word) (u : State) → texts vs ≡ texts ws → LeadsFrom d f w vs u → LeadsFrom d f w ws u
form_alike d (word r more) w vs ws u e h = (h.0, h.1 ∙ arrive_alike d (more (value d r w)) vs ws e)
form_alike d (done p) w vs ws u e h = h
form_alike d (optional k f g) w vs ws u e h = h
form_alike d (ahead k f g) w vs ws u e h = h

pub leads_alike : (s : State) (w : List ℕ) (vs ws : List Word) (u : State) → texts vs ≡ texts ws → WordLeads s w vs u → WordLeads s w ws u
leads_alike (between p) w vs ws u e h = form_alike p.draft _ w vs ws u e h
leads_alike (amid d f) w vs ws u e h = form_alike d f w vs ws u e h

pub plain_texts : (ts : List (List ℕ)) → texts (plain ts) ≡ ts
plain_texts [] = refl
plain_texts (t ∷ ts) = ap (λ l. t ∷ l) (plain_texts ts)

-- words that lead to the end of a text build the draft there
pub goes_build : (s : State) (ts : List (List ℕ)) (ws : List Word) (m : State) (d : Draft) → texts ws ≡ ts → Goes s ts [] m → IsWhole m d → Build s ws d
goes_build s [] [] m d e f w = whole_so s m d f w
goes_build s [] (v ∷ ws) m d e f w = absurd cc
goes_build s (t ∷ ts) [] m d e f w = absurd cc
goes_build s (t ∷ ts) (v ∷ ws) m d e f w =
    let head : v.text ≡ t = cc in
    let tail : texts ws ≡ ts = cc in
    let rest : texts (plain (ts ++ [])) ≡ texts ws = plain_texts (ts ++ []) ∙ append-nil ts ∙ sym tail in
    (f.0, subst (λ x. WordLeads s x ws f.0) (sym head) (leads_alike s t (plain (ts ++ [])) ws f.0 rest f.1), f.2, goes_build f.0 ts ws m d tail f.3 w)

-- THE NUMBERS: the digits of a printed number are read as this number
digit_byte : (d : ℕ) → 48 ≤ d → d ≤ 57 → is_ascii_digit d ≡ true
digit_byte d lo hi = grind (arith, nat_tests)

all_digits : (ds : List ℕ) → AllDigits 10 ds → list_all is_ascii_digit ds ≡ true
all_digits [] h = refl
all_digits (d ∷ ds) h = let r = digit_from_value d h.0 in rw (digit_byte d r.0 r.1, all_digits ds h.1) refl

passes : (ds : List ℕ) → 0 < length ds → length ds ≤ 10 → list_all is_ascii_digit ds ≡ true → are_digits 10 ds ≡ true
passes ds some few all =
    let a : eqb (length ds) 0 ≡ false = ne_eqb _ _ (omega arith) in
    let b : nat_le (length ds) 10 ≡ true = grind (arith, nat_tests) in
    rw (a, b, all) refl

pub decimal_digits : (n : ℕ) → n < 10 ^ 10 → are_digits 10 (decimal n) ≡ true
decimal_digits n h = let d = decimal_is_IsNumeral n (omega arith) in passes (decimal n) d.0.0 (length-decimal-le 10 n (omega arith) h (omega arith)) (all_digits (decimal n) d.0.1)

pub decimal_value : (n : ℕ) → n < 10 ^ 10 → digits_value 10 (decimal n) ≡ n
decimal_value n h = (decimal_is_IsNumeral n (omega arith)).1

pub decimal_number : (most n : ℕ) → n ≤ most → n < 10 ^ 10 → is_number most (decimal n) ≡ true
decimal_number most n le h =
    let small : nat_le n most ≡ true = grind (arith, nat_tests) in
    rw (decimal_digits n h, decimal_value n h, small) refl

-- LINES: the words of a tunable's line lead on
pub tunable_goes : (d : Draft) (x : List ℕ) (n : ℕ) (others : List (List ℕ)) → n ≤ LARGEST_TUNABLE → IsLawfulDraft (with_tunable d x n)
    → Goes (between (at first d)) (codes "tunable" ∷ x ∷ decimal n ∷ []) others (between (at first (with_tunable d x n)))
tunable_goes d x n others le l = (
  amid d (tunable_line d),
  (inl (refl, inl refl), refl),
  tt,
  (
    amid d (word (number LARGEST_TUNABLE) (λ v. done (at first (with_tunable d x v)))),
    (tt, refl),
    tt,
    (between (at first (with_tunable d x n)), (decimal_number LARGEST_TUNABLE n le (omega (arith, le)), ap (λ v. between (at first (with_tunable d x v))) (sym (decimal_value n (omega (arith, le))))), (l, tt), refl),
  ),
)

-- the words of a type's line lead on
pub kind_goes : (d : Draft) (n : ℕ) (x : List ℕ) (others : List (List ℕ)) → n < 10 ^ 10 → IsLawfulDraft (with_kind d n x)
    → Goes (between (at first d)) (codes "type" ∷ decimal n ∷ x ∷ []) others (between (at first (with_kind d n x)))
kind_goes d n x others le l = (
  amid d (type_line d),
  (inl (refl, inr (inr refl)), refl),
  tt,
  (
    amid d (word (type_name n) (λ y. done (at first (with_kind d n y)))),
    (decimal_digits n le, ap (λ v. amid d (word (type_name v) (λ y. done (at first (with_kind d v y))))) (sym (decimal_value n le))),
    tt,
    (between (at first (with_kind d n x)), (tt, refl), (l, tt), refl),
  ),
)

-- the form that is due after a device's name
abbrev class_form : Draft → ℕ → List ℕ → Form
class_form d n x = word (key (codes "class")) (λ _. word (any_word expect.Class) (λ c. done (at first (with_device d n x (Some c)))))

-- the words of a device's line lead on, if `class` isn't the next word
pub device_goes : (d : Draft) (n : ℕ) (x : List ℕ) (class : Option (List ℕ)) (others : List (List ℕ)) → n < 10 ^ 10 → begins_with_key (codes "class") (plain others) ≡ false → IsLawfulDraft (with_device d n x class)
    → Goes (between (at first d)) (codes "device" ∷ decimal n ∷ x ∷ class_words class) others (between (at first (with_device d n x class)))
device_goes d n x None others le other l = (
  amid d (device_line d),
  (inl (refl, inr (inl refl)), refl),
  tt,
  (
    amid d (word new_name (λ y. device_class d n y)),
    (decimal_digits n le, ap (λ v. amid d (word new_name (λ y. device_class d v y))) (sym (decimal_value n le))),
    tt,
    (between (passing Class (at first (with_device d n x None))), (tt, sym (ap (λ b. if b then amid d (class_form d n x) else between (passing Class (at first (with_device d n x None)))) other)), (l, tt), refl),
  ),
)
device_goes d n x (Some c) others le other l = (
  amid d (device_line d),
  (inl (refl, inr (inl refl)), refl),
  tt,
  (
    amid d (word new_name (λ y. device_class d n y)),
    (decimal_digits n le, ap (λ v. amid d (word new_name (λ y. device_class d v y))) (sym (decimal_value n le))),
    tt,
    (
      amid d (class_form d n x),
      (tt, refl),
      tt,
      (
        amid d (word (any_word expect.Class) (λ y. done (at first (with_device d n x (Some y))))),
        (refl, refl),
        tt,
        (between (at first (with_device d n x (Some c))), (tt, refl), (l, tt), refl),
      ),
    ),
  ),
)

-- the mode between two statements; the argument says whether a bucket or a rule has come before
abbrev pub idle : Bool → Mode
idle late = if late then second else first

-- the words of a bucket's type, name and id lead on
pub opens_bucket : (late : Bool) (d : Draft) (k : ℕ) (kind : List ℕ) (rest : List Word) → 0 < kind_of_word d kind → opened d kind ≡ statement_kinds.Bucket k → WordLeads (between (at (idle late) d)) kind rest (amid d (bucket_line d k))
opens_bucket true d k kind rest some is = (inr (inr some), ap (λ o. arrive d rest (statement d o)) (sym is))
opens_bucket false d k kind rest some is = (inr (inr some), ap (λ o. arrive d rest (statement d o)) (sym is))

pub head_goes : (late : Bool) (d : Draft) (k : ℕ) (kind x : List ℕ) (b : ℕ) (others : List (List ℕ)) → 0 < kind_of_word d kind → opened d kind ≡ statement_kinds.Bucket k → b < 10 ^ 10
    → IsLawfulDraft (begun_bucket d k x) → IsLawfulDraft (with_id (begun_bucket d k x) b)
    → Goes (between (at (idle late) d)) (kind ∷ x ∷ codes "{" ∷ codes "id" ∷ (45 ∷ decimal b) ∷ []) others (between (at numbered (with_id (begun_bucket d k x) b)))
head_goes late d k kind x b others some is le l m = (
  amid d (bucket_line d k),
  opens_bucket late d k kind (plain ((x ∷ codes "{" ∷ codes "id" ∷ (45 ∷ decimal b) ∷ []) ++ others)) some is,
  tt,
  (
    between (at begun (begun_bucket d k x)),
    (tt, refl),
    (l, tt),
    (
      amid (begun_bucket d k x) (word (key (codes "id")) (λ _. word bucket_id (λ v. done (at numbered (with_id (begun_bucket d k x) v))))),
      (refl, refl),
      tt,
      (
        amid (begun_bucket d k x) (word bucket_id (λ v. done (at numbered (with_id (begun_bucket d k x) v)))),
        (refl, refl),
        tt,
        (between (at numbered (with_id (begun_bucket d k x) b)), ((refl, decimal_digits b le), ap (λ v. between (at numbered (with_id (begun_bucket d k x) v))) (sym (decimal_value b le))), (m, tt), refl),
      ),
    ),
  ),
)

-- the words of a class id's line lead on
pub class_id_goes : (d : Draft) (b : ℕ) (class : List ℕ) (others : List (List ℕ)) → b < 10 ^ 10 → IsLawfulDraft (with_class_id d b class)
    → Goes (between (at numbered d)) (codes "id" ∷ (45 ∷ decimal b) ∷ codes "class" ∷ class ∷ []) others (between (at numbered (with_class_id d b class)))
class_id_goes d b class others le l = (
  amid d (class_id_line d),
  (inl refl, refl),
  tt,
  (
    amid d (word (key (codes "class")) (λ _. word id_class (λ c. done (at numbered (with_class_id d b c))))),
    ((refl, decimal_digits b le), ap (λ v. amid d (word (key (codes "class")) (λ _. word id_class (λ c. done (at numbered (with_class_id d v c)))))) (sym (decimal_value b le))),
    tt,
    (
      amid d (word id_class (λ c. done (at numbered (with_class_id d b c)))),
      (refl, refl),
      tt,
      (between (at numbered (with_class_id d b class)), (tt, refl), (l, tt), refl),
    ),
  ),
)

-- the form that is due after a bucket's algorithm, for the hash
abbrev hash_form : Draft → Alg → Form
hash_form d a = word (key (codes "hash")) (λ _. word (number 0) (λ _. done (at (filling false) (with_alg d a))))

-- the words of a bucket's algorithm and hash lead on
pub alg_goes : (d : Draft) (a : Alg) (others : List (List ℕ)) → IsLawfulDraft (with_alg d a)
    → Goes (between (at numbered d)) (codes "alg" ∷ alg_text a ∷ codes "hash" ∷ codes "0" ∷ []) others (between (at (filling false) (with_alg d a)))
alg_goes d a others l = (
  amid d (alg_line d),
  (inr refl, refl),
  tt,
  (
    amid d (hash_form d a),
    ((a, refl), ap (λ v. amid d (hash_form d v)) (sym (ap (λ o. unwrap_or o Straw2) (alg_of_text-alg_text a)))),
    tt,
    (
      amid d (word (number 0) (λ _. done (at (filling false) (with_alg d a)))),
      (refl, refl),
      tt,
      (between (at (filling false) (with_alg d a)), (refl, refl), (l, tt), refl),
    ),
  ),
)

-- the text of a weight in either form is read as the weight
formed_again : (form : WeightForm) (w : ℕ) → w < 2 ^ 32 → weight_of_text (weight_in form w) ≡ Ok w
formed_again Rounded w light = read_again w light
formed_again Exact w light = exact_read_again w light

-- the words of an item's line with its weight lead on
pub item_goes : (form : WeightForm) (any : Bool) (d : Draft) (i : ItemId) (x : List ℕ) (w : ℕ) (others : List (List ℕ)) → item_named d x ≡ Some i → is_placed d.table i ≡ false → w < 2 ^ 32 → IsLawfulDraft (with_next_item d i (Some w))
    → Goes (between (at (filling any) d)) (codes "item" ∷ x ∷ codes "weight" ∷ weight_in form w ∷ []) others (between (at (filling true) (with_next_item d i (Some w))))
item_goes form any d i x w others named free light l =
    let is : item_of d x ≡ i = ap (λ o. unwrap_or o (Device 0)) named in
    let says : units (weight_in form w) ≡ w = ap units_or_none (formed_again form w light) in (
      amid d (weighed_item d),
      (inl refl, refl),
      tt,
      (
        amid d (word (key (codes "weight")) (λ _. item_weight_line d i)),
        ((named ∙ ap (λ j. Some j) (sym is), ap (is_placed d.table) is ∙ free), ap (λ j. amid d (word (key (codes "weight")) (λ _. item_weight_line d j))) (sym is)),
        tt,
        (
          amid d (item_weight_line d i),
          (refl, refl),
          tt,
          (between (at (filling true) (with_next_item d i (Some w))), (formed_again form w light ∙ ap (λ v. Ok v) (sym says), ap (λ v. between (at (filling true) (with_next_item d i (Some v)))) (sym says)), (l, tt), refl),
        ),
      ),
    )

-- the closing brace of a bucket leads on
pub end_goes : (any : Bool) (d : Draft) (others : List (List ℕ)) → IsLawfulDraft (with_end d) → Goes (between (at (filling any) d)) (codes "}" ∷ []) others (between (at second (with_end d)))
end_goes any d others l = (between (at second (with_end d)), (inr refl, refl), (l, tt), refl)
