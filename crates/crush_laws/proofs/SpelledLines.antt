-- Proves that the words of a line lead to the draft that the document means. Here are lemmas for several kinds of lines, and the lines of the first part. A draft (`Draft`) is what the lines so far have built. A form (`Form`) says which words the rest of a line must have. A state (`State`) is a place in the text: between two lines, or in a line with the form of its rest.
use Rattle.std.proofs.Common.{◌≡◌, ℕ, true, false, List, [], ◌∷◌, ◌++◌, Option, Some, None, refl, sym, subst, append_assoc, append-nil, inl, inr}
use Rattle.std.proofs.lemmas.Bool.{and_parts}
use Rattle.std.specs.Prelude.{codes, flat_map, drop}
use Rattle.crush_units.specs.Weight.{are_digits}
use Rattle.crush_units.specs.declared.limits.TheConstants.{LARGEST_TUNABLE, LAST_DEVICE_ID, LAST_TYPE}
use Rattle.crush_model.specs.Table.{Row}
use Rattle.crush_edits.specs.Setting.{KindData, TunableData, RuleData}
use Rattle.crush_builder.specs.Built.{Draft, nothing, with_tunable, with_kind, with_device}
use Rattle.crush_units.specs.Words.{Word, texts, begins_with_key}
use Rattle.crush_text.specs.Role.{value}
use Rattle.crush_text.specs.Form.{first, at, Form, done, word, optional, ahead, passing}
use Rattle.crush_text.specs.Grammar.{next, device_class}
use Rattle.crush_text.specs.Flow.{State, between, amid, arrive}
use Rattle.crush_laws.specs.Admitted.{IsFor, WordLeads}
use Rattle.crush_laws.specs.Final.{LeadTo}
use Rattle.crush_laws.specs.Document.{First, tunable, kind, device}
use Rattle.crush_laws.specs.Spells.{IsNumber, SpellsEach, SpellsClass, SpellsFirst}
use Rattle.crush_laws.specs.Meaning.{first_kinds, first_tunables, first_rows}
use Rattle.crush_laws.proofs.BuiltLines.{plain, leads_alike}
use Rattle.crush_text.specs.declared.expected.Optional.TheVariants.{Class}
use Rattle.crush_laws.proofs.LeftOut.{lead_so}

-- words with the same texts lead on to the same draft, whatever their places are
pub lead_alike : (s : State) (vs ws : List Word) (e : Draft) → texts vs ≡ texts ws → LeadTo s vs e → LeadTo s ws e
lead_alike s [] [] e same h = h
lead_alike s [] (w ∷ ws) e same h = absurd cc
lead_alike s (v ∷ vs) [] e same h = absurd cc
lead_alike s (v ∷ vs) (w ∷ ws) e same h =
    let head : v.text ≡ w.text = cc in
    let tail : texts vs ≡ texts ws = cc in
    (h.0, subst (λ (x : List ℕ). WordLeads s x ws h.0) head (leads_alike s v.text vs ws h.0 tail h.1), lead_alike h.0 vs ws e tail h.2)

-- SEVERAL WORDS of a line, followed by other words: how each word is read, and where it leads
abbrev FormTakes : Draft → Form → List ℕ → Type 0
FormTakes d (word r more) w = IsFor d r w
FormTakes d (done p) w = ⊥
FormTakes d (optional k f g) w = ⊥
FormTakes d (ahead k f g) w = ⊥

abbrev pub Takes : State → List ℕ → Type 0
Takes (between p) w = FormTakes p.draft (next p) w
Takes (amid d f) w = FormTakes d f w

abbrev form_behind : Draft → Form → List ℕ → List (List ℕ) → State
form_behind d (word r more) w rest = arrive d (plain rest) (more (value d r w))
form_behind d (done p) w rest = between p
form_behind d (optional k f g) w rest = amid d f
form_behind d (ahead k f g) w rest = amid d f

abbrev pub behind_word : State → List ℕ → List (List ℕ) → State
behind_word (between p) w rest = form_behind p.draft (next p) w rest
behind_word (amid d f) w rest = form_behind d f w rest

abbrev pub TakesAll : State → List (List ℕ) → List (List ℕ) → Type 0
TakesAll s [] rest = Unit {0}
TakesAll s (w ∷ ws) rest = Takes s w × TakesAll (behind_word s w (ws ++ rest)) ws rest

abbrev pub behind_words : State → List (List ℕ) → List (List ℕ) → State
behind_words s [] rest = s
behind_words s (w ∷ ws) rest = behind_words (behind_word s w (ws ++ rest)) ws rest

form_leads : (d : Draft) (f : Form) (w : List ℕ) (rest : List (List ℕ)) (e : Draft) → FormTakes d f w → LeadTo (form_behind d f w rest) (plain rest) e → LeadTo (amid d f) (plain (w ∷ rest)) e
form_leads d (word r more) w rest e h k = (arrive d (plain rest) (more (value d r w)), (h, refl), k)
form_leads d (done p) w rest e h k = absurd h
form_leads d (optional c f g) w rest e h k = absurd h
form_leads d (ahead c f g) w rest e h k = absurd h

word_leads : (s : State) (w : List ℕ) (rest : List (List ℕ)) (e : Draft) → Takes s w → LeadTo (behind_word s w rest) (plain rest) e → LeadTo s (plain (w ∷ rest)) e
word_leads (between p) w rest e h k = form_leads p.draft (next p) w rest e h k
word_leads (amid d f) w rest e h k = form_leads d f w rest e h k

pub words_lead : (s : State) (ws rest : List (List ℕ)) (e : Draft) → TakesAll s ws rest → LeadTo (behind_words s ws rest) (plain rest) e → LeadTo s (plain (ws ++ rest)) e
words_lead s [] rest e h k = k
words_lead s (w ∷ ws) rest e h k = word_leads s w (ws ++ rest) e h.0 (words_lead (behind_word s w (ws ++ rest)) ws rest e h.1 k)

-- AN OPTIONAL PART that is left out: the form that is due without it
abbrev pub Lacks : Form → List (List ℕ) → Type 0
Lacks (optional k f g) rest = begins_with_key k (plain rest) ≡ false
Lacks (ahead k f g) rest = begins_with_key k (drop 1 (plain rest)) ≡ false
Lacks (word r more) rest = ⊥
Lacks (done p) rest = ⊥

abbrev pub without : Form → Form
without (optional k f g) = g
without (ahead k f g) = g
without (word r more) = word r more
without (done p) = done p

pub lacking : (d : Draft) (f : Form) (rest : List (List ℕ)) (e : Draft) → Lacks f rest → LeadTo (arrive d (plain rest) (without f)) (plain rest) e → LeadTo (arrive d (plain rest) f) (plain rest) e
lacking d (optional k f g) rest e h s = rw h s
lacking d (ahead k f g) rest e h s = rw h s
lacking d (word r more) rest e h s = absurd h
lacking d (done p) rest e h s = absurd h

-- a word that is a number has only digits
pub number_digits : (most n : ℕ) (w : List ℕ) → IsNumber most n w → are_digits 10 w ≡ true
number_digits most n w h = (and_parts (are_digits 10 w) _ h.0).0

-- the next word isn't `class`
abbrev pub NoClass : List (List ℕ) → Type 0
NoClass ws = begins_with_key (codes "class") (plain ws) ≡ false

-- the draft between two statements
abbrev pub draft : List KindData → List TunableData → List RuleData → List Row → ℕ → Draft
draft ks ts rs t a = record { setting = record { kinds = ks; tunables = ts; rules = rs }; table = t; pending = nothing; adjusted = a }

abbrev pub early : Draft → State
early d = between (at first d)

-- THE FIRST PART of a document
-- the words of a tunable and of a type lead on
tunable_leads : (d : Draft) (name w : List ℕ) (n : ℕ) (rest : List (List ℕ)) (e : Draft) → IsNumber LARGEST_TUNABLE n w → LeadTo (early (with_tunable d name n)) (plain rest) e
    → LeadTo (early d) (plain (codes "tunable" ∷ name ∷ w ∷ rest)) e
tunable_leads d name w n rest e h k = words_lead (early d) (codes "tunable" ∷ name ∷ w ∷ []) rest e (inl (refl, inl refl), (tt, (h.0, tt))) (subst (λ (v : ℕ). LeadTo (early (with_tunable d name v)) (plain rest) e) (sym h.1) k)

kind_leads : (d : Draft) (name w : List ℕ) (n : ℕ) (rest : List (List ℕ)) (e : Draft) → IsNumber LAST_TYPE n w → LeadTo (early (with_kind d n name)) (plain rest) e → LeadTo (early d) (plain (codes "type" ∷ w ∷ name ∷ rest)) e
kind_leads d name w n rest e h k =
    words_lead (early d) (codes "type" ∷ w ∷ name ∷ []) rest e (inl (refl, inr (inr refl)), (number_digits LAST_TYPE n w h, (tt, tt))) (subst (λ (v : ℕ). LeadTo (early (with_kind d v name)) (plain rest) e) (sym h.1) k)

-- the words of a device, with a class or without, lead on
class_leads : (d : Draft) (n : ℕ) (name : List ℕ) (class : Option (List ℕ)) (ws rest : List (List ℕ)) (e : Draft) → SpellsClass class ws rest → NoClass rest → LeadTo (early (with_device d n name class)) (plain rest) e
    → LeadTo (arrive d (plain ws) (device_class d n name)) (plain ws) e
class_leads d n name None ws rest e h other k =
    subst (λ (x : List (List ℕ)). LeadTo (arrive d (plain x) (device_class d n name)) (plain x) e) (sym h) (lacking d (device_class d n name) rest e other (lead_so (between (passing Class (at first (with_device d n name None)))) (early (with_device d n name None)) (plain rest) e refl k))
class_leads d n name (Some c) ws rest e h other k =
    let all : List (List ℕ) = codes "class" ∷ c ∷ rest in
    subst (λ (x : List (List ℕ)). LeadTo (arrive d (plain x) (device_class d n name)) (plain x) e) (sym h) (words_lead (arrive d (plain all) (device_class d n name)) (codes "class" ∷ c ∷ []) rest e (refl, (tt, tt)) k)

device_leads : (d : Draft) (name w : List ℕ) (n : ℕ) (class : Option (List ℕ)) (more rest : List (List ℕ)) (e : Draft) → IsNumber LAST_DEVICE_ID n w → SpellsClass class more rest → NoClass rest → LeadTo (early (with_device d n name class)) (plain rest) e
    → LeadTo (early d) (plain (codes "device" ∷ w ∷ name ∷ more)) e
device_leads d name w n class more rest e h c other k =
    words_lead (early d) (codes "device" ∷ w ∷ name ∷ []) more e (inl (refl, inr (inl refl)), (number_digits LAST_DEVICE_ID n w h, (tt, tt)))
    (subst (λ (v : ℕ). LeadTo (arrive d (plain more) (device_class d v name)) (plain more) e) (sym h.1) (class_leads d n name class more rest e c other k))

-- the words of a line of the first part lead on
first_leads : (x : First) (ks : List KindData) (ts : List TunableData) (t : List Row) (ws rest : List (List ℕ)) (e : Draft) → SpellsFirst x ws rest → NoClass rest
    → LeadTo (early (draft (ks ++ first_kinds x) (ts ++ first_tunables x) [] (t ++ first_rows x) 0)) (plain rest) e → LeadTo (early (draft ks ts [] t 0)) (plain ws) e
first_leads (tunable name n) ks ts t ws rest e h other k =
    let same : draft (ks ++ []) (ts ++ first_tunables (tunable name n)) [] (t ++ []) 0 ≡ draft ks (ts ++ first_tunables (tunable name n)) [] t 0 = λ i. draft (append-nil ks i) (ts ++ first_tunables (tunable name n)) [] (append-nil t i) 0 in
    subst (λ (x : List (List ℕ)). LeadTo (early (draft ks ts [] t 0)) (plain x) e) (sym h.2) (tunable_leads (draft ks ts [] t 0) name h.0 n rest e h.1 (subst (λ (d : Draft). LeadTo (early d) (plain rest) e) same k))
first_leads (kind n name) ks ts t ws rest e h other k =
    let same : draft (ks ++ first_kinds (kind n name)) (ts ++ []) [] (t ++ []) 0 ≡ draft (ks ++ first_kinds (kind n name)) ts [] t 0 = λ i. draft (ks ++ first_kinds (kind n name)) (append-nil ts i) [] (append-nil t i) 0 in
    subst (λ (x : List (List ℕ)). LeadTo (early (draft ks ts [] t 0)) (plain x) e) (sym h.2) (kind_leads (draft ks ts [] t 0) name h.0 n rest e h.1 (subst (λ (d : Draft). LeadTo (early d) (plain rest) e) same k))
first_leads (device n name class) ks ts t ws rest e h other k =
    let same : draft (ks ++ []) (ts ++ []) [] (t ++ first_rows (device n name class)) 0 ≡ draft ks ts [] (t ++ first_rows (device n name class)) 0 = λ i. draft (append-nil ks i) (append-nil ts i) [] (t ++ first_rows (device n name class)) 0 in
    subst (λ (x : List (List ℕ)). LeadTo (early (draft ks ts [] t 0)) (plain x) e) (sym h.3) (device_leads (draft ks ts [] t 0) name h.0 n class h.1 rest e h.2 h.4 other (subst (λ (d : Draft). LeadTo (early d) (plain rest) e) same k))

-- the words of no line of the first part begin with `class`
first_begins : (x : First) (ws rest : List (List ℕ)) → SpellsFirst x ws rest → NoClass ws
first_begins (tunable name n) ws rest h = subst NoClass (sym h.2) refl
first_begins (kind n name) ws rest h = subst NoClass (sym h.2) refl
first_begins (device n name class) ws rest h = subst NoClass (sym h.3) refl

firsts_begin : (xs : List First) (ws more : List (List ℕ)) → SpellsEach SpellsFirst xs ws more → NoClass more → NoClass ws
firsts_begin [] ws more h other = subst NoClass (sym h) other
firsts_begin (x ∷ xs) ws more h other = first_begins x ws h.0 h.1

-- the words of all lines of the first part lead on
pub firsts_lead : (xs : List First) (ks : List KindData) (ts : List TunableData) (t : List Row) (ws more : List (List ℕ)) (e : Draft) → SpellsEach SpellsFirst xs ws more → NoClass more
    → LeadTo (early (draft (ks ++ flat_map first_kinds xs) (ts ++ flat_map first_tunables xs) [] (t ++ flat_map first_rows xs) 0)) (plain more) e → LeadTo (early (draft ks ts [] t 0)) (plain ws) e
firsts_lead [] ks ts t ws more e h other k =
    let same : draft (ks ++ []) (ts ++ []) [] (t ++ []) 0 ≡ draft ks ts [] t 0 = λ i. draft (append-nil ks i) (append-nil ts i) [] (append-nil t i) 0 in
    subst (λ (x : List (List ℕ)). LeadTo (early (draft ks ts [] t 0)) (plain x) e) (sym h) (subst (λ (d : Draft). LeadTo (early d) (plain more) e) same k)
firsts_lead (x ∷ xs) ks ts t ws more e h other k =
    let same : draft (ks ++ (first_kinds x ++ flat_map first_kinds xs)) (ts ++ (first_tunables x ++ flat_map first_tunables xs)) [] (t ++ (first_rows x ++ flat_map first_rows xs)) 0
    ≡ draft ((ks ++ first_kinds x) ++ flat_map first_kinds xs) ((ts ++ first_tunables x) ++ flat_map first_tunables xs) [] ((t ++ first_rows x) ++ flat_map first_rows xs) 0 =
    λ i. draft (sym (append_assoc ks (first_kinds x) (flat_map first_kinds xs)) i) (sym (append_assoc ts (first_tunables x) (flat_map first_tunables xs)) i) [] (sym (append_assoc t (first_rows x) (flat_map first_rows xs)) i) 0 in
    first_leads x ks ts t ws h.0 e h.1 (firsts_begin xs h.0 more h.2 other)
    (firsts_lead xs (ks ++ first_kinds x) (ts ++ first_tunables x) (t ++ first_rows x) h.0 more e h.2 other (subst (λ (d : Draft). LeadTo (early d) (plain more) e) same k))
