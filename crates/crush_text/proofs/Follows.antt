-- The words that may follow are those with which a text goes on, and no others.
use Rattle.std.proofs.Common.{◌≡◌, ◌≢◌, ◌⊎◌, ℕ, Bool, true, false, cond, List, [], ◌∷◌, ◌++◌, refl, sym, ap, subst, ◌∙◌, inl, inr}
use Rattle.std.proofs.lemmas.Slice.Eq.{bytes_eq-Decides}
use Rattle.std.specs.Prelude.{codes, bytes_eq, drop}
use Rattle.crush_units.specs.Words.{Word, Stop, Text, begins_with_key}
use Rattle.crush_builder.specs.Built.{Draft}
use Rattle.crush_text.specs.declared.expected.Optional.{Optional}
use Rattle.crush_text.specs.declared.fault.TextFault.{TextFault}
use Rattle.crush_text.specs.declared.fault.TextFaultKind.{TextFaultKind}
use Rattle.crush_text.specs.declared.fault.TextFaultKind.TheVariants.{Unexpected}
use Rattle.crush_text.specs.Role.{Role, key, item, lone_item}
use Rattle.crush_text.specs.Form.{Mode, first, second, begun, numbered, filling, ruled, Progress, Form, done, word, optional, ahead}
use Rattle.crush_text.specs.Grammar.{line_forms, next as next_line}
use Rattle.crush_text.specs.Rows.{Holds, IsRight}
use Rattle.crush_text.specs.Flow.{State, between, amid, arrive}
use Rattle.crush_text.specs.Document.{SpellsForm, SpellsNext, Spell, start}
use Rattle.crush_text.specs.Flaw.{IsFaulty, IsFlaw}
use Rattle.crush_text.specs.Expected.{words_of}
use Rattle.crush_text.specs.Follows.{IsOneOf, weighed, FitsForm, MayFollow, GoesOn}
use Rattle.crush_text.proofs.OptionalParts.{is_lone, HandsOn}
use Rattle.crush_text.proofs.Respelled.{WeightGone, right_weighed, respelled}
use Rattle.crush_text.proofs.Alike.{SameForm, NoWeight, OneWeight, Alike, alike}

-- KEYS
-- where a key is required, this key has no fault
key_right : (d : Draft) (k : List ℕ) → IsRight d (key k) k
key_right d k f g = by_fault f g
  where
    by_fault : (f : TextFaultKind) → Holds f d (key k) k → ⊥
    by_fault Unexpected g = g refl
    by_fault f g = g

-- where a key is required, a word that has no fault is this key
is_key : (d : Draft) (k w : List ℕ) → IsRight d (key k) w → bytes_eq w k ≡ false → ⊥
is_key d k w h e = h Unexpected (λ s. let yes : bytes_eq w k ≡ true = (bytes_eq-Decides w k).1 s in let no : true ≡ false = sym yes ∙ e in absurd cc)

-- if a word is one of the words ks or the word k, but can be none of them, then there is a contradiction
one_more : (ks : List (List ℕ)) (k w : List ℕ) → IsOneOf (ks ++ k ∷ []) w → (IsOneOf ks w → ⊥) → (w ≡ k → ⊥) → ⊥
one_more [] k w (inl e) none other = other e
one_more [] k w (inr h) none other = absurd h
one_more (c ∷ ks) k w (inl e) none other = none (inl e)
one_more (c ∷ ks) k w (inr h) none other = one_more ks k w h (λ g. none (inr g)) other

still_one : (ks : List (List ℕ)) (k w : List ℕ) → IsOneOf ks w → IsOneOf (ks ++ k ∷ []) w
still_one [] k w h = absurd h
still_one (c ∷ ks) k w (inl e) = inl e
still_one (c ∷ ks) k w (inr h) = inr (still_one ks k w h)

the_last : (ks : List (List ℕ)) (k w : List ℕ) → w ≡ k → IsOneOf (ks ++ k ∷ []) w
the_last [] k w e = inl e
the_last (c ∷ ks) k w e = inr (the_last ks k w e)

-- THE ROLE OF THE NEXT WORD
weighed_same : (r : Role) → is_lone r ≡ false → weighed r ≡ r
weighed_same lone_item e = absurd (let no : true ≡ false = e in cc)
weighed_same r e = refl

-- if the first word of a line has no fault, it leads to a state
fits_line : (d : Draft) (k : Optional) (m : Mode) (w : List ℕ) (rest : List Word) → FitsForm d (line_forms d k m) w → (u : State) × SpellsForm d (line_forms d k m) w rest u
fits_line d k first w rest h = (_, (h, refl))
fits_line d k second w rest h = (_, (h, refl))
fits_line d k begun w rest h = (_, (h, refl))
fits_line d k numbered w rest h = (_, (h, refl))
fits_line d k (filling any) w rest h = (_, (h, refl))
fits_line d k (ruled r) w rest h = (_, (h, refl))

line_fits : (d : Draft) (k : Optional) (m : Mode) (w : List ℕ) (rest : List Word) (u : State) → SpellsForm d (line_forms d k m) w rest u → FitsForm d (line_forms d k m) w
line_fits d k first w rest u h = h.0
line_fits d k second w rest u h = h.0
line_fits d k begun w rest u h = h.0
line_fits d k numbered w rest u h = h.0
line_fits d k (filling any) w rest u h = h.0
line_fits d k (ruled r) w rest u h = h.0

-- the word `weight`, which is put after each word: a line that gives an item's weight tests the sums at the weight, not at the item's name
abbrev a_weight : List Word
a_weight = record { place = 0; text = codes "weight" } ∷ []

-- EACH WORD THAT MAY FOLLOW leads to a state
abbrev LeadsOn : State → Word → List Word → Type 0
LeadsOn s w rest = (u : State) × SpellsNext s w.text rest u

key_leads : (d : Draft) (k : List ℕ) (more : Unit {0} → Form) (w : Word) (rest : List Word) → bytes_eq w.text k ≡ true → LeadsOn (amid d (word (key k) more)) w rest
key_leads d k more w rest e = (_, (subst (λ (t : List ℕ). IsRight d (key k) t) (sym ((bytes_eq-Decides w.text k).0 e)) (key_right d k), refl))

form_leads : (d : Draft) (next : List Word) (w : Word) (f : Form) (ks : List (List ℕ)) → HandsOn ks f → (IsOneOf ks w.text → ⊥) → MayFollow (arrive d next f) w.text → LeadsOn (arrive d (w ∷ a_weight) f) w a_weight
form_leads d next w (done p) ks h none (inl m) = absurd (none (subst (λ (l : List (List ℕ)). IsOneOf l w.text) h m))
form_leads d next w (done p) ks h none (inr m) = fits_line p.draft p.passed p.mode w.text a_weight m
form_leads d next w (word r more) ks h none m = (_, (subst (λ (x : Role). IsRight d x w.text) (weighed_same r h.1) m, refl))
form_leads d next w (optional k f g) ks h none m = by_word (bytes_eq w.text k) refl (λ other now. form_leads d next w g (ks ++ k ∷ []) h.2 (λ one. one_more ks k w.text one none other) now)
  where
    by_next : (b : Bool) → bytes_eq w.text k ≡ false → MayFollow (cond b (arrive d next f) (arrive d next g)) w.text → MayFollow (arrive d next g) w.text
    by_next true e n = absurd (is_key d k w.text (subst (λ (x : Form). MayFollow (arrive d next x) w.text) h.0.is n) e)
    by_next false e n = n

    by_word : (b : Bool) → bytes_eq w.text k ≡ b → ((w.text ≡ k → ⊥) → MayFollow (arrive d next g) w.text → LeadsOn (arrive d (w ∷ a_weight) g) w a_weight) → LeadsOn (cond b (arrive d (w ∷ a_weight) f) (arrive d (w ∷ a_weight) g)) w a_weight
    by_word true e go = subst (λ (x : Form). LeadsOn (arrive d (w ∷ a_weight) x) w a_weight) (sym h.0.is) (key_leads d k h.0.more w a_weight e)
    by_word false e go = go (λ s. let yes : bytes_eq w.text k ≡ true = (bytes_eq-Decides w.text k).1 s in let not_so : true ≡ false = sym yes ∙ e in absurd cc) (by_next (begins_with_key k next) e m)
form_leads d next w (ahead k f g) ks h none m = by_key (begins_with_key k a_weight) (ap (λ (c : List ℕ). begins_with_key c a_weight) h.1)
  where
    by_next : (b : Bool) → MayFollow (cond b (arrive d next f) (arrive d next g)) w.text → IsRight d item w.text
    by_next true n = subst (λ (x : Form). MayFollow (arrive d next x) w.text) h.2.weighed n
    by_next false n = subst (λ (x : Form). MayFollow (arrive d next x) w.text) h.2.alone n

    by_key : (b : Bool) → b ≡ true → LeadsOn (cond b (arrive d (w ∷ a_weight) f) (arrive d (w ∷ a_weight) g)) w a_weight
    by_key true e = subst (λ (x : Form). LeadsOn (arrive d (w ∷ a_weight) x) w a_weight) (sym h.2.weighed) (_, (by_next (begins_with_key k (drop 1 next)) m, refl))
    by_key false e = absurd (let wrong : false ≡ true = e in cc)

-- if the key `weight` is required next, no other word may follow
no_other_weight : (s : State) (d : Draft) (more : Unit {0} → Form) (w : List ℕ) → s ≡ amid d (word (key (codes "weight")) more) → bytes_eq w (codes "weight") ≡ false → MayFollow s w → ⊥
no_other_weight s d more w is e m = is_key d (codes "weight") w (subst (λ (x : State). MayFollow x w) is m) e

-- if the states a and b are alike (`Alike`), then each word that may follow in a leads on from b
alike_leads : (next : List Word) (w : Word) (a b : State) → Alike next (w ∷ a_weight) a b → MayFollow a w.text → LeadsOn b w a_weight
alike_leads next w a b (inl x) m = subst (λ (s : State). LeadsOn s w a_weight) (sym x.right) (form_leads x.draft next w x.form [] x.hands (λ h. h) (subst (λ (s : State). MayFollow s w.text) x.left m))
alike_leads next w a b (inr (inl x)) m = subst (λ (s : State). LeadsOn s w a_weight) (sym x.right) (by_it (subst (λ (s : State). MayFollow s w.text) x.left m))
  where
    by_it : MayFollow (between x.progress) w.text → LeadsOn (between x.progress) w a_weight
    by_it (inl one) = by_one (subst (λ (l : List (List ℕ)). IsOneOf l w.text) x.passes one)
      where
        by_one : IsOneOf (codes "weight" ∷ []) w.text → LeadsOn (between x.progress) w a_weight
        by_one (inl e) = absurd (let no : true ≡ false = sym ((bytes_eq-Decides w.text (codes "weight")).1 e) ∙ x.nor in cc)
        by_one (inr e) = absurd e
    by_it (inr n) = fits_line x.progress.draft x.progress.passed x.progress.mode w.text a_weight n
alike_leads next w a b (inr (inr (inl x))) m = subst (λ (s : State). LeadsOn s w a_weight) (sym x.right) (key_leads x.draft (codes "weight") x.more w a_weight x.there)
alike_leads next w a b (inr (inr (inr x))) m = absurd (no_other_weight a x.draft x.more w.text x.right x.none m)

-- THE LAW: the text goes on with each word that may follow
pub goes_on : (before next : List Word) (s : State) (w : Word) → Spell start before next s → MayFollow s w.text → GoesOn before w
goes_on [] next s w h m =
    let k = by_it (subst (λ (x : State). MayFollow x w.text) (sym h) m) in
    record { others = []; so_far = start; spelled = refl; further = k.0; right = k.1 }
  where
    by_it : MayFollow start w.text → LeadsOn start w []
    by_it (inl one) = absurd one
    by_it (inr n) = (_, (n, refl))
goes_on (v ∷ vs) next s w h m = by_it (respelled (v ∷ vs) start s next (w ∷ a_weight) tt h)
  where
    by_it : ((b : State) × Spell start (v ∷ vs) (w ∷ a_weight) b) ⊎ WeightGone next (w ∷ a_weight) s → GoesOn (v ∷ vs) w
    by_it (inl b) =
        let k = alike_leads next w s b.0 (alike v vs start s b.0 next (w ∷ a_weight) tt (λ l. let no : false ≡ true = l in absurd cc) h b.1) m in
        record { others = a_weight; so_far = b.0; spelled = b.1; further = k.0; right = k.1 }
    by_it (inr g) = absurd (no_other_weight s g.draft g.more w.text g.due g.gone m)

-- NO OTHER WORD MAY FOLLOW
-- if a key is required next, then it isn't the next word
abbrev pub KeyMissing : State → List Word → Type 0
KeyMissing s next = (d : Draft) (k : List ℕ) (more : Unit {0} → Form) → s ≡ amid d (word (key k) more) → begins_with_key k next ≡ true → ⊥

-- a word that begins one of the optional parts that were passed over may follow
passed_follows : (d : Draft) (next : List Word) (w : List ℕ) (f : Form) (ks : List (List ℕ)) → HandsOn ks f → IsOneOf ks w → KeyMissing (arrive d next f) next → MayFollow (arrive d next f) w
passed_follows d next w (done p) ks h one missing = inl (subst (λ (l : List (List ℕ)). IsOneOf l w) (sym h) one)
passed_follows d next w (word r more) ks h one missing = absurd (subst (λ (l : List (List ℕ)). IsOneOf l w) h.0 one)
passed_follows d next w (optional k f g) ks h one missing = by_next (begins_with_key k next) refl missing (λ m. passed_follows d next w g (ks ++ k ∷ []) h.2 (still_one ks k w one) m)
  where
    by_next : (b : Bool) → begins_with_key k next ≡ b → KeyMissing (cond b (arrive d next f) (arrive d next g)) next → (KeyMissing (arrive d next g) next → MayFollow (arrive d next g) w) → MayFollow (cond b (arrive d next f) (arrive d next g)) w
    by_next true e m go = absurd (m d k h.0.more (ap (arrive d next) h.0.is) e)
    by_next false e m go = go m
passed_follows d next w (ahead k f g) ks h one missing = absurd (subst (λ (l : List (List ℕ)). IsOneOf l w) h.0 one)

form_follows : (d : Draft) (next : List Word) (w : Word) (rest : List Word) (u : State) (f : Form) (ks : List (List ℕ)) → HandsOn ks f → KeyMissing (arrive d next f) next → SpellsNext (arrive d (w ∷ rest) f) w.text rest u → MayFollow (arrive d next f) w.text
form_follows d next w rest u (done p) ks h missing g = inr (line_fits p.draft p.passed p.mode w.text rest u g)
form_follows d next w rest u (word r more) ks h missing g = subst (λ (x : Role). IsRight d x w.text) (sym (weighed_same r h.1)) g.0
form_follows d next w rest u (optional k f g) ks h missing s = by_next (begins_with_key k next) refl missing (λ m. by_word m (bytes_eq w.text k) refl s (λ t. form_follows d next w rest u g (ks ++ k ∷ []) h.2 m t))
  where
    by_word : KeyMissing (arrive d next g) next → (b : Bool) → bytes_eq w.text k ≡ b → SpellsNext (cond b (arrive d (w ∷ rest) f) (arrive d (w ∷ rest) g)) w.text rest u → (SpellsNext (arrive d (w ∷ rest) g) w.text rest u → MayFollow (arrive d next g) w.text) → MayFollow (arrive d next g) w.text
    by_word m true e t go = passed_follows d next w.text g (ks ++ k ∷ []) h.2 (the_last ks k w.text ((bytes_eq-Decides w.text k).0 e)) m
    by_word m false e t go = go t

    by_next : (b : Bool) → begins_with_key k next ≡ b → KeyMissing (cond b (arrive d next f) (arrive d next g)) next → (KeyMissing (arrive d next g) next → MayFollow (arrive d next g) w.text) → MayFollow (cond b (arrive d next f) (arrive d next g)) w.text
    by_next true e m go = absurd (m d k h.0.more (ap (arrive d next) h.0.is) e)
    by_next false e m go = go m
form_follows d next w rest u (ahead k f g) ks h missing s = by_next (begins_with_key k (drop 1 next)) (by_rest (begins_with_key k rest) s)
  where
    by_rest : (b : Bool) → SpellsNext (cond b (arrive d (w ∷ rest) f) (arrive d (w ∷ rest) g)) w.text rest u → IsRight d item w.text
    by_rest true t = (subst (λ (x : Form). SpellsNext (arrive d (w ∷ rest) x) w.text rest u) h.2.weighed t).0
    by_rest false t = right_weighed d w.text (subst (λ (x : Form). SpellsNext (arrive d (w ∷ rest) x) w.text rest u) h.2.alone t).0

    by_next : (b : Bool) → IsRight d item w.text → MayFollow (cond b (arrive d next f) (arrive d next g)) w.text
    by_next true n = subst (λ (x : Form). MayFollow (arrive d next x) w.text) (sym h.2.weighed) n
    by_next false n = subst (λ (x : Form). MayFollow (arrive d next x) w.text) (sym h.2.alone) n

alike_follows : (next : List Word) (w : Word) (rest : List Word) (a b u : State) → KeyMissing a next → Alike next (w ∷ rest) a b → SpellsNext b w.text rest u → MayFollow a w.text
alike_follows next w rest a b u missing (inl x) g =
    subst (λ (s : State). MayFollow s w.text) (sym x.left) (form_follows x.draft next w rest u x.form [] x.hands (subst (λ (s : State). KeyMissing s next) x.left missing) (subst (λ (s : State). SpellsNext s w.text rest u) x.right g))
alike_follows next w rest a b u missing (inr (inl x)) g =
    subst (λ (s : State). MayFollow s w.text) (sym x.left) (inr (line_fits x.progress.draft x.progress.passed x.progress.mode w.text rest u (subst (λ (s : State). SpellsNext s w.text rest u) x.right g)))
alike_follows next w rest a b u missing (inr (inr (inl x))) g =
    subst (λ (s : State). MayFollow s w.text) (sym x.left) (inl (subst (λ (l : List (List ℕ)). IsOneOf l w.text) (sym x.passes) (inl ((bytes_eq-Decides w.text (codes "weight")).0 x.there))))
alike_follows next w rest a b u missing (inr (inr (inr x))) g = absurd (missing x.draft (codes "weight") x.more x.right x.there)

-- THE LAW: a text goes on with no other word
pub only_these : (before next : List Word) (s : State) (w : Word) → Spell start before next s → KeyMissing s next → GoesOn before w → MayFollow s w.text
only_these [] next s w h missing g =
    subst (λ (x : State). MayFollow x w.text) h (inr (subst (λ (x : State). SpellsNext x w.text g.others g.further) (sym g.spelled) g.right).0)
only_these (v ∷ vs) next s w h missing g = alike_follows next w g.others s g.so_far g.further missing (alike v vs start s g.so_far next (w ∷ g.others) tt (λ l. let no : false ≡ true = l in absurd cc) h g.spelled) g.right

-- if the next word is at fault, then it isn't a key that is required
key_missing : (s : State) (next : List Word) (stop : Stop) (f : TextFault) → IsFaulty s next stop f → KeyMissing s next
key_missing s [] stop f h d k more is e = absurd (let no : false ≡ true = e in cc)
key_missing s (w ∷ ws) stop f h d k more is e =
    let fault = subst (λ (x : State). IsFaulty x (w ∷ ws) stop f) is h in
    subst (λ (t : List ℕ). IsRight d (key k) t) (sym ((bytes_eq-Decides w.text k).0 e)) (key_right d k) f.kind fault.0.0

-- BEFORE A FLAW the words that may follow are those with which the text goes on
pub expected_words_go_on : (t : Text) (f : TextFault) (x : IsFlaw t f) (w : Word) → MayFollow x.so_far w.text → GoesOn x.before w
expected_words_go_on t f x w m = goes_on x.before x.next x.so_far w x.spelled m

pub no_other_word_goes_on : (t : Text) (f : TextFault) (x : IsFlaw t f) (w : Word) → GoesOn x.before w → MayFollow x.so_far w.text
no_other_word_goes_on t f x w g = only_these x.before x.next x.so_far w x.spelled (key_missing x.so_far x.next t.stop f x.fault) g
