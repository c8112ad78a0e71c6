-- THE SAME WORDS WITH OTHER WORDS AFTER THEM: to which states they lead.
use Rattle.std.proofs.Common.{◌≡◌, ◌⊎◌, ℕ, Bool, true, false, cond, List, [], ◌∷◌, ◌++◌, refl, sym, ap, subst, ◌∙◌, inl, inr}
use Rattle.std.specs.Prelude.{codes, bytes_eq, drop}
use Rattle.crush_units.specs.declared.id.ItemId.{ItemId}
use Rattle.crush_units.specs.Words.{Word, begins_with_key}
use Rattle.crush_builder.specs.Built.{Draft}
use Rattle.crush_text.specs.declared.expected.Optional.{Optional}
use Rattle.crush_text.specs.declared.fault.TextFaultKind.{TextFaultKind}
use Rattle.crush_text.specs.declared.fault.TextFaultKind.TheVariants.{SumTooLarge}
use Rattle.crush_text.specs.Role.{Role, El, key, item, lone_item, value}
use Rattle.crush_text.specs.Form.{Mode, first, second, begun, numbered, filling, ruled, Progress, Form, done, word, optional, ahead}
use Rattle.crush_text.specs.Grammar.{line_forms, next as next_line}
use Rattle.crush_text.specs.Rows.{Holds, IsRight}
use Rattle.crush_text.specs.Flow.{State, between, amid, arrive}
use Rattle.crush_text.specs.Document.{SpellsForm, SpellsNext, Spell}
use Rattle.crush_text.specs.Expected.{words_of}
use Rattle.crush_text.proofs.OptionalParts.{is_lone, BeginsWith, PassesWeight, IsItemLine, HandsOn, HandsOnBehind, IsInForm, line_hands, arrive_in_form}

-- whether `weight` is next
abbrev pub is_weight_next : List Word → Bool
is_weight_next ws = begins_with_key (codes "weight") ws

-- the form begins with an item's name that no weight follows
abbrev pub IsLoneForm : Form → Type 0
IsLoneForm (word r more) = is_lone r ≡ true
IsLoneForm (done p) = ⊥
IsLoneForm (optional k f g) = ⊥
IsLoneForm (ahead k f g) = ⊥

abbrev pub IsLone : State → Type 0
IsLone (between p) = IsLoneForm (next_line p)
IsLone (amid d f) = IsLoneForm f

-- no line begins with the role `lone_item`
line_not_lone : (d : Draft) (k : Optional) (m : Mode) → IsLoneForm (line_forms d k m) → ⊥
line_not_lone d k first e = let no : false ≡ true = e in absurd cc
line_not_lone d k second e = let no : false ≡ true = e in absurd cc
line_not_lone d k begun e = let no : false ≡ true = e in absurd cc
line_not_lone d k numbered e = let no : false ≡ true = e in absurd cc
line_not_lone d k (filling any) e = let no : false ≡ true = e in absurd cc
line_not_lone d k (ruled r) e = let no : false ≡ true = e in absurd cc

-- ONE WORD: the form that is required after it, whatever words follow it
pub record OneWord (d : Draft) (g : Form) (w : List ℕ) : Type 0 where
  pub behind : Form
  pub hands : HandsOn [] behind ⊎ (IsLoneForm g × PassesWeight behind)
  pub leads : (rest : List Word) (m : State) → SpellsForm d g w rest m → m ≡ arrive d rest behind
  pub right : (rest : List Word) → SpellsForm d g w rest (arrive d rest behind)

by_role : (r : Role) (f : Form) → HandsOnBehind r f → HandsOn [] f ⊎ ((is_lone r ≡ true) × PassesWeight f)
by_role lone_item f h = inr (refl, h)
by_role r f h = inl h

of_form : (d : Draft) (g : Form) (w : List ℕ) (rest : List Word) (m : State) → IsInForm (amid d g) → SpellsForm d g w rest m → OneWord d g w
of_form d (word r more) w rest m k h = record { behind = more (value d r w); hands = by_role r (more (value d r w)) (k (value d r w)); leads = λ us u e. e.1; right = λ us. (h.0, refl) }
of_form d (done p) w rest m k h = absurd h
of_form d (optional c f g) w rest m k h = absurd h
of_form d (ahead c f g) w rest m k h = absurd h

-- the same for a word in a state
pub record OneStep (s : State) (w : List ℕ) : Type 0 where
  pub draft : Draft
  pub behind : Form
  pub hands : HandsOn [] behind ⊎ (IsLone s × PassesWeight behind)
  pub leads : (rest : List Word) (m : State) → SpellsNext s w rest m → m ≡ arrive draft rest behind
  pub right : (rest : List Word) → SpellsNext s w rest (arrive draft rest behind)

pub one_step : (s : State) (w : List ℕ) (rest : List Word) (m : State) → IsInForm s → SpellsNext s w rest m → OneStep s w
one_step (between p) w rest m k h =
    let o = of_form p.draft (next_line p) w rest m (line_hands p.draft p.passed p.mode) h in
    record { draft = p.draft; behind = o.behind; hands = o.hands; leads = o.leads; right = o.right }
one_step (amid d g) w rest m k h =
    let o = of_form d g w rest m k h in
    record { draft = d; behind = o.behind; hands = o.hands; leads = o.leads; right = o.right }

-- a state to which a word leads satisfies `IsInForm`
pub step_in_form : (s : State) (w : List ℕ) (rest : List Word) (m : State) → IsInForm s → SpellsNext s w rest m → IsInForm m
step_in_form s w rest m k h = let o = one_step s w rest m k h in subst IsInForm (sym (o.leads rest m h)) (by_hands o o.hands)
  where
    by_hands : (o : OneStep s w) → HandsOn [] o.behind ⊎ (IsLone s × PassesWeight o.behind) → IsInForm (arrive o.draft rest o.behind)
    by_hands o (inl a) = arrive_in_form o.draft rest o.behind [] a
    by_hands o (inr a) = subst (λ (f : Form). IsInForm (arrive o.draft rest f)) (sym a.1.is) tt

-- TWO WORDS decide which form is required; the words after them don't matter
pub two_words : (d : Draft) (x y : Word) (us vs : List Word) (g : Form) → arrive d (x ∷ y ∷ us) g ≡ arrive d (x ∷ y ∷ vs) g
two_words d x y us vs (done p) = refl
two_words d x y us vs (word r more) = refl
two_words d x y us vs (optional k f g) = λ i. cond (bytes_eq x.text k) (two_words d x y us vs f i) (two_words d x y us vs g i)
two_words d x y us vs (ahead k f g) = λ i. cond (bytes_eq y.text k) (two_words d x y us vs f i) (two_words d x y us vs g i)

-- if only one word is left, then the words after it decide whether the item that it names has a weight: in the state a it has none, and in the state b it has one
pub record Parts (us vs : List Word) (a b : State) : Type 0 where
  pub draft : Draft
  pub more : ItemId → Form
  pub last : ItemId → Form
  pub begins : (i : ItemId) → BeginsWith (codes "weight") (more i)
  pub passes : (i : ItemId) → PassesWeight (last i)
  pub alone : a ≡ amid draft (word lone_item last)
  pub weighed : b ≡ amid draft (word item more)
  pub none : is_weight_next us ≡ false
  pub there : is_weight_next vs ≡ true

-- the two states are equal, or in one of them the item that the next word names has a weight, and in the other it has none
abbrev pub Near : List Word → List Word → State → State → Type 0
Near us vs a b = ((a ≡ b) × (IsLone a → (is_weight_next us ≡ false) × (is_weight_next vs ≡ false))) ⊎ (Parts us vs a b ⊎ Parts vs us b a)

near_both : (us vs : List Word) (t : Bool) (a b u v : State) → Near us vs a u → Near us vs b v → Near us vs (cond t a b) (cond t u v)
near_both us vs true a b u v h k = h
near_both us vs false a b u v h k = k

near_item : (d : Draft) (us vs : List Word) (s t : Bool) (a b u v : State) (more last : ItemId → Form) → is_weight_next us ≡ s → is_weight_next vs ≡ t → ((i : ItemId) → BeginsWith (codes "weight") (more i)) → ((i : ItemId) → PassesWeight (last i))
    → a ≡ amid d (word item more) → u ≡ amid d (word item more) → b ≡ amid d (word lone_item last) → v ≡ amid d (word lone_item last) → Near us vs (cond s a b) (cond t u v)
near_item d us vs true true a b u v more last x y begins passes ea eu eb ev = inl (ea ∙ sym eu, λ l. absurd (let no : false ≡ true = subst IsLone ea l in cc))
near_item d us vs false false a b u v more last x y begins passes ea eu eb ev = inl (eb ∙ sym ev, λ l. (x, y))
near_item d us vs false true a b u v more last x y begins passes ea eu eb ev = inr (inl (record { draft = d; more = more; last = last; begins = begins; passes = passes; alone = eb; weighed = eu; none = x; there = y }))
near_item d us vs true false a b u v more last x y begins passes ea eu eb ev = inr (inr (record { draft = d; more = more; last = last; begins = begins; passes = passes; alone = ev; weighed = ea; none = y; there = x }))

near : (d : Draft) (x : Word) (us vs : List Word) (g : Form) (ks : List (List ℕ)) → HandsOn ks g → Near us vs (arrive d (x ∷ us) g) (arrive d (x ∷ vs) g)
near d x us vs (done p) ks h = inl (refl, λ l. absurd (line_not_lone p.draft p.passed p.mode l))
near d x us vs (word r more) ks h = inl (refl, λ l. absurd (let no : true ≡ false = sym l ∙ h.1 in cc))
near d x us vs (optional k f g) ks h =
    near_both us vs (bytes_eq x.text k) (arrive d (x ∷ us) f) (arrive d (x ∷ us) g) (arrive d (x ∷ vs) f) (arrive d (x ∷ vs) g) (near d x us vs f [] h.1) (near d x us vs g (ks ++ k ∷ []) h.2)
near d x us vs (ahead k f g) ks h =
    near_item d us vs (begins_with_key k us) (begins_with_key k vs) (arrive d (x ∷ us) f) (arrive d (x ∷ us) g) (arrive d (x ∷ vs) f) (arrive d (x ∷ vs) g) h.2.more h.2.last (ap (λ (c : List ℕ). begins_with_key c us) (sym h.1)) (ap (λ (c : List ℕ). begins_with_key c vs) (sym h.1)) h.2.begins h.2.passes
    (ap (arrive d (x ∷ us)) h.2.weighed) (ap (arrive d (x ∷ vs)) h.2.weighed) (ap (arrive d (x ∷ us)) h.2.alone) (ap (arrive d (x ∷ vs)) h.2.alone)

-- the same after one more word
pub near_behind : (s : State) (w : List ℕ) (x : Word) (us vs : List Word) (o : OneStep s w) → Near us vs (arrive o.draft (x ∷ us) o.behind) (arrive o.draft (x ∷ vs) o.behind)
near_behind s w x us vs o = by_hands o.hands
  where
    by_hands : HandsOn [] o.behind ⊎ (IsLone s × PassesWeight o.behind) → Near us vs (arrive o.draft (x ∷ us) o.behind) (arrive o.draft (x ∷ vs) o.behind)
    by_hands (inl h) = near o.draft x us vs o.behind [] h
    by_hands (inr h) = subst (λ (f : Form). Near us vs (arrive o.draft (x ∷ us) f) (arrive o.draft (x ∷ vs) f)) (sym h.1.is) (inl (refl, λ l. absurd (line_not_lone h.1.progress.draft h.1.progress.passed h.1.progress.mode l)))

-- THE SAME WORDS SPELL LINES with other words after them
-- if an item's name has no fault without a weight, then it has none with a weight
pub right_weighed : (d : Draft) (w : List ℕ) → IsRight d lone_item w → IsRight d item w
right_weighed d w h f g = by_fault f g (h f)
  where
    by_fault : (f : TextFaultKind) → Holds f d item w → (Holds f d lone_item w → ⊥) → ⊥
    by_fault SumTooLarge g k = absurd g
    by_fault f g k = k g

-- in the state s, `weight` is required; it is the next word of us, but not of vs
pub record WeightGone (us vs : List Word) (s : State) : Type 0 where
  pub draft : Draft
  pub more : Unit {0} → Form
  pub due : s ≡ amid draft (word (key (codes "weight")) more)
  pub there : is_weight_next us ≡ true
  pub gone : is_weight_next vs ≡ false

-- words that spell lines also spell lines with other words after them, unless a `weight` that is required is missing then
pub respelled : (ws : List Word) (s a : State) (us vs : List Word) → IsInForm s → Spell s ws us a → ((b : State) × Spell s ws vs b) ⊎ WeightGone us vs a
respelled [] s a us vs k h = inl (s, refl)
respelled (w ∷ []) s a us vs k h = let o = one_step s w.text us h.0 k h.1 in inl (_, (arrive o.draft vs o.behind, o.right vs, refl))
respelled (w ∷ x ∷ []) s a us vs k h = by_near (near_behind s w.text x us vs o)
  where
    o : OneStep s w.text
    o = one_step s w.text (x ∷ us) h.0 k h.1

    is : h.0 ≡ arrive o.draft (x ∷ us) o.behind
    is = o.leads (x ∷ us) h.0 h.1

    by_near : Near us vs (arrive o.draft (x ∷ us) o.behind) (arrive o.draft (x ∷ vs) o.behind) → ((b : State) × Spell s (w ∷ x ∷ []) vs b) ⊎ WeightGone us vs a
    by_near (inl e) =
        let so : SpellsNext s w.text (x ∷ vs) h.0 = subst (λ (u : State). SpellsNext s w.text (x ∷ vs) u) (sym (is ∙ e.0)) (o.right (x ∷ vs)) in
        let q = one_step h.0 x.text us h.2.0 (step_in_form s w.text (x ∷ us) h.0 k h.1) h.2.1 in
        inl (_, (h.0, so, (arrive q.draft vs q.behind, q.right vs, refl)))
    by_near (inr (inl p)) =
        let there : SpellsNext (amid p.draft (word lone_item p.last)) x.text us h.2.0 = subst (λ (u : State). SpellsNext u x.text us h.2.0) (is ∙ p.alone) h.2.1 in
        inl (_, (arrive o.draft (x ∷ vs) o.behind, o.right (x ∷ vs), (arrive p.draft vs (p.more (value p.draft item x.text)), subst (λ (u : State). SpellsNext u x.text vs (arrive p.draft vs (p.more (value p.draft item x.text)))) (sym p.weighed) (right_weighed p.draft x.text there.0, refl), refl)))
    by_near (inr (inr p)) =
        let there : SpellsNext (amid p.draft (word item p.more)) x.text us h.2.0 = subst (λ (u : State). SpellsNext u x.text us h.2.0) (is ∙ p.weighed) h.2.1 in
        let b = p.begins (value p.draft item x.text) in
        inr (record { draft = p.draft; more = b.more; due = sym h.2.2 ∙ there.1 ∙ ap (arrive p.draft us) b.is; there = p.there; gone = p.none })
respelled (w ∷ x ∷ y ∷ ws) s a us vs k h =
    let o = one_step s w.text (x ∷ y ∷ ws ++ us) h.0 k h.1 in
    let so : SpellsNext s w.text (x ∷ y ∷ ws ++ vs) h.0 = subst (λ (u : State). SpellsNext s w.text (x ∷ y ∷ ws ++ vs) u) (sym (o.leads (x ∷ y ∷ ws ++ us) h.0 h.1 ∙ two_words o.draft x y (ws ++ us) (ws ++ vs) o.behind)) (o.right (x ∷ y ∷ ws ++ vs)) in
    by_rest so (respelled (x ∷ y ∷ ws) h.0 a us vs (step_in_form s w.text (x ∷ y ∷ ws ++ us) h.0 k h.1) h.2)
  where
    by_rest : SpellsNext s w.text (x ∷ y ∷ ws ++ vs) h.0 → ((b : State) × Spell h.0 (x ∷ y ∷ ws) vs b) ⊎ WeightGone us vs a → ((b : State) × Spell s (w ∷ x ∷ y ∷ ws) vs b) ⊎ WeightGone us vs a
    by_rest so (inl b) = inl (b.0, (h.0, so, b.1))
    by_rest so (inr g) = inr g
