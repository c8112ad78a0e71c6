-- If the same words are followed first by the words us and then by the words vs, they lead to two states: how these two states can differ.
use Rattle.std.proofs.Common.{◌≡◌, ◌⊎◌, ℕ, Bool, true, false, List, [], ◌∷◌, ◌++◌, refl, sym, ap, subst, ◌∙◌, inl, inr}
use Rattle.std.specs.Prelude.{codes}
use Rattle.crush_units.specs.Words.{Word}
use Rattle.crush_builder.specs.Built.{Draft}
use Rattle.crush_text.specs.Role.{key, item, lone_item, value}
use Rattle.crush_text.specs.Form.{Progress, Form, word}
use Rattle.crush_text.specs.Flow.{State, between, amid, arrive}
use Rattle.crush_text.specs.Document.{SpellsNext, Spell}
use Rattle.crush_text.specs.Expected.{words_of}
use Rattle.crush_text.proofs.OptionalParts.{PassesWeight, HandsOn, IsInForm}
use Rattle.crush_text.proofs.Respelled.{is_weight_next, IsLone, OneStep, one_step, step_in_form, two_words, Parts, Near, near_behind}

-- both states require the same form; the words us follow in the first state, and the words vs in the second
pub record SameForm (us vs : List Word) (a b : State) : Type 0 where
  pub draft : Draft
  pub form : Form
  pub hands : HandsOn [] form
  pub left : a ≡ arrive draft us form
  pub right : b ≡ arrive draft vs form

-- in both states, the line of an item is complete, and no weight follows
pub record NoWeight (us vs : List Word) (a b : State) : Type 0 where
  pub progress : Progress
  pub passes : words_of progress.passed ≡ codes "weight" ∷ []
  pub left : a ≡ between progress
  pub right : b ≡ between progress
  pub none : is_weight_next us ≡ false
  pub nor : is_weight_next vs ≡ false

-- in the first state, the line of an item is complete and no weight follows; in the second state, `weight` is required and follows
pub record OneWeight (us vs : List Word) (a b : State) : Type 0 where
  pub progress : Progress
  pub passes : words_of progress.passed ≡ codes "weight" ∷ []
  pub left : a ≡ between progress
  pub draft : Draft
  pub more : Unit {0} → Form
  pub right : b ≡ amid draft (word (key (codes "weight")) more)
  pub none : is_weight_next us ≡ false
  pub there : is_weight_next vs ≡ true

-- HOW THE TWO STATES CAN DIFFER
abbrev pub Alike : List Word → List Word → State → State → Type 0
Alike us vs a b = SameForm us vs a b ⊎ (NoWeight us vs a b ⊎ (OneWeight us vs a b ⊎ OneWeight vs us b a))

-- after one word
pub last_alike : (s : State) (w : List ℕ) (us vs : List Word) (a b : State) → IsInForm s → (IsLone s → (is_weight_next us ≡ false) × (is_weight_next vs ≡ false)) → SpellsNext s w us a → SpellsNext s w vs b → Alike us vs a b
last_alike s w us vs a b k lone h g = by_hands o.hands
  where
    o : OneStep s w
    o = one_step s w us a k h

    by_hands : HandsOn [] o.behind ⊎ (IsLone s × PassesWeight o.behind) → Alike us vs a b
    by_hands (inl x) = inl (record { draft = o.draft; form = o.behind; hands = x; left = o.leads us a h; right = o.leads vs b g })
    by_hands (inr x) = inr (inl (record {
      progress = x.1.progress;
      passes = x.1.passes;
      left = o.leads us a h ∙ ap (arrive o.draft us) x.1.is;
      right = o.leads vs b g ∙ ap (arrive o.draft vs) x.1.is;
      none = (lone x.0).0;
      nor = (lone x.0).1;
    }))

-- after the name of an item, if a weight follows it only in the second state
part_alike : (us vs : List Word) (a b u v : State) (x : List ℕ) → Parts us vs a b → SpellsNext a x us u → SpellsNext b x vs v → OneWeight us vs u v
part_alike us vs a b u v x p h g =
    let left : SpellsNext (amid p.draft (word lone_item p.last)) x us u = subst (λ (s : State). SpellsNext s x us u) p.alone h in
    let right : SpellsNext (amid p.draft (word item p.more)) x vs v = subst (λ (s : State). SpellsNext s x vs v) p.weighed g in
    let last = p.passes (value p.draft lone_item x) in
    let more = p.begins (value p.draft item x) in
    record {
      progress = last.progress;
      passes = last.passes;
      left = left.1 ∙ ap (arrive p.draft us) last.is;
      draft = p.draft;
      more = more.more;
      right = right.1 ∙ ap (arrive p.draft vs) more.is;
      none = p.none;
      there = p.there;
    }

-- after two words or more
two_alike : (w x : Word) (ws : List Word) (s a b : State) (us vs : List Word) → IsInForm s → Spell s (w ∷ x ∷ ws) us a → Spell s (w ∷ x ∷ ws) vs b → Alike us vs a b
two_alike w x [] s a b us vs k h g = by_near (near_behind s w.text x us vs o)
  where
    o : OneStep s w.text
    o = one_step s w.text (x ∷ us) h.0 k h.1

    left : h.0 ≡ arrive o.draft (x ∷ us) o.behind
    left = o.leads (x ∷ us) h.0 h.1

    right : g.0 ≡ arrive o.draft (x ∷ vs) o.behind
    right = o.leads (x ∷ vs) g.0 g.1

    first_of : SpellsNext (arrive o.draft (x ∷ us) o.behind) x.text us a
    first_of = subst (λ (u : State). SpellsNext u x.text us a) left (subst (λ (u : State). SpellsNext h.0 x.text us u) h.2.2 h.2.1)

    second_of : SpellsNext (arrive o.draft (x ∷ vs) o.behind) x.text vs b
    second_of = subst (λ (u : State). SpellsNext u x.text vs b) right (subst (λ (u : State). SpellsNext g.0 x.text vs u) g.2.2 g.2.1)

    by_near : Near us vs (arrive o.draft (x ∷ us) o.behind) (arrive o.draft (x ∷ vs) o.behind) → Alike us vs a b
    by_near (inl e) = last_alike (arrive o.draft (x ∷ us) o.behind) x.text us vs a b (subst IsInForm left (step_in_form s w.text (x ∷ us) h.0 k h.1)) e.1 first_of (subst (λ (u : State). SpellsNext u x.text vs b) (sym e.0) second_of)
    by_near (inr (inl p)) = inr (inr (inl (part_alike us vs _ _ a b x.text p first_of second_of)))
    by_near (inr (inr p)) = inr (inr (inr (part_alike vs us _ _ b a x.text p second_of first_of)))
two_alike w x (y ∷ ws) s a b us vs k h g =
    let o = one_step s w.text (x ∷ y ∷ ws ++ us) h.0 k h.1 in
    let same : g.0 ≡ h.0 = o.leads (x ∷ y ∷ ws ++ vs) g.0 g.1 ∙ two_words o.draft x y (ws ++ vs) (ws ++ us) o.behind ∙ sym (o.leads (x ∷ y ∷ ws ++ us) h.0 h.1) in
    two_alike x y ws h.0 a b us vs (step_in_form s w.text (x ∷ y ∷ ws ++ us) h.0 k h.1) h.2 (subst (λ (u : State). Spell u (x ∷ y ∷ ws) vs b) same g.2)

-- after at least one word
pub alike : (w : Word) (ws : List Word) (s a b : State) (us vs : List Word) → IsInForm s → (IsLone s → ⊥) → Spell s (w ∷ ws) us a → Spell s (w ∷ ws) vs b → Alike us vs a b
alike w [] s a b us vs k lone h g = last_alike s w.text us vs a b k (λ l. absurd (lone l)) (subst (λ (u : State). SpellsNext s w.text us u) h.2 h.1) (subst (λ (u : State). SpellsNext s w.text vs u) g.2 g.1)
alike w (x ∷ ws) s a b us vs k lone h g = two_alike w x ws s a b us vs k h g
