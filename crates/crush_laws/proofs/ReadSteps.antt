-- Proves that the words that are read as a step are the words that the grammar spells.
use Rattle.std.proofs.Common.{◌≡◌, ◌⊎◌, ℕ, Bool, true, false, List, ◌∷◌, Option, Some, None, refl, sym, ap, ◌∙◌, inl, inr}
use Rattle.std.proofs.lemmas.Slice.Eq.{bytes_eq-Decides}
use Rattle.std.specs.Prelude.{codes, bytes_eq, cond, unwrap_or, nat_eq, option_and_then}
use Rattle.std.specs.List.{starts_with}
use Rattle.std.specs.Str.Parse.{digits_value}
use Rattle.crush_units.specs.declared.id.ItemId.{ItemId}
use Rattle.crush_model.specs.Table.{id_named}
use Rattle.crush_edits.specs.Setting.{RuleData, take, choose}
use Rattle.crush_edits.specs.Stops.{bucket_named, number_of}
use Rattle.crush_builder.specs.Built.{Draft, Pending, nothing}
use Rattle.crush_builder.specs.Building.{closed_item}
use Rattle.crush_builder.specs.Rules.{complete_bucket_named}
use Rattle.crush_text.specs.declared.fault.TextFaultKind.TheVariants.{BadNumber}
use Rattle.crush_units.specs.Numbers.{signed_value}
use Rattle.crush_text.specs.Role.{key, any_word, step_word, step_order, taken_bucket, value, bucket_of_word, takes as word_takes, chooses as word_chooses, sets as word_sets, emits as word_emits}
use Rattle.crush_text.specs.Form.{ruled, Progress, at, word, passing, done}
use Rattle.crush_text.specs.Grammar.{with_step, step_done, step_behind}
use Rattle.crush_text.specs.Rows.{IsRight}
use Rattle.crush_laws.specs.Admitted.{BeginsStep}
use Rattle.crush_laws.specs.Document.{StepLine, takes, chooses, sets, emits}
use Rattle.crush_laws.specs.Spells.{SpellsStep, choice_word, order_word}
use Rattle.crush_laws.specs.Meaning.{step_in, TakesBucket}
use Rattle.crush_laws.proofs.Keeps.{not_false}
use Rattle.crush_laws.proofs.LawfulTexts.{is_for}
use Rattle.crush_laws.proofs.ReadLines.{Line}
use Rattle.crush_laws.proofs.ReadParts.{cons_is, is_word}
use Rattle.crush_text.specs.declared.expected.Optional.TheVariants.{Class}
use Rattle.crush_text.specs.declared.expected.Expected.TheVariants as expect

-- the words were read as a step, after which the rule goes on
pub record StepRead (d : Draft) (r : RuleData) (words v : List (List ℕ)) (q : Progress) : Type 0 where
  pub step : StepLine
  pub spelled : SpellsStep step words v
  pub names : TakesBucket d.table step
  pub leads : at (ruled (with_step r (step_in d.table step))) d ≡ q

closed : (o : Option ItemId) → option_and_then (closed_item nothing) o ≡ o
closed None = refl
closed (Some i) = refl

module _ (d : Draft) (r : RuleData) (idle : d.pending ≡ nothing) where
  named : (x : List ℕ) → complete_bucket_named d x ≡ bucket_named d.table x
  named x = ap (option_and_then number_of) (ap (λ (p : Pending). option_and_then (closed_item p) (id_named d.table x)) idle ∙ closed (id_named d.table x))

  read_take : (words us v : List (List ℕ)) (q : Progress) → words ≡ codes "step" ∷ codes "take" ∷ us → Line d (step_behind d r word_takes) us v q → StepRead d r words v q
  read_take words us v q e h = by_class h.4
    where
      is : bucket_of_word d h.0 ≡ unwrap_or (bucket_named d.table h.0) 0
      is = ap (λ (o : Option ℕ). unwrap_or o 0) (named h.0)

      known : bucket_named d.table h.0 ≡ Some (unwrap_or (bucket_named d.table h.0) 0)
      known = sym (named h.0) ∙ is_for d taken_bucket h.0 h.3 ∙ ap (λ (b : ℕ). Some b) is

      head : words ≡ codes "step" ∷ codes "take" ∷ h.0 ∷ h.1
      head = e ∙ ap (λ (l : List (List ℕ)). codes "step" ∷ codes "take" ∷ l) h.2

      by_class : (Line d (word (key (codes "class")) (λ _. word (any_word expect.Class) (λ c. step_done d r (take (bucket_of_word d h.0) (Some c))))) h.1 v q) ⊎ (Line d (done (passing Class (at (ruled (with_step r (take (bucket_of_word d h.0) None))) d))) h.1 v q) → StepRead d r words v q
      by_class (inl c) = record {
        step = takes h.0 (Some c.4.0);
        spelled = (h.1, head, cons_is h.1 c.0 (codes "class") c.1 (c.4.0 ∷ v) c.2 (is_for d (key (codes "class")) c.0 c.3) (cons_is c.1 c.4.0 c.4.0 c.4.1 v c.4.2 refl c.4.4.0));
        names = known;
        leads = ap (λ (b : ℕ). at (ruled (with_step r (take b (Some c.4.0)))) d) (sym is) ∙ c.4.4.1;
      }
      by_class (inr c) = record { step = takes h.0 None; spelled = (h.1, head, c.0); names = known; leads = ap (λ (b : ℕ). at (ruled (with_step r (take b None))) d) (sym is) ∙ c.1 }

  -- the word for the order is `firstn` or `indep`
  ordered : (o : List ℕ) → (o ≡ codes "firstn") ⊎ (o ≡ codes "indep") → (firstn : Bool) × (bytes_eq o (codes "firstn") ≡ firstn) × (o ≡ order_word firstn)
  ordered o (inl e) = (true, ap (λ (w : List ℕ). bytes_eq w (codes "firstn")) e, e)
  ordered o (inr e) = (false, ap (λ (w : List ℕ). bytes_eq w (codes "firstn")) e, e)

  read_choice : (words us v : List (List ℕ)) (leaf : Bool) (q : Progress) → words ≡ codes "step" ∷ choice_word leaf ∷ us → Line d (step_behind d r (word_chooses leaf)) us v q → StepRead d r words v q
  read_choice words us v leaf q e h =
      let order = ordered h.0 (is_for d step_order h.0 h.3) in
      let n = h.4.0 in
      let kind = h.4.4.4.0 in
      record {
        step = chooses leaf order.0 (signed_value n) kind;
        spelled = (
          n,
          (not_false _ (h.4.3 BadNumber), refl),
          e ∙ ap (λ (l : List (List ℕ)). codes "step" ∷ choice_word leaf ∷ l) (cons_is us h.0 (order_word order.0) h.1 (n ∷ codes "type" ∷ kind ∷ v) h.2 order.2
              (cons_is h.1 n n h.4.1 (codes "type" ∷ kind ∷ v) h.4.2 refl (cons_is h.4.1 h.4.4.0 (codes "type") h.4.4.1 (kind ∷ v) h.4.4.2 (is_for d (key (codes "type")) h.4.4.0 h.4.4.3) (cons_is h.4.4.1 kind kind h.4.4.4.1 v h.4.4.4.2 refl h.4.4.4.4.0)))),
        );
        names = tt;
        leads = ap (λ (b : Bool). at (ruled (with_step r (choose leaf b (signed_value n) kind))) d) (sym order.1) ∙ h.4.4.4.4.1;
      }

  read_set : (words us v : List (List ℕ)) (x : List ℕ) (q : Progress) → starts_with nat_eq x (codes "set_") ≡ true → words ≡ codes "step" ∷ x ∷ us → Line d (step_behind d r (word_sets x)) us v q → StepRead d r words v q
  read_set words us v x q begins e h = record {
    step = sets x (digits_value 10 h.0);
    spelled = (h.0, begins, (not_false _ (h.3 BadNumber), refl), e ∙ ap (λ (l : List (List ℕ)). codes "step" ∷ x ∷ l) (cons_is us h.0 h.0 h.1 v h.2 refl h.4.0));
    names = tt;
    leads = h.4.1;
  }

  -- a step is read, given its first word
  pub read_step : (words us v : List (List ℕ)) (w : List ℕ) (q : Progress) → words ≡ codes "step" ∷ w ∷ us → IsRight d step_word w → Line d (step_behind d r (value d step_word w)) us v q → StepRead d r words v q
  read_step words us v w q e right h = by_said (bytes_eq w (codes "take")) (bytes_eq w (codes "choose")) (bytes_eq w (codes "chooseleaf")) (bytes_eq w (codes "emit")) refl refl refl refl h
    where
      said : (k : List ℕ) → bytes_eq w k ≡ true → words ≡ codes "step" ∷ k ∷ us
      said k t = e ∙ ap (λ (x : List ℕ). codes "step" ∷ x ∷ us) (is_word w k t)

      begins : bytes_eq w (codes "take") ≡ false → bytes_eq w (codes "choose") ≡ false → bytes_eq w (codes "chooseleaf") ≡ false → bytes_eq w (codes "emit") ≡ false → BeginsStep w → starts_with nat_eq w (codes "set_") ≡ true
      begins ha hb hc he (inl k) = absurd (let no : true ≡ false = sym ((bytes_eq-Decides w _).1 k) ∙ ha in cc)
      begins ha hb hc he (inr (inl k)) = absurd (let no : true ≡ false = sym ((bytes_eq-Decides w _).1 k) ∙ hb in cc)
      begins ha hb hc he (inr (inr (inl k))) = absurd (let no : true ≡ false = sym ((bytes_eq-Decides w _).1 k) ∙ hc in cc)
      begins ha hb hc he (inr (inr (inr (inl k)))) = absurd (let no : true ≡ false = sym ((bytes_eq-Decides w _).1 k) ∙ he in cc)
      begins ha hb hc he (inr (inr (inr (inr k)))) = k

      by_said : (a b c f : Bool) → bytes_eq w (codes "take") ≡ a → bytes_eq w (codes "choose") ≡ b → bytes_eq w (codes "chooseleaf") ≡ c → bytes_eq w (codes "emit") ≡ f
          → Line d (step_behind d r (cond a word_takes (cond b (word_chooses false) (cond c (word_chooses true) (cond f word_emits (word_sets w)))))) us v q → StepRead d r words v q
      by_said true b c f ha hb hc he k = read_take words us v q (said (codes "take") ha) k
      by_said false true c f ha hb hc he k = read_choice words us v false q (said (codes "choose") hb) k
      by_said false false true f ha hb hc he k = read_choice words us v true q (said (codes "chooseleaf") hc) k
      by_said false false false true ha hb hc he k = record { step = emits; spelled = said (codes "emit") he ∙ ap (λ (l : List (List ℕ)). codes "step" ∷ codes "emit" ∷ l) k.0; names = tt; leads = k.1 }
      by_said false false false false ha hb hc he k = read_set words us v w q (begins ha hb hc he (is_for d step_word w right)) e k
