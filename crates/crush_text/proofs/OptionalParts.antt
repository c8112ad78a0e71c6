-- The optional parts of the grammar: each line records the optional parts that were left out at its end.
use Rattle.std.proofs.Common.{◌≡◌, ℕ, Bool, true, false, List, [], ◌∷◌, ◌++◌, Option, Some, None, refl, sym, subst, ◌∙◌, ap}
use Rattle.std.proofs.lemmas.Bool.{cond_both}
use Rattle.std.specs.Prelude.{codes, drop}
use Rattle.crush_units.specs.declared.id.ItemId.{ItemId}
use Rattle.crush_units.specs.Words.{Word, begins_with_key}
use Rattle.crush_edits.specs.Setting.{RuleData}
use Rattle.crush_builder.specs.Built.{Draft}
use Rattle.crush_text.specs.declared.expected.Optional.{Optional}
use Rattle.crush_text.specs.declared.statement_kind.StatementKind.{StatementKind}
use Rattle.crush_text.specs.declared.statement_kind.StatementKind.TheVariants as statement_kinds
use Rattle.crush_text.specs.Role.{Role, El, key, item, lone_item, StepWord, takes, chooses, sets, emits}
use Rattle.crush_text.specs.Form.{Mode, first, second, begun, numbered, filling, ruled, Progress, Form, done, word, optional, ahead}
use Rattle.crush_text.specs.Grammar.{device_class, max_size, sizes, statement, id_or_alg_line, item_or_brace, step_behind, step_or_brace, line_forms, next}
use Rattle.crush_text.specs.Flow.{State, between, amid, arrive}
use Rattle.crush_text.specs.Expected.{words_of}

-- whether the role is that of an item's name that no weight follows
abbrev pub is_lone : Role → Bool
is_lone lone_item = true
is_lone r = false

-- a form that begins with the key k
pub record BeginsWith (k : List ℕ) (f : Form) : Type 0 where
  pub more : Unit {0} → Form
  pub is : f ≡ word (key k) more

-- the form of the end of a line that has left out a weight
pub record PassesWeight (f : Form) : Type 0 where
  pub progress : Progress
  pub is : f ≡ done progress
  pub passes : words_of progress.passed ≡ codes "weight" ∷ []

-- the two forms of an item's line: one with a weight, and one without
pub record IsItemLine (f g : Form) : Type 0 where
  pub more : ItemId → Form
  pub last : ItemId → Form
  pub weighed : f ≡ word item more
  pub alone : g ≡ word lone_item last
  pub begins : (i : ItemId) → BeginsWith (codes "weight") (more i)
  pub passes : (i : ItemId) → PassesWeight (last i)

-- if optional parts that begin with the words ks have just been left out, then the form records them, and also the optional parts that it leaves out itself
abbrev pub HandsOn : List (List ℕ) → Form → Type 0
HandsOn ks (done p) = words_of p.passed ≡ ks
HandsOn ks (word r more) = (ks ≡ []) × (is_lone r ≡ false) × ((v : El r) → HandsOn [] (more v))
HandsOn ks (optional k f g) = BeginsWith k f × HandsOn [] f × HandsOn (ks ++ k ∷ []) g
HandsOn ks (ahead k f g) = (ks ≡ []) × (k ≡ codes "weight") × IsItemLine f g × HandsOn [] f

-- the same for the form after a word of the role r
abbrev pub HandsOnBehind : Role → Form → Type 0
HandsOnBehind lone_item f = PassesWeight f
HandsOnBehind r f = HandsOn [] f

-- the same for a state
abbrev pub IsInForm : State → Type 0
IsInForm (between p) = Unit {0}
IsInForm (amid d (done p)) = ⊥
IsInForm (amid d (word r more)) = (v : El r) → HandsOnBehind r (more v)
IsInForm (amid d (optional k f g)) = ⊥
IsInForm (amid d (ahead k f g)) = ⊥

-- the form after a word whose role isn't `lone_item`
pub behind_role : (r : Role) (f : Form) → is_lone r ≡ false → HandsOn [] f → HandsOnBehind r f
behind_role lone_item f e h = absurd (let no : true ≡ false = e in cc)
behind_role r f e h = h

-- EACH LINE records the optional parts that it leaves out

statement_hands : (d : Draft) (o : StatementKind) → HandsOn [] (statement d o)
statement_hands d statement_kinds.Tunable = (refl, refl, λ x. (refl, refl, λ n. refl))
statement_hands d statement_kinds.Type = (refl, refl, λ n. (refl, refl, λ x. refl))
statement_hands d statement_kinds.Device = (refl, refl, λ n. (refl, refl, λ x. (record { more = _; is = refl }, (refl, refl, λ k. (refl, refl, λ c. refl)), refl)))
statement_hands d (statement_kinds.Bucket k) = (refl, refl, λ x. refl)
statement_hands d statement_kinds.Rule = (
  refl,
  refl,
  λ x. (
    refl,
    refl,
    λ a. (
      refl,
      refl,
      λ b. (
        refl,
        refl,
        λ n. (
          refl,
          refl,
          λ c. (
            refl,
            refl,
            λ k.
                (record { more = _; is = refl }, (refl, refl, λ e. (refl, refl, λ u. (record { more = _; is = refl }, (refl, refl, λ g. (refl, refl, λ v. refl)), refl))), (record { more = _; is = refl }, (refl, refl, λ g. (refl, refl, λ v. refl)), refl)),
          ),
        ),
      ),
    ),
  ),
)

step_hands : (d : Draft) (r : RuleData) (w : StepWord) → HandsOn [] (step_behind d r w)
step_hands d r takes = (refl, refl, λ b. (record { more = _; is = refl }, (refl, refl, λ k. (refl, refl, λ c. refl)), refl))
step_hands d r (chooses leaf) = (refl, refl, λ o. (refl, refl, λ n. (refl, refl, λ t. (refl, refl, λ k. refl))))
step_hands d r (sets x) = (refl, refl, λ n. refl)
step_hands d r emits = refl

pub line_hands : (d : Draft) (k : Optional) (m : Mode) → IsInForm (amid d (line_forms d k m))
line_hands d k first = statement_hands d
line_hands d k second = statement_hands d
line_hands d k begun = λ a. (refl, refl, λ b. (refl, refl, λ n. refl))
line_hands d k numbered = by_it
  where
    by_it : (b : Bool) → HandsOn [] (id_or_alg_line d b)
    by_it true = (refl, refl, λ b. (refl, refl, λ k. (refl, refl, λ c. refl)))
    by_it false = (refl, refl, λ a. (record { more = _; is = refl }, (refl, refl, λ h. (refl, refl, λ z. refl)), refl))
line_hands d k (filling any) = by_it
  where
    by_it : (b : Bool) → HandsOn [] (item_or_brace d b)
    by_it true = (
      refl,
      refl,
      record { more = _; last = _; weighed = refl; alone = refl; begins = λ i. record { more = _; is = refl }; passes = λ i. record { progress = _; is = refl; passes = refl } },
      (refl, refl, λ i. (refl, refl, λ k. (refl, refl, λ w. refl))),
    )
    by_it false = refl
line_hands d k (ruled r) = by_it
  where
    by_it : (b : Bool) → HandsOn [] (step_or_brace d r b)
    by_it true = (refl, refl, step_hands d r)
    by_it false = refl

-- A STATE in which a form is required satisfies `IsInForm`
pub arrive_in_form : (d : Draft) (rest : List Word) (f : Form) (ks : List (List ℕ)) → HandsOn ks f → IsInForm (arrive d rest f)
arrive_in_form d rest (done p) ks h = tt
arrive_in_form d rest (word r more) ks h = λ v. behind_role r (more v) h.1 (h.2 v)
arrive_in_form d rest (optional k f g) ks h = cond_both (begins_with_key k rest) (arrive d rest f) (arrive d rest g) IsInForm (λ _. arrive_in_form d rest f [] h.1) (λ _. arrive_in_form d rest g (ks ++ k ∷ []) h.2)
arrive_in_form d rest (ahead k f g) ks h = cond_both (begins_with_key k (drop 1 rest)) (arrive d rest f) (arrive d rest g) IsInForm (λ _. arrive_in_form d rest f [] h.3) (λ _. subst (λ (x : Form). IsInForm (arrive d rest x)) (sym h.2.alone) h.2.passes)
