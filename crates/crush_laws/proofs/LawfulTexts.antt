-- Proves that bytes are the text of a map if and only if their words build the map line by line. A draft (`Draft`) is what the lines so far have built. A form (`Form`) says which words the rest of a line must have. A state (`State`) is a place in the text: between two lines, or in a line with the form of its rest.
use Rattle.std.proofs.Common.{◌≡◌, ◌≢◌, ℕ, ◌⊎◌, Bool, true, false, cond, List, [], ◌∷◌, Option, Some, None, refl, sym, subst, ◌∙◌, inl, inr}
use Rattle.std.proofs.lemmas.Bool.{cond_both, and_parts, ltb-true}
use Rattle.std.proofs.lemmas.Bool.Decides.{Decides-eqb}
use Rattle.std.proofs.lemmas.List.{append-nil}
use Rattle.std.proofs.lemmas.Slice.Eq.{bytes_eq-Decides}
use Rattle.std.specs.Prelude.{◌&&◌, ◌==◌, codes, bytes_eq, drop, nat_eq, nat_lt, nat_le, slice_index, unwrap_or}
use Rattle.std.specs.List.{list_any, starts_with}
use Rattle.std.specs.Str.Parse.{digits_value}
use Rattle.crush_units.specs.declared.alg.Alg.{Alg}
use Rattle.crush_units.specs.declared.alg.Alg.TheVariants.{Straw, Straw2, List as Linked}
use Rattle.crush_units.specs.Alg.{alg_text, alg_of_text}
use Rattle.crush_units.specs.Weight.{are_digits, weight_of_text}
use Rattle.crush_units.specs.declared.limits.TheConstants.{FARTHEST_BUCKET_ID, LARGEST_RULE_NUMBER, LAST_DEVICE_ID, LAST_TYPE}
use Rattle.crush_edits.specs.Setting.{KindData}
use Rattle.crush_builder.specs.Built.{Draft}
use Rattle.crush_builder.specs.Building.{IsPending, item_named}
use Rattle.crush_builder.specs.Rules.{complete_bucket_named}
use Rattle.crush_units.specs.Words.{Word, words, AreFormed, begins_with_key}
use Rattle.crush_units.proofs.Forms.{words_are_formed}
use Rattle.crush_text.specs.declared.fault.TextFaultKind.TheVariants.{Unexpected, BadNumber, BadWeight, UnknownItem, SecondParent, OtherAlgorithm, LeftOut, UnknownBucketInRule}
use Rattle.crush_units.specs.Numbers.{is_number}
use Rattle.crush_text.specs.Role.{Role, value, kind_of_word, item_of, key, any_word, number, opening, tunable_name, type_number, type_name, device_id, new_name, bucket_id, id_or_alg, id_class, algorithm, item_or_end, item, lone_item, weight, rule_name, rule_id_key, rule_id, step_or_end, step_word, taken_bucket, step_order, step_count, step_type}
use Rattle.crush_text.specs.Form.{Mode, first, second, begun, numbered, filling, ruled, Progress, passing, Form, done, word, optional, ahead}
use Rattle.crush_text.specs.Grammar.{next}
use Rattle.crush_text.specs.Rows.{ComesFirst, IsNeither, IsHeldItem, IsRight}
use Rattle.crush_text.specs.Flow.{State, between, amid, arrive}
use Rattle.crush_text.specs.Document.{SpellsForm, SpellsNext, Spell, IsWhole, start}
use Rattle.crush_laws.specs.Admitted.{IsLawfulDraft, IsLawfulMode, IsFree, IsFor, BeginsStep, LeadsFrom, WordLeads, IsLawfulState, Build}
use Rattle.crush_laws.specs.MapOrFlaw.{MapsAreTheLawfulTexts}
use Rattle.crush_laws.proofs.Keeps.{IsWord, Has, Good, Stage, next_has, keeps_lines, nothing_there, not_true, not_false, some_of, has_units, begins_bucket}
use Rattle.crush_laws.proofs.Ruled.{map_with_rule}
use Rattle.crush_laws.proofs.Admitted.{Possible, Rightly, right_lines}
use Rattle.crush_laws.proofs.LeftOut.{opening_right}
use Rattle.crush_text.specs.declared.expected.Optional.TheVariants.{Nothing}

-- WHAT IS BUILT IS SPELLED: words that build a map spell it
-- there are words with which the rest of a line ends lawfully
abbrev pub MayEnd : State → Type 0
MayEnd (between p) = IsLawfulDraft p.draft × IsLawfulMode p.draft p.mode
MayEnd (amid d f) = Possible d f

-- each word of the rest of such a line is right
abbrev Goes : State → Type 0
Goes (between p) = Unit {0}
Goes (amid d f) = Rightly d f

-- if one of two forms is due, this form may end lawfully
either_ends : (b : Bool) (d : Draft) (rest : List Word) (f g : Form) → (MayEnd (arrive d rest f) → Possible d f) → (MayEnd (arrive d rest g) → Possible d g) → MayEnd (cond b (arrive d rest f) (arrive d rest g)) → Possible d f ⊎ Possible d g
either_ends true d rest f g x y h = inl (x h)
either_ends false d rest f g x y h = inr (y h)

-- if the state after a word may end lawfully, the form that is due in it may end lawfully
pub may_end : (d : Draft) (rest : List Word) (f : Form) → MayEnd (arrive d rest f) → Possible d f
may_end d rest (done p) h = h
may_end d rest (word r more) h = h
may_end d rest (optional k f g) h = either_ends (begins_with_key k rest) d rest f g (may_end d rest f) (may_end d rest g) h
may_end d rest (ahead k f g) h = either_ends (begins_with_key k (drop 1 rest)) d rest f g (may_end d rest f) (may_end d rest g) h

-- each word of the form that is due in the next state is right
arrives : (d : Draft) (rest : List Word) (f : Form) → Rightly d f → Goes (arrive d rest f)
arrives d rest (done p) h = tt
arrives d rest (word r more) h = h
arrives d rest (optional k f g) h = cond_both (begins_with_key k rest) (arrive d rest f) (arrive d rest g) Goes (λ _. arrives d rest f h.0) (λ _. arrives d rest g h.1)
arrives d rest (ahead k f g) h = cond_both (begins_with_key k (drop 1 rest)) (arrive d rest f) (arrive d rest g) Goes (λ _. arrives d rest f h.0) (λ _. arrives d rest g h.1)

-- if words build a map from a lawful state, then the line of this state may end lawfully
ends : (s : State) (ws : List Word) (e : Draft) → IsLawfulState s → Build s ws e → MayEnd s
ends (between p) ws e l b = l
ends (amid d f) [] e l b = absurd b
ends (amid d (word r more)) (w ∷ ws) e l b = (w.text, b.1.0, may_end d ws (more (value d r w.text)) (subst MayEnd b.1.1 (ends b.0 ws e b.2 b.3)))
ends (amid d (done p)) (w ∷ ws) e l b = absurd b.1
ends (amid d (optional k f g)) (w ∷ ws) e l b = absurd b.1
ends (amid d (ahead k f g)) (w ∷ ws) e l b = absurd b.1

-- a word that leads to a state whose line may end lawfully is spelled
form_spelled : (d : Draft) (f : Form) (w : List ℕ) (rest : List Word) (u : State) → Rightly d f → LeadsFrom d f w rest u → MayEnd u → SpellsForm d f w rest u × Goes u
form_spelled d (word r more) w rest u k h e =
    let right = k w h.0 (may_end d rest (more (value d r w)) (subst MayEnd h.1 e)) in
    ((right.0, h.1), subst Goes (sym h.1) (arrives d rest (more (value d r w)) right.1))
form_spelled d (done p) w rest u k h e = absurd h
form_spelled d (optional c f g) w rest u k h e = absurd h
form_spelled d (ahead c f g) w rest u k h e = absurd h

-- the same in the middle of a line and between two lines
word_spelled : (s : State) (w : List ℕ) (rest : List Word) (u : State) → Has Good s → Goes s → WordLeads s w rest u → MayEnd u → SpellsNext s w rest u × Goes u
word_spelled (between p) w rest u g k h e = form_spelled p.draft (next p) w rest u (right_lines p.draft g.map p.mode p.passed g.stage) h e
word_spelled (amid d f) w rest u g k h e = form_spelled d f w rest u k h e

-- after a spelled word, the draft so far has the property `Good`
good_next : (s : State) (w : List ℕ) (rest : List Word) (u : State) → Has Good s → IsWord w → SpellsNext s w rest u → Has Good u
good_next s w rest u g formed h = next_has Good (λ p k. keeps_lines p.draft k.map p.mode p.passed k.stage) s w rest u g formed h

-- words that build a map are spelled
built_spelled : (s : State) (ws : List Word) (e : Draft) → Has Good s → Goes s → AreFormed ws → Build s ws e → (m : State) × Spell s ws [] m × IsWhole m e
built_spelled s [] e g k formed b = (s, refl, b)
built_spelled s (w ∷ ws) e g k formed b =
    let h = word_spelled s w.text ws b.0 g k b.1 (ends b.0 ws e b.2 b.3) in
    let rest = built_spelled b.0 ws e (good_next s w.text ws b.0 g formed.0 h.0) h.1 formed.1 b.3 in
    (rest.0, (b.0, subst (λ (l : List Word). SpellsNext s w.text l b.0) (sym (append-nil ws)) h.0, rest.1), rest.2)

-- WHAT IS SPELLED IS BUILT: words that spell a map build it
-- a word that doesn't differ from the word k is k
same_word : (w k : List ℕ) → (w ≢ k → ⊥) → w ≡ k
same_word w k h = by_it (bytes_eq w k) refl
  where
    by_it : (b : Bool) → bytes_eq w k ≡ b → w ≡ k
    by_it true e = (bytes_eq-Decides w k).0 e
    by_it false e = absurd (h (λ q. let t = (bytes_eq-Decides w k).1 q in absurd cc))

-- a word that isn't neither of two words is one of them
either_word : (w k l : List ℕ) → (IsNeither w k l → ⊥) → (w ≡ k) ⊎ (w ≡ l)
either_word w k l h = by_it (bytes_eq w k) refl
  where
    by_it : (b : Bool) → bytes_eq w k ≡ b → (w ≡ k) ⊎ (w ≡ l)
    by_it true e = inl ((bytes_eq-Decides w k).0 e)
    by_it false e = inr (same_word w l (λ o. h (λ q. let t = (bytes_eq-Decides w k).1 q in absurd cc, o)))

-- a word that is a number has only digits
digits_of : (most : ℕ) (w : List ℕ) → (is_number most w ≡ false → ⊥) → are_digits 10 w ≡ true
digits_of most w h = (and_parts (are_digits 10 w) (nat_le (digits_value 10 w) most) (not_false _ h)).0

-- a word by which an algorithm is found is the algorithm's name
named_alg : (w : List ℕ) → (alg_of_text w ≡ None → ⊥) → (a : Alg) × (w ≡ alg_text a)
named_alg w h = by_it (bytes_eq w (codes "straw")) (bytes_eq w (codes "straw2")) (bytes_eq w (codes "list")) refl refl refl h
  where
    by_it : (a b c : Bool) → bytes_eq w (codes "straw") ≡ a → bytes_eq w (codes "straw2") ≡ b → bytes_eq w (codes "list") ≡ c
        → (cond a (Some Straw) (cond b (Some Straw2) (cond c (Some Linked) None)) ≡ None → ⊥) → (a : Alg) × (w ≡ alg_text a)
    by_it true b c ea eb ec h = (Straw, (bytes_eq-Decides w _).0 ea)
    by_it false true c ea eb ec h = (Straw2, (bytes_eq-Decides w _).0 eb)
    by_it false false true ea eb ec h = (Linked, (bytes_eq-Decides w _).0 ec)
    by_it false false false ea eb ec h = absurd (h refl)

-- an item without a fault is free
free_item : (d : Draft) (w : List ℕ) → (item_named d w ≡ None → ⊥) → (IsHeldItem d w → ⊥) → IsFree d w
free_item d w there free = let is = some_of (item_named d w) there in (is, not_true _ (λ t. free (item_of d w, is, t)))

-- a bucket that is found by its name has this number
some_bucket : (o : Option ℕ) → (o ≡ None → ⊥) → o ≡ Some (unwrap_or o 0)
some_bucket None h = absurd (h refl)
some_bucket (Some b) h = refl

-- words whose comparison is false differ
other_word : (w k : List ℕ) → bytes_eq w k ≡ false → w ≢ k
other_word w k f e = let no : false ≡ true = sym f ∙ (bytes_eq-Decides w k).1 e in absurd cc

-- a right word that opens a statement begins a statement
begins_statement : (d : Draft) (late : Bool) (w : List ℕ) → IsRight d (opening late Nothing) w → IsFor d (opening late Nothing) w
begins_statement d late w h = by_it (bytes_eq w (codes "tunable")) (bytes_eq w (codes "device")) (bytes_eq w (codes "type")) (bytes_eq w (codes "rule")) refl refl refl refl
  where
    early : ComesFirst w → IsFor d (opening late Nothing) w
    early e = inl (not_true late (λ l. h Unexpected (inr (inr (l, e)))), e)

    by_it : (a b c e : Bool) → bytes_eq w (codes "tunable") ≡ a → bytes_eq w (codes "device") ≡ b → bytes_eq w (codes "type") ≡ c → bytes_eq w (codes "rule") ≡ e → IsFor d (opening late Nothing) w
    by_it true b c e ha hb hc he = early (inl ((bytes_eq-Decides w _).0 ha))
    by_it false true c e ha hb hc he = early (inr (inl ((bytes_eq-Decides w _).0 hb)))
    by_it false false true e ha hb hc he = early (inr (inr ((bytes_eq-Decides w _).0 hc)))
    by_it false false false true ha hb hc he = inr (inl ((bytes_eq-Decides w _).0 he))
    by_it false false false false ha hb hc he =
        let opens = begins_bucket d late w h ha hb hc he in
        inr (inr (ltb-true 0 (kind_of_word d w) (and_parts (nat_lt 0 (kind_of_word d w)) (list_any (λ (y : KindData). y.number == kind_of_word d w) d.setting.kinds) opens.1).0))

-- a right word that opens a step begins a step
begins_step : (d : Draft) (w : List ℕ) → IsRight d step_word w → BeginsStep w
begins_step d w h = by_it (bytes_eq w (codes "take")) (bytes_eq w (codes "choose")) (bytes_eq w (codes "chooseleaf")) (bytes_eq w (codes "emit")) refl refl refl refl
  where
    by_it : (a b c e : Bool) → bytes_eq w (codes "take") ≡ a → bytes_eq w (codes "choose") ≡ b → bytes_eq w (codes "chooseleaf") ≡ c → bytes_eq w (codes "emit") ≡ e → BeginsStep w
    by_it true b c e ha hb hc he = inl ((bytes_eq-Decides w _).0 ha)
    by_it false true c e ha hb hc he = inr (inl ((bytes_eq-Decides w _).0 hb))
    by_it false false true e ha hb hc he = inr (inr (inl ((bytes_eq-Decides w _).0 hc)))
    by_it false false false true ha hb hc he = inr (inr (inr (inl ((bytes_eq-Decides w _).0 he))))
    by_it false false false false ha hb hc he =
        inr (inr (inr (inr (not_false (starts_with nat_eq w (codes "set_")) (λ none. h Unexpected (other_word w _ ha, (other_word w _ hb, other_word w _ hc), other_word w _ he, none, λ e. h LeftOut e))))))

-- a word without a fault has the form that is due
pub is_for : (d : Draft) (r : Role) (w : List ℕ) → IsRight d r w → IsFor d r w
is_for d (key k) w h = same_word w k (h Unexpected)
is_for d (any_word e) w h = tt
is_for d (number most) w h = not_false _ (h BadNumber)
is_for d (opening late or) w h = begins_statement d late w (opening_right d late or Nothing w h)
is_for d tunable_name w h = tt
is_for d type_number w h = digits_of LAST_TYPE w (h BadNumber)
is_for d (type_name n) w h = tt
is_for d device_id w h = digits_of LAST_DEVICE_ID w (h BadNumber)
is_for d new_name w h = tt
is_for d bucket_id w h =
    let parts = and_parts ((slice_index w 0 == 45) && is_number FARTHEST_BUCKET_ID (drop 1 w)) (nat_lt 0 (digits_value 10 (drop 1 w))) (not_false _ (h BadNumber)) in
    let digits = and_parts (slice_index w 0 == 45) (is_number FARTHEST_BUCKET_ID (drop 1 w)) parts.0 in
    ((Decides-eqb _ _).0 digits.0, (and_parts (are_digits 10 (drop 1 w)) (nat_le (digits_value 10 (drop 1 w)) FARTHEST_BUCKET_ID) digits.1).0)
is_for d id_or_alg w h = either_word w (codes "id") (codes "alg") (h Unexpected)
is_for d id_class w h = tt
is_for d algorithm w h = named_alg w (h OtherAlgorithm)
is_for d (item_or_end any or) w h = either_word w (codes "item") (codes "}") (λ o. h Unexpected (o.0, o.1, λ t e. h LeftOut (t, e)))
is_for d item w h = free_item d w (h UnknownItem) (h SecondParent)
is_for d lone_item w h = free_item d w (h UnknownItem) (h SecondParent)
is_for d (weight i) w h = has_units i (weight_of_text w) (h BadWeight)
is_for d rule_name w h = tt
is_for d rule_id_key w h = either_word w (codes "id") (codes "ruleset") (h Unexpected)
is_for d rule_id w h = digits_of LARGEST_RULE_NUMBER w (h BadNumber)
is_for d (step_or_end k or) w h = either_word w (codes "step") (codes "}") (h Unexpected)
is_for d step_word w h = begins_step d w h
is_for d taken_bucket w h = some_bucket (complete_bucket_named d w) (h UnknownBucketInRule)
is_for d step_order w h = either_word w (codes "firstn") (codes "indep") (h Unexpected)
is_for d step_count w h = not_false _ (h BadNumber)
is_for d step_type w h = tt

-- a progress with the property `Good` has a lawful draft
lawful_good : (p : Progress) → Good p → IsLawfulDraft p.draft
lawful_good p g = record { map = g.map; pending = by_mode p.mode g.stage }
  where
    by_mode : (mode : Mode) → Stage mode p.draft → IsPending p.draft.setting p.draft.table p.draft.pending
    by_mode first s = subst (IsPending p.draft.setting p.draft.table) (sym s) tt
    by_mode second s = subst (IsPending p.draft.setting p.draft.table) (sym s) tt
    by_mode begun s = subst (IsPending p.draft.setting p.draft.table) (sym s.2) s.3
    by_mode numbered s = subst (IsPending p.draft.setting p.draft.table) (sym s.4) (s.5, s.6)
    by_mode (filling any) s = subst (IsPending p.draft.setting p.draft.table) (sym s.1) s.2
    by_mode (ruled r) s = subst (IsPending p.draft.setting p.draft.table) (sym s.0) tt

-- the map is also lawful with the rule that was read so far
lawful_mode : (p : Progress) → Good p → IsLawfulMode p.draft p.mode
lawful_mode p g = by_mode p.mode g.stage
  where
    by_mode : (mode : Mode) → Stage mode p.draft → IsLawfulMode p.draft mode
    by_mode first s = tt
    by_mode second s = tt
    by_mode begun s = tt
    by_mode numbered s = tt
    by_mode (filling any) s = tt
    by_mode (ruled r) s = map_with_rule p.draft r g.map s.1

-- the same in the middle of a line and between two lines
lawful_state : (s : State) → Has Good s → IsLawfulState s
lawful_state (between p) g = (lawful_good (passing Nothing p) g, lawful_mode (passing Nothing p) g)
lawful_state (amid d f) g = tt

-- a spelled word leads on by its form
form_leads : (d : Draft) (f : Form) (w : List ℕ) (rest : List Word) (u : State) → SpellsForm d f w rest u → LeadsFrom d f w rest u
form_leads d (word r more) w rest u h = (is_for d r w h.0, h.1)
form_leads d (done p) w rest u h = absurd h
form_leads d (optional k f g) w rest u h = absurd h
form_leads d (ahead k f g) w rest u h = absurd h

-- the same in the middle of a line and between two lines
word_leads : (s : State) (w : List ℕ) (rest : List Word) (u : State) → SpellsNext s w rest u → WordLeads s w rest u
word_leads (between p) w rest u h = form_leads p.draft (next p) w rest u h
word_leads (amid d f) w rest u h = form_leads d f w rest u h

-- spelled words build the draft to which they lead
spelled_built : (s m : State) (ws : List Word) (e : Draft) → Has Good s → AreFormed ws → Spell s ws [] m → IsWhole m e → Build s ws e
spelled_built s m [] e g formed h whole = subst (λ (x : State). IsWhole x e) (sym h) whole
spelled_built s m (w ∷ ws) e g formed h whole =
    let one : SpellsNext s w.text ws h.0 = subst (λ (l : List Word). SpellsNext s w.text l h.0) (append-nil ws) h.1 in
    let good = good_next s w.text ws h.0 g formed.0 one in
    (h.0, word_leads s w.text ws h.0 one, lawful_state h.0 good, spelled_built h.0 m ws e good formed.1 h.2 whole)

-- the state before the first word has the property `Good`
good_start : Has Good start
good_start = record { map = nothing_there; stage = refl }

-- the two definitions describe the same texts
pub maps_are_the_lawful_texts : MapsAreTheLawfulTexts
maps_are_the_lawful_texts bytes s t n = (
  λ x. record {
    draft = x.draft;
    built = spelled_built start x.document.last (words 0 bytes).words x.draft good_start (words_are_formed 0 bytes) x.document.spelled x.document.whole;
    end = x.document.end;
    setting = x.setting;
    table = x.table;
    count = x.count;
  },
  λ x.
      let k = built_spelled start (words 0 bytes).words x.draft good_start tt (words_are_formed 0 bytes) x.built in
      record { draft = x.draft; document = record { last = k.0; spelled = k.1; whole = k.2; end = x.end }; setting = x.setting; table = x.table; count = x.count },
)
