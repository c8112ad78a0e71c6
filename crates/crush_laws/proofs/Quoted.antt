-- Proves that the sentence about a fault of a text names, between backquotes, the words that may follow.
use Rattle.std.proofs.Common.{◌≡◌, ◌≢◌, ◌⊎◌, ℕ, Bool, true, false, cond, not, List, [], ◌∷◌, ◌++◌, Some, None, Ok, Err, refl, sym, ap, subst, ◌∙◌, inl, inr}
use Rattle.std.proofs.lemmas.Bool.{cond_both}
use Rattle.std.proofs.lemmas.Slice.Eq.{bytes_eq-Decides}
use Rattle.std.specs.Prelude.{bytes_eq, codes, drop, nat_eq, nat_le}
use Rattle.std.specs.List.{starts_with}
use Rattle.crush_units.specs.Words.{Word, begins_with_key}
use Rattle.crush_units.specs.Alg.{alg_of_text}
use Rattle.crush_units.specs.declared.alg.Alg.TheVariants.{Straw, Straw2, List as Linked}
use Rattle.crush_units.specs.declared.limits.TheConstants.{MOST_STEPS}
use Rattle.crush_edits.specs.Fits.{is_reserved}
use Rattle.crush_edits.specs.Setting.{RuleData}
use Rattle.crush_builder.specs.Built.{Draft}
use Rattle.crush_builder.specs.Building.{is_bucket_kind, is_full_of_class_ids, is_full_of_devices, is_full_of_kinds, is_full_of_tunables}
use Rattle.crush_builder.specs.Rules.{is_full_of_rules}
use Rattle.crush_text.specs.declared.expected.Expected.{Expected}
use Rattle.crush_text.specs.declared.expected.Expected.TheVariants as expect
use Rattle.crush_text.specs.declared.expected.Keyword.{Keyword}
use Rattle.crush_text.specs.declared.expected.Keyword.TheVariants as keyword
use Rattle.crush_text.specs.declared.expected.Optional.{Optional}
use Rattle.crush_text.specs.declared.expected.Optional.TheVariants as optional_part
use Rattle.crush_text.specs.declared.fault.TextFault.{TextFault}
use Rattle.crush_text.specs.declared.fault.TextFaultKind.TheVariants.{LeftOut, OtherAlgorithm, TooMany, Unexpected, UnknownType}
use Rattle.crush_text.specs.declared.statement_kind.StatementKind.{StatementKind}
use Rattle.crush_text.specs.declared.statement_kind.StatementKind.TheVariants as statement_kinds
use Rattle.crush_text.specs.Role.{Role, El, value, kind_of_word, key, any_word, opening, id_or_alg, algorithm, item_or_end, rule_id_key, step_or_end, step_word, step_order, StepWord, takes, chooses, sets, emits}
use Rattle.crush_text.specs.Form.{Mode, first, second, begun, numbered, filling, ruled, Form, done, word, optional, ahead}
use Rattle.crush_text.specs.Grammar.{statement, id_or_alg_line, item_or_brace, step_behind, step_or_brace, line_forms, next as next_line}
use Rattle.crush_text.specs.Expected.{keyword_word, keyword_of, words_of, expected}
use Rattle.crush_text.specs.Tests.{word_for}
use Rattle.crush_text.specs.Rows.{BeginsBucket, IsFault, IsRight}
use Rattle.crush_text.specs.Flow.{State, between, amid, arrive, expected_at, expected_form}
use Rattle.crush_text.specs.Document.{SpellsForm, SpellsNext, Spell, start}
use Rattle.crush_text.specs.Flaw.{FaultyForm, FaultyNext, IsMapFlaw}
use Rattle.crush_text.specs.Follows.{IsOneOf, weighed, FitsForm, MayFollow}
use Rattle.crush_text.proofs.Laws.{word_right, word_fault}
use Rattle.crush_text.proofs.Reserved.{NoKey, not_reserved}
use Rattle.crush_reasons.specs.Shown.{told}
use Rattle.crush_laws.specs.Quoted.{named, draft_at, IsDescribed, NamedWordsMayFollow, WordsThatFollowAreNamed, SameAlgorithmsAreNamed}
use Rattle.crush_laws.proofs.OneOfBoth.{flaws_say_what_is_expected}

-- LISTS OF WORDS
not_it : (w k : List ℕ) → (w ≡ k → ⊥) → bytes_eq w k ≡ false
not_it w k other = by_test (bytes_eq w k) refl
  where
    by_test : (b : Bool) → bytes_eq w k ≡ b → b ≡ false
    by_test true e = absurd (other ((bytes_eq-Decides w k).0 e))
    by_test false e = refl

neither : (ks : List (List ℕ)) (k w : List ℕ) → (w ≡ k → ⊥) → (IsOneOf ks w → ⊥) → IsOneOf (k ∷ ks) w → ⊥
neither ks k w a b (inl e) = a e
neither ks k w a b (inr h) = b h

-- if w can't be none of these words, then w is one of them
listed : (ks : List (List ℕ)) (w : List ℕ) → ((IsOneOf ks w → ⊥) → ⊥) → IsOneOf ks w
listed [] w h = h (λ x. x)
listed (k ∷ ks) w h = by_test (bytes_eq w k) refl (λ other. listed ks w (λ rest. h (neither ks k w other rest)))
  where
    by_test : (b : Bool) → bytes_eq w k ≡ b → ((w ≡ k → ⊥) → IsOneOf ks w) → IsOneOf (k ∷ ks) w
    by_test true e more = inl ((bytes_eq-Decides w k).0 e)
    by_test false e more = inr (more (λ s. let yes : bytes_eq w k ≡ true = (bytes_eq-Decides w k).1 s in let not_so : true ≡ false = sym yes ∙ e in absurd cc))

-- a word of one of two lists is a word of the lists joined
joined : (ks ls : List (List ℕ)) (w : List ℕ) → IsOneOf ks w ⊎ IsOneOf ls w → IsOneOf (ks ++ ls) w
joined [] ls w (inl h) = absurd h
joined [] ls w (inr h) = h
joined (k ∷ ks) ls w (inl (inl e)) = inl e
joined (k ∷ ks) ls w (inl (inr h)) = inr (joined ks ls w (inl h))
joined (k ∷ ks) ls w (inr h) = inr (joined ks ls w (inr h))

-- a word of two lists joined is a word of one of them
parted : (ks ls : List (List ℕ)) (w : List ℕ) → IsOneOf (ks ++ ls) w → IsOneOf ks w ⊎ IsOneOf ls w
parted [] ls w h = inr h
parted (k ∷ ks) ls w (inl e) = inl (inl e)
parted (k ∷ ks) ls w (inr h) = behind_first (parted ks ls w h)
  where
    behind_first : IsOneOf ks w ⊎ IsOneOf ls w → IsOneOf (k ∷ ks) w ⊎ IsOneOf ls w
    behind_first (inl a) = inl (inr a)
    behind_first (inr b) = inr b

-- what holds for each word of a list holds for one of these words
abbrev Each : List (List ℕ) → (List ℕ → Type 0) → Type 0
Each [] P = Unit {0}
Each (k ∷ ks) P = P k × Each ks P

any_of : (ks : List (List ℕ)) (P : List ℕ → Type 0) → Each ks P → (w : List ℕ) → IsOneOf ks w → P w
any_of [] P h w one = absurd one
any_of (k ∷ ks) P h w (inl e) = subst P (sym e) h.0
any_of (k ∷ ks) P h w (inr one) = any_of ks P h.1 w one

-- THE FORMS that the grammar has
-- whether lines in this mode can follow a line that has left out this optional part
abbrev passes_in : Mode → Optional → Bool
passes_in m optional_part.Nothing = true
passes_in first optional_part.Class = true
passes_in (filling any) optional_part.Hash = true
passes_in (filling any) optional_part.Weight = true
passes_in (ruled r) optional_part.Class = true
passes_in (ruled r) optional_part.MaxSize = true
passes_in (ruled r) optional_part.Sizes = true
passes_in m k = false

-- the roles of the words of a line after its first word
abbrev IsInLine : Role → Type 0
IsInLine (key k) = k ≡ keyword_word (keyword_of k)
IsInLine (any_word e) = named e ≡ []
IsInLine (opening late or) = ⊥
IsInLine (item_or_end any or) = ⊥
IsInLine (step_or_end k or) = ⊥
IsInLine r = Unit {0}

-- the form has only such roles and ends
abbrev Known : Form → Type 0
Known (done p) = passes_in p.mode p.passed ≡ true
Known (word r more) = IsInLine r × ((v : El r) → Known (more v))
Known (optional k f g) = Known f × Known g
Known (ahead k f g) = Known f × Known g

-- the same for the form after its first word
abbrev Behind : Form → Type 0
Behind (word r more) = (v : El r) → Known (more v)
Behind f = Unit {0}

-- the same for a state
abbrev KnownAt : State → Type 0
KnownAt (between p) = passes_in p.mode p.passed ≡ true
KnownAt (amid d f) = Known f

statement_known : (d : Draft) (o : StatementKind) → Known (statement d o)
statement_known d statement_kinds.Tunable = (tt, λ x. (tt, λ n. refl))
statement_known d statement_kinds.Type = (tt, λ n. (tt, λ x. refl))
statement_known d statement_kinds.Device = (tt, λ n. (tt, λ x. ((refl, λ k. (refl, λ c. refl)), refl)))
statement_known d (statement_kinds.Bucket k) = (tt, λ x. refl)
statement_known d statement_kinds.Rule =
    (tt, λ x. (refl, λ a. (tt, λ b. (tt, λ n. (refl, λ c. (refl, λ k. ((refl, λ e. (tt, λ u. ((refl, λ g. (tt, λ v. refl)), refl))), ((refl, λ g. (tt, λ v. refl)), refl))))))))

step_known : (d : Draft) (r : RuleData) (w : StepWord) → Known (step_behind d r w)
step_known d r takes = (tt, λ b. ((refl, λ k. (refl, λ c. refl)), refl))
step_known d r (chooses leaf) = (tt, λ o. (tt, λ n. (refl, λ t. (tt, λ k. refl))))
step_known d r (sets x) = (tt, λ n. refl)
step_known d r emits = refl

line_known : (d : Draft) (k : Optional) (m : Mode) → Behind (line_forms d k m)
line_known d k first = statement_known d
line_known d k second = statement_known d
line_known d k begun = λ a. (refl, λ b. (tt, λ n. refl))
line_known d k numbered = by_it
  where
    by_it : (b : Bool) → Known (id_or_alg_line d b)
    by_it true = (tt, λ b. (refl, λ k. (tt, λ c. refl)))
    by_it false = (tt, λ a. ((refl, λ h. (tt, λ z. refl)), refl))
line_known d k (filling any) = by_it
  where
    by_it : (b : Bool) → Known (item_or_brace d b)
    by_it true = ((tt, λ i. (refl, λ k. (tt, λ w. refl))), (tt, λ i. refl))
    by_it false = refl
line_known d k (ruled r) = by_it
  where
    by_it : (b : Bool) → Known (step_or_brace d r b)
    by_it true = (tt, step_known d r)
    by_it false = refl

-- words without a fault lead only to such states
arrive_known : (d : Draft) (rest : List Word) (f : Form) → Known f → KnownAt (arrive d rest f)
arrive_known d rest (done p) h = h
arrive_known d rest (word r more) h = h
arrive_known d rest (optional k f g) h = cond_both (begins_with_key k rest) (arrive d rest f) (arrive d rest g) KnownAt (λ _. arrive_known d rest f h.0) (λ _. arrive_known d rest g h.1)
arrive_known d rest (ahead k f g) h = cond_both (begins_with_key k (drop 1 rest)) (arrive d rest f) (arrive d rest g) KnownAt (λ _. arrive_known d rest f h.0) (λ _. arrive_known d rest g h.1)

form_known : (d : Draft) (f : Form) (text : List ℕ) (rest : List Word) (u : State) → Behind f → SpellsForm d f text rest u → KnownAt u
form_known d (word r more) text rest u k h = subst KnownAt (sym h.1) (arrive_known d rest (more (value d r text)) (k (value d r text)))
form_known d (done p) text rest u k h = absurd h
form_known d (optional c f g) text rest u k h = absurd h
form_known d (ahead c f g) text rest u k h = absurd h

behind : (f : Form) → Known f → Behind f
behind (word r more) h = h.1
behind f h = tt

step_leads : (s : State) (text : List ℕ) (rest : List Word) (u : State) → KnownAt s → SpellsNext s text rest u → KnownAt u
step_leads (between p) text rest u k h = form_known p.draft (next_line p) text rest u (line_known p.draft p.passed p.mode) h
step_leads (amid d f) text rest u k h = form_known d f text rest u (behind f k) h

spelled_known : (s : State) (ws others : List Word) (m : State) → KnownAt s → Spell s ws others m → KnownAt m
spelled_known s [] others m k h = subst KnownAt h k
spelled_known s (w ∷ ws) others m k h = spelled_known h.0 ws others m (step_leads s w.text (ws ++ others) h.0 k h.1) h.2

-- the sentence for a keyword names this keyword
keyword_named : (k : Keyword) → named (expect.Keyword k) ≡ keyword_word k ∷ []
unfolding told
keyword_named keyword.Brace = refl
keyword_named keyword.Id = refl
keyword_named keyword.Class = refl
keyword_named keyword.Type = refl
keyword_named keyword.Hash = refl
keyword_named keyword.Weight = refl
keyword_named keyword.MinSize = refl
keyword_named keyword.MaxSize = refl

key_named : (k : List ℕ) → k ≡ keyword_word (keyword_of k) → named (expect.Keyword (keyword_of k)) ≡ k ∷ []
key_named k e = keyword_named (keyword_of k) ∙ ap (λ (w : List ℕ). w ∷ []) (sym e)

-- EACH NAMED WORD may follow, or is one too many
abbrev IsAllowed : Draft → Role → List ℕ → Type 0
IsAllowed d r w = IsRight d r w ⊎ IsFault TooMany d r w

-- the tests allow the word, except that the map may be full
allowed : (d : Draft) (r : Role) (w : List ℕ) (full : Bool) → word_for d r w ≡ cond full (Err TooMany) (Ok (value d r w)) → IsAllowed d r w
allowed d r w true e = inr (word_fault d r w TooMany e)
allowed d r w false e = inl (word_right d r w (value d r w) e).0

key_allowed : (d : Draft) (k : List ℕ) → IsAllowed d (key k) k
key_allowed d k = allowed d (key k) k false (ap (λ (b : Bool). cond (not b) (Err Unexpected) (Ok tt)) ((bytes_eq-Decides k k).1 refl))

step_words_allowed : (d : Draft) → Each (named expect.StepWord) (IsAllowed d step_word)
step_words_allowed d = (
  allowed d step_word (codes "take") false refl,
  (allowed d step_word (codes "choose") false refl, (allowed d step_word (codes "chooseleaf") false refl, (allowed d step_word (codes "emit") false refl, (allowed d step_word (codes "set_..") false refl, tt)))),
)

role_named : (d : Draft) (r : Role) (w : List ℕ) → IsInLine r → IsOneOf (named (expected r)) w → IsRight d (weighed r) w ⊎ IsFault TooMany d r w
role_named d (key k) w g one = any_of (k ∷ []) (IsAllowed d (key k)) (key_allowed d k, tt) w (subst (λ (ks : List (List ℕ)). IsOneOf ks w) (key_named k g) one)
role_named d (any_word e) w g one = absurd (subst (λ (ks : List (List ℕ)). IsOneOf ks w) g one)
role_named d (opening b or) w g one = absurd g
role_named d (item_or_end any or) w g one = absurd g
role_named d (step_or_end k or) w g one = absurd g
role_named d id_or_alg w g one = any_of (named expect.IdOrAlg) (IsAllowed d id_or_alg) (allowed d id_or_alg (codes "id") (is_full_of_class_ids d) refl, (allowed d id_or_alg (codes "alg") false refl, tt)) w one
role_named d algorithm w g one =
    any_of (named expect.Algorithm) (IsAllowed d algorithm) (allowed d algorithm (codes "straw2") false refl, (allowed d algorithm (codes "straw") false refl, (allowed d algorithm (codes "list") false refl, tt))) w one
role_named d rule_id_key w g one = any_of (named expect.IdOrRuleset) (IsAllowed d rule_id_key) (allowed d rule_id_key (codes "id") false refl, (allowed d rule_id_key (codes "ruleset") false refl, tt)) w one
role_named d step_word w g one = any_of (named expect.StepWord) (IsAllowed d step_word) (step_words_allowed d) w one
role_named d step_order w g one = any_of (named expect.FirstnOrIndep) (IsAllowed d step_order) (allowed d step_order (codes "firstn") false refl, (allowed d step_order (codes "indep") false refl, tt)) w one
role_named d r w g one = absurd one

-- between two lines, the word may also begin an optional part
abbrev IsAllowedNext : Draft → Optional → Role → List ℕ → Type 0
IsAllowedNext d k r w = (IsOneOf (words_of k) w ⊎ IsRight d r w) ⊎ IsFault TooMany d r w

in_role : (d : Draft) (k : Optional) (r : Role) (w : List ℕ) → IsAllowed d r w → IsAllowedNext d k r w
in_role d k r w (inl h) = inl (inr h)
in_role d k r w (inr h) = inr h

by_part : (d : Draft) (k : Optional) (r : Role) (own : List (List ℕ)) (w : List ℕ) → Each own (IsAllowed d r) → IsOneOf (words_of k) w ⊎ IsOneOf own w → IsAllowedNext d k r w
by_part d k r own w each (inl h) = inl (inl h)
by_part d k r own w each (inr h) = in_role d k r w (any_of own (IsAllowed d r) each w h)

next_named : (d : Draft) (k : Optional) (r : Role) (own : List (List ℕ)) (w : List ℕ) → Each own (IsAllowed d r) → IsOneOf (words_of k ++ own) w → IsAllowedNext d k r w
next_named d k r own w each one = by_part d k r own w each (parted (words_of k) own w one)

-- the words that the sentences name for the first word of a line, besides the optional parts
abbrev early : List (List ℕ)
early = codes "tunable" ∷ codes "device" ∷ codes "type" ∷ codes "rule" ∷ []

abbrev late : List (List ℕ)
late = codes "rule" ∷ []

abbrev items : List (List ℕ)
items = codes "item" ∷ codes "}" ∷ []

abbrev steps : List (List ℕ)
steps = codes "step" ∷ codes "}" ∷ []

early_allowed : (d : Draft) (k : Optional) → Each early (IsAllowed d (opening false k))
early_allowed d k = (
  allowed d (opening false k) (codes "tunable") (is_full_of_tunables d) refl,
  (allowed d (opening false k) (codes "device") (is_full_of_devices d) refl, (allowed d (opening false k) (codes "type") (is_full_of_kinds d) refl, (allowed d (opening false k) (codes "rule") (is_full_of_rules d) refl, tt))),
)

late_allowed : (d : Draft) (k : Optional) → Each late (IsAllowed d (opening true k))
late_allowed d k = (allowed d (opening true k) (codes "rule") (is_full_of_rules d) refl, tt)

items_allowed : (d : Draft) (any : Bool) (k : Optional) → Each items (IsAllowed d (item_or_end any k))
items_allowed d any k = (allowed d (item_or_end any k) (codes "item") false refl, (allowed d (item_or_end any k) (codes "}") false refl, tt))

steps_allowed : (d : Draft) (n : ℕ) (k : Optional) → Each steps (IsAllowed d (step_or_end n k))
steps_allowed d n k = (allowed d (step_or_end n k) (codes "step") (nat_le MOST_STEPS n) refl, (allowed d (step_or_end n k) (codes "}") false refl, tt))

line_named : (d : Draft) (k : Optional) (m : Mode) → passes_in m k ≡ true → (w : List ℕ) → IsOneOf (named (expected_form (line_forms d k m))) w
    → (IsOneOf (words_of k) w ⊎ FitsForm d (line_forms d k m) w) ⊎ FaultyForm TooMany d (line_forms d k m) w
line_named d optional_part.Nothing first e w one = next_named d optional_part.Nothing _ early w (early_allowed d _) one
line_named d optional_part.Class first e w one = next_named d optional_part.Class _ early w (early_allowed d _) one
line_named d optional_part.Nothing second e w one = next_named d optional_part.Nothing _ late w (late_allowed d _) one
line_named d optional_part.Nothing begun e w one = in_role d optional_part.Nothing (key (codes "{")) w (role_named d (key (codes "{")) w refl one)
line_named d optional_part.Nothing numbered e w one = in_role d optional_part.Nothing id_or_alg w (role_named d id_or_alg w tt one)
line_named d optional_part.Nothing (filling any) e w one = next_named d optional_part.Nothing _ items w (items_allowed d any _) one
line_named d optional_part.Hash (filling any) e w one = next_named d optional_part.Hash _ items w (items_allowed d any _) one
line_named d optional_part.Weight (filling any) e w one = next_named d optional_part.Weight _ items w (items_allowed d any _) one
line_named d optional_part.Nothing (ruled r) e w one = next_named d optional_part.Nothing _ steps w (steps_allowed d _ _) one
line_named d optional_part.Class (ruled r) e w one = next_named d optional_part.Class _ steps w (steps_allowed d _ _) one
line_named d optional_part.MaxSize (ruled r) e w one = next_named d optional_part.MaxSize _ steps w (steps_allowed d _ _) one
line_named d optional_part.Sizes (ruled r) e w one = next_named d optional_part.Sizes _ steps w (steps_allowed d _ _) one
line_named d k m e w one = absurd (let not_so : false ≡ true = e in cc)

state_named : (s : State) → KnownAt s → (w : List ℕ) → IsOneOf (named (expected_at s)) w → MayFollow s w ⊎ FaultyNext TooMany s w
state_named (between p) h w one = line_named p.draft p.passed p.mode h w one
state_named (amid d (word r more)) h w one = role_named d r w h.0 one
state_named (amid d (done p)) h w one = absurd one
state_named (amid d (optional k f g)) h w one = absurd one
state_named (amid d (ahead k f g)) h w one = absurd one

-- EACH WORD THAT MAY FOLLOW is named or described
abbrev IsTold : Draft → Expected → List ℕ → Type 0
IsTold d e w = IsOneOf (named e) w ⊎ IsDescribed d e w

-- a word that isn't named isn't an algorithm
other_alg : (w : List ℕ) → (IsOneOf (named expect.Algorithm) w → ⊥) → alg_of_text w ≡ None
other_alg w other = λ i.
    cond (not_it w (codes "straw") (λ s. other (inr (inl s))) i) (Some Straw) (cond (not_it w (codes "straw2") (λ s. other (inl s)) i) (Some Straw2) (cond (not_it w (codes "list") (λ s. other (inr (inr (inl s)))) i) (Some Linked) None))

role_told : (d : Draft) (r : Role) (w : List ℕ) → IsInLine r → named (expected r) ≢ [] → IsRight d (weighed r) w → IsTold d (expected r) w
role_told d (key k) w g some h = inl (subst (λ (ks : List (List ℕ)). IsOneOf ks w) (sym (key_named k g)) (listed (k ∷ []) w (λ other. h Unexpected (λ s. other (inl s)))))
role_told d (any_word e) w g some h = absurd (some g)
role_told d (opening b or) w g some h = absurd g
role_told d (item_or_end any or) w g some h = absurd g
role_told d (step_or_end k or) w g some h = absurd g
role_told d id_or_alg w g some h = inl (listed (named expect.IdOrAlg) w (λ other. h Unexpected (λ s. other (inl s), λ s. other (inr (inl s)))))
role_told d algorithm w g some h = inl (listed (named expect.Algorithm) w (λ other. h OtherAlgorithm (other_alg w other)))
role_told d rule_id_key w g some h = inl (listed (named expect.IdOrRuleset) w (λ other. h Unexpected (λ s. other (inl s), λ s. other (inr (inl s)))))
role_told d step_word w g some h = by_test (starts_with nat_eq w (codes "set_")) refl
  where
    by_test : (b : Bool) → starts_with nat_eq w (codes "set_") ≡ b → IsTold d expect.StepWord w
    by_test true e = inr (inr (inr (inr (inr (inl refl)))), e)
    by_test false e = inl (listed (named expect.StepWord) w (λ other. h Unexpected (λ s. other (inl s), (λ s. other (inr (inl s)), λ s. other (inr (inr (inl s)))), λ s. other (inr (inr (inr (inl s)))), e, λ s. h LeftOut s)))
role_told d step_order w g some h = inl (listed (named expect.FirstnOrIndep) w (λ other. h Unexpected (λ s. other (inl s), λ s. other (inr (inl s)))))
role_told d r w g some h = absurd (some refl)

-- the first word of a statement is one of the words ks, unless it begins a bucket. The reserved words that aren't in ks have a fault
begins_told : (d : Draft) (b : Bool) (k : Optional) (ks : List (List ℕ)) (w : List ℕ) → IsRight d (opening b k) w → ((IsOneOf ks w → ⊥) → NoKey w) → IsOneOf ks w ⊎ BeginsBucket d w
begins_told d b k ks w h free = by_test (is_reserved w) refl
  where
    by_kind : (t : Bool) → is_bucket_kind d.setting (kind_of_word d w) ≡ t → is_reserved w ≡ false → is_bucket_kind d.setting (kind_of_word d w) ≡ true
    by_kind true e r = e
    by_kind false e r = absurd (h UnknownType (r, e))

    by_test : (t : Bool) → is_reserved w ≡ t → IsOneOf ks w ⊎ BeginsBucket d w
    by_test true e = inl (listed ks w (λ other. let not_so : is_reserved w ≡ false = not_reserved w (free other) in let wrong : true ≡ false = sym e ∙ not_so in absurd cc))
    by_test false e = inr (e, by_kind (is_bucket_kind d.setting (kind_of_word d w)) refl e)

early_told : (d : Draft) (k : Optional) (w : List ℕ) → IsRight d (opening false k) w → IsOneOf early w ⊎ BeginsBucket d w
early_told d k w h = begins_told d false k early w h (λ other. record {
  tunable = not_it w (codes "tunable") (λ s. other (inl s));
  device = not_it w (codes "device") (λ s. other (inr (inl s)));
  kind = not_it w (codes "type") (λ s. other (inr (inr (inl s))));
  rule = not_it w (codes "rule") (λ s. other (inr (inr (inr (inl s)))));
  class = not_it w (codes "class") (λ s. h Unexpected (inr (inl s)));
  weights = not_it w (codes "choose_args") (λ s. h LeftOut s);
})

late_told : (d : Draft) (k : Optional) (w : List ℕ) → IsRight d (opening true k) w → IsOneOf late w ⊎ BeginsBucket d w
late_told d k w h = begins_told d true k late w h (λ other. record {
  tunable = not_it w (codes "tunable") (λ s. h Unexpected (inr (inr (refl, inl s))));
  device = not_it w (codes "device") (λ s. h Unexpected (inr (inr (refl, inr (inl s)))));
  kind = not_it w (codes "type") (λ s. h Unexpected (inr (inr (refl, inr (inr s)))));
  rule = not_it w (codes "rule") (λ s. other (inl s));
  class = not_it w (codes "class") (λ s. h Unexpected (inr (inl s)));
  weights = not_it w (codes "choose_args") (λ s. h LeftOut s);
})

items_told : (d : Draft) (any : Bool) (k : Optional) (w : List ℕ) → IsRight d (item_or_end any k) w → IsOneOf items w
items_told d any k w h = listed items w (λ other. h Unexpected (λ s. other (inl s), λ s. other (inr (inl s)), λ a s. h LeftOut (a, s)))

steps_told : (d : Draft) (n : ℕ) (k : Optional) (w : List ℕ) → IsRight d (step_or_end n k) w → IsOneOf steps w
steps_told d n k w h = listed steps w (λ other. h Unexpected (λ s. other (inl s), λ s. other (inr (inl s))))

behind_part : {Q : Type 0} (ks own : List (List ℕ)) (w : List ℕ) → IsOneOf own w ⊎ Q → IsOneOf (ks ++ own) w ⊎ Q
behind_part ks own w (inl h) = inl (joined ks own w (inr h))
behind_part ks own w (inr q) = inr q

-- what is told of the first word of a line, together with the optional part that was left out before it
next_told : {P Q : Type 0} (ks own : List (List ℕ)) (w : List ℕ) → (P → IsOneOf own w ⊎ Q) → IsOneOf ks w ⊎ P → IsOneOf (ks ++ own) w ⊎ Q
next_told ks own w tell (inl h) = inl (joined ks own w (inl h))
next_told ks own w tell (inr p) = behind_part ks own w (tell p)

line_told : (d : Draft) (k : Optional) (m : Mode) → passes_in m k ≡ true → (w : List ℕ) → named (expected_form (line_forms d k m)) ≢ [] → IsOneOf (words_of k) w ⊎ FitsForm d (line_forms d k m) w
    → IsTold d (expected_form (line_forms d k m)) w
line_told d optional_part.Nothing first e w some h = next_told [] early w (early_told d optional_part.Nothing w) h
line_told d optional_part.Class first e w some h = next_told (words_of optional_part.Class) early w (early_told d optional_part.Class w) h
line_told d optional_part.Nothing second e w some h = next_told [] late w (late_told d optional_part.Nothing w) h
line_told d optional_part.Nothing begun e w some (inl empty) = absurd empty
line_told d optional_part.Nothing begun e w some (inr h) = role_told d (key (codes "{")) w refl some h
line_told d optional_part.Nothing numbered e w some (inl empty) = absurd empty
line_told d optional_part.Nothing numbered e w some (inr h) = role_told d id_or_alg w tt some h
line_told d optional_part.Nothing (filling any) e w some h = next_told [] items w (λ r. inl (items_told d any optional_part.Nothing w r)) h
line_told d optional_part.Hash (filling any) e w some h = next_told (words_of optional_part.Hash) items w (λ r. inl (items_told d any optional_part.Hash w r)) h
line_told d optional_part.Weight (filling any) e w some h = next_told (words_of optional_part.Weight) items w (λ r. inl (items_told d any optional_part.Weight w r)) h
line_told d optional_part.Nothing (ruled r) e w some h = next_told [] steps w (λ x. inl (steps_told d _ optional_part.Nothing w x)) h
line_told d optional_part.Class (ruled r) e w some h = next_told (words_of optional_part.Class) steps w (λ x. inl (steps_told d _ optional_part.Class w x)) h
line_told d optional_part.MaxSize (ruled r) e w some h = next_told (words_of optional_part.MaxSize) steps w (λ x. inl (steps_told d _ optional_part.MaxSize w x)) h
line_told d optional_part.Sizes (ruled r) e w some h = next_told (words_of optional_part.Sizes) steps w (λ x. inl (steps_told d _ optional_part.Sizes w x)) h
line_told d k m e w some h = absurd (let not_so : false ≡ true = e in cc)

state_told : (s : State) → KnownAt s → (w : List ℕ) → named (expected_at s) ≢ [] → MayFollow s w → IsTold (draft_at s) (expected_at s) w
state_told (between p) k w some h = line_told p.draft p.passed p.mode k w some h
state_told (amid d (word r more)) k w some h = role_told d r w k.0 some h
state_told (amid d (done p)) k w some h = absurd h
state_told (amid d (optional c f g)) k w some h = absurd h
state_told (amid d (ahead c f g)) k w some h = absurd h

-- THE LAWS
-- the state at a flaw
flaw_known : (bytes : List ℕ) (f : TextFault) (x : IsMapFlaw bytes f) → KnownAt x.so_far
flaw_known bytes f x = spelled_known start x.before x.next x.so_far refl x.spelled

pub named_words_may_follow : NamedWordsMayFollow
named_words_may_follow bytes f x w one = state_named x.so_far (flaw_known bytes f x) w (subst (λ (e : Expected). IsOneOf (named e) w) (flaws_say_what_is_expected bytes f x) one)

pub words_that_follow_are_named : WordsThatFollowAreNamed
words_that_follow_are_named bytes f x w some may =
    let says : f.expected ≡ expected_at x.so_far = flaws_say_what_is_expected bytes f x in
    subst (λ (e : Expected). IsTold (draft_at x.so_far) e w) (sym says) (state_told x.so_far (flaw_known bytes f x) w (λ none. some (ap named says ∙ none)) may)

pub same_algorithms_are_named : SameAlgorithmsAreNamed
same_algorithms_are_named w e = refl
