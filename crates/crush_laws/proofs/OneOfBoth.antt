-- Proves that bytes are the text of one map or have one flaw, and never both. A draft (`Draft`) is what the lines so far have built. A form (`Form`) says which words the rest of a line must have. A state (`State`) is a place in the text: between two lines, or in a line with the form of its rest.
use Rattle.std.proofs.Common.{◌≡◌, ℕ, Bool, true, false, cond, List, [], ◌∷◌, ◌++◌, Result, Ok, Err, refl, sym, ap, subst, ◌∙◌, inl, inr}
use Rattle.std.proofs.lemmas.Bool.{cond_both}
use Rattle.std.specs.Prelude.{◌⊎◌, bytes_eq, codes, drop}
use Rattle.crush_builder.specs.Built.{Draft}
use Rattle.crush_edits.specs.Setting.{RuleData}
use Rattle.crush_units.specs.Words.{Word, Stop, ended, bad, words, begins_with_key}
use Rattle.crush_text.specs.declared.statement_kind.StatementKind.{StatementKind}
use Rattle.crush_text.specs.declared.statement_kind.StatementKind.TheVariants as statement_kinds
use Rattle.crush_text.specs.declared.fault.TextFault.{TextFault}
use Rattle.crush_text.specs.Role.{El, StepWord, takes, chooses, sets, emits, value}
use Rattle.crush_text.specs.Form.{Mode, first, second, begun, numbered, filling, ruled, Form, done, word, optional, ahead}
use Rattle.crush_text.specs.Grammar.{id_or_alg_line, item_or_brace, step_behind, step_or_brace, statement, line_forms, next as next_line}
use Rattle.crush_text.specs.declared.expected.Optional.{Optional}
use Rattle.crush_text.specs.Flow.{State, expected_at, between, amid, arrive, outcome}
use Rattle.crush_text.specs.Document.{SpellsForm, SpellsNext, Spell, start}
use Rattle.crush_text.specs.Flaw.{IsFaulty}
use Rattle.crush_laws.specs.MapOrFlaw.{WordsAreJudgedByTheTable, AFlawExcludesTheMap, AtMostOneFlaw, FlawsSayWhatIsExpected, ExpectedWordsGoOn, NoOtherWordGoesOn, SameWordsSameFlaw, AtMostOneMap, HasMap, HasFlaw, AMapOrAFlaw}
use Rattle.crush_text.proofs.Laws.{word_fault, fault_word, document_of, outcome_of, flaw_of, fault_of}
use Rattle.crush_text.proofs.Follows.{expected_words_go_on, no_other_word_goes_on}
use Rattle.crush_text.proofs.Whole.{one_draft}

-- a word has the fault that the table of faults says
pub words_are_judged_by_the_table : WordsAreJudgedByTheTable
words_are_judged_by_the_table d r w f = (λ e. word_fault d r w f e, λ h. fault_word d r w f h)

-- words that spell a map are read without a fault, so a text of a map has no flaw
pub a_flaw_excludes_the_map : AFlawExcludesTheMap
a_flaw_excludes_the_map bytes f s t n x m =
    let k = sym (outcome_of (words 0 bytes) m.draft m.document) ∙ fault_of (words 0 bytes) f x in
    absurd cc

-- a flaw is the only fault of the text
pub at_most_one_flaw : AtMostOneFlaw
at_most_one_flaw bytes f g x y =
    let k = sym (fault_of (words 0 bytes) f x) ∙ fault_of (words 0 bytes) g y in
    cc

-- a form looks ahead only for the word `weight`
abbrev LooksForWeights : Form → Type 0
LooksForWeights (done p) = Unit {0}
LooksForWeights (word r more) = (v : El r) → LooksForWeights (more v)
LooksForWeights (optional k f g) = LooksForWeights f × LooksForWeights g
LooksForWeights (ahead k f g) = (k ≡ codes "weight") × LooksForWeights f × LooksForWeights g

-- the forms of each statement look ahead only for `weight`
statement_looks : (d : Draft) (o : StatementKind) → LooksForWeights (statement d o)
statement_looks d statement_kinds.Tunable = λ x n. tt
statement_looks d statement_kinds.Type = λ n x. tt
statement_looks d statement_kinds.Device = λ n x. (λ k c. tt, tt)
statement_looks d (statement_kinds.Bucket k) = λ x. tt
statement_looks d statement_kinds.Rule = λ x a b n c k. (λ e u. (λ g v. tt, tt), (λ g v. tt, tt))

-- the forms of each step look ahead only for `weight`
step_looks : (d : Draft) (r : RuleData) (w : StepWord) → LooksForWeights (step_behind d r w)
step_looks d r takes = λ b. (λ k c. tt, tt)
step_looks d r (chooses leaf) = λ o n t k. tt
step_looks d r (sets x) = λ n. tt
step_looks d r emits = tt

-- the forms of each line look ahead only for `weight`
lines_look : (d : Draft) (k : Optional) (m : Mode) → LooksForWeights (line_forms d k m)
lines_look d k first = statement_looks d
lines_look d k second = statement_looks d
lines_look d k begun = λ a b n. tt
lines_look d k numbered = by_it
  where
    by_it : (b : Bool) → LooksForWeights (id_or_alg_line d b)
    by_it true = λ b k c. tt
    by_it false = λ a. (λ h z. tt, tt)
lines_look d k (filling any) = by_it
  where
    by_it : (b : Bool) → LooksForWeights (item_or_brace d b)
    by_it true = (refl, λ i k w. tt, λ i. tt)
    by_it false = tt
lines_look d k (ruled r) = by_it
  where
    by_it : (b : Bool) → LooksForWeights (step_or_brace d r b)
    by_it true = step_looks d r
    by_it false = tt

-- the same for a state, between two lines or in the middle of a line
abbrev Looks : State → Type 0
Looks (between p) = Unit {0}
Looks (amid d f) = LooksForWeights f

-- the same for the state in which a form is due
arrive_looks : (d : Draft) (rest : List Word) (f : Form) → LooksForWeights f → Looks (arrive d rest f)
arrive_looks d rest (done p) h = tt
arrive_looks d rest (word r more) h = h
arrive_looks d rest (optional k f g) h = cond_both (begins_with_key k rest) (arrive d rest f) (arrive d rest g) Looks (λ _. arrive_looks d rest f h.0) (λ _. arrive_looks d rest g h.1)
arrive_looks d rest (ahead k f g) h = cond_both (begins_with_key k (drop 1 rest)) (arrive d rest f) (arrive d rest g) Looks (λ _. arrive_looks d rest f h.1) (λ _. arrive_looks d rest g h.2)

-- the same for each state to which a word leads
form_looks : (d : Draft) (f : Form) (text : List ℕ) (rest : List Word) (u : State) → LooksForWeights f → SpellsForm d f text rest u → Looks u
form_looks d (word r more) text rest u k h = subst Looks (sym h.1) (arrive_looks d rest (more (value d r text)) (k (value d r text)))
form_looks d (done p) text rest u k h = absurd h
form_looks d (optional c f g) text rest u k h = absurd h
form_looks d (ahead c f g) text rest u k h = absurd h

step_leads : (s : State) (text : List ℕ) (rest : List Word) (u : State) → Looks s → SpellsNext s text rest u → Looks u
step_leads (between p) text rest u k h = form_looks p.draft (next_line p) text rest u (lines_look p.draft p.passed p.mode) h
step_leads (amid d f) text rest u k h = form_looks d f text rest u k h

-- the form that is due depends only on the next word, and on whether `weight` follows it
next_alone : (d : Draft) (f : Form) (w : Word) (ws us : List Word) → LooksForWeights f → begins_with_key (codes "weight") ws ≡ begins_with_key (codes "weight") us → arrive d (w ∷ ws) f ≡ arrive d (w ∷ us) f
next_alone d (done p) w ws us k same = refl
next_alone d (word r more) w ws us k same = refl
next_alone d (optional c f g) w ws us k same = λ i. cond (bytes_eq w.text c) (next_alone d f w ws us k.0 same i) (next_alone d g w ws us k.1 same i)
next_alone d (ahead c f g) w ws us k same =
    let so : begins_with_key c ws ≡ begins_with_key c us = ap (λ (x : List ℕ). begins_with_key x ws) k.0 ∙ same ∙ ap (λ (x : List ℕ). begins_with_key x us) (sym k.0) in
    λ i. cond (so i) (next_alone d f w ws us k.1 same i) (next_alone d g w ws us k.2 same i)

-- the state to which a word leads depends only on this word, and on whether `weight` follows it
form_alone : (d : Draft) (f : Form) (text : List ℕ) (w : Word) (ws us : List Word) (u : State) → LooksForWeights f → begins_with_key (codes "weight") ws ≡ begins_with_key (codes "weight") us → SpellsForm d f text (w ∷ ws) u → SpellsForm d f text (w ∷ us) u
form_alone d (word r more) text w ws us u k same h = (h.0, h.1 ∙ next_alone d (more (value d r text)) w ws us (k (value d r text)) same)
form_alone d (done p) text w ws us u k same h = absurd h
form_alone d (optional c f g) text w ws us u k same h = absurd h
form_alone d (ahead c f g) text w ws us u k same h = absurd h

step_alone : (s : State) (text : List ℕ) (w : Word) (ws us : List Word) (u : State) → Looks s → begins_with_key (codes "weight") ws ≡ begins_with_key (codes "weight") us → SpellsNext s text (w ∷ ws) u → SpellsNext s text (w ∷ us) u
step_alone (between p) text w ws us u k same h = form_alone p.draft (next_line p) text w ws us u (lines_look p.draft p.passed p.mode) same h
step_alone (amid d f) text w ws us u k same h = form_alone d f text w ws us u k same h

-- whether a list of words with w after them begins with `weight` doesn't depend on what follows w
same_first : (ws : List Word) (w : Word) (next more : List Word) → begins_with_key (codes "weight") (ws ++ w ∷ next) ≡ begins_with_key (codes "weight") (ws ++ w ∷ more)
same_first [] w next more = refl
same_first (v ∷ ws) w next more = refl

-- words lead to the same state if the same word follows them, and if after that word `weight` follows in both cases or in neither
spelled_so : (s : State) (ws : List Word) (w : Word) (next more : List Word) (u : State) → Looks s → begins_with_key (codes "weight") next ≡ begins_with_key (codes "weight") more → Spell s ws (w ∷ next) u → Spell s ws (w ∷ more) u
spelled_so s [] w next more u k same h = h
spelled_so s (v ∷ []) w next more u k same h = (h.0, step_alone s v.text w next more h.0 k same h.1, h.2)
spelled_so s (v ∷ x ∷ ws) w next more u k same h =
    (h.0, step_alone s v.text x (ws ++ w ∷ next) (ws ++ w ∷ more) h.0 k (same_first ws w next more) h.1, spelled_so h.0 (x ∷ ws) w next more u (step_leads s v.text (x ∷ ws ++ w ∷ next) h.0 k h.1) same h.2)

-- a fault at a word is a fault at this word whatever follows it
fault_alone : (s : State) (w : Word) (next more : List Word) (stop end : Stop) (f : TextFault) → IsFaulty s (w ∷ next) stop f → IsFaulty s (w ∷ more) end f
fault_alone s w next more stop end f h = h

-- the words up to a fault's word have the same flaw, whatever follows them
pub same_words_same_flaw : SameWordsSameFlaw
same_words_same_flaw bytes others f x w next more is begins weighed =
    let fault : IsFaulty x.so_far (w ∷ next) (words 0 bytes).stop f = subst (λ (ws : List Word). IsFaulty x.so_far ws (words 0 bytes).stop f) is x.fault in
    record {
      before = x.before;
      next = w ∷ more;
      all = begins;
      so_far = x.so_far;
      spelled = spelled_so start x.before w next more x.so_far tt weighed (subst (λ (ws : List Word). Spell start x.before ws x.so_far) is x.spelled);
      fault = fault_alone x.so_far w next more (words 0 bytes).stop (words 0 others).stop f fault;
    }

-- a fault at a word, or at the end of the words, says what is expected there
says_so : (s : State) (next : List Word) (stop : Stop) (f : TextFault) → IsFaulty s next stop f → f.expected ≡ expected_at s
says_so s [] (ended p) f h = ap (λ (x : TextFault). x.expected) h.0
says_so s [] (bad p) f h = ap (λ (x : TextFault). x.expected) h
says_so s (w ∷ ws) stop f h = h.2

-- a flaw says what is expected at its place
pub flaws_say_what_is_expected : FlawsSayWhatIsExpected
flaws_say_what_is_expected bytes f x = says_so x.so_far x.next (words 0 bytes).stop f x.fault

-- the words that may follow are exactly the words with which the text can go on
pub each_word_goes_on : ExpectedWordsGoOn
each_word_goes_on bytes f x w may = expected_words_go_on (words 0 bytes) f x w may

pub no_other_word : NoOtherWordGoesOn
no_other_word bytes f x w goes = no_other_word_goes_on (words 0 bytes) f x w goes

-- a map that the words spell is the one map that is read
pub at_most_one_map : AtMostOneMap
at_most_one_map bytes s r t u n m x y =
    let k : x.draft ≡ y.draft = one_draft x.draft y.draft (words 0 bytes) (outcome_of (words 0 bytes) x.draft x.document) (outcome_of (words 0 bytes) y.draft y.document) in
    (sym x.setting ∙ ap (λ (d : Draft). d.setting) k ∙ y.setting, sym x.table ∙ ap (λ (d : Draft). d.table) k ∙ y.table, sym x.count ∙ ap (λ (d : Draft). d.adjusted) k ∙ y.count)

-- the result of the text is a draft or a fault
pub a_map_or_a_flaw : AMapOrAFlaw
a_map_or_a_flaw bytes = by_outcome (outcome start (words 0 bytes)) refl
  where
    by_outcome : (r : Result Draft TextFault) → outcome start (words 0 bytes) ≡ r → HasMap bytes ⊎ HasFlaw bytes
    by_outcome (Ok d) e = inl (record { setting = d.setting; table = d.table; adjusted = d.adjusted; text = record { draft = d; document = document_of (words 0 bytes) d e; setting = refl; table = refl; count = refl } })
    by_outcome (Err f) e = inr (record { fault = f; flaw = flaw_of (words 0 bytes) f e })
