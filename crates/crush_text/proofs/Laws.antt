-- If reading succeeds, it returns what the words of the text spell. If it fails, its fault is the only flaw of the text.
use Rattle.std.proofs.Common.{◌≡◌, ℕ, ◌<◌, Bool, true, false, cond, List, [], ◌∷◌, ◌++◌, Result, Ok, Err, refl, sym, ap, subst, ◌∙◌, arith, inl, inr}
use Rattle.std.proofs.lemmas.List.{append-nil, append_assoc}
use Rattle.std.specs.Prelude.{◌==◌}
use Rattle.crush_builder.specs.Built.{Draft}
use Rattle.crush_units.specs.Words.{Word, Stop, ended, bad, Text}
use Rattle.crush_text.specs.declared.fault.TextFaultKind.{TextFaultKind}
use Rattle.crush_text.specs.declared.fault.TextFaultKind.TheVariants.{BadWord, Ended, Unexpected, BadNumber, BadWeight, DuplicateId, DuplicateName, UnknownType, UnknownItem, SecondParent, OtherAlgorithm, LeftOut, UnknownBucketInRule, TooMany, SumTooLarge, OutOfMemory}
use Rattle.crush_text.specs.declared.fault.TextFault.{TextFault}
use Rattle.crush_text.specs.Fault.{fault_number}
use Rattle.crush_text.specs.Role.{Role, El, value}
use Rattle.crush_text.specs.Form.{Form, done, word, optional, ahead}
use Rattle.crush_text.specs.Grammar.{next}
use Rattle.crush_text.specs.Tests.{word_tests, word_for}
use Rattle.crush_text.specs.Rows.{IsFault, IsRight}
use Rattle.crush_text.specs.Flow.{State, expected_form, expected_at, between, amid, ◌>>=◌, arrive, take, step, placed, unfinished, stop_at, run, outcome, takes_statement, Reaches}
use Rattle.crush_text.specs.Document.{SpellsForm, SpellsNext, Spell, IsWhole, start, IsDocument}
use Rattle.crush_text.specs.Flaw.{FaultyForm, FaultyNext, IsFaulty, IsFlaw, IsOutOfMemory}
use Rattle.crush_text.specs.InTime.{IsRightUpTo}
use Rattle.crush_text.proofs.Judged.{fires, first_fires, none_fires}
use Rattle.crush_text.proofs.TheTable.{in_order, told}

-- THE TABLE OF FAULTS
-- the fault with this number
abbrev kind_at : ℕ → TextFaultKind
kind_at n = cond (n == 1) BadWord (cond (n == 2) Ended (cond (n == 3) Unexpected (cond (n == 4) BadNumber (cond (n == 5) BadWeight (cond (n == 6) DuplicateId (cond (n == 7) DuplicateName (cond (n == 8) UnknownType
    (cond (n == 9) UnknownItem (cond (n == 10) SecondParent (cond (n == 11) OtherAlgorithm (cond (n == 12) LeftOut (cond (n == 13) UnknownBucketInRule (cond (n == 14) TooMany (cond (n == 15) SumTooLarge OutOfMemory))))))))))))))

back : (f : TextFaultKind) → kind_at (fault_number f) ≡ f
back BadWord = refl
back f = refl

-- a word has at most one fault
pub one_fault : (d : Draft) (r : Role) (w : List ℕ) (f g : TextFaultKind) → IsFault f d r w → IsFault g d r w → f ≡ g
one_fault d r w f g hf hg =
    let le : fault_number f < fault_number g → ⊥ = λ lt. hg.1 f lt hf.0 in
    let ge : fault_number g < fault_number f → ⊥ = λ lt. hf.1 g lt hg.0 in
    let same : fault_number f ≡ fault_number g = omega (arith, le, ge) in
    sym (back f) ∙ ap kind_at same ∙ back g

-- if the tests accept a word, no row of the table of faults applies to it
pub word_right : (d : Draft) (r : Role) (w : List ℕ) (v : El r) → word_for d r w ≡ Ok v → IsRight d r w × (value d r w ≡ v)
word_right d r w v e =
    let k = none_fires (word_tests d r w) (value d r w) v e in
    (λ f h. let none : fires f (word_tests d r w) ≡ false = k.1 f in let some : fires f (word_tests d r w) ≡ true = (told d w f r).1 h in absurd cc, k.0)

-- THE TESTS find a fault only if its row applies and no row of a fault with a smaller number applies
pub word_fault : (d : Draft) (r : Role) (w : List ℕ) (f : TextFaultKind) → word_for d r w ≡ Err f → IsFault f d r w
word_fault d r w f e =
    let k = first_fires 2 (word_tests d r w) (value d r w) f (in_order d w r) e in (
      (told d w f r).0 k.0 k.1,
      λ g lt h.
          let some : fires g (word_tests d r w) ≡ true = (told d w g r).1 h in
          let none : fires g (word_tests d r w) ≡ false = k.1 g lt in
          absurd cc,
    )

-- if a fault's row applies, and no row of a fault with a smaller number applies, then the tests find this fault
pub fault_word : (d : Draft) (r : Role) (w : List ℕ) (f : TextFaultKind) → IsFault f d r w → word_for d r w ≡ Err f
fault_word d r w f h = by_it (word_for d r w) refl
  where
    by_it : (j : Result (El r) TextFaultKind) → word_for d r w ≡ j → j ≡ Err f
    by_it (Ok v) e = absurd ((word_right d r w v e).0 f h.0)
    by_it (Err g) e = ap (λ x. Err x) (one_fault d r w g f (word_fault d r w g e) h)

-- if no row applies to a word, then the tests accept it
pub right_word : (d : Draft) (r : Role) (w : List ℕ) → IsRight d r w → word_for d r w ≡ Ok (value d r w)
right_word d r w h = by_it (word_for d r w) refl
  where
    by_it : (j : Result (El r) TextFaultKind) → word_for d r w ≡ j → j ≡ Ok (value d r w)
    by_it (Ok v) e = ap (λ x. Ok x) (sym (word_right d r w v e).1)
    by_it (Err g) e = absurd (h g (word_fault d r w g e).0)

-- READING ONE WORD
take_ok : (d : Draft) (g : Form) (w : List ℕ) (rest : List Word) (m : State) → take d g w rest ≡ Ok m → SpellsForm d g w rest m
take_ok d (word r more) w rest m e = by_it (word_for d r w) refl e
  where
    by_it : (j : Result (El r) TextFaultKind) → word_for d r w ≡ j → (j >>= λ v. Ok (arrive d rest (more v))) ≡ Ok m → SpellsForm d (word r more) w rest m
    by_it (Ok v) k e = let t = word_right d r w v k in (t.0, (let is : arrive d rest (more v) ≡ m = cc in sym is) ∙ ap (λ x. arrive d rest (more x)) (sym t.1))
    by_it (Err f) k e = absurd cc
take_ok d (done x) w rest m e = absurd cc
take_ok d (optional k f g) w rest m e = absurd cc
take_ok d (ahead k f g) w rest m e = absurd cc

take_err : (d : Draft) (g : Form) (w : List ℕ) (rest : List Word) (f : TextFaultKind) → take d g w rest ≡ Err f → FaultyForm f d g w
take_err d (word r more) w rest f e = by_it (word_for d r w) refl e
  where
    by_it : (j : Result (El r) TextFaultKind) → word_for d r w ≡ j → (j >>= λ v. Ok (arrive d rest (more v))) ≡ Err f → IsFault f d r w
    by_it (Ok v) k e = absurd cc
    by_it (Err x) k e = let is : x ≡ f = cc in word_fault d r w f (k ∙ ap (λ y. Err y) is)
take_err d (done x) w rest f e = cc
take_err d (optional k x y) w rest f e = cc
take_err d (ahead k x y) w rest f e = cc

spells_take : (d : Draft) (g : Form) (w : List ℕ) (rest : List Word) (m : State) → SpellsForm d g w rest m → take d g w rest ≡ Ok m
spells_take d (word r more) w rest m h = ap (λ j. j >>= λ v. Ok (arrive d rest (more v))) (right_word d r w h.0) ∙ ap (λ x. Ok x) (sym h.1)
spells_take d (done x) w rest m h = absurd h
spells_take d (optional k x y) w rest m h = absurd h
spells_take d (ahead k x y) w rest m h = absurd h

faulty_take : (d : Draft) (g : Form) (w : List ℕ) (rest : List Word) (f : TextFaultKind) → FaultyForm f d g w → take d g w rest ≡ Err f
faulty_take d (word r more) w rest f h = ap (λ j. j >>= λ v. Ok (arrive d rest (more v))) (fault_word d r w f h)
faulty_take d (done x) w rest f h = ap (λ y. Err y) (sym h)
faulty_take d (optional k x y) w rest f h = ap (λ z. Err z) (sym h)
faulty_take d (ahead k x y) w rest f h = ap (λ z. Err z) (sym h)

step_ok : (s : State) (w : List ℕ) (rest : List Word) (m : State) → step s w rest ≡ Ok m → SpellsNext s w rest m
unfolding step
step_ok (between p) w rest m e = take_ok p.draft (next p) w rest m e
step_ok (amid d g) w rest m e = take_ok d g w rest m e

step_err : (s : State) (w : List ℕ) (rest : List Word) (f : TextFaultKind) → step s w rest ≡ Err f → FaultyNext f s w
unfolding step
step_err (between p) w rest f e = take_err p.draft (next p) w rest f e
step_err (amid d g) w rest f e = take_err d g w rest f e

spells_step : (s : State) (w : List ℕ) (rest : List Word) (m : State) → SpellsNext s w rest m → step s w rest ≡ Ok m
unfolding step
spells_step (between p) w rest m h = spells_take p.draft (next p) w rest m h
spells_step (amid d g) w rest m h = spells_take d g w rest m h

faulty_step : (s : State) (w : List ℕ) (rest : List Word) (f : TextFaultKind) → FaultyNext f s w → step s w rest ≡ Err f
unfolding step
faulty_step (between p) w rest f h = faulty_take p.draft (next p) w rest f h
faulty_step (amid d g) w rest f h = faulty_take d g w rest f h

-- READING ALL WORDS
-- how reading ends
abbrev Ends : State → List Word → Stop → Result Draft TextFault → Type 0
Ends m others stop (Ok d) = (others ≡ []) × (stop_at m stop ≡ Ok d)
Ends m others stop (Err f) = IsFaulty m others stop f

-- the words that were read, and how reading ended
record Read (s : State) (ws : List Word) (stop : Stop) (r : Result Draft TextFault) : Type 0 where
  pub before : List Word
  pub others : List Word
  pub all : ws ≡ before ++ others
  pub last : State
  pub spelled : Spell s before others last
  pub ends : Ends last others stop r

stops : (s : State) (stop : Stop) (r : Result Draft TextFault) → stop_at s stop ≡ r → Ends s [] stop r
stops s stop (Ok d) e = (refl, e)
stops (between q) (ended p) (Err f) e = by_it (takes_statement q.mode) refl e
  where
    by_it : (b : Bool) → takes_statement q.mode ≡ b → cond b (Ok q.draft) (unfinished p (expected_form (next q))) ≡ Err f → (f ≡ record { kind = Ended; place = p; expected = expected_form (next q) }) × (takes_statement q.mode ≡ false)
    by_it true k e = absurd cc
    by_it false k e = (cc, k)
stops (amid d g) (ended p) (Err f) e = (cc, refl)
stops s (bad p) (Err f) e = cc

-- every text is read up to its end or up to a fault
tells : (ws : List Word) (s : State) (stop : Stop) (r : Result Draft TextFault) → run s ws stop ≡ r → Read s ws stop r
unfolding run
tells [] s stop r e = record { before = []; others = []; all = refl; last = s; spelled = refl; ends = stops s stop r e }
tells (w ∷ ws) s stop r e = by_it (step s w.text ws) refl e (λ u k. tells ws u stop r k)
  where
    by_it : (j : Result State TextFaultKind) → step s w.text ws ≡ j → (placed w.place (expected_at s) j >>= λ m. run m ws stop) ≡ r → ((u : State) → run u ws stop ≡ r → Read u ws stop r) → Read s (w ∷ ws) stop r
    by_it (Ok u) k e go =
        let t = go u e in
        record { before = w ∷ t.before; others = t.others; all = ap (λ (l : List Word). w ∷ l) t.all; last = t.last; spelled = (u, subst (λ (l : List Word). SpellsNext s w.text l u) t.all (step_ok s w.text ws u k), t.spelled); ends = t.ends }
    by_it (Err f) k e go = record { before = []; others = w ∷ ws; all = refl; last = s; spelled = refl; ends = subst (Ends s (w ∷ ws) stop) e (step_err s w.text ws f k, refl, refl) }

-- words that spell lines are read
spelled_run : (ws others : List Word) (s m : State) (stop : Stop) → Spell s ws others m → run s (ws ++ others) stop ≡ run m others stop
unfolding run
spelled_run [] others s m stop h = ap (λ x. run x others stop) h
spelled_run (w ∷ ws) others s m stop h = ap (λ j. placed w.place (expected_at s) j >>= λ x. run x (ws ++ others) stop) (spells_step s w.text (ws ++ others) h.0 h.1) ∙ spelled_run ws others h.0 m stop h.2

-- if the next word is at fault, then its fault is the result
faulty_run : (s : State) (others : List Word) (stop : Stop) (f : TextFault) → IsFaulty s others stop f → run s others stop ≡ Err f
unfolding run
faulty_run (between q) [] (ended p) f h = ap (λ b. cond b (Ok q.draft) (unfinished p (expected_form (next q)))) h.1 ∙ ap (λ x. Err x) (sym h.0)
faulty_run (amid d g) [] (ended p) f h = ap (λ x. Err x) (sym h.0)
faulty_run s [] (bad p) f h = ap (λ x. Err x) (sym h)
faulty_run s (w ∷ ws) stop f h = ap (λ j. placed w.place (expected_at s) j >>= λ x. run x ws stop) (faulty_step s w.text ws f.kind h.0) ∙ (λ i. Err (record { kind = f.kind; place = sym h.1 i; expected = sym h.2 i }))

-- the words up to a place that is reached
record ReadUpTo (s : State) (ws : List Word) (place : ℕ) : Type 0 where
  pub before : List Word
  pub last : Word
  pub next : List Word
  pub all : ws ≡ before ++ last ∷ next
  pub so_far : State
  pub spelled : Spell s (before ++ last ∷ []) next so_far
  pub here : place ≡ last.place

up_to : (ws : List Word) (s : State) (place : ℕ) → Reaches place s ws → ReadUpTo s ws place
up_to [] s place h = absurd h
up_to (w ∷ ws) s place (m, e, inl here) = record { before = []; last = w; next = ws; all = refl; so_far = m; spelled = (m, step_ok s w.text ws m e, refl); here = here }
up_to (w ∷ ws) s place (m, e, inr h) =
    let t = up_to ws m place h in
    record {
      before = w ∷ t.before;
      last = t.last;
      next = t.next;
      all = ap (λ (l : List Word). w ∷ l) t.all;
      so_far = t.so_far;
      spelled = (m, subst (λ (l : List Word). SpellsNext s w.text l m) (t.all ∙ sym (append_assoc t.before (t.last ∷ []) t.next)) (step_ok s w.text ws m e), t.spelled);
      here = t.here;
    }

-- the text is right up to each place that is reached
pub right_up_to : (t : Text) (place : ℕ) → Reaches place start t.words → IsRightUpTo t place
right_up_to t place h = let k = up_to t.words start place h in record { before = k.before; last = k.last; next = k.next; all = k.all; so_far = k.so_far; spelled = k.spelled; here = k.here }

-- THE LAWS
-- if the end of the words gives a draft, the text may end there
whole_stop : (m : State) (stop : Stop) (d : Draft) → stop_at m stop ≡ Ok d → IsWhole m d × ((p : ℕ) × (stop ≡ ended p))
whole_stop (between q) (ended p) d e = by_it (takes_statement q.mode) refl e
  where
    by_it : (b : Bool) → takes_statement q.mode ≡ b → cond b (Ok q.draft) (unfinished p (expected_form (next q))) ≡ Ok d → ((q.draft ≡ d) × (takes_statement q.mode ≡ true)) × ((n : ℕ) × (ended p ≡ ended n))
    by_it true k e = ((cc, k), (p, refl))
    by_it false k e = absurd cc
whole_stop (amid x g) (ended p) d e = absurd cc
whole_stop m (bad p) d e = absurd cc

-- if the text may end in a state, then the end of the text gives the draft
stop_whole : (m : State) (d : Draft) (p : ℕ) → IsWhole m d → stop_at m (ended p) ≡ Ok d
stop_whole (between q) d p h = ap (λ b. cond b (Ok q.draft) (unfinished p (expected_form (next q)))) h.1 ∙ ap (λ (x : Draft). Ok x) h.0
stop_whole (amid x g) d p h = absurd h

-- if reading a text succeeds, then the text is a document
pub document_of : (t : Text) (d : Draft) → outcome start t ≡ Ok d → IsDocument t d
unfolding outcome
document_of t d e =
    let k = tells t.words start t.stop (Ok d) e in
    let z = whole_stop k.last t.stop d k.ends.1 in
    let same : k.before ≡ t.words = sym (append-nil k.before) ∙ ap (λ (l : List Word). k.before ++ l) (sym k.ends.0) ∙ sym k.all in
    record { last = k.last; spelled = subst (λ (l : List Word). Spell start l [] k.last) same (subst (λ (l : List Word). Spell start k.before l k.last) k.ends.0 k.spelled); whole = z.0; end = z.1 }

-- if a text is a document, then reading it succeeds
pub outcome_of : (t : Text) (d : Draft) → IsDocument t d → outcome start t ≡ Ok d
unfolding outcome run
outcome_of t d h =
    ap (run start t.words) h.end.1 ∙ ap (λ (l : List Word). run start l (ended h.end.0)) (sym (append-nil t.words)) ∙ spelled_run t.words [] start h.last (ended h.end.0) h.spelled ∙ stop_whole h.last d h.end.0 h.whole

-- if reading fails, then its fault is a flaw of the text
pub flaw_of : (t : Text) (f : TextFault) → outcome start t ≡ Err f → IsFlaw t f
unfolding outcome
flaw_of t f e = let k = tells t.words start t.stop (Err f) e in record { before = k.before; next = k.others; all = k.all; so_far = k.last; spelled = k.spelled; fault = k.ends }

-- each flaw of a text is the fault with which reading the text fails
pub fault_of : (t : Text) (f : TextFault) → IsFlaw t f → outcome start t ≡ Err f
unfolding outcome
fault_of t f h = ap (λ (l : List Word). run start l t.stop) h.all ∙ spelled_run h.before h.next start h.so_far t.stop h.spelled ∙ faulty_run h.so_far h.next t.stop f h.fault

-- no word has the fault OutOfMemory
no_want_of : (d : Draft) (g : Form) (w : List ℕ) → FaultyForm OutOfMemory d g w → ⊥
no_want_of d (word r more) w h = h.0
no_want_of d (done p) w h = absurd cc
no_want_of d (optional k x y) w h = absurd cc
no_want_of d (ahead k x y) w h = absurd cc

-- so OutOfMemory is never a flaw
pub no_flaw_of_memory : (t : Text) (f : TextFault) → IsFlaw t f → IsOutOfMemory f → ⊥
no_flaw_of_memory t f h want = by_it h.so_far h.next t.stop h.fault
  where
    by_form : (s : State) (w : List ℕ) → FaultyNext OutOfMemory s w → ⊥
    by_form (between p) w e = no_want_of p.draft (next p) w e
    by_form (amid d g) w e = no_want_of d g w e

    by_it : (s : State) (others : List Word) (stop : Stop) → IsFaulty s others stop f → ⊥
    by_it s [] (ended p) e = let k : Ended ≡ OutOfMemory = sym (ap (λ (x : TextFault). x.kind) e.0) ∙ want in absurd cc
    by_it s [] (bad p) e = let k : BadWord ≡ OutOfMemory = sym (ap (λ (x : TextFault). x.kind) e) ∙ want in absurd cc
    by_it s (w ∷ ws) stop e = by_form s w.text (subst (λ (k : TextFaultKind). FaultyNext k s w.text) want e.0)
