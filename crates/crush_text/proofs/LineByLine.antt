-- The result of reading a line, and then the text after it.
use Rattle.std.proofs.Common.{◌≡◌, ◌⊎◌, Bool, true, false, cond, List, [], ◌∷◌, Result, Ok, Err, refl, sym, ap, ◌∙◌, inl, inr}
use Rattle.std.specs.Prelude.{drop}
use Rattle.crush_builder.specs.Built.{Draft}
use Rattle.crush_units.specs.Words.{Word, Stop, ended, bad, Text, begins_with_key}
use Rattle.crush_text.specs.declared.fault.TextFaultKind.{TextFaultKind}
use Rattle.crush_text.specs.declared.fault.TextFaultKind.TheVariants.{Ended}
use Rattle.crush_text.specs.declared.fault.TextFault.{TextFault}
use Rattle.crush_text.specs.Role.{El}
use Rattle.crush_text.specs.declared.expected.Optional.{Optional}
use Rattle.crush_text.specs.Expected.{expected}
use Rattle.crush_text.specs.Form.{Mode, first, at, passing, Form, done, word, optional, ahead}
use Rattle.crush_text.specs.Grammar.{line_forms}
use Rattle.crush_text.specs.Tests.{word_for}
use Rattle.crush_text.specs.Flow.{◌>>=◌, expected_form, placed, between, amid, arrive, step, takes_statement, run, outcome}
use Rattle.crush_text.specs.Reads.{next_at, word_at, and_rest, line_at, then_on}

-- if this is true of two forms, then it is true of the one that the test b chooses
either_goes : (b : Bool) (d : Draft) (f g : Form) (t : Text) → run (arrive d t.words f) t.words t.stop ≡ then_on (line_at d f t) → run (arrive d t.words g) t.words t.stop ≡ then_on (line_at d g t)
    → run (cond b (arrive d t.words f) (arrive d t.words g)) t.words t.stop ≡ then_on (cond b (line_at d f t) (line_at d g t))
either_goes true d f g t x y = x
either_goes false d f g t x y = y

-- the result of reading all words is the result of reading a line, and then the text after it
pub line_goes : (d : Draft) (f : Form) (ws : List Word) (stop : Stop) → run (arrive d ws f) ws stop ≡ then_on (line_at d f (record { words = ws; stop = stop }))
unfolding outcome run step line_at word_at next_at
line_goes d (done p) ws stop = refl
line_goes d (word r more) [] (ended p) = refl
line_goes d (word r more) [] (bad p) = refl
line_goes d (word r more) (w ∷ ws) stop = by_it (word_for d r w.text) (λ v. line_goes d (more v) ws stop)
  where
    by_it : (j : Result (El r) TextFaultKind) → ((v : El r) → run (arrive d ws (more v)) ws stop ≡ then_on (line_at d (more v) (record { words = ws; stop = stop })))
        → (placed w.place (expected r) (j >>= λ v. Ok (arrive d ws (more v))) >>= λ m. run m ws stop) ≡ then_on ((placed w.place (expected r) j >>= and_rest (record { words = ws; stop = stop })) >>= λ x. line_at d (more x.0) x.1)
    by_it (Ok v) go = go v
    by_it (Err f) go = refl
line_goes d (optional k f g) ws stop = either_goes (begins_with_key k ws) d f g (record { words = ws; stop = stop }) (line_goes d f ws stop) (line_goes d g ws stop)
line_goes d (ahead k f g) ws stop = either_goes (begins_with_key k (drop 1 ws)) d f g (record { words = ws; stop = stop }) (line_goes d f ws stop) (line_goes d g ws stop)

-- each line begins with a word
begins_so : (d : Draft) (k : Optional) (m : Mode) (ws : List Word) → arrive d ws (line_forms d k m) ≡ amid d (line_forms d k m)
begins_so d k first ws = refl
begins_so d k m ws = refl

-- if the text can't end here, the result is that of the next line
pub next_goes : (m : Mode) (k : Optional) (d : Draft) (t : Text) → takes_statement m ≡ false → outcome (between (passing k (at m d))) t ≡ then_on (line_at d (line_forms d k m) t)
unfolding outcome run step
next_goes m k d t amid_line = begun_so t.words t.stop ∙ ap (λ s. run s t.words t.stop) (sym (begins_so d k m t.words)) ∙ line_goes d (line_forms d k m) t.words t.stop
  where
    begun_so : (ws : List Word) (stop : Stop) → run (between (passing k (at m d))) ws stop ≡ run (amid d (line_forms d k m)) ws stop
    begun_so [] (ended p) = ap (λ b. cond b (Ok d) (Err (record { kind = Ended; place = p; expected = expected_form (line_forms d k m) }))) amid_line
    begun_so [] (bad p) = refl
    begun_so (w ∷ ws) stop = refl

-- if there is a next word, a line begins with it
pub word_goes : (m : Mode) (k : Optional) (d : Draft) (w : Word) (ws : List Word) (stop : Stop) → outcome (between (passing k (at m d))) (record { words = w ∷ ws; stop = stop }) ≡ then_on (line_at d (line_forms d k m) (record { words = w ∷ ws; stop = stop }))
unfolding outcome run step
word_goes m k d w ws stop = ap (λ s. run s (w ∷ ws) stop) (sym (begins_so d k m (w ∷ ws))) ∙ line_goes d (line_forms d k m) (w ∷ ws) stop

-- if two results are equal, then a fault of the second is a fault of the first
pub fails_so : {A Y : Type 0} (f : TextFault) (all mid : Result Y TextFault) → all ≡ mid → ⊥ ⊎ (mid ≡ Err f) → A ⊎ (all ≡ Err f)
fails_so f all mid e (inl h) = absurd h
fails_so f all mid e (inr h) = inr (e ∙ h)
