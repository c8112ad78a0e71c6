-- Which places are reached without a fault, and how reading goes from line to line.
use Rattle.std.proofs.Common.{◌≡◌, ℕ, Bool, true, false, cond, List, [], ◌∷◌, Result, Ok, Err, refl, sym, ap, subst, ◌∙◌, inl, inr}
use Rattle.std.specs.Prelude.{drop, not, if◌then◌else◌}
use Rattle.crush_builder.specs.Built.{Draft}
use Rattle.crush_builder.specs.Building.{BuilderData}
use Rattle.crush_units.specs.Words.{Word, Stop, ended, bad, Text, begins, begins_with_key, past}
use Rattle.crush_text.specs.declared.fault.TextFaultKind.{TextFaultKind}
use Rattle.crush_text.specs.declared.fault.TextFaultKind.TheVariants.{Unexpected, OutOfMemory}
use Rattle.crush_text.specs.declared.fault.TextFault.{TextFault}
use Rattle.crush_text.specs.Role.{Role, El, key}
use Rattle.crush_text.specs.declared.expected.Expected.{Expected}
use Rattle.crush_text.specs.declared.expected.Expected.TheVariants.{Memory}
use Rattle.crush_text.specs.declared.expected.Optional.{Optional}
use Rattle.crush_text.specs.Expected.{expected}
use Rattle.crush_text.specs.Form.{Mode, first, Progress, at, passing, Form, done, word, optional, ahead}
use Rattle.crush_text.specs.Grammar.{line_forms}
use Rattle.crush_text.specs.Tests.{◌when◌, unless, word_for}
use Rattle.crush_text.specs.Flow.{State, ◌>>=◌, placed, between, amid, arrive, step, takes_statement, outcome, Reaches}
use Rattle.crush_text.specs.Flaw.{IsOutOfMemory}
use Rattle.crush_text.specs.Reads.{and_rest, next_of, next_at, word_at, line_at, then_on, LeadsOn, Fails, FailsIn}
use Rattle.crush_text.specs.ReadsWords.{StoodAt}
use Rattle.crush_text.specs.ReadsLines.{Ending, Goes}
use Rattle.crush_text.proofs.LineByLine.{line_goes, next_goes}

-- the state after a word that has no fault
stepped : (d : Draft) (r : Role) (more : El r → Form) (v : El r) (w : List ℕ) (ws : List Word) → word_for d r w ≡ Ok v → step (amid d (word r more)) w ws ≡ Ok (arrive d ws (more v))
unfolding step
stepped d r more v w ws e = ap (λ j. j >>= λ x. Ok (arrive d ws (more x))) e

-- a word that was read, and its value
record Taken (d : Draft) (r : Role) (v : El r) (t rest : Text) : Type 0 where
  pub word : Word
  pub words : t.words ≡ word ∷ rest.words
  pub value : word_for d r word.text ≡ Ok v

taken : (d : Draft) (r : Role) (v : El r) (t rest : Text) → word_at d r t ≡ Ok (v, rest) → Taken d r v t rest
unfolding word_at next_at
taken d r v t rest e = by_words t.words t.stop refl e
  where
    by_value : (w : Word) (ws : List Word) (stop : Stop) → t.words ≡ w ∷ ws → (j : Result (El r) TextFaultKind) → word_for d r w.text ≡ j → (placed w.place (expected r) j >>= and_rest (record { words = ws; stop = stop })) ≡ Ok (v, rest) → Taken d r v t rest
    by_value w ws stop is (Ok x) k e =
        let same : (let y : El r × Text = (x, record { words = ws; stop = stop }) in y) ≡ (v, rest) = cc in
        record { word = w; words = is ∙ ap (λ (y : El r × Text). w ∷ y.1.words) same; value = k ∙ ap (λ (y : El r × Text). Ok y.0) same }
    by_value w ws stop is (Err f) k e = absurd cc

    by_words : (ws : List Word) (stop : Stop) → t.words ≡ ws → (next_of (expected r) ws stop >>= λ x. placed x.0.place (expected r) (word_for d r x.0.text) >>= and_rest x.1) ≡ Ok (v, rest) → Taken d r v t rest
    by_words [] (ended p) is e = absurd cc
    by_words [] (bad p) is e = absurd cc
    by_words (w ∷ ws) stop is e = by_value w ws stop is (word_for d r w.text) refl e

-- the place of a word that was read
stood : (e : Expected) (t rest : Text) (p : ℕ) (w : Word) (ws : List Word) → t.words ≡ w ∷ ws → StoodAt e t rest p → p ≡ w.place
unfolding next_at
stood e t rest p w ws is h = by_it (ap (λ l. next_of e l t.stop) (sym is) ∙ h.1)
  where
    by_it : next_of e (w ∷ ws) t.stop ≡ Ok (record { place = p; text = h.0 }, rest) → p ≡ w.place
    by_it same_ok = let same : (let y : Word × Text = (w, record { words = ws; stop = t.stop }) in y) ≡ (record { place = p; text = h.0 }, rest) = cc in sym (ap (λ (y : Word × Text). y.0.place) same)

-- if a key is the next word, then it can be read
pub key_taken : (d : Draft) (k : List ℕ) (t : Text) → true ≡ begins k t → word_at d (key k) t ≡ Ok (tt, past t)
unfolding word_at next_at
key_taken d k t e = by_words t.words t.stop e
  where
    by_words : (ws : List Word) (stop : Stop) → true ≡ begins_with_key k ws → (next_of (expected (key k)) ws stop >>= λ x. placed x.0.place (expected (key k)) (word_for d (key k) x.0.text) >>= and_rest x.1) ≡ Ok (tt, record { words = drop 1 ws; stop = stop })
    by_words [] stop e = absurd cc
    by_words (w ∷ ws) stop e = ap (λ b. placed w.place (expected (key k)) (unless ((Unexpected when not b) ∷ []) tt) >>= and_rest (record { words = ws; stop = stop })) (sym e)

-- an optional part is read if its key is the next word; then the key is read first
pub part_taken : (d : Draft) (k : List ℕ) (f g : Form) (t rest : Text) (b : Bool) → b ≡ begins k t → rest ≡ (if b then past t else t) → line_at d (optional k (word (key k) (λ _. f)) g) t ≡ (if b then line_at d f rest else line_at d g rest)
unfolding line_at
part_taken d k f g t rest true e is = ap (λ c. if c then line_at d (word (key k) (λ _. f)) t else line_at d g t) (sym e) ∙ ap (λ q. q >>= λ x. line_at d f x.1) (key_taken d k t e) ∙ ap (λ u. line_at d f u) (sym is)
part_taken d k f g t rest false e is = ap (λ c. if c then line_at d (word (key k) (λ _. f)) t else line_at d g t) (sym e) ∙ ap (λ u. line_at d g u) (sym is)

-- A WORD that was read without a fault is reached
pub reaches_word : (d : Draft) (r : Role) (more : El r → Form) (v : El r) (e : Expected) (t rest stop : Text) (p : ℕ) → word_at d r t ≡ Ok (v, rest) → StoodAt e t stop p → Reaches p (arrive d t.words (word r more)) t.words
reaches_word d r more v due t rest stop p e h =
    let k = taken d r v t rest e in
    subst (λ (ws : List Word). Reaches p (amid d (word r more)) ws) (sym k.words) (_, stepped d r more v k.word.text rest.words k.value, inl (stood due t stop p k.word rest.words k.words h))

-- if a word was read without a fault, then each place that is reached after the word is also reached from before it
pub reaches_on : (d : Draft) (r : Role) (more : El r → Form) (v : El r) (t rest : Text) (p : ℕ) → word_at d r t ≡ Ok (v, rest) → Reaches p (arrive d rest.words (more v)) rest.words → Reaches p (arrive d t.words (word r more)) t.words
reaches_on d r more v t rest p e h =
    let k = taken d r v t rest e in
    subst (λ (ws : List Word). Reaches p (amid d (word r more)) ws) (sym k.words) (_, stepped d r more v k.word.text rest.words k.value, inr h)

-- a place is reached in an optional part if it is reached in the form that was chosen
pub reaches_part : (d : Draft) (k : List ℕ) (f g : Form) (t : Text) (b : Bool) (p : ℕ) → b ≡ begins k t → Reaches p (if b then arrive d t.words f else arrive d t.words g) t.words → Reaches p (arrive d t.words (optional k f g)) t.words
reaches_part d k f g t b p e h = subst (λ (c : Bool). Reaches p (if c then arrive d t.words f else arrive d t.words g) t.words) e h

-- the same if the key of the optional part is read
pub reaches_taken : (d : Draft) (k : List ℕ) (f g : Form) (t rest : Text) (b : Bool) (p : ℕ) → b ≡ begins k t → rest ≡ (if b then past t else t) → Reaches p (if b then arrive d rest.words f else arrive d rest.words g) rest.words
    → Reaches p (arrive d t.words (optional k (word (key k) (λ _. f)) g)) t.words
reaches_taken d k f g t rest true p e is h = reaches_part d k (word (key k) (λ _. f)) g t true p e (reaches_on d (key k) (λ _. f) tt t (past t) p (key_taken d k t e) (subst (λ (u : Text). Reaches p (arrive d u.words f) u.words) is h))
reaches_taken d k f g t rest false p e is h = reaches_part d k (word (key k) (λ _. f)) g t false p e (subst (λ (u : Text). Reaches p (arrive d u.words g) u.words) is h)

-- a place is reached in the one of two forms that was read
either_reaches : (b : Bool) (d : Draft) (f g : Form) (q : Progress) (t rest : Text) (p : ℕ) → cond b (line_at d f t) (line_at d g t) ≡ Ok (q, rest) → (line_at d f t ≡ Ok (q, rest) → Reaches p (arrive d t.words f) t.words) → (line_at d g t ≡ Ok (q, rest) → Reaches p (arrive d t.words g) t.words)
    → Reaches p (cond b (arrive d t.words f) (arrive d t.words g)) t.words
either_reaches true d f g q t rest p e x y = x e
either_reaches false d f g q t rest p e x y = y e

-- A LINE that was read: each place that is reached after the line is also reached from the line's beginning
reaches_behind : (d : Draft) (f : Form) (q : Progress) (t rest : Text) (p : ℕ) → line_at d f t ≡ Ok (q, rest) → Reaches p (between q) rest.words → Reaches p (arrive d t.words f) t.words
unfolding line_at
reaches_behind d (done x) q t rest p e h =
    let same : (let y : Progress × Text = (x, t) in y) ≡ (q, rest) = cc in
    subst (λ (y : Progress × Text). Reaches p (between y.0) y.1.words) (sym same) h
reaches_behind d (word r more) q t rest p e h = by_word (word_at d r t) refl e (λ v u go. reaches_behind d (more v) q u rest p go h)
  where
    by_word : (j : Result (El r × Text) TextFault) → word_at d r t ≡ j → (j >>= λ x. line_at d (more x.0) x.1) ≡ Ok (q, rest)
        → ((v : El r) (u : Text) → line_at d (more v) u ≡ Ok (q, rest) → Reaches p (arrive d u.words (more v)) u.words) → Reaches p (amid d (word r more)) t.words
    by_word (Ok x) k e go = reaches_on d r more x.0 t x.1 p k (go x.0 x.1 e)
    by_word (Err f) k e go = absurd cc
reaches_behind d (optional k f g) q t rest p e h = either_reaches (begins_with_key k t.words) d f g q t rest p e (λ a. reaches_behind d f q t rest p a h) (λ a. reaches_behind d g q t rest p a h)
reaches_behind d (ahead k f g) q t rest p e h = either_reaches (begins_with_key k (drop 1 t.words)) d f g q t rest p e (λ a. reaches_behind d f q t rest p a h) (λ a. reaches_behind d g q t rest p a h)

pub line_leads : (d : Draft) (f : Form) (q : Progress) (t rest : Text) → line_at d f t ≡ Ok (q, rest) → LeadsOn (arrive d t.words f) t (between q) rest
unfolding outcome
line_leads d f q t rest e = record { same = line_goes d f t.words t.stop ∙ ap then_on e; reaches = λ p h. reaches_behind d f q t rest p e h }

-- if the text can't end here, reading leads to the next line
pub next_leads : (m : Mode) (k : Optional) (d : Draft) (t : Text) → takes_statement m ≡ false → LeadsOn (between (passing k (at m d))) t (arrive d t.words (line_forms d k m)) t
unfolding outcome step
next_leads m k d t amid_line = record { same = next_goes m k d t amid_line ∙ sym (line_goes d (line_forms d k m) t.words t.stop); reaches = λ p h. by_mode m t.words p h }
  where
    by_words : (n : Mode) (ws : List Word) (p : ℕ) → Reaches p (amid d (line_forms d k n)) ws → Reaches p (between (passing k (at n d))) ws
    by_words n [] p h = h
    by_words n (w ∷ ws) p h = h

    by_mode : (n : Mode) (ws : List Word) (p : ℕ) → Reaches p (arrive d ws (line_forms d k n)) ws → Reaches p (between (passing k (at n d))) ws
    by_mode first ws p h = by_words first ws p h
    by_mode n ws p h = by_words n ws p h

-- if reading leads from s to m, and from m to n, then it leads from s to n
pub leads_then : (s m n : State) (t u v : Text) → LeadsOn s t m u → LeadsOn m u n v → LeadsOn s t n v
leads_then s m n t u v a b = record { same = a.same ∙ b.same; reaches = λ p h. a.reaches p (b.reaches p h) }

pub no_words : (s : State) (t : Text) → LeadsOn s t s t
no_words s t = record { same = refl; reaches = λ p h. h }

-- the fault OutOfMemory at a place that is reached
pub out_of_memory_here : (f : TextFault) (p : ℕ) (s : State) (ws : List Word) → f ≡ record { kind = OutOfMemory; place = p; expected = Memory } → Reaches p s ws → IsOutOfMemory f × Reaches f.place s ws
out_of_memory_here f p s ws e h = (ap (λ (x : TextFault). x.kind) e, subst (λ (q : ℕ). Reaches q s ws) (sym (ap (λ (x : TextFault). x.place) e)) h)

-- a fault after words without a fault is also the fault of all these words
pub fails_then : (f : TextFault) (s m : State) (t u : Text) → LeadsOn s t m u → Fails f m u → Fails f s t
fails_then f s m t u a (inl h) = inl (h.0, a.reaches f.place h.1)
fails_then f s m t u a (inr h) = inr (a.same ∙ h)

-- the same for the fault of a line
pub fails_line : (f : TextFault) (d : Draft) (g : Form) (t : Text) → FailsIn f d g t → Fails f (arrive d t.words g) t
unfolding outcome
fails_line f d g t (inl h) = inl h
fails_line f d g t (inr h) = inr (line_goes d g t.words t.stop ∙ ap then_on h)

-- the result of a method that reads on where an earlier method stopped
pub goes_on : {X : Type 0} (m : X → Ending) (r : Result X TextFault) (b : BuilderData) (rest : Text) (s n : State) (t u : Text) → LeadsOn s t n u → Goes m r b rest n u → Goes m r b rest s t
goes_on m (Ok x) b rest s n t u a h = (h.0, h.1, leads_then s n _ t u rest a h.2)
goes_on m (Err f) b rest s n t u a h = fails_then f s n t u a h
