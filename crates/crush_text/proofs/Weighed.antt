-- An item of a bucket, with a weight or without one: its words, and the result of its line.
use Rattle.std.proofs.Common.{◌≡◌, ℕ, Bool, true, false, cond, List, [], ◌∷◌, Option, None, Result, Ok, Err, refl, sym, ap, subst, ◌∙◌, inl, inr}
use Rattle.std.specs.Prelude.{not, codes, is_some, Some, if◌then◌else◌}
use Rattle.std.specs.Option.{ok_or}
use Rattle.crush_units.specs.declared.id.ItemId.{ItemId}
use Rattle.crush_units.specs.Weight.{weight_of_text}
use Rattle.crush_model.specs.Table.{is_placed}
use Rattle.crush_model.specs.Lawful.{is_too_heavy}
use Rattle.crush_builder.specs.Built.{Draft, with_next_item}
use Rattle.crush_builder.specs.Building.{BuilderData, item_named}
use Rattle.crush_builder.specs.declared.fault.BuildFault.{BuildFault}
use Rattle.crush_builder.specs.declared.fault.BuildFault.TheVariants as build
use Rattle.crush_units.specs.Words.{Word, Stop, ended, bad, Text, is_brace_word, begins, past}
use Rattle.crush_text.specs.declared.fault.TextFaultKind.{TextFaultKind}
use Rattle.crush_text.specs.declared.fault.TextFaultKind.TheVariants.{Unexpected, BadWeight, UnknownItem, SecondParent, SumTooLarge}
use Rattle.crush_text.specs.declared.fault.TextFault.{TextFault}
use Rattle.crush_text.specs.Role.{Role, El, item_of, units, key, item, lone_item, item_or_end, weight}
use Rattle.crush_text.specs.declared.expected.Expected.{Expected}
use Rattle.crush_text.specs.declared.expected.Expected.TheVariants as expect
use Rattle.crush_text.specs.declared.expected.Optional.{Optional}
use Rattle.crush_text.specs.declared.expected.Optional.TheVariants.{Nothing, Weight}
use Rattle.crush_text.specs.Expected.{is_device, expected}
use Rattle.crush_text.specs.Form.{filling, at, passing, Form, done, word}
use Rattle.crush_text.specs.Grammar.{item_weight_line, weighed_item, weightless_item, item_line, item_or_brace, line_forms}
use Rattle.crush_text.specs.Tests.{is_weight_for, word_for}
use Rattle.crush_text.specs.Flow.{◌>>=◌, placed, arrive, Reaches}
use Rattle.crush_text.specs.Reads.{parsed_weight, unless_heavy, and_rest, next_of, next_at, word_at, line_at, FailsIn}
use Rattle.crush_text.specs.ReadsLines.{Adds, LineGoes}
use Rattle.crush_text.proofs.Reached.{reaches_word, reaches_on, key_taken}

-- the result of a weight, after the sums are tested with the item in the bucket
abbrev with_weight : Draft → ItemId → Result ℕ TextFaultKind → Result ℕ TextFaultKind
with_weight d i r = r >>= λ x. if is_too_heavy (with_next_item d i (Some x)).table then Err SumTooLarge else Ok x

-- the word of a weight is first tested by itself, and then the sums are tested with the item in the bucket
own_then : (d : Draft) (i : ItemId) (w : List ℕ) → word_for d (weight i) w ≡ with_weight d i (parsed_weight d i w)
own_then d i w = by_tests (is_brace_word w) (not (is_weight_for i (weight_of_text w)))
  where
    by_tests : (a b : Bool) → cond a (Err Unexpected) (cond b (Err BadWeight) (cond (is_too_heavy (with_next_item d i (Some (units w))).table) (Err SumTooLarge) (Ok (units w)))) ≡ with_weight d i (cond a (Err Unexpected) (cond b (Err BadWeight) (Ok (units w))))
    by_tests true b = refl
    by_tests false true = refl
    by_tests false false = refl

-- the result of an item's name without a weight, after the sums are tested with the item in the bucket
abbrev without_weight : Draft → Result ItemId TextFaultKind → Result ItemId TextFaultKind
without_weight d r = r >>= λ i. if is_too_heavy (with_next_item d i None).table then Err SumTooLarge else Ok i

-- the name of an item without a weight is first tested like the name of any item, and then the sums are tested with the item in the bucket
lone_then : (d : Draft) (w : List ℕ) → word_for d lone_item w ≡ without_weight d (word_for d item w)
lone_then d w = by_tests (is_brace_word w) (not (is_some (item_named d w))) (is_placed d.table (item_of d w))
  where
    by_tests : (a b c : Bool) → cond a (Err Unexpected) (cond b (Err UnknownItem) (cond c (Err SecondParent) (cond (is_too_heavy (with_next_item d (item_of d w) None).table) (Err SumTooLarge) (Ok (item_of d w)))))
        ≡ without_weight d (cond a (Err Unexpected) (cond b (Err UnknownItem) (cond c (Err SecondParent) (Ok (item_of d w)))))
    by_tests true b c = refl
    by_tests false true c = refl
    by_tests false false true = refl
    by_tests false false false = refl

-- a result without a fault is the same after a place was added
pub told_ok : {A : Type 0} (p : ℕ) (due : Expected) (x : A) (r : Result A TextFaultKind) → Ok x ≡ placed p due r → r ≡ Ok x
told_ok {A = A} p due x (Ok y) e = let k : x ≡ y = cc in ap (λ (z : A). Ok z) (sym k)
told_ok p due x (Err f) e = absurd cc

-- a fault, with its place, is also the fault of a computation that goes on after it
told_err : {A B : Type 0} (p : ℕ) (due : Expected) (f : TextFault) (r : Result A TextFaultKind) (go : A → Result B TextFaultKind) → Err f ≡ placed p due r → placed p due (r >>= go) ≡ Err f
told_err p due f (Ok y) go e = absurd cc
told_err p due f (Err g) go e = let k : f ≡ record { kind = g; place = p; expected = due } = cc in ap (λ (x : TextFault). Err x) (sym k)

-- the item with this name, as the builder returns it
pub some_named : (o : Option ItemId) (i : ItemId) → Ok i ≡ ok_or o build.UnknownItem → Some i ≡ o
some_named (Some j) i e = let k : i ≡ j = cc in ap Some k
some_named None i e = absurd (let no : ◌≡◌ {A = Result ItemId BuildFault} (Ok i) (Err build.UnknownItem) = e in cc)

pub none_named : (o : Option ItemId) (f : BuildFault) → Err f ≡ ok_or o build.UnknownItem → None ≡ o
none_named (Some j) f e = absurd (let no : ◌≡◌ {A = Result ItemId BuildFault} (Err f) (Ok j) = e in cc)
none_named None f e = refl

-- THE NEXT WORD, and what follows it
pub past_word : (due : Expected) (t rest : Text) (w : Word) → next_at due t ≡ Ok (w, rest) → past t ≡ rest
unfolding next_at
past_word due t rest w e = by_words t.words t.stop e
  where
    by_words : (ws : List Word) (stop : Stop) → next_of due ws stop ≡ Ok (w, rest) → past (record { words = ws; stop = stop }) ≡ rest
    by_words [] (ended p) e = absurd cc
    by_words [] (bad p) e = absurd cc
    by_words (v ∷ ws) stop e = let k : (let x : Word × Text = (v, record { words = ws; stop = stop }) in x) ≡ (w, rest) = cc in ap (λ (x : Word × Text). x.1) k

-- if there is no next word, a line that begins with a word fails
form_err : (d : Draft) (r : _) (more : _) (t : Text) (f : TextFault) → next_at (expected r) t ≡ Err f → line_at d (word r more) t ≡ Err f
unfolding line_at word_at
form_err d r more t f h = ap (λ q. (q >>= λ x. placed x.0.place (expected r) (word_for d r x.0.text) >>= and_rest x.1) >>= λ x. line_at d (more x.0) x.1) h

-- reading a line is reading its first word, and then what the value of this word requires
form_goes : (d : Draft) (r : _) (more : _) (t rest : Text) (w : Word) → next_at (expected r) t ≡ Ok (w, rest) → line_at d (word r more) t ≡ (placed w.place (expected r) (word_for d r w.text) >>= λ x. line_at d (more x) rest)
unfolding line_at word_at
form_goes d r more t rest w n = ap (λ q. (q >>= λ x. placed x.0.place (expected r) (word_for d r x.0.text) >>= and_rest x.1) >>= λ x. line_at d (more x.0) x.1) n ∙ by_it (placed w.place (expected r) (word_for d r w.text))
  where
    by_it : (q : Result _ TextFault) → ((q >>= and_rest rest) >>= λ x. line_at d (more x.0) x.1) ≡ (q >>= λ x. line_at d (more x) rest)
    by_it (Ok x) = refl
    by_it (Err f) = refl

-- the value of a word that was read
value_at : (d : Draft) (r : Role) (v : El r) (t rest : Text) (w : Word) → next_at (expected r) t ≡ Ok (w, rest) → Ok v ≡ placed w.place (expected r) (word_for d r w.text) → word_at d r t ≡ Ok (v, rest)
unfolding word_at
value_at d r v t rest w n e = ap (λ q. q >>= λ x. placed x.0.place (expected r) (word_for d r x.0.text) >>= and_rest x.1) n ∙ ap (λ q. q >>= and_rest rest) (sym e)

-- the line of an item is the line with a weight or the line without one
item_is : (d : Draft) (t : Text) (b : Bool) → begins (codes "weight") (past t) ≡ b → line_at d (item_line d) t ≡ (if b then line_at d (weighed_item d) t else line_at d (weightless_item d) t)
unfolding line_at
item_is d t b e = ap (λ c. if c then line_at d (weighed_item d) t else line_at d (weightless_item d) t) e

-- whether `weight` follows the item's name
behind_name : (due : Expected) (t rest : Text) (w : Word) (b : Bool) → next_at due t ≡ Ok (w, rest) → b ≡ begins (codes "weight") rest → begins (codes "weight") (past t) ≡ b
behind_name due t rest w b n e = ap (begins (codes "weight")) (past_word due t rest w n) ∙ sym e

-- a fault of both lines is a fault of the item's line
both_err : (d : Draft) (t : Text) (f : TextFault) → line_at d (weighed_item d) t ≡ Err f → line_at d (weightless_item d) t ≡ Err f → line_at d (item_line d) t ≡ Err f
both_err d t f x y = by_it (begins (codes "weight") (past t)) refl
  where
    by_it : (b : Bool) → begins (codes "weight") (past t) ≡ b → line_at d (item_line d) t ≡ Err f
    by_it true e = item_is d t true e ∙ x
    by_it false e = item_is d t false e ∙ y

-- THE LINE of an item, after the word `item`: if there is no name
pub item_err : (d : Draft) (t : Text) (f : TextFault) → next_at expect.ItemName t ≡ Err f → FailsIn f d (item_line d) t
item_err d t f h = inr (both_err d t f (form_err d item _ t f h) (form_err d lone_item _ t f h))

-- if the name is at fault
pub item_fault : (d : Draft) (t rest : Text) (w : Word) (f : TextFault) → next_at expect.ItemName t ≡ Ok (w, rest) → Err f ≡ placed w.place expect.ItemName (word_for d item w.text) → FailsIn f d (item_line d) t
item_fault d t rest w f n e = inr (both_err d t f
    (form_goes d item (λ j. word (key (codes "weight")) (λ _. item_weight_line d j)) t rest w n ∙ ap (λ q. q >>= λ i. line_at d (word (key (codes "weight")) (λ _. item_weight_line d i)) rest) (sym e))
    (form_goes d lone_item (λ j. done (passing Weight (at (filling true) (with_next_item d j None)))) t rest w n ∙ ap (λ q. placed w.place expect.ItemName q >>= λ i. line_at d (done (passing Weight (at (filling true) (with_next_item d i None)))) rest) (lone_then d w.text)
    ∙ ap (λ q. q >>= λ i. line_at d (done (passing Weight (at (filling true) (with_next_item d i None)))) rest) (told_err w.place expect.ItemName f (word_for d item w.text) _ e)))

-- if `weight` follows the name
weighed_goes : (d : Draft) (t rest : Text) (w : Word) (i : ItemId) → next_at expect.ItemName t ≡ Ok (w, rest) → true ≡ begins (codes "weight") rest → Ok i ≡ placed w.place expect.ItemName (word_for d item w.text)
    → line_at d (item_line d) t ≡ line_at d (word (key (codes "weight")) (λ _. item_weight_line d i)) rest
weighed_goes d t rest w i n b e =
    item_is d t true (behind_name expect.ItemName t rest w true n b) ∙ form_goes d item (λ j. word (key (codes "weight")) (λ _. item_weight_line d j)) t rest w n ∙ ap (λ q. q >>= λ j. line_at d (word (key (codes "weight")) (λ _. item_weight_line d j)) rest) (sym e)

-- a place that is reached in the item's weight is reached in the item's line
reaches_weight : (d : Draft) (t rest : Text) (w : Word) (i : ItemId) (p : ℕ) → next_at expect.ItemName t ≡ Ok (w, rest) → true ≡ begins (codes "weight") rest → Ok i ≡ placed w.place expect.ItemName (word_for d item w.text)
    → Reaches p (arrive d (past rest).words (item_weight_line d i)) (past rest).words → Reaches p (arrive d t.words (item_line d)) t.words
reaches_weight d t rest w i p n b e h =
    subst (λ (c : Bool). Reaches p (if c then arrive d t.words (weighed_item d) else arrive d t.words (weightless_item d)) t.words) (sym (behind_name expect.ItemName t rest w true n b))
    (reaches_on d item (λ j. word (key (codes "weight")) (λ _. item_weight_line d j)) i t rest p (value_at d item i t rest w n e)
    (reaches_on d (key (codes "weight")) (λ _. item_weight_line d i) tt rest (past rest) p (key_taken d (codes "weight") rest b) h))

-- reading the weight of an item ends the item's line
pub weighed_reads : (d : Draft) (t rest two : Text) (w : Word) (i : ItemId) (r : Result (Unit {0}) TextFault) (b : BuilderData) (u : Text) → next_at expect.ItemName t ≡ Ok (w, rest) → true ≡ begins (codes "weight") rest → two ≡ past rest
    → Ok i ≡ placed w.place expect.ItemName (word_for d item w.text) → LineGoes (λ _. (filling true, Nothing)) r b u d (item_weight_line d i) two → LineGoes (λ _. (filling true, Nothing)) r b u d (item_line d) t
unfolding line_at
weighed_reads d t rest two w i r b u n k is e h = by_it r (subst (λ (x : Text). LineGoes (λ _. (filling true, Nothing)) r b u d (item_weight_line d i) x) is h)
  where
    goes : line_at d (item_line d) t ≡ line_at d (item_weight_line d i) (past rest)
    goes = weighed_goes d t rest w i n k e ∙ ap (λ q. q >>= λ x. line_at d (item_weight_line d i) x.1) (key_taken d (codes "weight") rest k)

    by_it : (q : Result (Unit {0}) TextFault) → LineGoes (λ _. (filling true, Nothing)) q b u d (item_weight_line d i) (past rest) → LineGoes (λ _. (filling true, Nothing)) q b u d (item_line d) t
    by_it (Ok x) h = (h.0, h.1, goes ∙ h.2)
    by_it (Err f) (inl h) = inl (h.0, reaches_weight d t rest w i f.place n k e h.1)
    by_it (Err f) (inr h) = inr (goes ∙ h)

-- putting an item into the bucket ends the item's line
added : (d : Draft) (i : ItemId) (w : Option ℕ) (p : ℕ) (due : Expected) (k : Optional) (rest : Text) (r : Result (Unit {0}) TextFault) (b : BuilderData) (g : Form) (t : Text) → line_at d g t ≡ (placed p due (unless_heavy (with_next_item d i w)) >>= λ e. Ok (passing k (at (filling true) e), rest))
    → (is_too_heavy (with_next_item d i w).table ≡ false → Reaches p (arrive d t.words g) t.words) → Adds r b (with_next_item d i w) p due (unless_heavy (with_next_item d i w)) → LineGoes (λ _. (filling true, k)) r b rest d g t
added d i w p due k rest (Ok x) b g t e reached h = (with_next_item d i w, h.0, e ∙ ap (λ q. placed p due q >>= λ y. Ok (passing k (at (filling true) y), rest)) h.1)
added d i w p due k rest (Err f) b g t e reached (inl h) = inl (h.0, subst (λ (q : ℕ). Reaches q (arrive d t.words g) t.words) (sym h.1) (reached h.2))
added d i w p due k rest (Err f) b g t e reached (inr h) = inr (e ∙ ap (λ q. q >>= λ y. Ok (passing k (at (filling true) y), rest)) h)

-- reading an item without a weight
pub lone_reads : (d : Draft) (t rest two : Text) (w : Word) (i : ItemId) (r : Result (Unit {0}) TextFault) (b : BuilderData) → next_at expect.ItemName t ≡ Ok (w, rest) → false ≡ begins (codes "weight") rest → two ≡ rest → Ok i ≡ placed w.place expect.ItemName (word_for d item w.text)
    → Adds r b (with_next_item d i None) w.place expect.ItemName (unless_heavy (with_next_item d i None)) → LineGoes (λ _. (filling true, Weight)) r b two d (item_line d) t
unfolding line_at
lone_reads d t rest two w i r b n none same e h = subst (λ (u : Text). LineGoes (λ _. (filling true, Weight)) r b u d (item_line d) t) (sym same) (
    added d i None w.place expect.ItemName Weight rest r b (item_line d) t
    (item_is d t false (behind_name expect.ItemName t rest w false n none) ∙ form_goes d lone_item (λ j. done (passing Weight (at (filling true) (with_next_item d j None)))) t rest w n
    ∙ ap (λ q. placed w.place expect.ItemName q >>= λ j. line_at d (done (passing Weight (at (filling true) (with_next_item d j None)))) rest) (lone_then d w.text ∙ ap (without_weight d) (told_ok w.place expect.ItemName i (word_for d item w.text) e))
    ∙ by_it (is_too_heavy (with_next_item d i None).table))
    reached h)
  where
    by_it : (c : Bool) → (placed w.place expect.ItemName (if c then Err SumTooLarge else Ok i) >>= λ j. line_at d (done (passing Weight (at (filling true) (with_next_item d j None)))) rest) ≡ (placed w.place expect.ItemName (if c then Err SumTooLarge else Ok (with_next_item d i None)) >>= λ e. Ok (passing Weight (at (filling true) e), rest))
    by_it true = refl
    by_it false = refl

    reached : is_too_heavy (with_next_item d i None).table ≡ false → Reaches w.place (arrive d t.words (item_line d)) t.words
    reached light =
        let told : Ok i ≡ placed w.place expect.ItemName (word_for d lone_item w.text) =
        ap (λ c. placed w.place expect.ItemName (if c then Err SumTooLarge else Ok i)) (sym light) ∙ ap (λ q. placed w.place expect.ItemName q) (sym (lone_then d w.text ∙ ap (without_weight d) (told_ok w.place expect.ItemName i (word_for d item w.text) e))) in
        subst (λ (c : Bool). Reaches w.place (if c then arrive d t.words (weighed_item d) else arrive d t.words (weightless_item d)) t.words) (sym (behind_name expect.ItemName t rest w false n none))
        (reaches_word d lone_item (λ j. done (passing Weight (at (filling true) (with_next_item d j None)))) i expect.ItemName t rest rest w.place (value_at d lone_item i t rest w n told) (w.text, n))

-- THE WEIGHT of an item: if there is no word for it
weight_err_so : (d : Draft) (i : ItemId) (t : Text) (f : TextFault) → next_at (expect.Weight (is_device i)) t ≡ Err f → FailsIn f d (item_weight_line d i) t
weight_err_so d i t f h = inr (form_err d (weight i) _ t f h)

-- if the word of the weight is at fault
weight_fault_so : (d : Draft) (i : ItemId) (t rest : Text) (w : Word) (f : TextFault) → next_at (expect.Weight (is_device i)) t ≡ Ok (w, rest) → Err f ≡ placed w.place (expect.Weight (is_device i)) (parsed_weight d i w.text) → FailsIn f d (item_weight_line d i) t
weight_fault_so d i t rest w f n e = inr (
    form_goes d (weight i) (λ x. done (at (filling true) (with_next_item d i (Some x)))) t rest w n ∙ ap (λ q. placed w.place (expect.Weight (is_device i)) q >>= λ x. line_at d (done (at (filling true) (with_next_item d i (Some x)))) rest) (own_then d i w.text)
    ∙ ap (λ q. q >>= λ x. line_at d (done (at (filling true) (with_next_item d i (Some x)))) rest) (told_err w.place (expect.Weight (is_device i)) f (parsed_weight d i w.text) _ e)
    )

-- if the item is put into the bucket with this weight
weight_reads_so : (d : Draft) (i : ItemId) (t rest : Text) (w : Word) (x : ℕ) (r : Result (Unit {0}) TextFault) (b : BuilderData) → next_at (expect.Weight (is_device i)) t ≡ Ok (w, rest) → Ok x ≡ placed w.place (expect.Weight (is_device i)) (parsed_weight d i w.text)
    → Adds r b (with_next_item d i (Some x)) w.place (expect.Weight (is_device i)) (unless_heavy (with_next_item d i (Some x))) → LineGoes (λ _. (filling true, Nothing)) r b rest d (item_weight_line d i) t
unfolding line_at
weight_reads_so d i t rest w x r b n e h =
    added d i (Some x) w.place (expect.Weight (is_device i)) Nothing rest r b (item_weight_line d i) t
    (form_goes d (weight i) (λ x. done (at (filling true) (with_next_item d i (Some x)))) t rest w n
    ∙ ap (λ q. placed w.place (expect.Weight (is_device i)) q >>= λ y. line_at d (done (at (filling true) (with_next_item d i (Some y)))) rest) (own_then d i w.text ∙ ap (with_weight d i) (told_ok w.place (expect.Weight (is_device i)) x (parsed_weight d i w.text) e))
    ∙ by_it (is_too_heavy (with_next_item d i (Some x)).table))
    reached h
  where
    by_it : (c : Bool) → (placed w.place (expect.Weight (is_device i)) (if c then Err SumTooLarge else Ok x) >>= λ y. line_at d (done (at (filling true) (with_next_item d i (Some y)))) rest) ≡ (placed w.place (expect.Weight (is_device i)) (if c then Err SumTooLarge else Ok (with_next_item d i (Some x))) >>= λ e. Ok (at (filling true) e, rest))
    by_it true = refl
    by_it false = refl

    reached : is_too_heavy (with_next_item d i (Some x)).table ≡ false → Reaches w.place (arrive d t.words (item_weight_line d i)) t.words
    reached light =
        let told : Ok x ≡ placed w.place (expect.Weight (is_device i)) (word_for d (weight i) w.text) =
        ap (λ c. placed w.place (expect.Weight (is_device i)) (if c then Err SumTooLarge else Ok x)) (sym light) ∙ ap (λ q. placed w.place (expect.Weight (is_device i)) q) (sym (own_then d i w.text ∙ ap (with_weight d i) (told_ok w.place (expect.Weight (is_device i)) x (parsed_weight d i w.text) e))) in
        reaches_word d (weight i) (λ y. done (at (filling true) (with_next_item d i (Some y)))) x (expect.Weight (is_device i)) t rest rest w.place (value_at d (weight i) x t rest w n told) (w.text, n)

-- the first word says whether an item is read or the closing brace ends the bucket
pub item_or_end_goes : (d : Draft) (any : Bool) (k : Optional) (more : Bool) (t rest : Text) → word_at d (item_or_end any k) t ≡ Ok (more, rest) → line_at d (line_forms d k (filling any)) t ≡ line_at d (item_or_brace d more) rest
unfolding line_at
item_or_end_goes d any k more t rest is = ap (λ q. q >>= λ x. line_at d (item_or_brace d x.0) x.1) is

-- a fault after this word is a fault of the line
pub item_or_end_fails : (f : TextFault) (d : Draft) (any : Bool) (k : Optional) (more : Bool) (t rest : Text) → word_at d (item_or_end any k) t ≡ Ok (more, rest) → FailsIn f d (item_or_brace d more) rest → FailsIn f d (line_forms d k (filling any)) t
item_or_end_fails f d any k more t rest is (inl h) = inl (h.0, reaches_on d (item_or_end any k) (item_or_brace d) more t rest f.place is h.1)
item_or_end_fails f d any k more t rest is (inr h) = inr (item_or_end_goes d any k more t rest is ∙ h)

-- the same, for an equal value of what is expected
pub weight_err : (d : Draft) (i : ItemId) (due : Expected) (t : Text) (f : TextFault) → due ≡ expect.Weight (is_device i) → next_at due t ≡ Err f → FailsIn f d (item_weight_line d i) t
weight_err d i due t f is h = weight_err_so d i t f (ap (λ (e : Expected). next_at e t) (sym is) ∙ h)

pub weight_fault : (d : Draft) (i : ItemId) (due : Expected) (t rest : Text) (w : Word) (f : TextFault) → due ≡ expect.Weight (is_device i) → next_at due t ≡ Ok (w, rest) → Err f ≡ placed w.place (expect.Weight (is_device i)) (parsed_weight d i w.text) → FailsIn f d (item_weight_line d i) t
weight_fault d i due t rest w f is n e = weight_fault_so d i t rest w f (ap (λ (e : Expected). next_at e t) (sym is) ∙ n) e

pub weight_reads : (d : Draft) (i : ItemId) (due : Expected) (t rest : Text) (w : Word) (x : ℕ) (r : Result (Unit {0}) TextFault) (b : BuilderData) → due ≡ expect.Weight (is_device i) → next_at due t ≡ Ok (w, rest) → Ok x ≡ placed w.place (expect.Weight (is_device i)) (parsed_weight d i w.text)
    → Adds r b (with_next_item d i (Some x)) w.place due (unless_heavy (with_next_item d i (Some x))) → LineGoes (λ _. (filling true, Nothing)) r b rest d (item_weight_line d i) t
weight_reads d i due t rest w x r b is n e h =
    weight_reads_so d i t rest w x r b (ap (λ (e : Expected). next_at e t) (sym is) ∙ n) e (subst (λ (k : Expected). Adds r b (with_next_item d i (Some x)) w.place k (unless_heavy (with_next_item d i (Some x)))) is h)
