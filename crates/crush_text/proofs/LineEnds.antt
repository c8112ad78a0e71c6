-- Reads lines word by word, and says what the builder is after its method was called at the end of a line.
use Rattle.std.proofs.Common.{◌≡◌, ◌⊎◌, ℕ, Bool, true, false, List, [], ◌∷◌, Result, Ok, Err, Some, refl, sym, ap, subst, ◌∙◌, inr}
use Rattle.std.specs.Prelude.{codes, if◌then◌else◌}
use Rattle.crush_builder.specs.Built.{Draft, Pending, nothing, with_kind, with_tunable, with_device, with_class_id}
use Rattle.crush_builder.specs.Building.{BuilderData, IsDraft}
use Rattle.crush_units.specs.Words.{Word, Text, begins, is_brace_word}
use Rattle.crush_units.specs.declared.limits.TheConstants.{LARGEST_TUNABLE}
use Rattle.crush_text.specs.declared.fault.TextFaultKind.TheVariants.{Unexpected}
use Rattle.crush_text.specs.declared.fault.TextFault.{TextFault}
use Rattle.crush_text.specs.Role.{Role, El, value, key, any_word, number, tunable_name, type_number, type_name, device_id, new_name, bucket_id, id_class}
use Rattle.crush_text.specs.declared.expected.Expected.TheVariants as expect
use Rattle.crush_text.specs.Expected.{expected}
use Rattle.crush_text.specs.Form.{first, numbered, at, Form, done, word, optional}
use Rattle.crush_text.specs.Grammar.{tunable_line, type_line, device_line, device_class, class_id_line}
use Rattle.crush_text.specs.Tests.{Test, ◌when◌, a_word, word_tests, unless, word_for}
use Rattle.crush_text.specs.Flow.{◌>>=◌, placed}
use Rattle.crush_text.specs.Reads.{and_rest, next_at, word_at, line_at}
use Rattle.crush_text.specs.ReadsLines.{IsIdle, IsAmid}

-- a line that doesn't change the incomplete bucket leaves the builder between two statements
pub still_idle : (old new : BuilderData) (d e : Draft) → old.pending ≡ nothing → IsDraft old d → IsDraft new e → e.pending ≡ d.pending → IsIdle new
still_idle old new d e idle before after same = record { part = after.pending ∙ same ∙ sym before.pending ∙ idle; some = (e, after) }

-- an unchanged builder still represents the same drafts
pub still : {b c : BuilderData} {d : Draft} → c ≡ b → IsDraft b d → IsDraft c d
still {d = d} e h = subst (λ (x : BuilderData). IsDraft x d) (sym e) h

pub still_amid : {test : Pending → Bool} {b c : BuilderData} → c ≡ b → IsAmid test b → IsAmid test c
still_amid {test = test} e h = subst (IsAmid test) (sym e) h

-- if there is no next word, reading it in any role gives the same fault
pub next_fails : (d : Draft) (r : Role) (t : Text) (f : TextFault) → next_at (expected r) t ≡ Err f → word_at d r t ≡ Err f
unfolding word_at
next_fails d r t f h = ap (λ q. q >>= λ x. placed x.0.place (expected r) (word_for d r x.0.text) >>= and_rest x.1) h

-- if reading any word except a brace fails, so does reading a word in a role that has this test first
pub operand_fails : (d : Draft) (r : Role) (t : Text) (f : TextFault) → ((w : List ℕ) → (more : List Test) × (word_tests d r w ≡ a_word w more)) → word_at d (any_word (expected r)) t ≡ Err f → word_at d r t ≡ Err f
unfolding word_at
operand_fails d r t f words h = by_word (next_at (expected r) t) h
  where
    by_brace : (b : Bool) (w : Word) (rest : Text) (more : List Test) → (placed w.place (expected r) (unless ((Unexpected when b) ∷ []) w.text) >>= and_rest rest) ≡ Err f → (placed w.place (expected r) (unless ((Unexpected when b) ∷ more) (value d r w.text)) >>= and_rest rest) ≡ Err f
    by_brace true w rest more e = let k : record { kind = Unexpected; place = w.place; expected = expected r } ≡ f = cc in ap (λ (x : TextFault). Err x) k
    by_brace false w rest more e = absurd cc

    by_word : (q : Result (Word × Text) TextFault) → (q >>= λ x. placed x.0.place (expected r) (word_for d (any_word (expected r)) x.0.text) >>= and_rest x.1) ≡ Err f → (q >>= λ x. placed x.0.place (expected r) (word_for d r x.0.text) >>= and_rest x.1) ≡ Err f
    by_word (Err g) e = let k : g ≡ f = cc in ap (λ (x : TextFault). Err x) k
    by_word (Ok x) e = let j = words x.0.text in
        ap (λ ts. placed x.0.place (expected r) (unless ts (value d r x.0.text)) >>= and_rest x.1) j.1 ∙ by_brace (is_brace_word x.0.text) x.0 x.1 j.0 e

-- if the first word of a line is at fault, then reading the line gives this fault
pub word_err : (d : Draft) (r : Role) (more : El r → Form) (t : Text) (f : TextFault) → word_at d r t ≡ Err f → line_at d (word r more) t ≡ Err f
unfolding line_at
word_err d r more t f h = ap (λ q. q >>= λ x. line_at d (more x.0) x.1) h

pub word_fails : {A : Type 0} (d : Draft) (r : Role) (more : El r → Form) (t : Text) (f : TextFault) → word_at d r t ≡ Err f → A ⊎ (line_at d (word r more) t ≡ Err f)
word_fails d r more t f h = inr (word_err d r more t f h)

-- reading a line is reading its first word, and then the form that depends on the word's value
pub word_reads : (d : Draft) (r : Role) (more : El r → Form) (v : El r) (t rest : Text) → word_at d r t ≡ Ok (v, rest) → line_at d (word r more) t ≡ line_at d (more v) rest
unfolding line_at
word_reads d r more v t rest is = ap (λ q. q >>= λ x. line_at d (more x.0) x.1) is

-- an optional part is read if and only if its key is the next word
pub part_reads : (d : Draft) (k : List ℕ) (f g : Form) (t : Text) (b : Bool) → b ≡ begins k t → line_at d (optional k f g) t ≡ (if b then line_at d f t else line_at d g t)
unfolding line_at
part_reads d k f g t b e = ap (λ (c : Bool). if c then line_at d f t else line_at d g t) (sym e)

-- the words of a tunable's line
pub tunable_reads : (d : Draft) (x : List ℕ) (n : ℕ) (t t1 t2 : Text) → word_at d tunable_name t ≡ Ok (x, t1) → word_at d (number LARGEST_TUNABLE) t1 ≡ Ok (n, t2) → line_at d (tunable_line d) t ≡ Ok (at first (with_tunable d x n), t2)
unfolding line_at
tunable_reads d x n t t1 t2 a b = rw (a, b) refl

-- the words of a type's line
pub type_reads : (d : Draft) (n : ℕ) (x : List ℕ) (t t1 t2 : Text) → word_at d type_number t ≡ Ok (n, t1) → word_at d (type_name n) t1 ≡ Ok (x, t2) → line_at d (type_line d) t ≡ Ok (at first (with_kind d n x), t2)
unfolding line_at
type_reads d n x t t1 t2 a b = rw (a, b) refl

-- the words of a device's line, up to its class
pub device_reads : (d : Draft) (n : ℕ) (x : List ℕ) (t t1 t2 : Text) → word_at d device_id t ≡ Ok (n, t1) → word_at d new_name t1 ≡ Ok (x, t2) → line_at d (device_line d) t ≡ line_at d (device_class d n x) t2
unfolding line_at
device_reads d n x t t1 t2 a b = rw (a, b) refl

-- the class of a device, after the key `class`
pub class_reads : (d : Draft) (n : ℕ) (x c : List ℕ) (t rest : Text) → word_at d (any_word expect.Class) t ≡ Ok (c, rest) → line_at d (word (any_word expect.Class) (λ y. done (at first (with_device d n x (Some y))))) t ≡ Ok (at first (with_device d n x (Some c)), rest)
unfolding line_at
class_reads d n x c t rest is = ap (λ q. q >>= λ y. Ok (at first (with_device d n x (Some y.0)), y.1)) is

-- the words of a class id's line
pub class_id_reads : (d : Draft) (b : ℕ) (c : List ℕ) (t t1 t2 t3 : Text) → word_at d bucket_id t ≡ Ok (b, t1) → word_at d (key (codes "class")) t1 ≡ Ok (tt, t2) → word_at d id_class t2 ≡ Ok (c, t3) → line_at d (class_id_line d) t ≡ Ok (at numbered (with_class_id d b c), t3)
unfolding line_at
class_id_reads d b c t t1 t2 t3 x y z = rw (x, y, z) refl
