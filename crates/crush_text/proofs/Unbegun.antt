-- The fault of a text if there is no memory even for an empty map.
use Rattle.std.proofs.Common.{◌≡◌, ℕ, Bool, true, false, List, [], ◌∷◌, Result, Ok, Err, refl, sym, ap, subst, ◌∙◌, inl, inr}
use Rattle.std.specs.Prelude.{not, ◌||◌, if◌then◌else◌, bytes_eq, codes}
use Rattle.crush_builder.specs.Built.{empty_draft}
use Rattle.crush_units.specs.Words.{Text, first as first_word, stopped, ended, bad}
use Rattle.crush_text.specs.declared.fault.TextFaultKind.{TextFaultKind}
use Rattle.crush_text.specs.declared.fault.TextFaultKind.TheVariants.{BadWord, Unexpected, UnknownType, LeftOut, TooMany, OutOfMemory}
use Rattle.crush_text.specs.declared.fault.TextFault.{TextFault}
use Rattle.crush_text.specs.declared.statement_kind.StatementKind.{StatementKind}
use Rattle.crush_text.specs.declared.expected.Expected.TheVariants as expect
use Rattle.crush_text.specs.declared.expected.Optional.TheVariants.{Nothing}
use Rattle.crush_text.specs.Role.{opening, opened}
use Rattle.crush_text.specs.Grammar.{statement}
use Rattle.crush_text.specs.Tests.{◌when◌, unless, word_for, is_out_of_place}
use Rattle.crush_text.specs.Flow.{◌>>=◌, placed, arrive, step, Reaches}
use Rattle.crush_text.specs.Document.{start}
use Rattle.crush_text.specs.ReadsStatements.{FailsText, FailsFirst, opens_alone}
use Rattle.crush_text.proofs.FirstWords.{opening_err, opening_bad}

-- the result of a first word: o says that it is out of place, k that it begins something that isn't supported, and s that it begins a statement
abbrev verdict : Bool → Bool → Bool → StatementKind → Result StatementKind TextFaultKind
verdict o k s v = if o then Err Unexpected else (if k then Err LeftOut else (if s then Ok v else Err UnknownType))

-- the result of the tests of a first word, if no type is declared and there is room for each kind of statement
judged : (o a b c r k : Bool) (v : StatementKind)
    → unless ((Unexpected when o) ∷ (UnknownType when not ((a || (b || c)) || ((r || k) || false))) ∷ (LeftOut when k) ∷ (TooMany when (if a then false else (if b then false else (if c then false else (if r then false else false))))) ∷ []) v ≡ verdict o k ((a || (b || c)) || r) v
judged true a b c r k v = refl
judged false true b c r k v = refl
judged false false true c r k v = refl
judged false false false true r k v = refl
judged false false false false true k v = refl
judged false false false false false true v = refl
judged false false false false false false v = refl

-- this is the result of the tests of a first word in an empty map
word_judged : (w : List ℕ) → word_for empty_draft (opening false Nothing) w ≡ verdict (is_out_of_place false w) (bytes_eq w (codes "choose_args")) (opens_alone w) (opened empty_draft w)
word_judged w = judged (is_out_of_place false w) (bytes_eq w (codes "tunable")) (bytes_eq w (codes "device")) (bytes_eq w (codes "type")) (bytes_eq w (codes "rule")) (bytes_eq w (codes "choose_args")) (opened empty_draft w)

-- if the first word is at fault, then its fault is the fault of the text
pub first_fails : (place : ℕ) (w : List ℕ) (o k s : Bool) (f : TextFaultKind) → is_out_of_place false w ≡ o → bytes_eq w (codes "choose_args") ≡ k → opens_alone w ≡ s → verdict o k s (opened empty_draft w) ≡ Err f
    → FailsFirst (record { kind = f; place = place; expected = expect.Statement false Nothing }) place w
first_fails place w o k s f a b c e = inr (ap (placed place (expect.Statement false Nothing)) (word_judged w ∙ (λ i. verdict (a i) (b i) (c i) (opened empty_draft w)) ∙ e))

-- if the first word isn't at fault, then the fault is OutOfMemory at this word
pub first_memory : (place : ℕ) (w : List ℕ) → is_out_of_place false w ≡ false → bytes_eq w (codes "choose_args") ≡ false → opens_alone w ≡ true → FailsFirst (record { kind = OutOfMemory; place = place; expected = expect.Memory }) place w
first_memory place w a b c = inl (refl, refl, (opened empty_draft w, word_judged w ∙ (λ i. verdict (a i) (b i) (c i) (opened empty_draft w))))

-- the fault of the first word is that of the text
pub text_unopened : (t rest : Text) (place : ℕ) (w : List ℕ) (f : TextFault) → t ≡ first_word place w rest → FailsFirst f place w → FailsText f t
unfolding step
text_unopened t rest place w f is (inl (want, here, (o, e))) =
    inl (want, inl (subst (λ (u : Text). Reaches f.place start u.words) (sym is) (_, ap (λ j. j >>= λ v. Ok (arrive empty_draft rest.words (statement empty_draft v))) e, inl here)))
text_unopened t rest place w f is (inr e) = inr (opening_err empty_draft (record { late = false; or = Nothing }) t rest place w f is (sym e))

-- if the text has no words, then the fault is OutOfMemory at its end
pub text_empty : (t : Text) (place : ℕ) → t ≡ stopped (ended place) → FailsText (record { kind = OutOfMemory; place = place; expected = expect.Memory }) t
text_empty t place is = inl (refl, inr is)

-- if the text begins with a bad byte or a word that is too long, then the fault is BadWord there
pub text_bad : (t : Text) (place : ℕ) → t ≡ stopped (bad place) → FailsText (record { kind = BadWord; place = place; expected = expect.Statement false Nothing }) t
text_bad t place is = inr (opening_bad empty_draft (record { late = false; or = Nothing }) t place is)
