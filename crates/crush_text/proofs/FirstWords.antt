-- The first word of a statement, or the end of the text where this word could come.
use Rattle.std.proofs.Common.{◌≡◌, ℕ, Bool, true, false, List, Option, Some, None, Ok, Err, refl, sym, ap, subst, ◌∙◌, inr}
use Rattle.crush_builder.specs.Built.{Draft}
use Rattle.crush_builder.specs.Building.{BuilderData}
use Rattle.crush_units.specs.Words.{Text, first as first_word, stopped, ended, bad}
use Rattle.crush_text.specs.declared.fault.TextFaultKind.TheVariants.{BadWord}
use Rattle.crush_text.specs.declared.fault.TextFault.{TextFault}
use Rattle.crush_text.specs.declared.statement_kind.StatementKind.{StatementKind}
use Rattle.crush_text.specs.declared.expected.Expected.TheVariants as expect
use Rattle.crush_text.specs.declared.reader.statement.Before.{Before}
use Rattle.crush_text.specs.Role.{opening}
use Rattle.crush_text.specs.Form.{at}
use Rattle.crush_text.specs.Grammar.{statement, line_forms}
use Rattle.crush_text.specs.Tests.{word_for}
use Rattle.crush_text.specs.Flow.{◌>>=◌, between, placed, arrive, step, run, outcome, Reaches}
use Rattle.crush_text.specs.Reads.{and_rest, next_at, word_at, line_at, then_on, LeadsOn}
use Rattle.crush_text.specs.ReadsLines.{IsIdle, TakesLinesOf, ending}
use Rattle.crush_text.specs.ReadsStatements.{mode_behind, behind}
use Rattle.crush_text.proofs.LineByLine.{word_goes, line_goes}
use Rattle.crush_text.proofs.Weighed.{told_ok}

-- an option that isn't `Some x` for any x is `None`
pub none_there : {X : Type 0} (o : Option X) → ((x : X) → o ≡ Some x → ⊥) → o ≡ None
none_there None other = refl
none_there (Some x) other = absurd (other x refl)

-- between two statements, the next word is the first word of a statement
first_goes : (d : Draft) (b : Before) (t rest : Text) (place : ℕ) (text : List ℕ) → t ≡ first_word place text rest
    → outcome (between (ending (behind b) d)) t ≡ then_on ((placed place (expect.Statement b.late b.or) (word_for d (opening b.late b.or) text) >>= and_rest rest) >>= λ x. line_at d (statement d x.0) x.1)
unfolding line_at word_at next_at
first_goes d b t rest place text is = ap (outcome (between (ending (behind b) d))) is ∙ word_goes (mode_behind b.late) b.or d (record { place = place; text = text }) rest.words rest.stop ∙ by_mode b.late
  where
    by_mode : (c : Bool) → then_on (line_at d (line_forms d b.or (mode_behind c)) (first_word place text rest)) ≡ then_on ((placed place (expect.Statement c b.or) (word_for d (opening c b.or) text) >>= and_rest rest) >>= λ x. line_at d (statement d x.0) x.1)
    by_mode true = refl
    by_mode false = refl

-- if this word begins a statement, the result of the text is that of the statement, followed by the rest of the text
pub opening_ok : (d : Draft) (b : Before) (t rest : Text) (place : ℕ) (text : List ℕ) (o : StatementKind) → t ≡ first_word place text rest → Ok o ≡ placed place (expect.Statement b.late b.or) (word_for d (opening b.late b.or) text)
    → outcome (between (ending (behind b) d)) t ≡ then_on (line_at d (statement d o) rest)
opening_ok d b t rest place text o is e = first_goes d b t rest place text is ∙ ap (λ q. then_on ((q >>= and_rest rest) >>= λ x. line_at d (statement d x.0) x.1)) (sym e)

-- such a word leads to the state in which the rest of its statement is required
pub opening_leads : (d : Draft) (b : Before) (t rest : Text) (place : ℕ) (text : List ℕ) (o : StatementKind) → t ≡ first_word place text rest → Ok o ≡ placed place (expect.Statement b.late b.or) (word_for d (opening b.late b.or) text)
    → LeadsOn (between (ending (behind b) d)) t (arrive d rest.words (statement d o)) rest
unfolding outcome step
opening_leads d b t rest place text o is e = record {
  same = opening_ok d b t rest place text o is e ∙ sym (line_goes d (statement d o) rest.words rest.stop);
  reaches = λ p h. subst (λ (u : Text). Reaches p (between (ending (behind b) d)) u.words) (sym is) (by_mode b.late (told_ok place (expect.Statement b.late b.or) o (word_for d (opening b.late b.or) text) e) p h);
}
  where
    by_mode : (c : Bool) → word_for d (opening c b.or) text ≡ Ok o → (p : ℕ) → Reaches p (arrive d rest.words (statement d o)) rest.words → Reaches p (between (ending (mode_behind c, b.or) d)) (first_word place text rest).words
    by_mode true e p h = (_, ap (λ j. j >>= λ v. Ok (arrive d rest.words (statement d v))) e, inr h)
    by_mode false e p h = (_, ap (λ j. j >>= λ v. Ok (arrive d rest.words (statement d v))) e, inr h)

-- if this word has a fault, then the fault is the result of the text
pub opening_err : (d : Draft) (b : Before) (t rest : Text) (place : ℕ) (text : List ℕ) (f : TextFault) → t ≡ first_word place text rest → Err f ≡ placed place (expect.Statement b.late b.or) (word_for d (opening b.late b.or) text)
    → outcome (between (ending (behind b) d)) t ≡ Err f
opening_err d b t rest place text f is e = first_goes d b t rest place text is ∙ ap (λ q. then_on ((q >>= and_rest rest) >>= λ x. line_at d (statement d x.0) x.1)) (sym e)

-- between two statements the text may end
pub opening_end : (d : Draft) (b : Before) (t : Text) (place : ℕ) → t ≡ stopped (ended place) → outcome (between (ending (behind b) d)) t ≡ Ok d
unfolding run outcome
opening_end d b t place is = ap (outcome (between (ending (behind b) d))) is ∙ by_mode b.late
  where
    by_mode : (c : Bool) → outcome (between (ending (mode_behind c, b.or) d)) (stopped (ended place)) ≡ Ok d
    by_mode true = refl
    by_mode false = refl

-- if the text has a bad byte or a word that is too long here, then this is the fault of the text
pub opening_bad : (d : Draft) (b : Before) (t : Text) (place : ℕ) → t ≡ stopped (bad place) → outcome (between (ending (behind b) d)) t ≡ Err (record { kind = BadWord; place = place; expected = expect.Statement b.late b.or })
unfolding run outcome
opening_bad d b t place is = ap (outcome (between (ending (behind b) d))) is ∙ by_mode b.late
  where
    by_mode : (c : Bool) → outcome (between (ending (mode_behind c, b.or) d)) (stopped (bad place)) ≡ Err (record { kind = BadWord; place = place; expected = expect.Statement c b.or })
    by_mode true = refl
    by_mode false = refl

-- after a statement the builder is between two statements
pub idle_behind : (late : Bool) (b : BuilderData) → TakesLinesOf (mode_behind late) b → IsIdle b
idle_behind true b h = h
idle_behind false b h = h
