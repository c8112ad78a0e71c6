-- Proves that words that are spelled word by word are spelled line by line.
use Rattle.std.proofs.Common.{false, length, ◌≡◌, ◌⊎◌, ℕ, zero, suc, true, List, [], ◌∷◌, ◌++◌, refl, sym, subst, inl, inr}
use Rattle.std.proofs.lemmas.Bool.{cond_both}
use Rattle.std.specs.Prelude.{drop}
use Rattle.crush_builder.specs.Built.{Draft}
use Rattle.crush_units.specs.Words.{Word, texts, begins_with_key}
use Rattle.crush_text.specs.Role.{value}
use Rattle.crush_text.specs.Form.{Mode, first, second, begun, numbered, filling, ruled, Progress, passing, Form, done, word, optional, ahead}
use Rattle.crush_text.specs.Grammar.{line_forms, next}
use Rattle.crush_text.specs.Flow.{State, between, amid, arrive, takes_statement}
use Rattle.crush_text.specs.Document.{SpellsForm, Spell, IsWhole}
use Rattle.crush_text.specs.Rows.{IsRight}
use Rattle.crush_text.specs.declared.expected.Optional.{Optional}
use Rattle.crush_text.specs.declared.expected.Optional.TheVariants.{Nothing}
use Rattle.crush_laws.proofs.LeftOut.{opening_right, item_or_end_right, step_or_end_right}

-- A LINE, and the words after it: each word of the line is right, and each optional part is either present or left out. Which part was left out is then forgotten
abbrev pub Line : Draft → Form → List (List ℕ) → List (List ℕ) → Progress → Type 0
Line d (done q) ws v p = (ws ≡ v) × (passing Nothing q ≡ p)
Line d (word r more) ws v p = (w : List ℕ) × (us : List (List ℕ)) × (ws ≡ w ∷ us) × IsRight d r w × Line d (more (value d r w)) us v p
Line d (optional k f g) ws v p = Line d f ws v p ⊎ Line d g ws v p
Line d (ahead k f g) ws v p = Line d f ws v p ⊎ Line d g ws v p

-- LINES: the words are so many lines, up to the end of the text
abbrev pub Lines : ℕ → Progress → List (List ℕ) → Draft → Type 0
Lines zero p ws e = (ws ≡ []) × (p.draft ≡ e) × (takes_statement p.mode ≡ true)
Lines (suc n) p ws e = (v : List (List ℕ)) × (q : Progress) × Line p.draft (next p) ws v q × Lines n q v e

-- the words are the rest of a line, followed by further lines
abbrev Rest : Draft → Form → List (List ℕ) → Draft → Type 0
Rest d f ws e = (v : List (List ℕ)) × (q : Progress) × (n : ℕ) × Line d f ws v q × Lines n q v e

abbrev pub LinesFrom : State → List (List ℕ) → Draft → Type 0
LinesFrom (between p) ws e = (n : ℕ) × Lines n p ws e
LinesFrom (amid d f) ws e = Rest d f ws e

-- the optional part that a line has left out doesn't matter to the next lines
line_forgets : (d : Draft) (k : Optional) (m : Mode) (ws v : List (List ℕ)) (q : Progress) → Line d (line_forms d k m) ws v q → Line d (line_forms d Nothing m) ws v q
line_forgets d k first ws v q h = (h.0, h.1, h.2, opening_right d false k Nothing h.0 h.3, h.4)
line_forgets d k second ws v q h = (h.0, h.1, h.2, opening_right d true k Nothing h.0 h.3, h.4)
line_forgets d k begun ws v q h = h
line_forgets d k numbered ws v q h = h
line_forgets d k (filling any) ws v q h = (h.0, h.1, h.2, item_or_end_right d any k Nothing h.0 h.3, h.4)
line_forgets d k (ruled r) ws v q h = (h.0, h.1, h.2, step_or_end_right d (length r.steps) k Nothing h.0 h.3, h.4)

lines_forget : (n : ℕ) (p : Progress) (ws : List (List ℕ)) (e : Draft) → Lines n p ws e → Lines n (passing Nothing p) ws e
lines_forget zero p ws e h = h
lines_forget (suc n) p ws e h = (h.0, h.1, line_forgets p.draft p.passed p.mode ws h.0 h.1 h.2, h.3)

arrived : (d : Draft) (rest : List Word) (f : Form) (ws : List (List ℕ)) (e : Draft) → LinesFrom (arrive d rest f) ws e → Rest d f ws e
arrived d rest (done p) ws e h = (ws, passing Nothing p, h.0, (refl, refl), lines_forget h.0 p ws e h.1)
arrived d rest (word r more) ws e h = h
arrived d rest (optional k f g) ws e h = cond_both (begins_with_key k rest) (arrive d rest f) (arrive d rest g) (λ s. LinesFrom s ws e → Rest d (optional k f g) ws e)
    (λ _. λ x. let y = arrived d rest f ws e x in (y.0, y.1, y.2, inl y.3, y.4)) (λ _. λ x. let y = arrived d rest g ws e x in (y.0, y.1, y.2, inr y.3, y.4)) h
arrived d rest (ahead k f g) ws e h = cond_both (begins_with_key k (drop 1 rest)) (arrive d rest f) (arrive d rest g) (λ s. LinesFrom s ws e → Rest d (ahead k f g) ws e)
    (λ _. λ x. let y = arrived d rest f ws e x in (y.0, y.1, y.2, inl y.3, y.4)) (λ _. λ x. let y = arrived d rest g ws e x in (y.0, y.1, y.2, inr y.3, y.4)) h

-- a word before the rest of a line is part of this line
before : (d : Draft) (f : Form) (w : List ℕ) (ws : List (List ℕ)) (rest : List Word) (u : State) (e : Draft) → SpellsForm d f w rest u → LinesFrom u ws e → Rest d f (w ∷ ws) e
before d (word r more) w ws rest u e h k =
    let y = arrived d rest (more (value d r w)) ws e (subst (λ (s : State). LinesFrom s ws e) h.1 k) in
    (y.0, y.1, y.2, (w, ws, refl, h.0, y.3), y.4)
before d (done p) w ws rest u e h k = absurd h
before d (optional c f g) w ws rest u e h k = absurd h
before d (ahead c f g) w ws rest u e h k = absurd h

whole_lines : (s : State) (e : Draft) → IsWhole s e → LinesFrom s [] e
whole_lines (between p) e h = (0, (refl, h.0, h.1))
whole_lines (amid d f) e h = absurd h

pub spelled_lines : (s : State) (ws : List Word) (last : State) (e : Draft) → Spell s ws [] last → IsWhole last e → LinesFrom s (texts ws) e
spelled_lines s [] last e h whole = whole_lines s e (subst (λ (x : State). IsWhole x e) (sym h) whole)
spelled_lines (between p) (w ∷ ws) last e h whole =
    let y = before p.draft (next p) w.text (texts ws) (ws ++ []) h.0 e h.1 (spelled_lines h.0 ws last e h.2 whole) in
    (suc y.2, (y.0, y.1, y.3, y.4))
spelled_lines (amid d f) (w ∷ ws) last e h whole = before d f w.text (texts ws) (ws ++ []) h.0 e h.1 (spelled_lines h.0 ws last e h.2 whole)

-- lines that are spelled from one progress are spelled from an equal one
pub along : (n : ℕ) (p q : Progress) (ws : List (List ℕ)) (e : Draft) → p ≡ q → Lines n q ws e → Lines n p ws e
along n p q ws e is h = subst (λ (x : Progress). Lines n x ws e) (sym is) h
