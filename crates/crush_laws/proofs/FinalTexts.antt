-- Proves that bytes are the text of a map if and only if the forms of their words lead to a map that is lawful in the end. Such a map was also lawful at the end of each line. A draft (`Draft`) is what the lines so far have built. A form (`Form`) says which words the rest of a line must have. A state (`State`) is a place in the text: between two lines, or in a line with the form of its rest.
use Rattle.std.proofs.Common.{◌≡◌, ℕ, true, false, List, [], ◌∷◌, refl, sym, subst}
use Rattle.std.specs.Prelude.{drop}
use Rattle.std.proofs.lemmas.Bool.{cond_both}
use Rattle.std.proofs.lemmas.List.Elements.{All-nil}
use Rattle.crush_model.specs.Table.{Row}
use Rattle.crush_model.specs.Lawful.{Lawful, HasParent}
use Rattle.crush_edits.specs.Setting.{SettingData}
use Rattle.crush_edits.specs.Fits.{Fits, IsThere}
use Rattle.crush_builder.specs.Built.{Draft}
use Rattle.crush_units.specs.Words.{Word, words, begins_with_key}
use Rattle.crush_text.specs.Role.{value}
use Rattle.crush_text.specs.Form.{Mode, first, second, begun, numbered, filling, ruled, Form, done, word, optional, ahead, passing, at}
use Rattle.crush_text.specs.Grammar.{next}
use Rattle.crush_text.specs.Flow.{State, between, amid, arrive, takes_statement}
use Rattle.crush_text.specs.Document.{IsMap, start}
use Rattle.crush_laws.specs.Admitted.{IsLawfulDraft, IsLawfulMode, LeadsFrom, WordLeads, IsLawfulState, Build}
use Rattle.crush_laws.specs.Final.{LeadTo}
use Rattle.crush_laws.specs.MapOrFlaw.{MapsAreTheLawfulEnds}
use Rattle.crush_laws.proofs.Admitted.{Possible}
use Rattle.crush_laws.proofs.Keeps.{each_map_is_lawful}
use Rattle.crush_laws.proofs.LawfulTexts.{MayEnd, may_end, maps_are_the_lawful_texts}
use Rattle.crush_laws.proofs.EarlierLines.{idle_draft, line_back}
use Rattle.crush_laws.proofs.EarlierTables.{IsLoose}
use Rattle.crush_laws.proofs.Shapes.{Shape, IsShaped, Shapes, shapes_lines}
use Rattle.crush_text.specs.declared.expected.Optional.TheVariants.{Nothing}

-- WHAT THE WORDS KEEP: the property `Shape`
-- the draft so far has the shape, and so has each draft that the rest of the line can build
abbrev HasShape : State → Type 0
HasShape (between p) = IsShaped (passing Nothing p)
HasShape (amid d f) = Shapes d f

-- if a form keeps the shape, the state in which this form is due has the shape
arrives_shaped : (d : Draft) (rest : List Word) (f : Form) → Shapes d f → HasShape (arrive d rest f)
arrives_shaped d rest (done p) h = h
arrives_shaped d rest (word r more) h = h
arrives_shaped d rest (optional k f g) h = cond_both (begins_with_key k rest) (arrive d rest f) (arrive d rest g) HasShape (λ _. arrives_shaped d rest f h.0) (λ _. arrives_shaped d rest g h.1)
arrives_shaped d rest (ahead k f g) h = cond_both (begins_with_key k (drop 1 rest)) (arrive d rest f) (arrive d rest g) HasShape (λ _. arrives_shaped d rest f h.0) (λ _. arrives_shaped d rest g h.1)

-- each state to which a word leads has the shape
form_shaped : (d : Draft) (f : Form) (w : List ℕ) (rest : List Word) (u : State) → Shapes d f → LeadsFrom d f w rest u → HasShape u
form_shaped d (word r more) w rest u k h = subst HasShape (sym h.1) (arrives_shaped d rest (more (value d r w)) (k w h.0))
form_shaped d (done p) w rest u k h = absurd h
form_shaped d (optional c f g) w rest u k h = absurd h
form_shaped d (ahead c f g) w rest u k h = absurd h

-- the same in the middle of a line and between two lines
word_shaped : (s : State) (w : List ℕ) (rest : List Word) (u : State) → HasShape s → WordLeads s w rest u → HasShape u
word_shaped (between p) w rest u k h = form_shaped p.draft (next p) w rest u (shapes_lines p.draft k.tied p.mode p.passed k.stage) h
word_shaped (amid d f) w rest u k h = form_shaped d f w rest u k h

-- FROM THE END BACKWARDS: if the map is lawful in the end, it was lawful at the end of each line
-- after the last line nothing is pending, so the draft is lawful
whole_lawful : (d : Draft) (mode : Mode) → takes_statement mode ≡ true → Shape mode d → IsMap d → IsLawfulDraft d × IsLawfulMode d mode
whole_lawful d first idle s m = (idle_draft d s.0 m, tt)
whole_lawful d second idle s m = (idle_draft d s m, tt)
whole_lawful d begun idle s m = let no : false ≡ true = idle in absurd cc
whole_lawful d numbered idle s m = let no : false ≡ true = idle in absurd cc
whole_lawful d (filling any) idle s m = let no : false ≡ true = idle in absurd cc
whole_lawful d (ruled r) idle s m = let no : false ≡ true = idle in absurd cc

-- if a word leads to a state whose line may end lawfully, then the form that was due before may end lawfully
form_before : (d : Draft) (f : Form) (w : List ℕ) (rest : List Word) (u : State) → LeadsFrom d f w rest u → MayEnd u → Possible d f
form_before d (word r more) w rest u h e = (w, h.0, may_end d rest (more (value d r w)) (subst MayEnd h.1 e))
form_before d (done p) w rest u h e = absurd h
form_before d (optional k f g) w rest u h e = absurd h
form_before d (ahead k f g) w rest u h e = absurd h

-- the same between two lines and in the middle of a line
state_before : (s : State) (w : List ℕ) (rest : List Word) (u : State) → HasShape s → WordLeads s w rest u → MayEnd u → MayEnd s
state_before (between p) w rest u k h e = line_back p.draft k.tied p.mode p.passed k.stage (form_before p.draft (next p) w rest u h e)
state_before (amid d f) w rest u k h e = form_before d f w rest u h e

-- a state whose line may end lawfully is lawful if it is at the end of a line
ended_lawful : (s : State) → MayEnd s → IsLawfulState s
ended_lawful (between p) h = h
ended_lawful (amid d f) h = tt

-- from the last word backwards, all lines end lawfully
led_back : (s : State) (ws : List Word) (e : Draft) → HasShape s → LeadTo s ws e → IsMap e → MayEnd s × Build s ws e
led_back (between p) [] e k h m = (whole_lawful p.draft p.mode h.1 k.stage (subst IsMap (sym h.0) m), h)
led_back (amid d f) [] e k h m = absurd h
led_back (between p) (w ∷ ws) e k h m = let rest = led_back h.0 ws e (word_shaped (between p) w.text ws h.0 k h.1) h.2 m in (state_before (between p) w.text ws h.0 k h.1 rest.0, (h.0, h.1, ended_lawful h.0 rest.0, rest.1))
led_back (amid d f) (w ∷ ws) e k h m = let rest = led_back h.0 ws e (word_shaped (amid d f) w.text ws h.0 k h.1) h.2 m in (state_before (amid d f) w.text ws h.0 k h.1 rest.0, (h.0, h.1, ended_lawful h.0 rest.0, rest.1))

-- words that build a draft lead to this draft
built_leads : (s : State) (ws : List Word) (e : Draft) → Build s ws e → LeadTo s ws e
built_leads s [] e h = h
built_leads s (w ∷ ws) e h = (h.0, h.1, built_leads h.0 ws e h.3)

-- the state before the first word has the shape
start_shaped : HasShape start
start_shaped = record {
  tied = record { parents = All-nil (HasParent []); loose = All-nil IsLoose; taken = All-nil (IsThere []) };
  stage = (refl, λ _. record { unruled = refl; devices = All-nil (λ (r : Row). r.kind ≡ 0) });
}

-- the two definitions describe the same texts
pub maps_are_the_lawful_ends : MapsAreTheLawfulEnds
maps_are_the_lawful_ends bytes s t n = (
  λ x.
      let text = (maps_are_the_lawful_texts bytes s t n).0 x in
      let map = each_map_is_lawful bytes s t n x in
      record {
        draft = text.draft;
        led = built_leads start (words 0 bytes).words text.draft text.built;
        end = text.end;
        setting = text.setting;
        table = text.table;
        count = text.count;
        lawful = map.0;
        fits = map.1;
      },
  λ x.
      let map : IsMap x.draft = record { lawful = subst Lawful (sym x.table) x.lawful; fits = subst (λ (q : SettingData). Fits q x.draft.table) (sym x.setting) (subst (Fits s) (sym x.table) x.fits) } in
      (maps_are_the_lawful_texts bytes s t n).1 (record { draft = x.draft; built = (led_back start (words 0 bytes).words x.draft start_shaped x.led map).1; end = x.end; setting = x.setting; table = x.table; count = x.count }),
)
