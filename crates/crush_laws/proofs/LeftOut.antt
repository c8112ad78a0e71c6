-- Proves that the optional part which a line has left out doesn't matter to the words that lead on from the end of this line. A draft (`Draft`) is what the lines so far have built. A form (`Form`) says which words the rest of a line must have. A state (`State`) is a place in the text: between two lines, or in a line with the form of its rest.
use Rattle.std.proofs.Common.{◌≡◌, ℕ, Bool, List, [], ◌∷◌, refl, sym, subst}
use Rattle.crush_builder.specs.Built.{Draft}
use Rattle.crush_units.specs.Words.{Word}
use Rattle.crush_text.specs.declared.expected.Optional.{Optional}
use Rattle.crush_text.specs.declared.expected.Optional.TheVariants.{Nothing}
use Rattle.crush_text.specs.Role.{opening, item_or_end, step_or_end}
use Rattle.crush_text.specs.Form.{Mode, first, second, begun, numbered, filling, ruled, passing}
use Rattle.crush_text.specs.Grammar.{line_forms}
use Rattle.crush_text.specs.declared.fault.TextFaultKind.{TextFaultKind}
use Rattle.crush_text.specs.declared.fault.TextFaultKind.TheVariants.{Unexpected}
use Rattle.crush_text.specs.Rows.{Holds, IsRight}
use Rattle.crush_text.specs.Flow.{State, between, amid}
use Rattle.crush_text.specs.Document.{IsWhole}
use Rattle.crush_laws.specs.Admitted.{LeadsFrom, WordLeads}
use Rattle.crush_laws.specs.Final.{LeadTo}

-- a state without its note of which optional part the last line has left out
abbrev pub forget : State → State
forget (between p) = between (passing Nothing p)
forget (amid d f) = amid d f

-- a word that leads on from one of two such modes leads on from the other
line_so : (d : Draft) (j k : Optional) (m : Mode) (w : List ℕ) (rest : List Word) (u : State) → LeadsFrom d (line_forms d j m) w rest u → LeadsFrom d (line_forms d k m) w rest u
line_so d j k first w rest u h = h
line_so d j k second w rest u h = h
line_so d j k begun w rest u h = h
line_so d j k numbered w rest u h = h
line_so d j k (filling any) w rest u h = h
line_so d j k (ruled r) w rest u h = h

forgets : (s : State) (w : List ℕ) (rest : List Word) (u : State) → WordLeads s w rest u → WordLeads (forget s) w rest u
forgets (between p) w rest u h = line_so p.draft p.passed Nothing p.mode w rest u h
forgets (amid d f) w rest u h = h

recalls : (s : State) (w : List ℕ) (rest : List Word) (u : State) → WordLeads (forget s) w rest u → WordLeads s w rest u
recalls (between p) w rest u h = line_so p.draft Nothing p.passed p.mode w rest u h
recalls (amid d f) w rest u h = h

-- a word that leads on from one of two states that are otherwise the same leads on from the other
pub word_so : (s m : State) (w : List ℕ) (rest : List Word) (u : State) → forget s ≡ forget m → WordLeads m w rest u → WordLeads s w rest u
word_so s m w rest u is h = recalls s w rest u (subst (λ (x : State). WordLeads x w rest u) (sym is) (forgets m w rest u h))

whole_forgets : (s : State) (e : Draft) → IsWhole s e → IsWhole (forget s) e
whole_forgets (between p) e h = h
whole_forgets (amid d f) e h = h

whole_recalls : (s : State) (e : Draft) → IsWhole (forget s) e → IsWhole s e
whole_recalls (between p) e h = h
whole_recalls (amid d f) e h = h

-- the text may end in both states or in neither
pub whole_so : (s m : State) (e : Draft) → forget s ≡ forget m → IsWhole m e → IsWhole s e
whole_so s m e is h = whole_recalls s e (subst (λ (x : State). IsWhole x e) (sym is) (whole_forgets m e h))

-- words that lead on from one of the states lead on from the other
pub lead_so : (s m : State) (ws : List Word) (e : Draft) → forget s ≡ forget m → LeadTo m ws e → LeadTo s ws e
lead_so s m [] e is h = whole_so s m e is h
lead_so s m (w ∷ ws) e is h = (h.0, word_so s m w.text ws h.0 is h.1, h.2)

-- THE FIRST WORD of a line has the same fault, whatever was left out before
opening_fault : (d : Draft) (late : Bool) (j k : Optional) (w : List ℕ) (f : TextFaultKind) → Holds f d (opening late k) w → Holds f d (opening late j) w
opening_fault d late j k w Unexpected h = h
opening_fault d late j k w f h = h

pub opening_right : (d : Draft) (late : Bool) (j k : Optional) (w : List ℕ) → IsRight d (opening late j) w → IsRight d (opening late k) w
opening_right d late j k w h f g = h f (opening_fault d late j k w f g)

item_fault : (d : Draft) (any : Bool) (j k : Optional) (w : List ℕ) (f : TextFaultKind) → Holds f d (item_or_end any k) w → Holds f d (item_or_end any j) w
item_fault d any j k w Unexpected h = h
item_fault d any j k w f h = h

pub item_or_end_right : (d : Draft) (any : Bool) (j k : Optional) (w : List ℕ) → IsRight d (item_or_end any j) w → IsRight d (item_or_end any k) w
item_or_end_right d any j k w h f g = h f (item_fault d any j k w f g)

step_fault : (d : Draft) (n : ℕ) (j k : Optional) (w : List ℕ) (f : TextFaultKind) → Holds f d (step_or_end n k) w → Holds f d (step_or_end n j) w
step_fault d n j k w Unexpected h = h
step_fault d n j k w f h = h

pub step_or_end_right : (d : Draft) (n : ℕ) (j k : Optional) (w : List ℕ) → IsRight d (step_or_end n j) w → IsRight d (step_or_end n k) w
step_or_end_right d n j k w h f g = h f (step_fault d n j k w f g)
