-- Proves that the words of several lines lead from one draft to the next if the words of each line do; and that tunables are built in this way. A draft (`Draft`) is what the lines so far have built. A form (`Form`) says which words the rest of a line must have. A state (`State`) is a place in the text: between two lines, or in a line with the form of its rest.
use Rattle.std.proofs.Common.{◌≡◌, ℕ, ◌<◌, ◌≤◌, Bool, true, false, List, [], ◌∷◌, ◌++◌, length, refl, sym, ap, subst, ◌∙◌, append_assoc, append-nil, length-append, arith}
use Rattle.std.proofs.lemmas.Bool.Decides.{nat_tests}
use Rattle.std.proofs.lemmas.List.Elements.{All-nil, All-cons, All-head, All-tail}
use Rattle.std.proofs.lemmas.List.Sums.{sum_by-append, sum_by-cons}
use Rattle.std.specs.Prelude.{All, flat_map, nat_le, bytes_eq}
use Rattle.std.specs.List.{count_by, list_any}
use Rattle.crush_units.specs.declared.limits.TheConstants.{MOST_TUNABLES}
use Rattle.crush_model.specs.Count.{one_if}
use Rattle.crush_model.specs.Table.{Row}
use Rattle.crush_model.specs.Lawful.{Lawful}
use Rattle.crush_model.proofs.Tested.{bytes_itself}
use Rattle.crush_edits.specs.Setting.{TunableData, SettingData}
use Rattle.crush_edits.specs.Fits.{IsTunable, Fits}
use Rattle.crush_builder.specs.Built.{Draft, nothing}
use Rattle.crush_units.specs.Words.{begins_with_key}
use Rattle.crush_print.proofs.PrintedLines.{tunable_words}
use Rattle.crush_text.specs.Form.{first, at}
use Rattle.crush_text.specs.Flow.{State, between}
use Rattle.crush_text.specs.Document.{IsMap}
use Rattle.crush_laws.proofs.Allowed.{any_none}
use Rattle.crush_laws.specs.Admitted.{IsLawfulDraft}
use Rattle.crush_laws.proofs.Lawful.{map_with_tunable}
use Rattle.crush_laws.proofs.BuiltLines.{plain, Goes, goes_both, tunable_goes}
use Rattle.crush_laws.proofs.LeftOut.{forget}

-- the draft between two statements, if no weight was adjusted
abbrev pub quiet : SettingData → List Row → Draft
quiet s t = record { setting = s; table = t; pending = nothing; adjusted = 0 }

pub quiet_map : (s : SettingData) (t : List Row) → Lawful t → Fits s t → IsMap (quiet s t)
quiet_map s t l f = record { lawful = l; fits = f }

pub quiet_lawful : (s : SettingData) (t : List Row) → IsMap (quiet s t) → IsLawfulDraft (quiet s t)
quiet_lawful s t m = record { map = m; pending = tt }

-- WHAT LEADS ON: a property holds for the elements so far, and the words of each further element lead to the next state
pub record Led (I : Type 0) (s : State) (ws others : List (List ℕ)) (m : State) : Type 0 where
  pub holds : I
  pub goes : Goes s ws others m

module _ {X : Type 0} (words : X → List (List ℕ)) (state : List X → State) (I : List X → Type 0) (all : List X) (others : List (List ℕ)) where
  abbrev pub EachLeads : Type 0
  EachLeads = (front : List X) (x : X) (rest : List X) → front ++ x ∷ rest ≡ all → I front → Led (I (front ++ x ∷ [])) (state front) (words x) (flat_map words rest ++ others) (state (front ++ x ∷ []))

  pub each_goes : EachLeads → (front rest : List X) → front ++ rest ≡ all → I front → Led (I all) (state front) (flat_map words rest) others (state all)
  each_goes step front [] e i = let same : front ≡ all = sym (append-nil front) ∙ e in record { holds = subst I same i; goes = ap (λ z. forget (state z)) same }
  each_goes step front (x ∷ rest) e i =
      let k = step front x rest e i in
      let r = each_goes step (front ++ x ∷ []) rest (append_assoc front (x ∷ []) rest ∙ e) k.holds in
      record { holds = r.holds; goes = goes_both (state front) (words x) (flat_map words rest) others (state (front ++ x ∷ [])) (state all) k.goes r.goes }

-- WORDS THAT DON'T BEGIN with a given key
abbrev pub Avoids : List ℕ → List (List ℕ) → Type 0
Avoids k ws = begins_with_key k (plain ws) ≡ false

pub avoids_both : (k : List ℕ) (a b : List (List ℕ)) → Avoids k a → Avoids k b → Avoids k (a ++ b)
avoids_both k [] b f g = g
avoids_both k (w ∷ a) b f g = f

pub avoids_all : {X : Type 0} (k : List ℕ) (words : X → List (List ℕ)) (xs : List X) → ((x : X) → Avoids k (words x)) → Avoids k (flat_map words xs)
avoids_all k words [] h = refl
avoids_all k words (x ∷ xs) h = avoids_both k (words x) (flat_map words xs) (h x) (avoids_all k words xs h)

-- ELEMENTS THAT EXIST ONCE: no element of the same kind comes before one of them
pub none_before : {X : Type 0} (p : X → Bool) (front : List X) (x : X) (rest all : List X) → front ++ x ∷ rest ≡ all → count_by p all ≤ 1 → p x ≡ true → count_by p front ≡ 0
none_before p front x rest all e once h =
    let one : one_if (p x) ≡ 1 = ap one_if h in
    omega (arith, ap (count_by p) e, once, one, sum_by-append (λ y. one_if (p y)) front (x ∷ rest), sum_by-cons (λ y. one_if (p y)) x rest)

pub new_at : {X : Type 0} (p : X → Bool) (front : List X) (x : X) (rest all : List X) → front ++ x ∷ rest ≡ all → count_by p all ≤ 1 → p x ≡ true → list_any p front ≡ false
new_at p front x rest all e once h = any_none p front (none_before p front x rest all e once h)

pub shorter : {X : Type 0} (front : List X) (x : X) (rest all : List X) → front ++ x ∷ rest ≡ all → length front < length all
shorter front x rest all e = omega (arith, ap length e, length-append front (x ∷ rest))

pub has_room : (n m most : ℕ) → n < m → m ≤ most → nat_le most n ≡ false
has_room n m most lt le = grind (arith, nat_tests)

pub All-at : {X : Type 0} (P : X → Type 0) (front : List X) (x : X) (rest : List X) → All P (front ++ x ∷ rest) → P x
All-at P [] x rest a = All-head P x rest a
All-at P (y ∷ front) x rest a = All-at P front x rest (All-tail P y (front ++ x ∷ rest) a)

pub All-split : {X : Type 0} (P : X → Type 0) (all : List X) → ((front : List X) (x : X) (rest : List X) → front ++ x ∷ rest ≡ all → P x) → (front rest : List X) → front ++ rest ≡ all → All P rest
All-split P all each front [] e = All-nil P
All-split P all each front (x ∷ rest) e = All-cons P x rest (each front x rest e) (All-split P all each (front ++ x ∷ []) rest (append_assoc front (x ∷ []) rest ∙ e))

-- TUNABLES: their words lead from the empty map to the map that has them
abbrev pub tuned : List TunableData → SettingData
tuned ks = record { kinds = []; tunables = ks; rules = [] }

abbrev tuned_state : List TunableData → State
tuned_state ks = between (at first (quiet (tuned ks) []))

abbrev TunedMap : List TunableData → Type 0
TunedMap ks = IsMap (quiet (tuned ks) [])

module _ (all : List TunableData) (each : All IsTunable all) (once : (n : List ℕ) → count_by (λ (k : TunableData). bytes_eq k.name n) all ≤ 1) (few : length all ≤ MOST_TUNABLES) (others : List (List ℕ)) where
  tunable_leads : EachLeads tunable_words tuned_state TunedMap all others
  tunable_leads front k rest e m =
      let form = All-at IsTunable front k rest (subst (All IsTunable) (sym e) each) in
      let new = new_at (λ (x : TunableData). bytes_eq x.name k.name) front k rest all e (once k.name) (bytes_itself k.name) in
      let room = has_room (length front) (length all) MOST_TUNABLES (shorter front k rest all e) few in
      let more = map_with_tunable (quiet (tuned front) []) k.name k.value m form.name form.value new room in
      record { holds = more; goes = tunable_goes (quiet (tuned front) []) k.name k.value (flat_map tunable_words rest ++ others) form.value (quiet_lawful (tuned (front ++ k ∷ [])) [] more) }

  pub tunables_go : TunedMap [] → Led (TunedMap all) (tuned_state []) (flat_map tunable_words all) others (tuned_state all)
  tunables_go m = each_goes tunable_words tuned_state TunedMap all others tunable_leads [] all refl m
