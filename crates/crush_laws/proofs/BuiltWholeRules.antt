-- Proves that the printed lines of rules lead from a map without rules to the map that has them. A bucket that a rule takes is found by its printed name.
use Rattle.std.proofs.Common.{◌≡◌, ℕ, ◌<◌, ◌^◌, Bool, true, false, List, [], ◌∷◌, ◌++◌, length, Some, refl, sym, ap, subst, ◌∙◌, arith, eq-eqb}
use Rattle.std.proofs.lemmas.List.Concat.{flat_map-append}
use Rattle.std.proofs.lemmas.List.Elements.{All-head, All-weaker}
use Rattle.std.specs.Prelude.{All, flat_map, codes, bytes_eq, is_some, option_and_then, ◌==◌}
use Rattle.crush_units.specs.declared.id.ItemId.TheVariants.{Bucket}
use Rattle.crush_units.specs.declared.limits.TheConstants.{MOST_RULES, MOST_STEPS}
use Rattle.crush_model.specs.Lawful.{Lawful}
use Rattle.crush_model.specs.Same.{Same}
use Rattle.crush_model.specs.Table.{Row, id_named}
use Rattle.crush_model.proofs.Found.{row_of-same}
use Rattle.crush_model.proofs.Tested.{bytes_itself}
use Rattle.crush_edits.specs.Setting.{StepData, take, choose, set, emit, RuleData, SettingData, bucket_taken}
use Rattle.crush_edits.specs.Fits.{Fits, IsStep, IsRule, IsThere}
use Rattle.crush_edits.specs.Stops.{number_of}
use Rattle.crush_builder.specs.Built.{nothing, add_rule}
use Rattle.crush_builder.specs.Building.{closed_item}
use Rattle.crush_builder.specs.Rules.{complete_bucket_named}
use Rattle.crush_print.specs.RuleLines.{bucket_name}
use Rattle.crush_print.proofs.PrintedLines.{size_words, step_words, rule_words, rule_head_words}
use Rattle.crush_print.proofs.PrintedTexts.{All-left, All-right}
use Rattle.crush_print.proofs.PartRows.{found_by_name}
use Rattle.crush_print.proofs.TakenNames.{named}
use Rattle.crush_text.specs.Grammar.{new_rule}
use Rattle.crush_text.specs.Form.{second, ruled, at}
use Rattle.crush_text.specs.Flow.{State, between}
use Rattle.crush_text.specs.Document.{IsMap}
use Rattle.crush_laws.specs.Admitted.{IsLawfulState}
use Rattle.crush_laws.specs.ReadingBack.{in_order}
use Rattle.crush_laws.proofs.Ruled.{CanAdd, taken_by, map_with_rule, can_begin, can_step}
use Rattle.crush_laws.proofs.BuiltLines.{Goes, goes_both, idle}
use Rattle.crush_laws.proofs.BuiltRules.{rule_head_goes, take_goes, choose_goes, set_goes, emit_goes, rule_end_goes}
use Rattle.crush_laws.proofs.BuiltEach.{quiet, quiet_lawful, Led, EachLeads, each_goes, Avoids, avoids_both, avoids_all, new_at, has_room, shorter, All-at}
use Rattle.crush_laws.proofs.BuiltKinds.{ordered_number}

-- each step begins with the word `step`
step_avoids : (t : List Row) (k : List ℕ) → bytes_eq (codes "step") k ≡ false → (x : StepData) → Avoids k (step_words t x)
step_avoids t k h (take b class) = h
step_avoids t k h (choose leaf firstn count kind) = h
step_avoids t k h (set name value) = h
step_avoids t k h emit = h

-- what holds for the parts of all elements holds for the parts of each element
part_at : {X : Type 0} (P : ℕ → Type 0) (g : X → List ℕ) (front : List X) (x : X) (rest all : List X) → front ++ x ∷ rest ≡ all → All P (flat_map g all) → All P (g x)
part_at P g front x rest all e a =
    All-left P (g x) (flat_map g rest) (All-right P (flat_map g front) (flat_map g (x ∷ rest)) (subst (All P) (flat_map-append g front (x ∷ rest)) (subst (λ xs. All P (flat_map g xs)) (sym e) a)))

-- whether a bucket or a rule has come before
abbrev pub behind : Bool → List RuleData → Bool
behind late [] = late
behind late (r ∷ rs) = true

behind_more : (late : Bool) (rs : List RuleData) (r : RuleData) → behind late (rs ++ r ∷ []) ≡ true
behind_more late [] r = refl
behind_more late (x ∷ rs) r = refl

module _ (s : SettingData) (t u : List Row) (l : Lawful t) (f : Fits s t) (built : Lawful u) (same : Same t u) where
  abbrev pub ruled_setting : List RuleData → SettingData
  ruled_setting rs = record (in_order s) { rules = rs }

  -- a bucket of the table t is also in the table u, and it is found by its printed name
  there_again : (b : ℕ) → IsThere t b → IsThere u b
  there_again b h = sym (ap is_some (row_of-same t u same.rows l.ids (Bucket b))) ∙ h

  taken_again : (rs : List RuleData) (b : ℕ) → IsThere t b → complete_bucket_named (quiet (ruled_setting rs) u) (bucket_name t b) ≡ Some b
  taken_again rs b h =
      let n = named t b h in
      let found : id_named u (bucket_name t b) ≡ Some (Bucket b) = ap (id_named u) n.2 ∙ found_by_name u (Bucket b) n.0 built.names (sym (row_of-same t u same.rows l.ids (Bucket b)) ∙ n.1) in
      ap (λ o. option_and_then number_of (option_and_then (closed_item nothing) o)) found

  -- a step has the form `IsStep` also in the setting with these rules
  step_again : (rs : List RuleData) (x : StepData) → IsStep s x → IsStep (ruled_setting rs) x
  step_again rs (take b class) h = h
  step_again rs (choose leaf firstn count kind) h = let fits = f.setting in record { range = h.range; known = ap is_some (ordered_number s fits kind) ∙ h.known }
  step_again rs (set name value) h = h
  step_again rs emit h = h

  -- STEPS: their words lead from a rule to the rule that also has these steps
  module _ (rs : List RuleData) (m : IsMap (quiet (ruled_setting rs) u)) (r : RuleData) (form : IsRule s r) (there : All (IsThere t) (taken_by r)) (others : List (List ℕ)) (free : Avoids (codes "class") others) where
    abbrev so_far : List StepData → RuleData
    so_far xs = record r { steps = xs }

    abbrev step_state : List StepData → State
    step_state xs = between (at (ruled (so_far xs)) (quiet (ruled_setting rs) u))

    abbrev StepsFit : List StepData → Type 0
    StepsFit xs = CanAdd (quiet (ruled_setting rs) u) (so_far xs)

    step_goes : (front : List StepData) (x : StepData) (more : List (List ℕ)) → Avoids (codes "class") more → IsStep s x → All (IsThere t) (bucket_taken x) → IsLawfulState (step_state (front ++ x ∷ [])) → Goes (step_state front) (step_words t x) more (step_state (front ++ x ∷ []))
    step_goes front (take b class) more avoids h taken lawful =
        take_goes (quiet (ruled_setting rs) u) (so_far front) (bucket_name t b) b class more (taken_again rs b (All-head (IsThere t) b [] taken)) avoids lawful
    step_goes front (choose leaf firstn count kind) more avoids h taken lawful = choose_goes (quiet (ruled_setting rs) u) (so_far front) leaf firstn count kind more h.range lawful
    step_goes front (set name value) more avoids h taken lawful = set_goes (quiet (ruled_setting rs) u) (so_far front) name value more h.sets h.range lawful
    step_goes front emit more avoids h taken lawful = emit_goes (quiet (ruled_setting rs) u) (so_far front) more lawful

    step_leads : EachLeads (step_words t) step_state StepsFit r.steps others
    step_leads front x rest e can =
        let steps = form.steps in
        let few = form.few in
        let own = All-at (IsStep s) front x rest (subst (All (IsStep s)) (sym e) steps) in
        let taken = part_at (IsThere t) bucket_taken front x rest r.steps e there in
        let room : length front < MOST_STEPS = omega (arith, few, shorter front x rest r.steps e) in
        let next = can_step (quiet (ruled_setting rs) u) (so_far front) x can (step_again rs x own) room (All-weaker (IsThere t) (IsThere u) there_again (bucket_taken x) taken) in
        let lawful : IsLawfulState (step_state (front ++ x ∷ [])) = (quiet_lawful (ruled_setting rs) u m, map_with_rule (quiet (ruled_setting rs) u) (so_far (front ++ x ∷ [])) m next) in
        let avoids = avoids_both (codes "class") (flat_map (step_words t) rest) others (avoids_all (codes "class") (step_words t) rest (step_avoids t (codes "class") refl)) free in
        record { holds = next; goes = step_goes front x (flat_map (step_words t) rest ++ others) avoids own taken lawful }

    pub steps_go : StepsFit [] → Led (StepsFit r.steps) (step_state []) (flat_map (step_words t) r.steps) others (step_state r.steps)
    steps_go can = each_goes (step_words t) step_state StepsFit r.steps others step_leads [] r.steps refl can

  -- RULES: their words lead from a map to the map that also has these rules
  module _ (late : Bool) (others : List (List ℕ)) where
    abbrev rule_state : List RuleData → State
    rule_state rs = between (at (idle (behind late rs)) (quiet (ruled_setting rs) u))

    abbrev RuledMap : List RuleData → Type 0
    RuledMap rs = IsMap (quiet (ruled_setting rs) u)

    rule_leads : EachLeads (rule_words t) rule_state RuledMap s.rules others
    rule_leads front r rest e m =
        let setting = f.setting in
        let rules = setting.rules in
        let form = All-at (IsRule s) front r rest (subst (All (IsRule s)) (sym e) rules) in
        let there = part_at (IsThere t) taken_by front r rest s.rules e f.taken in
        let d = quiet (ruled_setting front) u in
        let name = new_at (λ (x : RuleData). bytes_eq x.name r.name) front r rest s.rules e (setting.rule_names r.name) (bytes_itself r.name) in
        let id = new_at (λ (x : RuleData). x.id == r.id) front r rest s.rules e (setting.rule_ids r.id) (eq-eqb r.id r.id refl) in
        let room = has_room (length front) (length s.rules) MOST_RULES (shorter front r rest s.rules e) setting.few_rules in
        let begin = can_begin d r.name r.id r.kind r.min_size r.max_size form.name form.id form.kind form.min_size form.max_size name id room in
        let behind_it : List (List ℕ) = flat_map (rule_words t) rest ++ others in
        let brace : List (List ℕ) = codes "}" ∷ [] in
        let steps : List (List ℕ) = flat_map (step_words t) r.steps in
        let head : List (List ℕ) = rule_head_words r ++ size_words (codes "min_size") r.min_size ++ size_words (codes "max_size") r.max_size in
        let begun : State = between (at (ruled (new_rule r.name r.id r.kind r.min_size r.max_size)) d) in
        let lawful : IsLawfulState begun = (quiet_lawful (ruled_setting front) u m, map_with_rule d (new_rule r.name r.id r.kind r.min_size r.max_size) m begin) in
        let small : r.id < 10 ^ 10 = let v = form.id in omega (arith, v) in
        let heads = rule_head_goes (behind late front) d r.name r.id r.kind r.min_size r.max_size (steps ++ (brace ++ behind_it)) small form.min_size form.max_size
        (avoids_both (codes "min_size") steps (brace ++ behind_it) (avoids_all (codes "min_size") (step_words t) r.steps (step_avoids t (codes "min_size") refl)) refl)
        (avoids_both (codes "max_size") steps (brace ++ behind_it) (avoids_all (codes "max_size") (step_words t) r.steps (step_avoids t (codes "max_size") refl)) refl) lawful in
        let each = steps_go front m r form there (brace ++ behind_it) refl begin in
        let whole = map_with_rule d r m each.holds in
        let ends = rule_end_goes d r behind_it (quiet_lawful (ruled_setting (front ++ r ∷ [])) u whole) in
        let filled : State = between (at (ruled r) d) in
        let goes = goes_both (rule_state front) (head ++ steps) brace behind_it filled (between (at second (add_rule d r))) (goes_both (rule_state front) head steps (brace ++ behind_it) begun filled heads each.goes) ends in
        record { holds = whole; goes = subst (λ b. Goes (rule_state front) (rule_words t r) behind_it (between (at (idle b) (quiet (ruled_setting (front ++ r ∷ [])) u)))) (sym (behind_more late front r)) goes }

    pub rules_go : RuledMap [] → Led (RuledMap s.rules) (between (at (idle late) (quiet (ruled_setting []) u))) (flat_map (rule_words t) s.rules) others (between (at (idle (behind late s.rules)) (quiet (ruled_setting s.rules) u)))
    rules_go m = each_goes (rule_words t) rule_state RuledMap s.rules others rule_leads [] s.rules refl m
