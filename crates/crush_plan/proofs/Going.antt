-- Lemmas about edits that are applied one after the other, and about drafts.
use Rattle.std.proofs.Common.{◌≡◌, ◌⊎◌, inl, inr, ℕ, Bool, true, false, List, [], ◌∷◌, ◌++◌, refl, sym, subst, ap, append_assoc, append-nil, ◌∙◌}
use Rattle.std.specs.Prelude.{Result, OnOk, if◌then◌else◌}
use Rattle.std.proofs.lemmas.Result.{on_ok_weaker}
use Rattle.crush_model.specs.Stands.{Stands}
use Rattle.crush_model.specs.Table.{Row}
use Rattle.crush_edits.specs.declared.edit.Edit.{Edit}
use Rattle.crush_edits.specs.Setting.{SettingData}
use Rattle.crush_edits.specs.Answer.{done}
use Rattle.crush_edits.specs.Edit.{edit}
use Rattle.crush_map.specs.MapData.{MapData}
use Rattle.crush_plan.specs.declared.goal.PlanGoal.{PlanGoal}
use Rattle.crush_plan.specs.declared.draft.Draft.{Draft}
use Rattle.crush_plan.specs.Draft.{Allows, GoesOn, IsContinued, IsDraftOf, IsFork, LeadsTo}
use Rattle.crush_plan.specs.Leads.{Leads}

-- if some edits lead from t to u and further edits lead from u to v, then all these edits lead from t to v
pub leads_then : (P : List Row → Edit → Type 0) (s : SettingData) (t : List Row) (es fs : List Edit) (u v : List Row) → Leads P s t es u → Leads P s u fs v → Leads P s t (es ++ fs) v
leads_then P s t [] fs u v a b = subst (λ (x : List Row). Leads P s x fs v) (sym a) b
leads_then P s t (e ∷ es) fs u v a b = (a.0, a.1, a.2, a.3, leads_then P s a.2 es fs u v a.4 b)

-- if edits lead somewhere and each is allowed, then they also lead there if more edits are allowed
pub leads_weaker : (P Q : List Row → Edit → Type 0) (s : SettingData) (t : List Row) (es : List Edit) (u : List Row) → ((v : List Row) (e : Edit) → P v e → Q v e) → Leads P s t es u → Leads Q s t es u
leads_weaker P Q s t [] u f a = a
leads_weaker P Q s t (e ∷ es) u f a = (f t e a.0, a.1, a.2, a.3, leads_weaker P Q s a.2 es u f a.4)

-- a draft continues itself, without further edits
pub stays_here : {A B : _} {goal : PlanGoal A B} (d : Draft A) → GoesOn goal d d
stays_here d = record {
  setting = refl;
  more = [];
  edits = sym (append-nil _);
  leads = λ t st. (t, refl, st);
}

-- if b continues a and c continues b, then c continues a
pub goes_then : {A B : _} {goal : PlanGoal A B} (a b c : Draft A) → GoesOn goal a b → GoesOn goal b c → GoesOn goal a c
goes_then {A} {B} {goal} a b c x y = record {
  setting = y.setting ∙ x.setting;
  more = x.more ++ y.more;
  edits = y.edits ∙ ap (λ (l : List Edit). l ++ y.more) x.edits ∙ append_assoc a.edits.items x.more y.more;
  leads = λ t st.
      let p = x.leads t st in
      let q = y.leads p.0 p.2 in
      (q.0, leads_then (Allows goal) a.map.setting t x.more y.more p.0 q.0 p.1 (subst (λ (s : SettingData). Leads (Allows goal) s p.0 y.more q.0) x.setting q.1), q.2);
}

-- the same, if the second step may fail
pub goes_then_ok : {A B : _} {goal : PlanGoal A B} {X F : Type 0} (a b c : Draft A) (r : Result X F) → GoesOn goal a b → OnOk r (GoesOn goal b c) → OnOk r (GoesOn goal a c)
goes_then_ok {A} {B} {goal} a b c r x y = on_ok_weaker r (goes_then {goal = goal} a b c x) y

-- a draft whose map and edits stay the same
pub with_map : {A B : _} {goal : PlanGoal A B} (a b : Draft A) → b.map ≡ a.map → b.edits.items ≡ a.edits.items → GoesOn goal a b
with_map a b is edits = record {
  setting = ap (λ (m : MapData). m.setting) is;
  more = [];
  edits = edits ∙ sym (append-nil _);
  leads = λ t st. (t, refl, subst (λ (m : MapData). Stands m.forest t) (sym is) st);
}

-- a draft to which an edit was applied continues the draft before. The edit is kept if it has changed the map
pub gave : {A B : _} {goal : PlanGoal A B} (a b : Draft A) (e : Edit) (changed : Bool) (made : ℕ) → ((t : List Row) → Stands a.map.forest t → Allows goal t e) → b.map.setting ≡ a.map.setting → b.edits.items ≡ a.edits.items ++ (if changed then e ∷ [] else []) → ((t : List Row) → Stands a.map.forest t → (u : List Row) × (edit a.map.setting t e ≡ done changed made u) × Stands b.map.forest u) → (changed ≡ false → b.map ≡ a.map) → GoesOn goal a b
gave a b e true made allowed s is d still = record {
  setting = s;
  more = e ∷ [];
  edits = is;
  leads = λ t st. let x = d t st in (x.0, (allowed t st, made, x.0, x.1, refl), x.2);
}
gave a b e false made allowed s is d still = record {
  setting = s;
  more = [];
  edits = is;
  leads = λ t st. (t, refl, subst (λ (m : MapData). Stands m.forest t) (sym (still refl)) st);
}

-- a draft that continues a draft without edits, whose map is a copy of the map before the plan
pub draft_of : {A B : _} {goal : PlanGoal A B} (a b : Draft A) → a.edits.items ≡ [] → a.map.setting ≡ goal.before.now.setting → ((t : List Row) → Stands goal.before.now.forest t → Stands a.map.forest t) → GoesOn goal a b → IsDraftOf goal b
draft_of {A} {B} {goal} a b none s copied y = record {
  setting = y.setting ∙ s;
  leads = λ t st.
      subst (λ (es : List Edit). LeadsTo goal goal.before.now.setting t es b.map.forest) (sym (y.edits ∙ ap (λ (l : List Edit). l ++ y.more) none))
      (subst (λ (x : SettingData). LeadsTo goal x t y.more b.map.forest) s (y.leads t (copied t st)));
}

-- a draft that was forked off, with more edits, continues the draft
pub forked : {A B : _} {goal : PlanGoal A B} (d fork next : Draft A) → IsFork d fork → GoesOn goal fork next → IsContinued goal d next
forked {A} {B} {goal} d fork next f y = record {
  setting = y.setting ∙ f.setting;
  leads = λ t st.
      subst (λ (es : List Edit). LeadsTo goal d.map.setting t es next.map.forest) (sym (y.edits ∙ ap (λ (l : List Edit). l ++ y.more) f.none))
      (subst (λ (x : SettingData). LeadsTo goal x t y.more next.map.forest) f.setting (y.leads t (f.stands t st)));
}

-- a draft that takes over the map and the edits of a draft that continues it
pub adopted : {A B : _} {goal : PlanGoal A B} (d next new : Draft A) → IsContinued goal d next → new.map ≡ next.map → new.edits.items ≡ d.edits.items ++ next.edits.items → GoesOn goal d new
adopted {A} {B} {goal} d next new x is edits = record {
  setting = ap (λ (m : MapData). m.setting) is ∙ x.setting;
  more = next.edits.items;
  edits = edits;
  leads = λ t st. subst (λ (m : MapData). LeadsTo goal d.map.setting t next.edits.items m.forest) (sym is) (x.leads t st);
}

-- if a property holds for both a and b, it holds for each x that is a or b
pub either : {X : Type 0} (P : X → Type 0) (a b x : X) → (x ≡ a) ⊎ (x ≡ b) → P a → P b → P x
either P a b x (inl is) p q = subst P (sym is) p
either P a b x (inr is) p q = subst P (sym is) q
