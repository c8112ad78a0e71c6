-- If a builder represents a draft, it also represents each draft that differs only in the order of the table's rows (`Same`).
use Rattle.std.proofs.Common.{◌≡◌, ℕ, ◌<◌, ◌≤◌, false, List, [], refl, ap, sym, subst, ◌∙◌, arith}
use Rattle.std.proofs.lemmas.List.Elements.{All-nil, All-weaker}
use Rattle.crush_units.specs.declared.limits.TheConstants.{MOST_BUCKETS}
use Rattle.crush_units.specs.declared.id.ItemId.TheVariants.{Bucket}
use Rattle.crush_model.specs.Items.{ShadowData}
use Rattle.crush_model.specs.Same.{Same}
use Rattle.crush_model.specs.Lawful.{Lawful}
use Rattle.crush_model.specs.Table.{Row, member, used_ids}
use Rattle.crush_model.specs.Forest.{ForestData, rows_of, IsSound}
use Rattle.crush_model.specs.Stands.{Stands}
use Rattle.crush_edits.specs.Setting.{SettingData}
use Rattle.crush_edits.specs.Fits.{Fits, IsKind, IsTunable, IsRule, IsThere, HasKind}
use Rattle.crush_model.proofs.Found.{is_named-same, is_there-same, parent_of-same}
use Rattle.crush_model.proofs.Same.{Same-sym, bucket_count-same, used-same}
use Rattle.crush_edits.proofs.FitLaws.{Fits-same}
use Rattle.crush_model.proofs.Stands.{stands_for_rows, same_stands}
use Rattle.crush_nodes.proofs.CopyLaws.{rows_of-copied}
use Rattle.crush_tree.specs.Sameness.{IsSameForest}
use Rattle.crush_builder.specs.Built.{Pending, nothing, begun, numbered, filling, Draft, empty_draft}
use Rattle.crush_builder.specs.Building.{BuilderData, CanBegin, CanNumber, IsRoot, IsPending, IsDraft, BuilderFits, own_draft, held_buckets}
use Rattle.crush_builder.proofs.Held.{held-same}

CanBegin-same : (s : SettingData) (t u : List Row) (k : ℕ) (n : List ℕ) → Lawful t → Same t u → CanBegin s t k n → CanBegin s u k n
CanBegin-same s t u k n l e c = record {
  known = c.known;
  most = c.most;
  form = c.form;
  free = sym (is_named-same t u e.rows l.names n) ∙ c.free;
  few = subst (λ m. m < MOST_BUCKETS) (bucket_count-same t u e.rows) c.few;
}

CanNumber-same : (t u : List Row) (b : ℕ) (cs : List ShadowData) → Same t u → CanNumber t b cs → CanNumber u b cs
CanNumber-same t u b cs e c = record {
  some = c.some;
  most = c.most;
  free = sym (used-same t u e.rows b) ∙ c.free;
  form = c.form;
  fresh = All-weaker (λ (x : ShadowData). member x.id (used_ids t) ≡ false) (λ (x : ShadowData). member x.id (used_ids u) ≡ false) (λ x h. sym (used-same t u e.rows x.id) ∙ h) cs c.fresh;
  apart = c.apart;
  classes = c.classes;
  few = c.few;
}

pub IsRoot-same : (t u : List Row) (b : ℕ) → Lawful t → Same t u → IsRoot t b → IsRoot u b
IsRoot-same t u b l e c = record {
  there = sym (is_there-same t u e.rows l.ids (Bucket b)) ∙ c.there;
  root = sym (parent_of-same t u e.rows l.ids (Bucket b)) ∙ c.root;
}

-- if the incomplete bucket is consistent with a table, it is also consistent with each table that is the same except for the order of its rows
pub IsPending-same : (s : SettingData) (t u : List Row) (p : Pending) → Lawful t → Same t u → IsPending s t p → IsPending s u p
IsPending-same s t u nothing l e c = tt
IsPending-same s t u (begun k n) l e c = CanBegin-same s t u k n l e c
IsPending-same s t u (numbered k n b cs) l e c = (CanBegin-same s t u k n l e c.0, CanNumber-same t u b cs e c.1)
IsPending-same s t u (filling b) l e c = IsRoot-same t u b l e c

-- if the builder represents a draft, it also represents the draft whose table has the same rows in another order
pub IsDraft-same : (b : BuilderData) (d : Draft) (u : List Row) → Same d.table u → IsDraft b d → IsDraft b (record d { table = u })
IsDraft-same b d u e i = record {
  setting = i.setting;
  pending = i.pending;
  adjusted = i.adjusted;
  few = subst (λ n. d.adjusted ≤ n) (held-same d.table u e) i.few;
  stands = same_stands b.forest d.table u e i.stands;
  fits = Fits-same d.setting d.table u i.stands.lawful e i.fits;
  part = IsPending-same d.setting d.table u d.pending i.stands.lawful e i.part;
}

-- if a builder represents some draft, its invariant is true
pub draft_fits : (b : BuilderData) (d : Draft) → IsDraft b d → BuilderFits b
draft_fits b d i =
    let e : Same d.table (rows_of b.forest) = Same-sym (rows_of b.forest) d.table i.stands.same in
    record {
      fits = subst (λ (s : SettingData). Fits s (rows_of b.forest)) (sym i.setting) (Fits-same d.setting d.table (rows_of b.forest) i.stands.lawful e i.fits);
      part = subst (λ (s : SettingData). IsPending s (rows_of b.forest) b.pending) (sym i.setting)
          (subst (IsPending d.setting (rows_of b.forest)) (sym i.pending) (IsPending-same d.setting d.table (rows_of b.forest) d.pending i.stands.lawful e i.part));
      few = subst (λ n. b.adjusted ≤ n) (held-same d.table (rows_of b.forest) e) (subst (λ n. n ≤ held_buckets d.table) (sym i.adjusted) i.few);
    }

-- a builder represents the draft of its own rows
pub own_is_draft : (b : BuilderData) → IsSound b.forest → BuilderFits b → IsDraft b (own_draft b)
own_is_draft b sound keeps = record {
  setting = refl;
  pending = refl;
  adjusted = refl;
  few = keeps.few;
  stands = stands_for_rows b.forest sound;
  fits = keeps.fits;
  part = keeps.part;
}

-- the invariant is still true if another forest with the same items, but other capacities, replaces the builder's forest
pub kept_fits : (b : BuilderData) (f : ForestData) → IsSound b.forest → IsSameForest f b.forest → BuilderFits b → BuilderFits (record b { forest = f })
kept_fits b f sound same keeps =
    let is : rows_of b.forest ≡ rows_of f = sym (rows_of-copied b.forest f sound (ap (λ (x : ForestData). x.roots) same) (ap (λ (x : ForestData). x.unplaced) same)) in
    record {
      fits = subst (Fits b.setting) is keeps.fits;
      part = subst (λ (t : List Row). IsPending b.setting t b.pending) is keeps.part;
      few = subst (λ (t : List Row). b.adjusted ≤ held_buckets t) is keeps.few;
    }

-- a map without types and items represents the empty draft
pub empty_is_draft : (s : SettingData) (f : ForestData) → s ≡ empty_draft.setting → IsSound f → rows_of f ≡ [] → IsDraft (record { setting = s; forest = f; pending = nothing; adjusted = 0 }) empty_draft
empty_is_draft s f same sound rows = record {
  setting = same;
  pending = refl;
  adjusted = refl;
  few = omega arith;
  stands = subst (Stands f) rows (stands_for_rows f sound);
  fits = record {
    setting = record {
      numbers = λ n. omega arith;
      names = λ n. omega arith;
      tunable_names = λ n. omega arith;
      rule_names = λ n. omega arith;
      rule_ids = λ n. omega arith;
      kinds = All-nil IsKind;
      tunables = All-nil IsTunable;
      rules = All-nil (IsRule empty_draft.setting);
      few_kinds = omega arith;
      few_tunables = omega arith;
      few_rules = omega arith;
    };
    types = All-nil (HasKind empty_draft.setting);
    taken = All-nil (IsThere []);
  };
  part = tt;
}
