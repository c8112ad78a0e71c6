-- A call that isn't a change leaves the table as it is.
use Rattle.std.proofs.Common.{◌≡◌, ℕ, ◌+◌, ◌≤◌, ◌==◌, ◌&&◌, Bool, true, false, not, List, [], ◌∷◌, Option, Some, None, nat_eq, refl, ap, sym, ◌∙◌, arith}
use Rattle.std.specs.Prelude.{bytes_eq, if◌then◌else◌}
use Rattle.std.specs.Option.{option_eq}
use Rattle.std.proofs.lemmas.Bool.{eqb-true, not-false, ltb-false}
use Rattle.std.proofs.lemmas.Slice.Eq.{bytes_eq-Decides}
use lib.Pointwise.{pointwise}
use Rattle.crush_units.specs.Id.{same_id}
use Rattle.crush_units.specs.Alg.{same_alg}
use Rattle.crush_units.proofs.Ids.{same_id_equal}
use Rattle.crush_units.proofs.Algs.{same_alg_equal}
use Rattle.crush_units.proofs.Names.{both_true}
use Rattle.crush_model.specs.Items.{ShadowData}
use Rattle.crush_model.specs.Table.{Row}
use Rattle.crush_edits.specs.Changed.{same_class, same_row, same_table}
use Rattle.crush_edits.specs.declared.edit.Edit.{Edit}
use Rattle.crush_edits.specs.declared.refusal.Refusal.{Refusal}
use Rattle.crush_edits.specs.declared.refusal.Dones.{Dones}
use Rattle.crush_edits.specs.Setting.{SettingData}
use Rattle.crush_edits.specs.Answer.{After, Answer, refused, done, answer}
use Rattle.crush_edits.specs.Edit.{after, edit, refusal}
use Rattle.crush_edits.specs.Batch.{BatchAnswer, batch_refused, batch_done, no_dones, one_changed, with_done, and_then, batch_from, batch}
use Rattle.crush_history.specs.declared.call.Call.{Call}
use Rattle.crush_history.specs.declared.call.Call.TheVariants.{One, Batch, Guarded}
use Rattle.crush_history.specs.declared.call.Reply.TheVariants.{Stale}
use Rattle.crush_history.specs.History.{EntryData, Counted, untouched, later, counted_after, changes, change_of, is_change, edit_outcome, batch_outcome, guarded_outcome, call_outcome, IsLegalBehind}
use Rattle.crush_history.specs.LawRun.{NoChangeKeeps, SameCountSameTable}
use Rattle.crush_history.proofs.Histories.{changes-append, counted_after-append, IsLegal-behind}

-- TABLES that the test finds to be the same are equal
option_same : {A : Type 0} (eq : A → A → Bool) → ((a b : A) → eq a b ≡ true → a ≡ b) → (o p : Option A) → option_eq eq o p ≡ true → o ≡ p
option_same eq same None None e = refl
option_same eq same None (Some b) e = absurd cc
option_same eq same (Some a) None e = absurd cc
option_same eq same (Some a) (Some b) e = ap Some (same a b e)

each_same : {A : Type 0} (eq : A → A → Bool) → ((a b : A) → eq a b ≡ true → a ≡ b) → (xs ys : List A) → pointwise eq xs ys ≡ true → xs ≡ ys
each_same eq same [] [] e = refl
each_same eq same [] (y ∷ ys) e = absurd cc
each_same eq same (x ∷ xs) [] e = absurd cc
each_same eq same (x ∷ xs) (y ∷ ys) e =
    let both = both_true (eq x y) (pointwise eq xs ys) e in
    let first = same x y both.0 in
    let rest = each_same eq same xs ys both.1 in
    λ i. first i ∷ rest i

bytes_same : (xs ys : List ℕ) → bytes_eq xs ys ≡ true → xs ≡ ys
bytes_same xs ys e = (bytes_eq-Decides xs ys).0 e

class_same : (a b : ShadowData) → same_class a b ≡ true → a ≡ b
class_same a b e =
    let both = both_true (a.id == b.id) (bytes_eq a.class b.class) e in
    let ids = eqb-true a.id b.id both.0 in
    let classes = bytes_same a.class b.class both.1 in
    λ i. record { id = ids i; class = classes i }

columns : (a b c d e f g h : Bool) → (a && b && c && d && e && f && g && h) ≡ true → (a ≡ true) × (b ≡ true) × (c ≡ true) × (d ≡ true) × (e ≡ true) × (f ≡ true) × (g ≡ true) × (h ≡ true)
columns false b c d e f g h p = absurd cc
columns true false c d e f g h p = absurd cc
columns true true false d e f g h p = absurd cc
columns true true true false e f g h p = absurd cc
columns true true true true false f g h p = absurd cc
columns true true true true true false g h p = absurd cc
columns true true true true true true false h p = absurd cc
columns true true true true true true true h p = (refl, refl, refl, refl, refl, refl, refl, p)

row_same : (a b : Row) → same_row a b ≡ true → a ≡ b
row_same a b e =
    let c = columns (same_id a.id b.id) (a.kind == b.kind) (bytes_eq a.name b.name) (option_eq nat_eq a.parent b.parent) (a.weight == b.weight) (option_eq bytes_eq a.class b.class) (option_eq same_alg a.alg b.alg) (pointwise same_class a.class_ids b.class_ids) e in
    let ids = same_id_equal a.id b.id c.0 in
    let kinds = eqb-true a.kind b.kind c.1 in
    let names = bytes_same a.name b.name c.2 in
    let parents = option_same nat_eq eqb-true a.parent b.parent c.3 in
    let weights = eqb-true a.weight b.weight c.4 in
    let classes = option_same bytes_eq bytes_same a.class b.class c.5 in
    let algs = option_same same_alg same_alg_equal a.alg b.alg c.6 in
    let shadows = each_same same_class class_same a.class_ids b.class_ids c.7 in
    λ i. record { id = ids i; kind = kinds i; name = names i; parent = parents i; weight = weights i; class = classes i; alg = algs i; class_ids = shadows i }

table_same : (t u : List Row) → same_table t u ≡ true → t ≡ u
table_same t u e = each_same same_row row_same t u e

-- AN EDIT whose answer reports no change leaves the table as it is
edit_kept : (t u : List Row) (o : Option Refusal) (a : After) (made : ℕ) → answer o t a ≡ done false made u → u ≡ t
edit_kept t u (Some r) a made is = absurd cc
edit_kept t u None a made is =
    let same : not (same_table t a.table) ≡ false = cc in
    let own : a.table ≡ u = cc in
    sym own ∙ sym (table_same t a.table (not-false (same_table t a.table) same))

-- A BATCH counts at least as many changes as it begins with
changed_more : (s : SettingData) (es : List Edit) (d e : Dones) (t u : List Row) → batch_from s es d t ≡ batch_done e u → d.changed ≤ e.changed
changed_more s [] d e t u is = let same : d ≡ e = cc in omega (arith, ap (λ (x : Dones). x.changed) same)
changed_more s (x ∷ es) d e t u is = at (edit s t x) (λ changed made v. changed_more s es (with_done d changed made) e v u) is
  where
    at : (a : Answer) → ((changed : Bool) (made : ℕ) (v : List Row) → batch_from s es (with_done d changed made) v ≡ batch_done e u → d.changed + one_changed changed ≤ e.changed)
        → and_then d a (batch_from s es) ≡ batch_done e u → d.changed ≤ e.changed
    at (refused r) more ends = absurd cc
    at (done changed made v) more ends = omega (arith, more changed made v ends)

batch_kept : (s : SettingData) (es : List Edit) (d e : Dones) (t u : List Row) → batch_from s es d t ≡ batch_done e u → e.changed ≤ d.changed → u ≡ t
batch_kept s [] d e t u is few = cc
batch_kept s (x ∷ es) d e t u is few = at (edit s t x) (λ made v. batch_kept s es (with_done d false made) e v u) refl is
  where
    at : (a : Answer) → ((made : ℕ) (v : List Row) → batch_from s es (with_done d false made) v ≡ batch_done e u → e.changed ≤ d.changed + 0 → u ≡ v)
        → edit s t x ≡ a → and_then d a (batch_from s es) ≡ batch_done e u → u ≡ t
    at (refused r) others answers ends = absurd cc
    at (done true made v) others answers ends = absurd (omega (arith, few, changed_more s es (with_done d true made) e v u ends))
    at (done false made v) others answers ends = others made v ends (omega (arith, few)) ∙ edit_kept t v (refusal s t x) (after s t x) made answers

-- A CALL whose reply reports no change leaves the table as it is
edit_outcome_kept : (s : SettingData) (t : List Row) (e : Edit) (a : Answer) → edit s t e ≡ a → is_change (edit_outcome t a).reply ≡ false → (edit_outcome t a).table ≡ t
edit_outcome_kept s t e (refused r) is none = refl
edit_outcome_kept s t e (done true made u) is none = absurd cc
edit_outcome_kept s t e (done false made u) is none = edit_kept t u (refusal s t e) (after s t e) made is

batch_outcome_kept : (s : SettingData) (t : List Row) (es : List Edit) (a : BatchAnswer) → batch s t es ≡ a → is_change (batch_outcome t a).reply ≡ false → (batch_outcome t a).table ≡ t
batch_outcome_kept s t es (batch_refused index r) is none = refl
batch_outcome_kept s t es (batch_done d u) is none = batch_kept s es no_dones d t u is (ltb-false 0 d.changed none)

guarded_outcome_kept : (s : SettingData) (t : List Row) (n : ℕ) (es : List Edit) (fresh : Bool) → is_change (guarded_outcome fresh t n (batch s t es)).reply ≡ false → (guarded_outcome fresh t n (batch s t es)).table ≡ t
guarded_outcome_kept s t n es true none = batch_outcome_kept s t es (batch s t es) refl none
guarded_outcome_kept s t n es false none = refl

pub no_change_keeps : NoChangeKeeps
no_change_keeps s t n (One e) none = edit_outcome_kept s t e (edit s t e) refl none
no_change_keeps s t n (Batch es) none = batch_outcome_kept s t es (batch s t es) refl none
no_change_keeps s t n (Guarded seen es) none = guarded_outcome_kept s t n es (seen == n) none

-- A HISTORY whose entries report no change leaves the table as it is
no_change : (b : Bool) → (if b then 1 else 0) ≤ 0 → b ≡ false
no_change true few = absurd (omega (arith, few))
no_change false few = refl

stretch_kept : (s : SettingData) (q : Counted) (g : List EntryData) → IsLegalBehind s q g → changes g ≤ 0 → (counted_after s q g).table ≡ q.table
unfolding counted_after IsLegalBehind changes
stretch_kept s q [] legal none = refl
stretch_kept s q (e ∷ g) legal none =
    let first : change_of e.reply ≤ 0 = omega (arith, none) in
    let kept = no_change_keeps s q.table q.count e.call (ap is_change (sym legal.0) ∙ no_change (is_change e.reply) first) in
    stretch_kept s (later s q e) g legal.1 (omega (arith, none)) ∙ kept

pub same_count_same_table : SameCountSameTable
same_count_same_table s t h g legal same =
    let behind = IsLegal-behind s (untouched t) h g legal in
    ap (λ (q : Counted). q.table) (counted_after-append s (untouched t) h g)
    ∙ stretch_kept s (counted_after s (untouched t) h) g behind (omega (arith, same, changes-append h g))

-- A reply that is STALE has the number of changes in the history
edit_not_stale : (t : List Row) (a : Answer) (m : ℕ) → (edit_outcome t a).reply ≡ Stale m → ⊥
edit_not_stale t (refused r) m is = absurd cc
edit_not_stale t (done changed made u) m is = absurd cc

batch_not_stale : (t : List Row) (a : BatchAnswer) (m : ℕ) → (batch_outcome t a).reply ≡ Stale m → ⊥
batch_not_stale t (batch_refused index r) m is = absurd cc
batch_not_stale t (batch_done d u) m is = absurd cc

guarded_stale : (fresh : Bool) (t : List Row) (n : ℕ) (a : BatchAnswer) (m : ℕ) → (guarded_outcome fresh t n a).reply ≡ Stale m → n ≡ m
guarded_stale true t n a m is = absurd (batch_not_stale t a m is)
guarded_stale false t n a m is = cc

pub stale_tells : (s : SettingData) (t : List Row) (n : ℕ) (c : Call) (m : ℕ) → (call_outcome s t n c).reply ≡ Stale m → n ≡ m
stale_tells s t n (One e) m is = absurd (edit_not_stale t (edit s t e) m is)
stale_tells s t n (Batch es) m is = absurd (batch_not_stale t (batch s t es) m is)
stale_tells s t n (Guarded seen es) m is = guarded_stale (seen == n) t n (batch s t es) m is
