-- Proves that a word has no fault if it has the form that is due at its place and its line ends lawfully. A draft (`Draft`) is what the lines so far have built. A form (`Form`) says which words the rest of a line must have. A state (`State`) is a place in the text: between two lines, or in a line with the form of its rest.
use Rattle.std.proofs.Common.{◌≡◌, ℕ, ◌<◌, ◌≤◌, ◌⊎◌, Bool, true, false, List, [], ◌∷◌, Option, Some, None, Ok, refl, sym, ap, subst, ◌∙◌, arith, inl, inr}
use Rattle.std.proofs.lemmas.Bool.{and_from, and_right, or_from, or_right, not_from_true, le-leb, lt-ltb, lt-leb, eq-eqb}
use Rattle.std.proofs.lemmas.Bool.Decides.{nat_tests}
use Rattle.std.proofs.lemmas.Slice.Eq.{bytes_eq-Decides}
use Rattle.std.specs.Prelude.{◌&&◌, ◌||◌, ◌==◌, not, codes, bytes_eq, drop, is_some, length, nat_eq, nat_le, slice_index, option_and_then}
use Rattle.std.specs.List.{list_any, starts_with}
use Rattle.std.specs.Str.Parse.{digits_value}
use Rattle.crush_units.specs.declared.alg.Alg.{Alg}
use Rattle.crush_units.specs.declared.alg.Alg.TheVariants.{Straw, Straw2, List as Linked}
use Rattle.crush_units.specs.declared.id.ItemId.{ItemId}
use Rattle.crush_units.specs.declared.id.ItemId.TheVariants.{Device, Bucket}
use Rattle.crush_units.specs.Alg.{alg_text}
use Rattle.crush_units.specs.Name.{are_name_bytes, IsName}
use Rattle.crush_units.specs.Weight.{are_digits, weight_of_text}
use Rattle.crush_units.specs.declared.limits.TheConstants.{FARTHEST_BUCKET_ID, HEAVIEST_DEVICE, LARGEST_RULE_NUMBER, LARGEST_TUNABLE, LAST_DEVICE_ID, LAST_TYPE, MOST_BUCKETS, MOST_CLASS_IDS}
use Rattle.crush_model.specs.Items.{ShadowData}
use Rattle.crush_model.specs.Table.{is_there, id_named, bucket_count}
use Rattle.crush_edits.specs.Setting.{StepData, take, choose, set, emit, RuleData, kind_number}
use Rattle.crush_edits.specs.Fits.{is_reserved}
use Rattle.crush_edits.specs.Stops.{number_of}
use Rattle.crush_builder.specs.Built.{Draft, Pending, nothing, begun as is_begun, filling as is_filling, with_class_id, with_next_item, pending_with_id, pending_with_class_id}
use Rattle.crush_builder.specs.Building.{IsPending, is_bucket_kind, has_name, has_bucket_id, has_class, has_pending_name, has_pending_id, pending_class_ids, closed_item, item_named, is_full_of_buckets, is_full_of_class_ids}
use Rattle.crush_units.specs.Words.{is_brace_word}
use Rattle.crush_text.specs.declared.statement_kind.StatementKind.{StatementKind}
use Rattle.crush_text.specs.declared.statement_kind.StatementKind.TheVariants as statement_kinds
use Rattle.crush_units.specs.Numbers.{is_number, is_signed, signed_value}
use Rattle.crush_text.specs.Role.{Role, value, kind_of_word, opened, item_of, bucket_of_word, units, key, any_word, number, opening, tunable_name, type_number, type_name, device_id, new_name, bucket_id, id_or_alg, id_class, algorithm, item_or_end, item, lone_item, weight, rule_name, rule_id_key, rule_id, step_or_end, step_word, StepWord, takes, chooses, sets, emits, step_said, taken_bucket, step_order, step_count, step_type}
use Rattle.crush_text.specs.Form.{Mode, first, second, begun, numbered, filling, ruled, Form, done, word, optional, ahead}
use Rattle.crush_text.specs.Grammar.{tunable_line, type_line, device_class, device_line, bucket_line, id_line, class_id_line, alg_line, id_or_alg_line, item_line, new_rule, max_size, sizes, rule_line, step_behind, step_or_brace, statement, item_or_brace, line_forms}
use Rattle.crush_text.specs.Tests.{Test, ◌when◌, word_tests, unless, is_either, is_weight_for, is_step_word}
use Rattle.crush_text.specs.Rows.{IsRight}
use Rattle.crush_laws.specs.Admitted.{IsLawfulDraft, IsLawfulMode, IsFree, IsFor}
use Rattle.crush_text.specs.Document.{IsMap}
use Rattle.crush_laws.proofs.Allowed.{tunable_free, kind_free, kind_form, type_named, item_form, DeviceFree, device_free, class_form, is_light, light_device, RuleFree, rule_free, StepFree, step_free, ClassFree, class_free}
use Rattle.crush_laws.proofs.Keeps.{Stage, no_brace}
use Rattle.crush_laws.proofs.Lawful.{listable}
use Rattle.crush_text.proofs.Laws.{word_right}
use Rattle.crush_text.proofs.Reserved.{no_key}
use Rattle.crush_laws.proofs.LeftOut.{opening_right}
use Rattle.crush_text.specs.declared.expected.Expected.{Expected}
use Rattle.crush_text.specs.declared.expected.Optional.TheVariants.{Nothing}
use Rattle.crush_text.specs.declared.expected.Optional.{Optional}

-- none of the tests of a list holds
abbrev pub Pass : List Test → Type 0
Pass [] = Unit {0}
Pass ((f when b) ∷ ts) = (b ≡ false) × Pass ts

-- if no test of the list holds, then the result of `unless` is the value v
pub all_pass : {A : Type 0} (ts : List Test) (v : A) → Pass ts → unless ts v ≡ Ok v
all_pass [] v h = refl
all_pass ((f when true) ∷ ts) v h = let no = h.0 in absurd cc
all_pass ((f when false) ∷ ts) v h = all_pass ts v h.1

-- a word is right if no test of its faults holds for it
pub passed : (d : Draft) (r : Role) (w : List ℕ) → Pass (word_tests d r w) → IsRight d r w
passed d r w h = (word_right d r w (value d r w) (all_pass (word_tests d r w) (value d r w) h)).0

-- THE FORMS of words: braces, names and numbers
-- a word of digits isn't a brace
pub digits_no_brace : (w : List ℕ) → are_digits 10 w ≡ true → is_brace_word w ≡ false
digits_no_brace w h = no_brace (are_digits 10) w refl refl h

-- a name isn't a brace
pub name_no_brace : (w : List ℕ) → IsName w → is_brace_word w ≡ false
name_no_brace w h = no_brace are_name_bytes w refl refl h.allowed

-- digits whose value is in the range are a number
pub number_in : (most : ℕ) (w : List ℕ) → are_digits 10 w ≡ true → digits_value 10 w ≤ most → is_number most w ≡ true
number_in most w digits le = and_from _ _ digits (le-leb _ _ le)

-- a number in its range is right where a number is due
pub right_number : (d : Draft) (most : ℕ) (w : List ℕ) → is_number most w ≡ true → IsRight d (number most) w
right_number d most w h = passed d (number most) w (no_brace (is_number most) w refl refl h, (not_from_true _ h, tt))

-- a name is right where any word is due
pub right_any : (d : Draft) (e : Expected) (w : List ℕ) → IsName w → IsRight d (any_word e) w
right_any d e w form = passed d (any_word e) w (name_no_brace w form, tt)

-- the due word of the grammar is right
pub right_key : (d : Draft) (k w : List ℕ) → w ≡ k → IsRight d (key k) w
right_key d k w h = passed d (key k) w (not_from_true _ ((bytes_eq-Decides w k).1 h), tt)

-- a word that isn't reserved opens a bucket of the type with this name
pub opens : (d : Draft) (w : List ℕ) (k : ℕ) → is_reserved w ≡ false → kind_of_word d w ≡ k → opened d w ≡ statement_kinds.Bucket k
opens d w k h e = let n = no_key w h in rw (n.tunable, n.device, n.kind, n.rule) (ap (λ (x : ℕ). statement_kinds.Bucket x) e)

-- a name by which a closed item is found is the name of an item
found_named : (p : Pending) (o : Option ItemId) (i : ItemId) → option_and_then (closed_item p) o ≡ Some i → is_some o ≡ true
found_named p None i e = absurd (let no : (let x : Option ItemId = None in x) ≡ Some i = e in cc)
found_named p (Some j) i e = refl

-- if the table is lawful with a weight for an item, then the item may have this weight
weight_fits : (d : Draft) (i : ItemId) (b w : ℕ) → d.pending ≡ is_filling b → is_there d.table i ≡ true → IsMap (with_next_item d i (Some w)) → is_weight_for i (Ok w) ≡ true
weight_fits d (Device n) b w p there m = le-leb w HEAVIEST_DEVICE (light_device d b n w p there m)
weight_fits d (Bucket x) b w p there m = refl

-- the name of a bucket is the name of an item
bucket_found : (o : Option ItemId) (b : ℕ) → option_and_then number_of o ≡ Some b → is_some o ≡ true
bucket_found None b e = absurd (let no : (let x : Option ℕ = None in x) ≡ Some b = e in cc)
bucket_found (Some i) b e = refl

-- LINES that end lawfully: each of their words is right
-- there are words with which the line ends lawfully
abbrev pub Possible : Draft → Form → Type 0
Possible d (done p) = IsLawfulDraft p.draft × IsLawfulMode p.draft p.mode
Possible d (word r more) = (w : List ℕ) × IsFor d r w × Possible d (more (value d r w))
Possible d (optional k f g) = Possible d f ⊎ Possible d g
Possible d (ahead k f g) = Possible d f ⊎ Possible d g

-- each word of a line that ends lawfully is right
abbrev pub Rightly : Draft → Form → Type 0
Rightly d (done p) = Unit {0}
Rightly d (word r more) = (w : List ℕ) → IsFor d r w → Possible d (more (value d r w)) → IsRight d r w × Rightly d (more (value d r w))
Rightly d (optional k f g) = Rightly d f × Rightly d g
Rightly d (ahead k f g) = Rightly d f × Rightly d g

module _ (d : Draft) (m : IsMap d) where
  -- the weight of an item is right
  right_weight : (i : ItemId) (b : ℕ) (w : List ℕ) → d.pending ≡ is_filling b → is_there d.table i ≡ true → IsFor d (weight i) w → IsMap (with_next_item d i (Some (units w))) → IsRight d (weight i) w
  right_weight i b w p there h l =
      let fit : is_weight_for i (weight_of_text w) ≡ true = ap (is_weight_for i) h ∙ weight_fits d i b (units w) p there l in
      passed d (weight i) w (no_brace (λ x. is_weight_for i (weight_of_text x)) w refl refl fit, (not_from_true _ fit, (is_light (with_next_item d i (Some (units w))).table l.lawful, tt)))

  -- a word that is the name of a free item isn't a brace
  item_name : (x : List ℕ) → IsFree d x → is_brace_word x ≡ false
  item_name x fx = name_no_brace x (item_form d.table x m.lawful.rows (found_named d.pending (id_named d.table x) (item_of d x) fx.0))

  -- each word of an item's line is right
  right_item : (any : Bool) → Stage (filling any) d → Rightly d (item_line d)
  right_item any s = (
    λ x fx px. (
      passed d item x (item_name x fx, (not_from_true _ (ap is_some fx.0), (fx.1, tt))),
      λ k fk pk. (right_key d (codes "weight") k fk, λ w fw pw. (right_weight (item_of d x) s.0 w s.1 (listable d x (item_of d x) fx.0).there fw pw.0.map, tt)),
    ),
    λ x fx px. (passed d lone_item x (item_name x fx, (not_from_true _ (ap is_some fx.0), (fx.1, (is_light (with_next_item d (item_of d x) None).table px.0.map.lawful, tt)))), tt),
  )

  -- a word is right that says whether an item or the end follows
  right_item_or_end : (any : Bool) (k : Optional) (w : List ℕ) → IsFor d (item_or_end any k) w → IsRight d (item_or_end any k) w
  right_item_or_end any k w (inl e) = subst (IsRight d (item_or_end any k)) (sym e) (passed d (item_or_end any k) (codes "item") (refl, (refl, tt)))
  right_item_or_end any k w (inr e) = subst (IsRight d (item_or_end any k)) (sym e) (passed d (item_or_end any k) (codes "}") (refl, (refl, tt)))

  -- the name of an algorithm is right
  right_alg : (w : List ℕ) → IsFor d algorithm w → IsRight d algorithm w
  right_alg w (a, e) = subst (IsRight d algorithm) (sym e) (by_alg a)
    where
      by_alg : (a : Alg) → IsRight d algorithm (alg_text a)
      by_alg Straw = passed d algorithm (alg_text Straw) (refl, (refl, tt))
      by_alg Straw2 = passed d algorithm (alg_text Straw2) (refl, (refl, tt))
      by_alg Linked = passed d algorithm (alg_text Linked) (refl, (refl, tt))

  -- the words after the algorithm are right
  right_alg_line : Rightly d (alg_line d)
  right_alg_line = λ a fa pa. (right_alg a fa, (λ h fh ph. (right_key d (codes "hash") h fh, λ z fz pz. (right_number d 0 z fz, tt)), tt))

  -- an id that is in its range and free is right
  right_negative : (w : List ℕ) → IsFor d bucket_id w → 0 < digits_value 10 (drop 1 w) → digits_value 10 (drop 1 w) ≤ FARTHEST_BUCKET_ID → has_bucket_id d (digits_value 10 (drop 1 w)) ≡ false → IsRight d bucket_id w
  right_negative w h some most free =
      let minus : (slice_index w 0 == 45) ≡ true = eq-eqb _ _ h.0 in
      passed d bucket_id w (
        no_brace (λ x. slice_index x 0 == 45) w refl refl minus,
        (not_from_true _ (and_from _ _ (and_from _ _ minus (number_in FARTHEST_BUCKET_ID (drop 1 w) h.1 most)) (lt-ltb 0 (digits_value 10 (drop 1 w)) some)), (free, tt)),
      )

  -- the id of a bucket is right
  right_id : (w : List ℕ) (s : Stage begun d) → IsFor d bucket_id w → IsPending d.setting d.table (pending_with_id (is_begun s.0 s.1) (digits_value 10 (drop 1 w))) → IsRight d bucket_id w
  right_id w s h l = right_negative w h l.1.some l.1.most (or_from _ _ l.1.free (ap (λ (q : Pending). has_pending_id q (digits_value 10 (drop 1 w))) s.2))

  -- the words of the id's line are right
  right_id_line : Stage begun d → Rightly d (id_line d)
  right_id_line s = λ a fa pa. (
    right_key d (codes "{") a fa,
    λ c fc pc. (
      right_key d (codes "id") c fc,
      λ w fw pw. (right_id w s fw (subst (λ (q : Pending). IsPending d.setting d.table (pending_with_id q (digits_value 10 (drop 1 w)))) s.2 pw.0.pending), tt),
    ),
  )

  -- if the line of a class id ends lawfully, then the class id is free
  class_built : (s : Stage numbered d) (w c : List ℕ) → IsLawfulDraft (with_class_id d (digits_value 10 (drop 1 w)) c) → ClassFree d.table s.2 s.3 (record { id = digits_value 10 (drop 1 w); class = c })
  class_built s w c l =
      let new : ShadowData = record { id = digits_value 10 (drop 1 w); class = c } in
      let can = subst (λ (q : Pending). IsPending d.setting d.table (pending_with_class_id q new)) s.4 l.pending in
      class_free d.table s.2 s.3 new can.1

  -- each word of a class id's line is right
  right_class_id : Stage numbered d → Rightly d (class_id_line d)
  right_class_id s = λ w fw pw. (
    let id : ℕ = digits_value 10 (drop 1 w) in
        let f = class_built s w pw.2.0 pw.2.2.0 in
        right_negative w fw f.form.some f.form.most (or_from _ _ f.fresh (ap (λ (q : Pending). has_pending_id q id) s.4 ∙ f.other)),
    λ k fk pk. (
      right_key d (codes "class") k fk,
      λ c fc pc. (
        let f = class_built s w c pc.0 in
            let new : has_class d c ≡ false = ap (λ (q : Pending). list_any (λ (x : ShadowData). bytes_eq x.class c) (pending_class_ids q)) s.4 ∙ f.class in
            passed d id_class c (name_no_brace c f.form.class, (new, tt)),
        tt,
      ),
    ),
  )

  -- a word is right that says whether a class id or the algorithm follows
  right_id_or_alg : (s : Stage numbered d) (w : List ℕ) → IsFor d id_or_alg w → Possible d (id_or_alg_line d (bytes_eq w (codes "id"))) → IsRight d id_or_alg w
  right_id_or_alg s w (inl e) p =
      let q : Possible d (class_id_line d) = subst (λ (x : List ℕ). Possible d (id_or_alg_line d (bytes_eq x (codes "id")))) e p in
      let f = class_built s q.0 q.2.2.0 q.2.2.2.0 in
      let few : is_full_of_class_ids d ≡ false = ap (λ (x : Pending). nat_le MOST_CLASS_IDS (length (pending_class_ids x))) s.4 ∙ f.few in
      subst (IsRight d id_or_alg) (sym e) (passed d id_or_alg (codes "id") (refl, (few, tt)))
  right_id_or_alg s w (inr e) p = subst (IsRight d id_or_alg) (sym e) (passed d id_or_alg (codes "alg") (refl, (refl, tt)))

  -- each word of a class id's line or of the algorithm's line is right
  right_numbered : (k : Optional) → Stage numbered d → Rightly d (line_forms d k numbered)
  right_numbered k s = λ w fw pw. (right_id_or_alg s w fw pw, by_it (bytes_eq w (codes "id")))
    where
      by_it : (b : Bool) → Rightly d (id_or_alg_line d b)
      by_it true = right_class_id s
      by_it false = right_alg_line

  -- a name that no item has is right as a new name
  right_name : (w : List ℕ) → IsName w → has_name d w ≡ false → IsRight d new_name w
  right_name w form free = passed d new_name w (name_no_brace w form, (free, tt))

  -- the name of a new bucket is right
  right_bucket : d.pending ≡ nothing → (k : ℕ) → Rightly d (bucket_line d k)
  right_bucket idle k = λ x fx px. (right_name x px.0.pending.form (or_from _ _ px.0.pending.free (ap (λ (q : Pending). has_pending_name q x) idle)), tt)

  -- if a device's line ends lawfully, then its number and its name are free
  device_built : d.pending ≡ nothing → (n : ℕ) (x : List ℕ) → Possible d (device_class d n x) → DeviceFree d n x
  device_built idle n x (inl h) = device_free d n x (Some h.2.0) idle h.2.2.0.map
  device_built idle n x (inr h) = device_free d n x None idle h.0.map

  -- each word of a device's line is right
  right_device : d.pending ≡ nothing → Rightly d (device_line d)
  right_device idle = λ n fn pn. (
    let f = device_built idle (digits_value 10 n) pn.0 pn.2 in
        let le : digits_value 10 n ≤ LAST_DEVICE_ID = omega (arith, f.most) in
        passed d device_id n (digits_no_brace n fn, (not_from_true _ (number_in LAST_DEVICE_ID n fn le), (f.number, tt))),
    λ x fx px.
        let f = device_built idle (digits_value 10 n) x px in (
          right_name x f.form f.name,
          (λ k fk pk. (right_key d (codes "class") k fk, λ c fc pc. (right_any d _ c (class_form d (digits_value 10 n) x c pc.0.map), tt)), tt),
        ),
  )

  -- each word of a tunable's line is right
  right_tunable : Rightly d (tunable_line d)
  right_tunable = λ x fx px. (
    let f = tunable_free d x (digits_value 10 px.0) px.2.0.map in passed d tunable_name x (name_no_brace x f.tunable.name, (f.name, tt)),
    λ n fn pn. (right_number d LARGEST_TUNABLE n fn, tt),
  )

  -- each word of a type's line is right
  right_type : Rightly d (type_line d)
  right_type = λ n fn pn. (
    let f = kind_free d (digits_value 10 n) pn.0 pn.2.0.map in
        passed d type_number n (digits_no_brace n fn, (not_from_true _ (number_in LAST_TYPE n fn f.kind.number), (f.number, tt))),
    λ x fx px.
        let f = kind_free d (digits_value 10 n) x px.0.map in
        (passed d (type_name (digits_value 10 n)) x (or_from _ _ (name_no_brace x f.kind.name) (allowed (digits_value 10 n) (is_reserved x) f.kind.free), (f.name, tt)), tt),
  )
    where
      allowed : (n : ℕ) (b : Bool) → (0 < n → b ≡ false) → (b && not (n == 0)) ≡ false
      allowed n false f = refl
      allowed n true f = by_it (n == 0) refl
        where
          by_it : (c : Bool) → (n == 0) ≡ c → not c ≡ false
          by_it true e = refl
          by_it false e = let some : 0 < n = grind (arith, nat_tests) in let no = f some in absurd cc

  -- if a rule's head ends lawfully, then the rule was free before it, with some sizes
  abbrev Headed : List ℕ → ℕ → List ℕ → Type 0
  Headed x n k = (least : Option ℕ) × (most : Option ℕ) × RuleFree d (new_rule x n k least most)

  max_built : (x : List ℕ) (n : ℕ) (k : List ℕ) (least : Option ℕ) → Possible d (max_size d x n k least) → Headed x n k
  max_built x n k least (inl h) = (least, Some (digits_value 10 h.2.0), rule_free d (new_rule x n k least (Some (digits_value 10 h.2.0))) h.2.2.1)
  max_built x n k least (inr h) = (least, None, rule_free d (new_rule x n k least None) h.1)

  head_built : (x : List ℕ) (n : ℕ) (k : List ℕ) → Possible d (sizes d x n k) → Headed x n k
  head_built x n k (inl h) = max_built x n k (Some (digits_value 10 h.2.0)) h.2.2
  head_built x n k (inr h) = max_built x n k None h

  -- the word `id` or `ruleset` of a rule is right
  right_rule_id_key : (w : List ℕ) → IsFor d rule_id_key w → IsRight d rule_id_key w
  right_rule_id_key w (inl e) = subst (IsRight d rule_id_key) (sym e) (passed d rule_id_key (codes "id") (refl, tt))
  right_rule_id_key w (inr e) = subst (IsRight d rule_id_key) (sym e) (passed d rule_id_key (codes "ruleset") (refl, tt))

  right_max : (x : List ℕ) (n : ℕ) (k : List ℕ) (least : Option ℕ) → Rightly d (max_size d x n k least)
  right_max x n k least = (λ e fe pe. (right_key d (codes "max_size") e fe, λ u fu pu. (right_number d LARGEST_RULE_NUMBER u fu, tt)), tt)

  -- each word of a rule's head is right
  right_rule : Rightly d (rule_line d)
  right_rule = λ x fx px. (
    let f = (head_built x (digits_value 10 px.2.2.0) px.2.2.2.2.0 px.2.2.2.2.2).2 in passed d rule_name x (name_no_brace x f.rule.name, (f.name, tt)),
    λ a fa pa. (
      right_key d (codes "{") a fa,
      λ b fb pb. (
        right_rule_id_key b fb,
        λ n fn pn. (
          let f = (head_built x (digits_value 10 n) pn.2.0 pn.2.2).2 in passed d rule_id n (digits_no_brace n fn, (not_from_true _ (number_in LARGEST_RULE_NUMBER n fn f.rule.id), (f.id, tt))),
          λ c fc pc. (
            right_key d (codes "type") c fc,
            λ k fk pk. (
              right_any d _ k (head_built x (digits_value 10 n) k pk).2.rule.kind,
              (λ e fe pe. (right_key d (codes "min_size") e fe, λ u fu pu. (right_number d LARGEST_RULE_NUMBER u fu, right_max x (digits_value 10 n) k (Some (digits_value 10 u)))), right_max x (digits_value 10 n) k None),
            ),
          ),
        ),
      ),
    ),
  )

  module _ (r : RuleData) where
    -- if a step's line ends lawfully, then there was room for the step
    step_built : (w : StepWord) → Possible d (step_behind d r w) → (s : StepData) × StepFree d r s
    step_built takes (b, fb, inl h) = (take (bucket_of_word d b) (Some h.2.0), step_free d r (take (bucket_of_word d b) (Some h.2.0)) h.2.2.1)
    step_built takes (b, fb, inr h) = (take (bucket_of_word d b) None, step_free d r (take (bucket_of_word d b) None) h.1)
    step_built (chooses leaf) h = let s : StepData = choose leaf (bytes_eq h.0 (codes "firstn")) (signed_value h.2.0) h.2.2.2.0 in (s, step_free d r s h.2.2.2.2.1)
    step_built (sets x) h = (set x (digits_value 10 h.0), step_free d r (set x (digits_value 10 h.0)) h.2.1)
    step_built emits h = (emit, step_free d r emit h.1)

    -- a word is right that says whether a step or the end of the rule follows
    right_step_or_end : (k : Optional) (w : List ℕ) → IsFor d (step_or_end (length r.steps) k) w → Possible d (step_or_brace d r (bytes_eq w (codes "step"))) → IsRight d (step_or_end (length r.steps) k) w
    right_step_or_end k w (inl e) p =
        let q : Possible d (step_or_brace d r true) = subst (λ (x : List ℕ). Possible d (step_or_brace d r (bytes_eq x (codes "step")))) e p in
        subst (IsRight d (step_or_end (length r.steps) k)) (sym e) (passed d (step_or_end (length r.steps) k) (codes "step") (refl, ((step_built (step_said q.0) q.2).1.few, tt)))
    right_step_or_end k w (inr e) p = subst (IsRight d (step_or_end (length r.steps) k)) (sym e) (passed d (step_or_end (length r.steps) k) (codes "}") (refl, (refl, tt)))

    -- the first word of a step is right
    right_step_word : (w : List ℕ) → IsFor d step_word w → IsRight d step_word w
    right_step_word w (inl e) = subst (IsRight d step_word) (sym e) (passed d step_word (codes "take") (refl, (refl, tt)))
    right_step_word w (inr (inl e)) = subst (IsRight d step_word) (sym e) (passed d step_word (codes "choose") (refl, (refl, tt)))
    right_step_word w (inr (inr (inl e))) = subst (IsRight d step_word) (sym e) (passed d step_word (codes "chooseleaf") (refl, (refl, tt)))
    right_step_word w (inr (inr (inr (inl e)))) = subst (IsRight d step_word) (sym e) (passed d step_word (codes "emit") (refl, (refl, tt)))
    right_step_word w (inr (inr (inr (inr h)))) =
        let begins : is_step_word w ≡ true = or_right (bytes_eq w (codes "take")) _ (or_right (is_either w (codes "choose") (codes "chooseleaf")) _ (or_right (bytes_eq w (codes "emit")) _ h)) in
        passed d step_word w (not_from_true _ (ap (λ b. b || bytes_eq w (codes "choosemsr")) begins), (other (bytes_eq w (codes "choosemsr")) refl, tt))
      where
        other : (b : Bool) → bytes_eq w (codes "choosemsr") ≡ b → bytes_eq w (codes "choosemsr") ≡ false
        other true e = let no : true ≡ false = sym h ∙ ap (λ (x : List ℕ). starts_with nat_eq x (codes "set_")) ((bytes_eq-Decides w _).0 e) in absurd cc
        other false e = e

    -- the word `firstn` or `indep` is right
    right_order : (w : List ℕ) → IsFor d step_order w → IsRight d step_order w
    right_order w (inl e) = subst (IsRight d step_order) (sym e) (passed d step_order (codes "firstn") (refl, tt))
    right_order w (inr e) = subst (IsRight d step_order) (sym e) (passed d step_order (codes "indep") (refl, tt))

    -- the name of a bucket that a step takes is right
    right_taken : (w : List ℕ) → IsFor d taken_bucket w → IsRight d taken_bucket w
    right_taken w h =
        let found : is_some (item_named d w) ≡ true = bucket_found (item_named d w) (bucket_of_word d w) h in
        passed d taken_bucket w (name_no_brace w (item_form d.table w m.lawful.rows (named (id_named d.table w) found)), (not_from_true _ (ap is_some h), tt))
      where
        named : (o : Option ItemId) → is_some (option_and_then (closed_item d.pending) o) ≡ true → is_some o ≡ true
        named None e = e
        named (Some i) e = refl

    -- the name of a type in a step is right
    right_kind : (w : List ℕ) → is_some (kind_number d.setting w) ≡ true → IsRight d step_type w
    right_kind w known = passed d step_type w (name_no_brace w (kind_form d.setting.kinds w m.fits.setting.kinds known), (not_from_true _ known, tt))

    -- each word of a step is right
    right_step : (w : StepWord) → Rightly d (step_behind d r w)
    right_step takes = λ b fb pb. (right_taken b fb, (λ k fk pk. (right_key d (codes "class") k fk, λ c fc pc. (right_any d _ c (step_free d r (take (bucket_of_word d b) (Some c)) pc.1).step, tt)), tt))
    right_step (chooses leaf) = λ o fo po. (
      right_order o fo,
      λ n fn pn. (
        passed d step_count n (no_brace is_signed n refl refl fn, (not_from_true _ fn, tt)),
        λ t ft pt. (
          right_key d (codes "type") t ft,
          λ k fk pk. (let f = step_free d r (choose leaf (bytes_eq o (codes "firstn")) (signed_value n) k) pk.1 in right_kind k f.step.known, tt),
        ),
      ),
    )
    right_step (sets x) = λ n fn pn. (right_number d LARGEST_RULE_NUMBER n fn, tt)
    right_step emits = tt

    -- each word of a step's line or of the end of the rule is right
    right_ruled : (k : Optional) → Rightly d (line_forms d k (ruled r))
    right_ruled k = λ w fw pw. (right_step_or_end k w fw pw, by_it (bytes_eq w (codes "step")))
      where
        by_it : (b : Bool) → Rightly d (step_or_brace d r b)
        by_it true = λ w fw pw. (right_step_word w fw, right_step (step_said w))
        by_it false = tt

  -- the first word of a statement is right
  abbrev Opened : Bool → List ℕ → Type 0
  Opened late w = Possible d (statement d (value d (opening late Nothing) w)) → IsRight d (opening late Nothing) w × Rightly d (statement d (value d (opening late Nothing) w))

  -- the first word of a tunable's line is right
  opened_tunable : Opened false (codes "tunable")
  opened_tunable = λ p. let f = tunable_free d p.0 (digits_value 10 p.2.0) p.2.2.0.map in (passed d (opening false Nothing) (codes "tunable") (refl, (refl, (refl, (f.few, tt)))), right_tunable)

  -- the first word of a device's line is right
  opened_device : d.pending ≡ nothing → Opened false (codes "device")
  opened_device idle = λ p. let f = device_built idle (digits_value 10 p.0) p.2.0 p.2.2 in (passed d (opening false Nothing) (codes "device") (refl, (refl, (refl, (f.few, tt)))), right_device idle)

  -- the first word of a type's line is right
  opened_type : Opened false (codes "type")
  opened_type = λ p. let f = kind_free d (digits_value 10 p.0) p.2.0 p.2.2.0.map in (passed d (opening false Nothing) (codes "type") (refl, (refl, (refl, (f.few, tt)))), right_type)

  -- the first word of a rule is right
  opened_rule : (late : Bool) → Opened late (codes "rule")
  opened_rule late = λ p.
      let f = (head_built p.0 (digits_value 10 p.2.2.2.0) p.2.2.2.2.2.0 p.2.2.2.2.2.2).2 in
      (passed d (opening late Nothing) (codes "rule") (and_right late false refl, (refl, (refl, (f.few, tt)))), right_rule)

  -- the first word of a bucket is right
  opened_bucket : d.pending ≡ nothing → (late : Bool) (w : List ℕ) → 0 < kind_of_word d w → Opened late w
  opened_bucket idle late w some =
      let t = type_named d.setting.kinds w m.fits.setting.kinds some in
      let n = no_key w t.free in
      let is : value d (opening late Nothing) w ≡ statement_kinds.Bucket (kind_of_word d w) = opens d w (kind_of_word d w) t.free refl in
      subst (λ (o : StatementKind). Possible d (statement d o) → IsRight d (opening late Nothing) w × Rightly d (statement d o)) (sym is) (λ p.
      let known : is_bucket_kind d.setting (kind_of_word d w) ≡ true = p.2.0.pending.known in
      let full : is_full_of_buckets d ≡ false = lt-leb MOST_BUCKETS (bucket_count d.table) p.2.0.pending.few in (
        passed d (opening late Nothing) w (
          or_from _ _ (name_no_brace w t.form) (or_from _ _ n.class (and_right late _ (or_from _ _ n.tunable (or_from _ _ n.device n.kind)))),
          (not_from_true _ (or_right _ _ (or_right _ _ known)), (n.weights, (rw (n.tunable, n.device, n.kind, n.rule) full, tt))),
        ),
        right_bucket idle (kind_of_word d w),
      ))

  -- each word of any statement is right
  right_statement : (late : Bool) → d.pending ≡ nothing → Rightly d (word (opening late Nothing) (statement d))
  right_statement late idle = λ w h. by_word late w h
    where
      by_early : (w : List ℕ) → (w ≡ codes "tunable") ⊎ ((w ≡ codes "device") ⊎ (w ≡ codes "type")) → Opened false w
      by_early w (inl e) = subst (Opened false) (sym e) opened_tunable
      by_early w (inr (inl e)) = subst (Opened false) (sym e) (opened_device idle)
      by_early w (inr (inr e)) = subst (Opened false) (sym e) opened_type

      by_word : (late : Bool) (w : List ℕ) → IsFor d (opening late Nothing) w → Opened late w
      by_word late w (inl h) = subst (λ (b : Bool). Opened b w) (sym h.0) (by_early w h.1)
      by_word late w (inr (inl e)) = subst (Opened late) (sym e) (opened_rule late)
      by_word late w (inr (inr some)) = opened_bucket idle late w some

  -- each word of each line that ends lawfully is right
  pub right_lines : (mode : Mode) (k : Optional) → Stage mode d → Rightly d (line_forms d k mode)
  right_lines first k s = λ w fw pw. let h = right_statement false s w fw pw in (opening_right d false Nothing k w h.0, h.1)
  right_lines second k s = λ w fw pw. let h = right_statement true s w fw pw in (opening_right d true Nothing k w h.0, h.1)
  right_lines begun k s = right_id_line s
  right_lines numbered k s = right_numbered k s
  right_lines (filling any) k s = λ w fw pw. (right_item_or_end any k w fw, by_it (bytes_eq w (codes "item")))
    where
      by_it : (b : Bool) → Rightly d (item_or_brace d b)
      by_it true = right_item any s
      by_it false = tt
  right_lines (ruled r) k s = right_ruled r k
