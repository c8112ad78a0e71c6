-- Proves that if what is built after a line is lawful, then what was built before the line is lawful. A draft (`Draft`) is what the lines so far have built. A form (`Form`) says which words the rest of a line must have. A state (`State`) is a place in the text: between two lines, or in a line with the form of its rest.
use Rattle.std.proofs.Common.{◌≡◌, ℕ, Bool, true, false, List, [], ◌∷◌, ◌++◌, Option, Some, None, refl, sym, ap, subst, inl, inr}
use Rattle.std.specs.Prelude.{All, bytes_eq, codes, drop}
use Rattle.std.specs.Str.Parse.{digits_value}
use Rattle.crush_units.specs.declared.alg.Alg.{Alg}
use Rattle.crush_units.specs.declared.id.ItemId.{ItemId}
use Rattle.crush_model.specs.Items.{ShadowData}
use Rattle.crush_model.specs.Table.{Row}
use Rattle.crush_model.specs.Lawful.{Lawful}
use Rattle.crush_edits.specs.Setting.{take, choose, set, emit, RuleData, taken_buckets}
use Rattle.crush_edits.specs.Fits.{IsKind, HasKind}
use Rattle.crush_map.specs.WrittenItems.{weight_or_one, put_below}
use Rattle.crush_builder.specs.Built.{Draft, Pending, nothing, with_device, with_alg, with_next_item, pending_with_id, pending_with_class_id, pending_row, table_with_item, add_rule}
use Rattle.crush_builder.specs.Building.{IsPending}
use Rattle.crush_builder.proofs.RowSteps.{new_device, new_bucket}
use Rattle.crush_print.proofs.PrintedTexts.{All-left}
use Rattle.crush_text.specs.declared.statement_kind.StatementKind.{StatementKind}
use Rattle.crush_text.specs.declared.statement_kind.StatementKind.TheVariants as statement_kinds
use Rattle.crush_units.specs.Numbers.{signed_value}
use Rattle.crush_text.specs.Role.{opening, StepWord, takes, chooses, sets, emits, item_of, bucket_of_word, units, opened, step_said}
use Rattle.crush_text.specs.Form.{Mode, first, second, begun, numbered, filling, ruled, word}
use Rattle.crush_text.specs.Grammar.{device_class, id_line, class_id_line, alg_line, id_or_alg_line, item_line, item_or_brace, max_size, sizes, step_behind, step_or_brace, statement, line_forms}
use Rattle.crush_text.specs.Document.{IsMap}
use Rattle.crush_laws.specs.Admitted.{IsLawfulDraft, IsLawfulMode, IsFree}
use Rattle.crush_laws.proofs.Admitted.{Possible}
use Rattle.crush_laws.proofs.Allowed.{last_of}
use Rattle.crush_laws.proofs.BuiltHeads.{front_number}
use Rattle.crush_laws.proofs.EarlierTables.{row_back, item_back, types_back}
use Rattle.crush_laws.proofs.EarlierSettings.{IsEarly, kind_back, tunable_back, rule_back, step_back}
use Rattle.crush_laws.proofs.EarlierBuckets.{begin_back, number_back}
use Rattle.crush_laws.proofs.Shapes.{IsTied, Shape, is_early, early_opening}
use Rattle.crush_text.specs.declared.expected.Optional.TheVariants.{Nothing}
use Rattle.crush_text.specs.declared.expected.Optional.{Optional}

-- a map for which nothing is pending is a lawful draft
pub idle_draft : (d : Draft) → d.pending ≡ nothing → IsMap d → IsLawfulDraft d
idle_draft d idle m = record { map = m; pending = subst (IsPending d.setting d.table) (sym idle) tt }

module _ (d : Draft) where
  -- a device's line doesn't change the types
  class_kinds : (n : ℕ) (x : List ℕ) → Possible d (device_class d n x) → All IsKind d.setting.kinds
  class_kinds n x (inl h) = h.2.2.0.map.fits.setting.kinds
  class_kinds n x (inr h) = h.0.map.fits.setting.kinds

  -- if a rule's head ends lawfully, then what was built before the head is a map
  max_map : (x : List ℕ) (n : ℕ) (k : List ℕ) (least : Option ℕ) → Possible d (max_size d x n k least) → IsMap d
  max_map x n k least (inl h) = h.2.2.0.map
  max_map x n k least (inr h) = h.0.map

  -- the same for a head with sizes or without
  head_map : (x : List ℕ) (n : ℕ) (k : List ℕ) → Possible d (sizes d x n k) → IsMap d
  head_map x n k (inl h) = max_map x n k (Some (digits_value 10 h.2.0)) h.2.2
  head_map x n k (inr h) = max_map x n k None h

  -- the types after a statement begin with the types before it
  kinds_before : (o : StatementKind) → Possible d (statement d o) → All IsKind d.setting.kinds
  kinds_before statement_kinds.Tunable p = p.2.2.0.map.fits.setting.kinds
  kinds_before statement_kinds.Type p = All-left IsKind d.setting.kinds (record { number = digits_value 10 p.0; name = p.2.0 } ∷ []) p.2.2.0.map.fits.setting.kinds
  kinds_before statement_kinds.Device p = class_kinds (digits_value 10 p.0) p.2.0 p.2.2
  kinds_before (statement_kinds.Bucket k) p = p.2.0.map.fits.setting.kinds
  kinds_before statement_kinds.Rule p = (head_map p.0 (digits_value 10 p.2.2.2.0) p.2.2.2.2.2.0 p.2.2.2.2.2.2).fits.setting.kinds

  module _ (tied : IsTied (taken_buckets d.setting) d.table) where
    -- before a device's line, the map is lawful
    device_back : (n : ℕ) (x : List ℕ) (class : Option (List ℕ)) → IsMap (with_device d n x class) → IsMap d
    device_back n x class m =
        let row : Row = new_device n x class in
        record {
          lawful = row_back d.table row tied.parents m.lawful;
          fits = record { setting = m.fits.setting; types = All-left (HasKind d.setting) d.table (row ∷ []) m.fits.types; taken = tied.taken };
        }

    -- the same for a device with a class or without
    class_back : (n : ℕ) (x : List ℕ) → Possible d (device_class d n x) → IsMap d
    class_back n x (inl h) = device_back n x (Some h.2.0) h.2.2.0.map
    class_back n x (inr h) = device_back n x None h.0.map

    -- before a statement, the map is lawful
    statement_back : (o : StatementKind) → (is_early o ≡ true → IsEarly d) → Possible d (statement d o) → IsMap d
    statement_back statement_kinds.Tunable early p = tunable_back d p.0 (digits_value 10 p.2.0) (early refl) p.2.2.0.map
    statement_back statement_kinds.Type early p = kind_back d (digits_value 10 p.0) p.2.0 (early refl) p.2.2.0.map
    statement_back statement_kinds.Device early p = class_back (digits_value 10 p.0) p.2.0 p.2.2
    statement_back (statement_kinds.Bucket k) early p = record { lawful = p.2.0.map.lawful; fits = p.2.0.map.fits }
    statement_back statement_kinds.Rule early p = head_map p.0 (digits_value 10 p.2.2.2.0) p.2.2.2.2.2.0 p.2.2.2.2.2.2

    -- the same for a statement, given its first word
    opening_back : (late : Bool) → (late ≡ false → All IsKind d.setting.kinds → IsEarly d) → Possible d (word (opening late Nothing) (statement d)) → IsMap d
    opening_back late early (w, fw, p) = statement_back (opened d w) (λ is. early_opening d late early w fw is (kinds_before (opened d w) p)) p

    -- before a bucket's id, the draft is lawful
    id_back : Shape begun d → Possible d (id_line d) → IsLawfulDraft d
    id_back s p =
        let l = p.2.2.2.0 in
        let both = subst (λ (q : Pending). IsPending d.setting d.table (pending_with_id q (digits_value 10 (drop 1 p.2.2.0)))) s.2 l.pending in
        record { map = record { lawful = l.map.lawful; fits = l.map.fits }; pending = subst (IsPending d.setting d.table) (sym s.2) both.0 }

    -- before a class id, the draft is lawful
    class_id_back : Shape numbered d → Possible d (class_id_line d) → IsLawfulDraft d
    class_id_back s p =
        let l = p.2.2.2.0 in
        let new : ShadowData = record { id = digits_value 10 (drop 1 p.0); class = p.2.2.0 } in
        let both = subst (λ (q : Pending). IsPending d.setting d.table (pending_with_class_id q new)) s.4 l.pending in
        record { map = record { lawful = l.map.lawful; fits = l.map.fits }; pending = subst (IsPending d.setting d.table) (sym s.4) (both.0, front_number d.table s.2 s.3 (new ∷ []) both.1) }

    -- before the algorithm, the draft is lawful
    rowed_back : (a : Alg) → Shape numbered d → IsMap (with_alg d a) → IsLawfulDraft d
    rowed_back a s m =
        let row : Row = new_bucket s.0 s.1 s.2 s.3 a in
        let is : (with_alg d a).table ≡ d.table ++ row ∷ [] = ap (λ (q : Pending). d.table ++ pending_row q a) s.4 in
        let l = subst Lawful is m.lawful in
        let types = subst (All (HasKind d.setting)) is m.fits.types in
        let known : HasKind d.setting row = last_of (HasKind d.setting) d.table row types in
        record {
          map = record {
            lawful = row_back d.table row tied.parents l;
            fits = record { setting = m.fits.setting; types = All-left (HasKind d.setting) d.table (row ∷ []) types; taken = tied.taken };
          };
          pending = subst (IsPending d.setting d.table) (sym s.4) (begin_back d.setting d.table s.0 s.1 s.2 s.3 a l known, number_back d.setting d.table s.0 s.1 s.2 s.3 a l);
        }

    -- the same for an algorithm with `hash` or without
    alg_back : Shape numbered d → Possible d (alg_line d) → IsLawfulDraft d
    alg_back s (a, fa, inl h) = rowed_back _ s h.2.2.0.map
    alg_back s (a, fa, inr h) = rowed_back _ s h.0.map

    -- the bucket that is being filled is a root of a lawful table
    filling_draft : (any : Bool) → Shape (filling any) d → IsMap d → IsLawfulDraft d
    filling_draft any s m = record { map = m; pending = subst (IsPending d.setting d.table) (sym s.1) (s.3 m.lawful) }

    -- before an item's line, the map is lawful
    added_back : (any : Bool) (x : List ℕ) (w : Option ℕ) → Shape (filling any) d → IsFree d x → IsMap (with_next_item d (item_of d x) w) → IsMap d
    added_back any x w s fx m =
        let i : ItemId = item_of d x in
        let v : ℕ = weight_or_one w in
        let is : (with_next_item d i w).table ≡ put_below s.0 i v d.table = ap (λ (q : Pending). table_with_item q i v d.table) s.1 in
        let l = subst Lawful is m.lawful in
        record {
          lawful = item_back d.table i s.0 v tied.loose fx.1 l;
          fits = record { setting = m.fits.setting; types = types_back d.table i s.0 v d.setting tied.loose fx.1 l (subst (All (HasKind d.setting)) is m.fits.types); taken = tied.taken };
        }

    -- the same for an item with a weight or without
    item_map : (any : Bool) → Shape (filling any) d → Possible d (item_line d) → IsMap d
    item_map any s (inl (x, fx, h)) = added_back any x (Some (units h.2.0)) s fx h.2.2.0.map
    item_map any s (inr (x, fx, h)) = added_back any x None s fx h.0.map

    -- before a step, the map is lawful, and so is the map with the rule that was read so far
    step_before : (r : RuleData) (w : StepWord) → Shape (ruled r) d → Possible d (step_behind d r w) → IsMap d × IsMap (add_rule d r)
    step_before r takes s (b, fb, inl h) = (h.2.2.0.map, step_back d r (take (bucket_of_word d b) (Some h.2.0)) h.2.2.0.map s.1 h.2.2.1)
    step_before r takes s (b, fb, inr h) = (h.0.map, step_back d r (take (bucket_of_word d b) None) h.0.map s.1 h.1)
    step_before r (chooses leaf) s h = (h.2.2.2.2.0.map, step_back d r (choose leaf (bytes_eq h.0 (codes "firstn")) (signed_value h.2.0) h.2.2.2.0) h.2.2.2.2.0.map s.1 h.2.2.2.2.1)
    step_before r (sets x) s h = (h.2.0.map, step_back d r (set x (digits_value 10 h.0)) h.2.0.map s.1 h.2.1)
    step_before r emits s h = (h.0.map, step_back d r emit h.0.map s.1 h.1)

    -- before each line, the draft and the mode are lawful
    pub line_back : (mode : Mode) (k : Optional) → Shape mode d → Possible d (line_forms d k mode) → IsLawfulDraft d × IsLawfulMode d mode
    line_back first k s p = (idle_draft d s.0 (opening_back false (λ _. s.1) p), tt)
    line_back second k s p = (idle_draft d s (opening_back true (λ e. let no : true ≡ false = e in absurd cc) p), tt)
    line_back begun k s p = (id_back s p, tt)
    line_back numbered k s (w, fw, p) = (by_it (bytes_eq w (codes "id")) p, tt)
      where
        by_it : (b : Bool) → Possible d (id_or_alg_line d b) → IsLawfulDraft d
        by_it true q = class_id_back s q
        by_it false q = alg_back s q
    line_back (filling any) k s (w, fw, p) = (filling_draft any s (by_it (bytes_eq w (codes "item")) p), tt)
      where
        by_it : (b : Bool) → Possible d (item_or_brace d b) → IsMap d
        by_it true q = item_map any s q
        by_it false q = record { lawful = q.0.map.lawful; fits = q.0.map.fits }
    line_back (ruled r) k s (w, fw, p) = let both = by_it (bytes_eq w (codes "step")) p in (idle_draft d s.0 both.0, both.1)
      where
        by_it : (b : Bool) → Possible d (step_or_brace d r b) → IsMap d × IsMap (add_rule d r)
        by_it true (v, fv, q) = step_before r (step_said v) s q
        by_it false q = (rule_back d r tied.taken q.0.map, q.0.map)
