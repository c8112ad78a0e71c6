-- Proves that the words of a text preserve some properties by their forms alone, whether or not the map is lawful. A draft (`Draft`) is what the lines so far have built. A form (`Form`) says which words the rest of a line must have. A state (`State`) is a place in the text: between two lines, or in a line with the form of its rest. A progress (`Progress`) is a draft with the mode (`Mode`), which says which lines may come next.
use Rattle.std.proofs.Common.{◌≡◌, ℕ, Bool, true, false, List, [], ◌∷◌, ◌++◌, Option, Some, None, refl, sym, ap, subst, ◌∙◌, arith, inl, inr}
use Rattle.std.proofs.lemmas.Grind.{flat_map-append}
use Rattle.std.proofs.lemmas.List.Elements.{All-nil, All-cons, All-push, All-append, All-filter, All-map, All-weaker}
use Rattle.std.specs.Prelude.{All, IfSome, bytes_eq, codes, drop, filter, map, not}
use Rattle.std.specs.Str.Parse.{digits_value}
use Rattle.crush_units.specs.declared.alg.Alg.{Alg}
use Rattle.crush_units.specs.declared.id.ItemId.{ItemId}
use Rattle.crush_units.specs.declared.id.ItemId.TheVariants.{Bucket}
use Rattle.crush_units.specs.Id.{same_id}
use Rattle.crush_units.proofs.Ids.{same_id_refl}
use Rattle.crush_model.specs.Items.{ShadowData}
use Rattle.crush_model.specs.Table.{Row, is_there}
use Rattle.crush_model.specs.Columns.{without_row}
use Rattle.crush_model.specs.Lawful.{Lawful, HasParent}
use Rattle.crush_model.proofs.Attached.{is_there-append}
use Rattle.crush_model.specs.Count.{one_if}
use Rattle.crush_model.proofs.Found.{times-cons, times-append, times-is_there}
use Rattle.crush_edits.specs.Setting.{StepData, take, choose, set, emit, RuleData, bucket_taken, taken_buckets}
use Rattle.crush_edits.specs.Fits.{IsKind, IsThere}
use Rattle.crush_map.specs.WrittenItems.{weight_or_one, placed_row, put_below}
use Rattle.crush_builder.specs.Built.{Draft, Pending, nothing, begun as is_begun, numbered as is_numbered, filling as is_filling, with_device, with_alg, with_next_item, pending_with_id, pending_with_class_id, pending_row, pending_with_alg, table_with_item, add_rule}
use Rattle.crush_builder.specs.Building.{IsRoot, is_open}
use Rattle.crush_builder.proofs.ItemSteps.{root_put}
use Rattle.crush_builder.proofs.RowSteps.{new_device, new_bucket}
use Rattle.crush_print.proofs.PrintedTexts.{All-left}
use Rattle.crush_text.specs.declared.statement_kind.StatementKind.{StatementKind}
use Rattle.crush_text.specs.declared.statement_kind.StatementKind.TheVariants as statement_kinds
use Rattle.crush_units.specs.Numbers.{signed_value}
use Rattle.crush_text.specs.Role.{opening, taken_bucket, StepWord, takes, chooses, sets, emits, value, kind_of_word, item_of, bucket_of_word, units, opened, step_said}
use Rattle.crush_text.specs.Form.{Mode, first, second, begun, numbered, filling, ruled, Progress, at, Form, done, word, optional, ahead, passing}
use Rattle.crush_text.specs.Grammar.{device_line, bucket_line, tunable_line, type_line, rule_line, id_line, class_id_line, alg_line, id_or_alg_line, item_line, item_or_brace, new_rule, with_step, step_behind, step_or_brace, statement, line_forms}
use Rattle.crush_laws.specs.Admitted.{IsFor, IsFree}
use Rattle.crush_laws.proofs.Allowed.{type_named}
use Rattle.crush_laws.proofs.Admitted.{opens}
use Rattle.crush_laws.proofs.Keeps.{bucket_there}
use Rattle.crush_laws.proofs.Lawful.{listable, made_root}
use Rattle.crush_laws.proofs.Ruled.{taken_by}
use Rattle.crush_laws.proofs.EarlierTables.{IsLoose, there_put, item_back}
use Rattle.crush_laws.proofs.EarlierSettings.{IsEarly}
use Rattle.crush_laws.proofs.EarlierBuckets.{id_free}
use Rattle.crush_text.specs.declared.expected.Optional.TheVariants.{Nothing}
use Rattle.crush_text.specs.declared.expected.Optional.{Optional}

-- the table has all parents and all buckets that rules take (us), and each item without a parent has weight 0
pub record IsTied (us : List ℕ) (t : List Row) : Type 0 where
  pub parents : All (HasParent t) t
  pub loose : All IsLoose t
  pub taken : All (IsThere t) us

-- a parent that is in a table is also in a table with more rows
parent_kept : (t u : List Row) → ((i : ItemId) → is_there t i ≡ true → is_there u i ≡ true) → (r : Row) → HasParent t r → HasParent u r
parent_kept t u more r h = by_parent r.parent h
  where
    by_parent : (o : Option ℕ) → IfSome o (λ (p : ℕ). is_there t (Bucket p) ≡ true) → IfSome o (λ (p : ℕ). is_there u (Bucket p) ≡ true)
    by_parent None k = k
    by_parent (Some p) k = more (Bucket p) k

-- the same with one more row, which has no parent
tied_push : (us : List ℕ) (t : List Row) (r : Row) → r.parent ≡ None → r.weight ≡ 0 → IsTied us t → IsTied us (t ++ r ∷ [])
tied_push us t r root light h =
    let u : List Row = t ++ r ∷ [] in
    record {
      parents = All-push (HasParent u) t r (All-weaker (HasParent t) (HasParent u) (parent_kept t u (is_there-append t (r ∷ []))) t h.parents) (subst (λ (o : Option ℕ). IfSome o (λ (p : ℕ). is_there u (Bucket p) ≡ true)) (sym root) tt);
      loose = All-push IsLoose t r h.loose (λ _. light);
      taken = All-weaker (IsThere t) (IsThere u) (λ b. is_there-append t (r ∷ []) (Bucket b)) us h.taken;
    }

-- the table has the item of its last row
last_there : (t : List Row) (r : Row) (i : ItemId) → same_id r.id i ≡ true → is_there (t ++ r ∷ []) i ≡ true
last_there t r i e = let one : one_if (same_id r.id i) ≡ 1 = ap one_if e in times-is_there (t ++ r ∷ []) i (omega (arith, one, times-append i t (r ∷ []), times-cons i r []))

-- the same after an item has got a parent that the table has
tied_put : (us : List ℕ) (t : List Row) (i : ItemId) (b w : ℕ) → is_there t (Bucket b) ≡ true → IsTied us t → IsTied us (put_below b i w t)
tied_put us t i b w there h =
    let u : List Row = put_below b i w t in
    let own : List Row = filter (λ (r : Row). same_id r.id i) t in
    record {
      parents = All-append (HasParent u) (without_row i t) (map (placed_row b w) own)
          (All-weaker (HasParent t) (HasParent u) (parent_kept t u (there_put t i b w)) (without_row i t) (All-filter (λ (r : Row). not (same_id r.id i)) (HasParent t) t h.parents))
          (All-map (HasParent u) (placed_row b w) own (All-weaker (HasParent t) (λ (r : Row). HasParent u (placed_row b w r)) (λ _ _. there_put t i b w (Bucket b) there) own (All-filter (λ (r : Row). same_id r.id i) (HasParent t) t h.parents)));
      loose = All-append IsLoose (without_row i t) (map (placed_row b w) own) (All-filter (λ (r : Row). not (same_id r.id i)) IsLoose t h.loose)
          (All-map IsLoose (placed_row b w) own (All-weaker IsLoose (λ (r : Row). IsLoose (placed_row b w r)) (λ r _ e. absurd (let no : (let x : Option ℕ = Some b in x) ≡ None = e in cc)) own (All-filter (λ (r : Row). same_id r.id i) IsLoose t h.loose)));
      taken = All-weaker (IsThere t) (IsThere u) (λ c. there_put t i b w (Bucket c)) us h.taken;
    }

-- the same with one more rule, if the table has the buckets that the rule takes
tied_rule : (d : Draft) (r : RuleData) → All (IsThere d.table) (taken_by r) → IsTied (taken_buckets d.setting) d.table → IsTied (taken_buckets (add_rule d r).setting) d.table
tied_rule d r there h = record {
  parents = h.parents;
  loose = h.loose;
  taken = subst (All (IsThere d.table)) (sym (flat_map-append taken_by d.setting.rules (r ∷ [])))
      (All-append (IsThere d.table) (taken_buckets d.setting) (taken_by r ++ []) h.taken (All-append (IsThere d.table) (taken_by r) [] there (All-nil (IsThere d.table))));
}

-- WHAT IS KNOWN between two lines: what is pending fits the line that may come. If the types are types that a map may have,
-- none of their names is a word that begins a statement, and so no bucket and no rule comes before a type. If the table is lawful, the
-- bucket that is being filled is a root
abbrev pub Shape : Mode → Draft → Type 0
Shape first d = (d.pending ≡ nothing) × (All IsKind d.setting.kinds → IsEarly d)
Shape second d = d.pending ≡ nothing
Shape begun d = (k : ℕ) × (x : List ℕ) × (d.pending ≡ is_begun k x)
Shape numbered d = (k : ℕ) × (x : List ℕ) × (b : ℕ) × (cs : List ShadowData) × (d.pending ≡ is_numbered k x b cs)
Shape (filling any) d = (b : ℕ) × (d.pending ≡ is_filling b) × (is_there d.table (Bucket b) ≡ true) × (Lawful d.table → IsRoot d.table b)
Shape (ruled r) d = (d.pending ≡ nothing) × All (IsThere d.table) (taken_by r)

-- the draft of the progress p has the shape that the mode of p requires
pub record IsShaped (p : Progress) : Type 0 where
  pub tied : IsTied (taken_buckets p.draft.setting) p.draft.table
  pub stage : Shape p.mode p.draft

-- each draft that the rest of a line can build has the shape. Which optional part was left out doesn't matter
abbrev pub Shapes : Draft → Form → Type 0
Shapes d (done p) = IsShaped (passing Nothing p)
Shapes d (word r more) = (w : List ℕ) → IsFor d r w → Shapes d (more (value d r w))
Shapes d (optional k f g) = Shapes d f × Shapes d g
Shapes d (ahead k f g) = Shapes d f × Shapes d g

-- the statements that come before buckets and rules
abbrev pub is_early : StatementKind → Bool
is_early statement_kinds.Tunable = true
is_early statement_kinds.Type = true
is_early statement_kinds.Device = true
is_early (statement_kinds.Bucket k) = false
is_early statement_kinds.Rule = false

-- if a line of the first part comes after a bucket or a rule, then a type has a name that no type may have
pub early_opening : (d : Draft) (late : Bool) → (late ≡ false → All IsKind d.setting.kinds → IsEarly d) → (w : List ℕ) → IsFor d (opening late Nothing) w
    → is_early (opened d w) ≡ true → All IsKind d.setting.kinds → IsEarly d
early_opening d late h w (inl e) is kinds = h e.0 kinds
early_opening d late h w (inr (inl e)) is kinds = let no : false ≡ true = ap (λ (x : List ℕ). is_early (opened d x)) (sym e) ∙ is in absurd cc
early_opening d late h w (inr (inr some)) is kinds =
    let t = type_named d.setting.kinds w kinds some in
    let bucket : opened d w ≡ statement_kinds.Bucket (kind_of_word d w) = opens d w (kind_of_word d w) t.free refl in
    let no : false ≡ true = sym (ap is_early bucket) ∙ is in
    absurd cc

module _ (d : Draft) (tied : IsTied (taken_buckets d.setting) d.table) where
  -- the line of a tunable preserves the shape
  shapes_tunable : d.pending ≡ nothing → (All IsKind d.setting.kinds → IsEarly d) → Shapes d (tunable_line d)
  shapes_tunable idle early = λ x fx n fn. record { tied = record { parents = tied.parents; loose = tied.loose; taken = tied.taken }; stage = (idle, λ all. let e = early all in record { unruled = e.unruled; devices = e.devices }) }

  -- the line of a type preserves the shape
  shapes_type : d.pending ≡ nothing → (All IsKind d.setting.kinds → IsEarly d) → Shapes d (type_line d)
  shapes_type idle early = λ n fn x fx. record {
    tied = record { parents = tied.parents; loose = tied.loose; taken = tied.taken };
    stage = (idle, λ all. let e = early (All-left IsKind d.setting.kinds (record { number = digits_value 10 n; name = x } ∷ []) all) in record { unruled = e.unruled; devices = e.devices });
  }

  -- the line of a device preserves the shape
  shapes_device : d.pending ≡ nothing → (All IsKind d.setting.kinds → IsEarly d) → Shapes d (device_line d)
  shapes_device idle early = λ n fn x fx. (λ k fk c fc. made n x (Some c), made n x None)
    where
      made : (n x : List ℕ) (class : Option (List ℕ)) → IsShaped (at first (with_device d (digits_value 10 n) x class))
      made n x class = record {
        tied = tied_push (taken_buckets d.setting) d.table (new_device (digits_value 10 n) x class) refl refl tied;
        stage = (idle, λ all. let e = early all in record { unruled = e.unruled; devices = All-push (λ (r : Row). r.kind ≡ 0) d.table (new_device (digits_value 10 n) x class) e.devices refl });
      }

  -- the first words of a bucket preserve the shape
  shapes_bucket : (k : ℕ) → Shapes d (bucket_line d k)
  shapes_bucket k = λ x fx. record { tied = record { parents = tied.parents; loose = tied.loose; taken = tied.taken }; stage = (k, x, refl) }

  -- the head of a rule preserves the shape
  shapes_rule : d.pending ≡ nothing → Shapes d (rule_line d)
  shapes_rule idle = λ x fx a fa b fb n fn c fc k fk. (
    λ e fe u fu. (λ g fg v fv. head x n k (Some (digits_value 10 u)) (Some (digits_value 10 v)), head x n k (Some (digits_value 10 u)) None),
    (λ g fg v fv. head x n k None (Some (digits_value 10 v)), head x n k None None),
  )
    where
      head : (x n k : List ℕ) (least most : Option ℕ) → IsShaped (at (ruled (new_rule x (digits_value 10 n) k least most)) d)
      head x n k least most = record { tied = tied; stage = (idle, All-nil (IsThere d.table)) }

  -- a statement, given its first word, preserves the shape
  shapes_statement : (o : StatementKind) → d.pending ≡ nothing → (is_early o ≡ true → All IsKind d.setting.kinds → IsEarly d) → Shapes d (statement d o)
  shapes_statement statement_kinds.Tunable idle early = shapes_tunable idle (early refl)
  shapes_statement statement_kinds.Type idle early = shapes_type idle (early refl)
  shapes_statement statement_kinds.Device idle early = shapes_device idle (early refl)
  shapes_statement (statement_kinds.Bucket k) idle early = shapes_bucket k
  shapes_statement statement_kinds.Rule idle early = shapes_rule idle

  -- the id of a bucket preserves the shape
  shapes_id : Shape begun d → Shapes d (id_line d)
  shapes_id s = λ a fa c fc w fw. record {
    tied = record { parents = tied.parents; loose = tied.loose; taken = tied.taken };
    stage = (s.0, s.1, digits_value 10 (drop 1 w), [], ap (λ (q : Pending). pending_with_id q (digits_value 10 (drop 1 w))) s.2);
  }

  -- the line of a class id preserves the shape
  shapes_class_id : Shape numbered d → Shapes d (class_id_line d)
  shapes_class_id s = λ w fw k fk c fc.
      let new : ShadowData = record { id = digits_value 10 (drop 1 w); class = c } in
      record { tied = record { parents = tied.parents; loose = tied.loose; taken = tied.taken }; stage = (s.0, s.1, s.2, s.3 ++ new ∷ [], ap (λ (q : Pending). pending_with_class_id q new) s.4) }

  -- the algorithm appends the bucket's row to the table
  rowed : (a : Alg) → Shape numbered d → IsShaped (at (filling false) (with_alg d a))
  rowed a s =
      let row : Row = new_bucket s.0 s.1 s.2 s.3 a in
      let is : (with_alg d a).table ≡ d.table ++ row ∷ [] = ap (λ (q : Pending). d.table ++ pending_row q a) s.4 in
      record {
        tied = subst (IsTied (taken_buckets d.setting)) (sym is) (tied_push (taken_buckets d.setting) d.table row refl refl tied);
        stage = (
          s.2,
          ap pending_with_alg s.4,
          subst (λ (t : List Row). is_there t (Bucket s.2) ≡ true) (sym is) (last_there d.table row (Bucket s.2) (same_id_refl (Bucket s.2))),
          subst (λ (t : List Row). Lawful t → IsRoot t s.2) (sym is) (λ l. made_root d.table row s.2 refl refl (id_free d.setting d.table s.0 s.1 s.2 s.3 a l)),
        );
      }

  -- an algorithm with `hash` or without preserves the shape
  shapes_alg : Shape numbered d → Shapes d (alg_line d)
  shapes_alg s = λ a fa. (λ h fh z fz. rowed _ s, rowed _ s)

  -- the line of an item preserves the shape
  shapes_item : (any : Bool) → Shape (filling any) d → Shapes d (item_line d)
  shapes_item any s = (λ x fx k fk w fw. added x fx (Some (units w)), λ x fx. added x fx None)
    where
      added : (x : List ℕ) → IsFree d x → (w : Option ℕ) → IsShaped (at (filling true) (with_next_item d (item_of d x) w))
      added x fx w =
          let i : ItemId = item_of d x in
          let v : ℕ = weight_or_one w in
          let is : (with_next_item d i w).table ≡ put_below s.0 i v d.table = ap (λ (q : Pending). table_with_item q i v d.table) s.1 in
          let other : same_id (Bucket s.0) i ≡ false = ap (λ (q : Pending). is_open q i) (sym s.1) ∙ (listable d x i fx.0).closed in
          record {
            tied = subst (IsTied (taken_buckets d.setting)) (sym is) (tied_put (taken_buckets d.setting) d.table i s.0 v s.2 tied);
            stage = (
              s.0,
              s.1,
              subst (λ (t : List Row). is_there t (Bucket s.0) ≡ true) (sym is) (there_put d.table i s.0 v (Bucket s.0) s.2),
              subst (λ (t : List Row). Lawful t → IsRoot t s.0) (sym is) (λ l. root_put d.table i s.0 v (s.3 (item_back d.table i s.0 v tied.loose fx.1 l)) other),
            );
          }

  -- one more step preserves the shape
  stepped : (r : RuleData) (x : StepData) → Shape (ruled r) d → All (IsThere d.table) (bucket_taken x) → IsShaped (at (ruled (with_step r x)) d)
  stepped r x s there = record {
    tied = tied;
    stage = (
      s.0,
      subst (All (IsThere d.table)) (sym (flat_map-append bucket_taken r.steps (x ∷ [])))
          (All-append (IsThere d.table) (taken_by r) (bucket_taken x ++ []) s.1 (All-append (IsThere d.table) (bucket_taken x) [] there (All-nil (IsThere d.table)))),
    );
  }

  -- a step, given its first word, preserves the shape
  shapes_step : (r : RuleData) (w : StepWord) → Shape (ruled r) d → Shapes d (step_behind d r w)
  shapes_step r takes s = λ b fb. (λ k fk c fc. stepped r (take (bucket_of_word d b) (Some c)) s (taken b fb), stepped r (take (bucket_of_word d b) None) s (taken b fb))
    where
      taken : (b : List ℕ) → IsFor d taken_bucket b → All (IsThere d.table) (bucket_of_word d b ∷ [])
      taken b fb = All-cons (IsThere d.table) (bucket_of_word d b) [] (bucket_there d b (λ e. let no : (let x : Option ℕ = None in x) ≡ Some (bucket_of_word d b) = sym e ∙ fb in cc)) (All-nil (IsThere d.table))
  shapes_step r (chooses leaf) s = λ o fo n fn t ft k fk. stepped r (choose leaf (bytes_eq o (codes "firstn")) (signed_value n) k) s (All-nil (IsThere d.table))
  shapes_step r (sets x) s = λ n fn. stepped r (set x (digits_value 10 n)) s (All-nil (IsThere d.table))
  shapes_step r emits s = stepped r emit s (All-nil (IsThere d.table))

  -- each line preserves the shape
  pub shapes_lines : (mode : Mode) (k : Optional) → Shape mode d → Shapes d (line_forms d k mode)
  shapes_lines first k s = λ w fw. shapes_statement (opened d w) s.0 (early_opening d false (λ _. s.1) w fw)
  shapes_lines second k s = λ w fw. shapes_statement (opened d w) s (early_opening d true (λ e. let no : true ≡ false = e in absurd cc) w fw)
  shapes_lines begun k s = shapes_id s
  shapes_lines numbered k s = λ w fw. by_it (bytes_eq w (codes "id"))
    where
      by_it : (b : Bool) → Shapes d (id_or_alg_line d b)
      by_it true = shapes_class_id s
      by_it false = shapes_alg s
  shapes_lines (filling any) k s = λ w fw. by_it (bytes_eq w (codes "item"))
    where
      by_it : (b : Bool) → Shapes d (item_or_brace d b)
      by_it true = shapes_item any s
      by_it false = record { tied = record { parents = tied.parents; loose = tied.loose; taken = tied.taken }; stage = refl }
  shapes_lines (ruled r) k s = λ w fw. by_it (bytes_eq w (codes "step"))
    where
      by_it : (b : Bool) → Shapes d (step_or_brace d r b)
      by_it true = λ v fv. shapes_step r (step_said v) s
      by_it false = record { tied = tied_rule d r s.1 tied; stage = s.0 }
