-- Proves that a property which each line preserves holds for all that is read, so each document is a map. A draft (`Draft`) is what the lines so far have built. A form (`Form`) says which words the rest of a line must have. A state (`State`) is a place in the text: between two lines, or in a line with the form of its rest. A progress (`Progress`) is a draft with the mode (`Mode`), which says which lines may come next.
use Rattle.std.proofs.Common.{◌≡◌, ◌≢◌, ℕ, zero, suc, ◌<◌, ◌≤◌, Bool, true, false, cond, List, [], ◌∷◌, ◌++◌, Option, Some, None, Result, Ok, Err, refl, sym, ap, subst, ◌∙◌, arith, inl, inr}
use Rattle.std.proofs.lemmas.Bool.{cond_both, and_parts, or_parts, ltb-true, leb-true}
use Rattle.std.proofs.lemmas.Slice.Eq.{bytes_eq-Decides}
use Rattle.std.proofs.lemmas.List.Elements.{All-nil, All-cons}
use Rattle.std.proofs.lemmas.List.Sums.{sum_by-cons}
use Rattle.std.specs.Prelude.{pos, neg_ℤ, ◌||◌, ◌&&◌, ◌==◌, codes, bytes_eq, drop, length, nat_eq, nat_lt, nat_le, unwrap_or, slice_index, All, IfSome, is_some, option_and_then, if◌then◌else◌}
use Rattle.std.specs.List.{list_any, starts_with}
use Rattle.std.specs.Str.Parse.{digits_value}
use Rattle.crush_units.specs.declared.alg.Alg.{Alg}
use Rattle.crush_units.specs.declared.id.ItemId.{ItemId}
use Rattle.crush_units.specs.declared.id.ItemId.TheVariants.{Device, Bucket}
use Rattle.crush_units.specs.declared.weight.WeightFault.{WeightFault}
use Rattle.crush_units.specs.Name.{is_name, are_name_bytes, IsName}
use Rattle.crush_units.specs.Weight.{are_digits, weight_of_text}
use Rattle.crush_units.specs.declared.limits.TheConstants.{FARTHEST_BUCKET_ID, FARTHEST_COUNT, LARGEST_COUNT, LARGEST_RULE_NUMBER, LARGEST_TUNABLE, LAST_DEVICE_ID, LAST_TYPE, LONGEST_NAME, MOST_BUCKETS, MOST_STEPS, UNITS_OF_ONE}
use Rattle.crush_model.specs.Items.{ShadowData}
use Rattle.crush_model.specs.Lawful.{Lawful, IsShadowId, is_too_heavy}
use Rattle.crush_edits.specs.Setting.{KindData, StepData, take, choose, set, emit, RuleData, SettingData, kind_number, bucket_taken}
use Rattle.crush_edits.specs.Fits.{Fits, IsKind, IsTunable, IsCount, IsStep, IsRule, IsThere, HasKind}
use Rattle.crush_edits.specs.Stops.{number_of}
use Rattle.crush_model.specs.Count.{one_if}
use Rattle.crush_model.specs.Table.{Row, bucket_count, member, used_ids}
use Rattle.crush_model.proofs.Attached.{Lawful-nil}
use Rattle.crush_builder.specs.declared.fault.BuildFault.TheVariants as build
use Rattle.crush_builder.specs.Faults.{first_fault, class_id_fault}
use Rattle.crush_map.specs.WrittenItems.{weight_or_one}
use Rattle.crush_builder.specs.Built.{Draft, Pending, nothing, begun as is_begun, numbered as is_numbered, filling as is_filling, empty_draft, pending_with_id, pending_with_class_id, pending_row, pending_with_alg, with_alg, with_device, with_next_item}
use Rattle.crush_builder.specs.Building.{CanBegin, CanNumber, IsRoot, is_bucket_kind, is_full_of_kinds, is_full_of_tunables, is_full_of_devices, is_full_of_buckets, is_full_of_class_ids, item_named}
use Rattle.crush_builder.specs.Rules.{complete_bucket_named, is_full_of_rules}
use Rattle.crush_builder.proofs.KindSteps.{less}
use Rattle.crush_builder.proofs.RowSteps.{new_bucket, bucket_lawful, one_more_class_id}
use Rattle.crush_edits.proofs.FitLaws.{Fits-push}
use Rattle.crush_units.specs.Words.{Word, Text, words, is_brace_word, AreFormed, begins_with_key}
use Rattle.crush_units.proofs.Forms.{words_are_formed}
use Rattle.crush_text.specs.declared.fault.TextFaultKind.TheVariants.{Unexpected, BadNumber, BadWeight, DuplicateId, DuplicateName, UnknownType, UnknownItem, LeftOut, UnknownBucketInRule, TooMany, SumTooLarge}
use Rattle.crush_text.specs.declared.statement_kind.StatementKind.TheVariants as statement_kinds
use Rattle.crush_units.specs.Numbers.{is_number, is_signed, signed_value}
use Rattle.crush_text.specs.Role.{opening, device_id, new_name, weight, step_word, takes, chooses, sets, emits, value, kind_of_word, item_of, bucket_of_word, units_or_none, units}
use Rattle.crush_text.specs.Form.{Mode, first, second, begun, numbered, filling, ruled, Progress, at, Form, done, word, optional, ahead, passing}
use Rattle.crush_text.specs.Grammar.{tunable_line, type_line, device_line, bucket_line, id_line, class_id_line, alg_line, id_or_alg_line, item_line, rule_line, new_rule, with_step, step_behind, step_or_brace, statement, item_or_brace, line_forms, next}
use Rattle.crush_text.specs.Rows.{IsBrace, IsNoWeightOf, BeginsBucket, IsOneTooMany, IsRight}
use Rattle.crush_text.specs.Flow.{State, between, amid, arrive}
use Rattle.crush_text.specs.Document.{SpellsForm, SpellsNext, Spell, IsWhole, start, IsDocument, IsMap}
use Rattle.crush_laws.specs.MapOrFlaw.{EachMapIsLawful}
use Rattle.crush_text.proofs.Reserved.{not_reserved}
use Rattle.crush_text.proofs.TheTable.{brace_tells}
use Rattle.crush_laws.proofs.Lawful.{map_with_tunable, map_with_kind, map_with_device, kind_there, made_root, listable, IsLight, map_with_item}
use Rattle.crush_laws.proofs.Ruled.{CanAdd, map_with_rule, can_begin, can_step}
use Rattle.crush_laws.proofs.LeftOut.{opening_right}
use Rattle.crush_text.specs.declared.expected.Optional.TheVariants.{Nothing}
use Rattle.crush_text.specs.declared.expected.Optional.{Optional}

-- a word of a text is either a brace or a name
abbrev pub IsWord : List ℕ → Type 0
IsWord w = (is_brace_word w || is_name w) ≡ true

-- each draft that a form can build has the property. Which optional part the form has left out doesn't matter
abbrev Keeps : (Progress → Type 0) → Draft → Form → Type 0
Keeps P d (done p) = P (passing Nothing p)
Keeps P d (word r more) = (w : List ℕ) → IsWord w → IsRight d r w → Keeps P d (more (value d r w))
Keeps P d (optional k f g) = Keeps P d f × Keeps P d g
Keeps P d (ahead k f g) = Keeps P d f × Keeps P d g

-- the draft so far has the property, and so has each draft that the rest of the line can build
abbrev pub Has : (Progress → Type 0) → State → Type 0
Has P (between p) = P (passing Nothing p)
Has P (amid d f) = Keeps P d f

module _ (P : Progress → Type 0) (each : (p : Progress) → P (passing Nothing p) → Keeps P p.draft (next p)) where
  arrives : (d : Draft) (rest : List Word) (f : Form) → Keeps P d f → Has P (arrive d rest f)
  arrives d rest (done p) k = k
  arrives d rest (word r more) k = k
  arrives d rest (optional key f g) k = cond_both (begins_with_key key rest) (arrive d rest f) (arrive d rest g) (Has P) (λ _. arrives d rest f k.0) (λ _. arrives d rest g k.1)
  arrives d rest (ahead key f g) k = cond_both (begins_with_key key (drop 1 rest)) (arrive d rest f) (arrive d rest g) (Has P) (λ _. arrives d rest f k.0) (λ _. arrives d rest g k.1)

  goes : (d : Draft) (f : Form) (w : List ℕ) (rest : List Word) (m : State) → Keeps P d f → IsWord w → SpellsForm d f w rest m → Has P m
  goes d (word r more) w rest m k formed h = subst (Has P) (sym h.1) (arrives d rest (more (value d r w)) (k w formed h.0))
  goes d (done p) w rest m k formed h = absurd h
  goes d (optional key f g) w rest m k formed h = absurd h
  goes d (ahead key f g) w rest m k formed h = absurd h

  -- the state to which a word leads has the property
  pub next_has : (s : State) (w : List ℕ) (rest : List Word) (m : State) → Has P s → IsWord w → SpellsNext s w rest m → Has P m
  next_has (between p) w rest m k formed h = goes p.draft (next p) w rest m (each p k) formed h
  next_has (amid d f) w rest m k formed h = goes d f w rest m k formed h

  -- each state to which spelled words lead has the property
  pub spelled_has : (s : State) (ws others : List Word) (m : State) → Has P s → AreFormed ws → Spell s ws others m → Has P m
  spelled_has s [] others m k formed h = subst (Has P) h k
  spelled_has s (w ∷ ws) others m k formed h = spelled_has h.0 ws others m (next_has s w.text (ws ++ others) h.0 k formed.0 h.1) formed.1 h.2

-- WHAT IS KNOWN between two lines: the setting and the table are a map, and the bucket or the rule that isn't complete is what is
-- pending
abbrev pub Stage : Mode → Draft → Type 0
Stage first d = d.pending ≡ nothing
Stage second d = d.pending ≡ nothing
Stage begun d = (k : ℕ) × (x : List ℕ) × (d.pending ≡ is_begun k x) × CanBegin d.setting d.table k x
Stage numbered d = (k : ℕ) × (x : List ℕ) × (b : ℕ) × (cs : List ShadowData) × (d.pending ≡ is_numbered k x b cs) × CanBegin d.setting d.table k x × CanNumber d.table b cs
Stage (filling any) d = (b : ℕ) × (d.pending ≡ is_filling b) × IsRoot d.table b
Stage (ruled r) d = (d.pending ≡ nothing) × CanAdd d r

-- the draft of the progress p has the property `Stage` for the mode of p
pub record Good (p : Progress) : Type 0 where
  pub map : IsMap p.draft
  pub stage : Stage p.mode p.draft

-- a test that isn't true is false
pub not_true : (b : Bool) → (b ≡ true → ⊥) → b ≡ false
not_true true h = absurd (h refl)
not_true false h = refl

-- a test that isn't false is true
pub not_false : (b : Bool) → (b ≡ false → ⊥) → b ≡ true
not_false true h = refl
not_false false h = absurd (h refl)

-- a word that isn't a brace is a name
name_of : (w : List ℕ) → IsWord w → is_brace_word w ≡ false → IsName w
name_of w formed h = tests (nat_lt 0 (length w)) (nat_le (length w) LONGEST_NAME) (are_name_bytes w) refl refl refl (rw h at formed)
  where
    tests : (a b c : Bool) → nat_lt 0 (length w) ≡ a → nat_le (length w) LONGEST_NAME ≡ b → are_name_bytes w ≡ c → (a && b && c) ≡ true → IsName w
    tests true true c ha hb hc e = record { some = ltb-true _ _ ha; few = leb-true _ _ hb; allowed = hc ∙ e }
    tests true false c ha hb hc e = absurd cc
    tests false b c ha hb hc e = absurd cc

-- a word that must not be a brace is a name
pub word_name : (w : List ℕ) → IsWord w → (IsBrace w → ⊥) → IsName w
word_name w formed h = name_of w formed (not_true _ (λ t. h ((brace_tells w).0 t)))

-- if a test is false for both braces, a word for which it is true isn't a brace
pub no_brace : (test : List ℕ → Bool) (w : List ℕ) → test (123 ∷ []) ≡ false → test (125 ∷ []) ≡ false → test w ≡ true → is_brace_word w ≡ false
no_brace test w open_not close_not h = by_tests (bytes_eq w (123 ∷ [])) (bytes_eq w (125 ∷ [])) refl refl
  where
    by_tests : (a b : Bool) → bytes_eq w (123 ∷ []) ≡ a → bytes_eq w (125 ∷ []) ≡ b → is_brace_word w ≡ false
    by_tests true b ha hb = let e : true ≡ false = sym h ∙ ap test ((bytes_eq-Decides w _).0 ha) ∙ open_not in absurd cc
    by_tests false true ha hb = let e : true ≡ false = sym h ∙ ap test ((bytes_eq-Decides w _).0 hb) ∙ close_not in absurd cc
    by_tests false false ha hb = rw (ha, hb) refl

-- a word that is a number is at most the greatest number
number_most : (most : ℕ) (w : List ℕ) → (is_number most w ≡ false → ⊥) → digits_value 10 w ≤ most
number_most most w h = leb-true _ _ (and_parts (are_digits 10 w) (nat_le (digits_value 10 w) most) (not_false _ h)).1

-- the distance of an id below 0 is in its range
record IsDistance (n : ℕ) : Type 0 where
  some : 0 < n
  most : n ≤ FARTHEST_BUCKET_ID

negative : (w : List ℕ) → (((slice_index w 0 == 45) && is_number FARTHEST_BUCKET_ID (drop 1 w) && nat_lt 0 (digits_value 10 (drop 1 w))) ≡ false → ⊥) → IsDistance (digits_value 10 (drop 1 w))
negative w h =
    let parts = and_parts ((slice_index w 0 == 45) && is_number FARTHEST_BUCKET_ID (drop 1 w)) (nat_lt 0 (digits_value 10 (drop 1 w))) (not_false _ h) in
    let digits = and_parts (slice_index w 0 == 45) (is_number FARTHEST_BUCKET_ID (drop 1 w)) parts.0 in
    record { some = ltb-true 0 (digits_value 10 (drop 1 w)) parts.1; most = number_most FARTHEST_BUCKET_ID (drop 1 w) (λ e. let t = digits.1 in absurd cc) }

-- a number with a minus sign is in the range of counts
below_zero : (n : ℕ) → n ≤ FARTHEST_COUNT → IsCount (neg_ℤ (pos n))
below_zero zero le = omega arith
below_zero (suc n) le = omega (arith, le)

pub signed : (w : List ℕ) → (is_signed w ≡ false → ⊥) → IsCount (signed_value w)
signed w h = by_it (slice_index w 0 == 45) h
  where
    by_it : (b : Bool) → ((if b then is_number FARTHEST_COUNT (drop 1 w) else is_number LARGEST_COUNT w) ≡ false → ⊥) → IsCount (if b then neg_ℤ (pos (digits_value 10 (drop 1 w))) else pos (digits_value 10 w))
    by_it true k = below_zero (digits_value 10 (drop 1 w)) (number_most FARTHEST_COUNT (drop 1 w) k)
    by_it false k = number_most LARGEST_COUNT w k

-- an item that a search by name finds is the item of this name
pub some_of : (o : Option ItemId) → (o ≡ None → ⊥) → o ≡ Some (unwrap_or o (Device 0))
some_of None h = absurd (h refl)
some_of (Some i) h = refl

-- an option that isn't none has a value
pub not_none : {X : Type 0} (o : Option X) → (o ≡ None → ⊥) → is_some o ≡ true
not_none None h = absurd (h refl)
not_none (Some x) h = refl

-- a bucket that is found by its name is in the table
pub bucket_there : (d : Draft) (w : List ℕ) → (complete_bucket_named d w ≡ None → ⊥) → IsThere d.table (bucket_of_word d w)
bucket_there d w h = by_item (item_named d w) refl h
  where
    by_item : (o : Option ItemId) → item_named d w ≡ o → (option_and_then number_of o ≡ None → ⊥) → IsThere d.table (unwrap_or (option_and_then number_of o) 0)
    by_item None e k = absurd (k refl)
    by_item (Some (Device x)) e k = absurd (k refl)
    by_item (Some (Bucket b)) e k = (listable d w (Bucket b) e).there

-- the item may have a weight that has no fault
weight_for : (i : ItemId) (r : Result ℕ WeightFault) → (IsNoWeightOf i r → ⊥) → IsLight i (units_or_none r)
weight_for i (Err f) a = absurd (a tt)
weight_for (Device n) (Ok w) a = omega (arith, a)
weight_for (Bucket c) (Ok w) a = tt

-- the item may have the weight 1.0
one_for : (i : ItemId) → IsLight i UNITS_OF_ONE
one_for (Device n) = omega arith
one_for (Bucket c) = tt

-- a weight's text that has no fault has a value in units
pub has_units : (i : ItemId) (r : Result ℕ WeightFault) → (IsNoWeightOf i r → ⊥) → r ≡ Ok (units_or_none r)
has_units i (Ok w) h = refl
has_units i (Err f) h = absurd (h tt)

-- with this weight no sum of weights is too large
light_sum : (d : Draft) (i : ItemId) (w : List ℕ) → IsRight d (weight i) w → is_too_heavy (with_next_item d i (Some (units w))).table ≡ true → ⊥
light_sum d i w r h =
    let is = has_units i (weight_of_text w) (r BadWeight) in
    r SumTooLarge (units w, is, λ no. r BadWeight (subst (λ (x : Result ℕ WeightFault). IsNoWeightOf i x) (sym is) no), h)

-- if none of the three tests of a class id holds, the class id has no fault
clear_of : (a b c : Bool) → a ≡ false → b ≡ false → c ≡ false → first_fault ((build.DuplicateId, a) ∷ ((build.DuplicateName, b) ∷ ((build.TooMany, c) ∷ []))) ≡ None
clear_of a b c ha hb hc = λ i. first_fault ((build.DuplicateId, ha i) ∷ ((build.DuplicateName, hb i) ∷ ((build.TooMany, hc i) ∷ [])))

-- `one_if` is at most 1
if_at_most : (b : Bool) → one_if b ≤ 1
if_at_most true = omega arith
if_at_most false = omega arith

-- words whose comparison is false differ
differs : (w k : List ℕ) → bytes_eq w k ≡ false → w ≢ k
differs w k other e = let t = (bytes_eq-Decides w k).1 e in absurd cc

-- the first word of a statement begins a bucket, if it has no fault and begins no other statement
pub begins_bucket : (d : Draft) (late : Bool) (w : List ℕ) → IsRight d (opening late Nothing) w → bytes_eq w (codes "tunable") ≡ false → bytes_eq w (codes "device") ≡ false → bytes_eq w (codes "type") ≡ false → bytes_eq w (codes "rule") ≡ false
    → BeginsBucket d w
begins_bucket d late w r tunable device kind rule =
    let free = not_reserved w (record {
      tunable = tunable;
      device = device;
      kind = kind;
      rule = rule;
      class = not_true _ (λ t. r Unexpected (inr (inl ((bytes_eq-Decides w _).0 t))));
      weights = not_true _ (λ t. r LeftOut ((bytes_eq-Decides w _).0 t));
    }) in
    (free, not_false _ (λ none. r UnknownType (free, none)))

module _ (d : Draft) (m : IsMap d) where
  -- the line of a tunable preserves the property
  keeps_tunable : d.pending ≡ nothing → is_full_of_tunables d ≡ false → Keeps Good d (tunable_line d)
  keeps_tunable idle few = λ x fx rx. λ n fn rn. record {
    map = map_with_tunable d x (digits_value 10 n) m (word_name x fx (rx Unexpected)) (number_most LARGEST_TUNABLE n (rn BadNumber)) (not_true _ (rx DuplicateName)) few;
    stage = idle;
  }

  -- the line of a type preserves the property
  keeps_type : d.pending ≡ nothing → is_full_of_kinds d ≡ false → Keeps Good d (type_line d)
  keeps_type idle few = λ n fn rn. λ x fx rx. record {
    map = map_with_kind d (digits_value 10 n) x m (number_most LAST_TYPE n (rn BadNumber)) (word_name x fx (λ b. rx Unexpected (inl b)))
        (λ some. not_true _ (λ t. rx Unexpected (inr (t, λ e. omega (arith, some, e))))) (not_true _ (rn DuplicateId)) (not_true _ (rx DuplicateName)) few;
    stage = idle;
  }

  -- the line of a device preserves the property
  keeps_device : d.pending ≡ nothing → is_full_of_devices d ≡ false → Keeps Good d (device_line d)
  keeps_device idle few = λ n fn rn. λ x fx rx. (λ k fk rk. λ c fc rc. made n x (Some c) rn fx rx (word_name c fc (rc Unexpected)), made n x None rn fx rx tt)
    where
      made : (n x : List ℕ) (class : Option (List ℕ)) → IsRight d device_id n → IsWord x → IsRight d new_name x → IfSome class IsName → Good (at first (with_device d (digits_value 10 n) x class))
      made n x class rn fx rx kind = record {
        map = map_with_device d (digits_value 10 n) x class m (number_most LAST_DEVICE_ID n (rn BadNumber)) (word_name x fx (rx Unexpected)) kind (not_true _ (rn DuplicateId)) (not_true _ (rx DuplicateName)) few;
        stage = idle;
      }

  -- the first line of a bucket preserves the property
  keeps_bucket : (k : List ℕ) → is_bucket_kind d.setting (kind_of_word d k) ≡ true → is_full_of_buckets d ≡ false → Keeps Good d (bucket_line d (kind_of_word d k))
  keeps_bucket k known few = λ x fx rx.
      let some = ltb-true 0 (kind_of_word d k) (and_parts (nat_lt 0 (kind_of_word d k)) (list_any (λ (y : KindData). y.number == kind_of_word d k) d.setting.kinds) known).0 in
      let t = kind_there d.setting.kinds k (kind_of_word d k) m.fits.setting.kinds refl some in
      record {
        map = record { lawful = m.lawful; fits = m.fits };
        stage = (
          kind_of_word d k,
          x,
          refl,
          record {
            known = known;
            most = t.most;
            form = word_name x fx (rx Unexpected);
            free = (or_parts _ _ (not_true _ (rx DuplicateName))).0;
            few = less MOST_BUCKETS (bucket_count d.table) few;
          },
        );
      }

  -- the id of a bucket preserves the property
  keeps_id : Stage begun d → Keeps Good d (id_line d)
  keeps_id s = λ a fa ra. λ c fc rc. λ w fw rw_.
      let id : ℕ = digits_value 10 (drop 1 w) in
      let range = negative w (rw_ BadNumber) in
      record {
        map = record { lawful = m.lawful; fits = m.fits };
        stage = (
          s.0,
          s.1,
          id,
          [],
          ap (λ (q : Pending). pending_with_id q id) s.2,
          s.3,
          record {
            some = range.some;
            most = range.most;
            free = (or_parts _ _ (not_true _ (rw_ DuplicateId))).0;
            form = All-nil IsShadowId;
            fresh = All-nil (λ (y : ShadowData). member y.id (used_ids d.table) ≡ false);
            apart = λ j. let one : one_if (id == j) ≤ 1 = if_at_most (id == j) in omega (arith, one, sum_by-cons (λ u. one_if (u == j)) id []);
            classes = λ y. omega arith;
            few = omega arith;
          },
        );
      }

  -- the line of a class id preserves the property
  keeps_class_id : Stage numbered d → is_full_of_class_ids d ≡ false → Keeps Good d (class_id_line d)
  keeps_class_id s few = λ w fw rw_. λ k fk rk. λ c fc rc.
      let id : ℕ = digits_value 10 (drop 1 w) in
      let range = negative w (rw_ BadNumber) in
      let clear : class_id_fault d id c ≡ None = clear_of _ _ _ (not_true _ (rw_ DuplicateId)) (not_true _ (rc DuplicateName)) few in
      record {
        map = record { lawful = m.lawful; fits = m.fits };
        stage = (
          s.0,
          s.1,
          s.2,
          s.3 ++ record { id = id; class = c } ∷ [],
          ap (λ (q : Pending). pending_with_class_id q (record { id = id; class = c })) s.4,
          s.5,
          one_more_class_id d s.0 s.2 s.1 c id s.3 s.4 s.6 range.some range.most (word_name c fc (rc Unexpected)) clear,
        );
      }

  -- the algorithm of a bucket preserves the property
  made : (a : Alg) → Stage numbered d → Good (at (filling false) (with_alg d a))
  made a s =
      let row : Row = new_bucket s.0 s.1 s.2 s.3 a in
      let is : (with_alg d a).table ≡ d.table ++ row ∷ [] = ap (λ (q : Pending). d.table ++ pending_row q a) s.4 in
      record {
        map = record {
          lawful = subst Lawful (sym is) (bucket_lawful d.setting d.table s.0 s.1 s.2 s.3 a m.lawful s.5 s.6);
          fits = subst (Fits d.setting) (sym is) (Fits-push d.setting d.table row m.fits (λ _. (and_parts (nat_lt 0 s.0) (list_any (λ (y : KindData). y.number == s.0) d.setting.kinds) s.5.known).1));
        };
        stage = (s.2, ap pending_with_alg s.4, subst (λ (t : List Row). IsRoot t s.2) (sym is) (made_root d.table row s.2 refl refl s.6.free));
      }

  keeps_alg : Stage numbered d → Keeps Good d (alg_line d)
  keeps_alg s = λ a fa ra. (λ h fh rh. λ z fz rz. made _ s, made _ s)

  -- a class id's line or the algorithm's line preserves the property
  keeps_numbered : (k : Optional) → Stage numbered d → Keeps Good d (line_forms d k numbered)
  keeps_numbered k s = λ w f r. by_it w (bytes_eq w (codes "id")) refl (r TooMany)
    where
      by_it : (w : List ℕ) (b : Bool) → bytes_eq w (codes "id") ≡ b → ((w ≡ codes "id") × (is_full_of_class_ids d ≡ true) → ⊥) → Keeps Good d (id_or_alg_line d b)
      by_it w true e few = keeps_class_id s (not_true _ (λ t. few ((bytes_eq-Decides w _).0 e, t)))
      by_it w false e few = keeps_alg s

  -- the line of an item, with a weight or without, preserves the property
  keeps_item : (any : Bool) → Stage (filling any) d → Keeps Good d (item_line d)
  keeps_item any s = (
    λ x fx rx. λ k fk rk. λ w fw rw_. added x (Some (units w)) (rx UnknownItem) (weight_for (item_of d x) (weight_of_text w) (rw_ BadWeight)) (light_sum d (item_of d x) w rw_),
    λ x fx rx. added x None (rx UnknownItem) (one_for (item_of d x)) (λ t. rx SumTooLarge (item_of d x, some_of (item_named d x) (rx UnknownItem), t)),
  )
    where
      added : (x : List ℕ) (w : Option ℕ) → (item_named d x ≡ None → ⊥) → IsLight (item_of d x) (weight_or_one w) → (is_too_heavy (with_next_item d (item_of d x) w).table ≡ true → ⊥) → Good (at (filling true) (with_next_item d (item_of d x) w))
      added x w there light over = let e = map_with_item d x (item_of d x) w s.0 m s.1 s.2 (some_of (item_named d x) there) light (not_true _ over) in record { map = e.map; stage = (s.0, s.1, e.root) }

  -- the line of an item or the end of the bucket preserves the property
  keeps_items : (any : Bool) (k : Optional) → Stage (filling any) d → Keeps Good d (line_forms d k (filling any))
  keeps_items any k s = λ w f r. by_it (bytes_eq w (codes "item"))
    where
      by_it : (b : Bool) → Keeps Good d (item_or_brace d b)
      by_it true = keeps_item any s
      by_it false = record { map = record { lawful = m.lawful; fits = m.fits }; stage = refl }

  -- the head of a rule preserves the property
  keeps_rule : d.pending ≡ nothing → is_full_of_rules d ≡ false → Keeps Good d (rule_line d)
  keeps_rule idle few = λ x fx rx. λ a fa ra. λ b fb rb. λ n fn rn. λ c fc rc. λ k fk rk.
      let head : (least most : Option ℕ) → IfSome least (λ v. v ≤ LARGEST_RULE_NUMBER) → IfSome most (λ v. v ≤ LARGEST_RULE_NUMBER) → Good (at (ruled (new_rule x (digits_value 10 n) k least most)) d) =
      λ least most low high. record {
        map = m;
        stage = (idle, can_begin d x (digits_value 10 n) k least most (word_name x fx (rx Unexpected)) (number_most LARGEST_RULE_NUMBER n (rn BadNumber)) (word_name k fk (rk Unexpected)) low high (not_true _ (rx DuplicateName)) (not_true _ (rn DuplicateId)) few);
      } in (
        λ e fe re. λ u fu ru. let low = number_most LARGEST_RULE_NUMBER u (ru BadNumber) in (
          λ g fg rg. λ v fv rv. head (Some (digits_value 10 u)) (Some (digits_value 10 v)) low (number_most LARGEST_RULE_NUMBER v (rv BadNumber)),
          head (Some (digits_value 10 u)) None low tt,
        ),
        (λ g fg rg. λ v fv rv. head None (Some (digits_value 10 v)) tt (number_most LARGEST_RULE_NUMBER v (rv BadNumber)), head None None tt tt),
      )

  module _ (r : RuleData) (s : Stage (ruled r) d) where
    -- the rule with one more step has the property
    longer : (x : StepData) → length r.steps < MOST_STEPS → IsStep d.setting x → All (IsThere d.table) (bucket_taken x) → Good (at (ruled (with_step r x)) d)
    longer x room form there = record { map = m; stage = (s.0, can_step d r x s.1 form room there) }

    -- a step, given its first word, preserves the property
    keeps_step : length r.steps < MOST_STEPS → (w : List ℕ) → IsWord w → IsRight d step_word w → Keeps Good d (step_behind d r (value d step_word w))
    keeps_step room w formed q = by_said (bytes_eq w (codes "take")) (bytes_eq w (codes "choose")) (bytes_eq w (codes "chooseleaf")) (bytes_eq w (codes "emit")) refl refl refl refl
      where
        chosen : (leaf : Bool) → Keeps Good d (step_behind d r (chooses leaf))
        chosen leaf = λ o fo ro. λ n fn rn. λ t ft rt. λ k fk rk.
            longer (choose leaf (bytes_eq o (codes "firstn")) (signed_value n) k) room (record { range = signed n (rn BadNumber); known = not_none (kind_number d.setting k) (rk UnknownType) }) (All-nil (IsThere d.table))

        taken : Keeps Good d (step_behind d r takes)
        taken = λ b fb rb.
            let there : All (IsThere d.table) (bucket_of_word d b ∷ []) = All-cons (IsThere d.table) (bucket_of_word d b) [] (bucket_there d b (rb UnknownBucketInRule)) (All-nil (IsThere d.table)) in
            (λ k fk rk. λ c fc rc. longer (take (bucket_of_word d b) (Some c)) room (word_name c fc (rc Unexpected)) there, longer (take (bucket_of_word d b) None) room tt there)

        is_set : starts_with nat_eq w (codes "set_") ≡ true → Keeps Good d (step_behind d r (sets w))
        is_set begins = λ n fn rn.
            let form : IsName w = name_of w formed (no_brace (λ x. starts_with nat_eq x (codes "set_")) w refl refl begins) in
            longer (set w (digits_value 10 n)) room (record { name = form; sets = begins; range = number_most LARGEST_RULE_NUMBER n (rn BadNumber) }) (All-nil (IsThere d.table))

        by_said : (a b c e : Bool) → bytes_eq w (codes "take") ≡ a → bytes_eq w (codes "choose") ≡ b → bytes_eq w (codes "chooseleaf") ≡ c → bytes_eq w (codes "emit") ≡ e
            → Keeps Good d (step_behind d r (cond a takes (cond b (chooses false) (cond c (chooses true) (cond e emits (sets w))))))
        by_said true b c e ha hb hc he = taken
        by_said false true c e ha hb hc he = chosen false
        by_said false false true e ha hb hc he = chosen true
        by_said false false false true ha hb hc he = longer emit room tt (All-nil (IsThere d.table))
        by_said false false false false ha hb hc he = is_set (not_false _ (λ none. q Unexpected (differs w _ ha, (differs w _ hb, differs w _ hc), differs w _ he, none, λ e. q LeftOut e)))

    -- a step or the end of the rule preserves the property
    keeps_ruled : (k : Optional) → Keeps Good d (line_forms d k (ruled r))
    keeps_ruled k = λ w f q. by_it w (bytes_eq w (codes "step")) refl (q TooMany)
      where
        by_it : (w : List ℕ) (b : Bool) → bytes_eq w (codes "step") ≡ b → ((w ≡ codes "step") × (MOST_STEPS ≤ length r.steps) → ⊥) → Keeps Good d (step_or_brace d r b)
        by_it w true e few = let no : MOST_STEPS ≤ length r.steps → ⊥ = λ le. few ((bytes_eq-Decides w _).0 e, le) in keeps_step (omega (arith, no))
        by_it w false e few = record { map = map_with_rule d r m s.1; stage = s.0 }

  -- a statement, given its first word, preserves the property
  keeps_statement : (late : Bool) → d.pending ≡ nothing → Keeps Good d (word (opening late Nothing) (statement d))
  keeps_statement late idle = λ w f r. by_it w r (bytes_eq w (codes "tunable")) (bytes_eq w (codes "device")) (bytes_eq w (codes "type")) (bytes_eq w (codes "rule")) refl refl refl refl (r TooMany)
    where
      by_it : (w : List ℕ) → IsRight d (opening late Nothing) w → (a b c e : Bool) → bytes_eq w (codes "tunable") ≡ a → bytes_eq w (codes "device") ≡ b → bytes_eq w (codes "type") ≡ c → bytes_eq w (codes "rule") ≡ e
          → (IsOneTooMany d w → ⊥)
          → Keeps Good d (statement d (cond a statement_kinds.Tunable (cond b statement_kinds.Device (cond c statement_kinds.Type (cond e statement_kinds.Rule (statement_kinds.Bucket (kind_of_word d w)))))))
      by_it w r true b c e ha hb hc he few = keeps_tunable idle (not_true _ (λ t. few (inl ((bytes_eq-Decides w _).0 ha, t))))
      by_it w r false true c e ha hb hc he few = keeps_device idle (not_true _ (λ t. few (inr (inl ((bytes_eq-Decides w _).0 hb, t)))))
      by_it w r false false true e ha hb hc he few = keeps_type idle (not_true _ (λ t. few (inr (inr (inl ((bytes_eq-Decides w _).0 hc, t))))))
      by_it w r false false false true ha hb hc he few = keeps_rule idle (not_true _ (λ t. few (inr (inr (inr (inl ((bytes_eq-Decides w _).0 he, t)))))))
      by_it w r false false false false ha hb hc he few =
          let opens = begins_bucket d late w r ha hb hc he in
          keeps_bucket w opens.1 (not_true _ (λ t. few (inr (inr (inr (inr (opens, t)))))))

  -- each line preserves the property
  pub keeps_lines : (mode : Mode) (k : Optional) → Stage mode d → Keeps Good d (line_forms d k mode)
  keeps_lines first k s = λ w f r. keeps_statement false s w f (opening_right d false k Nothing w r)
  keeps_lines second k s = λ w f r. keeps_statement true s w f (opening_right d true k Nothing w r)
  keeps_lines begun k s = keeps_id s
  keeps_lines numbered k s = keeps_numbered k s
  keeps_lines (filling any) k s = keeps_items any k s
  keeps_lines (ruled r) k s = keeps_ruled r s k

-- the empty draft is a map
pub nothing_there : IsMap empty_draft
nothing_there = record {
  lawful = Lawful-nil;
  fits = record {
    setting = record {
      numbers = λ n. omega arith;
      names = λ n. omega arith;
      tunable_names = λ n. omega arith;
      rule_names = λ n. omega arith;
      rule_ids = λ n. omega arith;
      kinds = All-nil IsKind;
      tunables = All-nil IsTunable;
      rules = All-nil (IsRule empty_draft.setting);
      few_kinds = omega arith;
      few_tunables = omega arith;
      few_rules = omega arith;
    };
    types = All-nil (HasKind empty_draft.setting);
    taken = All-nil (IsThere []);
  };
}

-- what a document builds is a map
document_lawful : (t : Text) (d : Draft) → AreFormed t.words → IsDocument t d → IsMap d
document_lawful t d formed h = by_it h.last h.whole (spelled_has Good (λ p g. keeps_lines p.draft g.map p.mode p.passed g.stage) start t.words [] h.last (record { map = nothing_there; stage = refl }) formed h.spelled)
  where
    by_it : (s : State) → IsWhole s d → Has Good s → IsMap d
    by_it (between p) w g = subst IsMap w.0 g.map
    by_it (amid e f) w g = absurd w

-- each map that has a text is lawful
pub each_map_is_lawful : EachMapIsLawful
each_map_is_lawful bytes s t n x =
    let m = document_lawful (words 0 bytes) x.draft (words_are_formed 0 bytes) x.document in
    (subst Lawful x.table m.lawful, subst (λ (q : SettingData). Fits q t) x.setting (subst (Fits x.draft.setting) x.table m.fits))
