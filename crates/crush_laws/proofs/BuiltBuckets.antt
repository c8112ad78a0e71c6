-- Proves that the words of the printed buckets lead from a table with only the devices to the whole table.
use Rattle.std.proofs.Common.{◌≡◌, ℕ, ◌+◌, Bool, true, false, List, [], ◌∷◌, ◌++◌, Option, Some, None, refl, sym, ap, subst, ◌∙◌, arith}
use Rattle.std.proofs.lemmas.Bool.{eqb-true}
use Rattle.std.proofs.lemmas.List.Elements.{All-nil, All-weaker}
use Rattle.std.proofs.lemmas.List.Sums.{sum_by-cons}
use Rattle.std.specs.Prelude.{flat_map, codes, ◌==◌, ◌||◌, is_some}
use Rattle.std.specs.Option.{option_map_or}
use Rattle.crush_units.specs.declared.id.ItemId.{ItemId}
use Rattle.crush_units.specs.declared.id.ItemId.TheVariants.{Bucket}
use Rattle.crush_model.specs.Count.{one_if}
use Rattle.crush_model.specs.Table.{Row, row_of, is_there, parent_of, kids, is_device_id}
use Rattle.crush_model.specs.Lawful.{Lawful}
use Rattle.crush_model.specs.Same.{Same}
use Rattle.crush_model.proofs.Relocated.{All-kids}
use Rattle.crush_edits.specs.Setting.{SettingData, kind_number}
use Rattle.crush_edits.specs.Fits.{IsSetting}
use Rattle.crush_builder.specs.Built.{Draft, nothing, filling as is_filling}
use Rattle.crush_print.specs.declared.weight_form.WeightForm.{WeightForm}
use Rattle.crush_print.specs.MapText.{kind_text}
use Rattle.crush_print.proofs.PrintedLines.{head_words, class_id_words, choice_words, bucket_words, kid_words, whole_words}
use Rattle.crush_print.proofs.PrintedTexts.{root_order}
use Rattle.crush_print.proofs.PrintedOrder.{add, Ready, root_order-times, root_order-ready}
use Rattle.crush_print.proofs.PartTables.{bare, part_of}
use Rattle.crush_print.proofs.PartSteps.{with_one}
use Rattle.crush_print.proofs.Sorting.{times}
use Rattle.crush_text.specs.Form.{second, at, filling}
use Rattle.crush_text.specs.Flow.{between}
use Rattle.crush_laws.specs.Admitted.{IsLawfulDraft}
use Rattle.crush_laws.proofs.BuiltLines.{Goes, goes_both, idle, end_goes}
use Rattle.crush_laws.proofs.BuiltParts.{whole_kids, IsRead, both_ways, read_opened, read_ended, kids_once, first_read, read_whole}
use Rattle.crush_laws.proofs.BuiltHeads.{built, HasKinds, read_draft, front_leads}
use Rattle.crush_laws.proofs.BuiltItems.{items_lead}

-- the state in which the printed buckets are due: the types have their printed names, no rule was read, no bucket is open, no weight was
-- adjusted, and the table has the devices, each in no bucket
pub record BucketsAreDue (s : SettingData) (t : List Row) (d : Draft) : Type 0 where
  pub setting : IsSetting d.setting
  pub unruled : d.setting.rules ≡ []
  pub kinds : (b : ℕ) (r : Row) → row_of t (Bucket b) ≡ Some r → kind_number d.setting (kind_text s r.kind) ≡ Some r.kind
  pub pending : d.pending ≡ nothing
  pub adjusted : d.adjusted ≡ 0
  pub table : Same (part_of is_device_id (λ _. false) t) d.table

-- the words of the buckets lead to a table and a setting that are the same as t and s, and no weight is adjusted
pub record BucketsLead (form : WeightForm) (s : SettingData) (t : List Row) (late : Bool) (d : Draft) (others : List (List ℕ)) : Type 0 where
  pub last : Draft
  pub behind : Bool
  pub setting : last.setting ≡ d.setting
  pub pending : last.pending ≡ nothing
  pub adjusted : last.adjusted ≡ 0
  pub table : Same t last.table
  pub lawful : IsLawfulDraft last
  pub goes : Goes (between (at (idle late) d)) (flat_map (whole_words form s t) (root_order t)) others (between (at (idle behind) last))

-- THE BUCKETS ARE BUILT by their words, whenever they are due
abbrev pub BucketsAreBuilt : Type 0
BucketsAreBuilt = (form : WeightForm) (s : SettingData) (t : List Row) → Lawful t → (late : Bool) (d : Draft) (others : List (List ℕ)) → BucketsAreDue s t d → BucketsLead form s t late d others

-- ONE BUCKET: its words lead to the table that also has this bucket and its items in it
record BucketLeads (s : SettingData) (t : List Row) (seen : ℕ → Bool) (b : ℕ) (late : Bool) (u : List Row) (words others : List (List ℕ)) : Type 0 where
  items : ItemId → Bool
  places : ItemId → Bool
  table : List Row
  read : IsRead t (add seen b) (add seen b) items places (whole_kids t (add seen b)) table
  goes : Goes (between (at (idle late) (built s u nothing))) words others (between (at second (built s table nothing)))

-- an item that is in a table has a row
row_there : (o : Option Row) → is_some o ≡ true → (x : Row) × (o ≡ Some x)
row_there None h = absurd (let no : false ≡ true = h in cc)
row_there (Some x) h = (x, refl)

module _ (form : WeightForm) (s : SettingData) (names : ℕ → List ℕ) (t : List Row) (l : Lawful t) (h : HasKinds s names t) where
  -- the words of a bucket, except for the names of types
  abbrev words_with : ℕ → List (List ℕ)
  words_with b = option_map_or (λ (x : Row). bucket_words (names x.kind) x (flat_map (kid_words form t) (kids t b))) (row_of t (Bucket b)) []

  bucket_leads : (b : ℕ) → is_there t (Bucket b) ≡ true → (seen : ℕ → Bool) → seen b ≡ false → ((j : ℕ) → parent_of t (Bucket j) ≡ Some b → seen j ≡ true)
      → (q P : ItemId → Bool) (u : List Row) → IsRead t seen seen q P (whole_kids t seen) u → (late : Bool) (others : List (List ℕ)) → BucketLeads s t seen b late u (words_with b) others
  bucket_leads b there seen new ready q P u r late others =
      let x = row_there (row_of t (Bucket b)) there in
      let brace : List (List ℕ) = codes "}" ∷ [] in
      let front : List (List ℕ) = (head_words (names x.0.kind) x.0.name x.0.id ++ flat_map class_id_words x.0.class_ids) ++ choice_words x.0 in
      let items : List (List ℕ) = flat_map (kid_words form t) (kids t b) in
      let filled = items_lead form s names t l h b x.0 x.1 seen new ready (with_one q (Bucket b)) (kids t b) [] false P (u ++ bare x.0 ∷ []) (brace ++ others) refl
      (read_opened t l b x.0 x.1 seen q P u r new) (All-nil (λ (k : ItemId). P k ≡ true)) (All-weaker (λ (k : ItemId). parent_of t k ≡ Some b) (λ (k : ItemId). P k ≡ false) (λ k e. r.loose k b new e) (kids t b) (All-kids t l b))
      (All-kids t l b) (kids_once t l b) in
      let read = read_ended t b seen (with_one q (Bucket b)) filled.places filled.table filled.read filled.placed in
      record {
        items = with_one q (Bucket b);
        places = filled.places;
        table = filled.table;
        read = read;
        goes = subst (λ (o : Option Row). Goes (between (at (idle late) (built s u nothing))) (option_map_or (λ (y : Row). bucket_words (names y.kind) y (flat_map (kid_words form t) (kids t b))) o []) others (between (at second (built s filled.table nothing)))) (sym x.1)
            (goes_both (between (at (idle late) (built s u nothing))) (front ++ items) brace others (between (at (filling filled.some) (built s filled.table (is_filling b)))) (between (at second (built s filled.table nothing)))
            (goes_both (between (at (idle late) (built s u nothing))) front items (brace ++ others) (between (at (filling false) (built s (u ++ bare x.0 ∷ []) (is_filling b)))) (between (at (filling filled.some) (built s filled.table (is_filling b))))
            (front_leads s names t l h b x.0 x.1 seen q P u r new late (items ++ (brace ++ others))) filled.goes)
            (end_goes filled.some (built s filled.table (is_filling b)) others
            (read_draft s names t l h (add seen b) (add seen b) (with_one q (Bucket b)) filled.places (whole_kids t (add seen b)) filled.table read nothing tt)));
      }

  -- ALL BUCKETS: each bucket is printed after the buckets among its items
  record RestLeads (late : Bool) (u : List Row) (words others : List (List ℕ)) : Type 0 where
    table : List Row
    behind : Bool
    same : Same t table
    lawful : IsLawfulDraft (built s table nothing)
    goes : Goes (between (at (idle late) (built s u nothing))) words others (between (at (idle behind) (built s table nothing)))

  rest_leads : (xs : List ℕ) (seen : ℕ → Bool) (q P : ItemId → Bool) (u : List Row) → IsRead t seen seen q P (whole_kids t seen) u → Ready t seen xs → ((j : ℕ) → one_if (seen j) + times j xs ≡ one_if (is_there t (Bucket j)))
      → (late : Bool) (others : List (List ℕ)) → RestLeads late u (flat_map words_with xs) others
  rest_leads [] seen q P u r ready count late others = record {
    table = u;
    behind = late;
    same = read_whole t l seen q P u r (λ j. equal (seen j) (is_there t (Bucket j)) (count j));
    lawful = read_draft s names t l h seen seen q P (whole_kids t seen) u r nothing tt;
    goes = refl;
  } where
    equal : (v w : Bool) → one_if v + 0 ≡ one_if w → v ≡ w
    equal true true e = refl
    equal false false e = refl
    equal true false e = absurd (omega (arith, e))
    equal false true e = absurd (omega (arith, e))
  rest_leads (b ∷ xs) seen q P u r ready count late others =
      let one : one_if (b == b) ≡ 1 = ap one_if (itself b) in
      let here = first_time (seen b) (is_there t (Bucket b)) (times b xs) (omega (arith, count b, one, sum_by-cons (λ x. one_if (x == b)) b xs)) in
      let first = bucket_leads b here.1 seen here.0 ready.0 q P u r late (flat_map words_with xs ++ others) in
      let rest = rest_leads xs (add seen b) first.items first.places first.table first.read ready.1
      (λ j. counted j here.0 (seen j) (b == j) refl refl (omega (arith, count j, sum_by-cons (λ x. one_if (x == j)) b xs))) true others in
      record {
        table = rest.table;
        behind = rest.behind;
        same = rest.same;
        lawful = rest.lawful;
        goes = goes_both (between (at (idle late) (built s u nothing))) (words_with b) (flat_map words_with xs) others (between (at second (built s first.table nothing))) (between (at (idle rest.behind) (built s rest.table nothing))) first.goes rest.goes;
      }
    where
      itself : (n : ℕ) → (n == n) ≡ true
      itself n = grind arith

      first_time : (v w : Bool) (n : ℕ) → one_if v + (1 + n) ≡ one_if w → (v ≡ false) × (w ≡ true)
      first_time false true n e = (refl, refl)
      first_time true true n e = absurd (omega (arith, e))
      first_time true false n e = absurd (omega (arith, e))
      first_time false false n e = absurd (omega (arith, e))

      counted : (j : ℕ) → seen b ≡ false → (v w : Bool) → seen j ≡ v → (b == j) ≡ w → one_if (seen j) + (one_if (b == j) + times j xs) ≡ one_if (is_there t (Bucket j)) → one_if (add seen b j) + times j xs ≡ one_if (is_there t (Bucket j))
      counted j new true true k m e = absurd (both_ways (seen b) (ap seen (eqb-true b j m) ∙ k) new)
      counted j new true false k m e =
          let all : one_if (add seen b j) ≡ 1 = λ i. one_if (k i || m i) in
          let own : one_if (seen j) ≡ 1 = ap one_if k in
          let none : one_if (b == j) ≡ 0 = ap one_if m in
          omega (arith, all, own, none, e)
      counted j new false w k m e =
          let all : one_if (add seen b j) ≡ one_if (b == j) = λ i. one_if (k i || (b == j)) in
          let own : one_if (seen j) ≡ 0 = ap one_if k in
          omega (arith, all, own, e)

-- THE BUCKETS ARE BUILT by their words
pub buckets_are_built : BucketsAreBuilt
buckets_are_built form s t l late d others due =
    let kinds : HasKinds d.setting (kind_text s) t = record { setting = due.setting; unruled = due.unruled; kinds = due.kinds } in
    let rest = rest_leads form d.setting (kind_text s) t l kinds (root_order t) (λ _. false) is_device_id (λ _. false) d.table (first_read t d.table due.table) (root_order-ready t l) (λ j. omega (arith, root_order-times t l j)) late others in
    let same : d ≡ built d.setting d.table nothing = λ k. record { setting = d.setting; table = d.table; pending = due.pending k; adjusted = due.adjusted k } in
    record {
      last = built d.setting rest.table nothing;
      behind = rest.behind;
      setting = refl;
      pending = refl;
      adjusted = refl;
      table = rest.same;
      lawful = rest.lawful;
      goes = subst (λ (e : Draft). Goes (between (at (idle late) e)) (flat_map (whole_words form s t) (root_order t)) others (between (at (idle rest.behind) (built d.setting rest.table nothing)))) (sym same) rest.goes;
    }
