-- Proves that a map compared with itself by names has no lines about differences.
use Rattle.std.proofs.Common.{◌≡◌, ℕ, Bool, true, false, List, [], ◌∷◌, ◌++◌, length, refl, ap, ◌∙◌, arith, eq-eqb}
use Rattle.std.specs.Prelude.{flat_map, Option, None, Some, is_some, ◌&&◌, not, if◌then◌else◌, codes}
use Rattle.std.specs.List.{count_by}
use Rattle.std.specs.Cmp.{signed_Decides}
use Rattle.std.proofs.lemmas.List.Sums.{sum_by-cons}
use Rattle.crush_units.specs.declared.id.ItemId.{ItemId}
use Rattle.crush_units.specs.declared.id.ItemId.TheVariants.{Device, Bucket}
use Rattle.crush_model.specs.Count.{one_if}
use Rattle.crush_model.specs.Lawful.{Lawful}
use Rattle.crush_model.specs.Table.{Row, row_of, name_of, total}
use Rattle.crush_model.proofs.Tested.{bytes_itself}
use Rattle.crush_edits.specs.Setting.{SettingData}
use Rattle.crush_nodes.specs.Views.{ViewData}
use Rattle.crush_compare.specs.Equal.{same_option}
use Rattle.crush_items.specs.ItemData.{ItemData, with_holder, row_item}
use Rattle.crush_since.specs.Settings.{same_bool}
use Rattle.crush_since.specs.Since.{plain_map, totals_line}
use Rattle.crush_since.specs.Tallies.{counts_line, is_made, is_reweighed, is_reclassed, no_tally}
use Rattle.crush_compare.specs.declared.identity.Identity.TheVariants.{Names}
use Rattle.crush_since.specs.RuleChanges.{lines_beside_part}
use Rattle.crush_since.proofs.BesideItself.{no_lines_beside}
use Rattle.crush_items.specs.Tree.{tree_rows}
use Rattle.crush_compare.specs.declared.identity.Devices.{Devices}
use Rattle.crush_compare.specs.declared.identity.Devices.TheVariants.{ById, ByName}
use Rattle.crush_since.specs.CountedByName.{both_meet, is_gone_by_name, is_moved_by_name, tally_by_name}
use Rattle.crush_compare.specs.Named.{are_one, counterpart}
use Rattle.crush_compare.specs.NamedPairs.{PairData, pairs}
use Rattle.crush_since.specs.SinceNamesLaws.{NothingByNamesSinceItself}
use Rattle.crush_since.specs.SinceNames.{changed, changed_pair, changed_lines, other_weights, since_names_part, since_names_text}
use Rattle.crush_since.specs.Stays.{both_types, both_places, both_classes, both_algs, item_type, place_word, same_place, stay_line, text_of_lines}
use Rattle.crush_since.proofs.AlikeLaws.{row_named_own, counterpart_named, test_of_type, part_none, none_of_five}
use Rattle.crush_since.proofs.NamedPairs.{whole_pairs}
use Rattle.crush_since.proofs.TreeLaws.{tree_none}
use Rattle.crush_since.proofs.SinceItself.{algs_itself, text_itself}

-- NO LINE about settings, rules and classes
no_settings : (s : SettingData) (t : List Row) → Lawful t → lines_beside_part (Names ByName) None (plain_map s t) (plain_map s t) ≡ []
no_settings s t l = no_lines_beside (Names ByName) s t l

-- EACH ITEM is its own counterpart
one_device : (by : Devices) (d : ℕ) → are_one by (Device d) (Device d) ≡ true
one_device ById d = eq-eqb d d refl
one_device ByName d = refl

one_itself : (by : Devices) (i : ItemId) → are_one by i i ≡ true
one_itself by (Device d) = one_device by d
one_itself by (Bucket b) = refl

found_itself : (by : Devices) (t : List Row) → Lawful t → (i : ItemId) (r : Row) → row_of t i ≡ Some r → counterpart by t (row_item t r) ≡ Some (row_item t r)
found_itself by t l i r found =
    counterpart_named by t (row_item t r) r l.ids (row_named_own t i r l found) ∙ ap (λ b. if b then Some (row_item t r) else None) (one_itself by r.id)

-- if a text is empty for each item paired with itself, it is empty for all pairs of a map and itself
module _ (g : PairData → List ℕ) (none : (x : ItemData) → g (record { before = Some x; after = Some x }) ≡ []) (by : Devices) (t : List Row) (l : Lawful t) where
  of_new : ViewData → List ℕ
  of_new v = g (record { before = counterpart by t (with_holder t v); after = Some (with_holder t v) })

  of_old : ViewData → List ℕ
  of_old v = if is_some (counterpart by t (with_holder t v)) then [] else g (record { before = Some (with_holder t v); after = None })

  pub none_of_pairs : flat_map g (pairs by None t t) ≡ []
  unfolding of_new of_old
  none_of_pairs =
      whole_pairs g by t t
      ∙ (λ k. tree_none t of_new (λ i r found. ap (λ o. g (record { before = o; after = Some (row_item t r) })) (found_itself by t l i r found) ∙ none (row_item t r)) k
      ++ tree_none t of_old (λ i r found. ap (λ (o : Option ItemData). if is_some o then [] else g (record { before = Some (row_item t r); after = None })) (found_itself by t l i r found)) k)

-- NO LINE about an item
no_part : (s : SettingData) (x : ItemData) → changed s s x x ≡ []
unfolding same_place
no_part s x =
    none_of_five (both_types (codes " to ") s s x x) (both_places (codes "from ") (codes " to ") x x) (other_weights x x) (both_classes (codes " to ") x x) (both_algs (codes " to ") x x)
    (part_none _ _ (test_of_type x.view.id (item_type s x) (item_type s x) refl))
    (part_none _ _ (bytes_itself (place_word x)))
    (part_none _ _ (eq-eqb x.view.weight x.view.weight refl))
    (part_none _ _ (text_itself x.view.class))
    (part_none _ _ (algs_itself x.view.alg))

no_lines : (s : SettingData) (t : List Row) → Lawful t → changed_lines None (plain_map s t) (plain_map s t) ≡ []
unfolding changed_lines changed_pair
no_lines s t l = none_of_pairs (changed_pair s s) (λ x. ap (λ ps. text_of_lines (stay_line x.view.name ps)) (no_part s x)) ByName t l

-- NO COUNT is greater than 0
mark : Bool → List ℕ
mark b = if b then 0 ∷ [] else []

unmarked : {X : Type 0} (p : X → Bool) (xs : List X) → flat_map (λ x. mark (p x)) xs ≡ [] → count_by p xs ≡ 0
unfolding mark
unmarked p [] e = refl
unmarked p (x ∷ xs) e = at (p x) refl e (unmarked p xs) where
  at : (b : Bool) → p x ≡ b → mark b ++ flat_map (λ y. mark (p y)) xs ≡ [] → (flat_map (λ y. mark (p y)) xs ≡ [] → count_by p xs ≡ 0) → count_by p (x ∷ xs) ≡ 0
  at true is h rest = absurd (let long : length (mark true ++ flat_map (λ y. mark (p y)) xs) ≡ 0 = ap length h in omega (arith, long))
  at false is h rest = let zero_here : one_if (p x) ≡ 0 = ap one_if is in omega (arith, zero_here, rest h, sum_by-cons (λ y. one_if (p y)) x xs)

module _ (t : List Row) (l : Lawful t) where
  meets : (Option ItemData → Option ItemData → Bool) → ViewData → List ℕ
  meets test v = mark (test (counterpart ByName t (with_holder t v)) (Some (with_holder t v)))

  none_meet : (test : Option ItemData → Option ItemData → Bool) → ((x : ItemData) → test (Some x) (Some x) ≡ false) → count_by (both_meet test t t) (tree_rows t) ≡ 0
  unfolding meets mark
  none_meet test each =
      unmarked (both_meet test t t) (tree_rows t)
      (tree_none t (meets test) (λ i r found. ap (λ o. mark (test o (Some (row_item t r)))) (found_itself ByName t l i r found) ∙ ap mark (each (row_item t r))))

  gone : ViewData → List ℕ
  gone v = mark (not (is_some (counterpart ByName t (with_holder t v))))

  none_gone : count_by (is_gone_by_name t t) (tree_rows t) ≡ 0
  unfolding gone mark
  none_gone =
      unmarked (is_gone_by_name t t) (tree_rows t)
      (tree_none t gone (λ i r found. ap (λ (o : Option ItemData). mark (not (is_some o))) (found_itself ByName t l i r found)))

  no_counts : tally_by_name t t ≡ no_tally
  unfolding same_place
  no_counts = λ k. record {
    made = none_meet is_made (λ x. refl) k;
    removed = none_gone k;
    renamed = 0;
    moved = none_meet is_moved_by_name (λ x. ap not (bytes_itself (place_word x))) k;
    reweighed = none_meet is_reweighed (λ x. ap not (eq-eqb x.view.weight x.view.weight refl)) k;
    reclassed = none_meet is_reclassed (λ x. ap not (text_itself x.view.class)) k;
  }

pub nothing_by_names_since_itself : NothingByNamesSinceItself
unfolding since_names_text since_names_part
nothing_by_names_since_itself s t l = λ k. no_lines s t l k ++ no_settings s t l k ++ totals_line (total t) (total t) ++ counts_line (no_counts t l k)
