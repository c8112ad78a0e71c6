-- Proves that counting the pairs whose ids differ counts the buckets whose ids differ.
use Rattle.std.proofs.Common.{◌≡◌, ℕ, zero, suc, ◌+◌, true, false, List, [], ◌∷◌, ap, subst, sym, ◌∙◌, refl, arith}
use Rattle.std.specs.Prelude.{All, Bool, IfSome, Option, None, Some, is_some, not, ◌&&◌, option_and_then}
use Rattle.std.specs.Cmp.Lexicographic.{pointwise}
use Rattle.std.specs.List.{count_by, slice_get}
use Rattle.std.specs.Option.{option_map, option_map_or}
use Rattle.std.proofs.lemmas.List.Elements.{All-head, All-tail}
use Rattle.crush_model.specs.Count.{one_if}
use Rattle.crush_model.specs.Table.{Row}
use Rattle.crush_model.proofs.Climbs.{sum_by-zero}
use Rattle.crush_model.proofs.KidSums.{sum_by-agree}
use Rattle.crush_items.specs.Entries.{EntryData, entry_of}
use Rattle.crush_items.specs.ItemData.{ItemData, own_class_ids}
use Rattle.crush_items.specs.Items.{HasEntries, entry_id}
use Rattle.crush_items.specs.Tree.{WalkStepData, tree_rows}
use Rattle.crush_items.proofs.EntryLaws.{entry_class_ids}
use Rattle.crush_compare.specs.IdPairs.{class_ids_of, entries_at}
use Rattle.crush_compare.specs.Named.{counterpart}
use Rattle.crush_compare.specs.NamedPairs.{PairData, is_of_part, pairs, step_item}
use Rattle.crush_compare.specs.PairItems.{items_at}
use Rattle.crush_compare.specs.SameItem.{same_class_id}
use Rattle.crush_compare.specs.declared.by_id.Pair.{Pair}
use Rattle.crush_compare.specs.declared.identity.Devices.TheVariants.{ById}
use Rattle.crush_since.specs.Aside.{has_other_class_ids, of_pair}
use Rattle.crush_since.proofs.NamedPairs.{count_pairs, of_new_step, of_old_step}

-- the class ids of the entry at a position are those that the table has for the entry's id
told_at : (t : List Row) (es : List EntryData) (k : ℕ) (e : EntryData) → All (λ x. entry_of t (entry_id x) ≡ Some x) es → slice_get es k ≡ Some e → entry_of t (entry_id e) ≡ Some e
told_at t [] k e told at = absurd cc
told_at t (x ∷ es) zero e told at = let same : x ≡ e = cc in subst (λ y. entry_of t (entry_id y) ≡ Some y) same (All-head (λ y. entry_of t (entry_id y) ≡ Some y) x es told)
told_at t (x ∷ es) (suc k) e told at = told_at t es k e (All-tail (λ y. entry_of t (entry_id y) ≡ Some y) x es told) at

abbrev HasOwn : List Row → Option EntryData → Type 0
HasOwn t o = IfSome o (λ e. e.class_ids ≡ own_class_ids t (entry_id e))

has_own : (t : List Row) (es : List EntryData) → HasEntries t es → (at : Option ℕ) → HasOwn t (option_and_then (slice_get es) at)
has_own t es has None = tt
has_own t es has (Some k) = by_entry (slice_get es k) refl where
  by_entry : (o : Option EntryData) → slice_get es k ≡ o → HasOwn t o
  by_entry None is = tt
  by_entry (Some e) is = ap (λ (o : Option EntryData). option_map_or (λ (x : EntryData). x.class_ids) o []) (sym (told_at t es k e has.told is)) ∙ entry_class_ids t (entry_id e)

pub other_class_ids_of : (t u : List Row) (es fs : List EntryData) → HasEntries t es → HasEntries u fs → (p : Pair)
    → ((is_some (items_at es fs p).before && is_some (items_at es fs p).after) && not (pointwise same_class_id (class_ids_of (entries_at es fs p).before) (class_ids_of (entries_at es fs p).after))) ≡ of_pair (has_other_class_ids t u) (items_at es fs p)
other_class_ids_of t u es fs has_t has_u p = by_both (option_and_then (slice_get es) p.before) (option_and_then (slice_get fs) p.after) (has_own t es has_t p.before) (has_own u fs has_u p.after) where
  by_both : (o q : Option EntryData) → HasOwn t o → HasOwn u q
      → ((is_some (option_map (λ (e : EntryData). e.item) o) && is_some (option_map (λ (e : EntryData). e.item) q)) && not (pointwise same_class_id (class_ids_of o) (class_ids_of q)))
      ≡ option_map_or (has_other_class_ids t u (option_map (λ (e : EntryData). e.item) o)) (option_map (λ (e : EntryData). e.item) q) false
  by_both None None a b = refl
  by_both None (Some f) a b = refl
  by_both (Some e) None a b = refl
  by_both (Some e) (Some f) a b = λ k. not (pointwise same_class_id (a k) (b k))

-- the number of a part's pairs that meet a test is the number of steps of the wanted table's tree that meet the test and are in the part
pub aside_pairs : (test : Option ItemData → ItemData → Bool) (under : Option (List ℕ)) (t u : List Row)
    → count_by (of_pair test) (pairs ById under t u) ≡ count_by (λ (s : WalkStepData). test (counterpart ById t (step_item u s)) (step_item u s) && is_of_part ById under t u (step_item u s)) (tree_rows u)
aside_pairs test under t u =
    let all = count_pairs (of_pair test) ById under t u in
    let none = sum_by-zero (λ (s : WalkStepData). one_if (of_old_step (of_pair test) ById under t u s)) (λ s. refl) (tree_rows t) in
    omega (arith, all, none)
