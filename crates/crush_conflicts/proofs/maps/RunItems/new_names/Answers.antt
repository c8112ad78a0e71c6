use Rattle.std.proofs.Common.{◌≡◌, map, rules, subst, sym}
use Rattle.std.specs.List.Sorted.{IsPermutation}
use Rattle.std.proofs.lemmas.Fn.{always_returns_same}
use Rattle.std.proofs.lemmas.List.Sorted.{IsPermutation-map}
use Rattle.crush_conflicts.specs.MapsSeen.{IsOperator}
use Rattle.crush_conflicts.specs.Pairwise.{Pairwise}
use Rattle.crush_conflicts.proofs.NameLaws.{sorted_names}
use Rattle.crush_conflicts.proofs.maps.RunItems.new_names.Goals as goal

pub returns : goal.returns
returns g c = λ t os stands are. record {
  all = subst (λ l. IsPermutation l (map (λ n. n.now) c.sort_unstable_by_key.new.self.items)) (c.in_ok-names.ensures t os stands (subst (Pairwise IsOperator os) (sym c.as_slice.ensures.value) are))
      (IsPermutation-map (λ n. n.now) _ _ c.sort_unstable_by_key.ensures.permutation);
  sorted = sorted_names (λ n. n.now) _ (c.sort_unstable_by_key.ensures.sorted (λ n. n) (always_returns_same _ (λ a r. r ≡ a.0.now) _ (λ a r q k. search rules)));
}
