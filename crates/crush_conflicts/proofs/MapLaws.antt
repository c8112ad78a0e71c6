-- What operators' maps have of an item, one operator after the other.
use Rattle.std.proofs.Common.{◌≡◌, ℕ, suc, ◌+◌, ◌<◌, ◌≤◌, List, [], ◌∷◌, ◌++◌, length, take, get_or, map, ap, sym, ◌∙◌, add-one, arith}
use Rattle.std.specs.Prelude.{flat_map}
use Rattle.std.proofs.lemmas.List.{append-nil, append_assoc, map_push}
use Rattle.std.proofs.lemmas.Grind.{flat_map-append}
use Rattle.crush_model.specs.Table.{Row}
use Rattle.crush_conflicts.specs.Cases.{FoundData}
use Rattle.crush_conflicts.specs.Conflicts.{OperatorData, tables_of}
use Rattle.crush_conflicts.specs.MapsSeen.{IsOperator}
use Rattle.crush_conflicts.specs.Pairwise.{Pairwise}
use Rattle.crush_conflicts.specs.declared.maps.Operator.{Operator}
use Rattle.crush_conflicts.proofs.PairwiseLaws.{pair_at, pairwise_all}

module _ {A : _} (os : List OperatorData) (xs : List (Operator A)) (i : ℕ) (x : Operator A) where
  -- one more
  pub found_more : (f : OperatorData → FoundData) (found more : List FoundData) (y : FoundData) → Pairwise IsOperator os xs → i < length xs → x ≡ get_or xs i x → found ≡ map f (take i os) → more ≡ found ++ y ∷ []
      → ((o : OperatorData) → IsOperator o x → y ≡ f o) → more ≡ map f (take (i + 1) os)
  found_more f found more y are lt is before after same =
      let at = pair_at IsOperator os xs i x are lt is in
      after ∙ (λ j. before j ++ same at.first at.both j ∷ []) ∙ sym (map_push f (take i os) at.first) ∙ ap (map f) (sym at.next) ∙ ap (λ n. map f (take n os)) (sym (add-one i))

  -- the names of one more table
  pub names_more : (names : List Row → List (List ℕ)) (found more : List (List ℕ)) (news : List (List ℕ)) → Pairwise IsOperator os xs → i < length xs → x ≡ get_or xs i x → found ≡ flat_map names (tables_of (take i os)) → more ≡ found ++ news
      → ((o : OperatorData) → IsOperator o x → news ≡ names o.table) → more ≡ flat_map names (tables_of (take (i + 1) os))
  names_more names found more news are lt is before after same =
      let at = pair_at IsOperator os xs i x are lt is in
      after ∙ (λ j. before j ++ (same at.first at.both ∙ sym (append-nil (names at.first.table))) j) ∙ sym (flat_map-append names (tables_of (take i os)) (at.first.table ∷ []))
      ∙ ap (flat_map names) (sym (map_push (λ (o : OperatorData). o.table) (take i os) at.first)) ∙ ap (λ l. flat_map names (tables_of l)) (sym at.next) ∙ ap (λ n. flat_map names (tables_of (take n os))) (sym (add-one i))

-- all
pub operators_all : {A : _} (os : List OperatorData) (xs : List (Operator A)) (i : ℕ) → Pairwise IsOperator os xs → length xs ≤ i → take i os ≡ os
operators_all os xs i are le = pairwise_all IsOperator os xs i are le
