-- The numbers of devices and buckets in a list of nodes.
use Rattle.std.proofs.Common.{◌≡◌, ℕ, ◌+◌, ◌<◌, List, [], ◌∷◌, length, get_or, take, drop, ap, ◌∙◌}
use Rattle.crush_model.specs.Items.{size_of}
use Rattle.crush_model.specs.Forest.{join}
use Rattle.crush_nodes.specs.Search.{devices_in}
use Rattle.crush_nodes.specs.Seen.{items_of}
use Rattle.crush_nodes.specs.declared.node.Node.{Node}
use Rattle.crush_nodes.proofs.CountLaws.{devices_in-join, size_of-join}
use Rattle.crush_nodes.proofs.Steps.{items_of-split, items_of-taken}

module _ {A : _} (ns : List (Node A)) (i : ℕ) (x : Node A) (lt : i < length ns) (e : x ≡ get_or ns i x) where
  pub devices_split : devices_in (items_of ns) ≡ devices_in (items_of (take i ns)) + (devices_in (items_of (x ∷ [])) + devices_in (items_of (drop (i + 1) ns)))
  devices_split = ap devices_in (items_of-split ns i x lt e) ∙ devices_in-join (items_of (take i ns)) (join (items_of (x ∷ [])) (items_of (drop (i + 1) ns))) ∙ ap (λ z. devices_in (items_of (take i ns)) + z) (devices_in-join (items_of (x ∷ [])) (items_of (drop (i + 1) ns)))

  pub devices_taken : devices_in (items_of (take (i + 1) ns)) ≡ devices_in (items_of (take i ns)) + devices_in (items_of (x ∷ []))
  devices_taken = ap devices_in (items_of-taken ns i x lt e) ∙ devices_in-join (items_of (take i ns)) (items_of (x ∷ []))

  pub buckets_split : size_of (items_of ns) ≡ size_of (items_of (take i ns)) + (size_of (items_of (x ∷ [])) + size_of (items_of (drop (i + 1) ns)))
  buckets_split = ap size_of (items_of-split ns i x lt e) ∙ size_of-join (items_of (take i ns)) (join (items_of (x ∷ [])) (items_of (drop (i + 1) ns))) ∙ ap (λ z. size_of (items_of (take i ns)) + z) (size_of-join (items_of (x ∷ [])) (items_of (drop (i + 1) ns)))

  pub buckets_taken : size_of (items_of (take (i + 1) ns)) ≡ size_of (items_of (take i ns)) + size_of (items_of (x ∷ []))
  buckets_taken = ap size_of (items_of-taken ns i x lt e) ∙ size_of-join (items_of (take i ns)) (items_of (x ∷ []))
