-- Finds an item among the nodes at its place, its siblings.
use Rattle.std.proofs.Common.{◌≡◌, ℕ, zero, suc, ◌∷◌, ◌++◌, ◌+◌, ◌<◌, [], List, Bool, true, false, map, length, get_or, take, ap, sym, subst, refl, ◌∙◌, arith, ⊎_elim}
use Rattle.std.specs.Prelude.{All, Option, None, Some, ◌&&◌, not, is_none, is_some, filter, flat_map, if◌then◌else◌, option_and_then, ◌==◌}
use Rattle.std.specs.Option.{option_map, option_map_or}
use Rattle.std.proofs.lemmas.List.Elements.{All-nil, All-cons, All-head, All-tail, All-push}
use Rattle.std.proofs.lemmas.List.{take_more}
use Rattle.crush_units.specs.declared.id.ItemId.{ItemId}
use Rattle.crush_units.specs.declared.id.ItemId.TheVariants.{Device as DeviceItem, Bucket as BucketItem}
use Rattle.crush_units.specs.Id.{same_id, is_device_id}
use Rattle.crush_units.proofs.Ids.{same_id_tells}
use Rattle.crush_model.specs.Lawful.{HasParent}
use Rattle.crush_model.specs.Reordered.{IsReordered}
use Rattle.crush_model.specs.Table.{Row, row_of, parent_of, kids, is_parent}
use Rattle.crush_model.proofs.Moved.{found_id}
use Rattle.crush_model.proofs.Reorder.{reordered-All, reordered-is}
use Rattle.crush_nodes.specs.Seen.{items_of, node_id}
use Rattle.crush_nodes.specs.Views.{ViewData, row_view}
use Rattle.crush_nodes.specs.declared.node.Node.{Node}
use Rattle.crush_tree.specs.Tops.{root_ids, unplaced_ids}
use Rattle.crush_items.specs.SeenPart.{HasSteps}
use Rattle.crush_items.specs.Tree.{WalkStepData, step_at, steps_at, steps_of}
use Rattle.crush_print.proofs.BelowLaws.{no_kids}

some_is : {X : Type 0} (x y : X) → Some x ≡ Some y → x ≡ y
some_is x y e = cc

-- AMONG ROWS: if none of the rows that pass the test P has the id i, then the row of i doesn't pass the test
module _ (P : Row → Bool) (i : ItemId) where
  abbrev IsOther : ItemId → Type 0
  IsOther j = same_id j i ≡ false

  abbrev ids_of : List Row → List ItemId
  ids_of t = map (λ (r : Row). r.id) t

  abbrev chosen : Bool → Row → List Row → List Row
  chosen z x t = if z then x ∷ filter P t else filter P t

  own_fails : (z : Bool) (x : Row) (t : List Row) → same_id x.id i ≡ true → All IsOther (ids_of (chosen z x t)) → z ≡ false
  own_fails true x t same others = absurd (let other : same_id x.id i ≡ false = All-head IsOther x.id (ids_of (filter P t)) others in cc)
  own_fails false x t same others = refl

  others_left : (z : Bool) (x : Row) (t : List Row) → All IsOther (ids_of (chosen z x t)) → All IsOther (ids_of (filter P t))
  others_left true x t others = All-tail IsOther x.id (ids_of (filter P t)) others
  others_left false x t others = others

  pub fails_among : (t : List Row) (r : Row) → row_of t i ≡ Some r → All IsOther (ids_of (filter P t)) → P r ≡ false
  fails_among [] r found others = absurd cc
  fails_among (x ∷ t) r found others = ⊎_elim
      (λ q. ap P (sym (some_is x r (sym (ap (λ z. if z then Some x else row_of t i) q.0) ∙ found))) ∙ own_fails (P x) x t q.0 others)
      (λ q. fails_among t r (sym (ap (λ z. if z then Some x else row_of t i) q.0) ∙ found) (others_left (P x) x t others))
      (same_id_tells x.id i)

-- AMONG NODES that have the ids of the rows that pass the test
others_as_ids : {A : _} (i : ItemId) (ns : List (Node A)) → All (λ node. same_id (node_id node) i ≡ false) ns → All (λ j. same_id j i ≡ false) (map node_id ns)
others_as_ids i [] others = All-nil (λ j. same_id j i ≡ false)
others_as_ids i (x ∷ ns) others =
    All-cons (λ j. same_id j i ≡ false) (node_id x) (map node_id ns) (All-head (λ node. same_id (node_id node) i ≡ false) x ns others) (others_as_ids i ns (All-tail (λ node. same_id (node_id node) i ≡ false) x ns others))

not_there : {A : _} (P : Row → Bool) (t : List Row) (i : ItemId) (ns : List (Node A)) → IsReordered (map node_id ns) (map (λ (r : Row). r.id) (filter P t)) → All (λ node. same_id (node_id node) i ≡ false) ns
    → ((r : Row) → row_of t i ≡ Some r → P r ≡ true) → row_of t i ≡ None
not_there P t i ns same others holds = by_row (row_of t i) refl where
  by_row : (o : Option Row) → row_of t i ≡ o → o ≡ None
  by_row None e = refl
  by_row (Some r) e = absurd (let yes : P r ≡ true = holds r e in let no : P r ≡ false = fails_among P i t r e (reordered-All (λ j. same_id j i ≡ false) same (others_as_ids i ns others)) in cc)

-- the parent of an item is the parent in its row
own_parent : (t : List Row) (i : ItemId) (p : Option ℕ) (r : Row) → parent_of t i ≡ p → row_of t i ≡ Some r → r.parent ≡ p
own_parent t i p r above found = sym (ap (option_and_then (λ (x : Row). x.parent)) found) ∙ above

own_id : (t : List Row) (i : ItemId) (r : Row) → row_of t i ≡ Some r → r.id ≡ i
own_id t i r found = ⊎_elim (λ q. q.1) (λ q. absurd (let yes : same_id r.id i ≡ true = found_id i t r found in let no : same_id r.id i ≡ false = q.0 in cc)) (same_id_tells r.id i)

same_number : (b : ℕ) → (b == b) ≡ true
same_number b = grind arith

pub not_in_bucket : {A : _} (t : List Row) (i : ItemId) (b : ℕ) (ns : List (Node A)) → map node_id ns ≡ kids t b → parent_of t i ≡ Some b → All (λ node. same_id (node_id node) i ≡ false) ns → row_of t i ≡ None
not_in_bucket t i b ns ids above others = not_there (λ (r : Row). is_parent b r.parent) t i ns (reordered-is ids) others (λ r found. ap (is_parent b) (own_parent t i (Some b) r above found) ∙ same_number b)

pub not_among_roots : {A : _} (t : List Row) (b : ℕ) (ns : List (Node A)) → IsReordered (map node_id ns) (root_ids t) → parent_of t (BucketItem b) ≡ None → All (λ node. same_id (node_id node) (BucketItem b) ≡ false) ns → row_of t (BucketItem b) ≡ None
not_among_roots t b ns ids above others =
    not_there (λ (r : Row). not (is_device_id r.id) && is_none r.parent) t (BucketItem b) ns ids others
    (λ r found. (λ k. not (is_device_id (own_id t (BucketItem b) r found k)) && is_none (own_parent t (BucketItem b) None r above found k)))

pub not_among_unplaced : {A : _} (t : List Row) (d : ℕ) (ns : List (Node A)) → IsReordered (map node_id ns) (unplaced_ids t) → parent_of t (DeviceItem d) ≡ None → All (λ node. same_id (node_id node) (DeviceItem d) ≡ false) ns → row_of t (DeviceItem d) ≡ None
not_among_unplaced t d ns ids above others =
    not_there (λ (r : Row). is_device_id r.id && is_none r.parent) t (DeviceItem d) ns ids others
    (λ r found. (λ k. is_device_id (own_id t (DeviceItem d) r found k) && is_none (own_parent t (DeviceItem d) None r above found k)))

-- AN ITEM THAT THE TABLE DOESN'T HAVE has no steps
no_step : (t : List Row) (depth : ℕ) (i : ItemId) → row_of t i ≡ None → step_at t depth i ≡ []
unfolding step_at
no_step t depth i absent = ap (λ o. option_map_or (λ (v : ViewData). record { depth = depth; item = v } ∷ []) (option_map (row_view t) o) []) absent

pub no_steps : (t : List Row) (n depth : ℕ) (i : ItemId) → All (HasParent t) t → row_of t i ≡ None → steps_at t n depth i ≡ []
unfolding steps_at
no_steps t n depth (DeviceItem d) parents absent = no_step t depth (DeviceItem d) absent
no_steps t zero depth (BucketItem b) parents absent = refl
no_steps t (suc n) depth (BucketItem b) parents absent =
    (λ k. no_step t depth (BucketItem b) absent k ++ flat_map (steps_at t n (depth + 1)) (no_kids t t b parents (ap is_some absent) k))

-- THE STEPS of an item are the steps of the node that has its id
pub item_walked : {A : _} (t : List Row) (i : ItemId) (p q : Option ℕ) (x y : Node A) (start one : List WalkStepData) → start ≡ [] → one ≡ start ++ steps_of 0 p (items_of (x ∷ [])) → p ≡ q → x ≡ y → HasSteps t q y → node_id y ≡ i
    → one ≡ steps_at t (length t) 0 i
item_walked t i p q x y start one begun after above is has same = after ∙ (λ k. begun k ++ steps_of 0 (above k) (items_of (is k ∷ []))) ∙ sym has ∙ ap (steps_at t (length t) 0) same

-- if a property is true of the first i elements and of element i, then it is true of the first i + 1 elements
pub others_more : {X : Type 0} (P : X → Type 0) (xs : List X) (i : ℕ) (x : X) → i < length xs → x ≡ get_or xs i x → All P (take i xs) → P x → All P (take (i + 1) xs)
others_more P xs i x lt is before here = subst (All P) (sym (take_more xs i x lt ∙ ap (λ y. take i xs ++ y ∷ []) (sym is))) (All-push P (take i xs) x before here)
