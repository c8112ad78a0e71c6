-- What a table says about the items below one bucket.
use Rattle.std.proofs.Common.{◌≡◌, ℕ, ◌+◌, ◌<◌, ◌≤◌, ◌^◌, Bool, true, false, List, [], ◌∷◌, ◌++◌, length, map, ap, sym, subst, ◌∙◌, refl, arith, ⊎_elim}
use Rattle.std.specs.Prelude.{flat_map, All, IfSome, Option, None, Some, ◌==◌, if◌then◌else◌, filter}
use Rattle.std.specs.Option.{option_or}
use Rattle.std.proofs.lemmas.Bool.Decides.{eqb_tells}
use Rattle.std.proofs.lemmas.List.Elements.{All-head, All-tail}
use Rattle.crush_units.specs.declared.id.ItemId.TheVariants.{Bucket}
use Rattle.crush_model.specs.Items.{Items, none, device, bucket, size_of}
use Rattle.crush_model.specs.Forest.{ForestData, all_items, join, IsSound}
use Rattle.crush_model.specs.Lawful.{HasParent}
use Rattle.crush_model.specs.Stands.{Stands}
use Rattle.crush_model.specs.Table.{Row, kids, is_there, is_parent}
use Rattle.crush_model.proofs.Reorder.{reordered-length}
use Rattle.crush_nodes.specs.Search.{kids_in}
use Rattle.crush_nodes.specs.Seen.{items_of, node_id}
use Rattle.crush_nodes.specs.declared.node.Node.{Node}
use Rattle.crush_nodes.proofs.CountLaws.{bucket_count-forest}
use Rattle.crush_tree.proofs.ReadLemmas.Items.{map-node_id}
use Rattle.crush_print.proofs.Told.{Told, stands_told, size_le_rows}
use Rattle.crush_print.proofs.WalkLaws.{node_steps, steps_told}
use Rattle.crush_items.specs.SeenPart.{HasSteps}
use Rattle.crush_items.specs.Tree.{WalkStepData, steps_at, steps_of}

-- what a table says about items, it also says about the items of a bucket that is among them or below them
pub told_kids : (t : List Row) (p : Option ℕ) (n k : Items) (b : ℕ) → Told t p n → kids_in b n ≡ Some k → Told t (Some b) k
told_kids t p none k b told e = absurd cc
told_kids t p (device d rest) k b told e = told_kids t p rest k b told.1 e
told_kids t p (bucket h w m n rest) k b told e = ⊎_elim
    (λ q. let own : n ≡ k = some_is n k (sym (ap (λ z. if z then Some n else option_or (kids_in b n) (kids_in b rest)) q.0) ∙ e) in subst (λ i. Told t (Some b) i) own (subst (λ i. Told t (Some i) n) q.1 told.3))
    (λ q. either (kids_in b n) (kids_in b rest) (λ f. told_kids t (Some h.id) n k b told.3 f) (λ f. told_kids t p rest k b told.4 f) (sym (ap (λ z. if z then Some n else option_or (kids_in b n) (kids_in b rest)) q.0) ∙ e))
    (eqb_tells h.id b) where
      some_is : (x y : Items) → Some x ≡ Some y → x ≡ y
      some_is x y same = cc

      either : (first second : Option Items) → (first ≡ Some k → Told t (Some b) k) → (second ≡ Some k → Told t (Some b) k) → option_or first second ≡ Some k → Told t (Some b) k
      either None second f g same = g same
      either (Some x) second f g same = f same

-- the items of a bucket have no more buckets than all items together
no_more_of : (k n rest : Items) (first second : Option Items) → (first ≡ Some k → size_of k ≤ size_of n) → (second ≡ Some k → size_of k ≤ size_of rest) → option_or first second ≡ Some k → size_of k ≤ 1 + size_of n + size_of rest
no_more_of k n rest None second f g same = let le = g same in omega (arith, le)
no_more_of k n rest (Some x) second f g same = let le = f same in omega (arith, le)

no_more_by : (z : Bool) (k n rest : Items) (first second : Option Items) → (first ≡ Some k → size_of k ≤ size_of n) → (second ≡ Some k → size_of k ≤ size_of rest) → (if z then Some n else option_or first second) ≡ Some k → size_of k ≤ 1 + size_of n + size_of rest
no_more_by true k n rest first second f g same = let is : n ≡ k = cc in let own : size_of n ≡ size_of k = ap size_of is in omega (arith, own)
no_more_by false k n rest first second f g same = no_more_of k n rest first second f g same

pub kids_no_more : (b : ℕ) (n k : Items) → kids_in b n ≡ Some k → size_of k ≤ size_of n
kids_no_more b none k e = absurd cc
kids_no_more b (device d rest) k e = kids_no_more b rest k e
kids_no_more b (bucket h w m n rest) k e = no_more_by (h.id == b) k n rest (kids_in b n) (kids_in b rest) (λ f. kids_no_more b n k f) (λ f. kids_no_more b rest k f) e

-- the number of buckets in two joined lists of items is the sum of both numbers
sizes-join : (a b : Items) → size_of (join a b) ≡ size_of a + size_of b
sizes-join none b = omega arith
sizes-join (device d a) b = sizes-join a b
sizes-join (bucket h w m k a) b = omega (arith, sizes-join a b)

-- a bucket that isn't in the table has no items
pub no_kids : (t u : List Row) (b : ℕ) → All (HasParent t) u → is_there t (Bucket b) ≡ false → map (λ (r : Row). r.id) (filter (λ (r : Row). is_parent b r.parent) u) ≡ []
no_kids t [] b parents absent = refl
no_kids t (r ∷ u) b parents absent =
    ap (λ z. map (λ (r : Row). r.id) (if z then r ∷ filter (λ (r : Row). is_parent b r.parent) u else filter (λ (r : Row). is_parent b r.parent) u)) (not_here r.parent (All-head (HasParent t) r u parents))
    ∙ no_kids t u b (All-tail (HasParent t) r u parents) absent where
      not_here : (p : Option ℕ) → IfSome p (λ p. is_there t (Bucket p) ≡ true) → is_parent b p ≡ false
      not_here None there = refl
      not_here (Some p) there = ⊎_elim (λ q. absurd (let here : is_there t (Bucket b) ≡ true = subst (λ i. is_there t (Bucket i) ≡ true) q.1 there in cc)) (λ q. q.0) (eqb_tells p b)

-- THE STEPS BELOW a bucket
pub few_below : (f : ForestData) (b : ℕ) (k : Items) → IsSound f → Some k ≡ kids_in b (all_items f) → size_of k < 2 ^ 31
few_below f b k sound e = let most = sound.lawful.buckets in let le = kids_no_more b (all_items f) k (sym e) in omega (arith, most, bucket_count-forest f, le, sizes-join f.unplaced f.roots)

pub each_below : {A : _} (f : ForestData) (t : List Row) (b : ℕ) (ns : List (Node A)) → Stands f t → Some (items_of ns) ≡ kids_in b (all_items f) → All (HasSteps t (Some b)) ns
each_below f t b ns stands e =
    let le = kids_no_more b (all_items f) (items_of ns) (sym e) in
    node_steps t (Some b) ns (told_kids t None (all_items f) (items_of ns) b (stands_told f t stands) (sym e)) (omega (arith, le, size_le_rows None (all_items f), reordered-length stands.same.rows))

pub steps_below : {A : _} (f : ForestData) (t : List Row) (b : ℕ) (ns : List (Node A)) → Stands f t → Some (items_of ns) ≡ kids_in b (all_items f) → map node_id ns ≡ kids t b
    → steps_of 0 (Some b) (items_of ns) ≡ flat_map (steps_at t (length t) 0) (kids t b)
steps_below f t b ns stands e ids =
    let le = kids_no_more b (all_items f) (items_of ns) (sym e) in
    sym (steps_told t (length t) 0 (Some b) (items_of ns) (omega (arith, le, size_le_rows None (all_items f), reordered-length stands.same.rows)) (told_kids t None (all_items f) (items_of ns) b (stands_told f t stands) (sym e)))
    ∙ ap (flat_map (steps_at t (length t) 0)) (sym (map-node_id ns) ∙ ids)

pub nothing_below : (f : ForestData) (t : List Row) (b : ℕ) → Stands f t → false ≡ is_there t (Bucket b) → [] ≡ flat_map (steps_at t (length t) 0) (kids t b)
nothing_below f t b stands absent = sym (ap (flat_map (steps_at t (length t) 0)) (no_kids t t b stands.lawful.parents (sym absent)))

pub below_walked : (start one below all : List WalkStepData) → start ≡ [] → one ≡ start ++ below → below ≡ all → one ≡ all
below_walked start one below all begun after are = after ∙ ap (λ (l : List WalkStepData). l ++ below) begun ∙ are
