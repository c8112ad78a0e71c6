-- Weights that are given to devices one after the other: laws of the items.
use Rattle.std.proofs.Common.{◌≡◌, ℕ, Bool, true, false, List, [], ◌∷◌, ◌++◌, ap, sym, subst, ◌∙◌, refl, arith, append-nil, append_assoc}
use Rattle.std.specs.Prelude.{◌==◌, nat_le, if◌then◌else◌, Option, Some, unwrap_or}
use Rattle.std.specs.Option.{option_map}
use Rattle.crush_units.specs.declared.id.ItemId.TheVariants.{Bucket}
use Rattle.crush_units.specs.declared.limits.TheConstants.{HEAVIEST_BUCKET}
use Rattle.crush_model.specs.Items.{Items, none, device, bucket, size_of}
use Rattle.crush_model.specs.Forest.{join}
use Rattle.crush_model.specs.Stored.{weight_sum, StoresSums}
use Rattle.crush_nodes.specs.Ops.{count_of_id, part_of, with_sums, StoresUpTo, stores_up_to}
use Rattle.crush_nodes.specs.Search.{kids_in}
use Rattle.crush_nodes.proofs.Joins.{with_sums-join, StoresSums-with_sums, pick_no, pick_yes}
use Rattle.crush_walks.specs.Change.{with_item}
use Rattle.crush_walks.specs.Runs.{weights_in, next_weight, later_weights, weights_after, with_weights, with_weights_below, FitsWeights}
use Rattle.crush_walks.specs.Subtree.{with_all, with_below}
use Rattle.crush_walks.proofs.ChangeLaws.{local, settle_replaced}
use Rattle.crush_walks.proofs.FitLaws.{fits_or_not, too_large}
use Rattle.crush_walks.proofs.HeavyLaws.{stores_up_to-fact, topmost}
use Rattle.crush_walks.proofs.RangeLaws.{untouched}
use Rattle.crush_walks.proofs.SubtreeLaws.{with_below-join, with_below-absent}
use Rattle.crush_walks.proofs.TakenLaws.{Taken, taken_bucket}

-- SIDE BY SIDE: the later items get the weights that the earlier ones leave
pub weights_after-join : (a b : Items) (ws : List ℕ) → weights_after (join a b) ws ≡ weights_after b (weights_after a ws)
weights_after-join none b ws = refl
weights_after-join (device d r) b ws = weights_after-join r b (later_weights ws)
weights_after-join (bucket h w m k r) b ws = weights_after-join r b (weights_after k ws)

with_weights-join : (ws : List ℕ) (a b : Items) → with_weights ws (join a b) ≡ join (with_weights ws a) (with_weights (weights_after a ws) b)
with_weights-join ws none b = refl
with_weights-join ws (device d r) b = ap (device (record d { weight = next_weight ws })) (with_weights-join (later_weights ws) r b)
with_weights-join ws (bucket h w m k r) b = ap (bucket h w m (with_weights ws k)) (with_weights-join (weights_after k ws) r b)

pub given-join : (ws : List ℕ) (a b : Items) → with_sums (with_weights ws (join a b)) ≡ join (with_sums (with_weights ws a)) (with_sums (with_weights (weights_after a ws) b))
given-join ws a b = ap with_sums (with_weights-join ws a b) ∙ with_sums-join (with_weights ws a) (with_weights (weights_after a ws) b)

pub size_of-given : (ws : List ℕ) (t : Items) → size_of (with_sums (with_weights ws t)) ≡ size_of t
size_of-given ws none = refl
size_of-given ws (device d r) = size_of-given (later_weights ws) r
size_of-given ws (bucket h w m k r) = omega (arith, size_of-given ws k, size_of-given (weights_after k ws) r)

pub weights_in-join : (a b : Items) → weights_in (join a b) ≡ weights_in a ++ weights_in b
weights_in-join none b = refl
weights_in-join (device d r) b = ap (λ z. d.weight ∷ z) (weights_in-join r b)
weights_in-join (bucket h w m k r) b = ap (λ z. weights_in k ++ z) (weights_in-join r b) ∙ sym (append_assoc (weights_in k) (weights_in r) (weights_in b))

-- BELOW A BUCKET
with_weights_below-join : (b : ℕ) (ws : List ℕ) (x y : Items) → with_weights_below b ws (join x y) ≡ join (with_weights_below b ws x) (with_weights_below b ws y)
with_weights_below-join b ws none y = refl
with_weights_below-join b ws (device d r) y = ap (device d) (with_weights_below-join b ws r y)
with_weights_below-join b ws (bucket h w m k r) y = ap (bucket h w m (if h.id == b then with_weights ws k else with_weights_below b ws k)) (with_weights_below-join b ws r y)

pub with_weights_below-absent : (b : ℕ) (ws : List ℕ) (t : Items) → count_of_id (Bucket b) t ≡ 0 → with_weights_below b ws t ≡ t
with_weights_below-absent b ws none h = refl
with_weights_below-absent b ws (device d r) h = ap (device d) (with_weights_below-absent b ws r (omega arith))
with_weights_below-absent b ws (bucket x w m k r) h =
    λ j. bucket x w m ((pick_no (x.id == b) (with_weights ws k) (with_weights_below b ws k) (omega arith) ∙ with_weights_below-absent b ws k (omega arith)) j) (with_weights_below-absent b ws r (omega arith) j)

-- THE CHANGE: with the changed bucket in place of the old one, the items are those with the weights of its devices set
pub given_below : (b : ℕ) (ws : List ℕ) (t y : Items) → count_of_id (Bucket b) t ≡ 1 → y ≡ with_sums (with_weights ws (part_of (Bucket b) t)) → with_sums (with_item (Bucket b) y t) ≡ with_sums (with_weights_below b ws t)
given_below b ws t y one e =
    let a = taken_bucket b t one in
    let all : with_weights ws (part_of (Bucket b) t) ≡ with_weights_below b ws (part_of (Bucket b) t) =
    ap (with_weights ws) a.is ∙ ap (λ z. bucket a.header a.weight a.capacity z none) (sym (pick_yes (a.header.id == b) (with_weights ws a.kids) (with_weights_below b ws a.kids) a.own)) ∙ ap (with_weights_below b ws) (sym a.is) in
    ap (λ z. with_sums (with_item (Bucket b) z t)) e ∙ settle_replaced (Bucket b) (with_weights ws (part_of (Bucket b) t)) t
    ∙ ap with_sums (local (with_weights_below b ws) (Bucket b) (with_weights_below-join b ws) (with_weights_below-absent b ws) (λ h w m k miss. ap (λ z. bucket h w m z none) (pick_no (h.id == b) _ _ miss)) t (with_weights ws (part_of (Bucket b) t)) one all)

-- if all sums can be stored, then so can the bucket's
given_test : (b : ℕ) (ws : List ℕ) (t : Items) (a : Taken b t) → stores_up_to HEAVIEST_BUCKET (with_sums (with_weights ws (part_of (Bucket b) t))) ≡ nat_le (weight_sum (with_sums (with_weights ws a.kids))) HEAVIEST_BUCKET
given_test b ws t a =
    let kids = with_sums (with_weights ws a.kids) in
    ap (λ z. stores_up_to HEAVIEST_BUCKET (with_sums (with_weights ws z))) a.is ∙ topmost HEAVIEST_BUCKET a.header (weight_sum kids) a.capacity kids (refl, StoresSums-with_sums (with_weights ws a.kids), tt)

pub given_fits : (b : ℕ) (ws : List ℕ) (t : Items) → count_of_id (Bucket b) t ≡ 1 → StoresUpTo HEAVIEST_BUCKET (with_sums (with_weights_below b ws t)) → FitsWeights ws (part_of (Bucket b) t)
given_fits b ws t one fits =
    let a = taken_bucket b t one in
    let y = with_sums (with_weights ws (part_of (Bucket b) t)) in
    let whole : stores_up_to HEAVIEST_BUCKET (with_sums (with_weights_below b ws t)) ≡ true = stores_up_to-fact HEAVIEST_BUCKET (with_sums (with_weights_below b ws t)) fits in
    let made : stores_up_to HEAVIEST_BUCKET (with_sums (with_item (Bucket b) y t)) ≡ true = ap (stores_up_to HEAVIEST_BUCKET) (given_below b ws t y one refl) ∙ whole in
    subst (FitsWeights ws) (sym a.is) (fits_or_not (weight_sum (with_sums (with_weights ws a.kids))) (λ large. absurd (
    let e : ◌≡◌ {A = Bool} false true = sym (too_large (Bucket b) HEAVIEST_BUCKET y t one (StoresSums-with_sums (with_weights ws (part_of (Bucket b) t))) (given_test b ws t a ∙ large)) ∙ made in cc)))

-- THE OWN WEIGHTS of items, given to them again, change nothing
own_after : (t : Items) (vs : List ℕ) → weights_after t (weights_in t ++ vs) ≡ vs
own_after none vs = refl
own_after (device d r) vs = own_after r vs
own_after (bucket h w m k r) vs =
    ap (λ z. weights_after r (weights_after k z)) (append_assoc (weights_in k) (weights_in r) vs) ∙ ap (weights_after r) (own_after k (weights_in r ++ vs)) ∙ own_after r vs

own_given : (t : Items) (vs : List ℕ) → with_weights (weights_in t ++ vs) t ≡ t
own_given none vs = refl
own_given (device d r) vs = ap (device d) (own_given r vs)
own_given (bucket h w m k r) vs =
    let split : weights_in (bucket h w m k r) ++ vs ≡ weights_in k ++ (weights_in r ++ vs) = append_assoc (weights_in k) (weights_in r) vs in
    let kids : with_weights (weights_in (bucket h w m k r) ++ vs) k ≡ k = ap (λ z. with_weights z k) split ∙ own_given k (weights_in r ++ vs) in
    let rest : with_weights (weights_after k (weights_in (bucket h w m k r) ++ vs)) r ≡ r = ap (λ z. with_weights (weights_after k z) r) split ∙ ap (λ z. with_weights z r) (own_after k (weights_in r ++ vs)) ∙ own_given r vs in
    λ j. bucket h w m (kids j) (rest j)

own_weights : (t : Items) → with_weights (weights_in t) t ≡ t
own_weights t = ap (λ z. with_weights z t) (sym (append-nil (weights_in t))) ∙ own_given t []

-- the weights that are left don't depend on the weights that the devices had
weights_after-all : (n : ℕ) (t : Items) (ws : List ℕ) → weights_after (with_all n t) ws ≡ weights_after t ws
weights_after-all n none ws = refl
weights_after-all n (device d r) ws = weights_after-all n r (later_weights ws)
weights_after-all n (bucket h w m k r) ws = ap (weights_after (with_all n r)) (weights_after-all n k ws) ∙ weights_after-all n r (weights_after k ws)

with_weights-all : (n : ℕ) (ws : List ℕ) (t : Items) → with_weights ws (with_all n t) ≡ with_weights ws t
with_weights-all n ws none = refl
with_weights-all n ws (device d r) = ap (device (record d { weight = next_weight ws })) (with_weights-all n (later_weights ws) r)
with_weights-all n ws (bucket h w m k r) =
    let rest : with_weights (weights_after (with_all n k) ws) (with_all n r) ≡ with_weights (weights_after k ws) r = ap (λ z. with_weights z (with_all n r)) (weights_after-all n k ws) ∙ with_weights-all n (weights_after k ws) r in
    λ j. bucket h w m (with_weights-all n ws k j) (rest j)

-- the weights that are left don't depend on what the buckets stored
weights_after-sums : (t : Items) (ws : List ℕ) → weights_after (with_sums t) ws ≡ weights_after t ws
weights_after-sums none ws = refl
weights_after-sums (device d r) ws = weights_after-sums r (later_weights ws)
weights_after-sums (bucket h w m k r) ws = ap (weights_after (with_sums r)) (weights_after-sums k ws) ∙ weights_after-sums r (weights_after k ws)

given_sums : (ws : List ℕ) (t : Items) → with_sums (with_weights ws (with_sums t)) ≡ with_sums (with_weights ws t)
given_sums ws none = refl
given_sums ws (device d r) = ap (device (record d { weight = next_weight ws })) (given_sums (later_weights ws) r)
given_sums ws (bucket h w m k r) =
    let kids = given_sums ws k in
    let rest : with_sums (with_weights (weights_after (with_sums k) ws) (with_sums r)) ≡ with_sums (with_weights (weights_after k ws) r) = ap (λ z. with_sums (with_weights z (with_sums r))) (weights_after-sums k ws) ∙ given_sums (weights_after k ws) r in
    λ j. bucket h (weight_sum (kids j)) m (kids j) (rest j)

either_sums : (c : Bool) (x y u v : Items) → with_sums x ≡ with_sums u → with_sums y ≡ with_sums v → with_sums (if c then x else y) ≡ with_sums (if c then u else v)
either_sums true x y u v e f = e
either_sums false x y u v e f = f

below_sums : (b : ℕ) (ws : List ℕ) (t : Items) → with_sums (with_weights_below b ws (with_sums t)) ≡ with_sums (with_weights_below b ws t)
below_sums b ws none = refl
below_sums b ws (device d r) = ap (device d) (below_sums b ws r)
below_sums b ws (bucket h w m k r) =
    let kids = either_sums (h.id == b) (with_weights ws (with_sums k)) (with_weights_below b ws (with_sums k)) (with_weights ws k) (with_weights_below b ws k) (given_sums ws k) (below_sums b ws k) in
    λ j. bucket h (weight_sum (kids j)) m (kids j) (below_sums b ws r j)

-- THE INVERSE: after the devices below a bucket got one weight, they get their own weights back
module _ (b n : ℕ) (ws : List ℕ) where
  abbrev there_and_back : Items → Items
  there_and_back t = with_weights_below b ws (with_below b n t)

  both-join : (x y : Items) → there_and_back (join x y) ≡ join (there_and_back x) (there_and_back y)
  both-join x y = ap (with_weights_below b ws) (with_below-join b n x y) ∙ with_weights_below-join b ws (with_below b n x) (with_below b n y)

  both-absent : (t : Items) → count_of_id (Bucket b) t ≡ 0 → there_and_back t ≡ t
  both-absent t gone = ap (with_weights_below b ws) (with_below-absent b n t gone) ∙ with_weights_below-absent b ws t gone

  own_kids : (t : Items) (a : Taken b t) → ws ≡ weights_in a.kids → there_and_back (bucket a.header a.weight a.capacity a.kids none) ≡ bucket a.header a.weight a.capacity a.kids none
  own_kids t a own =
      let k = a.kids in
      let set : (if a.header.id == b then with_all n k else with_below b n k) ≡ with_all n k = pick_yes (a.header.id == b) _ _ a.own in
      let given : (if a.header.id == b then with_weights ws (if a.header.id == b then with_all n k else with_below b n k) else with_weights_below b ws (if a.header.id == b then with_all n k else with_below b n k)) ≡ k =
      pick_yes (a.header.id == b) _ _ a.own ∙ ap (with_weights ws) set ∙ with_weights-all n ws k ∙ ap (λ z. with_weights z k) own ∙ own_weights k in
      ap (λ z. bucket a.header a.weight a.capacity z none) given

  both-own : (t : Items) → count_of_id (Bucket b) t ≡ 1 → ◌≡◌ {A = Option (List ℕ)} (Some ws) (option_map weights_in (kids_in b t)) → part_of (Bucket b) t ≡ there_and_back (part_of (Bucket b) t)
  both-own t one told =
      let a = taken_bucket b t one in
      let own : ws ≡ weights_in a.kids = ap (λ o. unwrap_or o ws) (told ∙ ap (option_map weights_in) a.found) in
      a.is ∙ sym (own_kids t a own) ∙ ap there_and_back (sym a.is)

  pub weights_back : (t u : Items) → count_of_id (Bucket b) t ≡ 1 → StoresSums t → ◌≡◌ {A = Option (List ℕ)} (Some ws) (option_map weights_in (kids_in b t)) → u ≡ with_sums (with_below b n t) → t ≡ with_sums (with_weights_below b ws u)
  weights_back t u one sums told is =
      let all : with_item (Bucket b) (part_of (Bucket b) t) t ≡ there_and_back t =
      local there_and_back (Bucket b) both-join both-absent (λ h w m k miss. ap (λ z. bucket h w m z none) (pick_no (h.id == b) _ _ miss ∙ ap (with_weights_below b ws) (pick_no (h.id == b) _ _ miss))) t (part_of (Bucket b) t) one (both-own t one told) in
      sym (ap (λ z. with_sums (with_weights_below b ws z)) is ∙ below_sums b ws (with_below b n t) ∙ ap with_sums (sym all) ∙ untouched (Bucket b) t one sums)
