-- A device that gets another class: how the items change.
use Rattle.std.proofs.Common.{◌≡◌, ℕ, ◌+◌, Bool, true, false, List, ap, sym, ◌∙◌, refl, arith}
use Rattle.std.specs.Prelude.{Option, ◌==◌, if◌then◌else◌}
use Rattle.crush_units.specs.declared.id.ItemId.TheVariants.{Device}
use Rattle.crush_model.specs.Items.{Items, none, device, bucket}
use Rattle.crush_model.specs.Forest.{join}
use Rattle.crush_model.specs.Stored.{weight_sum, StoresSums}
use Rattle.crush_walks.specs.Change.{with_item}
use Rattle.crush_walks.specs.Classed.{leaf_with_class, with_class, IsLeaf, class_of_first, with_own_class}
use Rattle.crush_nodes.specs.Ops.{count_of_id, with_sums, part_of, StoresUpTo}
use Rattle.crush_walks.proofs.ChangeLaws.{local, one_taken}
use Rattle.crush_nodes.proofs.Joins.{pick_no, pick_yes, has_sums}

pub with_class-join : (i : ℕ) (c : Option (List ℕ)) (a b : Items) → with_class i c (join a b) ≡ join (with_class i c a) (with_class i c b)
with_class-join i c none b = refl
with_class-join i c (device d r) b = ap (device (leaf_with_class i c d)) (with_class-join i c r b)
with_class-join i c (bucket h w m k r) b = ap (bucket h w m (with_class i c k)) (with_class-join i c r b)

pub with_class-absent : (i : ℕ) (c : Option (List ℕ)) (t : Items) → count_of_id (Device i) t ≡ 0 → with_class i c t ≡ t
with_class-absent i c none h = refl
with_class-absent i c (device d r) h = λ j. device (pick_no (d.id == i) (record d { class = c }) d (omega arith) j) (with_class-absent i c r (omega arith) j)
with_class-absent i c (bucket x w m k r) h = λ j. bucket x w m (with_class-absent i c k (omega arith) j) (with_class-absent i c r (omega arith) j)

-- weights don't change when a class is set
pub weight_sum-with_class : (i : ℕ) (c : Option (List ℕ)) (t : Items) → weight_sum (with_class i c t) ≡ weight_sum t
weight_sum-with_class i c none = refl
weight_sum-with_class i c (device d r) = λ j. same (d.id == i) j + weight_sum-with_class i c r j where
  same : (b : Bool) → (if b then record d { class = c } else d).weight ≡ d.weight
  same true = refl
  same false = refl
weight_sum-with_class i c (bucket h w m k r) = ap (λ z. w + z) (weight_sum-with_class i c r)

pub StoresSums-with_class : (i : ℕ) (c : Option (List ℕ)) (t : Items) → StoresSums t → StoresSums (with_class i c t)
StoresSums-with_class i c none s = tt
StoresSums-with_class i c (device d r) s = StoresSums-with_class i c r s
StoresSums-with_class i c (bucket h w m k r) s = (s.0 ∙ sym (weight_sum-with_class i c k), StoresSums-with_class i c k s.1, StoresSums-with_class i c r s.2)

pub StoresUpTo-with_class : (limit i : ℕ) (c : Option (List ℕ)) (t : Items) → StoresUpTo limit t → StoresUpTo limit (with_class i c t)
StoresUpTo-with_class limit i c none h = tt
StoresUpTo-with_class limit i c (device d r) h = StoresUpTo-with_class limit i c r h
StoresUpTo-with_class limit i c (bucket x w m k r) h = (h.0, StoresUpTo-with_class limit i c k h.1, StoresUpTo-with_class limit i c r h.2)

-- the part of a device's id is a device, and with the new class it is that part of the changed items
pub leaf_taken : (i : ℕ) (t : Items) → count_of_id (Device i) t ≡ 1 → IsLeaf (part_of (Device i) t)
leaf_taken i t one = one_taken IsLeaf (Device i) t one (λ d here. tt) (λ h w m k here gone. absurd (omega (arith, here)))

classed_taken : (i : ℕ) (c : Option (List ℕ)) (t : Items) → count_of_id (Device i) t ≡ 1 → with_own_class c (part_of (Device i) t) ≡ with_class i c (part_of (Device i) t)
classed_taken i c t one = one_taken (λ x. with_own_class c x ≡ with_class i c x) (Device i) t one
    (λ d here. ap (λ z. device z none) (sym (pick_yes (d.id == i) (record d { class = c }) d here)))
    (λ h w m k here gone. absurd (omega (arith, here)))

-- THE CHANGE: with the changed device in place of the old one, the items are those with its class set
pub classed : (i : ℕ) (c : Option (List ℕ)) (t y : Items) → count_of_id (Device i) t ≡ 1 → StoresSums t → y ≡ with_own_class c (part_of (Device i) t) → with_sums (with_item (Device i) y t) ≡ with_class i c t
classed i c t y one s e =
    ap with_sums (local (with_class i c) (Device i) (with_class-join i c) (with_class-absent i c) (λ h w m k misses. refl) t y one (e ∙ classed_taken i c t one)) ∙ has_sums (with_class i c t) (StoresSums-with_class i c t s)

-- setting the class that the device already has changes nothing
own_kept : (i : ℕ) (t : Items) → count_of_id (Device i) t ≡ 1 → with_own_class (class_of_first (part_of (Device i) t)) (part_of (Device i) t) ≡ part_of (Device i) t
own_kept i t one = one_taken (λ x. with_own_class (class_of_first x) x ≡ x) (Device i) t one (λ d here. refl) (λ h w m k here gone. absurd (omega (arith, here)))

pub with_class-own : (i : ℕ) (c : Option (List ℕ)) (t : Items) → count_of_id (Device i) t ≡ 1 → class_of_first (part_of (Device i) t) ≡ c → with_class i c t ≡ t
with_class-own i c t one has =
    let part = part_of (Device i) t in
    let kept : part ≡ with_own_class c part = sym (own_kept i t one) ∙ ap (λ k. with_own_class k part) has in
    sym (local (with_class i c) (Device i) (with_class-join i c) (with_class-absent i c) (λ h w m k misses. refl) t part one (kept ∙ classed_taken i c t one))
    ∙ local (λ x. x) (Device i) (λ a b. refl) (λ u gone. refl) (λ h w m k misses. refl) t part one refl
