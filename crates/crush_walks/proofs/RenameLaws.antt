-- Setting a name: laws of the items.
use Rattle.std.proofs.Common.{◌≡◌, ℕ, ◌+◌, Bool, true, false, List, ap, sym, ◌∙◌, refl, arith}
use Rattle.std.specs.Prelude.{Some, None, if◌then◌else◌}
use Rattle.std.specs.Option.{option_or}
use Rattle.crush_units.specs.declared.id.ItemId.{ItemId}
use Rattle.crush_units.specs.declared.id.ItemId.TheVariants.{Device, Bucket}
use Rattle.crush_units.specs.Id.{same_id}
use Rattle.crush_model.specs.Items.{HeaderData, Items, none, device, bucket}
use Rattle.crush_model.specs.Forest.{join}
use Rattle.crush_model.specs.Stored.{weight_sum, StoresSums}
use Rattle.crush_walks.specs.Named.{name_in, leaf_with_name, header_with_name, with_name}
use Rattle.crush_nodes.specs.Ops.{count_of_id}
use Rattle.crush_model.specs.Count.{one_if}
use Rattle.crush_nodes.proofs.Joins.{pick_no}
use Rattle.crush_nodes.proofs.Options.{option_or-assoc, option_or-if}

pub with_name-join : (i : ItemId) (n : List ℕ) (a b : Items) → with_name i n (join a b) ≡ join (with_name i n a) (with_name i n b)
with_name-join i n none b = refl
with_name-join i n (device d r) b = ap (device (leaf_with_name i n d)) (with_name-join i n r b)
with_name-join i n (bucket h w m k r) b = ap (bucket (header_with_name i n h) w m (with_name i n k)) (with_name-join i n r b)

pub with_name-absent : (i : ItemId) (n : List ℕ) (t : Items) → count_of_id i t ≡ 0 → with_name i n t ≡ t
with_name-absent i n none h = refl
with_name-absent i n (device d r) h = λ j. device (pick_no (same_id (Device d.id) i) (record d { name = n }) d (omega arith) j) (with_name-absent i n r (omega arith) j)
with_name-absent i n (bucket x w m k r) h = λ j. bucket (pick_no (same_id (Bucket x.id) i) (record x { name = n }) x (omega arith) j) w m (with_name-absent i n k (omega arith) j) (with_name-absent i n r (omega arith) j)

-- weights don't change when a name is set
pub weight_sum-with_name : (i : ItemId) (n : List ℕ) (t : Items) → weight_sum (with_name i n t) ≡ weight_sum t
weight_sum-with_name i n none = refl
weight_sum-with_name i n (device d r) = λ j. same (same_id (Device d.id) i) j + weight_sum-with_name i n r j where
  same : (b : Bool) → (if b then record d { name = n } else d).weight ≡ d.weight
  same true = refl
  same false = refl
weight_sum-with_name i n (bucket h w m k r) = ap (λ z. w + z) (weight_sum-with_name i n r)

pub StoresSums-with_name : (i : ItemId) (n : List ℕ) (t : Items) → StoresSums t → StoresSums (with_name i n t)
StoresSums-with_name i n none s = tt
StoresSums-with_name i n (device d r) s = StoresSums-with_name i n r s
StoresSums-with_name i n (bucket h w m k r) s = (s.0 ∙ sym (weight_sum-with_name i n k), StoresSums-with_name i n k s.1, StoresSums-with_name i n r s.2)

pub name_in-join : (i : ItemId) (t u : Items) → name_in i (join t u) ≡ option_or (name_in i t) (name_in i u)
name_in-join i none u = refl
name_in-join i (device d r) u = ap (λ o. if same_id (Device d.id) i then Some d.name else o) (name_in-join i r u) ∙ sym (option_or-if (same_id (Device d.id) i) d.name (name_in i r) (name_in i u))
name_in-join i (bucket h w m k r) u =
    ap (λ o. if same_id (Bucket h.id) i then Some h.name else option_or (name_in i k) o) (name_in-join i r u)
    ∙ ap (λ o. if same_id (Bucket h.id) i then Some h.name else o) (sym (option_or-assoc (name_in i k) (name_in i r) (name_in i u)))
    ∙ sym (option_or-if (same_id (Bucket h.id) i) h.name (option_or (name_in i k) (name_in i r)) (name_in i u))

pub name_in-absent : (i : ItemId) (t : Items) → count_of_id i t ≡ 0 → name_in i t ≡ None
name_in-absent i none h = refl
name_in-absent i (device d r) h = pick_no (same_id (Device d.id) i) (Some d.name) (name_in i r) (omega arith) ∙ name_in-absent i r (omega arith)
name_in-absent i (bucket x w m k r) h =
    pick_no (same_id (Bucket x.id) i) (Some x.name) (option_or (name_in i k) (name_in i r)) (omega arith) ∙ (λ j. option_or (name_in-absent i k (omega arith) j) (name_in-absent i r (omega arith) j))

pub kids_named : (i : ItemId) (n : List ℕ) (h : HeaderData) (w m : ℕ) (k : Items) → one_if (same_id (Bucket h.id) i) ≡ 0 → bucket h w m (with_name i n k) none ≡ with_name i n (bucket h w m k none)
kids_named i n h w m k e = λ j. bucket (sym (pick_no (same_id (Bucket h.id) i) (record h { name = n }) h e) j) w m (with_name i n k) none
