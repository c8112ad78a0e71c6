-- An item that gets another name: how the items change.
use Rattle.std.proofs.Common.{◌≡◌, ℕ, Bool, true, false, List, ap, sym, ◌∙◌, refl}
use Rattle.std.specs.Prelude.{Option, Some, if◌then◌else◌}
use Rattle.std.specs.Option.{option_or}
use Rattle.crush_units.specs.declared.id.ItemId.{ItemId}
use Rattle.crush_units.specs.declared.id.ItemId.TheVariants.{Device, Bucket}
use Rattle.crush_units.specs.Id.{same_id}
use Rattle.crush_model.specs.Items.{LeafData, HeaderData, Items, none, device, bucket}
use Rattle.crush_model.specs.Forest.{join}
use Rattle.crush_model.specs.Stored.{StoresSums}
use Rattle.crush_walks.specs.Change.{with_item}
use Rattle.crush_walks.specs.Named.{name_in, with_name, name_of_first, with_own_name}
use Rattle.crush_nodes.specs.Ops.{count_of_id, with_sums, part_of, StoresUpTo}
use Rattle.crush_walks.proofs.ChangeLaws.{local, one_taken}
use Rattle.crush_nodes.proofs.Joins.{pick_yes, has_sums}
use Rattle.crush_walks.proofs.RenameLaws.{with_name-join, with_name-absent, StoresSums-with_name, kids_named}

first_name-join : (a b : Items) → name_of_first (join a b) ≡ option_or (name_of_first a) (name_of_first b)
first_name-join none b = refl
first_name-join (device d r) b = refl
first_name-join (bucket h w m k r) b = refl

name_device : (c : Bool) (d : LeafData) (o : Option (List ℕ)) (s : Items) → o ≡ name_of_first s → (if c then Some d.name else o) ≡ name_of_first (if c then device d s else s)
name_device true d o s e = refl
name_device false d o s e = e

name_bucket : (c : Bool) (h : HeaderData) (w m : ℕ) (k l s : Items) (o : Option (List ℕ)) → o ≡ name_of_first (join l s) → (if c then Some h.name else o) ≡ name_of_first (if c then bucket h w m k s else join l s)
name_bucket true h w m k l s o e = refl
name_bucket false h w m k l s o e = e

-- the name of an item is the name of its part
pub name_taken : (i : ItemId) (t : Items) → name_in i t ≡ name_of_first (part_of i t)
name_taken i none = refl
name_taken i (device d r) = name_device (same_id (Device d.id) i) d _ (part_of i r) (name_taken i r)
name_taken i (bucket h w m k r) = name_bucket (same_id (Bucket h.id) i) h w m k (part_of i k) (part_of i r) _ ((λ j. option_or (name_taken i k j) (name_taken i r j)) ∙ sym (first_name-join (part_of i k) (part_of i r)))

renamed_taken : (i : ItemId) (n : List ℕ) (t : Items) → count_of_id i t ≡ 1 → with_own_name n (part_of i t) ≡ with_name i n (part_of i t)
renamed_taken i n t one = one_taken (λ x. with_own_name n x ≡ with_name i n x) i t one
    (λ d here. ap (λ z. device z none) (sym (pick_yes (same_id (Device d.id) i) (record d { name = n }) d here)))
    (λ h w m k here gone. λ j. bucket (sym (pick_yes (same_id (Bucket h.id) i) (record h { name = n }) h here) j) w m (sym (with_name-absent i n k gone) j) none)

-- THE CHANGE: with the changed item in place of the old one, the items are those with its name set
pub named : (i : ItemId) (n : List ℕ) (t y : Items) → count_of_id i t ≡ 1 → StoresSums t → y ≡ with_own_name n (part_of i t) → with_sums (with_item i y t) ≡ with_name i n t
named i n t y one s e =
    ap with_sums (local (with_name i n) i (with_name-join i n) (with_name-absent i n) (λ h w m k misses. sym (kids_named i n h w m k misses)) t y one (e ∙ renamed_taken i n t one)) ∙ has_sums (with_name i n t) (StoresSums-with_name i n t s)

pub StoresUpTo-with_name : (limit : ℕ) (i : ItemId) (n : List ℕ) (t : Items) → StoresUpTo limit t → StoresUpTo limit (with_name i n t)
StoresUpTo-with_name limit i n none h = tt
StoresUpTo-with_name limit i n (device d r) h = StoresUpTo-with_name limit i n r h
StoresUpTo-with_name limit i n (bucket x w m k r) h = (h.0, StoresUpTo-with_name limit i n k h.1, StoresUpTo-with_name limit i n r h.2)
