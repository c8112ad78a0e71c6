-- A bucket whose memory grows: how the bucket and the items change.
use Rattle.std.proofs.Common.{◌≡◌, ℕ, ap, sym, subst, ◌∙◌, arith, Option, Some, None, Result, Ok, Err, Vec, vec_capacity}
use Rattle.crush_units.specs.declared.id.ItemId.TheVariants.{Bucket}
use Rattle.crush_model.specs.Items.{BucketData, HeaderData, Items, none, bucket}
use Rattle.crush_model.specs.Stored.{StoresSums}
use Rattle.crush_nodes.specs.Ops.{count_of_id, part_of, with_sums, StoresUpTo}
use Rattle.crush_nodes.specs.Room.{count}
use Rattle.crush_nodes.specs.Seen.{items_of}
use Rattle.crush_nodes.specs.declared.node.Node.{Node}
use Rattle.crush_nodes.proofs.Steps.{count-items_of}
use Rattle.crush_walks.specs.Change.{with_item}
use Rattle.crush_walks.specs.Grown.{IsBucket, IsGrown, IsGrownBucket, IsGrownIn}
use Rattle.crush_walks.proofs.ChangeLaws.{one_taken}
use Rattle.crush_walks.proofs.RangeLaws.{untouched}
use Rattle.crush_walks.proofs.ReplaceBufferLaws.{rehoused, room_of_bucket, StoresUpTo-with_capacity}

-- the part of a bucket's number is a bucket
pub bucket_taken : (b : ℕ) (t : Items) → count_of_id (Bucket b) t ≡ 1 → IsBucket (part_of (Bucket b) t)
bucket_taken b t one = one_taken IsBucket (Bucket b) t one (λ d here. absurd (omega (arith, here))) (λ h w m k here gone. tt)

-- THE BUCKET d, which is e as plain data, with the vector of its items before and after
pub bucket_grown : {A Z E : Type 0} (h : HeaderData) (w : ℕ) (e : BucketData) (old new : Vec (Node A) Z) (r : Result (Option (Vec (Node A) Z)) E)
    → record { header = h; weight = w; capacity = vec_capacity old; kids = items_of old.items } ≡ e → IsGrown old new r
    → IsGrownBucket (bucket e.header e.weight e.capacity e.kids none) (bucket h w (vec_capacity new) (items_of new.items) none) r
bucket_grown h w e old new (Err x) same grown = (λ j. bucket h w (vec_capacity (grown.err j)) (items_of ((grown.err j).items)) none) ∙ ap (λ (d : BucketData). bucket d.header d.weight d.capacity d.kids none) same
bucket_grown h w e old new (Ok None) same grown = (
  (λ j. bucket h w (vec_capacity (grown.none.0 j)) (items_of ((grown.none.0 j).items)) none) ∙ ap (λ (d : BucketData). bucket d.header d.weight d.capacity d.kids none) same,
  omega (arith, grown.none.1, count-items_of old.items, old.ok.0, ap (λ (d : BucketData). count d.kids) same, ap (λ (d : BucketData). d.capacity) same),
)
bucket_grown h w e old new (Ok (Some out)) same grown = (
  vec_capacity new,
  ap (λ z. bucket h w (vec_capacity new) (items_of z) none) grown.some.0 ∙ ap (λ (d : BucketData). bucket d.header d.weight (vec_capacity new) d.kids none) same,
  record {
    empty = grown.some.1;
    capacity = grown.some.2 ∙ ap (λ (d : BucketData). d.capacity) same;
    enough = omega (arith, grown.some.2, count-items_of old.items, old.ok.0, old.ok.1, ap (λ (d : BucketData). count d.kids) same);
    full = omega (arith, grown.some.3, count-items_of old.items, old.ok.0, ap (λ (d : BucketData). count d.kids) same, ap (λ (d : BucketData). d.capacity) same);
    half = grown.some.4;
    most = grown.some.5;
  },
)

-- THE ITEMS: sums stay in range, and the items are those with the bucket's new capacity
pub grown_fits : {A Z E : Type 0} (limit b : ℕ) (t y : Items) (r : Result (Option (Vec (Node A) Z)) E) → count_of_id (Bucket b) t ≡ 1 → StoresSums t → StoresUpTo limit t
    → IsGrownBucket (part_of (Bucket b) t) y r → StoresUpTo limit (with_sums (with_item (Bucket b) y t))
grown_fits limit b t y (Err x) one s fits grown = subst (StoresUpTo limit) (sym (ap (λ z. with_sums (with_item (Bucket b) z t)) grown ∙ untouched (Bucket b) t one s)) fits
grown_fits limit b t y (Ok None) one s fits grown = subst (StoresUpTo limit) (sym (ap (λ z. with_sums (with_item (Bucket b) z t)) grown.0 ∙ untouched (Bucket b) t one s)) fits
grown_fits limit b t y (Ok (Some out)) one s fits grown = subst (StoresUpTo limit) (sym (rehoused b grown.0 t y one s grown.1)) (StoresUpTo-with_capacity limit b grown.0 t fits)

pub items_grown : {A Z E : Type 0} (b : ℕ) (t u y : Items) (r : Result (Option (Vec (Node A) Z)) E) → count_of_id (Bucket b) t ≡ 1 → StoresSums t → u ≡ with_sums (with_item (Bucket b) y t)
    → IsGrownBucket (part_of (Bucket b) t) y r → IsGrownIn b t u r
items_grown b t u y (Err x) one s is grown = record {
  none = tt;
  some = tt;
  err = is ∙ ap (λ z. with_sums (with_item (Bucket b) z t)) grown ∙ untouched (Bucket b) t one s;
}
items_grown b t u y (Ok None) one s is grown = record {
  none = (is ∙ ap (λ z. with_sums (with_item (Bucket b) z t)) grown.0 ∙ untouched (Bucket b) t one s, omega (arith, grown.1, room_of_bucket b t one));
  some = tt;
  err = tt;
}
items_grown b t u y (Ok (Some out)) one s is grown = record {
  none = tt;
  some = (grown.0, is ∙ rehoused b grown.0 t y one s grown.1, grown.2);
  err = tt;
}
