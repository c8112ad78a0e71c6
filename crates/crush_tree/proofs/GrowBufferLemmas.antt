-- The forest after a place got a larger vector.
use Rattle.std.proofs.Common.{◌≡◌, ℕ, ◌*◌, ◌+◌, ◌<◌, ◌≤◌, Bool, true, false, [], ap, sym, subst, ◌∙◌, refl, arith, eqb-true, Option, Some, None, Result, Ok, Err, Vec, vec_capacity, ⊎_elim, ◌⊎◌, inl, inr}
use Rattle.crush_model.specs.Forest.{ForestData, rows_of, IsSound}
use Rattle.crush_model.specs.Items.{Items}
use Rattle.crush_model.specs.Stands.{Stands}
use Rattle.crush_nodes.specs.Ops.{is_place, forest_without_capacity}
use Rattle.crush_nodes.specs.Room.{bucket_room, count, room, same_place}
use Rattle.crush_nodes.specs.Seen.{items_of}
use Rattle.crush_nodes.specs.declared.node.Node.{Node}
use Rattle.crush_nodes.specs.declared.place.Place.{Place}
use Rattle.crush_nodes.specs.declared.place.Place.TheVariants.{Bucket as AtBucket, Root, Unplaced}
use Rattle.crush_nodes.proofs.CountLaws.{bucket_room-devices}
use Rattle.crush_nodes.proofs.Steps.{count-items_of}
use Rattle.crush_walks.specs.Grown.{IsGrown, IsGrownIn}
use Rattle.crush_walks.specs.BufferReplaced.{with_capacity}
use Rattle.crush_walks.specs.Swapping.{bucket_in}
use Rattle.crush_tree.specs.Memory.{capacity}
use Rattle.crush_tree.specs.BufferReplaced.{count_at, forest_with_capacity, GrowsBuffer, ReplacesBuffer}
use Rattle.crush_tree.proofs.ReplaceBufferLemmas.{capacity_new, capacity_there, rehouses, room_there, sound_rehoused}

-- the forest f became g, which has larger memory at the place
pub record IsEnlarged {A Z : Type 0} (p : Place) (f g : ForestData) (out : Vec (Node A) Z) : Type 0 where
  pub memory : ℕ
  pub is : g ≡ forest_with_capacity p memory f
  pub empty : out.items ≡ []
  pub capacity : vec_capacity out ≡ capacity f p
  pub enough : count_at p f ≤ vec_capacity out
  pub full : vec_capacity out ≤ count_at p f
  pub half : 3 * vec_capacity out < 2 * memory
  pub most : 2 * memory ≤ 3 * vec_capacity out + 2

abbrev pub IsGrownAt : {A Z E : Type 0} → Place → ForestData → ForestData → Result (Option (Vec (Node A) Z)) E → Type 0
IsGrownAt p f g (Err e) = g ≡ f
IsGrownAt p f g (Ok None) = (g ≡ f) × (0 < room f p)
IsGrownAt p f g (Ok (Some out)) = IsEnlarged p f g out

-- WHAT THE WALKS PROMISE for a bucket, for the roots and for the unplaced devices
pub grown_bucket : {A Z E : Type 0} (b : ℕ) (f g : ForestData) (t u : Items) (r : Result (Option (Vec (Node A) Z)) E) → IsSound f → is_place (rows_of f) (AtBucket b) ≡ true → t ≡ f.roots → g ≡ record f { roots = u }
    → IsGrownIn b t u r → IsGrownAt (AtBucket b) f g r
grown_bucket b f g t u (Err e) sound there same is grown = is ∙ ap (λ n. record f { roots = n }) (grown.err ∙ same)
grown_bucket b f g t u (Ok None) sound there same is grown = (is ∙ ap (λ n. record f { roots = n }) (grown.none.0 ∙ same), omega (arith, grown.none.1, ap (bucket_room b) same, bucket_room-devices b f.unplaced f.roots sound.unplaced))
grown_bucket b f g t u (Ok (Some out)) sound there same is grown =
    let m = grown.some.0 in
    let it = grown.some.2 in
    let counted = ap (λ n. count (bucket_in b n).kids) same in
    let held : vec_capacity out ≡ capacity f (AtBucket b) = it.capacity ∙ ap (λ n. (bucket_in b n).capacity) same ∙ sym (capacity_there f sound b there) in
    record {
      memory = m;
      is = is ∙ ap (λ n. record f { roots = n }) (grown.some.1 ∙ ap (with_capacity b m) same);
      empty = it.empty;
      capacity = held;
      enough = omega (arith, it.enough, counted);
      full = omega (arith, it.full, it.capacity, counted);
      half = it.half;
      most = it.most;
    }

pub grown_roots : {A Z E : Type 0} (f : ForestData) (old new : Vec (Node A) Z) (r : Result (Option (Vec (Node A) Z)) E) → f.roots ≡ items_of old.items → f.root_capacity ≡ vec_capacity old → IsGrown old new r
    → IsGrownAt Root f (record f { roots = items_of new.items; root_capacity = vec_capacity new }) r
grown_roots f old new (Err e) items memory grown = λ j. record f { roots = (ap (λ v. items_of v.items) grown.err ∙ sym items) j; root_capacity = (ap vec_capacity grown.err ∙ sym memory) j }
grown_roots f old new (Ok None) items memory grown = (
  λ j. record f { roots = (ap (λ v. items_of v.items) grown.none.0 ∙ sym items) j; root_capacity = (ap vec_capacity grown.none.0 ∙ sym memory) j },
  omega (arith, grown.none.1, ap count items, memory, count-items_of old.items, old.ok.0),
)
grown_roots f old new (Ok (Some out)) items memory grown = record {
  memory = vec_capacity new;
  is = ap (λ n. record f { roots = n; root_capacity = vec_capacity new }) (ap items_of grown.some.0 ∙ sym items);
  empty = grown.some.1;
  capacity = grown.some.2 ∙ sym memory;
  enough = omega (arith, grown.some.2, ap count items, count-items_of old.items, old.ok.0, old.ok.1);
  full = omega (arith, grown.some.2, grown.some.3, ap count items, count-items_of old.items, old.ok.0);
  half = grown.some.4;
  most = grown.some.5;
}

pub grown_unplaced : {A Z E : Type 0} (f : ForestData) (old new : Vec (Node A) Z) (r : Result (Option (Vec (Node A) Z)) E) → f.unplaced ≡ items_of old.items → f.unplaced_capacity ≡ vec_capacity old → IsGrown old new r
    → IsGrownAt Unplaced f (record f { unplaced = items_of new.items; unplaced_capacity = vec_capacity new }) r
grown_unplaced f old new (Err e) items memory grown = λ j. record f { unplaced = (ap (λ v. items_of v.items) grown.err ∙ sym items) j; unplaced_capacity = (ap vec_capacity grown.err ∙ sym memory) j }
grown_unplaced f old new (Ok None) items memory grown = (
  λ j. record f { unplaced = (ap (λ v. items_of v.items) grown.none.0 ∙ sym items) j; unplaced_capacity = (ap vec_capacity grown.none.0 ∙ sym memory) j },
  omega (arith, grown.none.1, ap count items, memory, count-items_of old.items, old.ok.0),
)
grown_unplaced f old new (Ok (Some out)) items memory grown = record {
  memory = vec_capacity new;
  is = ap (λ n. record f { unplaced = n; unplaced_capacity = vec_capacity new }) (ap items_of grown.some.0 ∙ sym items);
  empty = grown.some.1;
  capacity = grown.some.2 ∙ sym memory;
  enough = omega (arith, grown.some.2, ap count items, count-items_of old.items, old.ok.0, old.ok.1);
  full = omega (arith, grown.some.2, grown.some.3, ap count items, count-items_of old.items, old.ok.0);
  half = grown.some.4;
  most = grown.some.5;
}

-- THE FOREST is still sound
pub sound_grown : {A Z E : Type 0} (p : Place) (f g : ForestData) (r : Result (Option (Vec (Node A) Z)) E) → IsSound f → IsGrownAt p f g r → IsSound g
sound_grown p f g (Err e) sound grown = subst IsSound (sym grown) sound
sound_grown p f g (Ok None) sound grown = subst IsSound (sym grown.0) sound
sound_grown p f g (Ok (Some out)) sound grown = sound_rehoused p grown.memory f g sound grown.is

true_or_false : (b : Bool) → (b ≡ true) ⊎ (b ≡ false)
true_or_false true = inl refl
true_or_false false = inr refl

same_place-eq : (q p : Place) → same_place q p ≡ true → q ≡ p
same_place-eq (AtBucket a) (AtBucket b) e = ap AtBucket (eqb-true a b e)
same_place-eq (AtBucket a) Root e = absurd (let no : false ≡ true = e in cc)
same_place-eq (AtBucket a) Unplaced e = absurd (let no : false ≡ true = e in cc)
same_place-eq Root (AtBucket b) e = absurd (let no : false ≡ true = e in cc)
same_place-eq Root Root e = refl
same_place-eq Root Unplaced e = absurd (let no : false ≡ true = e in cc)
same_place-eq Unplaced (AtBucket b) e = absurd (let no : false ≡ true = e in cc)
same_place-eq Unplaced Root e = absurd (let no : false ≡ true = e in cc)
same_place-eq Unplaced Unplaced e = refl

-- GROWN: what is true of the forest f after the call, and of the vector that is returned
pub grows : {A Z E : Type 0} (p : Place) (f g : ForestData) (r : Result (Option (Vec (Node A) Z)) E) → IsSound f → is_place (rows_of f) p ≡ true → IsGrownAt p f g r → GrowsBuffer p f g r
grows p f g (Err e) sound there grown = record {
  stands = λ t s. subst (λ z. Stands z t) (sym grown) s;
  same = ap forest_without_capacity grown;
  rows = ap rows_of grown;
  room = tt;
  rooms = λ q. omega (arith, ap (λ z. room z q) grown);
  full = tt;
  moved = tt;
  half = tt;
  most = tt;
  none = tt;
  err = grown;
}
grows p f g (Ok None) sound there grown = record {
  stands = λ t s. subst (λ z. Stands z t) (sym grown.0) s;
  same = ap forest_without_capacity grown.0;
  rows = ap rows_of grown.0;
  room = subst (λ z. 0 < room z p) (sym grown.0) grown.1;
  rooms = λ q. omega (arith, ap (λ z. room z q) grown.0);
  full = tt;
  moved = tt;
  half = tt;
  most = tt;
  none = grown.0;
  err = tt;
}
grows p f g (Ok (Some out)) sound there grown =
    let it = rehouses p grown.memory f g out sound there grown.is grown.empty grown.capacity grown.enough in
    let now : capacity g p ≡ grown.memory = ap (λ z. capacity z p) grown.is ∙ capacity_new p grown.memory f sound there in
    let old = room_there f sound p there in
    record {
      stands = it.stands;
      same = it.same;
      rows = it.rows;
      room = omega (arith, it.room, grown.half, grown.full, grown.enough);
      rooms = λ q. ⊎_elim
          (λ here. omega (arith, ap (room g) (same_place-eq q p here), ap (room f) (same_place-eq q p here), it.room, old, grown.half, grown.capacity))
          (λ other. omega (arith, it.rooms q other))
          (true_or_false (same_place q p));
      full = omega (arith, old, grown.full, grown.capacity);
      moved = subst (λ m. ReplacesBuffer p m f g out) (sym now) it;
      half = omega (arith, grown.half, grown.capacity, now);
      most = omega (arith, grown.most, grown.capacity, now);
      none = tt;
      err = tt;
    }

-- The same, stated for the value v that contracts see, from what is true of the equal forest f of the fields.
pub grows_at : {A Z E : Type 0} (p q : Place) (f v g : ForestData) (r : Result (Option (Vec (Node A) Z)) E) → f ≡ v → p ≡ q → IsSound f → is_place (rows_of v) p ≡ true → IsGrownAt q f g r → GrowsBuffer p v g r
grows_at p q f v g r e at sound there grown = subst (λ w. GrowsBuffer p w g r) e (subst (λ s. GrowsBuffer s f g r) (sym at) (grows q f g r sound ((λ j. is_place (rows_of (e j)) (sym at j)) ∙ there) grown))
