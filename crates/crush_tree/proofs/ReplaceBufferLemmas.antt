-- The forest after the items of a place were moved to another vector.
use Rattle.std.proofs.Common.{◌≡◌, ℕ, ◌-◌, ◌≤◌, Bool, true, false, [], ap, sym, subst, ◌∙◌, refl, arith, Vec, vec_capacity, IfSome}
use Rattle.std.specs.Prelude.{◌==◌, if◌then◌else◌}
use Rattle.crush_units.specs.declared.id.ItemId.TheVariants.{Bucket}
use Rattle.crush_model.specs.Forest.{join, ForestData, all_items, rows_of, IsSound, OnlyDevices}
use Rattle.crush_model.specs.Items.{HeaderData, Items, none, device, bucket}
use Rattle.crush_model.specs.Stands.{Stands}
use Rattle.crush_nodes.specs.Ops.{count_of_id, items_without, without_capacity, forest_without_capacity, is_place, StoresUpTo}
use Rattle.crush_nodes.specs.Room.{count, parent_at, room, same_place}
use Rattle.crush_nodes.specs.declared.node.Node.{Node}
use Rattle.crush_nodes.specs.declared.place.Place.{Place}
use Rattle.crush_nodes.specs.declared.place.Place.TheVariants.{Bucket as AtBucket, Root, Unplaced}
use Rattle.crush_nodes.proofs.CountLaws.{bucket_room-devices}
use Rattle.crush_nodes.proofs.Joins.{pick_no, pick_yes}
use Rattle.crush_nodes.proofs.LastLaws.{bucket_room-join}
use Rattle.crush_nodes.proofs.RoomSteps.{there_once, rows_of-widened, sound-widened, stands-widened}
use Rattle.crush_nodes.proofs.Joins.{StoresUpTo-right}
use Rattle.crush_nodes.proofs.RowLaws.{StoresUpTo-lawful}
use Rattle.crush_walks.specs.BufferReplaced.{with_capacity}
use Rattle.crush_walks.specs.DescendsTo.{DescendsTo}
use Rattle.crush_tree.proofs.DescentLemmas.{path_to_root}
use Rattle.crush_units.specs.declared.id.ItemId.{ItemId}
use Rattle.crush_units.specs.declared.limits.TheConstants.{HEAVIEST_BUCKET}
use Rattle.crush_walks.specs.Swapping.{bucket_in, first_as_bucket}
use Rattle.crush_walks.proofs.ChangeLaws.{one_taken}
use Rattle.crush_walks.proofs.ReplaceBufferLaws.{capacity_rehoused, count-with_capacity, count_of_id-with_capacity, count_rehoused, other_room, rehoused_back, room_of_bucket, without_capacity-with_capacity}
use Rattle.crush_tree.specs.Memory.{bucket_capacity, capacity}
use Rattle.crush_tree.specs.BufferReplaced.{count_at, forest_with_capacity, ReplacesBuffer}
use Rattle.crush_tree.proofs.MemoryLemmas.{capacity_parts}

-- THE MEMORY of the one bucket with a number
bucket_capacity-absent : (b : ℕ) (t : Items) → count_of_id (Bucket b) t ≡ 0 → bucket_capacity b t ≡ 0
bucket_capacity-absent b none e = refl
bucket_capacity-absent b (device d r) e = bucket_capacity-absent b r (omega (arith, e))
bucket_capacity-absent b (bucket h w m k r) e = omega (arith, pick_no (h.id == b) m 0 (omega (arith, e)), bucket_capacity-absent b k (omega (arith, e)), bucket_capacity-absent b r (omega (arith, e)))

without_bucket : (c : Bool) (b : ℕ) (h : HeaderData) (w m : ℕ) (k r : Items) → (h.id == b) ≡ c → bucket_capacity b k ≡ 0 → bucket_capacity b r ≡ 0 → bucket_capacity b (if c then r else bucket h w m k r) ≡ 0
without_bucket true b h w m k r e in_kids in_rest = in_rest
without_bucket false b h w m k r e in_kids in_rest = omega (arith, ap (λ z. if z then m else 0) e, in_kids, in_rest)

capacity_without : (b : ℕ) (t : Items) → bucket_capacity b (items_without (Bucket b) t) ≡ 0
capacity_without b none = refl
capacity_without b (device d r) = capacity_without b r
capacity_without b (bucket h w m k r) = without_bucket (h.id == b) b h w m (items_without (Bucket b) k) (items_without (Bucket b) r) refl (capacity_without b k) (capacity_without b r)

pub capacity_of_bucket : (b : ℕ) (t : Items) → count_of_id (Bucket b) t ≡ 1 → bucket_capacity b t ≡ (bucket_in b t).capacity
capacity_of_bucket b t one =
    let part = one_taken (λ x. bucket_capacity b x ≡ (first_as_bucket x).capacity) (Bucket b) t one (λ d here. refl) (λ h w m k here gone. omega (arith, pick_yes (h.id == b) m 0 here, bucket_capacity-absent b k gone)) in
    omega (arith, capacity_parts b (Bucket b) t, capacity_without b t, part)

capacity_devices : (b : ℕ) (u r : Items) → OnlyDevices u → bucket_capacity b (join u r) ≡ bucket_capacity b r
capacity_devices b none r only = refl
capacity_devices b (device d u) r only = capacity_devices b u r only
capacity_devices b (bucket h w m k u) r only = absurd only

-- THE FOREST with other memory at a place that exists
roots_bare : (p : Place) (m : ℕ) (f : ForestData) → without_capacity (forest_with_capacity p m f).roots ≡ without_capacity f.roots
roots_bare (AtBucket b) m f = without_capacity-with_capacity b m f.roots
roots_bare Root m f = refl
roots_bare Unplaced m f = refl

unplaced_kept : (p : Place) (m : ℕ) (f : ForestData) → (forest_with_capacity p m f).unplaced ≡ f.unplaced
unplaced_kept (AtBucket b) m f = refl
unplaced_kept Root m f = refl
unplaced_kept Unplaced m f = refl

pub sound_rehoused : (p : Place) (m : ℕ) (f g : ForestData) → IsSound f → g ≡ forest_with_capacity p m f → IsSound g
sound_rehoused p m f g sound is = subst IsSound (sym is) (sound-widened f (forest_with_capacity p m f) (roots_bare p m f) (unplaced_kept p m f) sound)

module _ (f : ForestData) (sound : IsSound f) where
  pub capacity_there : (b : ℕ) → is_place (rows_of f) (AtBucket b) ≡ true → capacity f (AtBucket b) ≡ (bucket_in b f.roots).capacity
  capacity_there b there = capacity_devices b f.unplaced f.roots sound.unplaced ∙ capacity_of_bucket b f.roots (there_once f b sound there)

  pub room_there : (p : Place) → is_place (rows_of f) p ≡ true → room f p ≡ capacity f p - count_at p f
  room_there (AtBucket b) there = bucket_room-devices b f.unplaced f.roots sound.unplaced ∙ room_of_bucket b f.roots (there_once f b sound there) ∙ ap (λ z. z - count (bucket_in b f.roots).kids) (sym (capacity_there b there))
  room_there Root there = refl
  room_there Unplaced there = refl

count_kept : (p : Place) (m : ℕ) (f : ForestData) → count_at p (forest_with_capacity p m f) ≡ count_at p f
count_kept (AtBucket b) m f = count_rehoused b m f.roots
count_kept Root m f = refl
count_kept Unplaced m f = refl

pub capacity_new : (p : Place) (m : ℕ) (f : ForestData) → IsSound f → is_place (rows_of f) p ≡ true → capacity (forest_with_capacity p m f) p ≡ m
capacity_new (AtBucket b) m f sound there =
    let one = there_once f b sound there in
    capacity_devices b f.unplaced (with_capacity b m f.roots) sound.unplaced ∙ capacity_of_bucket b (with_capacity b m f.roots) (count_of_id-with_capacity b m (Bucket b) f.roots ∙ one) ∙ capacity_rehoused b m f.roots one
capacity_new Root m f sound there = refl
capacity_new Unplaced m f sound there = refl

other_kept : (p q : Place) (m : ℕ) (f : ForestData) → same_place q p ≡ false → room (forest_with_capacity p m f) q ≡ room f q
other_kept (AtBucket b) (AtBucket c) m f e = omega (arith, other_room b m c f.roots e, bucket_room-join c f.unplaced f.roots, bucket_room-join c f.unplaced (with_capacity b m f.roots))
other_kept (AtBucket b) Root m f e = ap (λ n. f.root_capacity - n) (count-with_capacity b m f.roots)
other_kept (AtBucket b) Unplaced m f e = refl
other_kept Root (AtBucket c) m f e = refl
other_kept Root Root m f e = absurd (let no : true ≡ false = e in cc)
other_kept Root Unplaced m f e = refl
other_kept Unplaced (AtBucket c) m f e = refl
other_kept Unplaced Root m f e = refl
other_kept Unplaced Unplaced m f e = absurd (let no : true ≡ false = e in cc)

rehoused_there : (p : Place) (m : ℕ) (f : ForestData) → IsSound f → is_place (rows_of f) p ≡ true → forest_with_capacity p (capacity f p) (forest_with_capacity p m f) ≡ f
rehoused_there (AtBucket b) m f sound there =
    ap (λ n. record f { roots = with_capacity b n (with_capacity b m f.roots) }) (capacity_there f sound b there) ∙ ap (λ n. record f { roots = n }) (rehoused_back b m f.roots (there_once f b sound there))
rehoused_there Root m f sound there = refl
rehoused_there Unplaced m f sound there = refl

bare_kept : (p : Place) (m : ℕ) (f : ForestData) → forest_without_capacity (forest_with_capacity p m f) ≡ forest_without_capacity f
bare_kept p m f = λ j. record { roots = roots_bare p m f j; unplaced = without_capacity (unplaced_kept p m f j); root_capacity = 0; unplaced_capacity = 0 }

-- REHOUSED: what is true of the forest f after the call, and of the vector that is returned
pub rehouses : {A Z : Type 0} (p : Place) (m : ℕ) (f g : ForestData) (out : Vec (Node A) Z) → IsSound f → is_place (rows_of f) p ≡ true → g ≡ forest_with_capacity p m f
    → out.items ≡ [] → vec_capacity out ≡ capacity f p → count_at p f ≤ vec_capacity out → ReplacesBuffer p m f g out
rehouses p m f g out sound there is empty memory enough =
    let new = forest_with_capacity p m f in
    let rows : rows_of g ≡ rows_of f = ap rows_of is ∙ rows_of-widened f new (roots_bare p m f) (unplaced_kept p m f) sound in
    let sound_new = sound_rehoused p m f g sound is in
    record {
      stands = λ t s. subst (λ z. Stands z t) (sym is) (stands-widened f new (roots_bare p m f) (unplaced_kept p m f) sound t s);
      same = ap forest_without_capacity is ∙ bare_kept p m f;
      rows = rows;
      is = is;
      back = sym ((λ j. forest_with_capacity p (memory j) (is j)) ∙ rehoused_there p m f sound there);
      again = record {
        there = ap (λ z. is_place z p) rows ∙ there;
        empty = empty;
        enough = omega (arith, enough, ap (count_at p) is, count_kept p m f);
      };
      memory = memory;
      room = room_there g sound_new p (ap (λ z. is_place z p) rows ∙ there) ∙ (λ j. capacity (is j) p - count_at p (is j)) ∙ (λ j. capacity_new p m f sound there j - count_kept p m f j);
      rooms = λ q other. ap (λ z. room z q) is ∙ other_kept p q m f other;
    }

-- UNDONE: the forest is the one before
pub rehoused_twice : {A Z : Type 0} {p : Place} {m : ℕ} {f g h : ForestData} {out last : Vec (Node A) Z} → ReplacesBuffer p m f g out → ReplacesBuffer p (vec_capacity out) g h last → h ≡ f
rehoused_twice first second = second.is ∙ sym first.back

-- The same, stated for the value v that contracts see, from what is true of the equal forest f of the fields.
pub rehouses_at : {A Z : Type 0} (p q : Place) (m : ℕ) (f v g : ForestData) (out : Vec (Node A) Z) → f ≡ v → p ≡ q → IsSound f → is_place (rows_of v) p ≡ true → g ≡ forest_with_capacity q m f
    → out.items ≡ [] → vec_capacity out ≡ capacity f q → count_at q f ≤ vec_capacity out → ReplacesBuffer p m v g out
rehouses_at p q m f v g out e at sound there is empty memory enough =
    subst (λ w. ReplacesBuffer p m w g out) e (subst (λ r. ReplacesBuffer r m f g out) (sym at) (rehouses q m f g out sound ((λ j. is_place (rows_of (e j)) (sym at j)) ∙ there) is empty memory enough))

-- IF THE PLACE IS A BUCKET: the way leads to it among the roots, whose sums are in range
pub record IsLedTo (knows : ItemId → Items → Type 0) (b : ℕ) (f : ForestData) (t : Items) : Type 0 where
  pub there : is_place (rows_of f) (AtBucket b) ≡ true
  pub descent : DescendsTo knows (Bucket b) t
  pub stored : StoresUpTo HEAVIEST_BUCKET t

pub led_to : (knows : ItemId → Items → Type 0) (p : Place) (b : ℕ) (f v : ForestData) (t : Items) → f ≡ v → p ≡ AtBucket b → IsSound f → t ≡ f.roots → is_place (rows_of v) p ≡ true
    → IfSome (parent_at p) (λ x. knows (Bucket x) v.roots) → IsLedTo knows b f t
led_to knows p b f v t e at sound same there known =
    let here : is_place (rows_of f) (AtBucket b) ≡ true = (λ j. is_place (rows_of (e j)) (sym at j)) ∙ there in
    record {
      there = here;
      descent = path_to_root knows f v (Bucket b) t e sound same (subst (λ q. IfSome (parent_at q) (λ x. knows (Bucket x) v.roots)) at known) (there_once f b sound here);
      stored = subst (StoresUpTo HEAVIEST_BUCKET) (sym same) (StoresUpTo-right HEAVIEST_BUCKET f.unplaced f.roots (StoresUpTo-lawful (all_items f) sound.sums sound.lawful));
    }

-- The vector has memory for the items of the place, for the forest f of the fields, from what is required of v, the equal value that contracts see.
pub enough_at : (p q : Place) (f v : ForestData) (m : ℕ) → f ≡ v → p ≡ q → count_at p v ≤ m → count_at q f ≤ m
enough_at p q f v m e at enough = subst (λ n. n ≤ m) (λ j. count_at (at j) (sym e j)) enough
