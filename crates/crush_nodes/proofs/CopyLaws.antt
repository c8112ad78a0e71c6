-- Copies, which are the same except for memory.
use Rattle.std.proofs.Common.{◌≡◌, ℕ, ◌+◌, ◌-◌, ◌<◌, Bool, true, false, List, [], ◌∷◌, ◌++◌, length, get_or, take, map, ap, sym, subst, ◌∙◌, refl, arith}
use Rattle.std.specs.Prelude.{◌==◌, if◌then◌else◌}
use Rattle.std.proofs.lemmas.List.{map-append, take_more}
use Rattle.crush_model.specs.Items.{HeaderData, Items, none, device, bucket}
use Rattle.crush_model.specs.Forest.{ForestData, rows_of, IsSound, OnlyDevices, join}
use Rattle.crush_model.specs.Stands.{Stands}
use Rattle.crush_nodes.specs.Copies.{IsPushed}
use Rattle.crush_nodes.specs.Ops.{without_capacity}
use Rattle.crush_nodes.specs.Room.{bucket_room, count, room}
use Rattle.crush_nodes.specs.Seen.{items_of}
use Rattle.crush_nodes.specs.declared.place.Place.{Place}
use Rattle.crush_nodes.specs.declared.place.Place.TheVariants.{Bucket as AtBucket, Root, Unplaced}
use Rattle.crush_nodes.specs.declared.node.Node.{Node}
use Rattle.crush_nodes.proofs.LastLaws.{bucket_room-join}
use Rattle.crush_nodes.proofs.Steps.{items_of-append, items_of-taken}
use Rattle.crush_nodes.proofs.RoomLaws.{without_capacity-join}
use Rattle.crush_nodes.proofs.RoomSteps.{rows_of-widened, sound-widened, stands-widened}

-- the copies with one more item
pub without_capacity-copied : {A : _} (more ms ns : List (Node A)) (i : ℕ) (y x : Node A) → i < length ns → x ≡ get_or ns i x → more ≡ ms ++ y ∷ [] → without_capacity (items_of ms) ≡ without_capacity (items_of (take i ns))
    → without_capacity (items_of (y ∷ [])) ≡ without_capacity (items_of (x ∷ [])) → without_capacity (items_of more) ≡ without_capacity (items_of (take (i + 1) ns))
without_capacity-copied more ms ns i y x lt at written e same =
    ap (λ z. without_capacity (items_of z)) written ∙ ap without_capacity (items_of-append ms (y ∷ [])) ∙ without_capacity-join (items_of ms) (items_of (y ∷ [])) ∙ (λ k. join (e k) (same k))
    ∙ sym (without_capacity-join (items_of (take i ns)) (items_of (x ∷ []))) ∙ sym (ap without_capacity (items_of-taken ns i x lt at))

-- the copies with one more element, stated by the plain data of each
pub map-copied : {X Y : Type 0} (f : X → Y) (more ms ns : List X) (i : ℕ) (y x : X) → i < length ns → x ≡ get_or ns i x → more ≡ ms ++ y ∷ [] → map f ms ≡ map f (take i ns) → f y ≡ f x
    → map f more ≡ map f (take (i + 1) ns)
map-copied f more ms ns i y x lt at written e same =
    ap (map f) written ∙ map-append f ms (y ∷ []) ∙ (λ k. e k ++ same k ∷ []) ∙ sym (map-append f (take i ns) (x ∷ []))
    ∙ sym (ap (map f) (take_more ns i x lt ∙ ap (λ z. take i ns ++ z ∷ []) (sym at)))

-- a bucket that has memory only for its items has no room, and neither have those below it
full_room : (q : Bool) (m n : ℕ) → m ≡ n → (if q then m - n else 0) ≡ 0
full_room true m n e = omega arith
full_room false m n e = refl

pub bucket_room-full : (b : ℕ) (h : HeaderData) (w m : ℕ) (k : Items) → m ≡ count k → bucket_room b k ≡ 0 → bucket_room b (bucket h w m k none) ≡ 0
bucket_room-full b h w m k full below = omega (arith, full_room (h.id == b) m (count k) full, below)

-- the room of the copies with one more item, which has no room
pub bucket_room-copied : {A : _} (b : ℕ) (more ms : List (Node A)) (y : Node A) → more ≡ ms ++ y ∷ [] → bucket_room b (items_of ms) ≡ 0 → bucket_room b (items_of (y ∷ [])) ≡ 0 → bucket_room b (items_of more) ≡ 0
bucket_room-copied b more ms y written before one =
    ap (λ z. bucket_room b (items_of z)) written ∙ ap (bucket_room b) (items_of-append ms (y ∷ [])) ∙ omega (arith, bucket_room-join b (items_of ms) (items_of (y ∷ [])), before, one)

-- COPIED: one more node, which is a copy of another, without room
pub record Copied {A : _} (old new : List (Node A)) (x : Node A) : Type 0 where
  pub seen : Items
  pub pushed : IsPushed old new seen
  pub same : without_capacity seen ≡ without_capacity (items_of (x ∷ []))
  pub full : (b : ℕ) → bucket_room b seen ≡ 0

pub copied_same : {A : _} (old new ns : List (Node A)) (i : ℕ) (x : Node A) → Copied old new x → i < length ns → x ≡ get_or ns i x → without_capacity (items_of old) ≡ without_capacity (items_of (take i ns)) → without_capacity (items_of new) ≡ without_capacity (items_of (take (i + 1) ns))
copied_same old new ns i x copy lt at before = without_capacity-copied new old ns i copy.pushed.node x lt at copy.pushed.last before (ap without_capacity copy.pushed.item ∙ copy.same)

pub copied_full : {A : _} (old new : List (Node A)) (x : Node A) → Copied old new x → (b : ℕ) → bucket_room b (items_of old) ≡ 0 → bucket_room b (items_of new) ≡ 0
copied_full old new x copy b before = bucket_room-copied b new old copy.pushed.node copy.pushed.last before (ap (bucket_room b) copy.pushed.item ∙ copy.full b)

-- a forest that has memory only for its items has no room
pub room-full : (f : ForestData) → f.root_capacity ≡ count f.roots → f.unplaced_capacity ≡ count f.unplaced → ((b : ℕ) → bucket_room b f.roots ≡ 0) → ((b : ℕ) → bucket_room b f.unplaced ≡ 0) → (p : Place) → room f p ≡ 0
room-full f roots unplaced below_roots below_unplaced (AtBucket b) = omega (arith, bucket_room-join b f.unplaced f.roots, below_roots b, below_unplaced b)
room-full f roots unplaced below_roots below_unplaced Root = omega (arith, roots)
room-full f roots unplaced below_roots below_unplaced Unplaced = omega (arith, unplaced)

-- devices have no memory of their own
without_capacity-devices : (t : Items) → OnlyDevices (without_capacity t) → without_capacity t ≡ t
without_capacity-devices none h = refl
without_capacity-devices (device d r) h = ap (device d) (without_capacity-devices r h)
without_capacity-devices (bucket h w m k r) only = absurd only

OnlyDevices-without_capacity : (t : Items) → OnlyDevices t → OnlyDevices (without_capacity t)
OnlyDevices-without_capacity none h = tt
OnlyDevices-without_capacity (device d r) h = OnlyDevices-without_capacity r h
OnlyDevices-without_capacity (bucket h w m k r) only = absurd only

same_devices : (t u : Items) → OnlyDevices u → without_capacity t ≡ without_capacity u → t ≡ u
same_devices t u h e =
    let only : OnlyDevices (without_capacity u) = OnlyDevices-without_capacity u h in
    sym (without_capacity-devices t (subst OnlyDevices (sym e) only)) ∙ e ∙ without_capacity-devices u only

-- a forest that is the same except for memory
module _ (f g : ForestData) (sound : IsSound f) (e₁ : without_capacity g.roots ≡ without_capacity f.roots) (e₂ : without_capacity g.unplaced ≡ without_capacity f.unplaced) where
  pub sound-copied : IsSound g
  sound-copied = sound-widened f g e₁ (same_devices g.unplaced f.unplaced sound.unplaced e₂) sound

  pub rows_of-copied : rows_of g ≡ rows_of f
  rows_of-copied = rows_of-widened f g e₁ (same_devices g.unplaced f.unplaced sound.unplaced e₂) sound

  pub stands-copied : (t : List _) → Stands f t → Stands g t
  stands-copied = stands-widened f g e₁ (same_devices g.unplaced f.unplaced sound.unplaced e₂) sound
