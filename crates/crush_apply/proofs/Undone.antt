-- Undoing additions and moves.
use Rattle.std.proofs.Common.{◌≡◌, ℕ, ◌++◌, true, false, List, sym, subst, ◌∙◌, arith}
use Rattle.std.specs.Prelude.{Option, Some, None, Result, Ok, Err, IsErrAnd, Vec}
use Rattle.crush_units.specs.declared.id.ItemId.{ItemId}
use Rattle.crush_model.specs.Forest.{ForestData, all_items, rows_of, IsSound}
use Rattle.crush_model.specs.Items.{Items}
use Rattle.crush_model.specs.Stands.{Stands}
use Rattle.crush_model.specs.Stored.{weight_sum}
use Rattle.crush_model.specs.Table.{Row, is_there}
use Rattle.crush_model.proofs.Stands.{stands_for_rows}
use Rattle.crush_nodes.specs.Ops.{part_of}
use Rattle.crush_nodes.specs.declared.node.Node.{Node}
use Rattle.crush_nodes.specs.declared.place.Place.{Place}
use Rattle.crush_tree.specs.declared.forest.stand.Stand.{Stand}
use Rattle.crush_tree.specs.Changed.{Detaches}
use Rattle.crush_tree.specs.BufferReplaced.{GrowsBuffer}
use Rattle.crush_tree.specs.Moves.{IsStand, forest_without}
use Rattle.crush_hierarchy.specs.Placed.{Adds, Puts}
use Rattle.crush_apply.specs.declared.addition.Addition.{Addition}
use Rattle.crush_apply.specs.Placed.{MakesRoom}
use Rattle.crush_apply.specs.UndoSteps.{GetsAnyMemory, GoesBack, Leaves}

-- THE LOG ENTRY of a moved item
pub noted_stood : (f g : ForestData) (i : ItemId) (b : ℕ) (w : Option ℕ) (s : Stand) (own : ℕ) → IsSound f → IsStand i f s → own ≡ weight_sum (part_of i (all_items f)) → Puts i b w f g → GoesBack (record { item = i; stand = s; weight = own }) g f
noted_stood f g i b w s own sound at is puts =
    let back = puts.back s.place s.position at.stands in
    subst (λ (u : ℕ). GoesBack (record { item = i; stand = s; weight = u }) g f) (sym is)
    (record {
      can = record { there = puts.there; kind = at.kind; room = puts.freed s.place s.position at.stands; sound = subst IsSound back sound };
      is = back;
    })

-- THE LOG ENTRY of a place that was enlarged
pub noted_memory : {A E : Type 0} (p : Place) (m : Option (Vec (Node A) A)) (f g : ForestData) → GrowsBuffer {E = E} p f g (Ok m) → GetsAnyMemory p m g f
noted_memory p None f g grown = grown.none
noted_memory p (Some items) f g grown = record { can = grown.moved.again; is = grown.moved.back }

-- THE LOG ENTRY of an added item
pub noted_item : (f g : ForestData) (i j : ItemId) → i ≡ j → is_there (rows_of g) j ≡ true → f ≡ forest_without j g → Leaves i g f
noted_item f g i j is there left = subst (λ z. Leaves z g f) (sym is) (record { there = there; is = left })

-- what adding an item promises if the place was enlarged before
pub grown_adds : {A X Y E F : Type 0} (p : Place) (n : Items) (f h g : ForestData) (m : Option (Vec (Node A) A)) (x : X) (y : Y) → GrowsBuffer {E = E} p f h (Ok m) → Adds {E = F} p n h g (Ok x) → Adds {E = F} p n f g (Ok y)
grown_adds p n f h g m x y grown adds = record {
  stands = λ t st. adds.stands t (grown.stands t st);
  rooms = λ q. omega (arith, adds.rooms q, grown.rooms q);
  err = tt;
}

-- MAKING ROOM failed, and nothing has changed
pub no_room_made : {A E : Type 0} (more : List Row → List Row) (which : List Row → Option ℕ) (f g : ForestData) (P : E → Type 0) (x : Result (ℕ × Addition A) E) → IsErrAnd x P → g ≡ f → MakesRoom more which f g x
no_room_made more which f g P (Ok z) h same = elim h [ ]
no_room_made more which f g P (Err e) h same = record { next = tt; stands = tt; room = tt; goes = tt; unchanged = same }

-- the same for equal rows and an equal bucket, written differently
pub room_as : {A E : Type 0} (more others : List Row → List Row) (which it : List Row → Option ℕ) (f g : ForestData) (x : Result (ℕ × Addition A) E)
    → ((t : List Row) → Stands f t → more t ≡ others t) → ((t : List Row) (b : ℕ) → Stands f t → which t ≡ Some b → it t ≡ Some b) → MakesRoom more which f g x → MakesRoom others it f g x
room_as more others which it f g (Ok z) same next made = record {
  next = λ t st. next t z.0 st (made.next t st);
  stands = λ t st. subst (λ y. Stands g (t ++ y)) (same t st) (made.stands t st);
  room = made.room;
  goes = made.goes;
  unchanged = tt;
}
room_as more others which it f g (Err e) same next made = record { next = tt; stands = tt; room = tt; goes = tt; unchanged = made.unchanged }

-- removing an item that the forest has
pub gone : {A : Type 0} (g h f : ForestData) (i : ItemId) (x : Option (Node A)) → IsSound g → Detaches i g h x → Leaves i g f → h ≡ f
gone g h f i None sound out back = absurd (let no : false ≡ true = out.there (rows_of g) (stands_for_rows g sound) ∙ back.there in cc)
gone g h f i (Some node) sound out back = out.is ∙ sym back.is
