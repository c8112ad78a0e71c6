use Rattle.std.proofs.Common.{◌≡◌, length, ap, ◌∙◌, refl}
use Rattle.crush_nodes.specs.Seen.{items_of}
use Rattle.crush_nodes.specs.declared.place.Place.TheVariants.{Bucket as AtBucket, Root, Unplaced}
use Rattle.crush_nodes.proofs.Steps.{with_items_same}
use Rattle.crush_tree.specs.SeenForest.{forest_data}
use Rattle.crush_tree.proofs.GrowBufferLemmas.{grown_bucket, grown_roots, grown_unplaced, grows_at, sound_grown}
use Rattle.crush_tree.proofs.ReplaceBufferLemmas.{led_to}
use Rattle.crush_tree.proofs.forest.Forest.grow_buffer_along.Goals as goal

pub grow_buffer_in-requires : goal.grow_buffer_in-requires
grow_buffer_in-requires g c =
    let f = forest_data c.self.inside in
    let led = led_to (g.W.Descent.knows c.args.descent.now) c.args.place c.in-Bucket.bucket f c.args.self.now _ c.self.view_is c.in-Bucket.is c.self.invariant (ap items_of c.as_mut_slice.ensures.value) c.requires.can c.requires.known in
    record { descent = led.descent; stored = led.stored }

pub invariant_of-self : goal.invariant_of-self
invariant_of-self g c =
    let f = forest_data c.self.inside in
    let b = c.in-Bucket.bucket in
    let same = ap items_of c.as_mut_slice.ensures.value in
    let led = led_to (g.W.Descent.knows c.args.descent.now) c.args.place b f c.args.self.now _ c.self.view_is c.in-Bucket.is c.self.invariant same c.requires.can c.requires.known in
    let as_many : length c.grow_buffer_in.new.items ≡ length c.self.inside.roots.items = c.grow_buffer_in.auto.items ∙ ap length c.as_mut_slice.ensures.value in
    let written = ap items_of (with_items_same c.self.inside.roots c.grow_buffer_in.new.items as_many) in
    sound_grown (AtBucket b) f _ c.grow_buffer_in.result c.self.invariant (grown_bucket b f _ _ (items_of c.grow_buffer_in.new.items) c.grow_buffer_in.result c.self.invariant led.there same (ap (λ n. record f { roots = n }) written) c.grow_buffer_in.ensures)

pub returns-in-Bucket : goal.returns-in-Bucket
returns-in-Bucket g c =
    let f = forest_data c.self.inside in
    let b = c.in-Bucket.bucket in
    let same = ap items_of c.as_mut_slice.ensures.value in
    let led = led_to (g.W.Descent.knows c.args.descent.now) c.args.place b f c.args.self.now _ c.self.view_is c.in-Bucket.is c.self.invariant same c.requires.can c.requires.known in
    let as_many : length c.grow_buffer_in.new.items ≡ length c.self.inside.roots.items = c.grow_buffer_in.auto.items ∙ ap length c.as_mut_slice.ensures.value in
    let written = ap items_of (with_items_same c.self.inside.roots c.grow_buffer_in.new.items as_many) in
    grows_at c.args.place (AtBucket b) f c.args.self.now _ c.grow_buffer_in.result c.self.view_is c.in-Bucket.is c.self.invariant c.requires.can
    (grown_bucket b f _ _ (items_of c.grow_buffer_in.new.items) c.grow_buffer_in.result c.self.invariant led.there same (ap (λ n. record f { roots = n }) written) c.grow_buffer_in.ensures)

pub invariant_of-self-in-Root : goal.invariant_of-self-in-Root
invariant_of-self-in-Root g c =
    let f = forest_data c.self.inside in
    sound_grown Root f _ c.grow_buffer_of.result c.self.invariant (grown_roots f c.self.inside.roots c.grow_buffer_of.new.items c.grow_buffer_of.result refl refl c.grow_buffer_of.ensures)

pub returns-in-Root : goal.returns-in-Root
returns-in-Root g c =
    let f = forest_data c.self.inside in
    grows_at c.args.place Root f c.args.self.now _ c.grow_buffer_of.result c.self.view_is c.in-Root.is c.self.invariant c.requires.can (grown_roots f c.self.inside.roots c.grow_buffer_of.new.items c.grow_buffer_of.result refl refl c.grow_buffer_of.ensures)

pub invariant_of-self-in-Unplaced : goal.invariant_of-self-in-Unplaced
invariant_of-self-in-Unplaced g c =
    let f = forest_data c.self.inside in
    let done = c.grow_buffer_of-in-Unplaced in
    sound_grown Unplaced f _ done.result c.self.invariant (grown_unplaced f c.self.inside.unplaced done.new.items done.result refl refl done.ensures)

pub returns-in-Unplaced : goal.returns-in-Unplaced
returns-in-Unplaced g c =
    let f = forest_data c.self.inside in
    let done = c.grow_buffer_of-in-Unplaced in
    grows_at c.args.place Unplaced f c.args.self.now _ done.result c.self.view_is c.in-Unplaced.is c.self.invariant c.requires.can (grown_unplaced f c.self.inside.unplaced done.new.items done.result refl refl done.ensures)
