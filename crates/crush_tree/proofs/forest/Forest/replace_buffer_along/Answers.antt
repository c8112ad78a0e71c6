use Rattle.std.proofs.Common.{◌≡◌, length, ap, sym, ◌∙◌, arith, vec_capacity}
use Rattle.crush_nodes.specs.Room.{count}
use Rattle.crush_nodes.specs.Seen.{items_of}
use Rattle.crush_nodes.specs.declared.place.Place.TheVariants.{Bucket as AtBucket, Root, Unplaced}
use Rattle.crush_nodes.proofs.Steps.{count-items_of, with_items_same}
use Rattle.crush_walks.specs.BufferReplaced.{with_capacity}
use Rattle.crush_walks.specs.Swapping.{bucket_in}
use Rattle.crush_tree.specs.SeenForest.{forest_data}
use Rattle.crush_tree.proofs.ReplaceBufferLemmas.{capacity_there, enough_at, led_to, rehouses_at, sound_rehoused}
use Rattle.crush_tree.proofs.forest.Forest.replace_buffer_along.Goals as goal

pub replace_buffer_in-requires : goal.replace_buffer_in-requires
replace_buffer_in-requires g c =
    let f = forest_data c.self.inside in
    let b = c.in-Bucket.bucket in
    let same = ap items_of c.as_mut_slice.ensures.value in
    let led = led_to (g.W.Descent.knows c.args.descent.now) c.args.place b f c.args.self.now _ c.self.view_is c.in-Bucket.is c.self.invariant same c.requires.can.there c.requires.known in
    record {
      descent = led.descent;
      stored = led.stored;
      empty = c.requires.can.empty;
      enough = omega (arith, ap (λ n. count (bucket_in b n).kids) same, enough_at c.args.place (AtBucket b) f c.args.self.now (vec_capacity c.args.given) c.self.view_is c.in-Bucket.is c.requires.can.enough);
    }

pub invariant_of-self : goal.invariant_of-self
invariant_of-self g c =
    let f = forest_data c.self.inside in
    let b = c.in-Bucket.bucket in
    let m = vec_capacity c.args.given in
    let as_many : length c.replace_buffer_in.new.items ≡ length c.self.inside.roots.items = c.replace_buffer_in.auto.items ∙ ap length c.as_mut_slice.ensures.value in
    let roots : _ ≡ with_capacity b m f.roots = ap items_of (with_items_same c.self.inside.roots c.replace_buffer_in.new.items as_many) ∙ c.replace_buffer_in.ensures.after ∙ ap (λ n. with_capacity b m (items_of n)) c.as_mut_slice.ensures.value in
    sound_rehoused (AtBucket b) m f _ c.self.invariant (ap (λ n. record f { roots = n }) roots)

pub returns-in-Bucket : goal.returns-in-Bucket
returns-in-Bucket g c =
    let f = forest_data c.self.inside in
    let b = c.in-Bucket.bucket in
    let m = vec_capacity c.args.given in
    let same = ap items_of c.as_mut_slice.ensures.value in
    let led = led_to (g.W.Descent.knows c.args.descent.now) c.args.place b f c.args.self.now _ c.self.view_is c.in-Bucket.is c.self.invariant same c.requires.can.there c.requires.known in
    let as_many : length c.replace_buffer_in.new.items ≡ length c.self.inside.roots.items = c.replace_buffer_in.auto.items ∙ ap length c.as_mut_slice.ensures.value in
    let roots : _ ≡ with_capacity b m f.roots = ap items_of (with_items_same c.self.inside.roots c.replace_buffer_in.new.items as_many) ∙ c.replace_buffer_in.ensures.after ∙ ap (with_capacity b m) same in
    rehouses_at c.args.place (AtBucket b) m f c.args.self.now _ c.replace_buffer_in.result c.self.view_is c.in-Bucket.is c.self.invariant c.requires.can.there (ap (λ n. record f { roots = n }) roots) c.replace_buffer_in.ensures.empty
    (c.replace_buffer_in.ensures.capacity ∙ ap (λ n. (bucket_in b n).capacity) same ∙ sym (capacity_there f c.self.invariant b led.there))
    (omega (arith, c.replace_buffer_in.ensures.enough, ap (λ n. count (bucket_in b n).kids) same))

pub replace_buffer_of-requires-clause-enough : goal.replace_buffer_of-requires-clause-enough
replace_buffer_of-requires-clause-enough g c =
    let roots = c.self.inside.roots in
    omega (arith, count-items_of roots.items, roots.ok.0, enough_at c.args.place Root (forest_data c.self.inside) c.args.self.now (vec_capacity c.args.given) c.self.view_is c.in-Root.is c.requires.can.enough)

pub invariant_of-self-in-Root : goal.invariant_of-self-in-Root
invariant_of-self-in-Root g c =
    let f = forest_data c.self.inside in
    sound_rehoused Root (vec_capacity c.args.given) f _ c.self.invariant (λ j. record f { roots = items_of (c.replace_buffer_of.ensures.items j); root_capacity = c.replace_buffer_of.ensures.given j })

pub returns-in-Root : goal.returns-in-Root
returns-in-Root g c =
    let f = forest_data c.self.inside in
    let roots = c.self.inside.roots in
    let done = c.replace_buffer_of.ensures in
    rehouses_at c.args.place Root (vec_capacity c.args.given) f c.args.self.now _ c.replace_buffer_of.result c.self.view_is c.in-Root.is c.self.invariant c.requires.can.there
    (λ j. record f { roots = items_of (done.items j); root_capacity = done.given j }) done.empty done.capacity (omega (arith, done.capacity, count-items_of roots.items, roots.ok.0, roots.ok.1))

pub replace_buffer_of-requires-in-Unplaced-clause-enough : goal.replace_buffer_of-requires-in-Unplaced-clause-enough
replace_buffer_of-requires-in-Unplaced-clause-enough g c =
    let unplaced = c.self.inside.unplaced in
    omega (arith, count-items_of unplaced.items, unplaced.ok.0, enough_at c.args.place Unplaced (forest_data c.self.inside) c.args.self.now (vec_capacity c.args.given) c.self.view_is c.in-Unplaced.is c.requires.can.enough)

pub invariant_of-self-in-Unplaced : goal.invariant_of-self-in-Unplaced
invariant_of-self-in-Unplaced g c =
    let f = forest_data c.self.inside in
    let done = c.replace_buffer_of-in-Unplaced.ensures in
    sound_rehoused Unplaced (vec_capacity c.args.given) f _ c.self.invariant (λ j. record f { unplaced = items_of (done.items j); unplaced_capacity = done.given j })

pub returns-in-Unplaced : goal.returns-in-Unplaced
returns-in-Unplaced g c =
    let f = forest_data c.self.inside in
    let unplaced = c.self.inside.unplaced in
    let done = c.replace_buffer_of-in-Unplaced.ensures in
    rehouses_at c.args.place Unplaced (vec_capacity c.args.given) f c.args.self.now _ c.replace_buffer_of-in-Unplaced.result c.self.view_is c.in-Unplaced.is c.self.invariant c.requires.can.there
    (λ j. record f { unplaced = items_of (done.items j); unplaced_capacity = done.given j }) done.empty done.capacity (omega (arith, done.capacity, count-items_of unplaced.items, unplaced.ok.0, unplaced.ok.1))
