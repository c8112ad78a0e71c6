use Rattle.std.proofs.Common.{◌≡◌, arith, map, ap, ◌∙◌}
use Rattle.crush_model.specs.Items.{ShadowData}
use Rattle.crush_nodes.specs.Seen.{shadow_data}
use Rattle.crush_nodes.proofs.CopyLaws.{map-copied}
use Rattle.std.proofs.lemmas.List.{take_all}
use Rattle.crush_nodes.proofs.copy.copy_shadow_ids.Goals as goal

pub loop-class_id-preserved : goal.loop-class_id-preserved
loop-class_id-preserved g c =
    let id = c.class_id-item.result.id in
    let one : _ ≡ shadow_data c.class_id-item.result = λ j. let told : ShadowData = record { id = id; class = c.in_ok-class.ensures j } in told in
    record {
      room = omega (arith, c.push_reserved.ensures.capacity, c.loop-class_id.invariant.room);
      count = omega (arith, c.push_reserved.ensures.len, c.loop-class_id.invariant.count);
      same = map-copied shadow_data c.push_reserved.new.self.items c.loop-class_id.copies.items c.args.class_ids.now c.loop-class_id.class_id-index _ c.class_id-item.result
          c.loop-class_id-test.true c.class_id-item.is c.push_reserved.ensures.items c.loop-class_id.invariant.same one;
    }

pub returns : goal.returns
returns g c = c.loop-class_id.invariant.same ∙ ap (λ zs. map shadow_data zs) (take_all c.loop-class_id.class_id-index c.args.class_ids.now c.loop-class_id-test.false)
