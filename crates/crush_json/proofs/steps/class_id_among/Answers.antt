use Rattle.std.proofs.Common.{ap, sym, ◌∙◌}
use Rattle.std.specs.Prelude.{bytes_eq}
use Rattle.std.specs.Option.{option_map}
use Rattle.crush_model.specs.Items.{ShadowData}
use Rattle.crush_nodes.specs.Seen.{shadow_data}
use Rattle.crush_since.proofs.Finds.{found_here, not_here}
use Rattle.crush_json.proofs.steps.class_id_among.Goals as goal

pub returns-then-is : goal.returns-then-is
returns-then-is g c =
    let same = ap (bytes_eq c.id-item.result.class) (sym c.as_bytes.ensures.value) ∙ sym c.is.ensures.value ∙ c.if-is.true in
    ap (option_map (λ (x : ShadowData). x.id)) (found_here shadow_data (λ (x : ShadowData). bytes_eq x.class c.args.class.now) c.args.ids.now c.loop-id.id-index c.id-item.result c.loop-id-test.true c.id-item.is c.loop-id.invariant same)

pub loop-id-preserved : goal.loop-id-preserved
loop-id-preserved g c =
    let other = ap (bytes_eq c.id-item.result.class) (sym c.as_bytes.ensures.value) ∙ sym c.is.ensures.value ∙ c.if-is.false in
    not_here shadow_data (λ (x : ShadowData). bytes_eq x.class c.args.class.now) c.args.ids.now c.loop-id.id-index c.id-item.result c.loop-id-test.true c.id-item.is c.loop-id.invariant other
