use Rattle.std.proofs.Common.{ap, ◌∙◌}
use Rattle.std.specs.Prelude.{bytes_eq}
use Rattle.std.specs.List.{list_any}
use Rattle.crush_nodes.proofs.ApartSteps.{any_class}
use Rattle.crush_nodes.proofs.form.has_class_of.Goals as goal

pub returns : goal.returns
returns g c =
    let cs = c.args.class_ids.now in
    c.has_class.ensures ∙ ap (λ n. list_any (λ z. bytes_eq z.class n) cs) c.as_bytes.ensures.value ∙ any_class (λ b. bytes_eq b c.args.class_id.now.class) cs
