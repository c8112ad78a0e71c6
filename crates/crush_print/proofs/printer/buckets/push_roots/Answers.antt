use Rattle.std.proofs.Common.{ap, ◌∙◌}
use Rattle.std.specs.Prelude.{codes, flat_map}
use Rattle.crush_print.specs.ItemsText.{own_text}
use Rattle.crush_print.specs.MapText.{root_texts, bucket_section}
use Rattle.crush_print.proofs.InOrder.{section_pushed}
use Rattle.crush_print.proofs.printer.buckets.push_roots.Goals as goal

pub returns : goal.returns
unfolding bucket_section
returns g c = λ t stands.
    let s = c.args.setting.now in
    let form = c.args.form in
    section_pushed c.push_buckets.result c.args.out.now.items c.extend_from_slice.new.self.items c.push_buckets.new.out.items (codes "\n# buckets\n")
    (flat_map (λ b. own_text form s b.now) c.as_slice.result.now) (root_texts form s t)
    c.in_ok-extend_from_slice.ensures.items c.push_buckets.ensures
    (ap (flat_map (λ b. own_text form s b.now)) c.as_slice.ensures.value ∙ c.in_ok-buckets.ensures.texts form s t stands)
