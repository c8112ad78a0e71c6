use Rattle.std.proofs.Common.{[], ap, sym, ◌∙◌}
use Rattle.std.specs.Prelude.{unwrap_or}
use Rattle.std.specs.Option.{option_map}
use Rattle.crush_print.specs.RuleLines.{bucket_name}
use Rattle.crush_print.proofs.printer.rules.name_of.Goals as goal

pub returns-in-Some : goal.returns-in-Some
unfolding bucket_name
returns-in-Some g c = λ t stands.
    c.as_bytes.ensures.value ∙ sym (ap (λ o. unwrap_or (option_map (λ n. n.now) o) []) c.in-Some.is) ∙ ap (λ o. unwrap_or o []) (c.name_of.ensures t stands)

pub returns-in-None : goal.returns-in-None
unfolding bucket_name
returns-in-None g c = λ t stands.
    c.as_slice.ensures ∙ sym (ap (λ o. unwrap_or (option_map (λ n. n.now) o) []) c.in-None.is) ∙ ap (λ o. unwrap_or o []) (c.name_of.ensures t stands)
