use Rattle.std.proofs.Common.{◌≡◌, true, false, ap, ◌∙◌}
use Rattle.std.specs.Prelude.{◌||◌, is_some}
use Rattle.std.specs.List.{list_any}
use Rattle.crush_nodes.specs.Search.{id_in}
use Rattle.crush_nodes.specs.Apart.{uses_in}
use Rattle.crush_nodes.specs.Seen.{shadow_numbers, items_of}
use Rattle.crush_nodes.proofs.ApartSteps.{any_number}
use Rattle.crush_nodes.proofs.apart.header_shares_a_key.Goals as goal

pub returns-then-uses_any : goal.returns-then-uses_any
returns-then-uses_any g c =
    let o = items_of c.args.others.now in
    let cs = c.args.header.now.class_ids.items in
    let i = c.args.header.now.id in
    let own : false ≡ uses_in i o = c.if-uses_in.ensures in
    let told : true ≡ list_any (λ k. uses_in k o) (shadow_numbers cs) = c.if-uses_any.ensures ∙ ap (list_any (λ z. uses_in z.id o)) c.as_slice.ensures.value ∙ any_number (λ k. uses_in k o) cs in
    λ j. (own j || told j) || is_some (id_in c.args.header.now.name o)

pub returns : goal.returns
returns g c =
    let o = items_of c.args.others.now in
    let cs = c.args.header.now.class_ids.items in
    let i = c.args.header.now.id in
    let own : false ≡ uses_in i o = c.if-uses_in.ensures in
    let told : false ≡ list_any (λ k. uses_in k o) (shadow_numbers cs) = c.if-uses_any.ensures ∙ ap (list_any (λ z. uses_in z.id o)) c.as_slice.ensures.value ∙ any_number (λ k. uses_in k o) cs in
    let named : c.is_some.result ≡ is_some (id_in c.args.header.now.name o) = c.is_some.ensures ∙ ap is_some c.id_in.ensures ∙ ap (λ n. is_some (id_in n o)) c.as_bytes.ensures.value in
    λ j. (own j || told j) || named j
