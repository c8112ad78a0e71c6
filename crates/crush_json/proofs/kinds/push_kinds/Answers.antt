use Rattle.std.proofs.Common.{ℕ, ◌++◌, List, ap, map, ◌∙◌}
use Rattle.json.specs.Token.{Token}
use Rattle.crush_print.specs.MapText.{kind_text}
use Rattle.crush_json.specs.MapDocument.{kind_document, kind_documents}
use Rattle.crush_json.specs.Tokens.{tokens_of_all}
use Rattle.crush_json.proofs.Listed.{array_done, mapped}
use Rattle.crush_json.proofs.kinds.push_kinds.Goals as goal

pub returns : goal.returns
unfolding kind_documents
returns c =
    let told = λ (n : ℕ). kind_document n (kind_text c.args.setting.now n) in
    array_done (kind_documents c.args.setting.now) c.end_array.result c.args.out.now c.begin_array.new.self c.push_each.new.out c.end_array.new.self c.in_ok-begin_array.ensures
    (c.in_ok-push_each.ensures ∙ ap (λ (l : List Token). c.begin_array.new.self ++ l) (mapped told c.as_slice.result.now ∙ ap (λ ns. tokens_of_all (map told ns)) (c.as_slice.ensures.value ∙ c.in_ok-numbers.ensures)))
    c.end_array.ensures
