use Rattle.crush_json.proofs.Chains.{then, as_told}
use Rattle.crush_json.proofs.Numbers.{numbers_told}
use Rattle.crush_json.specs.MapDocument.{tunables_document, with_tunables}
use Rattle.crush_json.specs.Tokens.{member_tokens, tokens_of}
use Rattle.crush_json.specs.Values.{natural}
use Rattle.json.specs.Token.{Token, begin_object, end_object}
use Rattle.serde_json.specs.Data.{object, no_members}
use Rattle.std.proofs.Common.{List, [], ◌∷◌, ◌++◌, ap, sym, ◌∙◌, string_bytes}
use Rattle.std.specs.Prelude.{flat_map}
use Rattle.crush_json.proofs.tunables.push_tunables.Goals as goal

pub returns : goal.returns
unfolding tunables_document
returns c =
    let r = c.end_object.result in
    let opens : List Token = begin_object ∷ [] in
    let each : List Token = flat_map (λ e. member_tokens (string_bytes e.0) (natural e.1)) c.in_ok-tunables.tunables.entries in
    let closes : List Token = end_object ∷ [] in
    as_told r c.args.out.now c.end_object.new.self (opens ++ (each ++ closes)) (tokens_of (tunables_document c.args.setting.now))
    (then r c.args.out.now c.begin_object.new.self c.end_object.new.self opens (each ++ closes) c.in_ok-begin_object.ensures (then r c.begin_object.new.self c.push_each.new.out c.end_object.new.self each closes c.in_ok-push_each.ensures c.end_object.ensures))
    (ap (λ (l : List Token). begin_object ∷ l) (sym (numbers_told c.in_ok-tunables.tunables.entries))
    ∙ ap (λ ms. tokens_of (object ms)) (c.in_ok-tunables.ensures ∙ ap (with_tunables no_members) c.tunables.ensures))
