use Rattle.crush_json.proofs.Chains.{as_told, then}
use Rattle.crush_json.specs.PairDocument.{pair_changes}
use Rattle.crush_json.specs.Tokens.{member_tokens, tokens_of}
use Rattle.crush_json.specs.Values.{list}
use Rattle.json.specs.Token.{Token, key}
use Rattle.std.proofs.Common.{List, [], ◌∷◌, ◌++◌, refl}
use Rattle.std.specs.Prelude.{codes}
use Rattle.crush_json.proofs.since.push_items.Goals as goal

pub returns : goal.returns
returns g c =
    let r = c.push_changes.result in
    let name : List Token = key (codes "items") ∷ [] in
    let items : List Token = tokens_of (list (pair_changes c.args.both.now)) in
    as_told r c.args.out.now c.push_changes.new.out (name ++ items) (member_tokens (codes "items") (list (pair_changes c.args.both.now)))
    (then r c.args.out.now c.key.new.self c.push_changes.new.out name items c.in_ok-key.ensures c.push_changes.ensures)
    refl
