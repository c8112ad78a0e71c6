use Rattle.crush_json.proofs.Chains.{as_told, then}
use Rattle.crush_json.specs.SinceDocument.{counts_document}
use Rattle.crush_json.specs.Tokens.{member_tokens}
use Rattle.crush_json.specs.Values.{natural}
use Rattle.json.specs.Token.{Token, begin_object, end_object, key}
use Rattle.std.proofs.Common.{List, [], refl, ◌++◌, ◌∷◌}
use Rattle.std.specs.Prelude.{codes}
use Rattle.crush_json.proofs.since.push_counts.Goals as goal

pub returns : goal.returns
unfolding counts_document
returns c =
    let r = c.end_object.result in
    let name : List Token = key (codes "counts") ∷ [] in
    let opens : List Token = begin_object ∷ [] in
    let class : List Token = member_tokens (codes "class") (natural c.args.counts.now.reclassed) in
    let made : List Token = member_tokens (codes "made") (natural c.args.counts.now.made) in
    let moved : List Token = member_tokens (codes "moved") (natural c.args.counts.now.moved) in
    let removed : List Token = member_tokens (codes "removed") (natural c.args.counts.now.removed) in
    let renamed : List Token = member_tokens (codes "renamed") (natural c.args.counts.now.renamed) in
    let weight : List Token = member_tokens (codes "weight") (natural c.args.counts.now.reweighed) in
    let closes : List Token = end_object ∷ [] in
    as_told r c.args.out.now c.end_object.new.self (name ++ (opens ++ (class ++ (made ++ (moved ++ (removed ++ (renamed ++ (weight ++ closes)))))))) (member_tokens (codes "counts") (counts_document c.args.counts.now))
    (then r c.args.out.now c.key.new.self c.end_object.new.self name (opens ++ (class ++ (made ++ (moved ++ (removed ++ (renamed ++ (weight ++ closes))))))) c.in_ok-key.ensures (then r c.key.new.self c.begin_object.new.self c.end_object.new.self opens (class ++ (made ++ (moved ++ (removed ++ (renamed ++ (weight ++ closes)))))) c.in_ok-begin_object.ensures (then r c.begin_object.new.self c.natural.new.self c.end_object.new.self class (made ++ (moved ++ (removed ++ (renamed ++ (weight ++ closes))))) c.in_ok-natural.ensures (then r c.natural.new.self c.natural-2.new.self c.end_object.new.self made (moved ++ (removed ++ (renamed ++ (weight ++ closes)))) c.in_ok-natural-2.ensures (then r c.natural-2.new.self c.natural-3.new.self c.end_object.new.self moved (removed ++ (renamed ++ (weight ++ closes))) c.in_ok-natural-3.ensures (then r c.natural-3.new.self c.natural-4.new.self c.end_object.new.self removed (renamed ++ (weight ++ closes)) c.in_ok-natural-4.ensures (then r c.natural-4.new.self c.natural-5.new.self c.end_object.new.self renamed (weight ++ closes) c.in_ok-natural-5.ensures (then r c.natural-5.new.self c.natural-6.new.self c.end_object.new.self weight closes c.in_ok-natural-6.ensures c.end_object.ensures))))))))
    refl
