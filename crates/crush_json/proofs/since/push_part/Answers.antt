use Rattle.crush_compare.specs.PartIds.{part_ids}
use Rattle.crush_json.proofs.Chains.{as_told, then}
use Rattle.crush_json.proofs.SinceLaws.{changes_of_ids, part_told}
use Rattle.crush_json.specs.ChangeDocument.{changes_at}
use Rattle.crush_json.specs.SinceDocument.{since_document}
use Rattle.crush_json.specs.Tokens.{member_tokens, tokens_of}
use Rattle.crush_json.specs.Values.{list}
use Rattle.crush_since.specs.Since.{PlainMap, plain_map}
use Rattle.json.specs.Token.{Token, begin_object, end_object}
use Rattle.serde_json.specs.Data.{Data}
use Rattle.std.proofs.Common.{List, [], ◌∷◌, ◌++◌, ◌∙◌, ap}
use Rattle.std.specs.Prelude.{Some}
use Rattle.std.specs.Prelude.{codes}
use Rattle.crush_json.proofs.since.push_part.Goals as goal

pub returns : goal.returns
returns g c = λ t u was is.
    let r = c.end_object.result in
    let old : PlainMap = plain_map c.args.old.now.setting t in
    let new : PlainMap = plain_map c.args.new.now.setting u in
    let both = c.in_ok-both.both in
    let are = changes_of_ids both old new (part_ids t u c.args.under) c.in_ok-both.ensures.identity (ap (λ m. m.setting) c.in_ok-both.ensures.old) (ap (λ m. m.setting) c.in_ok-both.ensures.new) (c.in_ok-both.ensures.pairs t u was is).pairs in
    let opens : List Token = begin_object ∷ [] in
    let items : List Token = member_tokens (codes "items") (list (changes_at old new (part_ids t u c.args.under))) in
    let closes : List Token = end_object ∷ [] in
    as_told r c.args.out.now c.end_object.new.self (opens ++ (items ++ closes)) (tokens_of (since_document (Some c.args.under) old new))
    (then r c.args.out.now c.begin_object.new.self c.end_object.new.self opens (items ++ closes) c.in_ok-begin_object.ensures (then r c.begin_object.new.self c.push_items.new.out c.end_object.new.self items closes (c.in_ok-push_items.ensures ∙ ap (λ (ds : List Data). c.begin_object.new.self ++ member_tokens (codes "items") (list ds)) are) c.end_object.ensures))
    (part_told c.args.under old new)
