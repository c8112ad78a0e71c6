use Rattle.crush_compare.specs.AllIds.{all_ids}
use Rattle.crush_json.proofs.Chains.{as_told, then}
use Rattle.crush_json.proofs.SinceLaws.{changes_of_ids, whole_changes, whole_told}
use Rattle.crush_json.specs.RuleChanges.{class_change_documents}
use Rattle.crush_json.specs.SinceDocument.{change_documents, counts_document, since_document}
use Rattle.crush_json.specs.SinceTokens.{last_since_tokens}
use Rattle.crush_json.specs.Tokens.{member_tokens, tokens_of}
use Rattle.crush_json.specs.Values.{list}
use Rattle.crush_since.specs.Since.{PlainMap, plain_map}
use Rattle.crush_since.specs.Tallies.{tally_of}
use Rattle.json.specs.Token.{Token, begin_object, end_object}
use Rattle.serde_json.specs.Data.{Data}
use Rattle.std.proofs.Common.{List, [], ◌∷◌, ◌++◌, ◌∙◌, ap}
use Rattle.std.specs.Prelude.{None}
use Rattle.std.specs.Prelude.{codes}
use Rattle.crush_json.proofs.since.push_whole.Goals as goal

pub returns : goal.returns
returns g c = λ t u was is.
    let r = c.end_object.result in
    let old : PlainMap = plain_map c.args.old.now.setting t in
    let new : PlainMap = plain_map c.args.new.now.setting u in
    let both = c.in_ok-both.both in
    let pairs = (c.in_ok-both.ensures.pairs t u was is).pairs in
    let are = changes_of_ids both old new (all_ids t u) c.in_ok-both.ensures.identity (ap (λ m. m.setting) c.in_ok-both.ensures.old) (ap (λ m. m.setting) c.in_ok-both.ensures.new) pairs ∙ whole_changes old new in
    let opens : List Token = begin_object ∷ [] in
    let classes : List Token = member_tokens (codes "classes") (list (class_change_documents old new)) in
    let counts : List Token = member_tokens (codes "counts") (counts_document (tally_of t u (all_ids t u))) in
    let items : List Token = member_tokens (codes "items") (list (change_documents None old new)) in
    let last : List Token = last_since_tokens old new in
    let closes : List Token = end_object ∷ [] in
    as_told r c.args.out.now c.end_object.new.self (opens ++ (classes ++ (counts ++ (items ++ (last ++ closes))))) (tokens_of (since_document None old new))
    (then r c.args.out.now c.begin_object.new.self c.end_object.new.self opens (classes ++ (counts ++ (items ++ (last ++ closes)))) c.in_ok-begin_object.ensures (then r c.begin_object.new.self c.push_classes.new.out c.end_object.new.self classes (counts ++ (items ++ (last ++ closes))) (c.in_ok-push_classes.ensures t u was is) (then r c.push_classes.new.out c.push_counts.new.out c.end_object.new.self counts (items ++ (last ++ closes)) (c.in_ok-push_counts.ensures ∙ ap (λ n. c.push_classes.new.out ++ member_tokens (codes "counts") (counts_document n)) (c.of-counts.ensures t u (all_ids t u) pairs)) (then r c.push_counts.new.out c.push_items.new.out c.end_object.new.self items (last ++ closes) (c.in_ok-push_items.ensures ∙ ap (λ (ds : List Data). c.push_counts.new.out ++ member_tokens (codes "items") (list ds)) are) (then r c.push_items.new.out c.push_last.new.out c.end_object.new.self last closes (c.in_ok-push_last.ensures t u was is) c.end_object.ensures)))))
    (whole_told old new)
