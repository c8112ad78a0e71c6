use Rattle.crush_json.proofs.DocumentLaws.{document_done}
use Rattle.crush_json.specs.Document.{document_of_tree}
use Rattle.crush_json.specs.Seen.{history_data}
use Rattle.crush_json.specs.TreeDocument.{tree_document}
use Rattle.crush_print.specs.WalkStep.{walk_step_data}
use Rattle.std.proofs.Common.{◌≡◌, ◌++◌, map, subst, sym}
use Rattle.crush_model.specs.Stands.{Stands}
use Rattle.crush_json.specs.ItemDocuments.{AreBuckets}
use Rattle.crush_json.specs.Tokens.{tokens_of}
use Rattle.std.specs.Option.{option_map}
use Rattle.std.specs.Prelude.{codes}
use Rattle.crush_json.proofs.write.tree.push_document.Goals as goal

pub returns : goal.returns
unfolding document_of_tree
returns g c = λ t stands.
    document_done (codes "tree") (option_map history_data c.args.history) (tree_document c.args.map.now.setting t (map walk_step_data c.args.steps.now)) c.end_object.result c.args.out.now c.open.new.out c.push_tree.new.out c.end_object.new.self
    c.in_ok-open.ensures (subst (λ q. c.push_tree.new.out ≡ c.open.new.out ++ tokens_of (tree_document q t (map walk_step_data c.args.steps.now))) c.setting.ensures (c.in_ok-push_tree.ensures t (subst (AreBuckets (λ b. b.now) t) (sym c.as_slice.ensures.value) (c.in_ok-buckets.ensures.items t (subst (λ f. Stands f t) (sym c.forest.ensures) stands))))) c.end_object.ensures
