use Rattle.crush_json.proofs.DocumentLaws.{document_done}
use Rattle.crush_json.specs.Document.{document}
use Rattle.crush_json.specs.MapDocument.{map_document}
use Rattle.crush_json.specs.Seen.{history_data}
use Rattle.std.specs.Option.{option_map}
use Rattle.std.specs.Prelude.{codes}
use Rattle.crush_json.proofs.write.push_document.Goals as goal

pub returns : goal.returns
unfolding document
returns g c = λ t stands.
    document_done (codes "map") (option_map history_data c.args.history) (map_document c.args.map.now.setting t) c.end_object.result c.args.out.now c.open.new.out c.push_map.new.out c.end_object.new.self
    c.in_ok-open.ensures (c.in_ok-push_map.ensures t stands) c.end_object.ensures
