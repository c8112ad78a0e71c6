use Rattle.crush_json.proofs.DocumentLaws.{document_done}
use Rattle.crush_json.specs.Seen.{history_data}
use Rattle.crush_json.specs.SinceDocument.{document_of_since, since_document}
use Rattle.crush_since.specs.Since.{plain_map}
use Rattle.std.specs.Option.{option_map}
use Rattle.std.specs.Prelude.{codes}
use Rattle.crush_json.proofs.write.since.push_document.Goals as goal

pub returns : goal.returns
unfolding document_of_since
returns g c = λ t u was is.
    document_done (codes "since") (option_map history_data c.args.history) (since_document c.args.under (plain_map c.args.old.now.setting t) (plain_map c.args.new.now.setting u)) c.end_object.result c.args.out.now c.open.new.out c.push_since.new.out c.end_object.new.self
    c.in_ok-open.ensures (c.in_ok-push_since.ensures t u was is) c.end_object.ensures
