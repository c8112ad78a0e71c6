use Rattle.std.proofs.Common.{refl}
use Rattle.crush_model.specs.ItemRows.{bucket_row}
use Rattle.crush_nodes.specs.Seen.{header_data}
use Rattle.crush_index.specs.IndexAnswers.{answers}
use Rattle.crush_index.specs.declared.index.Index.{Index}
use Rattle.crush_index.proofs.AnswersLaws.{came_named}
use Rattle.crush_index.proofs.index.Index.restore_header.Goals as goal

pub returns-clause-answers : goal.returns-clause-answers
returns-clause-answers g c =
    let r = bucket_row c.args.parent (header_data c.args.header.now) in
    let mid : Index = c.restore_name.new.self in
    let new : Index = record { global = mid.global; names = mid.names; places = c.restore_bucket.new.self; used = c.restore_ids.new.used } in
    came_named r c.args.memory.name.name c.place_under-place.result (answers c.args.self.now) (answers mid) (answers new) c.requires.name c.place_under-place.ensures c.restore_name.ensures.answers
    (λ n. refl) c.restore_bucket.ensures.answers c.restore_ids.ensures.ids
