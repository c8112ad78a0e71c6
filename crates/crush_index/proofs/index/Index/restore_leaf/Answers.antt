use Rattle.std.proofs.Common.{refl}
use Rattle.crush_model.specs.ItemRows.{device_row}
use Rattle.crush_nodes.specs.Seen.{leaf_data}
use Rattle.crush_index.specs.IndexAnswers.{answers}
use Rattle.crush_index.specs.UsedAnswers.{used_answer}
use Rattle.crush_index.specs.declared.index.Index.{Index}
use Rattle.crush_index.proofs.AnswersLaws.{came_named, not_used}
use Rattle.crush_index.proofs.index.Index.restore_leaf.Goals as goal

pub returns-clause-answers : goal.returns-clause-answers
returns-clause-answers g c =
    let r = device_row c.args.parent (leaf_data c.args.leaf.now) in
    let mid : Index = c.restore_name.new.self in
    let new : Index = record { global = mid.global; names = mid.names; places = c.restore_device.new.self; used = mid.used } in
    came_named r c.args.memory.name.name c.place_under-place.result (answers c.args.self.now) (answers mid) (answers new) c.requires.name c.place_under-place.ensures c.restore_name.ensures.answers
    (λ n. refl) c.restore_device.ensures.answers (λ k. not_used (used_answer mid.used k))
