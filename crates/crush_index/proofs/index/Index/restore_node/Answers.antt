use Rattle.std.proofs.Common.{◌≡◌, ◌∷◌, [], ◌++◌, ap, sym, ◌∙◌, subst}
use Rattle.crush_model.specs.ItemRows.{rows}
use Rattle.crush_nodes.specs.Room.{parent_at}
use Rattle.crush_nodes.specs.Seen.{items_of}
use Rattle.crush_index.specs.IndexAnswers.{answers, own_row, with_row, with_rows}
use Rattle.crush_index.proofs.TableAnswers.{is_answer, is_index, with_answer}
use Rattle.crush_index.proofs.index.Index.restore_node.Goals as goal

pub returns-clause-takes : goal.returns-clause-takes
returns-clause-takes g c t known l =
    let p = parent_at c.args.place in
    let old = c.args.self.now in
    let u = rows p (items_of (c.args.node.now ∷ [])) in
    let here : answers c.restore_own.new.self ≡ with_row (own_row p c.args.node.now) (answers old) =
    subst (λ q. answers c.restore_own.new.self ≡ with_row (own_row q c.args.node.now) (answers old)) c.holder.ensures c.restore_own.ensures.answers in
    is_index (t ++ u) c.restore_own.new.self (here ∙ sym (ap (λ v. with_rows v (answers old)) (c.requires.alone p)) ∙ ap (with_rows u) (is_answer t old known) ∙ with_answer t u l.ids l.names)
