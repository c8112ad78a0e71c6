use Rattle.std.proofs.Common.{◌≡◌, [], ◌∷◌, ◌++◌, subst, sym, ap, ◌∙◌, arith}
use Rattle.std.specs.Prelude.{None, map}
use Rattle.crush_nodes.specs.Seen.{shadow_data}
use Rattle.crush_builder.specs.Faults.{class_id_fault}
use Rattle.crush_builder.specs.Pending.{pending_data, listed}
use Rattle.crush_builder.specs.Built.{Draft, numbered, with_class_id}
use Rattle.crush_builder.specs.Building.{BuilderData, IsDraft, own_draft}
use Rattle.crush_builder.proofs.Drafts.{own_is_draft, draft_fits}
use Rattle.crush_builder.proofs.RowSteps.{class_id_step}
use Rattle.crush_builder.proofs.builder.MapBuilder.class_id.Goals as goal

pub invariant_of-self-2 : goal.invariant_of-self-2
invariant_of-self-2 g c =
    let b : BuilderData = record { setting = c.self.inside.setting; forest = c.self.inside.hierarchy; pending = pending_data c.self.inside.pending; adjusted = c.self.inside.adjusted } in
    let d : Draft = own_draft b in
    let own : IsDraft b d = own_is_draft b c.recall_invariant.ensures c.self.invariant in
    let at : IsDraft c.args.self.now d = subst (λ (x : BuilderData). IsDraft x d) c.self.view_is own in
    let p : b.pending ≡ numbered c.in-Numbered.kind c.in-Numbered.name c.in-Numbered.bucket (listed c.in-Numbered.class_ids) = ap pending_data (sym c.replace.ensures.value ∙ c.in-Numbered.is) in
    let ids = c.in_ok-class_ids.ensures ∙ (λ i. listed c.in-Numbered.class_ids ++ record { id = c.args.id; class = c.in_ok-class.ensures i } ∷ []) in
    draft_fits (record b { pending = numbered c.in-Numbered.kind c.in-Numbered.name c.in-Numbered.bucket (map shadow_data c.in_ok-class_ids.class_ids.items) }) (with_class_id d c.args.id c.args.class.now)
    (subst (λ cs. IsDraft (record b { pending = numbered c.in-Numbered.kind c.in-Numbered.name c.in-Numbered.bucket cs }) (with_class_id d c.args.id c.args.class.now)) (sym ids)
    (class_id_step b d c.in-Numbered.kind c.in-Numbered.name c.in-Numbered.bucket c.args.id c.args.class.now (listed c.in-Numbered.class_ids) own p (omega arith) (omega arith) c.requires.class (sym (c.in_default.ensures d at))))

pub returns-clause-clear : goal.returns-clause-clear
returns-clause-clear g c = λ d i. sym (c.in_default.ensures d i)

pub returns-clause-ok : goal.returns-clause-ok
returns-clause-ok g c = λ d i.
    let b : BuilderData = record { setting = c.self.inside.setting; forest = c.self.inside.hierarchy; pending = pending_data c.self.inside.pending; adjusted = c.self.inside.adjusted } in
    let at : IsDraft b d = subst (λ (x : BuilderData). IsDraft x d) (sym c.self.view_is) i in
    let p : b.pending ≡ numbered c.in-Numbered.kind c.in-Numbered.name c.in-Numbered.bucket (listed c.in-Numbered.class_ids) = ap pending_data (sym c.replace.ensures.value ∙ c.in-Numbered.is) in
    let ids = c.in_ok-class_ids.ensures ∙ (λ j. listed c.in-Numbered.class_ids ++ record { id = c.args.id; class = c.in_ok-class.ensures j } ∷ []) in
    let clear : class_id_fault d c.args.id c.args.class.now ≡ None = sym (c.in_default.ensures d i) in
    subst (λ cs. IsDraft (record b { pending = numbered c.in-Numbered.kind c.in-Numbered.name c.in-Numbered.bucket cs }) (with_class_id d c.args.id c.args.class.now)) (sym ids)
    (class_id_step b d c.in-Numbered.kind c.in-Numbered.name c.in-Numbered.bucket c.args.id c.args.class.now (listed c.in-Numbered.class_ids) at p (omega arith) (omega arith) c.requires.class clear)
