use Rattle.std.proofs.Common.{rules, refl, ◌≡◌, ◌++◌, subst, sym, ap, ◌∙◌}
use Rattle.std.specs.Prelude.{None}
use Rattle.crush_model.specs.Items.{Items, bucket, none}
use Rattle.crush_model.specs.Lawful.{Lawful}
use Rattle.crush_model.specs.Forest.{rows_of}
use Rattle.crush_model.specs.ItemRows.{rows}
use Rattle.crush_model.specs.Stands.{Stands}
use Rattle.crush_builder.specs.Pending.{pending_data, listed}
use Rattle.crush_builder.specs.Built.{Pending, numbered, filling, with_alg}
use Rattle.crush_builder.specs.Building.{BuilderData, IsDraft, IsPending, own_draft}
use Rattle.crush_nodes.specs.Ops.{forest_without_capacity}
use Rattle.crush_builder.proofs.Drafts.{own_is_draft, kept_fits, draft_fits}
use Rattle.crush_builder.proofs.RowSteps.{bucket_lawful, alg_step}
use Rattle.crush_builder.proofs.builder.MapBuilder.alg.Goals as goal

pub add-requires : goal.add-requires
add-requires g c = record {
  there = refl;
  sums = search rules;
  kind = search rules;
  fits =
      let b : BuilderData = record { setting = c.self.inside.setting; forest = c.self.inside.hierarchy; pending = pending_data c.self.inside.pending; adjusted = c.self.inside.adjusted } in
      let own : IsDraft b (own_draft b) = own_is_draft b c.recall_invariant.ensures c.self.invariant in
      let p : b.pending ≡ numbered c.in-Numbered.kind c.in-Numbered.name c.in-Numbered.id (listed c.in-Numbered.class_ids) = ap pending_data (sym c.replace.ensures.value ∙ c.in-Numbered.is) in
      let can = subst (λ (x : Pending). IsPending b.setting (rows_of b.forest) x) p own.part in
      let node = c.in_ok-node.ensures ∙ (λ i. bucket (record { id = c.in-Numbered.id; kind = c.in-Numbered.kind; name = c.in-Numbered.name; alg = c.args.alg; class_ids = c.in_ok-class_ids.ensures i }) 0 1 none none) in
      subst (λ (n : Items). Lawful (rows_of b.forest ++ rows None n)) (sym node)
      (bucket_lawful b.setting (rows_of b.forest) c.in-Numbered.kind c.in-Numbered.name c.in-Numbered.id (listed c.in-Numbered.class_ids) c.args.alg own.stands.lawful can.0 can.1);
}

pub invariant_of-self-in_err-add : goal.invariant_of-self-in_err-add
invariant_of-self-in_err-add g c =
    let b : BuilderData = record { setting = c.self.inside.setting; forest = c.self.inside.hierarchy; pending = pending_data c.replace.new.dest; adjusted = c.self.inside.adjusted } in
    let idle : IsPending b.setting (rows_of b.forest) b.pending = subst (λ (p : Pending). IsPending b.setting (rows_of b.forest) p) (ap pending_data (sym c.replace.ensures.after)) tt in
    kept_fits b c.add.new.self c.recall_invariant.ensures (ap forest_without_capacity c.in_err-add.ensures.adds.err) (record { fits = c.self.invariant.fits; part = idle; few = c.self.invariant.few })

pub invariant_of-self-2 : goal.invariant_of-self-2
invariant_of-self-2 g c =
    let b : BuilderData = record { setting = c.self.inside.setting; forest = c.self.inside.hierarchy; pending = pending_data c.self.inside.pending; adjusted = c.self.inside.adjusted } in
    let own : IsDraft b (own_draft b) = own_is_draft b c.recall_invariant.ensures c.self.invariant in
    let p : b.pending ≡ numbered c.in-Numbered.kind c.in-Numbered.name c.in-Numbered.id (listed c.in-Numbered.class_ids) = ap pending_data (sym c.replace.ensures.value ∙ c.in-Numbered.is) in
    let node = c.in_ok-node.ensures ∙ (λ i. bucket (record { id = c.in-Numbered.id; kind = c.in-Numbered.kind; name = c.in-Numbered.name; alg = c.args.alg; class_ids = c.in_ok-class_ids.ensures i }) 0 1 none none) in
    draft_fits (record { setting = b.setting; forest = c.add.new.self; pending = filling c.in-Numbered.id; adjusted = b.adjusted }) (with_alg (own_draft b) c.args.alg)
    (alg_step b c.add.new.self (own_draft b) c.in-Numbered.kind c.in-Numbered.name c.in-Numbered.id (listed c.in-Numbered.class_ids) c.args.alg own p
    (subst (λ (n : Items). Stands c.add.new.self ((own_draft b).table ++ rows None n)) node (c.in_ok-add.ensures.adds.stands (own_draft b).table own.stands)))

pub returns-clause-ok : goal.returns-clause-ok
returns-clause-ok g c = λ d i.
    let b : BuilderData = record { setting = c.self.inside.setting; forest = c.self.inside.hierarchy; pending = pending_data c.self.inside.pending; adjusted = c.self.inside.adjusted } in
    let at : IsDraft b d = subst (λ (x : BuilderData). IsDraft x d) (sym c.self.view_is) i in
    let p : b.pending ≡ numbered c.in-Numbered.kind c.in-Numbered.name c.in-Numbered.id (listed c.in-Numbered.class_ids) = ap pending_data (sym c.replace.ensures.value ∙ c.in-Numbered.is) in
    let node = c.in_ok-node.ensures ∙ (λ i. bucket (record { id = c.in-Numbered.id; kind = c.in-Numbered.kind; name = c.in-Numbered.name; alg = c.args.alg; class_ids = c.in_ok-class_ids.ensures i }) 0 1 none none) in
    alg_step b c.add.new.self d c.in-Numbered.kind c.in-Numbered.name c.in-Numbered.id (listed c.in-Numbered.class_ids) c.args.alg at p
    (subst (λ (n : Items). Stands c.add.new.self (d.table ++ rows None n)) node (c.in_ok-add.ensures.adds.stands d.table at.stands))
