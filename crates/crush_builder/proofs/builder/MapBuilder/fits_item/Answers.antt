use Rattle.std.proofs.Common.{rules, ◌≡◌, true, false, subst, sym, ap, ◌∙◌}
use Rattle.crush_model.specs.Table.{is_there}
use Rattle.crush_units.specs.declared.id.ItemId.{ItemId}
use Rattle.crush_model.specs.Forest.{all_items, rows_of, IsSound}
use Rattle.crush_builder.specs.Built.{Draft}
use Rattle.crush_builder.specs.Faults.{is_closed}
use Rattle.crush_builder.proofs.Faults.{closed_there, closed_shut}
use Rattle.crush_model.specs.Stored.{weight_sum}
use Rattle.crush_nodes.specs.Ops.{part_of}
use Rattle.crush_builder.specs.Pending.{pending_data, with_first_weight}
use Rattle.crush_builder.specs.Building.{BuilderData, BuilderFits, IsDraft, own_draft, is_open}
use Rattle.crush_builder.proofs.Drafts.{own_is_draft}
use Rattle.crush_builder.proofs.ItemTaken.{part_comes, apart_at, fits_test, flip}
use Rattle.crush_builder.proofs.builder.MapBuilder.fits_item.Goals as goal

-- the item isn't the bucket that is being filled
shut : (b : BuilderData) {now : BuilderData} {i : ItemId} → b ≡ now → IsSound b.forest → BuilderFits b → ((d : Draft) → IsDraft now d → is_closed d i ≡ true) → is_open now.pending i ≡ false
shut b {now} {i} is sound keeps closed =
    let at : IsDraft now (own_draft b) = subst (λ (x : BuilderData). IsDraft x (own_draft b)) is (own_is_draft b sound keeps) in
    subst (λ (x : BuilderData). is_open x.pending i ≡ false) is (closed_shut (is_there (rows_of b.forest) i) (is_open b.pending i) (closed (own_draft b) at))

pub weight_to_come-coming-requires : goal.weight_to_come-coming-requires
weight_to_come-coming-requires g c =
    let b : BuilderData = record { setting = c.self.inside.setting; forest = c.self.inside.hierarchy; pending = pending_data c.self.inside.pending; adjusted = c.self.inside.adjusted } in
    let at : IsDraft c.args.self.now (own_draft b) = subst (λ (x : BuilderData). IsDraft x (own_draft b)) c.self.view_is (own_is_draft b c.recall_invariant.ensures c.self.invariant) in
    subst (λ (x : BuilderData). is_there (rows_of x.forest) c.args.id ≡ true) c.self.view_is (closed_there _ _ (c.requires.closed (own_draft b) at))

pub fits_move-requires : goal.fits_move-requires
fits_move-requires g c = record {
  place = search rules;
  apart =
      let b : BuilderData = record { setting = c.self.inside.setting; forest = c.self.inside.hierarchy; pending = pending_data c.self.inside.pending; adjusted = c.self.inside.adjusted } in
      let came = part_comes b c.args.self.now c.args.id c.args.bucket c.self.view_is c.recall_invariant.ensures c.self.invariant (ap (λ (x : BuilderData). x.pending) c.self.view_is ∙ c.requires.fills) (shut b c.self.view_is c.recall_invariant.ensures c.self.invariant c.requires.closed) (λ d i. closed_there _ _ (c.requires.closed d i)) c.requires.free in
      apart_at b c.args.id c.args.bucket _ came (own_draft b) came.own;
}

pub returns : goal.returns
returns g c = λ d i.
    let b : BuilderData = record { setting = c.self.inside.setting; forest = c.self.inside.hierarchy; pending = pending_data c.self.inside.pending; adjusted = c.self.inside.adjusted } in
    let came = part_comes b c.args.self.now c.args.id c.args.bucket c.self.view_is c.recall_invariant.ensures c.self.invariant (ap (λ (x : BuilderData). x.pending) c.self.view_is ∙ c.requires.fills) (shut b c.self.view_is c.recall_invariant.ensures c.self.invariant c.requires.closed) (λ d i. closed_there _ _ (c.requires.closed d i)) c.requires.free in
    let at : IsDraft b d = subst (λ (x : BuilderData). IsDraft x d) (sym c.self.view_is) i in
    flip _ _ (fits_test b c.args.id c.args.bucket _ came c.args.weight c.weight_to_come-coming.result
    (c.weight_to_come-coming.ensures ∙ ap (λ (x : BuilderData). weight_sum (with_first_weight c.args.weight (part_of c.args.id (all_items x.forest)))) (sym c.self.view_is)) d at _
    (c.fits_move.ensures d.table at.stands))
