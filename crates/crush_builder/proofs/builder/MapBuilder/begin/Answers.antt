use Rattle.std.proofs.Common.{◌≡◌, subst, sym, ◌∙◌, arith}
use Rattle.std.specs.Prelude.{ℕ, Option, Some}
use Rattle.crush_edits.specs.Setting.{kind_number}
use Rattle.crush_builder.specs.Pending.{pending_data}
use Rattle.crush_builder.specs.Built.{Draft, begun, begun_bucket}
use Rattle.crush_builder.specs.Building.{BuilderData, IsDraft, own_draft}
use Rattle.crush_builder.proofs.Drafts.{own_is_draft, draft_fits}
use Rattle.crush_builder.proofs.RowSteps.{no_number, begin_step}
use Rattle.crush_builder.proofs.builder.MapBuilder.begin.Goals as goal

pub unreachable-requires : goal.unreachable-requires
unreachable-requires g c =
    let b : BuilderData = record { setting = c.self.inside.setting; forest = c.self.inside.hierarchy; pending = pending_data c.self.inside.pending; adjusted = c.self.inside.adjusted } in
    let d : Draft = own_draft b in
    let at : IsDraft c.args.self.now d = subst (λ (x : BuilderData). IsDraft x d) c.self.view_is (own_is_draft b c.recall_invariant.ensures c.self.invariant) in
    no_number d c.args.kind.now c.args.name.now (sym (c.in_default.ensures d at)) (sym (c.kind_number.ensures d at) ∙ c.in_default-kind_number.is)

pub invariant_of-self : goal.invariant_of-self
invariant_of-self g c =
    let b : BuilderData = record { setting = c.self.inside.setting; forest = c.self.inside.hierarchy; pending = pending_data c.self.inside.pending; adjusted = c.self.inside.adjusted } in
    let d : Draft = own_draft b in
    let own : IsDraft b d = own_is_draft b c.recall_invariant.ensures c.self.invariant in
    let at : IsDraft c.args.self.now d = subst (λ (x : BuilderData). IsDraft x d) c.self.view_is own in
    let number : kind_number d.setting c.args.kind.now ≡ Some c.in-Some-kind_number.kind = sym (c.kind_number.ensures d at) ∙ c.in-Some-kind_number.is in
    draft_fits (record b { pending = begun c.in-Some-kind_number.kind c.in_ok-name.name }) (begun_bucket d c.in-Some-kind_number.kind c.args.name.now)
    (subst (λ n. IsDraft (record b { pending = begun c.in-Some-kind_number.kind n }) (begun_bucket d c.in-Some-kind_number.kind c.args.name.now)) (sym c.in_ok-name.ensures)
    (begin_step b d c.args.kind.now c.in-Some-kind_number.kind c.args.name.now own (sym (c.in_default.ensures d at)) number (omega arith) c.requires.name))

pub returns-clause-clear : goal.returns-clause-clear
returns-clause-clear g c = λ d i. sym (c.in_default.ensures d i)

pub returns-clause-ok : goal.returns-clause-ok
returns-clause-ok g c = λ d k i e.
    let b : BuilderData = record { setting = c.self.inside.setting; forest = c.self.inside.hierarchy; pending = pending_data c.self.inside.pending; adjusted = c.self.inside.adjusted } in
    let at : IsDraft b d = subst (λ (x : BuilderData). IsDraft x d) (sym c.self.view_is) i in
    let number : kind_number d.setting c.args.kind.now ≡ Some c.in-Some-kind_number.kind = sym (c.kind_number.ensures d i) ∙ c.in-Some-kind_number.is in
    let found : ◌≡◌ {A = Option ℕ} (Some c.in-Some-kind_number.kind) (Some k) = sym number ∙ e in
    let same : c.in-Some-kind_number.kind ≡ k = cc in
    subst (λ x. IsDraft (record b { pending = begun c.in-Some-kind_number.kind c.in_ok-name.name }) (begun_bucket d x c.args.name.now)) same
    (subst (λ n. IsDraft (record b { pending = begun c.in-Some-kind_number.kind n }) (begun_bucket d c.in-Some-kind_number.kind c.args.name.now)) (sym c.in_ok-name.ensures)
    (begin_step b d c.args.kind.now c.in-Some-kind_number.kind c.args.name.now at (sym (c.in_default.ensures d i)) number (omega arith) c.requires.name))
