use Rattle.std.proofs.Common.{◌≡◌, [], ◌∷◌, ◌++◌, subst, sym, ap, ◌∙◌, arith}
use Rattle.std.specs.Prelude.{None}
use Rattle.crush_builder.specs.declared.fault.BuildFault.TheVariants.{DuplicateName, TooMany}
use Rattle.crush_edits.specs.Setting.{has_tunable}
use Rattle.crush_edits.specs.Fits.{IsTunable}
use Rattle.crush_builder.specs.Faults.{tunable_fault}
use Rattle.crush_builder.specs.Pending.{pending_data}
use Rattle.crush_builder.specs.Built.{Draft, with_tunable}
use Rattle.crush_builder.specs.Building.{BuilderData, IsDraft, own_draft, is_full_of_tunables}
use Rattle.crush_builder.proofs.Faults.{none_of_two}
use Rattle.crush_builder.proofs.Drafts.{own_is_draft, draft_fits}
use Rattle.crush_builder.proofs.TunableSteps.{tunable_step}
use Rattle.crush_builder.proofs.builder.MapBuilder.tunable.Goals as goal

pub push_tunable-requires : goal.push_tunable-requires
push_tunable-requires g c =
    let b : BuilderData = record { setting = c.self.inside.setting; forest = c.self.inside.hierarchy; pending = pending_data c.self.inside.pending; adjusted = c.self.inside.adjusted } in
    let d : Draft = own_draft b in
    let at : IsDraft c.args.self.now d = subst (λ (x : BuilderData). IsDraft x d) c.self.view_is (own_is_draft b c.recall_invariant.ensures c.self.invariant) in
    let clear : tunable_fault d c.args.name.now ≡ None = sym (c.in_default.ensures d at) in
    let none = none_of_two DuplicateName TooMany (has_tunable d.setting c.args.name.now) (is_full_of_tunables d) clear in
    ap (has_tunable c.self.inside.setting) c.in_ok-name.ensures ∙ none.0

pub invariant_of-self-2 : goal.invariant_of-self-2
invariant_of-self-2 g c =
    let b : BuilderData = record { setting = c.self.inside.setting; forest = c.self.inside.hierarchy; pending = pending_data c.self.inside.pending; adjusted = c.self.inside.adjusted } in
    let d : Draft = own_draft b in
    let own : IsDraft b d = own_is_draft b c.recall_invariant.ensures c.self.invariant in
    let at : IsDraft c.args.self.now d = subst (λ (x : BuilderData). IsDraft x d) c.self.view_is own in
    let tunables = c.in_ok-push_tunable.ensures.ok ∙ (λ i. record c.self.inside.setting { tunables = c.self.inside.setting.tunables ++ record { name = c.in_ok-name.ensures i; value = c.args.value } ∷ [] }) in
    let is : IsTunable (record { name = c.args.name.now; value = c.args.value }) = record { name = c.requires.name; value = omega arith } in
    let clear : tunable_fault d c.args.name.now ≡ None = sym (c.in_default.ensures d at) in
    let none = none_of_two DuplicateName TooMany (has_tunable d.setting c.args.name.now) (is_full_of_tunables d) clear in
    draft_fits (record b { setting = c.push_tunable.new.self }) (with_tunable d c.args.name.now c.args.value)
    (tunable_step b c.push_tunable.new.self d c.args.name.now c.args.value own (ap (λ (x : BuilderData). x.pending) c.self.view_is ∙ c.requires.idle) tunables is none.0 none.1)

pub returns-clause-clear : goal.returns-clause-clear
returns-clause-clear g c = λ d i. sym (c.in_default.ensures d i)

pub returns-clause-ok : goal.returns-clause-ok
returns-clause-ok g c = λ d i.
    let b : BuilderData = record { setting = c.self.inside.setting; forest = c.self.inside.hierarchy; pending = pending_data c.self.inside.pending; adjusted = c.self.inside.adjusted } in
    let at : IsDraft b d = subst (λ (x : BuilderData). IsDraft x d) (sym c.self.view_is) i in
    let tunables = c.in_ok-push_tunable.ensures.ok ∙ (λ j. record c.self.inside.setting { tunables = c.self.inside.setting.tunables ++ record { name = c.in_ok-name.ensures j; value = c.args.value } ∷ [] }) in
    let is : IsTunable (record { name = c.args.name.now; value = c.args.value }) = record { name = c.requires.name; value = omega arith } in
    let clear : tunable_fault d c.args.name.now ≡ None = sym (c.in_default.ensures d i) in
    let none = none_of_two DuplicateName TooMany (has_tunable d.setting c.args.name.now) (is_full_of_tunables d) clear in
    tunable_step b c.push_tunable.new.self d c.args.name.now c.args.value at (ap (λ (x : BuilderData). x.pending) c.self.view_is ∙ c.requires.idle) tunables is none.0 none.1
