use denote.Ref.{Bor}
use Rattle.std.specs.Option.{option_copied}
use Rattle.std.proofs.Common.{rules, refl, ◌≡◌, ℕ, List, [], ◌∷◌, ◌++◌, subst, sym, ap, ◌∙◌, arith}
use Rattle.std.specs.Prelude.{Option, Some, None, IfSome}
use Rattle.crush_units.specs.Name.{IsName}
use Rattle.crush_units.specs.declared.id.ItemId.TheVariants.{Device}
use Rattle.crush_model.specs.Table.{is_there}
use Rattle.crush_builder.specs.declared.fault.BuildFault.TheVariants.{DuplicateId, DuplicateName, TooMany}
use Rattle.crush_builder.specs.Faults.{device_fault}
use Rattle.crush_builder.proofs.Faults.{none_of_three}
use Rattle.crush_model.specs.Items.{Items, device, none}
use Rattle.crush_model.specs.Lawful.{Lawful}
use Rattle.crush_model.specs.ItemRows.{rows}
use Rattle.crush_model.specs.Stands.{Stands}
use Rattle.crush_model.proofs.Weighs.{or_left}
use Rattle.crush_nodes.specs.Seen.{items_of}
use Rattle.crush_builder.specs.Pending.{pending_data}
use Rattle.crush_builder.specs.Built.{Draft, with_device}
use Rattle.crush_builder.specs.Building.{BuilderData, IsDraft, own_draft, has_name, is_full_of_devices}
use Rattle.crush_nodes.specs.Ops.{forest_without_capacity}
use Rattle.crush_builder.proofs.Drafts.{own_is_draft, kept_fits, draft_fits}
use Rattle.crush_builder.proofs.RowSteps.{device_lawful, device_step}
use Rattle.crush_builder.proofs.builder.MapBuilder.device_unchecked.Goals as goal

-- if the device has a class, the class has the form of a name
class_form : (o : Option (Bor (List ℕ))) → IfSome o (λ c. IsName c.now) → IfSome (option_copied o) IsName
class_form None h = tt
class_form (Some c) h = h

pub add-requires : goal.add-requires
add-requires g c = record {
  there = refl;
  sums = search rules;
  kind = search rules;
  fits =
      let b : BuilderData = record { setting = c.self.inside.setting; forest = c.self.inside.hierarchy; pending = pending_data c.self.inside.pending; adjusted = c.self.inside.adjusted } in
      let d : Draft = own_draft b in
      let at : IsDraft c.args.self.now d = subst (λ (x : BuilderData). IsDraft x d) c.self.view_is (own_is_draft b c.recall_invariant.ensures c.self.invariant) in
      let node : ◌≡◌ {A = Items} (device (record { id = c.args.id; name = c.args.name.now; weight = 0; class = option_copied c.args.class }) none) (items_of (c.device-node.result ∷ [])) =
      sym (c.device-node.ensures ∙ (λ i. device (record { id = c.args.id; name = c.in_ok-name.ensures i; weight = c.from_units.ensures i; class = c.in_ok-class.ensures i }) none)) in
      let clear : device_fault d c.args.id c.args.name.now ≡ None = c.requires.clear d at in
      let none = none_of_three DuplicateId DuplicateName TooMany (is_there d.table (Device c.args.id)) (has_name d c.args.name.now) (is_full_of_devices d) clear in
      subst (λ (n : Items). Lawful (d.table ++ rows None n)) node
      (device_lawful d.table c.args.id c.args.name.now (option_copied c.args.class) at.stands.lawful (omega arith) c.requires.name (class_form c.args.class c.requires.class) none.0 (or_left _ _ none.1.0) none.1.1);
}

pub invariant_of-self : goal.invariant_of-self
invariant_of-self g c =
    let b : BuilderData = record { setting = c.self.inside.setting; forest = c.self.inside.hierarchy; pending = pending_data c.self.inside.pending; adjusted = c.self.inside.adjusted } in
    kept_fits b c.add.new.self c.recall_invariant.ensures (ap forest_without_capacity c.in_err-add.ensures.adds.err) c.self.invariant

pub invariant_of-self-2 : goal.invariant_of-self-2
invariant_of-self-2 g c =
    let b : BuilderData = record { setting = c.self.inside.setting; forest = c.self.inside.hierarchy; pending = pending_data c.self.inside.pending; adjusted = c.self.inside.adjusted } in
    let d : Draft = own_draft b in
    let own : IsDraft b d = own_is_draft b c.recall_invariant.ensures c.self.invariant in
    let node : ◌≡◌ {A = Items} (items_of (c.device-node.result ∷ [])) (device (record { id = c.args.id; name = c.args.name.now; weight = 0; class = option_copied c.args.class }) none) =
    c.device-node.ensures ∙ (λ i. device (record { id = c.args.id; name = c.in_ok-name.ensures i; weight = c.from_units.ensures i; class = c.in_ok-class.ensures i }) none) in
    draft_fits (record b { forest = c.add.new.self }) (with_device d c.args.id c.args.name.now (option_copied c.args.class))
    (device_step b c.add.new.self d c.args.id c.args.name.now (option_copied c.args.class) own (ap (λ (x : BuilderData). x.pending) c.self.view_is ∙ c.requires.idle)
    (subst (λ (n : Items). Stands c.add.new.self (d.table ++ rows None n)) node (c.in_ok-add.ensures.adds.stands d.table own.stands)))

pub returns : goal.returns
returns g c = record {
  ok = λ d i.
      let b : BuilderData = record { setting = c.self.inside.setting; forest = c.self.inside.hierarchy; pending = pending_data c.self.inside.pending; adjusted = c.self.inside.adjusted } in
      let at : IsDraft b d = subst (λ (x : BuilderData). IsDraft x d) (sym c.self.view_is) i in
      let node : ◌≡◌ {A = Items} (items_of (c.device-node.result ∷ [])) (device (record { id = c.args.id; name = c.args.name.now; weight = 0; class = option_copied c.args.class }) none) =
      c.device-node.ensures ∙ (λ i. device (record { id = c.args.id; name = c.in_ok-name.ensures i; weight = c.from_units.ensures i; class = c.in_ok-class.ensures i }) none) in
      device_step b c.add.new.self d c.args.id c.args.name.now (option_copied c.args.class) at (ap (λ (x : BuilderData). x.pending) c.self.view_is ∙ c.requires.idle)
      (subst (λ (n : Items). Stands c.add.new.self (d.table ++ rows None n)) node (c.in_ok-add.ensures.adds.stands d.table at.stands));
}
