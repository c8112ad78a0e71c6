use Rattle.std.proofs.Common.{ap, sym, subst, ◌∙◌}
use Rattle.crush_units.specs.declared.limits.TheConstants.{HEAVIEST_BUCKET}
use Rattle.crush_nodes.specs.Ops.{with_sums, StoresUpTo}
use Rattle.crush_nodes.specs.Seen.{items_of}
use Rattle.crush_walks.specs.Runs.{with_weights_below, weights_left}
use Rattle.crush_walks.proofs.RunLaws.{given_below, given_fits}
use Rattle.crush_walks.proofs.runs.give_weights_in.Goals as goal

pub change_at-requires : goal.change_at-requires
change_at-requires g c =
    let t = items_of c.args.items.now in
    let b = c.args.id in
    let ws = weights_left c.last_first-runs.result.items in
    let fits : StoresUpTo HEAVIEST_BUCKET (with_sums (with_weights_below b ws t)) = subst (λ vs. StoresUpTo HEAVIEST_BUCKET (with_sums (with_weights_below b vs t))) (sym c.last_first-runs.ensures) c.requires.fits in
    record {
      descent = c.requires.descent;
      can = given_fits b ws t c.requires.descent.one fits;
      fits = λ y out does. subst (StoresUpTo HEAVIEST_BUCKET) (sym (given_below b ws t y c.requires.descent.one does)) fits;
    }

pub returns : goal.returns
returns g c =
    let t = items_of c.args.items.now in
    let b = c.args.id in
    let ws = weights_left c.last_first-runs.result.items in
    let change = c.change_at.ensures in
    record { after = change.is ∙ given_below b ws t change.item c.requires.descent.one change.comes ∙ ap (λ vs. with_sums (with_weights_below b vs t)) c.last_first-runs.ensures }
