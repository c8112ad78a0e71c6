use Rattle.std.proofs.Common.{◌≡◌, ◌++◌, true, sym, subst}
use Rattle.std.specs.Prelude.{not}
use Rattle.crush_model.specs.Forest.{rows_of}
use Rattle.crush_model.specs.Items.{Items}
use Rattle.crush_model.specs.ItemRows.{rows}
use Rattle.crush_model.specs.Lawful.{is_too_heavy}
use Rattle.crush_model.specs.Stored.{weight_sum}
use Rattle.crush_model.proofs.Stands.{stands_for_rows}
use Rattle.crush_nodes.specs.Ops.{is_place, CanCome}
use Rattle.crush_nodes.specs.Room.{parent_at}
use Rattle.crush_apply.proofs.Fitting.{new_told}
use Rattle.crush_apply.proofs.Destinations.{place_there}
use Rattle.crush_apply.proofs.route.room.fits_put_new.Goals as goal

pub fits_attach-requires : goal.fits_attach-requires
fits_attach-requires g c =
    let f = c.args.hierarchy.now in
    let leads = c.requires.leads (rows_of f) (stands_for_rows f c.recall_invariant.ensures) in
    subst (λ p. is_place (rows_of f) p ≡ true) (sym c.place.ensures) (place_there (rows_of f) c.args.to.now leads)

pub returns : goal.returns
returns g c = λ t d st gone is.
    new_told t st.lawful c.args.to.now (c.requires.leads t st) d c.args.weight c.fits_attach.result gone is c.requires.weight
    (subst (λ p. (m : Items) → weight_sum m ≡ c.args.weight → CanCome t p m → c.fits_attach.result ≡ not (is_too_heavy (t ++ rows (parent_at p) m))) c.place.ensures (c.fits_attach.ensures t st))
