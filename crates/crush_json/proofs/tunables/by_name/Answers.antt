use Rattle.std.proofs.Common.{ap, sym, ◌∙◌, map}
use Rattle.crush_edits.specs.SettingSeen.{tunable_data}
use Rattle.crush_json.specs.MapDocument.{with_tunables}
use Rattle.crush_json.specs.Seen.{number_members}
use Rattle.crush_json.proofs.Numbers.{numbers-insert_entry}
use Rattle.crush_json.proofs.tunables.by_name.Goals as goal

pub loop-name-preserved : goal.loop-name-preserved
unfolding with_tunables
loop-name-preserved c =
    let left = c.next.new.self in
    let named = c.in_ok-name.ensures.ok ∙ c.as_str.ensures.value in
    ap (λ ms. with_tunables ms (map tunable_data left)) (ap number_members c.in_ok-insert.ensures.entries ∙ numbers-insert_entry c.loop-name.sorted.entries c.in_ok-name.name _ ∙ rw named)
    ∙ ap (λ es. with_tunables (number_members c.loop-name.sorted.entries) (map tunable_data es)) (sym c.in-Some.ensures.steps) ∙ c.loop-name.invariant

pub returns : goal.returns
unfolding with_tunables
returns c = ap (λ es. with_tunables (number_members c.loop-name.sorted.entries) (map tunable_data es)) (sym c.in-None.ensures.steps.0) ∙ c.loop-name.invariant
