use Rattle.std.proofs.Common.{◌++◌, map, subst, sym, ◌∙◌}
use Rattle.std.specs.Prelude.{None}
use Rattle.crush_model.specs.Stands.{Stands}
use Rattle.crush_items.specs.Entries.{EntryData}
use Rattle.crush_items.specs.Items.{item_entry}
use Rattle.crush_items.proofs.WalkLaws.{flat-map}
use Rattle.crush_compare.specs.NamedItems.{HasEachOnce}
use Rattle.crush_compare.specs.NamedPairs.{new_pair, old_pair}
use Rattle.crush_compare.proofs.NamedLaws.{pairs_listed}
use Rattle.crush_compare.proofs.OnceLaws.{each_once}
use Rattle.crush_compare.proofs.comparison.Comparison.by_names.Goals as goal

pub returns-clause-pairs : goal.returns-clause-pairs
returns-clause-pairs g c = λ t u x y.
    let by = c.args.devices in
    let old = c.in_ok-before.before.all.items in
    let new = c.in_ok-after.after.all.items in
    let has_t = c.in_ok-before.ensures.entries t x in
    let has_u = c.in_ok-after.ensures.entries u y in
    let steps_t = c.in_ok-before.ensures.steps t x in
    let steps_u = c.in_ok-after.ensures.steps u y in
    let are = c.in_ok-pairs.ensures t u (subst (λ m. Stands m.forest t) (sym c.in_ok-before.ensures.map) x) (subst (λ m. Stands m.forest u) (sym c.in_ok-after.ensures.map) y) has_t has_u steps_t steps_u in
    let news = flat-map (λ (e : EntryData). new_pair by None t u e.item) item_entry new in
    let olds = flat-map (λ (e : EntryData). old_pair by None t u e.item) item_entry old in
    record {
      before = has_t;
      after = has_u;
      pairs = are;
      each = subst (HasEachOnce t u) ((λ i. sym news i ++ sym olds i) ∙ pairs_listed by t u old new has_t has_u steps_t steps_u ∙ sym are) (each_once by t u (map item_entry old) (map item_entry new) x.lawful y.lawful has_t has_u);
    }
