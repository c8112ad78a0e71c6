use Rattle.std.proofs.Common.{◌≡◌, ◌++◌, ◌∙◌, List, ap, sym, subst, map, arith, append-nil}
use Rattle.std.specs.Prelude.{OnOk}
use Rattle.crush_since.specs.Changes.{ChangeData}
use Rattle.crush_since.specs.SeenChange.{row_change}
use Rattle.crush_since.proofs.FoundLaws.{kept}
use Rattle.crush_since.proofs.StoodLaws.{left_below, nothing_left}
use Rattle.crush_since.proofs.changes.left.push_left.Goals as goal

pub push_left_items-requires : goal.push_left_items-requires
push_left_items-requires g c =
    omega (arith, c.in-Some.ensures.few, c.requires)

pub returns-in-Some : goal.returns-in-Some
returns-in-Some g c = λ t u tables.
    subst (λ l. OnOk c.push_left_items.result (map (row_change c.args.both.now.maps) c.push_left_items.new.rows.items ≡ map (row_change c.args.both.now.maps) c.args.rows.now.items ++ l))
    (left_below t u c.args.both.now.buckets c.args.bucket c.args.depth c.in-Some.items.now (kept t u _ tables) c.in-Some.ensures.items (c.in-Some.ensures.ids t (kept t u _ tables)))
    (c.push_left_items.ensures t u tables)

pub returns-in-None : goal.returns-in-None
returns-in-None g c = λ t u tables.
    let rows : List ChangeData = map (row_change c.args.both.now.maps) c.args.rows.now.items in
    sym (append-nil rows) ∙ ap (λ (l : List ChangeData). rows ++ l) (nothing_left t u c.args.both.now.buckets c.args.bucket c.args.depth (kept t u _ tables) (c.in-None.ensures.there t (kept t u _ tables)))
