use Rattle.std.proofs.Common.{◌∙◌, sym, subst}
use Rattle.std.proofs.lemmas.List.Elements.{All-get_or}
use Rattle.crush_since.specs.TakenSeen.{IsRight}
use Rattle.crush_since.proofs.TakenLaws.{right_for_same}
use Rattle.crush_since.proofs.since.taken.cached_result.Goals as goal

pub returns-then-is_same : goal.returns-then-is_same
returns-then-is_same c = λ identity t u right.
    let taken = c.entry_at-taken.result.now in
    let is_right = All-get_or (IsRight identity t u) c.args.cache.now c.loop-index.index taken c.loop-index-test.true right in
    right_for_same identity t u taken c.args.bucket _ (subst (IsRight identity t u) (sym c.entry_at-taken.ensures) is_right) (sym c.is_same.ensures ∙ c.if-is_same.true)
