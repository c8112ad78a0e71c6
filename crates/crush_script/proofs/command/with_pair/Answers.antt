use Rattle.std.proofs.Common.{◌+◌, List, length, ap}
use Rattle.crush_edits.specs.declared.location.Pair.{Pair}
use Rattle.crush_script.proofs.Pairs.{pair_added, pair_refused, pair_too_many}
use Rattle.crush_script.proofs.command.with_pair.Goals as goal

pub returns-in-Ok : goal.returns-in-Ok
returns-in-Ok c = pair_added c.args.first c.args.at c.push.new.self c.args.word.now _ _ c.cut_pair.ensures.kind c.cut_pair.ensures.name c.in-Ok.ensures.can c.in-Ok.ensures.ok

pub returns-in-Err-TooMany : goal.returns-in-Err-TooMany
returns-in-Err-TooMany c =
    let told = rw c.in-Err-TooMany.field-0-is at c.in-Err-TooMany.ensures.fault in
    let place = ap (λ (l : List Pair). c.args.first + length l) c.pairs.ensures.value in
    rw c.misfit.ensures (pair_too_many c.args.first c.args.at _ c.args.word.now place told)

pub returns-in-Err-BadName : goal.returns-in-Err-BadName
returns-in-Err-BadName c =
    let told = rw c.in-Err-BadName.field-0-is at c.in-Err-BadName.ensures.fault in
    let place = ap (λ (l : List Pair). c.args.first + length l) c.pairs.ensures.value in
    rw c.misfit-in-Err-BadName.ensures (pair_refused c.args.first c.args.at _ c.args.word.now _ _ place c.cut_pair.ensures.kind c.cut_pair.ensures.name told.0 told.1)
