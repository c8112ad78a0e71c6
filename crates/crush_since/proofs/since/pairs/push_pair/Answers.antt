use Rattle.std.proofs.Common.{◌≡◌, ◌++◌, subst}
use Rattle.std.specs.Prelude.{OnOk}
use Rattle.crush_since.specs.PairLines.{pair_line, seen_line}
use Rattle.crush_since.proofs.since.pairs.push_pair.Goals as goal

pub returns : goal.returns
unfolding pair_line
returns g c = subst (λ l. OnOk c.push_compared.result (c.push_compared.new.out.items ≡ l)) (λ k. c.args.out.now.items ++ seen_line (c.setting.ensures k) (c.setting-2.ensures k) (c.before-was.ensures k) (c.after-is.ensures k) (c.same_class_ids-same.ensures k)) c.push_compared.ensures
