use Rattle.std.proofs.Common.{sym, subst, arith}
use Rattle.std.proofs.lemmas.List.Elements.{All-nil}
use Rattle.crush_units.specs.Name.{IsName}
use Rattle.crush_edits.specs.declared.location.Pair.{Pair}
use Rattle.crush_edits.specs.Pushed.{IsLocation}
use Rattle.crush_edits.proofs.location.Location.new.Goals as goal

pub invariant_of-result : goal.invariant_of-result
invariant_of-result c = subst IsLocation (sym c.new.ensures.items) (record { few = omega arith; kinds = All-nil (λ (p : Pair). IsName p.kind); names = All-nil (λ (p : Pair). IsName p.name) })

pub returns : goal.returns
returns c = c.new.ensures.items
