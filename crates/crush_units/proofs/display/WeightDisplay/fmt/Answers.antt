use Rattle.std.proofs.Common.{sym, subst}
use Rattle.std.specs.Str.{IsUtf8}
use Rattle.crush_units.proofs.Parts.{weight_text_utf8}
use Rattle.crush_units.proofs.display.WeightDisplay.fmt.Goals as goal

pub unreachable-requires : goal.unreachable-requires
unreachable-requires g c = c.in-Err.ensures.cases.0
    (subst IsUtf8 (sym c.text-len.ensures.text) (weight_text_utf8 c.args.self.now c.units-units.ensures.range))
