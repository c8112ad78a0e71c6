use Rattle.std.proofs.Common.{rules}
use Rattle.crush_gauge.proofs.Steps.{a_seat_splits}
use Rattle.crush_gauge.proofs.gauge.Gauge.note_of.Goals as goal

pub split_seat-requires : goal.split_seat-requires
split_seat-requires g c = (search rules, search rules, a_seat_splits _ _ _ _ _ _ c.requires.either)
