use Rattle.std.proofs.Common.{rules}
use Rattle.crush_units.proofs.Names.{are_name_bytes_utf8}
use Rattle.crush_units.proofs.name.Name.as_str.Goals as goal

pub as_str-requires : goal.as_str-requires
as_str-requires g c = are_name_bytes_utf8 _ c.self.invariant.allowed

pub returns-clause-value : goal.returns-clause-value
returns-clause-value g c = search rules
