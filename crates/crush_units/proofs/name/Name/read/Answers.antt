use Rattle.crush_units.proofs.Names.{are_name_bytes_utf8}
use Rattle.crush_units.proofs.name.Name.read.Goals as goal

pub new-requires : goal.new-requires
new-requires g c = are_name_bytes_utf8 c.args.bytes.now c.in_default.ensures
