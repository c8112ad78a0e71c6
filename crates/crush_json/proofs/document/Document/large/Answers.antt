use Rattle.std.proofs.Common.{rules}
use Rattle.crush_json.proofs.WholeNumber.{whole_is_number}
use Rattle.crush_json.proofs.document.Document.large.Goals as goal

pub number-requires : goal.number-requires
number-requires c = rw c.format-text.ensures.text (whole_is_number c.args.number (search rules))
