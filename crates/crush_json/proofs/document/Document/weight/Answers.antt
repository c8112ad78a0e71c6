use Rattle.std.proofs.Common.{subst, sym, ◌∙◌, rules}
use Rattle.std.specs.Str.{IsUtf8}
use Rattle.json.specs.Print.{IsNumber}
use Rattle.crush_json.proofs.WeightNumber.{exact_text_utf8, weight_is_number}
use Rattle.crush_json.proofs.document.Document.weight.Goals as goal

pub unreachable-requires : goal.unreachable-requires
unreachable-requires c = c.in_default.ensures.cases.0 (subst IsUtf8 (sym c.exact_text-len.ensures.text) (exact_text_utf8 c.args.weight (search rules)))

pub number-requires : goal.number-requires
number-requires c = subst IsNumber (sym (c.in-Ok.ensures.cases.0 ∙ c.exact_text-len.ensures.text)) (weight_is_number c.args.weight (search rules))
