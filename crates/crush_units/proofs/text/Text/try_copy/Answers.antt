use Rattle.std.proofs.Common.{rules, subst, sym}
use Rattle.std.proofs.lemmas.Str.{IsUtf8-string_bytes}
use Rattle.std.specs.Str.{IsUtf8}
use Rattle.crush_units.proofs.text.Text.try_copy.Goals as goal

pub new-requires : goal.new-requires
new-requires g c = subst IsUtf8 (sym c.as_bytes.ensures.value) (IsUtf8-string_bytes c.in-Long.text)

pub returns-in-Short-clause-inside : goal.returns-in-Short-clause-inside
returns-in-Short-clause-inside g c = search rules
