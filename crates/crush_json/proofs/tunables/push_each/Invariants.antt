use Rattle.std.proofs.Common.{◌≡◌, ◌++◌, string_bytes}
use Rattle.std.specs.Prelude.{flat_map}
use Rattle.crush_json.specs.Tokens.{member_tokens}
use Rattle.crush_json.specs.Values.{natural}
use Rattle.crush_json.proofs.tunables.push_each.Given as goal

-- the tokens so far, followed by those of the members that are still to come, are the final tokens
abbrev pub invariant-loop-name : goal.invariant-loop-name
invariant-loop-name l =
    l.out ++ flat_map (λ e. member_tokens (string_bytes e.0) (natural e.1)) l.name-iterator ≡ l.fn.out ++ flat_map (λ e. member_tokens (string_bytes e.0) (natural e.1)) l.numbers.entries
