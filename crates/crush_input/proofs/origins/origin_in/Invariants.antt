use Rattle.std.proofs.Common.{◌≡◌, drop, map}
use Rattle.crush_reasons.specs.Place.{origin_data}
use Rattle.crush_input.specs.Joined.{script_span_data}
use Rattle.crush_input.specs.Origins.{origin_in, whole_of}
use Rattle.crush_input.proofs.origins.origin_in.Given as goal

-- the parts that are left give the result, if the search continues with what was found so far
abbrev pub invariant-loop-span : goal.invariant-loop-span
invariant-loop-span l = origin_in (whole_of l.fn.first) (map script_span_data l.spans) l.fn.line ≡ origin_in (origin_data l.origin) (map script_span_data (drop l.span-index l.spans)) l.fn.line
