use Rattle.std.proofs.Common.{◌≡◌, ◌++◌, List, ℕ, Option, drop}
use Rattle.std.specs.Prelude.{IfSome}
use Rattle.crush_input.specs.Input.{IsJoined}
use Rattle.crush_input.specs.Joined.{ScriptSpanData, script_spans_of, with_scripts}
use Rattle.crush_input.proofs.input.push_files.Given as goal

-- the job and the scripts before the index have been read, as far as their bytes are known; the remaining scripts follow them
abbrev pub invariant-loop-name : goal.invariant-loop-name
invariant-loop-name g l = (known : Option (List ℕ)) (spans : List ScriptSpanData) → IfSome known (λ b. IsJoined l.fn.job b spans)
    → (now : Option (List ℕ)) × (own : List ScriptSpanData)
    × (with_scripts (g.F.Opens.content l.files) known l.names ≡ with_scripts (g.F.Opens.content l.files) now (drop l.name-index l.names))
    × (spans ++ script_spans_of (g.F.Opens.content l.files) known l.names ≡ own ++ script_spans_of (g.F.Opens.content l.files) now (drop l.name-index l.names))
    × IfSome now (λ b. IsJoined l.job b own)
