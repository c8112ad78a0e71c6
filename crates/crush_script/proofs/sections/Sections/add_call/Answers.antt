use Rattle.std.proofs.Common.{◌≡◌, ◌+◌, ◌-◌, List, Ok, length, ap, arith}
use Rattle.crush_history.specs.Script.{ScriptData}
use Rattle.crush_script.specs.Sections.{SectionsData, lines_data}
use Rattle.crush_script.proofs.Calls.{call_in_last-set}
use Rattle.crush_script.proofs.sections.Sections.add_call.Goals as goal

pub returns-clause-steps : goal.returns-clause-steps
returns-clause-steps c =
    let s = c.args.self.now in
    let with_scripts = λ (xs : List ScriptData). let d : SectionsData = record { scripts = xs; lines = lines_data s.lines.items; calls = s.calls; begun = s.begun } in d in
    let last : c.len-last.result - 1 + 1 ≡ length s.scripts.items = omega arith in
    let more = ap (λ (calls : List _). let d : ScriptData = record { name = c.index_mut.result.now.name; calls = calls } in d) c.in_ok-push.ensures.items in
    ap (λ xs. Ok (with_scripts xs)) (call_in_last-set c.args.call s.scripts.items (c.len-last.result - 1) c.index_mut.result.now _ last c.index_mut.ensures.value more)
