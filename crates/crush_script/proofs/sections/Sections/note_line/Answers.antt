use Rattle.std.proofs.Common.{◌≡◌, ◌+◌, ◌-◌, List, ℕ, Ok, length, ap, arith}
use Rattle.crush_history.specs.Script.{scripts_data}
use Rattle.crush_script.specs.Sections.{SectionsData}
use Rattle.crush_script.proofs.Calls.{number_in_last-set}
use Rattle.crush_script.proofs.sections.Sections.note_line.Goals as goal

pub returns-clause-steps : goal.returns-clause-steps
returns-clause-steps c =
    let s = c.args.self.now in
    let with_lines = λ (xs : List (List ℕ)). let d : SectionsData = record { scripts = scripts_data s.scripts.items; lines = xs; calls = s.calls; begun = s.begun } in d in
    let last : c.len-count.result - 1 + 1 ≡ length s.lines.items = omega arith in
    ap (λ xs. Ok (with_lines xs)) (number_in_last-set c.args.number s.lines.items (c.len-count.result - 1) c.index_mut.result.now _ last c.index_mut.ensures.value c.in_ok-push.ensures.items)
