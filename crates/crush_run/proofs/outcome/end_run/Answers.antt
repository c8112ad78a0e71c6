use Rattle.std.proofs.Common.{[], sym, ◌∙◌}
use Rattle.crush_run.proofs.Noted.{explained_needs, memory_ends, noted_of_end, told_of_end}
use Rattle.crush_run.proofs.outcome.end_run.Goals as goal

pub end_notes_of-requires-clause-kept : goal.end_notes_of-requires-clause-kept
end_notes_of-requires-clause-kept g c = λ on. c.requires.kept (explained_needs c.args.request.now.mode c.args.request.now.output on)

pub returns-in_default : goal.returns-in_default
returns-in_default g c = memory_ends _ _ _ _ _ _ _ _ _ _ _ _ _ c.without_notes.ensures.outcome c.without_notes.ensures.quiet

-- the result of the run is the result of its write
pub returns : goal.returns
returns g c =
    let w = c.write_outcome-outcome.ensures in
    let e = c.end_with.ensures in
    rw e.outcome (record {
      writes = w.writes;
      summary = w.summary;
      nothing = w.nothing;
      fault = w.fault;
      strict = w.strict;
      no_make = w.no_make;
      lossless = w.lossless;
      found = w.found;
      whole = w.whole;
      told = λ o opening. told_of_end _ _ _ _ _ _ _ _ _ _ _ (c.in-Ok.ensures _ o (λ on. opening (explained_needs c.args.request.now.mode c.args.request.now.output on))) w.no_make w.whole e.notes;
      noted = λ origin all. noted_of_end _ _ _ [] _ _ _ _ _ _ _ origin all (λ quiet. c.in-Ok.ensures c.args.completed.now.map.now.setting [] (λ on. absurd (let bad = sym quiet ∙ on in cc))) w.fault w.strict c.requires.plain e.notes;
    })
