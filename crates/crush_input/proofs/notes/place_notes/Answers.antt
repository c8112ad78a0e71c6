use Rattle.std.proofs.Common.{◌∙◌, ap}
use Rattle.std.proofs.lemmas.Result.{IfOk-weaker}
use Rattle.crush_input.specs.Origins.{origin_of}
use Rattle.crush_input.proofs.Noted.{place_of_front}
use Rattle.crush_input.proofs.notes.place_notes.Goals as goal

pub returns-then-explain : goal.returns-then-explain
returns-then-explain c =
    let o = origin_of c.args.origins.now in
    let there = c.at-origin.ensures ∙ ap o c.fault_line.ensures in
    IfOk-weaker c.fault_text.result _ _ (λ text h. place_of_front c.args.explain o c.args.bytes.now c.job_prefix-bytes.result.now c.args.fault _ text.items c.if-explain.true c.job_prefix-bytes.ensures.whole c.requires there h) c.fault_text.ensures
