use Rattle.std.proofs.Common.{[]}
use Rattle.crush_input.specs.Input.{first_bytes}
use Rattle.crush_input.proofs.Joins.{begun}
use Rattle.crush_input.proofs.input.read_all.Goals as goal

-- the scripts follow the bytes with which the job begins
pub returns-clause-job : goal.returns-clause-job
returns-clause-job g c =
    let first = first_bytes (g.F.Opens.content c.args.files.now) c.args.options.now.file (g.R.Read.remaining c.args.input.now) in
    c.in_ok-push_files.ensures.job first [] (begun first _ c.in_ok-bytes.ensures.bytes c.new.ensures.items)
