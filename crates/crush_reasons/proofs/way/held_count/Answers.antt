use Rattle.std.proofs.Common.{◌≡◌, true, false, sym, ◌∙◌}
use Rattle.crush_reasons.proofs.Naming.{bucket_there}
use Rattle.crush_reasons.proofs.way.held_count.Goals as goal

-- if a bucket has the name, then the map has the bucket
pub returns-in-None : goal.returns-in-None
returns-in-None c = λ t st.
    let no : false ≡ true = c.in-None.ensures.there t st ∙ bucket_there t c.args.name.now c.in-Some.bucket (sym (c.in-Some.ensures t st)) in
    absurd cc
