use Rattle.std.specs.Prelude.{ℕ, Ok, map}
use Rattle.std.proofs.lemmas.Iterator.Adapters.{fact_from_extend}
use Rattle.std.proofs.lemmas.Iterator.Consumers.{YieldsList-from_rest}
use Rattle.std.specs.Map.Iter.{deref_pair}
use Rattle.crush_index.proofs.MapCopies.{map_copied}
use Rattle.crush_index.proofs.dense_map.copy_sparse.Goals as goal

pub returns-clause-answers : goal.returns-clause-answers
returns-clause-answers g c =
    let r = c.in_ok-extend.ensures.ran in
    let sparse = c.args.sparse.now in
    fact_from_extend {E = ℕ} deref_pair (Ok c.in_ok-extend.field-0) r (λ it b. YieldsList-from_rest sparse.entries b.0)
    (λ xs e h. map_copied c.with_hasher-copy.result c.extend.new.self sparse (map deref_pair xs) c.with_hasher-copy.ensures.empty e r.2.4 h.1)
