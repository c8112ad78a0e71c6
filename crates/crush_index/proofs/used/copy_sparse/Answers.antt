use Rattle.std.specs.Prelude.{ℕ, Ok, map}
use Rattle.std.proofs.lemmas.Iterator.Adapters.{fact_from_extend}
use Rattle.std.proofs.lemmas.Iterator.Consumers.{YieldsList-from_rest}
use Rattle.std.specs.Map.Iter.{deref}
use Rattle.crush_index.proofs.MapCopies.{set_copied}
use Rattle.crush_index.proofs.used.copy_sparse.Goals as goal

pub returns-clause-answers : goal.returns-clause-answers
returns-clause-answers c =
    let sparse = c.args.sparse.now in
    fact_from_extend {E = ℕ} deref (Ok c.in_ok-extend.field-0) c.in_ok-extend.ensures.ran (λ it b. YieldsList-from_rest sparse.keys b.0)
    (λ xs e h. set_copied c.with_hasher-copy.result c.extend.new.self sparse (map deref xs) c.with_hasher-copy.ensures.empty e h.1)
