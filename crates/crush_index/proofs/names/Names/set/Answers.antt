use Rattle.std.proofs.Common.{rules}
use Rattle.crush_index.specs.Keys.{lookup_key}
use Rattle.crush_index.proofs.FarLaws.{names_with}
use Rattle.crush_index.proofs.names.Names.set.Goals as goal

pub returns-clause-answers : goal.returns-clause-answers
returns-clause-answers c =
    let own = c.args.self.now in
    names_with own.hashing own.ids c.get_mut.follows.lender-at-none own.overflow c.set.new.self c.args.name.now (lookup_key c.of-lookup.result) c.args.id c.of-lookup.ensures (λ q. search rules) (search rules) c.requires c.set.ensures.with
