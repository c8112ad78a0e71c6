use Rattle.crush_compare.proofs.FoundLaws.{one_answer}
use Rattle.crush_compare.proofs.law.two_lists_have_one_list_of_pairs.Goals as goal

pub returns : goal.returns
returns c = one_answer
