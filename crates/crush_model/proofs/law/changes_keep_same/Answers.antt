use Rattle.crush_model.proofs.Changes.{Same-set_weight, Same-set_subtree, Same-set_name, Same-with, Same-without, Same-without_row, Same-part, Same-exchange}
use Rattle.crush_model.proofs.Classes.{Same-set_class}
use Rattle.crush_model.proofs.Swapped.{Same-swap}
use Rattle.crush_model.proofs.law.changes_keep_same.Goals as goal

pub returns : goal.returns
returns c = record {
  weight = λ i w t u l. Same-set_weight i w t u;
  subtree = Same-set_subtree;
  name = λ i n t u l. Same-set_name i n t u;
  class = λ i c t u l. Same-set_class i c t u;
  rows = λ n t u l. Same-with n t u;
  without = Same-without;
  row = λ i t u l. Same-without_row i t u;
  part = Same-part;
  parents = λ a b t u l. Same-exchange a b t u;
  swap = Same-swap;
}
