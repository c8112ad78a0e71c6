use Rattle.crush_compare.proofs.ColumnLaws.{some_column}
use Rattle.crush_compare.proofs.law.a_column_differs_of_other_items.Goals as goal

pub returns : goal.returns
returns c = some_column
