use Rattle.crush_since.proofs.EqualItems.{no_item_where_rows_are_equal}
use Rattle.crush_since.proofs.since.no_item_is_told_where_rows_are_equal.Goals as goal

pub returns : goal.returns
returns c = no_item_where_rows_are_equal
