use Rattle.crush_laws.proofs.BuiltBuckets.{buckets_are_built}
use Rattle.crush_laws.proofs.BuiltMaps.{types_are_read_in_order}
use Rattle.crush_laws.proofs.PrintedAgain.{read_back_prints_alike}
use Rattle.crush_laws.proofs.ReadBack.{comments_behind_are_no_matter, in_order_is_the_same, printed_texts_are_read_back}
use Rattle.crush_laws.proofs.RunOn.{printed_maps_run_on}
use Rattle.crush_laws.proofs.reading_back.what_is_printed_is_read_back.Goals as goal

pub returns : goal.returns
returns c = record {
  read = printed_texts_are_read_back;
  behind = comments_behind_are_no_matter;
  on = printed_maps_run_on;
  order = types_are_read_in_order buckets_are_built;
  same = in_order_is_the_same;
  again = read_back_prints_alike;
}
