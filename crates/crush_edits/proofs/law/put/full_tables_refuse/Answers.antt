use Rattle.crush_edits.proofs.Full.{full_of_devices, full_of_buckets}
use Rattle.crush_edits.proofs.law.put.full_tables_refuse.Goals as goal

pub returns : goal.returns
returns c = record { devices = full_of_devices; buckets = full_of_buckets }
