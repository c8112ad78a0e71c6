-- Worked lines of batches.
use Rattle.std.proofs.Common.{◌≡◌, [], ◌∷◌, refl}
use Rattle.std.specs.Prelude.{codes}
use Rattle.crush_units.specs.declared.id.ItemId.TheVariants.{Device, Bucket}
use Rattle.crush_edits.specs.declared.refusal.Refusal.TheVariants.{NotEmpty}
use Rattle.crush_edits.specs.declared.edit.Edit.TheVariants.{Place, Move, Remove, AddBucket, Rename}
use Rattle.crush_edits.specs.declared.edit.Placing.TheVariants.{Insert}
use Rattle.crush_edits.specs.Batch.{batch_done, no_dones, batch}
use Rattle.crush_edits.proofs.Worked.Examples.{example_table, example_setting, host, root, line, no_at, all, shown_batch}

-- `add osd.3 1 host=h2`, `rename-bucket h1 hq`, `rm h2`
refused_at_two : shown_batch (batch example_setting example_table (Place Insert 3 (codes "osd.3") 65536 (host (codes "h2") ∷ []) ∷ (Rename (codes "h1") (codes "hq") ∷ (Remove (codes "h2") ∷ [])))) ≡ no_at 2 NotEmpty
refused_at_two = refl

-- `add-bucket h9 host`, `move h9 root=default`
add_and_move : shown_batch (batch example_setting example_table (AddBucket (codes "h9") (codes "host") ∷ (Move (codes "h9") (root (codes "default") ∷ []) ∷ []))) ≡ all 2 2 1 (line 1 (codes "default") (Bucket 2 ∷ (Bucket 3 ∷ (Bucket 4 ∷ []))) 163840 ∷ (line 2 (codes "h1") (Device 0 ∷ (Device 1 ∷ [])) 131072 ∷ (line 3 (codes "h2") (Device 2 ∷ []) 32768 ∷ (line 4 (codes "h9") [] 0 ∷ []))))
add_and_move = refl

-- no edit
nothing : batch example_setting example_table [] ≡ batch_done no_dones example_table
nothing = refl

-- the id of a removed bucket is used again: `rm osd.2`, `rm h2`, `add osd.2 0.5 host=h2`
free_again : shown_batch (batch example_setting example_table (Remove (codes "osd.2") ∷ (Remove (codes "h2") ∷ (Place Insert 2 (codes "osd.2") 32768 (host (codes "h2") ∷ []) ∷ [])))) ≡ all 3 3 1 (line 1 (codes "default") (Bucket 2 ∷ []) 131072 ∷ (line 2 (codes "h1") (Device 0 ∷ (Device 1 ∷ [])) 131072 ∷ (line 3 (codes "h2") (Device 2 ∷ []) 32768 ∷ [])))
free_again = refl
