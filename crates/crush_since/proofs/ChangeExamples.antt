-- Examples: the texts of the tree that shows what has changed between two maps, computed from the definition.
use Rattle.std.proofs.Common.{◌≡◌, refl}
use Rattle.std.specs.Prelude.{List, [], ◌∷◌, Some, None, codes}
use Rattle.std.specs.Fmt.{digits}
use Rattle.crush_edits.specs.Setting.{SettingData, take, emit}
use Rattle.crush_model.specs.Items.{none, device, bucket}
use Rattle.crush_model.specs.Forest.{rows_of}
use Rattle.crush_model.specs.Table.{Row}
use Rattle.crush_print.specs.MapText.{root_numbers, kind_text}
use Rattle.crush_print.specs.RuleLines.{bucket_name}
use Rattle.crush_since.specs.Changes.{stood_at, left_from, is_listed, stands_at, root_rows, unplaced_rows, change_rows}
use Rattle.crush_since.specs.ChangeText.{heading, weights_column, name_column, change_line, rows_text, changes_text}
use Rattle.crush_since.specs.Classes.{class_lines, classes, class_line, untaken_text}
use Rattle.crush_since.specs.Rules.{other_order, rule_takes, weighs_nothing}
use Rattle.crush_since.specs.Emptied.{emptied_lines}
use Rattle.crush_since.specs.Settings.{tunables_line, kinds_line, rules_line, setting_lines}
use Rattle.crush_since.specs.Since.{plain_map, id_line, all_ids, all_buckets, all_devices, totals_line, last_lines}
use Rattle.crush_since.specs.Tallies.{first_counts, last_counts, counts_line}
use Rattle.crush_print.specs.Tree.{unplaced_numbers}
use Rattle.crush_print.specs.TreeText.{at_left, at_right}
use Rattle.crush_print.proofs.Examples.{leaf, header, type, example}
use Rattle.crush_since.proofs.SinceExamples.{grown, moved, of, of_class, of_roots, swapped}

changes_moved : changes_text (of example) (of moved)
    ≡ codes "ID  CLASS  WAS      WEIGHT   TYPE NAME\n-1         2.50000  2.50000  root default\n-2         2.00000  1.00000      host h1\n 0         1.00000        -          osd.0\n-3         0.50000  1.50000      host h2\n 0               -  1.00000          osd.0 (from h1)\ntotal 2.50000 to 2.50000\n0 made, 0 removed, 0 renamed, 1 moved, 2 of other weight, 0 of other class\n"
unfolding changes_text rows_text change_rows root_rows unplaced_rows stands_at stood_at left_from is_listed id_line heading change_line weights_column name_column at_left at_right root_numbers unplaced_numbers kind_text last_lines setting_lines tunables_line kinds_line rules_line emptied_lines class_lines classes class_line untaken_text other_order rule_takes weighs_nothing bucket_name totals_line counts_line first_counts last_counts all_ids all_buckets all_devices digits
changes_moved = refl

changes_grown : changes_text (of example) (of grown)
    ≡ codes "ID  CLASS  WAS      WEIGHT   TYPE NAME\n-1         2.50000  3.50000  root default\n-5               -  1.00000      rack r1 (made)\n-4               -  1.00000          host h3 (made)\n 3               -  1.00000              osd.3 (made)\ntotal 2.50000 to 3.50000\n3 made, 0 removed, 0 renamed, 0 moved, 1 of other weight, 0 of other class\n"
unfolding changes_text rows_text change_rows root_rows unplaced_rows stands_at stood_at left_from is_listed id_line heading change_line weights_column name_column at_left at_right root_numbers unplaced_numbers kind_text last_lines setting_lines tunables_line kinds_line rules_line emptied_lines class_lines classes class_line untaken_text other_order rule_takes weighs_nothing bucket_name totals_line counts_line first_counts last_counts all_ids all_buckets all_devices digits
changes_grown = refl

changes_swapped : changes_text (of example) (of swapped)
    ≡ codes "ID  CLASS  WAS      WEIGHT   TYPE NAME\n-1         2.50000  2.50000  root default\n-2         2.00000  0.50000      host h2 (was h1)\n 2               -  0.50000          osd.2 (from h2)\n 0         1.00000        -          osd.0\n 1         1.00000        -          osd.1\n-3         0.50000  2.00000      host h1 (was h2)\n 0               -  1.00000          osd.0 (from h1)\n 1               -  1.00000          osd.1 (from h1)\n 2         0.50000        -          osd.2\ntotal 2.50000 to 2.50000\n0 made, 0 removed, 2 renamed, 3 moved, 2 of other weight, 0 of other class\n"
unfolding changes_text rows_text change_rows root_rows unplaced_rows stands_at stood_at left_from is_listed id_line heading change_line weights_column name_column at_left at_right root_numbers unplaced_numbers kind_text last_lines setting_lines tunables_line kinds_line rules_line emptied_lines class_lines classes class_line untaken_text other_order rule_takes weighs_nothing bucket_name totals_line counts_line first_counts last_counts all_ids all_buckets all_devices digits
changes_swapped = refl

-- h1 and its devices are removed
abbrev shrunk : List Row
shrunk = of_roots (bucket (header 1 11 (codes "default")) 32768 2 (bucket (header 3 1 (codes "h2")) 32768 1 (device (leaf 2 (codes "osd.2") 32768) none) none) none)

changes_shrunk : changes_text (of example) (of shrunk)
    ≡ codes "ID  CLASS  WAS      WEIGHT   TYPE NAME\n-1         2.50000  0.50000  root default\n-2         2.00000        -      host h1 (removed)\n 0         1.00000        -          osd.0 (removed)\n 1         1.00000        -          osd.1 (removed)\ntotal 2.50000 to 0.50000\n0 made, 3 removed, 0 renamed, 0 moved, 1 of other weight, 0 of other class\n"
unfolding changes_text rows_text change_rows root_rows unplaced_rows stands_at stood_at left_from is_listed id_line heading change_line weights_column name_column at_left at_right root_numbers unplaced_numbers kind_text last_lines setting_lines tunables_line kinds_line rules_line emptied_lines class_lines classes class_line untaken_text other_order rule_takes weighs_nothing bucket_name totals_line counts_line first_counts last_counts all_ids all_buckets all_devices digits
changes_shrunk = refl

-- an empty rack is removed, and a host has got the rack's id
abbrev with_row : SettingData
with_row = record { kinds = type 0 (codes "osd") ∷ (type 1 (codes "host") ∷ (type 3 (codes "rack") ∷ (type 4 (codes "row") ∷ (type 11 (codes "root") ∷ [])))); tunables = []; rules = [] }

abbrev row_before : List Row
row_before = of_roots (bucket (header 1 11 (codes "default")) 65536 1 (bucket (header 2 4 (codes "row00")) 65536 2
    (bucket (header 3 3 (codes "rack000")) 65536 1 (device (leaf 0 (codes "osd.0") 65536) none) (bucket (header 4 3 (codes "rack001")) 0 0 none none)) none) none)

abbrev row_after : List Row
row_after = of_roots (bucket (header 1 11 (codes "default")) 131072 1 (bucket (header 2 4 (codes "row00")) 131072 2
    (bucket (header 3 3 (codes "rack000")) 131072 2 (device (leaf 0 (codes "osd.0") 65536) (bucket (header 4 1 (codes "h9")) 65536 1 (device (leaf 1 (codes "osd.1") 65536) none) none)) none) none) none)

changes_again : changes_text (plain_map with_row row_before) (plain_map with_row row_after)
    ≡ codes "ID  CLASS  WAS      WEIGHT   TYPE NAME\n-1         1.00000  2.00000  root default\n-2         1.00000  2.00000      row row00\n-3         1.00000  2.00000          rack rack000\n-4               -  1.00000              host h9 (was rack001; type rack to host; from row00)\n 1               -  1.00000                  osd.1 (made)\n-4         0.00000        -          rack rack001\ntotal 1.00000 to 2.00000\n1 made, 0 removed, 1 renamed, 1 moved, 4 of other weight, 0 of other class\n"
unfolding changes_text rows_text change_rows root_rows unplaced_rows stands_at stood_at left_from is_listed id_line heading change_line weights_column name_column at_left at_right root_numbers unplaced_numbers kind_text last_lines setting_lines tunables_line kinds_line rules_line emptied_lines class_lines classes class_line untaken_text other_order rule_takes weighs_nothing bucket_name totals_line counts_line first_counts last_counts all_ids all_buckets all_devices digits
changes_again = refl

abbrev ruled : SettingData
ruled = record {
  kinds = type 11 (codes "root") ∷ [];
  tunables = [];
  rules = record { name = codes "data"; id = 0; kind = codes "replicated"; min_size = None; max_size = None; steps = take 1 (Some (codes "hdd")) ∷ (take 2 None ∷ (emit ∷ [])) } ∷ [];
}

abbrev tops_before : List Row
tops_before = rows_of (record {
  roots = bucket (header 1 11 (codes "a")) 65536 1 (device (of_class (codes "hdd")) none) (bucket (header 2 11 (codes "b")) 65536 1 (device (leaf 1 (codes "osd.1") 65536) none) none);
  unplaced = device (leaf 2 (codes "osd.2") 0) none;
  root_capacity = 2;
  unplaced_capacity = 1;
})

abbrev tops_after : List Row
tops_after = rows_of (record {
  roots = bucket (header 1 11 (codes "a")) 196608 2 (device (of_class (codes "ssd")) (bucket (header 2 11 (codes "b")) 131072 1 (device (leaf 2 (codes "osd.2") 131072) none) none)) none;
  unplaced = device (leaf 1 (codes "osd.1") 0) none;
  root_capacity = 1;
  unplaced_capacity = 1;
})

changes_tops : changes_text (plain_map ruled tops_before) (plain_map ruled tops_after)
    ≡ codes "ID  CLASS  WAS      WEIGHT   TYPE NAME\n-1         1.00000  3.00000  root a\n 0    ssd  1.00000  1.00000      osd.0 (class hdd to ssd)\n-2               -  2.00000      root b (from (root))\n 2               -  2.00000          osd.2 (from (unplaced))\n 1         1.00000        -          osd.1\n-2         1.00000        -  root b\n 1               -  0.00000  osd.1 (from b)\n 2         0.00000        -  osd.2\nrule data takes nothing: a~hdd weighs 0.00000\nclass hdd weighed 1.00000, weighs 0.00000\nclass ssd weighed 0.00000, weighs 1.00000\nclass ssd is new, and no rule takes it\ntotal 2.00000 to 3.00000\n0 made, 0 removed, 0 renamed, 3 moved, 4 of other weight, 1 of other class\n"
unfolding changes_text rows_text change_rows root_rows unplaced_rows stands_at stood_at left_from is_listed id_line heading change_line weights_column name_column at_left at_right root_numbers unplaced_numbers kind_text last_lines setting_lines tunables_line kinds_line rules_line emptied_lines class_lines classes class_line untaken_text other_order rule_takes weighs_nothing bucket_name totals_line counts_line first_counts last_counts all_ids all_buckets all_devices digits
changes_tops = refl

-- a map is compared with itself
changes_itself : changes_text (of example) (of example) ≡ codes "ID  CLASS  WAS  WEIGHT  TYPE NAME\ntotal 2.50000 to 2.50000\n0 made, 0 removed, 0 renamed, 0 moved, 0 of other weight, 0 of other class\n"
unfolding changes_text rows_text change_rows root_rows unplaced_rows stands_at stood_at left_from is_listed id_line heading change_line weights_column name_column at_left at_right root_numbers unplaced_numbers kind_text last_lines setting_lines tunables_line kinds_line rules_line emptied_lines class_lines classes class_line untaken_text other_order rule_takes weighs_nothing bucket_name totals_line counts_line first_counts last_counts all_ids all_buckets all_devices digits
changes_itself = refl
