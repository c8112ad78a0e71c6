-- The tree of what has changed between two maps, computed for one device class.
use Rattle.std.proofs.Common.{◌≡◌, refl}
use Rattle.std.specs.Prelude.{List, None, codes}
use Rattle.std.specs.Fmt.{digits}
use Rattle.crush_model.specs.Items.{none, device, bucket}
use Rattle.crush_model.specs.Table.{Row}
use Rattle.crush_print.specs.MapText.{root_numbers, kind_text}
use Rattle.crush_print.specs.RuleLines.{bucket_name}
use Rattle.crush_print.specs.Tree.{unplaced_numbers}
use Rattle.crush_print.specs.TreePart.{whole_tree}
use Rattle.crush_print.specs.TreeText.{at_left, at_right}
use Rattle.crush_since.specs.ChangePart.{part_rows}
use Rattle.crush_since.specs.Changes.{stood_at, left_from, is_listed, stands_at, root_rows, unplaced_rows, change_rows}
use Rattle.crush_since.specs.ChangeText.{heading, weights_column, name_column, change_line, rows_text}
use Rattle.crush_since.specs.ClassChanges.{class_changes_text}
use Rattle.crush_since.specs.Classes.{class_lines, classes, class_line, untaken_text}
use Rattle.crush_since.specs.Emptied.{emptied_lines}
use Rattle.crush_since.specs.Rules.{other_order, rule_takes, weighs_nothing}
use Rattle.crush_since.specs.Settings.{tunables_line, kinds_line, rules_line, setting_lines}
use Rattle.crush_since.specs.Since.{plain_map, id_line, all_ids, all_buckets, all_devices, totals_line, last_lines}
use Rattle.crush_since.specs.Tallies.{first_counts, last_counts, counts_line}
use Rattle.crush_print.proofs.Examples.{header, setting}
use Rattle.crush_since.proofs.SinceExamples.{of_class, of_roots}

-- the host h1 has a device of the class ssd, and is below the rack r1
abbrev below_r1 : List Row
below_r1 = of_roots (bucket (header 1 11 (codes "default")) 65536 2
    (bucket (header 2 3 (codes "r1")) 65536 1 (bucket (header 4 1 (codes "h1")) 65536 1 (device (of_class (codes "ssd")) none) none)
    (bucket (header 3 3 (codes "r2")) 0 0 none none)) none)

-- the host is below the rack r2, and its device has another class
abbrev below_r2 : List Row
below_r2 = of_roots (bucket (header 1 11 (codes "default")) 65536 2
    (bucket (header 2 3 (codes "r1")) 0 0 none
    (bucket (header 3 3 (codes "r2")) 65536 1 (bucket (header 4 1 (codes "h1")) 65536 1 (device (of_class (codes "hdd")) none) none) none)) none)

-- the rack r2 has no device of the class ssd in either map, but it has a row because it is above rows of h1 and osd.0
changes_of_ssd : class_changes_text whole_tree (codes "ssd") (plain_map setting below_r1) (plain_map setting below_r2)
    ≡ codes "ID  CLASS  WAS      WEIGHT   TYPE NAME\n-1         1.00000  0.00000  root default\n-2         1.00000  0.00000      rack r1\n-4         1.00000        -          host h1\n-3         0.00000  0.00000      rack r2\n-4               -  0.00000          host h1 (from r1)\n 0    hdd  1.00000  0.00000              osd.0 (class ssd to hdd)\nclass hdd weighed 0.00000, weighs 1.00000\nclass ssd weighed 1.00000, weighs 0.00000\nclass hdd is new, and no rule takes it\ntotal 1.00000 to 1.00000\n0 made, 0 removed, 0 renamed, 1 moved, 2 of other weight, 1 of other class\n"
unfolding class_changes_text part_rows rows_text change_rows root_rows unplaced_rows stands_at stood_at left_from is_listed id_line heading change_line weights_column name_column at_left at_right root_numbers unplaced_numbers kind_text last_lines setting_lines tunables_line kinds_line rules_line emptied_lines class_lines classes class_line untaken_text other_order rule_takes weighs_nothing bucket_name totals_line counts_line first_counts last_counts all_ids all_buckets all_devices digits
changes_of_ssd = refl
