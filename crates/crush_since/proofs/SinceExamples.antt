-- Examples: the texts that say what has changed between two maps, computed from the definition.
use Rattle.std.proofs.Common.{◌≡◌, refl}
use Rattle.std.specs.Prelude.{ℕ, List, [], ◌∷◌, Some, None, codes}
use Rattle.crush_units.specs.declared.alg.Alg.TheVariants.{Straw}
use Rattle.crush_edits.specs.Setting.{SettingData, take, emit}
use Rattle.crush_print.proofs.Examples.{type}
use Rattle.std.specs.Fmt.{digits}
use Rattle.crush_model.specs.Items.{LeafData, Items, none, device, bucket}
use Rattle.crush_model.specs.Forest.{rows_of}
use Rattle.crush_model.specs.Table.{Row}
use Rattle.crush_print.specs.RuleLines.{bucket_name}
use Rattle.crush_since.specs.Classes.{class_lines, classes, class_line, untaken_text}
use Rattle.crush_since.specs.Rules.{other_order, rule_takes, weighs_nothing}
use Rattle.crush_since.specs.Emptied.{emptied_lines}
use Rattle.crush_since.specs.Settings.{tunables_line, kinds_line, rules_line, setting_lines}
use Rattle.crush_since.specs.Since.{PlainMap, plain_map, id_line, all_ids, all_buckets, all_devices, item_lines, totals_line, last_lines, since_text}
use Rattle.crush_since.specs.Tallies.{first_counts, last_counts, counts_line}
use Rattle.crush_print.proofs.Examples.{leaf, header, setting, example}

abbrev pub of_roots : Items → List Row
of_roots roots = rows_of (record { roots = roots; unplaced = none; root_capacity = 1; unplaced_capacity = 0 })

abbrev pub of : List Row → PlainMap
of t = plain_map setting t

-- osd.0 has moved from h1 to h2
abbrev pub moved : List Row
moved = of_roots (bucket (header 1 11 (codes "default")) 163840 2
    (bucket (header 2 1 (codes "h1")) 65536 2 (device (leaf 1 (codes "osd.1") 65536) none)
    (bucket (header 3 1 (codes "h2")) 98304 2 (device (leaf 2 (codes "osd.2") 32768) (device (leaf 0 (codes "osd.0") 65536) none)) none)) none)

since_moved : since_text (of example) (of moved)
    ≡ codes "h1 (-2): weight 2.00000 to 1.00000\nh2 (-3): weight 0.50000 to 1.50000\nosd.0 (0): from h1 (-2) to h2 (-3)\ntotal 2.50000 to 2.50000\n0 made, 0 removed, 0 renamed, 1 moved, 2 of other weight, 0 of other class\n"
unfolding since_text last_lines emptied_lines class_lines classes class_line untaken_text other_order rule_takes weighs_nothing item_lines id_line all_ids all_buckets all_devices setting_lines tunables_line kinds_line rules_line totals_line counts_line first_counts last_counts digits
since_moved = refl

-- a device, its host and the host's rack are new
abbrev pub grown : List Row
grown = of_roots (bucket (header 1 11 (codes "default")) 229376 3
    (bucket (header 2 1 (codes "h1")) 131072 2 (device (leaf 0 (codes "osd.0") 65536) (device (leaf 1 (codes "osd.1") 65536) none))
    (bucket (header 3 1 (codes "h2")) 32768 1 (device (leaf 2 (codes "osd.2") 32768) none)
    (bucket (header 5 3 (codes "r1")) 65536 1 (bucket (header 4 1 (codes "h3")) 65536 1 (device (leaf 3 (codes "osd.3") 65536) none) none) none))) none)

since_grown : since_text (of example) (of grown)
    ≡ codes "default (-1): weight 2.50000 to 3.50000\nh3 (-4): made as host in r1 (-5), weight 1.00000\nr1 (-5): made as rack in default (-1), weight 1.00000\nosd.3 (3): made as osd in h3 (-4), weight 1.00000\ntotal 2.50000 to 3.50000\n3 made, 0 removed, 0 renamed, 0 moved, 1 of other weight, 0 of other class\n"
unfolding since_text last_lines emptied_lines class_lines classes class_line untaken_text other_order rule_takes weighs_nothing item_lines id_line all_ids all_buckets all_devices setting_lines tunables_line kinds_line rules_line totals_line counts_line first_counts last_counts digits
since_grown = refl

-- a device, its host and the host's rack are removed
since_shrunk : since_text (of grown) (of example)
    ≡ codes "default (-1): weight 3.50000 to 2.50000\nh3 (-4): removed, was host in r1 (-5), weight 1.00000\nr1 (-5): removed, was rack in default (-1), weight 1.00000\nosd.3 (3): removed, was osd in h3 (-4), weight 1.00000\ntotal 3.50000 to 2.50000\n0 made, 3 removed, 0 renamed, 0 moved, 1 of other weight, 0 of other class\n"
unfolding since_text last_lines emptied_lines class_lines classes class_line untaken_text other_order rule_takes weighs_nothing item_lines id_line all_ids all_buckets all_devices setting_lines tunables_line kinds_line rules_line totals_line counts_line first_counts last_counts digits
since_shrunk = refl

-- h1 and h2 have exchanged their names and items
abbrev pub swapped : List Row
swapped = of_roots (bucket (header 1 11 (codes "default")) 163840 2
    (bucket (header 2 1 (codes "h2")) 32768 2 (device (leaf 2 (codes "osd.2") 32768) none)
    (bucket (header 3 1 (codes "h1")) 131072 2 (device (leaf 0 (codes "osd.0") 65536) (device (leaf 1 (codes "osd.1") 65536) none)) none)) none)

since_swapped : since_text (of example) (of swapped)
    ≡ codes "h2 (-2): was h1; weight 2.00000 to 0.50000\nh1 (-3): was h2; weight 0.50000 to 2.00000\nosd.0 (0): from h1 (-2) to h1 (-3)\nosd.1 (1): from h1 (-2) to h1 (-3)\nosd.2 (2): from h2 (-3) to h2 (-2)\ntotal 2.50000 to 2.50000\n0 made, 0 removed, 2 renamed, 3 moved, 2 of other weight, 0 of other class\n"
unfolding since_text last_lines emptied_lines class_lines classes class_line untaken_text other_order rule_takes weighs_nothing item_lines id_line all_ids all_buckets all_devices setting_lines tunables_line kinds_line rules_line totals_line counts_line first_counts last_counts digits
since_swapped = refl

-- a map is compared with itself
since_itself : since_text (of example) (of example) ≡ codes "total 2.50000 to 2.50000\n0 made, 0 removed, 0 renamed, 0 moved, 0 of other weight, 0 of other class\n"
unfolding since_text last_lines emptied_lines class_lines classes class_line untaken_text other_order rule_takes weighs_nothing item_lines id_line all_ids all_buckets all_devices setting_lines tunables_line kinds_line rules_line totals_line counts_line first_counts last_counts digits
since_itself = refl

-- every column and every part of a setting differs. h1 has another type, another algorithm and a class id. osd.0 has got a class. osd.2 has become unplaced and has lost its class. h2 has become a root
abbrev before : List Row
before = rows_of (record {
  roots = bucket (header 1 11 (codes "default")) 98304 2
      (bucket (header 2 1 (codes "h1")) 65536 2 (device (leaf 0 (codes "osd.0") 65536) none)
      (bucket (header 3 1 (codes "h2")) 32768 1 (device (record { id = 2; name = codes "osd.2"; weight = 32768; class = Some (codes "hdd") }) none) none)) none;
  unplaced = none;
  root_capacity = 1;
  unplaced_capacity = 0;
})

abbrev after : List Row
after = rows_of (record {
  roots = bucket (header 1 11 (codes "default")) 65536 2
      (bucket (record { id = 2; kind = 3; name = codes "h1"; alg = Straw; class_ids = record { id = 9; class = codes "ssd" } ∷ [] }) 65536 2 (device (record { id = 0; name = codes "osd.0"; weight = 65536; class = Some (codes "ssd") }) none) none)
      (bucket (header 3 1 (codes "h2")) 0 1 none none);
  unplaced = device (leaf 2 (codes "osd.2") 0) none;
  root_capacity = 2;
  unplaced_capacity = 1;
})

-- a setting with another tunable, another type, and a rule that takes another bucket
abbrev of_rule : List ℕ → ℕ → List ℕ → SettingData
of_rule osd taken tunable = record {
  kinds = type 0 osd ∷ (type 1 (codes "host") ∷ (type 3 (codes "rack") ∷ (type 11 (codes "root") ∷ [])));
  tunables = record { name = tunable; value = 1 } ∷ [];
  rules = record { name = codes "data"; id = 0; kind = codes "replicated"; min_size = None; max_size = Some 3; steps = take taken None ∷ (emit ∷ []) } ∷ [];
}

since_each : since_text (plain_map (of_rule (codes "osd") 1 (codes "chooseleaf_stable")) before) (plain_map (of_rule (codes "device") 2 (codes "chooseleaf_vary_r")) after)
    ≡ codes "default (-1): weight 1.50000 to 1.00000\nh1 (-2): type host to rack; alg straw2 to straw; class ids\nh2 (-3): from default (-1) to (root); weight 0.50000 to 0.00000\nosd.0 (0): class (none) to ssd\nosd.2 (2): from h2 (-3) to (unplaced); weight 0.50000 to 0.00000; class hdd to (none)\ntunables differ\ntypes differ\nrule data differs\nclass hdd weighed 0.50000, weighs 0.00000\nclass ssd weighed 0.00000, weighs 1.00000\nclass ssd is new, and no rule takes it\ntotal 1.50000 to 1.00000\n0 made, 0 removed, 0 renamed, 2 moved, 3 of other weight, 2 of other class\n"
unfolding since_text last_lines emptied_lines class_lines classes class_line untaken_text other_order rule_takes weighs_nothing item_lines id_line all_ids all_buckets all_devices setting_lines tunables_line kinds_line rules_line totals_line counts_line first_counts last_counts digits
since_each = refl

-- types in another order are the same types
since_renamed : since_text (plain_map (record { kinds = type 0 (codes "osd") ∷ (type 11 (codes "root") ∷ []); tunables = []; rules = [] }) (of_roots (bucket (header 1 11 (codes "a")) 0 0 none none)))
    (plain_map (record { kinds = type 11 (codes "root") ∷ (type 0 (codes "osd") ∷ []); tunables = []; rules = [] }) (of_roots (bucket (header 1 11 (codes "b")) 0 0 none none)))
    ≡ codes "b (-1): was a\ntotal 0.00000 to 0.00000\n0 made, 0 removed, 1 renamed, 0 moved, 0 of other weight, 0 of other class\n"
unfolding since_text last_lines emptied_lines class_lines classes class_line untaken_text other_order rule_takes weighs_nothing item_lines id_line all_ids all_buckets all_devices setting_lines tunables_line kinds_line rules_line totals_line counts_line first_counts last_counts digits
since_renamed = refl

-- a rule with three steps: it takes the devices of a class, and there are none any more; it takes a host, which is empty now; and it takes a class that no device had before
abbrev taking : SettingData
taking = record {
  kinds = setting.kinds;
  tunables = [];
  rules = record { name = codes "data"; id = 0; kind = codes "replicated"; min_size = None; max_size = None; steps = take 1 (Some (codes "hdd")) ∷ (take 2 None ∷ (take 1 (Some (codes "nvme")) ∷ (emit ∷ []))) } ∷ [];
}

abbrev pub of_class : List ℕ → LeafData
of_class c = record { id = 0; name = codes "osd.0"; weight = 65536; class = Some c }

since_emptied : since_text
    (plain_map taking (of_roots (bucket (header 1 11 (codes "default")) 65536 2 (bucket (header 2 1 (codes "h1")) 65536 1 (device (of_class (codes "hdd")) none) (bucket (header 3 1 (codes "h2")) 0 0 none none)) none)))
    (plain_map taking (of_roots (bucket (header 1 11 (codes "default")) 65536 2 (bucket (header 2 1 (codes "h1")) 0 1 none (bucket (header 3 1 (codes "h2")) 65536 1 (device (of_class (codes "ssd")) none) none)) none)))
    ≡ codes "h1 (-2): weight 1.00000 to 0.00000\nh2 (-3): weight 0.00000 to 1.00000\nosd.0 (0): from h1 (-2) to h2 (-3); class hdd to ssd\nrule data takes nothing: default~hdd weighs 0.00000\nrule data takes nothing: h1 weighs 0.00000\nclass hdd weighed 1.00000, weighs 0.00000\nclass ssd weighed 0.00000, weighs 1.00000\nclass ssd is new, and no rule takes it\ntotal 1.00000 to 1.00000\n0 made, 0 removed, 0 renamed, 1 moved, 2 of other weight, 1 of other class\n"
unfolding since_text last_lines emptied_lines class_lines classes class_line untaken_text other_order rule_takes weighs_nothing bucket_name item_lines id_line all_ids all_buckets all_devices setting_lines tunables_line kinds_line rules_line totals_line counts_line first_counts last_counts digits
since_emptied = refl
