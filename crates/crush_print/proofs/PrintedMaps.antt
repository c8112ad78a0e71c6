-- The texts of the empty map and of the plain example map, computed.
use Rattle.std.proofs.Common.{◌≡◌, refl}
use Rattle.std.specs.Prelude.{ℕ, pos, negsuc, true, false, List, [], ◌∷◌, Some, None, codes}
use Rattle.std.specs.Fmt.{digits}
use Rattle.crush_units.specs.declared.alg.Alg.TheVariants.{Straw, Straw2}
use Rattle.crush_model.specs.Items.{LeafData, HeaderData, none, device, bucket}
use Rattle.crush_model.specs.Forest.{rows_of}
use Rattle.crush_edits.specs.Setting.{KindData, SettingData, RuleData, take, choose, set, emit}
use Rattle.crush_model.specs.Table.{Row}
use Rattle.crush_print.specs.declared.weight_form.WeightForm.TheVariants.{Rounded, Exact}
use Rattle.crush_print.specs.Lines.{weight_in, tunable_line, device_line, kind_line, item_line, class_id_line, bucket_head, bucket_choice, bucket_lines}
use Rattle.crush_print.specs.RuleLines.{bucket_name, take_line, choice_text, choose_line, set_line, rule_head, size_line, rule_lines}
use Rattle.crush_print.specs.MapText.{device_numbers, kind_numbers, root_numbers, device_lines, root_texts, of_row, kind_text, kids_lines, bucket_text, bucket_numbers, tunable_section, device_section, kind_section, bucket_section, rule_section, map_text}

-- a device without class
abbrev leaf : ℕ → List ℕ → ℕ → LeafData
leaf d n w = record { id = d; name = n; weight = w; class = None }

-- a bucket of the algorithm straw2 without class ids
abbrev header : ℕ → ℕ → List ℕ → HeaderData
header b k n = record { id = b; kind = k; name = n; alg = Straw2; class_ids = [] }

-- a type
abbrev type : ℕ → List ℕ → KindData
type n name = record { number = n; name = name }

-- hosts h1 (-2) and h2 (-3) in the root default (-1)
abbrev example : List Row
example = rows_of (record {
  roots = bucket (header 1 11 (codes "default")) 163840 2
      (bucket (header 2 1 (codes "h1")) 131072 2 (device (leaf 0 (codes "osd.0") 65536) (device (leaf 1 (codes "osd.1") 65536) none))
      (bucket (header 3 1 (codes "h2")) 32768 1 (device (leaf 2 (codes "osd.2") 32768) none) none)) none;
  unplaced = none;
  root_capacity = 1;
  unplaced_capacity = 0;
})

-- the types of the plain example map
abbrev setting : SettingData
setting = record { kinds = type 0 (codes "osd") ∷ (type 1 (codes "host") ∷ (type 3 (codes "rack") ∷ (type 11 (codes "root") ∷ []))); tunables = []; rules = [] }

-- the text of a map without items
empty_map : map_text Rounded (record { kinds = []; tunables = []; rules = [] }) [] ≡ codes "# begin crush map\n\n# devices\n\n# types\n\n# buckets\n\n# rules\n\n# end crush map\n"
unfolding map_text tunable_section device_section kind_section bucket_section rule_section device_lines root_texts bucket_numbers device_numbers kind_numbers root_numbers
empty_map = refl

-- the sections of the plain example map, and its whole text
example_devices : device_section example ≡ codes "\n# devices\ndevice 0 osd.0\ndevice 1 osd.1\ndevice 2 osd.2\n"
unfolding device_section device_lines device_numbers of_row device_line digits
example_devices = refl

-- its types
example_types : kind_section setting ≡ codes "\n# types\ntype 0 osd\ntype 1 host\ntype 3 rack\ntype 11 root\n"
unfolding kind_section kind_numbers kind_text kind_line digits
example_types = refl

-- its buckets: a host
example_host : bucket_text Rounded setting example 2 ≡ codes "host h1 {\n\tid -2\t\t# do not change unnecessarily\n\t# weight 2.00000\n\talg straw2\n\thash 0\t# rjenkins1\n\titem osd.0 weight 1.00000\n\titem osd.1 weight 1.00000\n}\n"
unfolding bucket_text of_row kids_lines item_line bucket_head bucket_choice bucket_lines kind_text digits
example_host = refl

-- the other host
example_other : bucket_text Rounded setting example 3 ≡ codes "host h2 {\n\tid -3\t\t# do not change unnecessarily\n\t# weight 0.50000\n\talg straw2\n\thash 0\t# rjenkins1\n\titem osd.2 weight 0.50000\n}\n"
unfolding bucket_text of_row kids_lines item_line bucket_head bucket_choice bucket_lines kind_text digits
example_other = refl

-- and the root that holds both hosts
example_root : bucket_text Rounded setting example 1 ≡ codes "root default {\n\tid -1\t\t# do not change unnecessarily\n\t# weight 2.50000\n\talg straw2\n\thash 0\t# rjenkins1\n\titem h1 weight 2.00000\n\titem h2 weight 0.50000\n}\n"
unfolding bucket_text of_row kids_lines item_line bucket_head bucket_choice bucket_lines kind_text digits
example_root = refl

-- the whole text
example_map : map_text Rounded setting example ≡ codes "# begin crush map\n\n# devices\ndevice 0 osd.0\ndevice 1 osd.1\ndevice 2 osd.2\n\n# types\ntype 0 osd\ntype 1 host\ntype 3 rack\ntype 11 root\n\n# buckets\nhost h1 {\n\tid -2\t\t# do not change unnecessarily\n\t# weight 2.00000\n\talg straw2\n\thash 0\t# rjenkins1\n\titem osd.0 weight 1.00000\n\titem osd.1 weight 1.00000\n}\nhost h2 {\n\tid -3\t\t# do not change unnecessarily\n\t# weight 0.50000\n\talg straw2\n\thash 0\t# rjenkins1\n\titem osd.2 weight 0.50000\n}\nroot default {\n\tid -1\t\t# do not change unnecessarily\n\t# weight 2.50000\n\talg straw2\n\thash 0\t# rjenkins1\n\titem h1 weight 2.00000\n\titem h2 weight 0.50000\n}\n\n# rules\n\n# end crush map\n"
unfolding map_text tunable_section device_section kind_section bucket_section rule_section device_lines root_texts device_numbers kind_numbers root_numbers bucket_numbers bucket_text of_row kids_lines device_line kind_line item_line bucket_head bucket_choice bucket_lines kind_text digits
example_map = refl

-- the whole text with exact weights
exact_map : map_text Exact setting example ≡ codes "# begin crush map\n\n# devices\ndevice 0 osd.0\ndevice 1 osd.1\ndevice 2 osd.2\n\n# types\ntype 0 osd\ntype 1 host\ntype 3 rack\ntype 11 root\n\n# buckets\nhost h1 {\n\tid -2\t\t# do not change unnecessarily\n\t# weight 2.000000\n\talg straw2\n\thash 0\t# rjenkins1\n\titem osd.0 weight 1.000000\n\titem osd.1 weight 1.000000\n}\nhost h2 {\n\tid -3\t\t# do not change unnecessarily\n\t# weight 0.500000\n\talg straw2\n\thash 0\t# rjenkins1\n\titem osd.2 weight 0.500000\n}\nroot default {\n\tid -1\t\t# do not change unnecessarily\n\t# weight 2.500000\n\talg straw2\n\thash 0\t# rjenkins1\n\titem h1 weight 2.000000\n\titem h2 weight 0.500000\n}\n\n# rules\n\n# end crush map\n"
unfolding map_text tunable_section device_section kind_section bucket_section rule_section device_lines root_texts device_numbers kind_numbers root_numbers bucket_numbers bucket_text of_row kids_lines device_line kind_line item_line bucket_head bucket_choice bucket_lines kind_text digits
exact_map = refl

-- two roots, the later one with class ids and a device that has a class, and a device that no bucket holds
abbrev ssd : List ℕ
ssd = codes "ssd"

-- two roots, and devices that aren't in order
abbrev two_roots : List Row
two_roots = rows_of (record {
  roots = bucket (record { id = 9; kind = 1; name = codes "h9"; alg = Straw; class_ids = record { id = 10; class = ssd } ∷ [] }) 1 1
      (device (record { id = 12; name = codes "osd.12"; weight = 1; class = Some ssd }) none)
      (bucket (header 4 11 (codes "spare")) 0 1 none none);
  unplaced = device (leaf 7 (codes "osd.7") 0) none;
  root_capacity = 2;
  unplaced_capacity = 1;
})

-- the devices, by ascending id
two_roots_devices : device_section two_roots ≡ codes "\n# devices\ndevice 7 osd.7\ndevice 12 osd.12 class ssd\n"
unfolding device_section device_lines device_numbers of_row device_line digits
two_roots_devices = refl

-- the roots, from -1 downward
two_roots_buckets : bucket_section Rounded setting two_roots ≡ codes "\n# buckets\nroot spare {\n\tid -4\t\t# do not change unnecessarily\n\t# weight 0.00000\n\talg straw2\n\thash 0\t# rjenkins1\n}\nhost h9 {\n\tid -9\t\t# do not change unnecessarily\n\tid -10 class ssd\t\t# do not change unnecessarily\n\t# weight 0.00002\n\talg straw\n\thash 0\t# rjenkins1\n\titem osd.12 weight 0.00002\n}\n"
unfolding bucket_section root_texts root_numbers bucket_numbers bucket_text of_row kids_lines item_line class_id_line bucket_head bucket_choice bucket_lines kind_text digits
two_roots_buckets = refl

-- the same with exact weights
two_roots_exact : bucket_section Exact setting two_roots ≡ codes "\n# buckets\nroot spare {\n\tid -4\t\t# do not change unnecessarily\n\t# weight 0.000000\n\talg straw2\n\thash 0\t# rjenkins1\n}\nhost h9 {\n\tid -9\t\t# do not change unnecessarily\n\tid -10 class ssd\t\t# do not change unnecessarily\n\t# weight 0.000016\n\talg straw\n\thash 0\t# rjenkins1\n\titem osd.12 weight 0.000016\n}\n"
unfolding bucket_section root_texts root_numbers bucket_numbers bucket_text of_row kids_lines item_line class_id_line bucket_head bucket_choice bucket_lines kind_text digits
two_roots_exact = refl

-- weights in both forms
rounded_weights : (weight_in Rounded 1 ≡ codes "0.00002") × (weight_in Rounded 119208 ≡ codes "1.81897") × (weight_in Rounded 238465 ≡ codes "3.63869") × (weight_in Rounded 4294967295 ≡ codes "65535.99998")
unfolding digits
rounded_weights = (refl, refl, refl, refl)

exact_weights : (weight_in Exact 1 ≡ codes "0.000016") × (weight_in Exact 119208 ≡ codes "1.818970") × (weight_in Exact 238465 ≡ codes "3.638688") × (weight_in Exact 4294967295 ≡ codes "65535.999985")
unfolding digits
exact_weights = (refl, refl, refl, refl)

-- the example map with a tunable and a rule
abbrev replicated : RuleData
replicated = record {
  name = codes "replicated_rule";
  id = 0;
  kind = codes "replicated";
  min_size = None;
  max_size = None;
  steps = take 1 None ∷ (choose true true (pos 0) (codes "host") ∷ (emit ∷ []));
}

abbrev whole : SettingData
whole = record { kinds = setting.kinds; tunables = record { name = codes "choose_total_tries"; value = 50 } ∷ []; rules = replicated ∷ [] }

whole_tunables : tunable_section whole ≡ codes "# begin crush map\ntunable choose_total_tries 50\n"
unfolding tunable_section tunable_line digits
whole_tunables = refl

whole_rules : rule_section whole example ≡ codes "\n# rules\nrule replicated_rule {\n\tid 0\n\ttype replicated\n\tstep take default\n\tstep chooseleaf firstn 0 type host\n\tstep emit\n}\n"
unfolding rule_section rule_lines rule_head size_line bucket_name take_line choose_line choice_text digits
whole_rules = refl

-- a rule with both sizes and a step of each kind; it takes a bucket that was renamed after the rule was read
abbrev every_step : RuleData
every_step = record {
  name = codes "ec";
  id = 7;
  kind = codes "erasure";
  min_size = Some 3;
  max_size = Some 6;
  steps = set (codes "set_chooseleaf_tries") 5 ∷ (take 9 (Some ssd) ∷ (choose false true (pos 2) (codes "host") ∷ (choose false false (negsuc 0) (codes "osd") ∷ (choose true false (pos 0) (codes "host") ∷ (emit ∷ [])))));
}

every_step_lines : rule_lines two_roots every_step ≡ codes "rule ec {\n\tid 7\n\ttype erasure\n\tmin_size 3\n\tmax_size 6\n\tstep set_chooseleaf_tries 5\n\tstep take h9 class ssd\n\tstep choose firstn 2 type host\n\tstep choose indep -1 type osd\n\tstep chooseleaf indep 0 type host\n\tstep emit\n}\n"
unfolding rule_lines rule_head size_line bucket_name take_line choose_line set_line choice_text digits
every_step_lines = refl
