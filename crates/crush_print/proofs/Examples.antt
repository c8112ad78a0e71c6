-- The trees of the empty map and of the plain example map, computed.
use Rattle.std.proofs.Common.{◌≡◌, refl}
use Rattle.std.specs.Prelude.{ℕ, List, [], ◌∷◌, Some, None, codes}
use Rattle.std.specs.Fmt.{digits}
use Rattle.crush_units.specs.declared.alg.Alg.TheVariants.{Straw2}
use Rattle.crush_model.specs.Items.{LeafData, HeaderData, none, device, bucket}
use Rattle.crush_model.specs.Forest.{rows_of}
use Rattle.crush_model.specs.Table.{Row}
use Rattle.crush_edits.specs.Setting.{KindData, SettingData}
use Rattle.crush_print.specs.MapText.{root_numbers, kind_text}
use Rattle.crush_items.specs.Tree.{step_at, steps_at, unplaced_numbers, tree_rows}
use Rattle.crush_print.specs.TreeText.{at_right, at_left, step_line, heading, steps_text, tree_text}

-- a device without class
abbrev pub leaf : ℕ → List ℕ → ℕ → LeafData
leaf d n w = record { id = d; name = n; weight = w; class = None }

-- a bucket of the algorithm straw2 without class ids
abbrev pub header : ℕ → ℕ → List ℕ → HeaderData
header b k n = record { id = b; kind = k; name = n; alg = Straw2; class_ids = [] }

-- a type
abbrev pub type : ℕ → List ℕ → KindData
type n name = record { number = n; name = name }

-- hosts h1 (-2) and h2 (-3) in the root default (-1)
abbrev pub example : List Row
example = rows_of (record {
  roots = bucket (header 1 11 (codes "default")) 163840 2
      (bucket (header 2 1 (codes "h1")) 131072 2 (device (leaf 0 (codes "osd.0") 65536) (device (leaf 1 (codes "osd.1") 65536) none))
      (bucket (header 3 1 (codes "h2")) 32768 1 (device (leaf 2 (codes "osd.2") 32768) none) none)) none;
  unplaced = none;
  root_capacity = 1;
  unplaced_capacity = 0;
})

-- a root (-4), a root (-2) with a device of a class, and two devices that no bucket holds
abbrev other : List Row
other = rows_of (record {
  roots = bucket (header 4 11 (codes "b")) 0 0 none
      (bucket (header 2 1 (codes "a")) 1638400 1 (device (record { id = 10; name = codes "osd.10"; weight = 1638400; class = Some (codes "ssd") }) none) none);
  unplaced = device (leaf 7 (codes "osd.7") 0) (device (record { id = 3; name = codes "osd.3"; weight = 0; class = Some (codes "nvme-2") }) none);
  root_capacity = 2;
  unplaced_capacity = 2;
})

-- the types of the plain example map
abbrev pub setting : SettingData
setting = record { kinds = type 0 (codes "osd") ∷ (type 1 (codes "host") ∷ (type 3 (codes "rack") ∷ (type 11 (codes "root") ∷ []))); tunables = []; rules = [] }

-- the tree of a map without items: the heading alone
empty_tree : tree_text (record { kinds = []; tunables = []; rules = [] }) [] ≡ codes "ID  CLASS  WEIGHT  TYPE NAME\n"
unfolding tree_text tree_rows steps_text heading at_left root_numbers unplaced_numbers
empty_tree = refl

-- the tree of the plain example map
example_tree : tree_text setting example
    ≡ codes "ID  CLASS  WEIGHT   TYPE NAME\n-1         2.50000  root default\n-2         2.00000      host h1\n 0         1.00000          osd.0\n 1         1.00000          osd.1\n-3         0.50000      host h2\n 2         0.50000          osd.2\n"
unfolding tree_text tree_rows steps_text heading step_line at_left at_right step_at steps_at root_numbers unplaced_numbers kind_text digits
example_tree = refl

-- columns as wide as their longest word, roots from -1 downward, and the unplaced devices last
other_tree : tree_text setting other
    ≡ codes "ID  CLASS   WEIGHT    TYPE NAME\n-2          25.00000  host a\n10     ssd  25.00000      osd.10\n-4           0.00000  root b\n 3  nvme-2   0.00000  osd.3\n 7           0.00000  osd.7\n"
unfolding tree_text tree_rows steps_text heading step_line at_left at_right step_at steps_at root_numbers unplaced_numbers kind_text digits
other_tree = refl
