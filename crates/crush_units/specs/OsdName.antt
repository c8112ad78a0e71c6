-- The names that Ceph gives to devices.
use Rattle.std.specs.Prelude.{ℕ, List, ◌++◌, codes, decimal}

-- the name of the device with this id: `osd.`, and then the id in decimal without leading zeros
abbrev pub osd_name : ℕ → List ℕ
osd_name d = codes "osd." ++ decimal d
