-- The faults with which reading the map's text of a job may fail.
use Rattle.std.specs.Prelude.{◌⊎◌, ℕ, List}
use Rattle.crush_model.specs.Table.{Row}
use Rattle.crush_edits.specs.Setting.{SettingData}
use Rattle.crush_text.specs.declared.fault.TextFault.{TextFault}
use Rattle.crush_text.specs.Document.{IsMapText}
use Rattle.crush_text.specs.Flaw.{IsMapFlaw, IsOutOfMemory}
use Rattle.crush_text.specs.InTime.{IsFoundInTime}

-- the text has this flaw (its first fault), and isn't the text of any map
pub record IsNoMap (text : List ℕ) (fault : TextFault) : Type 0 where
  pub flaw : IsMapFlaw text fault
  pub none : (s : SettingData) (t : List Row) (adjusted : ℕ) → IsMapText text s t adjusted → ⊥

-- the fault says that memory ran out. Either the place of the fault is the place of a word, and neither this word nor any word before it has a fault. Or the text has no words, and the place of the fault is the end of the text
pub record IsTextOutOfMemory (text : List ℕ) (fault : TextFault) : Type 0 where
  pub memory : IsOutOfMemory fault
  pub told : IsFoundInTime text fault

-- the fault is a flaw of the text as in `IsNoMap`, or it says that memory ran out as in `IsTextOutOfMemory`
abbrev pub IsTextFault : List ℕ → TextFault → Type 0
IsTextFault text fault = IsNoMap text fault ⊎ IsTextOutOfMemory text fault
