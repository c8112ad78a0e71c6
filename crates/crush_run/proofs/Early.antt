-- Faults that are possible before there is a history, and their notes.
use Rattle.std.proofs.Common.{◌≡◌, ℕ, Bool, List, [], Option, Result, Err}
use Rattle.crush_model.specs.Table.{Row}
use Rattle.crush_edits.specs.Setting.{SettingData}
use Rattle.crush_history.specs.History.{EntryData}
use Rattle.crush_options.specs.declared.parsed_options.Mode.{Mode}
use Rattle.crush_input.specs.declared.output.Output.{Output}
use Rattle.crush_input.specs.declared.fault.RunFault.{RunFault}
use Rattle.crush_input.specs.declared.fault.RunFault.TheVariants as run
use Rattle.crush_input.specs.Lost.{IsLossless, LostData}
use Rattle.crush_input.specs.Notes.{AreNotesOfHistory, AreNotesOfFault, IsNoMake, AreNotesOfResult, IsStrict, TextData}
use Rattle.crush_reasons.specs.Place.{OriginData}
use Rattle.crush_run.specs.Found.{IsFound}
use Rattle.crush_run.specs.Planned.{IsWhole}
use Rattle.crush_run.specs.Early.{IsEarlyFault}
use Rattle.crush_run.specs.Stages.{IsScriptsFault}
use Rattle.crush_input.specs.Stages.{IsInputFault, IsNoJob, IsReadFault}

-- after such a fault, what IsStrict promises about refused entries holds for any history
strict_of_early : (X : Type 0) (strict : Bool) (h : List EntryData) (f : RunFault) → IsEarlyFault f → IsStrict {X = X} strict h (Err f)
strict_of_early X strict h (run.Job j) early = tt
strict_of_early X strict h run.Read early = tt
strict_of_early X strict h run.Write early = absurd early
strict_of_early X strict h run.Memory early = tt
strict_of_early X strict h run.Thread early = tt
strict_of_early X strict h (run.Refused n) early = absurd early
strict_of_early X strict h (run.Made n) early = absurd early
strict_of_early X strict h (run.Conflicts n) early = absurd early
strict_of_early X strict h (run.Differs n) early = absurd early
strict_of_early X strict h run.NoItem early = absurd early
strict_of_early X strict h run.NoType early = absurd early
strict_of_early X strict h run.NoClass early = absurd early
strict_of_early X strict h (run.SecondMap w s) early = tt

pub early_strict : {X : Type 0} (strict : Bool) (h : List EntryData) (r : Result X RunFault) (f : RunFault) → r ≡ Err f → IsEarlyFault f → IsStrict strict h r
early_strict {X = X} strict h r f is early = rw is (strict_of_early X strict h f early)

-- after such a fault, what IsNoMake promises about created buckets holds for any history
make_of_early : (X : Type 0) (no_make : Bool) (h : List EntryData) (f : RunFault) → IsEarlyFault f → IsNoMake {X = X} no_make h (Err f)
make_of_early X no_make h (run.Job j) early = tt
make_of_early X no_make h run.Read early = tt
make_of_early X no_make h run.Write early = absurd early
make_of_early X no_make h run.Memory early = tt
make_of_early X no_make h run.Thread early = tt
make_of_early X no_make h (run.Refused n) early = absurd early
make_of_early X no_make h (run.Made n) early = absurd early
make_of_early X no_make h (run.Conflicts n) early = absurd early
make_of_early X no_make h (run.Differs n) early = absurd early
make_of_early X no_make h run.NoItem early = absurd early
make_of_early X no_make h run.NoType early = absurd early
make_of_early X no_make h run.NoClass early = absurd early
make_of_early X no_make h (run.SecondMap w s) early = tt

pub early_make : {X : Type 0} (no_make : Bool) (h : List EntryData) (r : Result X RunFault) (f : RunFault) → r ≡ Err f → IsEarlyFault f → IsNoMake no_make h r
early_make {X = X} no_make h r f is early = rw is (make_of_early X no_make h f early)

-- nor of changes that are lost
lossless_of_early : (X : Type 0) (conflicts : Bool) (lost : LostData) (f : RunFault) → IsEarlyFault f → IsLossless {X = X} conflicts lost (Err f)
lossless_of_early X conflicts lost (run.Job j) early = tt
lossless_of_early X conflicts lost run.Read early = tt
lossless_of_early X conflicts lost run.Write early = absurd early
lossless_of_early X conflicts lost run.Memory early = tt
lossless_of_early X conflicts lost run.Thread early = tt
lossless_of_early X conflicts lost (run.Refused n) early = absurd early
lossless_of_early X conflicts lost (run.Made n) early = absurd early
lossless_of_early X conflicts lost (run.Conflicts n) early = absurd early
lossless_of_early X conflicts lost (run.Differs n) early = absurd early
lossless_of_early X conflicts lost run.NoItem early = absurd early
lossless_of_early X conflicts lost run.NoType early = absurd early
lossless_of_early X conflicts lost run.NoClass early = absurd early
lossless_of_early X conflicts lost (run.SecondMap w s) early = tt

pub early_lossless : {X : Type 0} (conflicts : Bool) (lost : LostData) (r : Result X RunFault) (f : RunFault) → r ≡ Err f → IsEarlyFault f → IsLossless conflicts lost r
early_lossless {X = X} conflicts lost r f is early = rw is (lossless_of_early X conflicts lost f early)

-- nor of names that the map doesn't have
found_of_early : (X : Type 0) (what : Output) (s : SettingData) (t : List Row) (f : RunFault) → IsEarlyFault f → IsFound {X = X} what s t (Err f)
found_of_early X what s t (run.Job j) early = tt
found_of_early X what s t run.Read early = tt
found_of_early X what s t run.Write early = absurd early
found_of_early X what s t run.Memory early = tt
found_of_early X what s t run.Thread early = tt
found_of_early X what s t (run.Refused n) early = absurd early
found_of_early X what s t (run.Made n) early = absurd early
found_of_early X what s t (run.Conflicts n) early = absurd early
found_of_early X what s t (run.Differs n) early = absurd early
found_of_early X what s t run.NoItem early = absurd early
found_of_early X what s t run.NoType early = absurd early
found_of_early X what s t run.NoClass early = absurd early
found_of_early X what s t (run.SecondMap w o) early = tt

pub early_found : {X : Type 0} (what : Output) (s : SettingData) (t : List Row) (r : Result X RunFault) (f : RunFault) → r ≡ Err f → IsEarlyFault f → IsFound what s t r
early_found {X = X} what s t r f is early = rw is (found_of_early X what s t f early)

-- after such a fault, what IsWhole promises about remaining differences holds for any plan
whole_of_early : (X : Type 0) (strict : Bool) (rest : List (List ℕ)) (f : RunFault) → IsEarlyFault f → IsWhole {X = X} strict rest (Err f)
whole_of_early X strict rest (run.Job j) early = tt
whole_of_early X strict rest run.Read early = tt
whole_of_early X strict rest run.Write early = absurd early
whole_of_early X strict rest run.Memory early = tt
whole_of_early X strict rest run.Thread early = tt
whole_of_early X strict rest (run.Refused n) early = absurd early
whole_of_early X strict rest (run.Made n) early = absurd early
whole_of_early X strict rest (run.Conflicts n) early = absurd early
whole_of_early X strict rest (run.Differs n) early = absurd early
whole_of_early X strict rest run.NoItem early = absurd early
whole_of_early X strict rest run.NoType early = absurd early
whole_of_early X strict rest run.NoClass early = absurd early
whole_of_early X strict rest (run.SecondMap w s) early = tt

pub early_whole : {X : Type 0} (strict : Bool) (rest : List (List ℕ)) (r : Result X RunFault) (f : RunFault) → r ≡ Err f → IsEarlyFault f → IsWhole strict rest r
early_whole {X = X} strict rest r f is early = rw is (whole_of_early X strict rest f early)

-- nor of the notes of a history
told_of_early : (X : Type 0) (mode : Mode) (text : TextData) (s : SettingData) (t : List Row) (names : List (List ℕ)) (h : List EntryData) (rest : List ℕ) (lost : LostData) (f : RunFault) (notes : List ℕ) → IsEarlyFault f → AreNotesOfHistory {X = X} mode text s t names h rest lost (Err f) notes
told_of_early X mode text s t names h rest lost (run.Job j) notes early = tt
told_of_early X mode text s t names h rest lost run.Read notes early = tt
told_of_early X mode text s t names h rest lost run.Write notes early = absurd early
told_of_early X mode text s t names h rest lost run.Memory notes early = tt
told_of_early X mode text s t names h rest lost run.Thread notes early = tt
told_of_early X mode text s t names h rest lost (run.Refused n) notes early = absurd early
told_of_early X mode text s t names h rest lost (run.Made n) notes early = absurd early
told_of_early X mode text s t names h rest lost (run.Conflicts n) notes early = absurd early
told_of_early X mode text s t names h rest lost (run.Differs n) notes early = absurd early
told_of_early X mode text s t names h rest lost run.NoItem notes early = absurd early
told_of_early X mode text s t names h rest lost run.NoType notes early = absurd early
told_of_early X mode text s t names h rest lost run.NoClass notes early = absurd early
told_of_early X mode text s t names h rest lost (run.SecondMap w o) notes early = tt

pub early_told : {X : Type 0} (mode : Mode) (text : TextData) (s : SettingData) (t : List Row) (names : List (List ℕ)) (h : List EntryData) (rest : List ℕ) (lost : LostData) (r : Result X RunFault) (f : RunFault) (notes : List ℕ) → r ≡ Err f → IsEarlyFault f → AreNotesOfHistory mode text s t names h rest lost r notes
early_told {X = X} mode text s t names h rest lost r f notes is early = rw is (told_of_early X mode text s t names h rest lost f notes early)

-- a fault of reading the bytes has no notes, and neither has a fault of running the scripts
noted_of_input : (explain : Bool) (origin : ℕ → OriginData) (all : Option (List ℕ)) (f : RunFault) (notes : List ℕ) → IsInputFault f → notes ≡ [] → AreNotesOfFault explain origin all f notes
noted_of_input explain origin all (run.Job j) notes h none = absurd h
noted_of_input explain origin all run.Read notes h none = none
noted_of_input explain origin all run.Write notes h none = absurd h
noted_of_input explain origin all run.Memory notes h none = none
noted_of_input explain origin all run.Thread notes h none = absurd h
noted_of_input explain origin all (run.Refused n) notes h none = absurd h
noted_of_input explain origin all (run.Made n) notes h none = absurd h
noted_of_input explain origin all (run.Conflicts n) notes h none = absurd h
noted_of_input explain origin all (run.Differs n) notes h none = absurd h
noted_of_input explain origin all run.NoItem notes h none = absurd h
noted_of_input explain origin all run.NoType notes h none = absurd h
noted_of_input explain origin all run.NoClass notes h none = absurd h
noted_of_input explain origin all (run.SecondMap w s) notes h none = absurd h

pub input_noted : {X : Type 0} (explain : Bool) (origin : ℕ → OriginData) (all : Option (List ℕ)) (r : Result X RunFault) (f : RunFault) (notes : List ℕ) → r ≡ Err f → IsInputFault f → notes ≡ [] → AreNotesOfResult explain origin all r notes
input_noted explain origin all r f notes is h none = rw is (noted_of_input explain origin all f notes h none)

noted_of_scripts : (explain in_turn : Bool) (origin : ℕ → OriginData) (all : Option (List ℕ)) (f : RunFault) (notes : List ℕ) → IsScriptsFault in_turn f → notes ≡ [] → AreNotesOfFault explain origin all f notes
noted_of_scripts explain in_turn origin all (run.Job j) notes h none = absurd h
noted_of_scripts explain in_turn origin all run.Read notes h none = absurd h
noted_of_scripts explain in_turn origin all run.Write notes h none = absurd h
noted_of_scripts explain in_turn origin all run.Memory notes h none = none
noted_of_scripts explain in_turn origin all run.Thread notes h none = none
noted_of_scripts explain in_turn origin all (run.Refused n) notes h none = absurd h
noted_of_scripts explain in_turn origin all (run.Made n) notes h none = absurd h
noted_of_scripts explain in_turn origin all (run.Conflicts n) notes h none = absurd h
noted_of_scripts explain in_turn origin all (run.Differs n) notes h none = absurd h
noted_of_scripts explain in_turn origin all run.NoItem notes h none = absurd h
noted_of_scripts explain in_turn origin all run.NoType notes h none = absurd h
noted_of_scripts explain in_turn origin all run.NoClass notes h none = absurd h
noted_of_scripts explain in_turn origin all (run.SecondMap w s) notes h none = absurd h

pub scripts_noted : {X : Type 0} (explain in_turn : Bool) (origin : ℕ → OriginData) (all : Option (List ℕ)) (r : Result X RunFault) (f : RunFault) (notes : List ℕ) → r ≡ Err f → IsScriptsFault in_turn f → notes ≡ [] → AreNotesOfResult explain origin all r notes
scripts_noted explain in_turn origin all r f notes is h none = rw is (noted_of_scripts explain in_turn origin all f notes h none)

-- these faults are possible before there is a history: faults of reading the bytes, faults of parsing them, and faults of running the scripts
pub early_of_input : (f : RunFault) → IsInputFault f → IsEarlyFault f
early_of_input (run.Job j) h = absurd h
early_of_input run.Read h = tt
early_of_input run.Write h = absurd h
early_of_input run.Memory h = tt
early_of_input run.Thread h = absurd h
early_of_input (run.Refused n) h = absurd h
early_of_input (run.Made n) h = absurd h
early_of_input (run.Conflicts n) h = absurd h
early_of_input (run.Differs n) h = absurd h
early_of_input run.NoItem h = absurd h
early_of_input run.NoType h = absurd h
early_of_input run.NoClass h = absurd h
early_of_input (run.SecondMap w s) h = absurd h

pub early_of_scripts : (in_turn : Bool) (f : RunFault) → IsScriptsFault in_turn f → IsEarlyFault f
early_of_scripts in_turn (run.Job j) h = absurd h
early_of_scripts in_turn run.Read h = absurd h
early_of_scripts in_turn run.Write h = absurd h
early_of_scripts in_turn run.Memory h = tt
early_of_scripts in_turn run.Thread h = tt
early_of_scripts in_turn (run.Refused n) h = absurd h
early_of_scripts in_turn (run.Made n) h = absurd h
early_of_scripts in_turn (run.Conflicts n) h = absurd h
early_of_scripts in_turn (run.Differs n) h = absurd h
early_of_scripts in_turn run.NoItem h = absurd h
early_of_scripts in_turn run.NoType h = absurd h
early_of_scripts in_turn run.NoClass h = absurd h
early_of_scripts in_turn (run.SecondMap w s) h = absurd h

pub early_of_no_job : (all : Option (List ℕ)) (f : RunFault) → IsNoJob all f → IsEarlyFault f
early_of_no_job all (run.Job j) h = tt
early_of_no_job all run.Read h = absurd h
early_of_no_job all run.Write h = absurd h
early_of_no_job all run.Memory h = tt
early_of_no_job all run.Thread h = absurd h
early_of_no_job all (run.Refused n) h = absurd h
early_of_no_job all (run.Made n) h = absurd h
early_of_no_job all (run.Conflicts n) h = absurd h
early_of_no_job all (run.Differs n) h = absurd h
early_of_no_job all run.NoItem h = absurd h
early_of_no_job all run.NoType h = absurd h
early_of_no_job all run.NoClass h = absurd h
early_of_no_job all (run.SecondMap w s) h = absurd h

pub early_of_read : (all : Option (List ℕ)) (f : RunFault) → IsReadFault all f → IsEarlyFault f
early_of_read all (run.Job j) h = tt
early_of_read all run.Read h = tt
early_of_read all run.Write h = absurd h
early_of_read all run.Memory h = tt
early_of_read all run.Thread h = absurd h
early_of_read all (run.Refused n) h = absurd h
early_of_read all (run.Made n) h = absurd h
early_of_read all (run.Conflicts n) h = absurd h
early_of_read all (run.Differs n) h = absurd h
early_of_read all run.NoItem h = absurd h
early_of_read all run.NoType h = absurd h
early_of_read all run.NoClass h = absurd h
early_of_read all (run.SecondMap w s) h = absurd h
