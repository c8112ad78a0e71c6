-- What a job is, and with which faults reading fails if the bytes aren't a job.
use Rattle.std.specs.Prelude.{◌≡◌, ℕ, ◌<◌, ◌≤◌, List, length, Ok, Err}
use Rattle.crush_model.specs.Table.{Row}
use Rattle.crush_edits.specs.Setting.{SettingData}
use Rattle.crush_map.specs.MapData.{MapStands}
use Rattle.crush_text.specs.Document.{IsMapText}
use Rattle.crush_text.specs.declared.fault.TextFault.{TextFault}
use Rattle.crush_script.specs.declared.fault.JobFault.{JobFault}
use Rattle.crush_script.specs.declared.fault.JobFault.TheVariants.{Text, OutOfMemory, TooLong}
use Rattle.crush_script.specs.declared.job.Job.{Job}
use Rattle.crush_script.specs.Lines.{map_part}
use Rattle.crush_script.specs.MapPart.{IsTextFault}
use Rattle.crush_history.specs.Script.{ScriptData, scripts_data}
use Rattle.crush_script.specs.Sections.{SectionsData, sections_of}
use Rattle.crush_units.specs.declared.limits.TheConstants.{LONGEST_JOB}

-- the content of a job: the setting and the table of its map, the number of buckets whose weight in the map's text was replaced by a sum, and the scripts. The setting of a map consists of its types, tunables and rules. The table of a map is the list of its devices and buckets
pub record JobData : Type 0 where
  pub setting : SettingData
  pub table : List Row
  pub adjusted : ℕ
  pub scripts : List ScriptData

-- JOB: the bytes are this job. There are at most LONGEST_JOB bytes, the part before the first section is the text of the job's map, and the scripts of the sections are the job's scripts.
pub record IsJob (bytes : List ℕ) (job : JobData) : Type 0 where
  pub short : length bytes ≤ LONGEST_JOB
  pub map : IsMapText (map_part bytes) job.setting job.table job.adjusted
  pub said : SectionsData
  pub sections : sections_of bytes ≡ Ok said
  pub scripts : said.scripts ≡ job.scripts

-- the bytes are some job
abbrev pub HasJob : List ℕ → Type 0
HasJob bytes = (job : JobData) × IsJob bytes job

-- the value `read` is this job. Its map has the job's setting and represents the job's table. It also has the job's number of replaced weights, and the job's scripts
pub record JobStands (read : Job) (job : JobData) : Type 0 where
  pub map : MapStands read.map job.setting job.table
  pub adjusted : read.adjusted ≡ job.adjusted
  pub scripts : scripts_data read.scripts.items ≡ job.scripts

-- there are at most LONGEST_JOB bytes, the part before the first section is the text of a map, and `fault` is the fault of the first faulty line of the sections
pub record IsLineFault (bytes : List ℕ) (fault : JobFault) : Type 0 where
  pub short : length bytes ≤ LONGEST_JOB
  pub setting : SettingData
  pub table : List Row
  pub adjusted : ℕ
  pub map : IsMapText (map_part bytes) setting table adjusted
  pub sections : sections_of bytes ≡ Err fault

-- there are at most LONGEST_JOB bytes, and reading the part before the first section as a map may fail with this fault
pub record LacksMap (bytes : List ℕ) (fault : TextFault) : Type 0 where
  pub short : length bytes ≤ LONGEST_JOB
  pub map : IsTextFault (map_part bytes) fault

-- there are at most LONGEST_JOB bytes, and the part before the first section is the text of a map
pub record HasMap (bytes : List ℕ) : Type 0 where
  pub short : length bytes ≤ LONGEST_JOB
  pub setting : SettingData
  pub table : List Row
  pub adjusted : ℕ
  pub map : IsMapText (map_part bytes) setting table adjusted

-- in which cases reading the bytes may fail with each fault. The length is checked first, then the map's text, and then the lines of the sections in their order. OutOfMemory means that memory for the scripts ran out. This fault is possible whenever the part before the first section is the text of a map, even if a line of the sections is faulty.
abbrev pub IsJobFault : List ℕ → JobFault → Type 0
IsJobFault bytes TooLong = LONGEST_JOB < length bytes
IsJobFault bytes (Text fault) = LacksMap bytes fault
IsJobFault bytes OutOfMemory = HasMap bytes
IsJobFault bytes fault = IsLineFault bytes fault
