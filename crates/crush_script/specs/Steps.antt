-- How the result of a function that reads lines agrees with the result of its definition: both are the same, unless the function runs out of memory.
use Rattle.std.specs.Prelude.{◌≡◌, Result, Ok, Err}
use Rattle.crush_script.specs.declared.fault.JobFault.{JobFault}
use Rattle.crush_script.specs.declared.fault.JobFault.TheVariants.{Text, OutOfMemory, TooLong}
use Rattle.crush_script.specs.declared.sections.Sections.{Sections}
use Rattle.crush_script.specs.Sections.{SectionsData, sections_data}

-- a function that fails with this fault agrees with the result `given` of its definition. The function may always fail with OutOfMemory. It never fails with Text or TooLong. If it fails with another fault, `given` is the same fault
abbrev pub FailsAs : JobFault → Result SectionsData JobFault → Type 0
FailsAs OutOfMemory given = Unit {0}
FailsAs (Text fault) given = ⊥
FailsAs TooLong given = ⊥
FailsAs fault given = given ≡ Err fault

-- a function that leaves the sections `new` agrees with the result `given` of its definition. If the function succeeds, `given` is these sections. If it fails, its fault is as in `FailsAs`
abbrev pub Steps : {X : Type 0} → Result X JobFault → SectionsData → Result SectionsData JobFault → Type 0
Steps (Ok x) new given = given ≡ Ok new
Steps (Err fault) new given = FailsAs fault given

-- the same for a function that returns the sections
abbrev pub GivesSections : Result Sections JobFault → Result SectionsData JobFault → Type 0
GivesSections (Ok s) given = given ≡ Ok (sections_data s)
GivesSections (Err fault) given = FailsAs fault given
