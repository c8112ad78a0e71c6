-- If a verb's run succeeds, then its files contain maps that the verb can use.
use Rattle.std.specs.Prelude.{◌≡◌, ℕ, List, Option, Some}
use Rattle.crush_map.specs.MapData.{MapData}
use Rattle.crush_options.specs.declared.parsed_options.MapForm.{MapForm}
use Rattle.crush_options.specs.declared.parsed_options.Options.{Options}
use Rattle.crush_script.specs.Job.{HasJob}
use Rattle.crush_input.specs.Input.{first_bytes, job_bytes}
use Rattle.crush_input.specs.Options.{IsTextOf}
use Rattle.crush_input.specs.VerbMaps.{IsVerbMap, MayBeVerbMap}

-- FIRST MAPS: take bytes that may be a verb's map (`MayBeVerbMap`), and append the scripts of the command line. If the result is a job, then the bytes are a map that the verb can use
abbrev pub FirstMapsAreMaps : Type 0
FirstMapsAreMaps = (maps : MapForm) (content : List ℕ → Option (List ℕ)) (options : Options) (input : Option (List ℕ)) (bytes all : List ℕ)
    → MayBeVerbMap maps bytes → first_bytes content options.file input ≡ Some bytes → job_bytes content options input ≡ Some all → HasJob all → IsVerbMap maps bytes

-- OTHER MAPS: if bytes that may be a verb's map are the text of the second map of a run, then the bytes are a map that the verb can use
abbrev pub OtherMapsAreMaps : Type 0
OtherMapsAreMaps = (maps : MapForm) (map : MapData) (bytes : List ℕ) → MayBeVerbMap maps bytes → IsTextOf map bytes → IsVerbMap maps bytes

-- NO MAP IS REFUSED WITHOUT PARSING: if bytes are a map that the verb can use, then they also meet the conditions of `MayBeVerbMap`, which are tested without parsing
abbrev pub VerbMapsMayBeMaps : Type 0
VerbMapsMayBeMaps = (maps : MapForm) (bytes : List ℕ) → IsVerbMap maps bytes → MayBeVerbMap maps bytes
