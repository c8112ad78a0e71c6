-- Command lines, and what their words ask for.
use Rattle.std.proofs.Common.{◌≡◌, [], ◌∷◌, Some, None, codes, refl}
use Rattle.clap.specs.declared.error.kind.ErrorKind.TheVariants.{DisplayHelp, DisplayVersion, ArgumentConflict, InvalidValue, UnknownArgument, TooManyValues}
use Rattle.clap.specs.Words.{fault_of, first_of, matches_of, one_of}
use Rattle.clap.proofs.OnLiterals.{clap_on_literals}
use Rattle.crush_options.specs.Options.{all_named, program}

no_words : (fault_of program [] ≡ []) × (one_of (codes "in-turn") (matches_of program []) ≡ Some (codes "false")) × (one_of (codes "no-history") (matches_of program []) ≡ Some (codes "false")) × (first_of (codes "FILE") (matches_of program []) ≡ None)
unfolding clap_on_literals
no_words = (refl, refl, refl, refl)

all_words : (fault_of program (codes "j.txt" ∷ codes "--no-history" ∷ codes "--in-turn" ∷ []) ≡ []) × (one_of (codes "in-turn") (matches_of program (codes "j.txt" ∷ codes "--no-history" ∷ codes "--in-turn" ∷ [])) ≡ Some (codes "true")) × (one_of (codes "no-history") (matches_of program (codes "j.txt" ∷ codes "--no-history" ∷ codes "--in-turn" ∷ [])) ≡ Some (codes "true")) × (first_of (codes "FILE") (matches_of program (codes "j.txt" ∷ codes "--no-history" ∷ codes "--in-turn" ∷ [])) ≡ Some (codes "j.txt"))
unfolding clap_on_literals
all_words = (refl, refl, refl, refl)

a_file_behind_dashes : first_of (codes "FILE") (matches_of program (codes "--" ∷ codes "--in-turn" ∷ [])) ≡ Some (codes "--in-turn")
unfolding clap_on_literals
a_file_behind_dashes = refl

two_files : fault_of program (codes "a" ∷ codes "b" ∷ []) ≡ UnknownArgument ∷ []
unfolding clap_on_literals
two_files = refl

another_flag : fault_of program (codes "--fly" ∷ []) ≡ UnknownArgument ∷ []
unfolding clap_on_literals
another_flag = refl

a_flag_twice : fault_of program (codes "--in-turn" ∷ codes "--in-turn" ∷ []) ≡ ArgumentConflict ∷ []
unfolding clap_on_literals
a_flag_twice = refl

a_flag_with_a_value : fault_of program (codes "--in-turn=yes" ∷ []) ≡ TooManyValues ∷ []
unfolding clap_on_literals
a_flag_with_a_value = refl

help : fault_of program (codes "a" ∷ codes "--help" ∷ []) ≡ DisplayHelp ∷ []
unfolding clap_on_literals
help = refl

version : fault_of program (codes "-V" ∷ []) ≡ DisplayVersion ∷ []
unfolding clap_on_literals
version = refl

since : (fault_of program (codes "--since" ∷ codes "m.txt" ∷ codes "j.txt" ∷ []) ≡ []) × (first_of (codes "since") (matches_of program (codes "--since" ∷ codes "m.txt" ∷ codes "j.txt" ∷ [])) ≡ Some (codes "m.txt")) × (first_of (codes "FILE") (matches_of program (codes "--since" ∷ codes "m.txt" ∷ codes "j.txt" ∷ [])) ≡ Some (codes "j.txt"))
unfolding clap_on_literals
since = (refl, refl, refl)

since_joined : first_of (codes "since") (matches_of program (codes "--since=m.txt" ∷ [])) ≡ Some (codes "m.txt")
unfolding clap_on_literals
since_joined = refl

since_without_a_map : fault_of program (codes "--since" ∷ []) ≡ InvalidValue ∷ []
unfolding clap_on_literals
since_without_a_map = refl

since_twice : fault_of program (codes "--since" ∷ codes "a" ∷ codes "--since" ∷ codes "b" ∷ []) ≡ ArgumentConflict ∷ []
unfolding clap_on_literals
since_twice = refl

scripts_in_order : (fault_of program (codes "-s" ∷ codes "a" ∷ codes "j.txt" ∷ codes "--script" ∷ codes "b" ∷ []) ≡ []) × (all_named (codes "script") (matches_of program (codes "-s" ∷ codes "a" ∷ codes "j.txt" ∷ codes "--script" ∷ codes "b" ∷ [])) ≡ codes "a" ∷ codes "b" ∷ [])
unfolding clap_on_literals
scripts_in_order = (refl, refl)

-- `clap` accepts these words, because each of them is right. The program itself decides whether the words can be given together
two_printed : (fault_of program (codes "--tree" ∷ codes "--since" ∷ codes "m" ∷ []) ≡ []) × (one_of (codes "tree") (matches_of program (codes "--tree" ∷ codes "--since" ∷ codes "m" ∷ [])) ≡ Some (codes "true"))
unfolding clap_on_literals
two_printed = (refl, refl)

to : (fault_of program (codes "--to" ∷ codes "w.txt" ∷ codes "--as-ceph" ∷ codes "--by-name" ∷ codes "j.txt" ∷ []) ≡ []) × (first_of (codes "to") (matches_of program (codes "--to" ∷ codes "w.txt" ∷ codes "--as-ceph" ∷ codes "--by-name" ∷ codes "j.txt" ∷ [])) ≡ Some (codes "w.txt")) × (one_of (codes "by-name") (matches_of program (codes "--to" ∷ codes "w.txt" ∷ codes "--as-ceph" ∷ codes "--by-name" ∷ codes "j.txt" ∷ [])) ≡ Some (codes "true"))
unfolding clap_on_literals
to = (refl, refl, refl)

to_without_a_map : fault_of program (codes "--to" ∷ []) ≡ InvalidValue ∷ []
unfolding clap_on_literals
to_without_a_map = refl

exact_to_a_file : (fault_of program (codes "--exact" ∷ codes "-o" ∷ codes "n.txt" ∷ codes "j.txt" ∷ []) ≡ []) × (one_of (codes "exact") (matches_of program (codes "--exact" ∷ codes "-o" ∷ codes "n.txt" ∷ codes "j.txt" ∷ [])) ≡ Some (codes "true")) × (first_of (codes "output") (matches_of program (codes "--exact" ∷ codes "-o" ∷ codes "n.txt" ∷ codes "j.txt" ∷ [])) ≡ Some (codes "n.txt")) × (first_of (codes "FILE") (matches_of program (codes "--exact" ∷ codes "-o" ∷ codes "n.txt" ∷ codes "j.txt" ∷ [])) ≡ Some (codes "j.txt"))
unfolding clap_on_literals
exact_to_a_file = (refl, refl, refl, refl)

output_twice : fault_of program (codes "-o" ∷ codes "a" ∷ codes "--output" ∷ codes "b" ∷ []) ≡ ArgumentConflict ∷ []
unfolding clap_on_literals
output_twice = refl
