-- The values that the program takes from the parsed words, and the fault with which it refuses the words.
use Rattle.std.proofs.Common.{◌≡◌, Bool, [], List, Option, Some, None, ap, ap₂, inl, inr, sym, subst, ◌∙◌}
use Rattle.std.specs.Borrow.{Bor}
use Rattle.std.specs.Prelude.{option_map}
use Rattle.clap.specs.Words.{Row, Text, fault_of, matches_of}
use Rattle.crush_options.specs.declared.parsed_options.OutputSpec.{OutputSpec}
use Rattle.crush_options.specs.declared.parsed_options.OptionsFault.{OptionsFault}
use Rattle.crush_options.specs.declared.parsed_options.OptionsFault.TheVariants.{Help, Refused, Memory}
use Rattle.crush_options.specs.Options.{IsConflictFault, IsFaultIn, IsRefusedFor, IsRefusedIf, IsConflict, program}
use Rattle.crush_options.specs.OutputFlags.{AreOutputFlags, IsOutputSpec, OutputFlagsData, complaint, flags_by}

-- if the program reads no value, the parsed words have no value
pub none_read : (r : Option (Bor Text)) (x y : Option Text) → r ≡ None → option_map (λ s. s.now) r ≡ x → x ≡ y → y ≡ None
none_read r x y is e f = sym f ∙ sym e ∙ ap (option_map (λ (s : Bor Text). s.now)) is

-- if the program reads a value and copies it, the parsed words have the copy as their value
pub some_read : (r : Option (Bor Text)) (s : Bor Text) (x y : Option Text) (copy : Text) → r ≡ Some s → copy ≡ s.now → option_map (λ (z : Bor Text). z.now) r ≡ x → x ≡ y → y ≡ Some copy
some_read r s x y copy is same e f = sym f ∙ sym e ∙ ap (option_map (λ (z : Bor Text). z.now)) is ∙ ap Some (sym same)

-- the fault for words that can't be given together is a fault of the command line
pub much_is_fault : (words : List Text) (rows : List Row) (fault : OptionsFault) → fault_of program words ≡ [] → rows ≡ matches_of program words → IsConflictFault rows fault → IsFaultIn words fault
much_is_fault words rows (Help text) right is much = absurd much
much_is_fault words rows (Refused text) right is much = inr (record { right = right; much = subst (λ z. IsConflict z text.bytes.items) is much })
much_is_fault words rows Memory right is much = tt

-- a refusal with a reason for which words can't be given together is a fault for such words
pub refused_much : (rows : List Row) (why : Text) (fault : OptionsFault) → IsConflict rows why → IsRefusedFor why fault → IsConflictFault rows fault
refused_much rows why (Help text) much told = told
refused_much rows why (Refused text) much told = subst (IsConflict rows) (sym told) much
refused_much rows why Memory much told = tt

-- a refusal with the error line of words that can't be given together is also such a fault
pub apart_much : (rows : List Row) (flags : OutputFlagsData) (why : Option Text) (fault : OptionsFault) → AreOutputFlags rows flags → why ≡ complaint flags → IsRefusedIf why fault → IsConflictFault rows fault
apart_much rows flags (Some text) fault are is told = refused_much rows text fault (inl (record { flags = flags; are = are; apart = sym is })) told
apart_much rows flags None fault are is told = subst (IsConflictFault rows) (sym told) tt

-- if the words can be given together and ask for this output, then this output is what is printed
pub printed_is : (rows : List Row) (flags : OutputFlagsData) (json exact : Bool) (output_spec : OutputSpec) → AreOutputFlags rows flags → json ≡ flags.json → exact ≡ flags.exact → flags_by flags.json flags.exact output_spec ≡ flags → complaint flags ≡ None → IsOutputSpec rows json exact output_spec
printed_is rows flags json exact output_spec are json_same exact_same is fits =
    let by : flags_by json exact output_spec ≡ flags = ap₂ (λ j e. flags_by j e output_spec) json_same exact_same ∙ is in
    record { flags = subst (AreOutputFlags rows) (sym by) are; together = ap complaint by ∙ fits }
