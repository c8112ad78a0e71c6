-- Proves that a setting has the same printed text as the same setting with its types in the order of their numbers.
use Rattle.std.proofs.Common.{◌≡◌, ℕ, List, [], ◌∷◌, ◌++◌, refl, sym, ap, ◌∙◌}
use Rattle.std.specs.Prelude.{map, flat_map, codes, unwrap_or, ◌==◌}
use Rattle.std.specs.Option.{option_map}
use Rattle.crush_units.specs.declared.id.ItemId.TheVariants.{Bucket}
use Rattle.crush_model.specs.Table.{Row, sum_below}
use Rattle.crush_model.proofs.Reorder.{reordered-find}
use Rattle.crush_model.proofs.Same.{Same-sym}
use Rattle.crush_edits.specs.Setting.{KindData, SettingData}
use Rattle.crush_edits.specs.Fits.{IsSetting}
use Rattle.crush_print.specs.declared.weight_form.WeightForm.{WeightForm}
use Rattle.crush_print.specs.Lines.{kind_line, bucket_lines}
use Rattle.crush_print.specs.MapText.{ascending, kind_numbers, kind_text, of_row, kids_lines, bucket_text, bucket_numbers, root_texts, tunable_section, device_section, kind_section, bucket_section, rule_section, map_text}
use Rattle.crush_print.proofs.SameText.{map_text-same}
use Rattle.crush_print.proofs.Sorting.{ascending_same, times-ascending}
use Rattle.crush_laws.specs.ReadingBack.{printed_kind, in_order, ReadBackPrintsAlike}
use Rattle.crush_laws.proofs.BuiltKinds.{kinds_reordered}

own_numbers : (s : SettingData) (ns : List ℕ) → map (λ (k : KindData). k.number) (map (printed_kind s) ns) ≡ ns
own_numbers s [] = refl
own_numbers s (n ∷ ns) = ap (λ l. n ∷ l) (own_numbers s ns)

module _ (form : WeightForm) (s : SettingData) (f : IsSetting s) where
  text_again : (n : ℕ) → kind_text (in_order s) n ≡ kind_text s n
  unfolding kind_text
  text_again n = ap (λ o. unwrap_or (option_map (λ (k : KindData). k.name) o) []) (sym (reordered-find (λ (k : KindData). k.number == n) (kinds_reordered s f) (f.numbers n)))

  numbers_again : kind_numbers (in_order s) ≡ kind_numbers s
  unfolding kind_numbers
  numbers_again =
      let ns = map (λ (k : KindData). k.number) s.kinds in
      ap ascending (own_numbers s (ascending ns)) ∙ ascending_same (ascending ns) ns (λ n. times-ascending n ns)

  kinds_again : kind_section (in_order s) ≡ kind_section s
  unfolding kind_section
  kinds_again = λ i. codes "\n# types\n" ++ flat_map (λ n. kind_line n (text_again n i)) (numbers_again i)

  bucket_again : (t : List Row) (b : ℕ) → bucket_text form (in_order s) t b ≡ bucket_text form s t b
  unfolding bucket_text
  bucket_again t b = λ i. of_row t (Bucket b) (λ (r : Row). bucket_lines form (text_again r.kind i) r (sum_below t b) (kids_lines form t b))

  bucket_section_again : (t : List Row) → bucket_section form (in_order s) t ≡ bucket_section form s t
  unfolding bucket_section root_texts
  bucket_section_again t = λ k. codes "\n# buckets\n" ++ flat_map (λ b. bucket_again t b k) (bucket_numbers t)

  tunables_again : tunable_section (in_order s) ≡ tunable_section s
  unfolding tunable_section
  tunables_again = refl

  rules_again : (t : List Row) → rule_section (in_order s) t ≡ rule_section s t
  unfolding rule_section
  rules_again t = refl

  text_in_order : (t : List Row) → map_text form (in_order s) t ≡ map_text form s t
  unfolding map_text
  text_in_order t = λ k. tunables_again k ++ device_section t ++ kinds_again k ++ bucket_section_again t k ++ rules_again t k ++ codes "\n# end crush map\n"

-- the map that is read back from a printed map has the same printed text
pub read_back_prints_alike : ReadBackPrintsAlike
read_back_prints_alike form s t u l f same = let setting = f.setting in sym (map_text-same form (in_order s) t u l (Same-sym u t same)) ∙ text_in_order form s setting t
