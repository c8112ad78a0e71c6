-- Proves that the printed text of a map is read back as that map.
use Rattle.std.proofs.Common.{List, ℕ, refl}
use Rattle.crush_model.specs.Lawful.{Lawful}
use Rattle.crush_model.specs.Table.{Row}
use Rattle.crush_edits.specs.Setting.{SettingData}
use Rattle.crush_edits.specs.Fits.{Fits}
use Rattle.crush_print.specs.MapText.{map_text}
use Rattle.crush_laws.specs.ReadingBack.{in_order, InOrderIsTheSame, IsTextOf, IsReadAs, PrintedTextsAreReadBack, CommentsBehindAreNoMatter}
use Rattle.crush_laws.proofs.BuiltBuckets.{buckets_are_built}
use Rattle.crush_laws.proofs.BuiltKinds.{kinds_reordered}
use Rattle.crush_laws.proofs.BuiltMaps.{types_are_read_in_order, comments_behind}
use Rattle.crush_laws.proofs.PrintedAgain.{read_back_prints_alike}

pub in_order_is_the_same : InOrderIsTheSame
in_order_is_the_same s t f = record { kinds = kinds_reordered s f.setting; tunables = refl; rules = refl }

-- bytes that are the text of the map with its types in order are read as the map
read_as_it : (bytes : List ℕ) (s : SettingData) (t : List Row) → Lawful t → Fits s t → IsTextOf bytes (in_order s) t → IsReadAs bytes s t
read_as_it bytes s t l f is = record { setting = in_order s; settings = in_order_is_the_same s t f; map = is; again = λ form. read_back_prints_alike form s t is.table l f is.same }

pub printed_texts_are_read_back : PrintedTextsAreReadBack
printed_texts_are_read_back form s t l f = read_as_it (map_text form s t) s t l f (types_are_read_in_order buckets_are_built form s t l f)

pub comments_behind_are_no_matter : CommentsBehindAreNoMatter
comments_behind_are_no_matter form s t comments l f are = read_as_it _ s t l f (comments_behind buckets_are_built form s t comments l f are)
