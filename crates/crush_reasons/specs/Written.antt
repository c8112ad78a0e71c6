-- The buckets whose weight in a map's text isn't the sum of the weights of all devices below them.
use Rattle.std.specs.Prelude.{◌≡◌, ℕ, ◌==◌, ◌&&◌, Bool, true, false, List, [], ◌∷◌, ◌++◌, Option, Some, None, Result, Ok, Err, bytes_eq, codes, if◌then◌else◌}
use Rattle.crush_units.specs.declared.id.ItemId.{ItemId}
use Rattle.crush_units.specs.declared.id.ItemId.TheVariants.{Device, Bucket}
use Rattle.crush_units.specs.declared.weight.WeightFault.{WeightFault}
use Rattle.crush_units.specs.Weight.{weight_of_text, weight_text}
use Rattle.std.specs.List.{list_any}
use Rattle.crush_units.specs.Words.{Word, texts, words}
use Rattle.crush_script.specs.Lines.{line_feeds}
use Rattle.crush_model.specs.Table.{Row, id_named, weight_of}
use Rattle.crush_reasons.specs.declared.written.Scan.{Scan}

-- the end of the line for a bucket, after the weight in the text: `sum` is the bucket's weight in the table
abbrev pub sum_told : ℕ → List ℕ
sum_told sum = codes " was written, the sum is " ++ weight_text sum ++ codes "\n"

-- the line for a bucket whose weight in the text (`written`) isn't its sum
abbrev pub unequal_line : List ℕ → List ℕ → ℕ → List ℕ
unequal_line name written sum = name ++ codes ": " ++ written ++ sum_told sum

-- the line for a bucket (`unequal_line`), if the word `written` is a weight that isn't the sum; otherwise nothing
abbrev pub line_of_weight : List ℕ → List ℕ → ℕ → Result ℕ WeightFault → List ℕ
line_of_weight name written sum (Err f) = []
line_of_weight name written sum (Ok w) = if w == sum then [] else unequal_line name written sum

abbrev pub line_of_sum : List ℕ → List ℕ → Option ℕ → List ℕ
line_of_sum name written None = []
line_of_sum name written (Some sum) = line_of_weight name written sum (weight_of_text written)

-- the weight of a bucket in the table; none for any other item
abbrev pub bucket_sum : List Row → Option ItemId → Option ℕ
bucket_sum t None = None
bucket_sum t (Some (Device d)) = None
bucket_sum t (Some (Bucket b)) = weight_of t (Bucket b)

-- the line for an item of a bucket in the text. The list has the words that follow after the word `item`: a name, `weight`, and the weight in the text. There is no line if there are fewer than three words, if the second word isn't `weight`, if no bucket has the name, if the third word isn't a weight, or if this weight is the bucket's sum
abbrev pub item_line : List Row → List (List ℕ) → List ℕ
item_line t (name ∷ key ∷ weight ∷ rest) = if bytes_eq key (codes "weight") then line_of_sum name weight (bucket_sum t (id_named t name)) else []
item_line t words = []

-- whether the text after a word is between braces; `inside` says whether the word itself is between braces
abbrev pub is_inside : Bool → List ℕ → Bool
is_inside inside w = if bytes_eq w (codes "{") then true else (if bytes_eq w (codes "}") then false else inside)

-- the lines for all items in these words. `inside` says whether the first word is between braces. Each word `item` between braces begins an item
unfoldable pub item_lines : Bool → List Row → List (List ℕ) → List ℕ
item_lines inside t [] = []
item_lines inside t (w ∷ ws) = (if inside && bytes_eq w (codes "item") then item_line t ws else []) ++ item_lines (is_inside inside w) t ws

-- whether a text has carriage returns and no line feed. Such a text is read as one line, so a comment, which begins with `#`, goes on to the end of the text
abbrev pub has_returns_alone : List ℕ → Bool
has_returns_alone bytes = line_feeds bytes == 0 && list_any (λ b. b == 13) bytes

abbrev pub returns_text : List ℕ → List ℕ
returns_text bytes = if has_returns_alone bytes then codes "the text has carriage returns but no line feeds, so its first comment never ends\n" else []

-- the lines for the weights in a map's text: one for each `item NAME weight W` between braces in which NAME is a bucket, and W is a weight that isn't the bucket's weight in the table
abbrev pub weights_text : List Row → List ℕ → List ℕ
weights_text t bytes = item_lines false t (texts (words 0 bytes).words)

-- WRITTEN TEXT: the warning about carriage returns if the text has them and no line feed, followed by the lines for the weights
abbrev pub written_text : List Row → List ℕ → List ℕ
written_text t bytes = returns_text bytes ++ weights_text t bytes

-- the first of the words `old` is this word, and the words `new` are those after it
abbrev pub IsNextWord : List ℕ → List Word → List Word → Type 0
IsNextWord text old new = (place : ℕ) × (old ≡ (record { place = place; text = text }) ∷ new)

-- the words of a text from the position of a scan on
abbrev pub words_left : Scan → List (List ℕ)
words_left s = s.item.now ∷ s.name.now ∷ s.key.now ∷ texts s.reader.words

-- the lines for the items in the words from this position on
abbrev pub lines_left : List Row → Scan → List ℕ
lines_left t s = item_lines s.inside t (words_left s)

-- the line for the item that begins at this position, if `weight` is the fourth word from there on
abbrev pub first_line : List Row → Scan → List ℕ → List ℕ
first_line t s weight = if s.inside && bytes_eq s.item.now (codes "item") then item_line t (s.name.now ∷ s.key.now ∷ weight ∷ []) else []
