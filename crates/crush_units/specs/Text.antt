-- The bytes of a text, which is stored in the value itself if it is short, and otherwise in allocated memory.
use Rattle.std.specs.Prelude.{ℕ, List, string_bytes}
use Rattle.crush_units.specs.declared.text.Text.{Text}
use Rattle.crush_units.specs.declared.text.Text.TheVariants.{Short, Long}

-- the bytes of a text, wherever they are stored
abbrev pub text_bytes : {A : Type 0} → Text A → List ℕ
text_bytes (Short bytes) = bytes
text_bytes (Long text) = string_bytes text
