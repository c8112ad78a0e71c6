-- Each keyword can be recovered from its word.
use Rattle.std.proofs.Common.{◌≡◌, refl}
use Rattle.crush_text.specs.declared.expected.Keyword.{Keyword}
use Rattle.crush_text.specs.declared.expected.Keyword.TheVariants as keyword
use Rattle.crush_text.specs.Expected.{keyword_word, keyword_of}

pub keyword_again : (k : Keyword) → keyword_of (keyword_word k) ≡ k
keyword_again keyword.Brace = refl
keyword_again keyword.Id = refl
keyword_again keyword.Class = refl
keyword_again keyword.Type = refl
keyword_again keyword.Hash = refl
keyword_again keyword.Weight = refl
keyword_again keyword.MinSize = refl
keyword_again keyword.MaxSize = refl
