-- The words that a reader of a text has not read yet, and the token that the reader returns for the next word.
use Rattle.std.specs.Prelude.{◌≡◌, true, ◌||◌, drop}
use Rattle.crush_units.specs.Name.{is_name}
use Rattle.crush_units.specs.declared.words.Lexer.{Lexer}
use Rattle.crush_units.specs.declared.words.Token.{Token}
use Rattle.crush_units.specs.declared.words.Token.TheVariants as token
use Rattle.crush_units.specs.Words.{Text, words, first, stopped, ended, bad, is_brace_word}

-- the words of the text that begin at the lexer's place or after it
abbrev pub left : Lexer → Text
left l = words l.place (drop l.place l.text.now)

-- a call that reads the next word has returned this token. The words of old were not read yet before the call, and the words of new are not read yet after it. If the token is a word, then it is the first word of old, and new has the words after it. If the token is the end of the text or a bad place, then old has no words, and new is the same as old
abbrev pub Nexts : Token → Text → Text → Type 0
Nexts (token.Word place text) old new = old ≡ first place text.now new
Nexts (token.End place) old new = (old ≡ stopped (ended place)) × (new ≡ old)
Nexts (token.Bad place) old new = (old ≡ stopped (bad place)) × (new ≡ old)

-- if the token is a word, then the word is a brace or a name
abbrev pub IsFormed : Token → Type 0
IsFormed (token.Word place text) = (is_brace_word text.now || is_name text.now) ≡ true
IsFormed (token.End place) = Unit {0}
IsFormed (token.Bad place) = Unit {0}
