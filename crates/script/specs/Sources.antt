-- Byte strings, as a line gives them.
use Rattle.std.specs.Prelude.{◌≡◌, ℕ, Bool, cond, ◌&&◌, not, List, [], ◌∷◌, Ok, vec_items, string_bytes, codes, Result, Vec, ◌==◌, slice_index}
use Rattle.std.specs.declared.alloc.Global.{Global}
use Rattle.std.specs.Result.{result_map_both}
use Rattle.std.specs.Str.{bytes_eq as same_text}
use Rattle.script.specs.Files.{IsReadFile}
use Rattle.script.specs.Hex.{bytes_in_hex}
use Rattle.script.specs.States.{has_mark, states_in_words}
use Rattle.script.specs.declared.mistake.Mistake.{Mistake}
use Rattle.script.specs.declared.source.ByteSource.{ByteSource}
use Rattle.script.specs.declared.source.ByteSource.TheVariants.{Given, File}

-- bytes themselves, or the path of the file that has them
pub data Source : Type 0 where
  bytes_given : List ℕ → Source
  file_at : List ℕ → Source

abbrev pub source_of : ByteSource → Source
source_of (Given bytes) = bytes_given (vec_items bytes)
source_of (File path) = file_at (string_bytes path)

abbrev pub as_given : Result (List ℕ) Mistake → Result Source Mistake
as_given r = result_map_both bytes_given (λ e. e) r

-- @PATH is a file; any other word is read as hex
abbrev pub file_or_hex : List ℕ → Result Source Mistake
file_or_hex [] = as_given (bytes_in_hex [])
file_or_hex (c ∷ path) = cond (c == 64) (Ok (file_at path)) (as_given (bytes_in_hex (c ∷ path)))

-- what a word for bytes stands for: - for none, @PATH for those of a file, else hex digits
abbrev pub source_in : List ℕ → Result Source Mistake
source_in w = cond (same_text w (codes "-")) (Ok (bytes_given [])) (file_or_hex w)

-- the word has an equals sign, and is no path
abbrev pub is_in_words : List ℕ → Bool
is_in_words w = has_mark 61 w && not (slice_index w 0 == 64)

-- what a word for states stands for: states in words, or else what it stands for as a word for bytes
abbrev pub states_in : List ℕ → Result Source Mistake
states_in w = cond (is_in_words w) (as_given (states_in_words w)) (source_in w)

-- bytes that the line gives are taken as they are
abbrev pub Loads : ByteSource → Result (Vec ℕ Global) Mistake → Type 0
Loads (Given bytes) r = r ≡ Ok bytes
Loads (File path) r = IsReadFile r
