-- Bytes as hex digits, two to a byte, in either case.
use Rattle.std.specs.Prelude.{ℕ, List, Result}
use Rattle.std.specs.Result.{result_map_both}
use Rattle.hex.specs.Hex.{decode_of}
use Rattle.hex.specs.declared.error.FromHexError.{FromHexError}
use Rattle.hex.specs.declared.error.FromHexError.TheVariants.{InvalidHexCharacter, OddLength, InvalidStringLength, OutOfMemory}
use Rattle.script.specs.declared.mistake.Mistake.{Mistake}
use Rattle.script.specs.declared.mistake.Mistake.TheVariants.{OddHex, BadHex, NoMemory}

-- an odd number of digits, a character that is none, or memory wanting
abbrev pub hex_mistake : FromHexError → Mistake
hex_mistake OddLength = OddHex
hex_mistake InvalidStringLength = OddHex
hex_mistake (InvalidHexCharacter c place) = BadHex
hex_mistake OutOfMemory = NoMemory

-- the bytes that the text spells; of an odd number of digits no digit is looked at
abbrev pub bytes_in_hex : List ℕ → Result (List ℕ) Mistake
bytes_in_hex text = result_map_both (λ bytes. bytes) hex_mistake (decode_of text)
