-- The words for what is wrong with a text.
use Rattle.std.specs.Prelude.{ℕ, ◌+◌, ◌-◌, ◌^◌, min, List, ◌++◌, codes, decimal}
use Rattle.hex_text.specs.declared.HexError.{HexError}
use Rattle.hex_text.specs.declared.HexError.TheVariants.{NotHex, NoMemory}

-- columns are counted from 1, as far as a number of 64 bits goes
abbrev pub column : ℕ → ℕ
column place = min (place + 1) (2 ^ 64 - 1)

-- what is printed of an error
abbrev pub error_words : HexError → List ℕ
error_words (NotHex place) = codes "not hexadecimal: no byte of two digits at column " ++ decimal (column place)
error_words NoMemory = codes "too long for the memory"
