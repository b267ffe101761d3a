use Rattle.std.proofs.Common.{rules, arith, ◌↔◌, IsTrue, ℕ, ◌<◌, length, get_or, List}
use Rattle.std.specs.Int.{IsInRange}
use Rattle.std.specs.Str.Parse.{digits_value}
use Rattle.std.proofs.lemmas.Bool.Decides.{nat_tests}
use Rattle.std.proofs.lemmas.Str.Parse.{IsNumeralModel, numerals_by_value, tells_by_index}
use Rattle.sheet.proofs.words.is_numeral.Goals as goal

-- each byte is a digit
abbrev HasDigits : List ℕ → Type 0
HasDigits text = (i : ℕ) → i < length text → IsInRange 48 57 (get_or text i 0)

-- which is so of exactly the texts that have a numeral's digits
numerals : IsNumeralModel HasDigits (digits_value 10)
numerals = numerals_by_value _ tells_by_index

-- `is_empty` tells that there is a byte, and `all` that each is a digit
pub returns-then-not-is_empty : goal.returns-then-not-is_empty
returns-then-not-is_empty c =
    let word = c.args.word.now in
    let one : 0 < length word = grind (arith, nat_tests) in
    let by_index : IsTrue c.all.result ↔ HasDigits word = search rules in
    (λ t. (one, numerals.to word (by_index.0 t)), λ n. by_index.1 (numerals.from word n.1))
