use Rattle.std.proofs.Common.{◌≡◌, [], ◌∷◌, decimal, refl, arith}
use Rattle.std.proofs.lemmas.Fmt.{decimal_digit}
use Rattle.cases.proofs.sheet_cases_stand.Goals as goal

-- the digits of the numbers that stand on these sheets
pub returns : goal.returns
returns c =
    let two : decimal 2 ≡ 0x32 ∷ [] = decimal_digit 2 (omega arith) in
    let five : decimal 5 ≡ 0x35 ∷ [] = decimal_digit 5 (omega arith) in
    let seven : decimal 7 ≡ 0x37 ∷ [] = decimal_digit 7 (omega arith) in
    let zero : decimal 0 ≡ 0x30 ∷ [] = decimal_digit 0 (omega arith) in
    record {
      limits = (refl, refl, refl, refl, refl);
      one_session = rw (two, five, seven) refl;
      no_session = rw zero refl;
      too_many = refl;
      too_great = refl;
      too_short = refl;
    }
