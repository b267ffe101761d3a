-- The numbers of roles, key kinds and denials: one definition for each enum.
use Rattle.std.specs.Prelude.{ℕ, cond, Ok, Err, Result, ◌==◌}
use Rattle.suite.specs.declared.types.Role.{Role}
use Rattle.suite.specs.declared.types.Role.TheVariants.{Sender, Recipient}
use Rattle.suite.specs.declared.types.KeyKind.{KeyKind}
use Rattle.suite.specs.declared.types.KeyKind.TheVariants.{SharedSecret, LinkKey}
use Rattle.suite.specs.declared.types.Denial.{Denial}
use Rattle.suite.specs.declared.types.Denial.TheVariants.{BadOffer, Spent, Unfit, Unknown}

-- the byte that stands for a role in check values and payloads
abbrev pub role_byte : Role → ℕ
role_byte Sender = 1
role_byte Recipient = 2

-- the role that a byte stands for; any other byte is unfit
abbrev pub role_of : ℕ → Result Role Denial
role_of b = cond (b == role_byte Sender) (Ok Sender) (cond (b == role_byte Recipient) (Ok Recipient) (Err Unfit))

-- the number of a kind of key
abbrev pub kind_number : KeyKind → ℕ
kind_number SharedSecret = 1
kind_number LinkKey = 2

-- BadOffer and Spent are the faults S2 and S3 of the protocol; the other two are never faults, and have numbers past those of S
abbrev pub denial_number : Denial → ℕ
denial_number BadOffer = 2
denial_number Spent = 3
denial_number Unfit = 8
denial_number Unknown = 9
