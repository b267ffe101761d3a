-- The words in which roles, key kinds and denials are printed.
use Rattle.std.specs.Prelude.{ℕ, List, codes}
use Rattle.suite.specs.declared.types.Role.{Role}
use Rattle.suite.specs.declared.types.Role.TheVariants.{Sender, Recipient}
use Rattle.suite.specs.declared.types.KeyKind.{KeyKind}
use Rattle.suite.specs.declared.types.KeyKind.TheVariants.{SharedSecret, LinkKey}
use Rattle.suite.specs.declared.types.Denial.{Denial}
use Rattle.suite.specs.declared.types.Denial.TheVariants.{BadOffer, Spent, Unfit, Unknown}

-- what is printed of a role
abbrev pub role_words : Role → List ℕ
role_words Sender = codes "Sender"
role_words Recipient = codes "Recipient"

-- of a kind of key
abbrev pub kind_words : KeyKind → List ℕ
kind_words SharedSecret = codes "shared secret"
kind_words LinkKey = codes "link key"

-- of a denial
abbrev pub denial_words : Denial → List ℕ
denial_words BadOffer = codes "S2, the offer is not fit"
denial_words Spent = codes "S3, no further key"
denial_words Unfit = codes "unfit"
denial_words Unknown = codes "unknown key"
