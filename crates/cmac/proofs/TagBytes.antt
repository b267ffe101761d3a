-- A tag is sixteen bytes, whatever the words of the key and the text are.
use Rattle.std.proofs.Common.{◌≡◌, ℕ, ◌<◌, List, length}
use Rattle.std.specs.List.{AllByRecursion}
use Rattle.aes128.proofs.BlockBytes.{cipher-bytes, cipher-length}
use Rattle.cmac.specs.Cmac.{cmac_with}

pub tag-bytes : (ws text : List ℕ) → AllByRecursion (λ b. b < 256) (cmac_with ws text)
unfolding cmac_with
tag-bytes ws text = cipher-bytes ws _

pub tag-length : (ws text : List ℕ) → length (cmac_with ws text) ≡ 16
unfolding cmac_with
tag-length ws text = cipher-length ws _
