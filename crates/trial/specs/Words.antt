-- The words in which a key is printed.
use Rattle.std.specs.Prelude.{ℕ, List, ◌++◌, codes}
use Rattle.std.specs.Fmt.{decimal}
use Rattle.suite.specs.Words.{kind_words}
use Rattle.trial.specs.declared.peer.Key.{Key}

-- kind and serial
abbrev pub key_words : Key → List ℕ
key_words key = kind_words key.kind ++ codes ", serial " ++ decimal key.serial
