-- What a suite of a kind means.
use Rattle.suite.specs.Meanings.{Meaning}
use Rattle.key_store.specs.Stores.{meaning_of_store}
use Rattle.suite_of.specs.declared.suite_of.SuiteOf.{SuiteOf}

-- its root, and the keys in its store
abbrev pub meaning_of : {K : Type 0} → SuiteOf K → Meaning
meaning_of s = meaning_of_store s.root s.keys
