use Rattle.std.proofs.Common.{◌≡◌, take}
use Rattle.suite_of.proofs.bytes.same.Given as goal

-- no difference so far, exactly where the bytes before i are the same
abbrev pub invariant-loop-i : goal.invariant-loop-i
invariant-loop-i l = (l.difference ≡ 0 → take l.i l.a ≡ take l.i l.b) × (take l.i l.a ≡ take l.i l.b → l.difference ≡ 0)
