-- Data at the front of a place of zeros.
use Rattle.std.proofs.Common.{◌≡◌, ℕ, ◌-◌, ◌≤◌, List, length, drop, replicate, ◌∙◌, arith}
use Rattle.std.proofs.Math.Seq.{drop-append_seam}
use Rattle.std.proofs.lemmas.List.{drop-replicate, length-replicate}
use Rattle.buffers.specs.Buffers.{with_front}
use Rattle.buffers.proofs.FrontLaws.{length_over}
use Rattle.suite.specs.declared.limits.TheConstants.{MAX_DATA}

-- past the plain the place still has zeros
pub padded : (plain : List ℕ) → length plain ≤ MAX_DATA → (length (with_front plain (replicate MAX_DATA 0)) ≡ MAX_DATA) × (length plain ≤ MAX_DATA) × (drop (length plain) (with_front plain (replicate MAX_DATA 0)) ≡ replicate (MAX_DATA - length plain) 0)
padded plain h =
    let z : length (replicate {A = ℕ} MAX_DATA 0) ≡ MAX_DATA = length-replicate {A = ℕ} MAX_DATA 0 in
    let l : length plain ≤ length (replicate {A = ℕ} MAX_DATA 0) = omega arith in
    (length_over plain (replicate MAX_DATA 0) l ∙ z, h, drop-append_seam plain (drop (length plain) (replicate MAX_DATA 0)) ∙ drop-replicate (length plain) MAX_DATA 0)
