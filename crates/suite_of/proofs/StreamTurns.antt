-- A loop that adds a stream to data in place, one byte a turn.
use Rattle.std.proofs.Common.{◌≡◌, ℕ, ◌+◌, ◌<◌, List, ◌++◌, length, get_or, take, drop, set, sym, ap, ◌∙◌, zero-add, arith, length-take}
use lib.Bits.{bit_xor}
use Rattle.std.proofs.lemmas.List.{drop_more, drop_all, take_all, get_or_at}
use Rattle.std.proofs.Common.{append-nil}
use Rattle.buffers.proofs.FrontLaws.{over_more}
use Rattle.suite_of.specs.Streams.{xor_stream}
use Rattle.suite_of.specs.StreamProofs.{xor_stream-length, streamed_at}

module _ (s : ℕ → ℕ) (xs : List ℕ) (i : ℕ) (bytes : List ℕ) where
  -- the bytes before i are done, the others as they were
  abbrev pub Done : Type 0
  Done = bytes ≡ take i (xor_stream s 0 xs) ++ drop i xs

  at : i < length xs → Done → get_or bytes i 0 ≡ get_or xs i 0
  at h e =
      let n = xor_stream-length s 0 xs in
      let t : length (take i (xor_stream s 0 xs)) ≡ i = simp length-take (omega arith) in
      ap (λ z. get_or z i 0) e ∙ ap (λ z. get_or (take i (xor_stream s 0 xs) ++ z) i 0) (drop_more xs i 0 h) ∙ get_or_at (take i (xor_stream s 0 xs)) (get_or xs i 0) (drop (i + 1) xs) 0 i t

  pub turn : (k : ℕ) → i < length xs → k ≡ s i → Done → set bytes i (bit_xor (get_or bytes i 0) k) ≡ take (i + 1) (xor_stream s 0 xs) ++ drop (i + 1) xs
  turn k h ek e =
      let n = xor_stream-length s 0 xs in
      let b : bit_xor (get_or bytes i 0) k ≡ get_or (xor_stream s 0 xs) i 0 = ap (λ z. bit_xor z k) (at h e) ∙ ap (bit_xor (get_or xs i 0)) (ek ∙ ap s (sym (zero-add i))) ∙ sym (streamed_at s 0 i xs h) in
      ap (λ z. set z i (bit_xor (get_or bytes i 0) k)) e ∙ over_more (xor_stream s 0 xs) xs i _ (omega arith) h b

  pub end : i ≡ length xs → Done → bytes ≡ xor_stream s 0 xs
  end h e =
      let n = xor_stream-length s 0 xs in
      e ∙ ap (λ z. z ++ drop i xs) (take_all i (xor_stream s 0 xs) (omega arith)) ∙ ap (λ z. xor_stream s 0 xs ++ z) (drop_all i xs (omega arith)) ∙ append-nil (xor_stream s 0 xs)
