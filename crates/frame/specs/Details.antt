-- The detail of an ERROR message.
use Rattle.std.specs.Prelude.{◌≡◌, ℕ, Bool, cond, not, ◌⊎◌, List, [], ◌∷◌, ◌++◌, length, take, ◌==◌, ◌≢◌, nat_lt}
use Rattle.std.specs.List.{prefix_len, AllByRecursion}
use Rattle.frame.specs.Frames.{Contents, act_req, act_res, vfy_req, vfy_res, enc, tmn, error}

-- whether a byte is not 00
abbrev pub is_not_zero : ℕ → Bool
is_not_zero b = not (b == 0)

-- the place of the first 00, or the length where there is none
abbrev pub zero_place : List ℕ → ℕ
zero_place p = prefix_len is_not_zero p

-- the payload before its first 00, empty if it has none
abbrev pub part_before_zero : List ℕ → List ℕ
part_before_zero p = cond (nat_lt (zero_place p) (length p)) (take (zero_place p) p) []

-- the detail of a message: of an ERROR the part of its payload before the first 00, of any other nothing
abbrev pub detail : Contents → List ℕ
detail (act_req pid p) = []
detail (act_res p) = []
detail (vfy_req p) = []
detail (vfy_res p) = []
detail (enc p) = []
detail (tmn p) = []
detail (error p) = part_before_zero p

-- no byte is 00
abbrev pub HasNoZero : List ℕ → Type 0
HasNoZero p = AllByRecursion (λ b. b ≢ 0) p

-- the detail d of an ERROR's payload p, in other words: d has no 00 and p is d, then 00, then anything; or p has no 00 and d is empty
abbrev pub EndsAtZero : List ℕ → List ℕ → Type 0
EndsAtZero p d = (HasNoZero d × ((rest : List ℕ) × (p ≡ d ++ (0 ∷ rest)))) ⊎ (HasNoZero p × (d ≡ []))
