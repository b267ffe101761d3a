-- What a good payload is read as, from its parts.
use Rattle.std.proofs.Common.{◌≡◌, ℕ, ◌+◌, ◌-◌, ◌<◌, ◌≤◌, true, List, length, get_or, take, drop, Some, Ok, sym, ap, ◌∙◌, arith, length-take, length-drop}
use Rattle.std.specs.Str.{bytes_eq}
use Rattle.std.proofs.lemmas.Bool.{le-leb, and_from, cond-true}
use Rattle.std.proofs.lemmas.List.{take_all, get_or-take}
use Rattle.suite.specs.declared.types.Role.{Role}
use Rattle.suite.proofs.RoleLaws.{role_back, role_ok}
use Rattle.suite.specs.Numbers.{role_byte, role_of}
use Rattle.suite.specs.Schemes.{is_role}
use Rattle.suite_of.specs.Payloads.{number_at, all_but_last, last_bytes, is_good, masked_parts}

pub parts_good : (w : ℕ) (f : List ℕ → List ℕ) (p body field : List ℕ) (role : Role) (n : ℕ)
    → body ≡ all_but_last w p → field ≡ last_bytes w p → w ≤ length p → 5 ≤ length body
    → role_of (get_or body 0 0) ≡ Ok role → bytes_eq field (f body) ≡ true → n ≡ number_at body
    → masked_parts w f p ≡ Some (role_byte role, n, take (length body - 5) (drop 5 body))
parts_good w f p body field role n hb hf hw h5 hr he hn =
    let bl : length body ≡ length p - w = ap length hb ∙ simp length-take (omega arith) in
    let at : (k : ℕ) → k < length p - w → get_or body k 0 ≡ get_or p k 0 = λ k h. ap (λ z. get_or z k 0) hb ∙ get_or-take (length p - w) p k 0 h in
    let at0 = at 0 (omega arith) in
    let at1 = at 1 (omega arith) in
    let at2 = at 2 (omega arith) in
    let at3 = at 3 (omega arith) in
    let at4 = at 4 (omega arith) in
    let wide = le-leb (5 + w) (length p) (omega arith) in
    let first : is_role (get_or p 0 0) ≡ true = ap is_role (sym at0) ∙ role_ok (get_or body 0 0) role hr in
    let ends : bytes_eq (last_bytes w p) (f (all_but_last w p)) ≡ true = ap (λ z. bytes_eq (last_bytes w p) (f z)) (sym hb) ∙ ap (λ z. bytes_eq z (f body)) (sym hf) ∙ he in
    let good : is_good w f p ≡ true = and_from _ _ (and_from _ _ wide first) ends in
    let first_is : get_or p 0 0 ≡ role_byte role = sym at0 ∙ sym (role_back (get_or body 0 0) role hr) in
    let number : number_at p ≡ n = rw (sym at1, sym at2, sym at3, sym at4, hn) in
    let rest : drop 5 (all_but_last w p) ≡ take (length body - 5) (drop 5 body) = ap (drop 5) (sym hb) ∙ sym (take_all (length body - 5) (drop 5 body) (simp length-drop (omega arith))) in
    cond-true (is_good w f p) _ _ good
    ∙ ap (λ z. Some (z, number_at p, drop 5 (all_but_last w p))) first_is
    ∙ ap (λ z. Some (role_byte role, z, drop 5 (all_but_last w p))) number
    ∙ ap (λ z. Some (role_byte role, n, z)) rest
