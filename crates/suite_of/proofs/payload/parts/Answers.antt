use Rattle.std.proofs.Common.{rules, ◌≡◌, ◌≤◌, true, length, get_or, Ok, sym}
use Rattle.std.specs.Str.{bytes_eq}
use Rattle.suite.specs.Numbers.{role_of}
use Rattle.suite_of.specs.Payloads.{all_but_last, last_bytes}
use Rattle.suite_of.proofs.Parts.{parts_good}
use Rattle.suite_of.proofs.payload.parts.Goals as goal

pub returns-clause-parts : goal.returns-clause-parts
returns-clause-parts g c =
    let f = g.K.Kind.functions in
    let v = c.args.value.now in
    let p = c.args.payload.now in
    let body = c.in_ok-body.body.now in
    let field = c.in_ok-body.field.now in
    let b : body ≡ all_but_last f.field_length p = search rules in
    let e : field ≡ last_bytes f.field_length p = search rules in
    let w : f.field_length ≤ length p = search rules in
    let r : role_of (get_or body 0 0) ≡ Ok c.in_ok-role.role = search rules in
    let s : bytes_eq field (f.field_of v body) ≡ true = search rules in
    sym (parts_good f.field_length (f.field_of v) p body field c.in_ok-role.role c.from_be_bytes.result b e w (search rules) r s (search rules))
