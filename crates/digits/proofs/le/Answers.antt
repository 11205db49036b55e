-- `digits::le` meets its contract: the bytes that are copied and the zeros above them are the field. Assumes nothing.
use mathlib.Core.Path.{◌≡◌, sym, ◌∙◌, subst}
use Prim.Native.Nat.{ℕ, ◌*◌, ◌^◌, ◌<◌}
use Rattle.digits.specs.Digits.{field}
use Rattle.digits.proofs.Laws.{field_lt}
use Rattle.digits.proofs.StdBytes.{front_number}
use Rattle.digits.proofs.le.Goals as goal

pub returns : goal.returns
returns g c =
    let a = c.args in
    let e : c.from_le_bytes.result ≡ field g.row.N a.at a.s.now =
    c.from_le_bytes.ensures ∙ front_number g.row.N a.at a.s.now _ c.requires.0 c.requires.1 c.copy_from_slice.ensures.after in
    (e, subst (λ (x : ℕ). x < 2 ^ (8 * g.row.N)) (sym e) (field_lt g.row.N a.at a.s.now (λ i. (c.type_inv.s i).fits) c.requires.1))
