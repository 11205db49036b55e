-- `encoder_step::Coder::sizes_at` meets its contract. Assumes nothing.
use Rattle.std.proofs.Common.{◌≡◌, ◌+◌, ◌*◌, get_or, ap, ◌∙◌, arith}
use Rattle.encoder_step.proofs.Rows.{row_at}
use Rattle.encoder_step.proofs.Coder.sizes_at.Goals as goal

pub returns : goal.returns
returns c =
    let s = c.args.self.now in
    let e = s.sized in
    let i = c.args.index.value in
    let h = c.args.index.in_table in
    let z : 4 * i ≡ 4 * i + 0 = omega arith in
    record {
      first = ap (λ k. get_or s.sizes k 0) z ∙ row_at _ e i 0 h (omega arith);
      second = row_at _ e i 1 h (omega arith);
      third = row_at _ e i 2 h (omega arith);
      fourth = row_at _ e i 3 h (omega arith);
    }
