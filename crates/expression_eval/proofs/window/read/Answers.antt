use native.Mathlib.Omega.{arith}
use Rattle.expression.specs.laws.Window.{row-length}
use Rattle.expression_eval.proofs.window.read.Goals as goal

-- a word of each row is within the row's slice
pub at_offset-requires : goal.at_offset-requires
at_offset-requires c =
    let s = c.args in let q = c.requires in (
      rw c.row_of.ensures (omega (arith, row-length s.s.now s.width s.height s.r q.0 q.3)),
      rw c.row_of-2.ensures (omega (arith, row-length s.s.now s.width s.height s.ahead q.1 q.3)),
    )
