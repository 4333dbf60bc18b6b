use Rattle.field.proofs.laws.Reduction.{prod}
use Rattle.field.proofs.laws.Known.{modulus}
use native.Mathlib.Omega.{arith}
use mathlib.Core.Path.{ap₂}
use Prim.Native.Nat.{◌*◌}
use Rattle.field.proofs.word.product.Goals as goal

pub overflow_mul-result : goal.overflow_mul-result
overflow_mul-result c =
    let e = ap₂ ◌*◌ c.from.ensures c.from-2.ensures in
    record { fits = omega (arith, e, prod c.args.p c.args.a c.args.b (modulus c.requires.0) c.requires.1 c.requires.2) }

pub returns : goal.returns
returns c =
    let e = ap₂ ◌*◌ c.from.ensures c.from-2.ensures in
    (e, rw e (prod c.args.p c.args.a c.args.b (modulus c.requires.0) c.requires.1 c.requires.2))
