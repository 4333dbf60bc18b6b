use mathlib.Core.Path.{ap, ◌∙◌}
use Prim.Native.Nat.{ℕ, ◌+◌, ◌*◌, ◌%◌}
use native.Mathlib.Nat.{add-mod, mod-eq_of_lt}
use native.Mathlib.Omega.{arith}
use Rattle.field.specs.Word.{add_m, mul_m}
use Rattle.field.proofs.word.dot2.Goals as goal

pub returns : goal.returns
unfolding add_m mul_m
returns c =
    let s = c.args in (
      c.reduce.ensures.0,
      c.reduce.ensures.1
          ∙ ap (λ (n : ℕ). n % s.p) (mod-eq_of_lt (omega (arith, c.product.ensures.1, c.product-2.ensures.1)))
          ∙ (λ i. (c.product.ensures.0 i + c.product-2.ensures.0 i) % s.p)
          ∙ add-mod (s.a * s.b) (s.c * s.d) s.p,
    )
