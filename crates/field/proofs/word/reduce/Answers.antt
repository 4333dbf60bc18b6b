use native.Mathlib.Omega.{arith}
use mathlib.Core.Path.{sym, ap}
use mathlib.Core.Logic.{⊎_elim}
use Prim.Native.Nat.{ℕ, ◌%◌}
use Rattle.field.proofs.word.reduce.Goals as goal

pub returns-then-p-eq-BABYBEAR : goal.returns-then-p-eq-BABYBEAR
returns-then-p-eq-BABYBEAR c = (omega arith, ap (λ (q : ℕ). c.args.n % q) (sym c.if-p-eq-BABYBEAR.true))

pub returns : goal.returns
returns c =
    let second = ⊎_elim (λ e. absurd (c.if-p-eq-BABYBEAR.false e)) (λ e. e) c.requires.one_of_two in
    (omega (arith, second), ap (λ (q : ℕ). c.args.n % q) (sym second))
