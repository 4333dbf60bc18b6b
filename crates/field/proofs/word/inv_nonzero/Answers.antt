use Rattle.field.specs.Word.{mul_m}
use Rattle.field.proofs.laws.Word.{mul_m-one}
use Rattle.field.proofs.laws.Reduction.{turn}
use native.Mathlib.Nat.{mod-lt, lt_trans, pos_of_ne-zero, div-le_self, le-div_iff_mul-le}
use native.Mathlib.Omega.{arith}
use Prim.Native.Nat.{ℕ, ◌<◌}
use mathlib.Core.Path.{◌≡◌, ◌∙◌, ap}
use Rattle.field.proofs.word.inv_nonzero.Goals as goal

pub loop-x-init : goal.loop-x-init
loop-x-init c = (omega arith, omega arith, omega arith, mul_m-one c.args.p c.args.a c.requires.3)

pub overflow_sub-p : goal.overflow_sub-p
overflow_sub-p c = div-le_self c.args.p c.loop-x.x

pub mul-t-requires : goal.mul-t-requires
mul-t-requires c =
    let p : ℕ = c.args.p in
    let x : ℕ = c.loop-x.x in (
      c.requires.0,
      c.loop-x.invariant.2,
      omega (arith, div-le_self p x, (le-div_iff_mul-le {k = x} {x = 1} {y = p} c.loop-x.invariant.0).1 (omega arith)),
    )

pub loop-x-smaller : goal.loop-x-smaller
loop-x-smaller c = mod-lt c.args.p c.loop-x.invariant.0

pub loop-x-preserved : goal.loop-x-preserved
loop-x-preserved c =
    let p : ℕ = c.args.p in
    let x : ℕ = c.loop-x.x in
    let t : ℕ = c.loop-x.t in
    let a : ℕ = c.args.a in
    let pos : 0 < x = c.loop-x.invariant.0 in
    let less : x < p = c.loop-x.invariant.1 in (
      pos_of_ne-zero (c.requires.1.only x (omega arith) less),
      lt_trans (mod-lt p pos) less,
      c.mul-t.ensures.0,
      ap (mul_m p a) c.mul-t.ensures.1 ∙ turn p a t x pos less c.loop-x.invariant.3,
    )

pub returns : goal.returns
returns c =
    let e : c.loop-x.x ≡ 1 = omega arith in
    (c.loop-x.invariant.2, c.loop-x.invariant.3 ∙ e)
