use mathlib.Core.Path.{refl, ◌∙◌}
use mathlib.Core.List.{List}
use Prim.Native.Nat.{ℕ}
use native.Mathlib.Omega.{arith}
use Rattle.field.specs.Element.{power4}
use Rattle.delmatik_answers.specs.Element.{exported_power}
use Rattle.delmatik_answers.proofs.Tested.{tested, modulus, w_small, loaded_words, computed, element_is}
use Rattle.delmatik_answers.proofs.element.power.Goals as goal

pub returns-in-Err : goal.returns-in-Err
unfolding exported_power
returns-in-Err c = element_is _ _ c.number.ensures c.in-Err.ensures refl

pub load-requires : goal.load-requires
load-requires c =
    omega (arith, (tested _ _ _ c.in_default.ensures).size)

pub power-requires : goal.power-requires
power-requires c = (
  modulus _ c.prime_of.ensures c.w_of.ensures,
  w_small _ c.prime_of.ensures c.w_of.ensures,
  loaded_words _ c.prime_of.ensures c.w_of.ensures (tested _ _ _ c.in_default.ensures) c.load.ensures,
)

pub store-requires : goal.store-requires
store-requires c =
    (tested _ _ _ c.in_default.ensures).place

pub returns : goal.returns
unfolding exported_power
returns c =
    element_is _ _ refl c.in_default.ensures
    (c.store.ensures
    ∙ computed _ c.prime_of.ensures c.w_of.ensures (λ (p w : ℕ) (l : List ℕ). power4 p w l c.args.n) (tested _ _ _ c.in_default.ensures) c.load.ensures c.power.ensures.1)
