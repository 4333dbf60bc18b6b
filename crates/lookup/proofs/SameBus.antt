-- The returns of `same_bytes`, `alone` and `same_bus`.
use Rattle.std.specs.Prelude.{cond, not, ◌&&◌, ◌||◌}
use mathlib.Core.Path.{◌≡◌, refl, sym, ap, ◌∙◌}
use mathlib.Core.Bool.{Bool, true, false}
use mathlib.Core.List.{List, [], ◌∷◌}
use lib.Dec.{eqb}
use lib.Pointwise.{pointwise}
use Prim.Native.Nat.{ℕ}
use Rattle.lists.specs.Same.{same_list}
use Rattle.lookup.specs.Buses.{same_bus}

-- slices' own equality is the test of the definitions
pub same_by_byte : (x y : List ℕ) → pointwise eqb x y ≡ same_list x y
unfolding same_list
same_by_byte [] [] = refl
same_by_byte [] (b ∷ y) = refl
same_by_byte (a ∷ x) [] = refl
same_by_byte (a ∷ x) (b ∷ y) = ap (λ (t : Bool). eqb a b && t) (same_by_byte x y)

pub alone_is : (packing on exclusive : Bool) → (not on || (packing && exclusive)) ≡ cond packing (not on || exclusive) (not on)
alone_is true on exclusive = refl
alone_is false true exclusive = refl
alone_is false false exclusive = refl

module _ (alone : ℕ → Bool) (name : ℕ → List ℕ) (i j : ℕ) where
  pub bus-first : {t : Bool} → t ≡ alone i → t ≡ true → false ≡ same_bus alone name i j
  unfolding same_bus
  bus-first e z = rw (sym e ∙ z)

  pub bus-second : {t u : Bool} → t ≡ alone i → t ≡ false → u ≡ alone j → u ≡ true → false ≡ same_bus alone name i j
  unfolding same_bus
  bus-second e z f y = rw (sym e ∙ z, sym f ∙ y)

  pub bus-both : {t u r : Bool} → t ≡ alone i → t ≡ false → u ≡ alone j → u ≡ false → r ≡ same_list (name i) (name j) → r ≡ same_bus alone name i j
  unfolding same_bus
  bus-both e z f y er = rw (sym e ∙ z, sym f ∙ y) er
