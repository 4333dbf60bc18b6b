-- The tests of refusal 1, and what they say.
use mathlib.Core.Path.{◌≡◌, sym, ◌∙◌}
use mathlib.Core.Bool.{Bool, true, false, ◌&&◌}
use mathlib.Core.List.{List, [], ◌∷◌}
use Prim.Native.Nat.{ℕ, ◌+◌, ◌*◌, ◌<◌, ◌≤◌, min}
use native.Mathlib.Decide.{dec_le}
use native.Mathlib.Omega.{arith}
use lib.Dec.{eqb, leb}
use lib.ListN.{length}
use borrow.Author.Tests.{eqb-true, eq-eqb, ne_eqb, leb-true, le-leb, lt-leb}
use Rattle.lists.specs.Count.{every}
use Rattle.lists.specs.laws.Tests.{passed}
use Rattle.expression.specs.Limits.{Sane}
use Rattle.expression.specs.declared.sizes.Limits.{Limits}
use Rattle.lookup.specs.Lookups.{lookup_words}
use Rattle.lookup_builder.specs.Building.{interaction_count, tuple_number, first_tuple}
use Rattle.lookup_builder.specs.FromInteractions.{building_fits}
use Rattle.lookup_builder.specs.declared.answer.Kinds.{Kinds}
use Rattle.lookup_builder.specs.inner.Requires.{InteractionsSized}

-- a sum that is held at a number over the most: it is over the most where the sum is
pub held_sum : (a b c m h : ℕ) → m < h → leb (min (min (a + b) h + c) h) m ≡ leb (a + b + c) m
held_sum a b c m h l = go (dec_le (a + b + c) m)
  where
    go : Dec (a + b + c ≤ m) → leb (min (min (a + b) h + c) h) m ≡ leb (a + b + c) m
    go (yes y) = rw (le-leb (a + b + c) m y) (le-leb (min (min (a + b) h + c) h) m (omega arith))
    go (no n) = rw (lt-leb (a + b + c) m (omega arith)) (lt-leb (min (min (a + b) h + c) h) m (omega arith))

-- `building_fits`, return by return
module _ (m : Limits) (k : Kinds) (interactions weights tuples : List ℕ) (room : ℕ) {b : Bool} (e : b ≡ leb (interaction_count k) m.lookups) where
  pub fits-many : b ≡ false → false ≡ building_fits m k interactions weights tuples room
  unfolding building_fits
  fits-many z = rw (sym e ∙ z)

  pub few : Sane m → b ≡ true → interaction_count k ≤ 64
  few g z = omega (arith, leb-true (interaction_count k) m.lookups (sym e ∙ z), g.lookups)

  pub fits_odd : {n : ℕ} → b ≡ true → n ≡ interaction_count k → (length interactions ≡ 2 * n → ⊥) → false ≡ building_fits m k interactions weights tuples room
  unfolding building_fits
  fits_odd {n} z q y = rw (sym e ∙ z, ← q, ne_eqb (length interactions) (2 * n) y)

  pub fits-rest : {n f : ℕ} {g : Bool} → b ≡ true → n ≡ interaction_count k → length interactions ≡ 2 * n → f ≡ first_tuple interactions n
      → g ≡ every (λ j. eqb (tuple_number interactions (k.locals + j)) 1) k.globals
      → (leb (length tuples) m.tuples && eqb (length tuples) f && eqb (length weights) (length tuples) && g && leb (lookup_words * n) room) ≡ building_fits m k interactions weights tuples room
  unfolding building_fits
  fits-rest {n} {f} {g} z q y p h = rw (sym e ∙ z, ← q, eq-eqb (length interactions) (2 * n) y, p, h)

-- what the code that follows asks
pub sized : (m : Limits) (k : Kinds) (interactions weights tuples : List ℕ) (room : ℕ) → Sane m → building_fits m k interactions weights tuples room ≡ true
    → InteractionsSized k interactions weights × (lookup_words * interaction_count k ≤ room)
unfolding building_fits
sized m k interactions weights tuples room g e =
    let p =
    passed (leb (interaction_count k) m.lookups)
    (eqb (length interactions) (2 * interaction_count k)
    ∷ leb (length tuples) m.tuples
    ∷ eqb (length tuples) (first_tuple interactions (interaction_count k))
    ∷ eqb (length weights) (length tuples)
    ∷ every (λ j. eqb (tuple_number interactions (k.locals + j)) 1) k.globals
    ∷ leb (lookup_words * interaction_count k) room
    ∷ [])
    e in
    let same : length weights ≡ length tuples = eqb-true (length weights) (length tuples) p.1.1.1.1.0 in (
      record {
        few = omega (arith, leb-true (interaction_count k) m.lookups p.0, g.lookups);
        words = eqb-true (length interactions) (2 * interaction_count k) p.1.0;
        few_weights = omega (arith, leb-true (length tuples) m.tuples p.1.1.0, g.tuples);
        weighed = same ∙ eqb-true (length tuples) (first_tuple interactions (interaction_count k)) p.1.1.1.0;
      },
      leb-true (lookup_words * interaction_count k) room p.1.1.1.1.1.1.0,
    )
