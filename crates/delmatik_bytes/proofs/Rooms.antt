-- The tests of two rooms by what is left of them: the lists fit both. And the lookups' parts, after five others.
use mathlib.Core.Path.{◌≡◌, refl, sym, ap, ap₂, ◌∙◌}
use mathlib.Core.Bool.{Bool, true, ◌&&◌}
use mathlib.Core.List.{List, [], ◌∷◌, ◌++◌, map}
use Prim.Native.Nat.{ℕ}
use Rattle.std.specs.Prelude.{Option, Some}
use lib.ListN.{length}
use Rattle.wire.specs.Room.{fit}
use Rattle.wire.specs.inner.Place.{all_less, filled, Ordered, After}
use Rattle.wire.specs.declared.room.Ends.{Ends}
use Rattle.wire.specs.laws.Room.{fit-told}

-- what the first lists leave, and what the others leave of it
less_more : (left : Option ℕ) (xs ys : List (List ℕ)) → all_less left (map length (xs ++ ys)) ≡ all_less (all_less left (map length xs)) (map length ys)
less_more left [] ys = refl
less_more left (x ∷ xs) ys = less_more (all_less left (length x ∷ [])) xs ys

pub both_told : (xs ys zs : List (List ℕ)) (room other : List ℕ) {l m k : Option ℕ} {b d : Bool}
    → l ≡ all_less (Some (length room)) (map length xs) → m ≡ all_less l (map length ys) → b ≡ filled m
    → k ≡ all_less (Some (length other)) (map length zs) → d ≡ filled k → (b && d) ≡ (fit (xs ++ ys) room && fit zs other)
both_told xs ys zs room other e f g h q =
    let more = f ∙ ap (λ (l : Option ℕ). all_less l (map length ys)) e ∙ sym (less_more _ xs ys) in
    ap₂ ◌&&◌ (fit-told (xs ++ ys) room more g) (fit-told zs other h q)

-- the second five parts, as five parts after a first
pub back_after : {x y : Ends} {n : ℕ} → Ordered x y n → After x.fifth y n
back_after o =
    record {
      first = o.sixth;
      first_in = o.fifth_in;
      rest =
          record {
            second = o.seventh;
            third = o.eighth;
            fourth = o.ninth;
            fifth = o.tenth;
            first_in = o.sixth_in;
            second_in = o.seventh_in;
            third_in = o.eighth_in;
            fourth_in = o.ninth_in;
            fifth_in = o.tenth_in;
          };
    }
