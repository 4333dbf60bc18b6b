-- The degree of a merged column from those of its parts.
use Rattle.std.specs.Prelude.{◌≡◌, false, ℕ, ◌+◌, ◌-◌, ◌≤◌, max, length}
use Rattle.std.proofs.Common.{ap, ap₂, ◌∙◌, arith}
use mathlib.Core.List.{List, [], ◌∷◌, ◌++◌, zip_with}
use Rattle.lists.specs.laws.Tab.{zip_append}
use Rattle.lookup_degree.specs.Sums.{sum_of, largest_of}
use Rattle.lookup.specs.Lookups.{Lookup}
use Rattle.lookup_degree.specs.Degree.{tuple_degree, denominator_degree, term_degree, numerator_degree, additive_degree, lookup_degree}
use Rattle.packing.specs.Packing.{merged}
use Rattle.lookup_buses.specs.laws.Order.{sum-append}

-- as many multiplicities as tuples
abbrev pub Aligned : Lookup → Type 0
Aligned l = length l.multiplicities ≡ length l.tuples

-- the larger of the denominators' degree and the numerator's
abbrev pub top_degree : (ℕ → ℕ) → Lookup → ℕ
top_degree deg l = max (denominator_degree deg l) (numerator_degree deg l)

largest_append : (xs ys : List ℕ) → largest_of (λ (n : ℕ). n) (xs ++ ys) ≡ max (largest_of (λ (n : ℕ). n) xs) (largest_of (λ (n : ℕ). n) ys)
unfolding largest_of
largest_append [] ys = omega arith
largest_append (x ∷ xs) ys = omega (arith, largest_append xs ys)

max_swap : (a b c : ℕ) → max a (max b c) ≡ max b (max a c)
max_swap a b c = omega arith

max_add : (a b d : ℕ) → max (a + d) (b + d) ≡ max a b + d
max_add a b d = omega arith

-- d more denominators in the product raise every term by d
shift : (deg : ℕ → ℕ) (D d : ℕ) (ms : List ℕ) (ts : List (List ℕ)) → sum_of (tuple_degree deg) ts ≤ D
    → max (D + d) (largest_of (λ (n : ℕ). n) (zip_with (term_degree deg (D + d)) ms ts)) ≡ max D (largest_of (λ (n : ℕ). n) (zip_with (term_degree deg D) ms ts)) + d
unfolding largest_of zip_with sum_of tuple_degree
shift deg D d [] ts h = omega arith
shift deg D d (m ∷ ms) [] h = omega arith
shift deg D d (m ∷ ms) (t ∷ ts) h =
    let y : ℕ = largest_of deg t in
    let A : ℕ = deg m + (D - y) in
    let L0 : ℕ = largest_of (λ (n : ℕ). n) (zip_with (term_degree deg D) ms ts) in
    let L1 : ℕ = largest_of (λ (n : ℕ). n) (zip_with (term_degree deg (D + d)) ms ts) in
    let g : y ≤ D = omega (arith, h) in
    let e : deg m + (D + d - y) ≡ A + d = omega (arith, g) in
    let ih : max (D + d) L1 ≡ max D L0 + d = shift deg D d ms ts (omega (arith, h)) in
    ap (λ (x : ℕ). max (D + d) (max x L1)) e ∙ max_swap (D + d) (A + d) L1 ∙ ap (max (A + d)) ih ∙ max_add A (max D L0) d ∙ ap (λ (x : ℕ). x + d) (max_swap A D L0)

pub denominator-merged : (deg : ℕ → ℕ) (a b : Lookup) → denominator_degree deg (merged a b) ≡ denominator_degree deg a + denominator_degree deg b
unfolding denominator_degree
denominator-merged deg a b = sum-append (tuple_degree deg) a.tuples b.tuples

max_parts : (D x y : ℕ) → max D (max x y) ≡ max (max D x) (max D y)
max_parts D x y = omega arith

pub top-merged : (deg : ℕ → ℕ) (a b : Lookup) → Aligned a → top_degree deg (merged a b) ≡ max (top_degree deg a + denominator_degree deg b) (denominator_degree deg a + top_degree deg b)
unfolding numerator_degree denominator_degree
top-merged deg a b al =
    let A : ℕ = denominator_degree deg a in
    let B : ℕ = denominator_degree deg b in
    let D : ℕ = denominator_degree deg (merged a b) in
    let e : D ≡ A + B = denominator-merged deg a b in
    let e' : D ≡ B + A = (let k : A + B ≡ B + A = omega arith in e ∙ k) in
    let La : ℕ = largest_of (λ (n : ℕ). n) (zip_with (term_degree deg D) a.multiplicities a.tuples) in
    let Lb : ℕ = largest_of (λ (n : ℕ). n) (zip_with (term_degree deg D) b.multiplicities b.tuples) in
    let n : numerator_degree deg (merged a b) ≡ max La Lb =
    ap (largest_of (λ (n : ℕ). n)) (zip_append (term_degree deg D) a.multiplicities b.multiplicities a.tuples b.tuples al)
    ∙ largest_append (zip_with (term_degree deg D) a.multiplicities a.tuples) (zip_with (term_degree deg D) b.multiplicities b.tuples) in
    let pa : max D La ≡ top_degree deg a + B =
    ap (λ (x : ℕ). max x (largest_of (λ (n : ℕ). n) (zip_with (term_degree deg x) a.multiplicities a.tuples))) e ∙ shift deg A B a.multiplicities a.tuples (let r : A ≤ A = omega arith in r) in
    let pb : max D Lb ≡ top_degree deg b + A =
    ap (λ (x : ℕ). max x (largest_of (λ (n : ℕ). n) (zip_with (term_degree deg x) b.multiplicities b.tuples))) e' ∙ shift deg B A b.multiplicities b.tuples (let r : B ≤ B = omega arith in r) in
    let c : top_degree deg b + A ≡ A + top_degree deg b = native.Mathlib.Nat.add_comm (top_degree deg b) A in
    ap (max D) n ∙ max_parts D La Lb ∙ ap₂ max pa (pb ∙ c)

top-more : (x y : ℕ) → max (1 + x) y ≡ max (1 + x) (max x y)
top-more x y = omega arith

pub degree_by_top : (deg : ℕ → ℕ) (l : Lookup) → l.exclusive ≡ false → lookup_degree deg l ≡ max (1 + denominator_degree deg l) (top_degree deg l)
unfolding lookup_degree additive_degree denominator_degree numerator_degree
degree_by_top deg l e = rw e (top-more (denominator_degree deg l) (numerator_degree deg l))
