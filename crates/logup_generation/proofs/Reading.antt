-- The row reader, branch by branch.
use mathlib.Core.Path.{◌≡◌, refl, sym, ap, ap₂, ◌∙◌}
use mathlib.Core.Bool.{Bool, true, false, cond, ◌&&◌, ◌||◌, true≢false}
use mathlib.Core.List.{List, []}
use Prim.Native.Nat.{ℕ, suc, ◌+◌, ◌*◌, ◌-◌, ◌/◌, ◌<◌, ◌≤◌}
use native.Mathlib.Nat.{suc-mul, mul-le-mul_right, div-mul-le_self, div-add-mod', mod-lt, le_trans, pos_of_ne-zero}
use native.Mathlib.Omega.{arith}
use lib.Dec.{eqb, leb, ltb}
use lib.ListN.{length, take, drop}
use borrow.Author.Tests.{ltb-true, leb-true, leb-false, eqb-false, lt-ltb, le-leb, lt-leb, ne_eqb}
use Rattle.lists.specs.laws.Tests.{both_left, both_right}
use Rattle.logup.specs.Reader.{row_part}

-- a row that is within
pub row_fits : (n w r : ℕ) → r < n / w → r * w + w ≤ n
row_fits n w r h = rw suc-mul at (le_trans (mul-le-mul_right w h) (div-mul-le_self n w))

past_end : (n w r : ℕ) → 0 < w → n / w ≤ r → n < r * w + w
past_end n w r pos h = omega (arith, div-add-mod' n w, mod-lt n pos, mul-le-mul_right w h)

by_cases : (b : Bool) {P : Type 0} → (b ≡ true → P) → (b ≡ false → P) → P
by_cases true t f = t refl
by_cases false t f = f refl

-- where the row is not all there, the part is empty
empty_where : (words : List ℕ) (n height r : ℕ) → ((0 < n) → (r < height) → suc r * ((n + 1) * 4) ≤ length words → ⊥) → [] ≡ row_part words n height r
unfolding row_part
empty_where words n height r bad = by_cases test (λ t. absurd (not_all t)) (λ f. ap (λ (b : Bool). cond b (take ((n + 1) * 4) (drop (r * ((n + 1) * 4)) words)) []) (sym f))
  where
    test : Bool
    test = ltb 0 n && ltb r height && leb (suc r * ((n + 1) * 4)) (length words)

    not_all : test ≡ true → ⊥
    not_all t =
        bad (ltb-true 0 n (both_left (ltb 0 n) (ltb r height) (both_left (ltb 0 n && ltb r height) (leb (suc r * ((n + 1) * 4)) (length words)) t)))
        (ltb-true r height (both_right (ltb 0 n) (ltb r height) (both_left (ltb 0 n && ltb r height) (leb (suc r * ((n + 1) * 4)) (length words)) t)))
        (leb-true (suc r * ((n + 1) * 4)) (length words) (both_right (ltb 0 n && ltb r height) (leb (suc r * ((n + 1) * 4)) (length words)) t))

one_row : (w r m : ℕ) → suc r * w ≤ m → r * w + w ≤ m
one_row w r m h = rw suc-mul at h

-- no lookups, a buffer without a whole row, or no such row
pub empty_first : (words : List ℕ) (n height r : ℕ) → (eqb n 0 || leb (length words / 4) n || leb height r) ≡ true → [] ≡ row_part words n height r
empty_first words n height r e =
    empty_where words n height r
    (λ has inside fits.
    true≢false (sym e ∙ ap₂ ◌||◌ (ap₂ ◌||◌ (ne_eqb n 0 (λ z. omega arith)) (lt-leb (length words / 4) n (omega (arith, one_row ((n + 1) * 4) r (length words) fits)))) (lt-leb height r inside)))

pub empty_second : (words : List ℕ) (n height r : ℕ) → length words / ((n + 1) * 4) ≤ r → [] ≡ row_part words n height r
empty_second words n height r h =
    empty_where words n height r
    (λ has inside fits. let k : length words < r * ((n + 1) * 4) + (n + 1) * 4 = past_end (length words) ((n + 1) * 4) r (omega arith) h in omega (arith, one_row ((n + 1) * 4) r (length words) fits))

-- what the first test leaves
pub first-left : (len n height r : ℕ) → (eqb n 0 || leb (len / 4) n || leb height r) ≡ false → (0 < n) × ((n + 1) * 4 ≤ len) × (r < height)
first-left len n height r e = go (eqb n 0) (leb (len / 4) n) (leb height r) refl refl refl e
  where
    go : (a b c : Bool) → eqb n 0 ≡ a → leb (len / 4) n ≡ b → leb height r ≡ c → (a || b || c) ≡ false → (0 < n) × ((n + 1) * 4 ≤ len) × (r < height)
    go false false false p q s t = (omega (arith, pos_of_ne-zero (eqb-false n 0 p)), omega (arith, leb-false (len / 4) n q), leb-false height r s)
    go true false false p q s t = absurd (true≢false t)
    go true true false p q s t = absurd (true≢false t)
    go false true false p q s t = absurd (true≢false t)
    go true false true p q s t = absurd (true≢false t)
    go true true true p q s t = absurd (true≢false t)
    go false true true p q s t = absurd (true≢false t)
    go false false true p q s t = absurd (true≢false t)

-- the row
pub whole_row : (words : List ℕ) (n height r : ℕ) → 0 < n → r < height → r * ((n + 1) * 4) + (n + 1) * 4 ≤ length words
    → take (r * ((n + 1) * 4) + (n + 1) * 4 - r * ((n + 1) * 4)) (drop (r * ((n + 1) * 4)) words) ≡ row_part words n height r
unfolding row_part
whole_row words n height r has inside fits =
    ap (λ (m : ℕ). take m (drop (r * ((n + 1) * 4)) words)) width
    ∙ ap (λ (b : Bool). cond b (take ((n + 1) * 4) (drop (r * ((n + 1) * 4)) words)) []) (sym all)
  where
    width : r * ((n + 1) * 4) + (n + 1) * 4 - r * ((n + 1) * 4) ≡ (n + 1) * 4
    width = omega arith

    last : suc r * ((n + 1) * 4) ≤ length words
    last = rw suc-mul fits

    all : (ltb 0 n && ltb r height && leb (suc r * ((n + 1) * 4)) (length words)) ≡ true
    all = ap₂ ◌&&◌ (ap₂ ◌&&◌ (lt-ltb 0 n has) (lt-ltb r height inside)) (le-leb (suc r * ((n + 1) * 4)) (length words) last)
