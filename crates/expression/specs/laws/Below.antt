-- Laws of words below p.
use Rattle.std.specs.Prelude.{◌≡◌, refl, Bool, true, false, List, [], ◌∷◌, ◌++◌, ℕ, zero, suc, ◌+◌, ◌*◌, ◌-◌, ◌<◌, ◌≤◌, leb, ltb, length, take, drop, set, replicate}
use Rattle.std.proofs.Common.{ap, ◌∙◌, arith, get_or-drop, ltb-true, ltb-false, leb-true}
use Rattle.std.proofs.Math.ListN.{get_or-eq_default}
use Rattle.lists.specs.Count.{every}
use Rattle.lists.specs.laws.Tests.{every_true}
use Rattle.expression.specs.Words.{word, all_below, all_within}
use Rattle.expression.specs.Window.{row_of}
use Rattle.expression.specs.Requires.{Below}

pub below-pos : {p : ℕ} {l : List ℕ} → Below p l → 0 < p
below-pos {p} {l} h = omega (arith, h.each 0)

set-each : (p : ℕ) (l : List ℕ) (i x : ℕ) → ((j : ℕ) → word l j < p) → x < p → (j : ℕ) → word (set l i x) j < p
set-each p [] i x h k j = h j
set-each p (y ∷ l) zero x h k zero = k
set-each p (y ∷ l) zero x h k (suc j) = h (suc j)
set-each p (y ∷ l) (suc i) x h k zero = h 0
set-each p (y ∷ l) (suc i) x h k (suc j) = set-each p l i x (λ n. h (suc n)) k j

pub below_set : {p : ℕ} {l : List ℕ} (i x : ℕ) → Below p l → x < p → Below p (set l i x)
below_set {p} {l} i x h k = record { each = set-each p l i x h.each k }

-- zeros past the end change no word
zeros-word : (n a : ℕ) → ◌≡◌ {A = ℕ} (word (replicate n 0) a) 0
zeros-word zero a = refl
zeros-word (suc n) zero = refl
zeros-word (suc n) (suc a) = zeros-word n a

pub word-zeros : (l : List ℕ) (n a : ℕ) → word (l ++ replicate n 0) a ≡ word l a
word-zeros [] n a = zeros-word n a
word-zeros (x ∷ l) n zero = refl
word-zeros (x ∷ l) n (suc a) = word-zeros l n a

-- zeros, from i on, are zeros
pub drop-zeros : (i m : ℕ) → ◌≡◌ {A = List ℕ} (drop i (replicate m 0)) (replicate (m - i) 0)
drop-zeros zero m = let e : m ≡ m - 0 = omega arith in ap (λ (n : ℕ). replicate n 0) e
drop-zeros (suc i) zero = let e : 0 ≡ 0 - suc i = omega arith in ap (λ (n : ℕ). replicate n 0) e
drop-zeros (suc i) (suc m) = let e : m - i ≡ suc m - suc i = omega arith in drop-zeros i m ∙ ap (λ (n : ℕ). replicate n 0) e

pub below-zeros : {p : ℕ} (n : ℕ) → 0 < p → Below p (replicate n 0)
below-zeros {p} n h = record { each = λ j. rw (zeros-word n j) h }

pub below_nil : {p : ℕ} → 0 < p → Below p []
below_nil h = record { each = λ j. h }

snoc_each : (p : ℕ) (l : List ℕ) (x : ℕ) → 0 < p → ((j : ℕ) → word l j < p) → x < p → (j : ℕ) → word (l ++ (x ∷ [])) j < p
snoc_each p [] x z h k zero = k
snoc_each p [] x z h k (suc j) = z
snoc_each p (y ∷ l) x z h k zero = h 0
snoc_each p (y ∷ l) x z h k (suc j) = snoc_each p l x z (λ n. h (suc n)) k j

pub below_snoc : {p : ℕ} {l : List ℕ} (x : ℕ) → Below p l → x < p → Below p (l ++ (x ∷ []))
below_snoc {p} {l} x h k = record { each = snoc_each p l x (below-pos h) h.each k }

take-each : (p n : ℕ) (l : List ℕ) → 0 < p → ((j : ℕ) → word l j < p) → (j : ℕ) → word (take n l) j < p
take-each p zero l z h j = z
take-each p (suc n) [] z h j = z
take-each p (suc n) (x ∷ l) z h zero = h 0
take-each p (suc n) (x ∷ l) z h (suc j) = take-each p n l z (λ i. h (suc i)) j

-- a row of a trace
pub below_row : {p : ℕ} {l : List ℕ} (width r : ℕ) → Below p l → Below p (row_of l width r)
unfolding row_of
below_row {p} {l} width r h =
    record { each = take-each p width (drop (r * width) l) (below-pos h) (λ j. rw (get_or-drop (r * width) l j 0) (h.each (r * width + j))) }

-- what the tests of words say
below_at : (p : ℕ) (l : List ℕ) → 0 < p → every (λ i. ltb (word l i) p) (length l) ≡ true → (i : ℕ) (b : Bool) → ltb i (length l) ≡ b → word l i < p
below_at p l z e i true h = ltb-true (word l i) p (every_true (λ i. ltb (word l i) p) (length l) i e (ltb-true i (length l) h))
below_at p l z e i false h = rw (get_or-eq_default l 0 {n = i} (ltb-false i (length l) h)) z

pub below-tested : {p : ℕ} (l : List ℕ) → 0 < p → all_below p l ≡ true → Below p l
unfolding all_below
below-tested {p} l z e = record { each = λ i. below_at p l z e i (ltb i (length l)) refl }

within-each : (m : ℕ) (l : List ℕ) → every (λ i. leb (word l i) m) (length l) ≡ true → (i : ℕ) (b : Bool) → ltb i (length l) ≡ b → word l i ≤ m
within-each m l e i true h = leb-true (word l i) m (every_true (λ i. leb (word l i) m) (length l) i e (ltb-true i (length l) h))
within-each m l e i false h = rw (get_or-eq_default l 0 {n = i} (ltb-false i (length l) h)) (omega arith)

pub within-tested : (m : ℕ) (l : List ℕ) → all_within m l ≡ true → (i : ℕ) → word l i ≤ m
unfolding all_within
within-tested m l e i = within-each m l e i (ltb i (length l)) refl
