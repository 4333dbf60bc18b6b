-- Decimal texts and the order of lists, over plain lists and numbers.
use Rattle.std.specs.Prelude.{Some}
use Rattle.std.specs.Ordering.{is_lt, is_some_and, nat_cmp, partial_ordering_then}
use Rattle.std.proofs.Common.{Less, Equal, Greater}
use Rattle.std.specs.Cmp.Lexicographic.{slice_partial_cmp}
use mathlib.Core.Path.{◌≡◌, refl, sym, ap, ap₂, ◌∙◌}
use mathlib.Core.Bool.{Bool, true, false, cond}
use mathlib.Core.List.{List, [], ◌∷◌, ◌++◌}
use Prim.Native.Nat.{ℕ, zero, suc, ◌+◌, ◌-◌, ◌/◌, ◌%◌, ◌^◌, ◌<◌, ◌≤◌, zero-le}
use native.Mathlib.Numerals.{add-one}
use native.Mathlib.Omega.{arith}
use lib.Dec.{eqb, ltb, lit≤}
use lib.ListN.{length, take, drop, get_or, set, replicate, length-append, drop_of_length-le}
use lib.Seq.{drop-cons, take_at}
use borrow.Author.Tests.{eq-eqb, ne_eqb, lt-ltb, le-ltb, ltb-true, ltb-false, eqb-true}
use Rattle.lists.specs.laws.Parts.{put_next, through_length}
use Rattle.balance_slots.specs.Decimal.{digits, text, in_order}

-- one digit more of fuel changes nothing where it suffices
digits_fuel : (n x : ℕ) → x < 10 ^ suc n → digits (suc (suc n)) x ≡ digits (suc n) x
unfolding digits
digits_fuel zero x h = let l : ltb x 10 ≡ true = lt-ltb x 10 (omega arith) in rw l
digits_fuel (suc n) x h = ap (λ (l : List ℕ). cond (ltb x 10) (x ∷ []) (l ++ (x % 10 ∷ []))) (digits_fuel n (x / 10) (omega arith))

pub text-small : (x : ℕ) → x < 10 → text x ≡ x ∷ []
unfolding digits
text-small x h = rw (lt-ltb x 10 h)

pub text-step : (x : ℕ) → 10 ≤ x → x ≤ 4294967295 → text x ≡ text (x / 10) ++ (x % 10 ∷ [])
unfolding digits
text-step x h g =
    let l : x / 10 < 10 ^ 9 = omega arith in
    rw (le-ltb x 10 h) (ap (λ (d : List ℕ). d ++ (x % 10 ∷ [])) (sym (digits_fuel 8 (x / 10) l)))

digits_long : (k n x : ℕ) → x < 10 ^ suc k → length (digits n x) ≤ suc k
unfolding digits
digits_long k zero x h = zero-le
digits_long zero (suc n) x h = let l : ltb x 10 ≡ true = lt-ltb x 10 (omega arith) in rw l (lit≤ tt)
digits_long (suc k) (suc n) x h = go (ltb x 10) (digits_long k n (x / 10) (omega arith))
  where
    go : (b : Bool) → length (digits n (x / 10)) ≤ suc k → length (cond b (x ∷ []) (digits n (x / 10) ++ (x % 10 ∷ []))) ≤ suc (suc k)
    go true ih = omega arith
    go false ih = simp length-append (omega arith)

pub text-long : (x : ℕ) → x ≤ 4294967295 → length (text x) ≤ 10
text-long x h = digits_long 9 10 x (omega arith)

pub push_small : (x : ℕ) (out : List ℕ) → x < 10 → length (text x) ≤ length out → (1 ≡ length (text x)) × (set out 0 x ≡ text x ++ drop 1 out)
push_small x out h g = (ap length (sym (text-small x h)), go out (rw (text-small x h) at g) ∙ ap (λ (l : List ℕ). l ++ drop 1 out) (sym (text-small x h)))
  where
    go : (l : List ℕ) → 1 ≤ length l → set l 0 x ≡ (x ∷ []) ++ drop 1 l
    go [] k = absurd (omega arith)
    go (y ∷ l) k = refl

pub one-fits : (x : ℕ) (out : List ℕ) → x < 10 → length (text x) ≤ length out → 0 < length out
one-fits x out h g = rw (text-small x h) at g

-- the digits but the last are there
step-long : (x : ℕ) → 10 ≤ x → x ≤ 4294967295 → length (text x) ≡ length (text (x / 10)) + 1
step-long x h g = ap length (text-step x h g) ∙ length-append (text (x / 10)) (x % 10 ∷ [])

pub fewer : (x : ℕ) (out : List ℕ) → 10 ≤ x → x ≤ 4294967295 → length (text x) ≤ length out → length (text (x / 10)) ≤ length out
fewer x out h g l = omega (arith, step-long x h g)

pub push_room : {n : ℕ} {b : List ℕ} (x : ℕ) (out : List ℕ) → 10 ≤ x → x ≤ 4294967295 → length (text x) ≤ length out → (n ≡ length (text (x / 10))) × (b ≡ text (x / 10) ++ drop n out) → n < length b
push_room {n} {b} x out h g l (en, eb) =
    let z : length b ≡ length out = ap length eb ∙ through_length out (text (x / 10)) n (sym en) (omega (arith, step-long x h g)) in
    omega (arith, step-long x h g)

pub push_back : {n : ℕ} {b : List ℕ} (x : ℕ) (out : List ℕ) → 10 ≤ x → x ≤ 4294967295 → length (text x) ≤ length out → (n ≡ length (text (x / 10))) × (b ≡ text (x / 10) ++ drop n out)
    → (n + 1 ≡ length (text x)) × (set b n (x % 10) ≡ text x ++ drop (n + 1) out)
push_back {n} {b} x out h g l (en, eb) = (
  omega (arith, step-long x h g),
  ap (λ (v : List ℕ). set v n (x % 10)) eb ∙ put_next out (text (x / 10)) n (x % 10) 0 (sym en) (omega (arith, step-long x h g)) ∙ ap (λ (v : List ℕ). v ++ drop (n + 1) out) (sym (text-step x h g)),
)

-- two lists agree in their first i
pub record LessLoop (less : ℕ → ℕ → Bool) (x y : List ℕ) (i : ℕ) : Type 0 where
  pub rest : in_order less (drop i x) (drop i y) ≡ in_order less x y
  pub in_x : i ≤ length x
  pub in_y : i ≤ length y

pub agree-begins : {less : ℕ → ℕ → Bool} {x y : List ℕ} → LessLoop less x y 0
agree-begins = record { rest = refl; in_x = zero-le; in_y = zero-le }

order-step : (less : ℕ → ℕ → Bool) (x y : List ℕ) (i : ℕ) → i < length x → i < length y
    → in_order less (drop i x) (drop i y) ≡ cond (eqb (get_or x i 0) (get_or y i 0)) (in_order less (drop (suc i) x) (drop (suc i) y)) (less (get_or x i 0) (get_or y i 0))
unfolding in_order
order-step less x y i h g = rw (drop-cons x i 0 h, drop-cons y i 0 g)

pub agree_turn : {less : ℕ → ℕ → Bool} {x y : List ℕ} {i : ℕ} → LessLoop less x y i → i < length x → i < length y → get_or x i 0 ≡ get_or y i 0 → LessLoop less x y (i + 1)
agree_turn {less} {x} {y} {i} a h g e = record {
  rest = rw (add-one i) (sym (rw (eq-eqb (get_or x i 0) (get_or y i 0) e) at (order-step less x y i h g)) ∙ a.rest);
  in_x = omega arith;
  in_y = omega arith;
}

pub agree_differs : {less : ℕ → ℕ → Bool} {x y : List ℕ} {i : ℕ} {r : Bool} → LessLoop less x y i → i < length x → i < length y → (get_or x i 0 ≡ get_or y i 0 → ⊥) → r ≡ less (get_or x i 0) (get_or y i 0) → r ≡ in_order less x y
agree_differs {less} {x} {y} {i} {r} a h g n e = e ∙ sym (rw (ne_eqb (get_or x i 0) (get_or y i 0) n) at (order-step less x y i h g)) ∙ a.rest

-- y ends first
pub agree_longer : {less : ℕ → ℕ → Bool} {x y : List ℕ} {i : ℕ} → LessLoop less x y i → i < length x → length y ≤ i → false ≡ in_order less x y
unfolding in_order
agree_longer {less} {x} {y} {i} a h g = (rw (drop-cons x i 0 h, drop_of_length-le y {i = i} g) at a.rest)

-- x ends first
pub agree-ends : {less : ℕ → ℕ → Bool} {x y : List ℕ} {i : ℕ} → LessLoop less x y i → length x ≤ i → ltb (length x) (length y) ≡ in_order less x y
unfolding in_order
agree-ends {less} {x} {y} {i} a h = ap (λ (n : ℕ). ltb n (length y)) (let e : length x ≡ i = omega (arith, a.in_x) in e) ∙ go (ltb i (length y)) refl
  where
    go : (b : Bool) → ltb i (length y) ≡ b → b ≡ in_order less x y
    go true e = rw (drop_of_length-le x {i = i} h, drop-cons y i 0 (ltb-true i (length y) e)) at a.rest
    go false e = rw (drop_of_length-le x {i = i} h, drop_of_length-le y {i = i} (ltb-false i (length y) e)) at a.rest

-- what `<` of slices answers
slices_less : (x y : List ℕ) → is_some_and is_lt (slice_partial_cmp (λ (a b : ℕ). Some (nat_cmp a b)) x y) ≡ in_order ltb x y
unfolding in_order
slices_less [] [] = refl
slices_less [] (b ∷ y) = refl
slices_less (a ∷ x) [] = refl
slices_less (a ∷ x) (b ∷ y) = go (ltb a b) (eqb a b) refl refl (slices_less x y)
  where
    go : (l e : Bool) → ltb a b ≡ l → eqb a b ≡ e → is_some_and is_lt (slice_partial_cmp (λ (a b : ℕ). Some (nat_cmp a b)) x y) ≡ in_order ltb x y → is_some_and is_lt (partial_ordering_then (Some (cond l Less (cond e Equal Greater))) (slice_partial_cmp (λ (a b : ℕ). Some (nat_cmp a b)) x y)) ≡ cond e (in_order ltb x y) l
    go true true p q i = let h : a < b = ltb-true a b p in let z : a ≡ b = eqb-true a b q in absurd (omega arith)
    go true false p q i = refl
    go false true p q i = i
    go false false p q i = refl

-- the texts in the arrays' fronts
pub front-text : {n : ℕ} {b : List ℕ} (x : ℕ) (d : List ℕ) → (n ≡ length (text x)) × (b ≡ text x ++ drop n d) → take (n - 0) (drop 0 b) ≡ text x
front-text {n} {b} x d (en, eb) =
    let z : n - 0 ≡ n = omega arith in
    ap₂ (λ (m : ℕ) (l : List ℕ). take m l) z eb ∙ take_at (text x) (drop n d) n (sym en)

pub less_is : {r : Bool} {n m : ℕ} {a b : List ℕ} (x y : ℕ) (d e : List ℕ) → (n ≡ length (text x)) × (a ≡ text x ++ drop n d) → (m ≡ length (text y)) × (b ≡ text y ++ drop m e)
    → r ≡ is_some_and is_lt (slice_partial_cmp (λ (i j : ℕ). Some (nat_cmp i j)) (take (n - 0) (drop 0 a)) (take (m - 0) (drop 0 b))) → r ≡ in_order ltb (text x) (text y)
less_is x y d e p q er = er ∙ slices_less _ _ ∙ ap₂ (in_order ltb) (front-text x d p) (front-text y e q)

pub few : (x : ℕ) → x ≤ 4294967295 → length (text (x / 10)) ≤ 10
few x h = text-long (x / 10) (omega arith)

pub fits-ten : (x : ℕ) → x ≤ 4294967295 → length (text x) ≤ length (replicate {A = ℕ} 10 0)
fits-ten x h = text-long x h

pub within-ten : {n : ℕ} {b : List ℕ} (x : ℕ) (d : List ℕ) → x ≤ 4294967295 → (n ≡ length (text x)) × (b ≡ text x ++ drop n d) → n ≤ length b
within-ten {n} {b} x d h (en, eb) = omega (arith, ap length eb ∙ length-append (text x) (drop n d))
