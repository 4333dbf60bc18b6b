-- A lent list d into which records of k words each are written from the front: f 0, f 1, .., n of them.
use Rattle.std.specs.Prelude.{◌≡◌, refl, List, [], ◌∷◌, ◌++◌, ℕ, ◌+◌, ◌*◌, ◌-◌, ◌<◌, ◌≤◌, length, drop, set}
use Rattle.std.proofs.Common.{sym, ap, ◌∙◌, zero-le, mul-le-mul_left, mul-le-mul_right, mul-zero, suc-mul, arith}
use borrow.Rule.Slice.PartMut.{put_mid}
use Rattle.lists.specs.Count.{joined}
use Rattle.lists.specs.laws.Count.{joined-one}
use Rattle.lists.specs.laws.Filled.{Filled, filled_none, filled-part}

pub record Writing (f : ℕ → List ℕ) (k n : ℕ) (d : List ℕ) (i : ℕ) (b : List ℕ) : Type 0 where
  pub within : i ≤ n
  pub room : k * n ≤ length d
  pub out : Filled d (joined f 0 i) (k * i) b

pub begins : {f : ℕ → List ℕ} {k n : ℕ} {d : List ℕ} → k * n ≤ length d → Writing f k n d 0 d
unfolding joined
begins {f} {k} {n} {d} h = record { within = zero-le; room = h; out = rw (mul-zero k) filled_none }

-- record i was lent its k words, and they are back at ys
pub turn : {f : ℕ → List ℕ} {k n i s e : ℕ} {d b ys : List ℕ} → Writing f k n d i b → i < n → s ≡ k * i → e ≡ s + k → ys ≡ f i → length ys ≡ k → Writing f k n d (i + 1) (put_mid s (e - s) b ys)
turn {f} {k} {n} {i} {s} {e} {d} {b} {ys} w h hs he y l =
    let next : i + 1 ≤ n = omega arith in
    let more : k * (i + 1) ≤ k * n = mul-le-mul_left k next in
    let e≡ : e ≡ k * (i + 1) = omega arith in
    let p : joined f 0 (i + 1) ≡ joined f 0 i ++ ys = joined-one f 0 i ∙ ap (λ (z : List ℕ). joined f 0 i ++ z) (ap f (omega arith) ∙ sym y) in
    record {
      within = omega arith;
      room = w.room;
      out = rw (← e≡, hs) (filled-part {i = k * i} {e = e} ys w.out (omega arith) (omega (arith, w.room)) (omega arith) p);
    }

pub ends : {f : ℕ → List ℕ} {k n i : ℕ} {d b : List ℕ} → Writing f k n d i b → n ≤ i → b ≡ joined f 0 n ++ drop (k * n) d
ends {f} {k} {n} {i} {d} w h = let e : i ≡ n = omega (arith, w.within) in w.out.is ∙ ap (λ (j : ℕ). joined f 0 j ++ drop (k * j) d) e

-- record a of b records of m words ends within them
pub next_times : (a b m : ℕ) → a < b → a * m + m ≤ b * m
next_times a b m h = rw suc-mul at (mul-le-mul_right m h)

-- nine stores into nine words
pub nine-set : (l : List ℕ) (a b c d e f g h i : ℕ) → length l ≡ 9
    → set (set (set (set (set (set (set (set (set l 0 a) 1 b) 2 c) 3 d) 4 e) 5 f) 6 g) 7 h) 8 i ≡ a ∷ b ∷ c ∷ d ∷ e ∷ f ∷ g ∷ h ∷ i ∷ []
nine-set [] a b c d e f g h i z = absurd (omega arith)
nine-set (_ ∷ []) a b c d e f g h i z = absurd (omega arith)
nine-set (_ ∷ _ ∷ []) a b c d e f g h i z = absurd (omega arith)
nine-set (_ ∷ _ ∷ _ ∷ []) a b c d e f g h i z = absurd (omega arith)
nine-set (_ ∷ _ ∷ _ ∷ _ ∷ []) a b c d e f g h i z = absurd (omega arith)
nine-set (_ ∷ _ ∷ _ ∷ _ ∷ _ ∷ []) a b c d e f g h i z = absurd (omega arith)
nine-set (_ ∷ _ ∷ _ ∷ _ ∷ _ ∷ _ ∷ []) a b c d e f g h i z = absurd (omega arith)
nine-set (_ ∷ _ ∷ _ ∷ _ ∷ _ ∷ _ ∷ _ ∷ []) a b c d e f g h i z = absurd (omega arith)
nine-set (_ ∷ _ ∷ _ ∷ _ ∷ _ ∷ _ ∷ _ ∷ _ ∷ []) a b c d e f g h i z = absurd (omega arith)
nine-set (_ ∷ _ ∷ _ ∷ _ ∷ _ ∷ _ ∷ _ ∷ _ ∷ _ ∷ []) a b c d e f g h i z = refl
nine-set (_ ∷ _ ∷ _ ∷ _ ∷ _ ∷ _ ∷ _ ∷ _ ∷ _ ∷ _ ∷ l) a b c d e f g h i z = absurd (omega arith)
