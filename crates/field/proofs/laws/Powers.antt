-- Powers of an element: a factor more, powers of a square, and the turns of the loop that squares and multiplies.
use Rattle.std.specs.Prelude.{◌≡◌, length}
use Rattle.std.proofs.Math.Path.{refl, sym, ap, ap₂, subst}
use Rattle.std.proofs.Common.{◌∙◌}
use mathlib.Core.List.{List}
use Prim.Native.Nat.{ℕ, zero, suc, ◌+◌, ◌<◌}
use native.Mathlib.Omega.{arith}
use Rattle.field.specs.Element.{Word4, one4, mul4, power4}
use Rattle.field.proofs.laws.Element.{word-mul4, word-lift, product_comm, product_assoc, product_one}

module _ (p w : ℕ) (b : List ℕ) where
  pub power4-zero : power4 p w b 0 ≡ one4
  unfolding power4
  power4-zero = refl

  pub power4-suc : (n : ℕ) → power4 p w b (suc n) ≡ mul4 p w (power4 p w b n) b
  unfolding power4
  power4-suc n = refl

  pub four-power4 : (n : ℕ) → length (power4 p w b n) ≡ 4
  unfolding power4 mul4
  four-power4 zero = refl
  four-power4 (suc n) = refl

  pub word-power4 : (n : ℕ) → 1 < p → Word4 p (power4 p w b n)
  unfolding power4
  word-power4 zero h = word-lift p (omega arith) 1 h
  word-power4 (suc n) h = word-mul4 p (omega arith) w (power4 p w b n) b

module _ (p w : ℕ) (pos : 0 < p) where
  pub power4-one : (a : List ℕ) → length a ≡ 4 → Word4 p a → power4 p w a 1 ≡ a
  unfolding power4
  power4-one a l k = product_comm p w pos one4 a ∙ product_one p w pos a l k

  pub power4_square : (a : List ℕ) (n : ℕ) → power4 p w (mul4 p w a a) n ≡ power4 p w a (n + n)
  unfolding power4
  power4_square a zero = refl
  power4_square a (suc n) =
      let e : suc (suc (n + n)) ≡ suc n + suc n = omega arith in
      ap (λ (x : List ℕ). mul4 p w x (mul4 p w a a)) (power4_square a n) ∙ sym (product_assoc p w pos (power4 p w a (n + n)) a a)
      ∙ ap (power4 p w a) e

-- r·x^k is b to the power n
pub record Squaring (p w : ℕ) (b : List ℕ) (n : ℕ) (r x : List ℕ) (k : ℕ) : Type 0 where
  pub word_r : Word4 p r
  pub word_x : Word4 p x
  pub is : mul4 p w r (power4 p w x k) ≡ power4 p w b n

pub squaring_begins : {p w : ℕ} {b : List ℕ} (n : ℕ) → 1 < p → Word4 p b → Squaring p w b n one4 b n
squaring_begins {p} {w} {b} n h k =
    let pos : 0 < p = omega arith in
    record {
      word_r = word-lift p pos 1 h;
      word_x = k;
      is = product_comm p w pos one4 (power4 p w b n) ∙ product_one p w pos (power4 p w b n) (four-power4 p w b n) (word-power4 p w b n h);
    }

module _ {p w : ℕ} {b : List ℕ} {n : ℕ} {r x x' : List ℕ} {k : ℕ} (s : Squaring p w b n r x k) (pos : 0 < p) (h : ℕ) (ex : Word4 p x' × (x' ≡ mul4 p w x x)) where
  halved : power4 p w x' h ≡ power4 p w x (h + h)
  halved = ap (λ (y : List ℕ). power4 p w y h) ex.1 ∙ power4_square p w pos x h

  pub squaring_even : {r' : List ℕ} → k ≡ h + h → r' ≡ r → Squaring p w b n r' x' h
  squaring_even e er =
      record {
        word_r = subst (Word4 p) (sym er) s.word_r;
        word_x = ex.0;
        is = ap₂ (mul4 p w) er (halved ∙ ap (power4 p w x) (sym e)) ∙ s.is;
      }

  pub squaring_odd : {r' m : List ℕ} → k ≡ suc (h + h) → r' ≡ m → Word4 p m × (m ≡ mul4 p w r x) → Squaring p w b n r' x' h
  unfolding power4
  squaring_odd e er (wm, em) =
      let q : List ℕ = power4 p w x (h + h) in
      record {
        word_r = subst (Word4 p) (sym er) wm;
        word_x = ex.0;
        is =
            ap₂ (mul4 p w) (er ∙ em) halved ∙ product_assoc p w pos r x q ∙ ap (mul4 p w r) (product_comm p w pos x q ∙ ap (power4 p w x) (sym e))
            ∙ s.is;
      }

pub squaring_ends : {p w : ℕ} {b : List ℕ} {n : ℕ} {r x : List ℕ} {k : ℕ} → Squaring p w b n r x k → 0 < p → length r ≡ 4 → k ≡ 0 → r ≡ power4 p w b n
unfolding power4
squaring_ends {p} {w} {r = r} {x} s pos l e = sym (product_one p w pos r l s.word_r) ∙ ap (λ (i : ℕ). mul4 p w r (power4 p w x i)) (sym e) ∙ s.is
