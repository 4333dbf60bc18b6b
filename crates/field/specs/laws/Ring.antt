-- Numbers below p, with sums and products modulo p, are a commutative ring; a field where p is prime.
use Rattle.std.specs.Prelude.{◌≡◌, ◌≢◌, ℕ, ◌+◌, ◌*◌, ◌-◌, ◌<◌, ◌%◌}
use Rattle.std.proofs.Common.{sym, ap, ◌∙◌, arith, mod-lt, mod-eq_of_lt, mul_comm, mul_assoc, mul-add, mul-one, le_of_lt, pos_of_ne-zero}
use mathlib.Core.HLevel.{Σ_prop_path}
use Rattle.std.proofs.Math.Bridge.{le_prop}
use Rattle.std.proofs.Math.Decide.{ℕ_discrete}
use Rattle.std.proofs.Math.Nat.{mod-add-mod, add-mod-mod, mod_self, zero-mod}
use Rattle.algebra.specs.Ring.{CRing}
use Rattle.algebra.specs.Field.{Field}
use Rattle.algebra.specs.Prime.{Prime}
use Rattle.algebra.proofs.laws.Remainder.{mul-mod-mod, mod-mul-mod}
use Rattle.algebra.proofs.laws.Primality.{inverse}

abbrev pub El : ℕ → Type 0
El p = (n : ℕ) × (n < p)

module _ (p : ℕ) (pos : 0 < p) where
  pub eq : {x y : El p} → x.0 ≡ y.0 → x ≡ y
  eq e = Σ_prop_path (λ n. le_prop) e

  abbrev pub mk : ℕ → El p
  mk n = (n % p, mod-lt n pos)

  pub mk_val : (x : El p) → mk x.0 ≡ x
  mk_val x = eq (mod-eq_of_lt x.1)

  abbrev pub Fp : CRing
  Fp =
      record {
        El = El p;
        z = mk 0;
        u = mk 1;
        add = λ x y. mk (x.0 + y.0);
        mul = λ x y. mk (x.0 * y.0);
        neg = λ x. mk (p - x.0);
        add_assoc =
            λ a b c.
            eq (mod-add-mod (a.0 + b.0) p c.0 ∙ ap (λ (n : ℕ). n % p) (omega arith) ∙ sym (add-mod-mod a.0 (b.0 + c.0) p));
        add_comm = λ a b. ap mk (omega arith);
        add_z = λ a. eq (add-mod-mod a.0 0 p ∙ ap (λ (n : ℕ). n % p) (omega arith) ∙ mod-eq_of_lt a.1);
        add_neg =
            λ a. eq (add-mod-mod a.0 (p - a.0) p ∙ ap (λ (n : ℕ). n % p) (omega (arith, a.1)) ∙ mod_self p ∙ sym (zero-mod p));
        mul_assoc = λ a b c. eq (mod-mul-mod (a.0 * b.0) c.0 p ∙ ap (λ (n : ℕ). n % p) (mul_assoc a.0 b.0 c.0) ∙ sym (mul-mod-mod a.0 (b.0 * c.0) p));
        mul_comm = λ a b. ap mk (mul_comm a.0 b.0);
        mul_u = λ a. eq (mul-mod-mod a.0 1 p ∙ ap (λ (n : ℕ). n % p) (mul-one a.0) ∙ mod-eq_of_lt a.1);
        mul_add =
            λ a b c.
            eq
            (mul-mod-mod a.0 (b.0 + c.0) p ∙ ap (λ (n : ℕ). n % p) (mul-add a.0 b.0 c.0)
            ∙ sym (mod-add-mod (a.0 * b.0) p (a.0 * c.0 % p) ∙ add-mod-mod (a.0 * b.0) (a.0 * c.0) p));
      }

pub one≢zero : ◌≢◌ {A = ℕ} 1 0
one≢zero e = omega arith

module _ (p : ℕ) (P : Prime p) where
  pub pos : 0 < p
  pos = le_of_lt P.big

  pub word-dec : (a : El p) → Dec (a ≡ mk p pos 0)
  word-dec a = go (ℕ_discrete a.0 (0 % p))
    where
      go : Dec (a.0 ≡ 0 % p) → Dec (a ≡ mk p pos 0)
      go (yes h) = yes (eq p pos h)
      go (no h) = no (λ e. h (ap (λ (x : El p). x.0) e))

  pub word-inv : (a : El p) → a ≢ mk p pos 0 → (b : El p) × (mk p pos (a.0 * b.0) ≡ mk p pos 1)
  word-inv a h =
      let i : (b : ℕ) × ((a.0 * b) % p ≡ 1) =
      inverse p P a.0 (pos_of_ne-zero (λ e. h (eq p pos (e ∙ sym (zero-mod p))))) a.1
      in
      (mk p pos i.0, eq p pos (mul-mod-mod a.0 i.0 p ∙ i.1 ∙ sym (mod-eq_of_lt P.big)))

  abbrev pub words : Field
  words =
      record {
        ring = Fp p pos;
        dec = word-dec;
        inv = word-inv;
        u≢z = λ e. absurd (one≢zero (sym (mod-eq_of_lt P.big) ∙ ap (λ (x : El p). x.0) e ∙ zero-mod p));
      }
