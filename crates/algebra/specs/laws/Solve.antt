-- A normaliser for commutative rings, by reflection: `solve R ρ l r tt` proves an identity by computing both normal forms.
use Rattle.std.specs.Prelude.{◌≡◌, refl, Bool, true, false, List, [], ◌∷◌, leb, eqb, T, get_or}
use Rattle.std.proofs.Common.{sym, ap, ap₂, ◌∙◌, suc-add, zero-add, zero-mul, suc-mul, eqb→eq}
use Prim.Native.Nat.{ℕ, zero, suc, ◌+◌, ◌*◌, ◌^◌, compare, Ordering}
use Rattle.algebra.specs.Ring.{CRing}

pub data E : Type 0 where
  O I : E
  X : ℕ → E
  ◌⊕◌ ◌⊗◌ : E → E → E
  ⊝◌ : E → E

infixl 60 ◌⊕◌
infixl 70 ◌⊗◌
infix 80 ⊝◌
abbrev pub pick {ℓ} : {A : Type ℓ} → Bool → A → A → A
pick true a b = a
pick false a b = b

abbrev pub both : Bool → Bool → Bool
both true b = b
both false b = false

-- monomials: sorted lists of variables
abbrev pub ins : ℕ → List ℕ → List ℕ
ins x [] = x ∷ []
ins x (y ∷ ys) = pick (leb x y) (x ∷ y ∷ ys) (y ∷ ins x ys)

abbrev pub mmul : List ℕ → List ℕ → List ℕ
mmul [] n = n
mmul (x ∷ m) n = ins x (mmul m n)

abbrev pub eq_l : List ℕ → List ℕ → Bool
eq_l [] [] = true
eq_l [] (y ∷ ys) = false
eq_l (x ∷ xs) [] = false
eq_l (x ∷ xs) (y ∷ ys) = both (eqb x y) (eq_l xs ys)

-- the key orders the terms: it is a sum over the variables, so that two monomials are compared in one step
pub record Term : Type 0 where
  pub coef : ℕ
  pub key : ℕ
  pub mono : List ℕ

abbrev pub Poly : Type 0
Poly = List Term

abbrev pub ins_t : ℕ → ℕ → List ℕ → Poly → Poly
ins_t c k m [] = record { coef = c; key = k; mono = m } ∷ []
ins_t c k m (t ∷ p) =
    elim (compare k t.key) [
      | Ordering.lt ↦ record { coef = c; key = k; mono = m } ∷ t ∷ p
      | Ordering.eq ↦
          pick (eq_l m t.mono) (record { coef = c + t.coef; key = k; mono = t.mono } ∷ p)
          (record { coef = c; key = k; mono = m } ∷ t ∷ p)
      | Ordering.gt ↦ t ∷ ins_t c k m p
    ]

abbrev pub add_p : Poly → Poly → Poly
add_p [] q = q
add_p (t ∷ p) q = ins_t t.coef t.key t.mono (add_p p q)

-- acc + c·m·q
abbrev pub mul_t : ℕ → ℕ → List ℕ → Poly → Poly → Poly
mul_t c k m [] acc = acc
mul_t c k m (t ∷ q) acc = ins_t (c * t.coef) (k + t.key) (mmul m t.mono) (mul_t c k m q acc)

abbrev pub mul_p : Poly → Poly → Poly → Poly
mul_p [] q acc = acc
mul_p (t ∷ p) q acc = mul_t t.coef t.key t.mono q (mul_p p q acc)

-- what is added and what is taken away
abbrev pub nf : E → Poly × Poly
nf O = ([], [])
nf I = (record { coef = 1; key = 0; mono = [] } ∷ [], [])
nf (X i) = (record { coef = 1; key = 64 ^ i; mono = i ∷ [] } ∷ [], [])
nf (a ⊕ b) = (add_p (nf a).0 (nf b).0, add_p (nf a).1 (nf b).1)
nf (a ⊗ b) =
    (mul_p (nf a).0 (nf b).0 (mul_p (nf a).1 (nf b).1 []), mul_p (nf a).0 (nf b).1 (mul_p (nf a).1 (nf b).0 []))
nf (⊝ a) = ((nf a).1, (nf a).0)

abbrev pub same_p : Poly → Poly → Bool
same_p [] [] = true
same_p [] (t ∷ q) = false
same_p (s ∷ p) [] = false
same_p (s ∷ p) (t ∷ q) = both (eqb s.coef t.coef) (both (eq_l s.mono t.mono) (same_p p q))

abbrev pub same : E → E → Bool
same l r = same_p (add_p (nf l).0 (nf r).1) (add_p (nf r).0 (nf l).1)
