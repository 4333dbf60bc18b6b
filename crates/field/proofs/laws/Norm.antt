-- The inverse of an element by its norm: its product with the element is one, no other element's is, and the steps of the code give it.
use Rattle.std.specs.Prelude.{◌≡◌, ◌≢◌}
use Rattle.std.proofs.Math.Path.{refl, sym, ap}
use Rattle.std.proofs.Common.{ap₂, ◌∙◌, pos_of_ne-zero}
use mathlib.Core.List.{List, [], ◌∷◌}
use Prim.Native.Nat.{ℕ, ◌<◌}
use Rattle.std.proofs.Math.Nat.{mod-lt}
use Rattle.algebra.specs.Ring.{CRing, Ops, quartic}
use Rattle.algebra.specs.laws.Solve.{E, O, X, ◌⊕◌, ◌⊗◌, ⊝◌}
use Rattle.algebra.proofs.laws.Solve.{solve}
use Rattle.algebra.proofs.laws.Quadratic.{Es}
use Rattle.algebra.proofs.laws.Quartic.{Four, solve4, eval4}
use Rattle.algebra.proofs.laws.Extension.{no_zero_div}
use Rattle.field.specs.Word.{add_m, mul_m, neg_m, dot, inverse1}
use Rattle.field.specs.Element.{at, Word4, lift, zero4, one4, mul4, scale4, conjugate, conjugate2, norm2, norm, cofactor, inverse4}
use Rattle.field.specs.Modulus.{Modulus, Certificate}
use Rattle.field.proofs.laws.Word.{add_m-below}
use Rattle.field.specs.laws.Ring.{El, Fp, mk}
use Rattle.field.specs.Extension.{K, KEl, el}
use Rattle.field.specs.laws.Extension.{h}
use Rattle.field.proofs.laws.Homomorphism.{el_mul, el_same, word_same, four, mk_neg, mk_mul, eval_m, hom_m, mks}
use Rattle.field.proofs.laws.Element.{word-mul4, word-lift, mul4_assoc, mul4_comm, mul4-one, scale4_is, lift-mul}
use Rattle.field.proofs.laws.Reduction.{dot-sums}
use Rattle.field.proofs.laws.Inverse.{inverse1_ok}

-- expressions: X 0 for w
abbrev Q : Ops
Q = quartic Es (X 0)

abbrev conj_e : Four → Four
conj_e a = (a.0, ⊝ a.1, a.2, ⊝ a.3)

abbrev conj2_e : Four → Four
conj2_e n = (n.0, n.1, ⊝ n.2, n.3)

abbrev norm2_e : Four → Four
norm2_e a = Q.mul a (conj_e a)

abbrev norm_e : Four → Four
norm_e n = Q.mul n (conj2_e n)

abbrev inverse_e : Four → Four → E → Four
inverse_e a n i = Q.mul (Q.mul (conj_e a) (conj2_e n)) (i, O, O, O)

-- the element in X 1 to X 4; in X 5 the inverse of the norm, or in X 5 and X 6 the words of n0 + n1·X², and in X 7 that inverse
abbrev A : Four
A = (X 1, X 2, X 3, X 4)

abbrev N : Four
N = (X 5, O, X 6, O)

module _ (p w : ℕ) (C : Certificate p w) where
  abbrev pub R : CRing
  R = Fp p (h p w C)

  abbrev pub env : List ℕ → List ℕ
  env a = w ∷ at a 0 ∷ at a 1 ∷ at a 2 ∷ at a 3 ∷ inverse1 p (norm p w a) ∷ []

  abbrev pub ρ : List ℕ → List (El p)
  ρ a = mks p (h p w C) (env a)

  el_conjugate : (a : List ℕ) → el p w C (conjugate p a) ≡ eval4 R (ρ a) (conj_e A)
  unfolding conjugate
  el_conjugate a = four p w C refl (mk_neg p (h p w C) (at a 1)) refl (mk_neg p (h p w C) (at a 3))

  el_norm2 : (a : List ℕ) → el p w C (norm2 p w a) ≡ eval4 R (ρ a) (norm2_e A)
  unfolding norm2
  el_norm2 a = el_mul p w C a (conjugate p a) ∙ ap ((K p w C).ring.mul (el p w C a)) (el_conjugate a)

  el_conjugate2 : (n : List ℕ) (e : Four) (a : List ℕ) → el p w C n ≡ eval4 R (ρ a) e → el p w C (conjugate2 p n) ≡ eval4 R (ρ a) (conj2_e e)
  unfolding conjugate2
  el_conjugate2 n e a k =
      four p w C (ap (λ (x : KEl p w C). x.0) k) (ap (λ (x : KEl p w C). x.1) k) (mk_neg p (h p w C) (at n 2) ∙ ap (λ (x : KEl p w C). R.neg x.2) k)
      (ap (λ (x : KEl p w C). x.3) k)

  el_norm : (a : List ℕ) → el p w C (mul4 p w (norm2 p w a) (conjugate2 p (norm2 p w a))) ≡ eval4 R (ρ a) (norm_e (norm2_e A))
  el_norm a =
      el_mul p w C (norm2 p w a) (conjugate2 p (norm2 p w a))
      ∙ ap₂ (K p w C).ring.mul (el_norm2 a) (el_conjugate2 (norm2 p w a) (norm2_e A) a (el_norm2 a))

  -- the cofactor times a word i, which is X 5
  abbrev ρ5 : List ℕ → ℕ → List (El p)
  ρ5 a i = mks p (h p w C) (w ∷ at a 0 ∷ at a 1 ∷ at a 2 ∷ at a 3 ∷ i ∷ [])

  el_cofactor : (a : List ℕ) (i : ℕ) → el p w C (mul4 p w (cofactor p w a) (lift i)) ≡ eval4 R (ρ5 a i) (inverse_e A (norm2_e A) (X 5))
  el_cofactor a i =
      el_mul p w C (cofactor p w a) (lift i)
      ∙ ap (λ (x : KEl p w C). (K p w C).ring.mul x (el p w C (lift i)))
      (el_mul p w C (conjugate p a) (conjugate2 p (norm2 p w a)) ∙ ap₂ (K p w C).ring.mul (el_conjugate a) (el_conjugate2 (norm2 p w a) (norm2_e A) a (el_norm2 a)))

  el_inverse : (a : List ℕ) → el p w C (inverse4 p w a) ≡ eval4 R (ρ a) (inverse_e A (norm2_e A) (X 5))
  unfolding inverse4
  el_inverse a = el_cofactor a (inverse1 p (norm p w a))

  -- not all four words are 0
  abbrev pub NonZero4 : List ℕ → Type 0
  NonZero4 a = el p w C a ≢ (K p w C).ring.z

  neg-zero : (x : El p) → R.neg x ≡ R.z → x ≡ R.z
  neg-zero x e = solve R (x ∷ []) (X 0) (⊝ (⊝ X 0)) tt ∙ ap R.neg e ∙ solve R [] (⊝ O) O tt

  -- a product of elements that are not 0 is not 0, so the norm of such an element is not 0
  pub norm-nonzero : (a : List ℕ) → NonZero4 a → norm p w a ≢ 0
  unfolding norm
  norm-nonzero a nz e = go ((K p w C).dec n)
    where
      KR : CRing
      KR = (K p w C).ring

      c : KEl p w C
      c = eval4 R (ρ a) (conj_e A)

      n : KEl p w C
      n = eval4 R (ρ a) (norm2_e A)

      c2 : KEl p w C
      c2 = eval4 R (ρ a) (conj2_e (norm2_e A))

      product : KR.mul n c2 ≡ KR.z
      product =
          solve4 R (ρ a) (norm_e (norm2_e A)) ((norm_e (norm2_e A)).0, O, O, O) tt tt tt tt
          ∙ four p w C (ap (λ (x : KEl p w C). x.0) (sym (el_norm a)) ∙ ap (mk p (h p w C)) e) refl refl refl

      conj_zero : c ≡ KR.z → el p w C a ≡ KR.z
      conj_zero k =
          four p w C (ap (λ (x : KEl p w C). x.0) k) (neg-zero _ (ap (λ (x : KEl p w C). x.1) k)) (ap (λ (x : KEl p w C). x.2) k)
          (neg-zero _ (ap (λ (x : KEl p w C). x.3) k))

      conj2_zero : c2 ≡ KR.z → n ≡ KR.z
      conj2_zero k =
          four p w C (ap (λ (x : KEl p w C). x.0) k) (ap (λ (x : KEl p w C). x.1) k) (neg-zero _ (ap (λ (x : KEl p w C). x.2) k))
          (ap (λ (x : KEl p w C). x.3) k)

      go : Dec (n ≡ KR.z) → ⊥
      go (yes k) = nz (conj_zero (no_zero_div (K p w C) (el p w C a) c k nz))
      go (no k) = k (conj2_zero (no_zero_div (K p w C) n c2 product k))

  pub norm-below : (a : List ℕ) → norm p w a < p
  unfolding norm mul4
  norm-below a = mod-lt _ (h p w C)

  pub word-norm2 : (a : List ℕ) → Word4 p (norm2 p w a)
  unfolding norm2
  word-norm2 a = word-mul4 p (h p w C) w a (conjugate p a)

  pub word-inverse4 : (a : List ℕ) → Word4 p (inverse4 p w a)
  unfolding inverse4
  word-inverse4 a = word-mul4 p (h p w C) w (mul4 p w (conjugate p a) (conjugate2 p (norm2 p w a))) (lift (inverse1 p (norm p w a)))

  norm-word : (b : List ℕ) → mk p (h p w C) (at (mul4 p w (norm2 p w b) (conjugate2 p (norm2 p w b))) 0) ≡ mk p (h p w C) (norm p w b)
  unfolding norm
  norm-word b = refl

  pub inverse4_ok : Modulus p → (a : List ℕ) → NonZero4 a → mul4 p w a (inverse4 p w a) ≡ one4
  unfolding mul4
  inverse4_ok m a nz =
      el_same p w C (mul4 p w a (inverse4 p w a)) one4 (word-mul4 p (h p w C) w a (inverse4 p w a)) (word-lift p (h p w C) 1 C.prime.big)
      (el_mul p w C a (inverse4 p w a) ∙ ap ((K p w C).ring.mul (el p w C a)) (el_inverse a)
      ∙ solve4 R (ρ a) (Q.mul A (inverse_e A (norm2_e A) (X 5))) ((norm_e (norm2_e A)).0 ⊗ X 5, O, O, O) tt tt tt tt
      ∙ four p w C
      (ap (λ (x : El p). R.mul x (mk p (h p w C) (inverse1 p (norm p w a)))) (ap (λ (x : KEl p w C). x.0) (sym (el_norm a)) ∙ norm-word a)
      ∙ sym (mk_mul p (h p w C) (norm p w a) (inverse1 p (norm p w a)))
      ∙ ap (mk p (h p w C)) (inverse1_ok p m C.prime (norm p w a) (pos_of_ne-zero (norm-nonzero a nz)) (norm-below a)))
      refl refl refl)

  times_one : (b : List ℕ) → mul4 p w (inverse4 p w b) one4 ≡ inverse4 p w b
  unfolding inverse4 mul4
  times_one b = mul4-one p w C (inverse4 p w b) refl (word-inverse4 b)

  -- r = r·(a·i) = (a·r)·i = i
  pub inverse4_unique : Modulus p → (a : List ℕ) (r0 r1 r2 r3 : ℕ) → Word4 p (r0 ∷ r1 ∷ r2 ∷ r3 ∷ []) → NonZero4 a
      → mul4 p w a (r0 ∷ r1 ∷ r2 ∷ r3 ∷ []) ≡ one4 → r0 ∷ r1 ∷ r2 ∷ r3 ∷ [] ≡ inverse4 p w a
  inverse4_unique m a r0 r1 r2 r3 k nz e =
      let r : List ℕ = r0 ∷ r1 ∷ r2 ∷ r3 ∷ [] in
      sym (mul4-one p w C r refl k) ∙ ap (mul4 p w r) (sym (inverse4_ok m a nz)) ∙ sym (mul4_assoc p w C r a (inverse4 p w a))
      ∙ ap (λ (x : List ℕ). mul4 p w x (inverse4 p w a)) (mul4_comm p w C r a ∙ e) ∙ mul4_comm p w C one4 (inverse4 p w a) ∙ times_one a

  -- the cofactor of zero is zero
  pub cofactor-zero : (i : ℕ) → mul4 p w (cofactor p w zero4) (lift i) ≡ zero4
  unfolding mul4
  cofactor-zero i =
      el_same p w C (mul4 p w (cofactor p w zero4) (lift i)) zero4 (word-mul4 p (h p w C) w (cofactor p w zero4) (lift i)) (word-lift p (h p w C) 0 (h p w C))
      (el_cofactor zero4 i ∙ solve4 R (ρ5 zero4 i) (inverse_e (O, O, O, O) (norm2_e (O, O, O, O)) (X 5)) (O, O, O, O) tt tt tt tt)

  pub inverse4-zero : inverse4 p w zero4 ≡ zero4
  unfolding inverse4
  inverse4-zero = cofactor-zero (inverse1 p (norm p w zero4))

  -- m ÷ a: the cofactor times m ÷ norm
  pub quotient_by : (a : List ℕ) (m i : ℕ) → i ≡ mul_m p m (inverse1 p (norm p w a)) → mul4 p w (cofactor p w a) (lift i) ≡ scale4 p m (inverse4 p w a)
  unfolding inverse4
  quotient_by a m i e =
      let n : ℕ = inverse1 p (norm p w a) in
      let c : List ℕ = cofactor p w a in
      ap (mul4 p w c) (ap lift e ∙ lift-mul p w C m n) ∙ sym (mul4_assoc p w C c (lift m) (lift n)) ∙ ap (λ (x : List ℕ). mul4 p w x (lift n)) (mul4_comm p w C c (lift m))
      ∙ mul4_assoc p w C (lift m) c (lift n) ∙ sym (scale4_is p w C m (mul4 p w c (lift n)))

  -- The steps of the code.
  module _ (a : List ℕ) where
    abbrev pub lo : ℕ
    lo = at (norm2 p w a) 0

    abbrev pub hi : ℕ
    hi = at (norm2 p w a) 2

    -- what the code computes of a coefficient of n0 + n1·X² is that coefficient
    pub norm2_lo : (v1 v2 m3 n : ℕ) → v1 ≡ mul_m p w (at a 1) → v2 ≡ mul_m p w (at a 2) → m3 ≡ neg_m p (at a 3)
        → n ≡ dot p (at a 0) (at a 0) v2 (at a 2) v1 m3 v1 m3 → n ≡ lo
    norm2_lo v1 v2 m3 n f1 f2 f3 f4 =
        f4 ∙ dot-sums p (at a 0) (at a 0) v2 (at a 2) v1 m3 v1 m3 ∙ (cc)
        ∙ word_same p w C (eval_m p (h p w C) (env a) E0) lo (add_m-below p (h p w C) _ _) (word-norm2 a).w0
        (hom_m p (h p w C) (env a) E0 ∙ solve R (ρ a) E0 (norm2_e A).0 tt ∙ sym (ap (λ (x : KEl p w C). x.0) (el_norm2 a)))
      where
        E0 : E
        E0 = X 1 ⊗ X 1 ⊕ X 0 ⊗ X 3 ⊗ X 3 ⊕ X 0 ⊗ X 2 ⊗ ⊝ X 4 ⊕ X 0 ⊗ X 2 ⊗ ⊝ X 4

    pub norm2_hi : (v3 m1 m3 n : ℕ) → v3 ≡ mul_m p w (at a 3) → m1 ≡ neg_m p (at a 1) → m3 ≡ neg_m p (at a 3)
        → n ≡ dot p (at a 0) (at a 2) (at a 0) (at a 2) (at a 1) m1 v3 m3 → n ≡ hi
    norm2_hi v3 m1 m3 n f1 f2 f3 f4 =
        f4 ∙ dot-sums p (at a 0) (at a 2) (at a 0) (at a 2) (at a 1) m1 v3 m3 ∙ (cc)
        ∙ word_same p w C (eval_m p (h p w C) (env a) E2) hi (add_m-below p (h p w C) _ _) (word-norm2 a).w2
        (hom_m p (h p w C) (env a) E2 ∙ solve R (ρ a) E2 (norm2_e A).2 tt ∙ sym (ap (λ (x : KEl p w C). x.2) (el_norm2 a)))
      where
        E2 : E
        E2 = X 1 ⊗ X 3 ⊕ X 1 ⊗ X 3 ⊕ X 2 ⊗ ⊝ X 2 ⊕ X 0 ⊗ X 4 ⊗ ⊝ X 4

    -- n0 + n1·X² has no odd coefficients
    el_even : el p w C (norm2 p w a) ≡ (mk p (h p w C) lo, mk p (h p w C) 0, mk p (h p w C) hi, mk p (h p w C) 0)
    el_even =
        four p w C refl (ap (λ (x : KEl p w C). x.1) (el_norm2 a) ∙ solve R (ρ a) (norm2_e A).1 O tt) refl
        (ap (λ (x : KEl p w C). x.3) (el_norm2 a) ∙ solve R (ρ a) (norm2_e A).3 O tt)

    -- X 5 and X 6 are the words of n0 + n1·X², X 7 is a number that is handed in
    abbrev pub env2 : ℕ → List ℕ
    env2 i = w ∷ at a 0 ∷ at a 1 ∷ at a 2 ∷ at a 3 ∷ lo ∷ hi ∷ i ∷ []

    abbrev pub ρ2 : ℕ → List (El p)
    ρ2 i = mks p (h p w C) (env2 i)

    el_conj2 : (i : ℕ) → el p w C (conjugate2 p (norm2 p w a)) ≡ eval4 R (ρ2 i) (conj2_e N)
    unfolding conjugate2
    el_conj2 i =
        four p w C refl (ap (λ (x : KEl p w C). x.1) el_even) (mk_neg p (h p w C) hi) (ap (λ (x : KEl p w C). x.3) el_even)

    pub norm_by : (x y m : ℕ) → x ≡ lo → y ≡ hi → m ≡ add_m p (mul_m p x x) (mul_m p (mul_m p w y) (neg_m p y)) → m ≡ norm p w a
    norm_by x y m f1 f2 f3 =
        (cc)
        ∙ word_same p w C (eval_m p (h p w C) (env2 0) EN) (norm p w a) (add_m-below p (h p w C) _ _) (norm-below a)
        (hom_m p (h p w C) (env2 0) EN ∙ solve R (ρ2 0) EN (norm_e N).0 tt
        ∙ sym
        (ap (λ (t : KEl p w C). t.0)
        (el_mul p w C (norm2 p w a) (conjugate2 p (norm2 p w a)) ∙ ap₂ (K p w C).ring.mul el_even (el_conj2 0)))
        ∙ norm-word a)
      where
        EN : E
        EN = X 5 ⊗ X 5 ⊕ X 0 ⊗ X 6 ⊗ ⊝ X 6

    el_cofactor2 : (i : ℕ) → el p w C (mul4 p w (cofactor p w a) (lift i)) ≡ eval4 R (ρ2 i) (inverse_e A N (X 7))
    el_cofactor2 i =
        el_mul p w C (cofactor p w a) (lift i)
        ∙ ap (λ (x : KEl p w C). (K p w C).ring.mul x (el p w C (lift i)))
        (el_mul p w C (conjugate p a) (conjugate2 p (norm2 p w a)) ∙ ap₂ (K p w C).ring.mul (el_conjugate a) (el_conj2 i))

    pub cofactor_by : (x y i e0 e1 f0 f1 v2 v3 r0 r1 r2 r3 : ℕ) → x ≡ lo → y ≡ hi
        → e0 ≡ mul_m p x i → e1 ≡ mul_m p (neg_m p y) i → f0 ≡ neg_m p e0 → f1 ≡ neg_m p e1
        → v2 ≡ mul_m p w (at a 2) → v3 ≡ mul_m p w (at a 3)
        → r0 ≡ add_m p (mul_m p (at a 0) e0) (mul_m p v2 e1) → r1 ≡ add_m p (mul_m p (at a 1) f0) (mul_m p v3 f1)
        → r2 ≡ add_m p (mul_m p (at a 0) e1) (mul_m p (at a 2) e0) → r3 ≡ add_m p (mul_m p (at a 1) f1) (mul_m p (at a 3) f0)
        → r0 ∷ r1 ∷ r2 ∷ r3 ∷ [] ≡ mul4 p w (cofactor p w a) (lift i)
    unfolding mul4
    cofactor_by x y i e0 e1 f0 f1 v2 v3 r0 r1 r2 r3 g1 g2 g4 g5 g6 g7 g8 g9 k0 k1 k2 k3 =
        (cc)
        ∙ el_same p w C (ev R4.0 ∷ ev R4.1 ∷ ev R4.2 ∷ ev R4.3 ∷ []) (mul4 p w (cofactor p w a) (lift i))
        (record { w0 = add_m-below p (h p w C) _ _; w1 = add_m-below p (h p w C) _ _; w2 = add_m-below p (h p w C) _ _; w3 = add_m-below p (h p w C) _ _ }) (word-mul4 p (h p w C) w (cofactor p w a) (lift i))
        (four p w C (hom_m p (h p w C) (env2 i) R4.0) (hom_m p (h p w C) (env2 i) R4.1) (hom_m p (h p w C) (env2 i) R4.2) (hom_m p (h p w C) (env2 i) R4.3)
        ∙ solve4 R (ρ2 i) R4 (inverse_e A N (X 7)) tt tt tt tt ∙ sym (el_cofactor2 i))
      where
        E0 : E
        E0 = X 5 ⊗ X 7

        E1 : E
        E1 = ⊝ X 6 ⊗ X 7

        R4 : Four
        R4 = (
          X 1 ⊗ E0 ⊕ X 0 ⊗ X 3 ⊗ E1,
          X 2 ⊗ ⊝ E0 ⊕ X 0 ⊗ X 4 ⊗ ⊝ E1,
          X 1 ⊗ E1 ⊕ X 3 ⊗ E0,
          X 2 ⊗ ⊝ E1 ⊕ X 4 ⊗ ⊝ E0,
        )

        ev : E → ℕ
        ev e = eval_m p (h p w C) (env2 i) e
