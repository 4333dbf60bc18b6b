-- From numbers to the fields: what an expression comes to modulo p, and the element of K that four words stand for.
use Rattle.std.specs.Prelude.{◌≡◌, refl, List, [], ◌∷◌, ℕ, zero, suc, ◌+◌, ◌*◌, ◌-◌, ◌<◌, ◌%◌, T, get_or}
use Rattle.std.proofs.Common.{sym, ap, ap₂, ◌∙◌, mod-eq_of_lt}
use Rattle.std.proofs.Math.Nat.{add-mod, mod-mod}
use Rattle.algebra.specs.Ring.{CRing, Ops, quartic}
use Rattle.algebra.proofs.laws.Remainder.{mul-mod-mod, mod-mul-mod}
use Rattle.algebra.specs.laws.Solve.{E, O, I, X, ◌⊕◌, ◌⊗◌, ⊝◌, same}
use Rattle.algebra.proofs.laws.Solve.{solve, eval}
use Rattle.algebra.proofs.laws.Quadratic.{Es}
use Rattle.algebra.proofs.laws.Quartic.{Four, Quartic}
use Rattle.field.specs.Word.{add_m, sub_m, mul_m, neg_m}
use Rattle.field.specs.Element.{at, Word4, add4, sub4, neg4, mul4}
use Rattle.field.specs.Modulus.{Certificate}
use Rattle.field.specs.laws.Ring.{El, Fp, mk, eq}
use Rattle.field.specs.Extension.{K, KEl, el}
use Rattle.field.specs.laws.Extension.{h}

module _ (p : ℕ) (h : 0 < p) where
  abbrev pub mks : List ℕ → List (El p)
  mks [] = []
  mks (n ∷ l) = mk p h n ∷ mks l

  abbrev pub eval_n : List ℕ → E → ℕ
  eval_n ρ O = 0
  eval_n ρ I = 1
  eval_n ρ (X i) = get_or ρ i 0
  eval_n ρ (a ⊕ b) = eval_n ρ a + eval_n ρ b
  eval_n ρ (a ⊗ b) = eval_n ρ a * eval_n ρ b
  eval_n ρ (⊝ a) = p - eval_n ρ a % p

  get : (ρ : List ℕ) (i : ℕ) → mk p h (get_or ρ i 0) ≡ get_or (mks ρ) i (mk p h 0)
  get [] i = refl
  get (n ∷ ρ) zero = refl
  get (n ∷ ρ) (suc i) = get ρ i

  pub mk_mod : (n : ℕ) → mk p h (n % p) ≡ mk p h n
  mk_mod n = eq p h (mod-mod n p)

  pub hom : (ρ : List ℕ) (e : E) → mk p h (eval_n ρ e) ≡ eval (Fp p h) (mks ρ) e
  hom ρ O = refl
  hom ρ I = refl
  hom ρ (X i) = get ρ i
  hom ρ (a ⊕ b) = eq p h (add-mod (eval_n ρ a) (eval_n ρ b) p) ∙ ap₂ (Fp p h).add (hom ρ a) (hom ρ b)
  hom ρ (a ⊗ b) =
      eq p h (sym (mul-mod-mod (eval_n ρ a % p) (eval_n ρ b) p ∙ mod-mul-mod (eval_n ρ a) (eval_n ρ b) p))
      ∙ ap₂ (Fp p h).mul (hom ρ a) (hom ρ b)
  hom ρ (⊝ a) = ap (Fp p h).neg (hom ρ a)

  -- a number that is computed by l modulo p is the ring's r, where the two are the same polynomial
  pub by_poly : (ρ : List ℕ) (l r : E) → T (same l r)
      → mk p h (eval_n ρ l % p) ≡ eval (Fp p h) (mks ρ) r
  by_poly ρ l r e = mk_mod (eval_n ρ l) ∙ hom ρ l ∙ solve (Fp p h) (mks ρ) l r e

-- numbers with the operations modulo p: what a contract is written over
abbrev pub NOps : ℕ → Ops
NOps p = record { El = ℕ; z = 0; u = 1; add = add_m p; mul = mul_m p; neg = neg_m p }

module _ (p : ℕ) (h : 0 < p) where
  abbrev pub eval_m : List ℕ → E → ℕ
  eval_m ρ O = 0
  eval_m ρ I = 1
  eval_m ρ (X i) = get_or ρ i 0
  eval_m ρ (a ⊕ b) = add_m p (eval_m ρ a) (eval_m ρ b)
  eval_m ρ (a ⊗ b) = mul_m p (eval_m ρ a) (eval_m ρ b)
  eval_m ρ (⊝ a) = neg_m p (eval_m ρ a)

  pub mk_add : (a b : ℕ) → mk p h (add_m p a b) ≡ (Fp p h).add (mk p h a) (mk p h b)
  unfolding add_m
  mk_add a b = mk_mod p h (a + b) ∙ eq p h (add-mod a b p)

  pub mk_mul : (a b : ℕ) → mk p h (mul_m p a b) ≡ (Fp p h).mul (mk p h a) (mk p h b)
  unfolding mul_m
  mk_mul a b = mk_mod p h (a * b) ∙ eq p h (sym (mul-mod-mod (a % p) b p ∙ mod-mul-mod a b p))

  pub mk_neg : (a : ℕ) → mk p h (neg_m p a) ≡ (Fp p h).neg (mk p h a)
  unfolding neg_m
  mk_neg a = mk_mod p h (p - a % p)

  pub hom_m : (ρ : List ℕ) (e : E) → mk p h (eval_m ρ e) ≡ eval (Fp p h) (mks p h ρ) e
  hom_m ρ O = refl
  hom_m ρ I = refl
  hom_m ρ (X i) = get p h ρ i
  hom_m ρ (a ⊕ b) = mk_add (eval_m ρ a) (eval_m ρ b) ∙ ap₂ (Fp p h).add (hom_m ρ a) (hom_m ρ b)
  hom_m ρ (a ⊗ b) = mk_mul (eval_m ρ a) (eval_m ρ b) ∙ ap₂ (Fp p h).mul (hom_m ρ a) (hom_m ρ b)
  hom_m ρ (⊝ a) = mk_neg (eval_m ρ a) ∙ ap (Fp p h).neg (hom_m ρ a)

-- expressions for two elements, X 0 to X 3 and X 4 to X 7, with X 8 for w
abbrev pub A : Four
A = (X 0, X 1, X 2, X 3)

abbrev pub B : Four
B = (X 4, X 5, X 6, X 7)

-- Four words stand for a quadruple over the words. Quadruples with X⁴ = w are a ring for every p above 0 and every w.
module _ (p w : ℕ) (h : 0 < p) where
  abbrev pub ring4 : CRing
  ring4 = Quartic (Fp p h) (mk p h w)

  abbrev pub quadruple : List ℕ → ring4.El
  quadruple l = (mk p h (at l 0), mk p h (at l 1), mk p h (at l 2), mk p h (at l 3))

  abbrev pub both : List ℕ → List ℕ → List ℕ
  both a b = at a 0 ∷ at a 1 ∷ at a 2 ∷ at a 3 ∷ at b 0 ∷ at b 1 ∷ at b 2 ∷ at b 3 ∷ w ∷ []

  pub four_paths : {a b c d a' b' c' d' : El p} → a ≡ a' → b ≡ b' → c ≡ c' → d ≡ d' → ◌≡◌ {A = ring4.El} (a, b, c, d) (a', b', c', d')
  four_paths e f g k = λ i. (e i, f i, g i, k i)

  -- each coefficient of the product, as it is computed, is that of the ring's product
  pub quadruple-mul : (a b : List ℕ) → quadruple (mul4 p w a b) ≡ ring4.mul (quadruple a) (quadruple b)
  unfolding mul4
  quadruple-mul a b =
      let M : Four = (quartic Es (X 8)).mul A B in
      four_paths (by_poly p h (both a b) M.0 M.0 tt) (by_poly p h (both a b) M.1 M.1 tt)
      (by_poly p h (both a b) M.2 M.2 tt) (by_poly p h (both a b) M.3 M.3 tt)

  pub number_same : (m n : ℕ) → m < p → n < p → mk p h m ≡ mk p h n → m ≡ n
  number_same m n k l e = sym (mod-eq_of_lt k) ∙ ap (λ (x : El p). x.0) e ∙ mod-eq_of_lt l

  pub quadruple-same : (a b : List ℕ) → Word4 p a → Word4 p b → quadruple a ≡ quadruple b
      → at a 0 ∷ at a 1 ∷ at a 2 ∷ at a 3 ∷ [] ≡ at b 0 ∷ at b 1 ∷ at b 2 ∷ at b 3 ∷ []
  quadruple-same a b k l e =
      λ j.
      number_same (at a 0) (at b 0) k.w0 l.w0 (ap (λ (x : ring4.El). x.0) e) j
      ∷ number_same (at a 1) (at b 1) k.w1 l.w1 (ap (λ (x : ring4.El). x.1) e) j
      ∷ number_same (at a 2) (at b 2) k.w2 l.w2 (ap (λ (x : ring4.El). x.2) e) j
      ∷ number_same (at a 3) (at b 3) k.w3 l.w3 (ap (λ (x : ring4.El). x.3) e) j
      ∷ []

module _ (p w : ℕ) (C : Certificate p w) where
  pub four : {a b c d a' b' c' d' : El p} → a ≡ a' → b ≡ b' → c ≡ c' → d ≡ d' → ◌≡◌ {A = KEl p w C} (a, b, c, d) (a', b', c', d')
  four e f g k = four_paths p w (h p w C) e f g k

  pub el_mul : (a b : List ℕ) → el p w C (mul4 p w a b) ≡ (K p w C).ring.mul (el p w C a) (el p w C b)
  el_mul a b = quadruple-mul p w (h p w C) a b

  pub el_add : (a b : List ℕ) → el p w C (add4 p a b) ≡ (K p w C).ring.add (el p w C a) (el p w C b)
  unfolding add4
  el_add a b = four (mk_add p (h p w C) _ _) (mk_add p (h p w C) _ _) (mk_add p (h p w C) _ _) (mk_add p (h p w C) _ _)

  pub el_neg : (a : List ℕ) → el p w C (neg4 p a) ≡ (K p w C).ring.neg (el p w C a)
  unfolding neg4
  el_neg a = four (mk_neg p (h p w C) _) (mk_neg p (h p w C) _) (mk_neg p (h p w C) _) (mk_neg p (h p w C) _)

  pub el_sub : (a b : List ℕ) → el p w C (sub4 p a b) ≡ (K p w C).ring.add (el p w C a) ((K p w C).ring.neg (el p w C b))
  unfolding sub4 sub_m
  el_sub a b =
      four (hom_m p (h p w C) (both p w (h p w C) a b) (X 0 ⊕ ⊝ X 4)) (hom_m p (h p w C) (both p w (h p w C) a b) (X 1 ⊕ ⊝ X 5)) (hom_m p (h p w C) (both p w (h p w C) a b) (X 2 ⊕ ⊝ X 6))
      (hom_m p (h p w C) (both p w (h p w C) a b) (X 3 ⊕ ⊝ X 7))

  -- four words below p are told by the element that they stand for
  pub word_same : (m n : ℕ) → m < p → n < p → mk p (h p w C) m ≡ mk p (h p w C) n → m ≡ n
  word_same m n k l e = number_same p w (h p w C) m n k l e

  pub el_same : (a b : List ℕ) → Word4 p a → Word4 p b → el p w C a ≡ el p w C b
      → at a 0 ∷ at a 1 ∷ at a 2 ∷ at a 3 ∷ [] ≡ at b 0 ∷ at b 1 ∷ at b 2 ∷ at b 3 ∷ []
  el_same a b k l e = quadruple-same p w (h p w C) a b k l e
