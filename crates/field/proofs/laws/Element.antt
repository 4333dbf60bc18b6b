-- The laws of the operations on four words. They hold of any lists: a word that is missing reads as 0, and every result is reduced.
use Rattle.std.specs.Prelude.{◌≡◌, length}
use Rattle.std.proofs.Math.Path.{refl, sym, ap, ap₂}
use Rattle.std.proofs.Common.{◌∙◌, mul-one, arith}
use mathlib.Core.List.{List, [], ◌∷◌}
use Prim.Native.Nat.{ℕ, zero, suc, ◌+◌, ◌*◌, ◌<◌, ◌%◌}
use Rattle.std.proofs.Math.Nat.{mod-lt, zero-mod}
use Rattle.lists.specs.Count.{total}
use Rattle.algebra.specs.Ring.{CRing, Ops, quartic}
use Rattle.algebra.specs.laws.Solve.{O, I, X, ◌⊗◌}
use Rattle.algebra.proofs.laws.Quadratic.{Es}
use Rattle.algebra.proofs.laws.Quartic.{Four, solve4}
use Rattle.field.specs.Word.{add_m, mul_m}
use Rattle.field.specs.Element.{at, Word4, lift, zero4, one4, add4, sub4, neg4, mul4, scale4, power4, sum4, product4}
use Rattle.field.specs.Modulus.{Certificate}
use Rattle.field.proofs.laws.Word.{add_m-below, sub_m-below, neg_m-below, mul_m-below, add_m-zero, add_m-sum, mul_m-zero, zero-mul_m, mul_m-mod, mul_m_added}
use Rattle.field.specs.laws.Ring.{Fp, mk}
use Rattle.field.specs.Extension.{K, KEl, el}
use Rattle.field.specs.laws.Extension.{h}
use Rattle.field.proofs.laws.Homomorphism.{el_add, el_mul, el_neg, el_sub, el_same, four, mk_mul, mk_mod, ring4, quadruple, quadruple-mul, quadruple-same}
use Rattle.field.proofs.laws.Slice.{four-words}

-- every result is four words
module _ (p : ℕ) where
  pub four-add4 : (a b : List ℕ) → length (add4 p a b) ≡ 4
  unfolding add4
  four-add4 a b = refl

  pub four-sub4 : (a b : List ℕ) → length (sub4 p a b) ≡ 4
  unfolding sub4
  four-sub4 a b = refl

  pub four-neg4 : (a : List ℕ) → length (neg4 p a) ≡ 4
  unfolding neg4
  four-neg4 a = refl

  pub four-mul4 : (w : ℕ) (a b : List ℕ) → length (mul4 p w a b) ≡ 4
  unfolding mul4
  four-mul4 w a b = refl

  pub four-scale4 : (z : ℕ) (a : List ℕ) → length (scale4 p z a) ≡ 4
  unfolding scale4
  four-scale4 z a = refl

  pub four-sum4 : (f : ℕ → List ℕ) (n : ℕ) → length (sum4 p f n) ≡ 4
  unfolding sum4
  four-sum4 f zero = refl
  four-sum4 f (suc n) = four-add4 (sum4 p f n) (f n)

  pub four-product4 : (w : ℕ) (f : ℕ → List ℕ) (n : ℕ) → length (product4 p w f n) ≡ 4
  unfolding product4
  four-product4 w f zero = refl
  four-product4 w f (suc n) = four-mul4 w (product4 p w f n) (f n)

-- which are below p
module _ (p : ℕ) (pos : 0 < p) where
  pub word-add4 : (a b : List ℕ) → Word4 p (add4 p a b)
  unfolding add4
  word-add4 a b = record { w0 = add_m-below p pos _ _; w1 = add_m-below p pos _ _; w2 = add_m-below p pos _ _; w3 = add_m-below p pos _ _ }

  pub word-sub4 : (a b : List ℕ) → Word4 p (sub4 p a b)
  unfolding sub4
  word-sub4 a b = record { w0 = sub_m-below p pos _ _; w1 = sub_m-below p pos _ _; w2 = sub_m-below p pos _ _; w3 = sub_m-below p pos _ _ }

  pub word-neg4 : (a : List ℕ) → Word4 p (neg4 p a)
  unfolding neg4
  word-neg4 a = record { w0 = neg_m-below p pos _; w1 = neg_m-below p pos _; w2 = neg_m-below p pos _; w3 = neg_m-below p pos _ }

  pub word-mul4 : (w : ℕ) (a b : List ℕ) → Word4 p (mul4 p w a b)
  unfolding mul4
  word-mul4 w a b = record { w0 = mod-lt _ pos; w1 = mod-lt _ pos; w2 = mod-lt _ pos; w3 = mod-lt _ pos }

  pub word-scale4 : (z : ℕ) (a : List ℕ) → Word4 p (scale4 p z a)
  unfolding scale4
  word-scale4 z a = record { w0 = mul_m-below p pos _ _; w1 = mul_m-below p pos _ _; w2 = mul_m-below p pos _ _; w3 = mul_m-below p pos _ _ }

  pub word-lift : (a : ℕ) → a < p → Word4 p (lift a)
  word-lift a l = record { w0 = l; w1 = pos; w2 = pos; w3 = pos }

  pub word-sum4 : (f : ℕ → List ℕ) (n : ℕ) → Word4 p (sum4 p f n)
  unfolding sum4
  word-sum4 f zero = word-lift 0 pos
  word-sum4 f (suc n) = word-add4 (sum4 p f n) (f n)

  pub word-product4 : (w : ℕ) (f : ℕ → List ℕ) (n : ℕ) → 1 < p → Word4 p (product4 p w f n)
  unfolding product4
  word-product4 w f zero h = word-lift 1 h
  word-product4 w f (suc n) h = word-mul4 w (product4 p w f n) (f n)

-- a sum is, word by word, the sum of the words modulo p
pub sum4-words : (p : ℕ) (f : ℕ → List ℕ) (n : ℕ)
    → sum4 p f n ≡ (total (λ i. at (f i) 0) n % p) ∷ (total (λ i. at (f i) 1) n % p) ∷ (total (λ i. at (f i) 2) n % p) ∷ (total (λ i. at (f i) 3) n % p) ∷ []
unfolding sum4 total add4
sum4-words p f zero = ap (λ (n : ℕ). n ∷ n ∷ n ∷ n ∷ []) (sym (zero-mod p))
sum4-words p f (suc n) = ap (λ (a : List ℕ). add4 p a (f n)) (sum4-words p f n) ∙ (λ k. word 0 k ∷ word 1 k ∷ word 2 k ∷ word 3 k ∷ [])
  where
    word : (j : ℕ) → add_m p (total (λ i. at (f i) j) n % p) (at (f n) j) ≡ (total (λ i. at (f i) j) n + at (f n) j) % p
    word j = add_m-sum p (total (λ i. at (f i) j) n) (at (f n) j)

-- a word times an element, where either is 0 or the element is 1, and where the word is reduced first
module _ (p : ℕ) where
  pub scale4-zero : (z : ℕ) → scale4 p z zero4 ≡ zero4
  unfolding scale4
  scale4-zero z = ap (λ (n : ℕ). n ∷ n ∷ n ∷ n ∷ []) (mul_m-zero p z)

  pub zero-scale4 : (a : List ℕ) → scale4 p 0 a ≡ zero4
  unfolding scale4
  zero-scale4 a = λ j. zero-mul_m p (at a 0) j ∷ zero-mul_m p (at a 1) j ∷ zero-mul_m p (at a 2) j ∷ zero-mul_m p (at a 3) j ∷ []

  pub scale4-one : (z : ℕ) → scale4 p z one4 ≡ lift (z % p)
  unfolding scale4 mul_m
  scale4-one z = λ j. (mul-one z j) % p ∷ mul_m-zero p z j ∷ mul_m-zero p z j ∷ mul_m-zero p z j ∷ []

  pub scale4-mod : (z : ℕ) (a : List ℕ) → scale4 p (z % p) a ≡ scale4 p z a
  unfolding scale4
  scale4-mod z a = λ j. mul_m-mod p z (at a 0) j ∷ mul_m-mod p z (at a 1) j ∷ mul_m-mod p z (at a 2) j ∷ mul_m-mod p z (at a 3) j ∷ []

  -- four numbers modulo p, to which a word times an element is added: they may be reduced after it
  pub scale4_added : (s0 s1 s2 s3 z : ℕ) (a : List ℕ) {m0 m1 m2 m3 : ℕ} → m0 ≡ z * at a 0 → m1 ≡ z * at a 1 → m2 ≡ z * at a 2 → m3 ≡ z * at a 3
      → (s0 + m0) % p ∷ (s1 + m1) % p ∷ (s2 + m2) % p ∷ (s3 + m3) % p ∷ [] ≡ add4 p ((s0 % p) ∷ (s1 % p) ∷ (s2 % p) ∷ (s3 % p) ∷ []) (scale4 p z a)
  unfolding add4 scale4
  scale4_added s0 s1 s2 s3 z a e0 e1 e2 e3 =
      (λ j. (s0 + e0 j) % p ∷ (s1 + e1 j) % p ∷ (s2 + e2 j) % p ∷ (s3 + e3 j) % p ∷ [])
      ∙ (λ j. mul_m_added p s0 z (at a 0) j ∷ mul_m_added p s1 z (at a 1) j ∷ mul_m_added p s2 z (at a 2) j ∷ mul_m_added p s3 z (at a 3) j ∷ [])

-- Quadruples with X⁴ = w are a ring for every w.
module _ (p w : ℕ) (pos : 0 < p) where
  pub product_comm : (a b : List ℕ) → mul4 p w a b ≡ mul4 p w b a
  unfolding mul4
  product_comm a b =
      quadruple-same p w pos (mul4 p w a b) (mul4 p w b a) (word-mul4 p pos w a b) (word-mul4 p pos w b a)
      (quadruple-mul p w pos a b ∙ (ring4 p w pos).mul_comm (quadruple p w pos a) (quadruple p w pos b) ∙ sym (quadruple-mul p w pos b a))

  pub product_assoc : (a b c : List ℕ) → mul4 p w (mul4 p w a b) c ≡ mul4 p w a (mul4 p w b c)
  unfolding mul4
  product_assoc a b c =
      let q : List ℕ → (ring4 p w pos).El = quadruple p w pos in
      quadruple-same p w pos (mul4 p w (mul4 p w a b) c) (mul4 p w a (mul4 p w b c)) (word-mul4 p pos w (mul4 p w a b) c) (word-mul4 p pos w a (mul4 p w b c))
      (quadruple-mul p w pos (mul4 p w a b) c ∙ ap (λ (x : (ring4 p w pos).El). (ring4 p w pos).mul x (q c)) (quadruple-mul p w pos a b)
      ∙ (ring4 p w pos).mul_assoc (q a) (q b) (q c) ∙ ap ((ring4 p w pos).mul (q a)) (sym (quadruple-mul p w pos b c)) ∙ sym (quadruple-mul p w pos a (mul4 p w b c)))

  -- an element of four words below p, times one
  pub product_one : (a : List ℕ) → length a ≡ 4 → Word4 p a → mul4 p w a one4 ≡ a
  unfolding mul4
  product_one a l k =
      quadruple-same p w pos (mul4 p w a one4) a (word-mul4 p pos w a one4) k (quadruple-mul p w pos a one4 ∙ (ring4 p w pos).mul_u (quadruple p w pos a))
      ∙ four-words a l

-- sums and products that agree term by term
pub sum4_cong : (p : ℕ) (f g : ℕ → List ℕ) (n : ℕ) → ((i : ℕ) → i < n → f i ≡ g i) → sum4 p f n ≡ sum4 p g n
unfolding sum4
sum4_cong p f g zero e = refl
sum4_cong p f g (suc n) e = ap₂ (add4 p) (sum4_cong p f g n (λ i l. e i (omega arith))) (e n (omega arith))

pub product4_cong : (p w : ℕ) (f g : ℕ → List ℕ) (n : ℕ) → ((i : ℕ) → i < n → f i ≡ g i) → product4 p w f n ≡ product4 p w g n
unfolding product4
product4_cong p w f g zero e = refl
product4_cong p w f g (suc n) e = ap₂ (mul4 p w) (product4_cong p w f g n (λ i l. e i (omega arith))) (e n (omega arith))

-- X, as words and as expressions
abbrev pub x4 : List ℕ
x4 = 0 ∷ 1 ∷ 0 ∷ 0 ∷ []

abbrev QX : Ops
QX = quartic Es (X 0)

abbrev XE : Four
XE = (O, I, O, O)

module _ (p w : ℕ) (C : Certificate p w) where
  abbrev pub R : CRing
  R = (K p w C).ring

  abbrev pub pos : 0 < p
  pos = h p w C

  pub add4_comm : (a b : List ℕ) → add4 p a b ≡ add4 p b a
  unfolding add4
  add4_comm a b =
      el_same p w C (add4 p a b) (add4 p b a) (word-add4 p pos a b) (word-add4 p pos b a)
      (el_add p w C a b ∙ R.add_comm (el p w C a) (el p w C b) ∙ sym (el_add p w C b a))

  pub add4_assoc : (a b c : List ℕ) → add4 p (add4 p a b) c ≡ add4 p a (add4 p b c)
  unfolding add4
  add4_assoc a b c =
      el_same p w C (add4 p (add4 p a b) c) (add4 p a (add4 p b c)) (word-add4 p pos (add4 p a b) c) (word-add4 p pos a (add4 p b c))
      (el_add p w C (add4 p a b) c ∙ ap (λ (x : KEl p w C). R.add x (el p w C c)) (el_add p w C a b)
      ∙ R.add_assoc (el p w C a) (el p w C b) (el p w C c) ∙ ap (R.add (el p w C a)) (sym (el_add p w C b c)) ∙ sym (el_add p w C a (add4 p b c)))

  pub mul4_comm : (a b : List ℕ) → mul4 p w a b ≡ mul4 p w b a
  mul4_comm a b = product_comm p w pos a b

  pub mul4_assoc : (a b c : List ℕ) → mul4 p w (mul4 p w a b) c ≡ mul4 p w a (mul4 p w b c)
  mul4_assoc a b c = product_assoc p w pos a b c

  pub mul4-add : (a b c : List ℕ) → mul4 p w a (add4 p b c) ≡ add4 p (mul4 p w a b) (mul4 p w a c)
  unfolding mul4 add4
  mul4-add a b c =
      el_same p w C (mul4 p w a (add4 p b c)) (add4 p (mul4 p w a b) (mul4 p w a c)) (word-mul4 p pos w a (add4 p b c))
      (word-add4 p pos (mul4 p w a b) (mul4 p w a c))
      (el_mul p w C a (add4 p b c) ∙ ap (R.mul (el p w C a)) (el_add p w C b c) ∙ R.mul_add (el p w C a) (el p w C b) (el p w C c)
      ∙ sym (ap₂ R.add (el_mul p w C a b) (el_mul p w C a c)) ∙ sym (el_add p w C (mul4 p w a b) (mul4 p w a c)))

  pub add4-neg : (a : List ℕ) → add4 p a (neg4 p a) ≡ zero4
  unfolding add4
  add4-neg a =
      el_same p w C (add4 p a (neg4 p a)) zero4 (word-add4 p pos a (neg4 p a)) (word-lift p pos 0 pos)
      (el_add p w C a (neg4 p a) ∙ ap (R.add (el p w C a)) (el_neg p w C a) ∙ R.add_neg (el p w C a))

  pub sub4_is : (a b : List ℕ) → sub4 p a b ≡ add4 p a (neg4 p b)
  unfolding add4 sub4
  sub4_is a b =
      el_same p w C (sub4 p a b) (add4 p a (neg4 p b)) (word-sub4 p pos a b) (word-add4 p pos a (neg4 p b))
      (el_sub p w C a b ∙ ap (R.add (el p w C a)) (sym (el_neg p w C b)) ∙ sym (el_add p w C a (neg4 p b)))

  -- of four words below p
  pub add4-zero : (a : List ℕ) → length a ≡ 4 → Word4 p a → add4 p a zero4 ≡ a
  unfolding add4
  add4-zero a l k =
      el_same p w C (add4 p a zero4) a (word-add4 p pos a zero4) k (el_add p w C a zero4 ∙ R.add_z (el p w C a)) ∙ four-words a l

  pub zero-add4 : (a : List ℕ) → length a ≡ 4 → Word4 p a → add4 p zero4 a ≡ a
  zero-add4 a l k = add4_comm zero4 a ∙ add4-zero a l k

  pub mul4-one : (a : List ℕ) → length a ≡ 4 → Word4 p a → mul4 p w a one4 ≡ a
  mul4-one a l k = product_one p w pos a l k

  -- a word times an element is the product with the word as an element
  pub scale4_is : (z : ℕ) (a : List ℕ) → scale4 p z a ≡ mul4 p w (lift z) a
  unfolding scale4 mul4
  scale4_is z a =
      let m : _ = mk p pos z in
      el_same p w C (scale4 p z a) (mul4 p w (lift z) a) (word-scale4 p pos z a) (word-mul4 p pos w (lift z) a)
      (four p w C (mk_mul p pos z (at a 0)) (mk_mul p pos z (at a 1)) (mk_mul p pos z (at a 2)) (mk_mul p pos z (at a 3))
      ∙ solve4 (Fp p pos) (mk p pos w ∷ m ∷ mk p pos (at a 0) ∷ mk p pos (at a 1) ∷ mk p pos (at a 2) ∷ mk p pos (at a 3) ∷ [])
      (X 1 ⊗ X 2, X 1 ⊗ X 3, X 1 ⊗ X 4, X 1 ⊗ X 5) ((quartic Es (X 0)).mul (X 1, O, O, O) (X 2, X 3, X 4, X 5)) tt tt tt tt
      ∙ sym (el_mul p w C (lift z) a))

  pub zero-mul4 : (a : List ℕ) → mul4 p w zero4 a ≡ zero4
  zero-mul4 a = sym (scale4_is 0 a) ∙ zero-scale4 p a

  -- words are embedded: sums and products of words are those of the elements
  pub lift-add : (a b : ℕ) → lift (add_m p a b) ≡ add4 p (lift a) (lift b)
  unfolding add4
  lift-add a b = ap (λ (n : ℕ). add_m p a b ∷ n ∷ n ∷ n ∷ []) (sym (add_m-zero p 0 pos))

  pub lift-mul : (a b : ℕ) → lift (mul_m p a b) ≡ mul4 p w (lift a) (lift b)
  unfolding scale4
  lift-mul a b = ap (λ (n : ℕ). mul_m p a b ∷ n ∷ n ∷ n ∷ []) (sym (mul_m-zero p a)) ∙ scale4_is a (lift b)

  -- el takes powers to powers
  abbrev pub power_k : KEl p w C → ℕ → KEl p w C
  power_k x zero = R.u
  power_k x (suc n) = R.mul (power_k x n) x

  pub el_power : (b : List ℕ) (n : ℕ) → el p w C (power4 p w b n) ≡ power_k (el p w C b) n
  unfolding power4
  el_power b zero = refl
  el_power b (suc n) = el_mul p w C (power4 p w b n) b ∙ ap (λ (x : KEl p w C). R.mul x (el p w C b)) (el_power b n)

  -- X⁴ = w
  pub x_to_the_fourth : power4 p w x4 4 ≡ lift (w % p)
  unfolding power4 mul4
  x_to_the_fourth =
      el_same p w C (power4 p w x4 4) (lift (w % p)) (word-mul4 p pos w (power4 p w x4 3) x4) (word-lift p pos (w % p) (mod-lt w pos))
      (el_power x4 4 ∙ solve4 (Fp p pos) (mk p pos w ∷ []) (QX.mul (QX.mul (QX.mul (QX.mul QX.u XE) XE) XE) XE) (X 0, O, O, O) tt tt tt tt
      ∙ four p w C (sym (mk_mod p pos w)) refl refl refl)

  -- four words stand for the polynomial c0 + c1·X + c2·X² + c3·X³
  pub polynomial : (c0 c1 c2 c3 : ℕ) → Word4 p (c0 ∷ c1 ∷ c2 ∷ c3 ∷ [])
      → add4 p (add4 p (add4 p (lift c0) (mul4 p w (lift c1) x4)) (mul4 p w (lift c2) (power4 p w x4 2))) (mul4 p w (lift c3) (power4 p w x4 3))
      ≡ c0 ∷ c1 ∷ c2 ∷ c3 ∷ []
  unfolding add4
  polynomial c0 c1 c2 c3 k =
      let l2 : List ℕ = add4 p (lift c0) (mul4 p w (lift c1) x4) in
      let l3 : List ℕ = add4 p l2 (mul4 p w (lift c2) (power4 p w x4 2)) in
      let l4 : List ℕ = mul4 p w (lift c3) (power4 p w x4 3) in
      el_same p w C (add4 p l3 l4) (c0 ∷ c1 ∷ c2 ∷ c3 ∷ []) (word-add4 p pos l3 l4) k
      (el_add p w C l3 l4
      ∙ ap₂ R.add
      (el_add p w C l2 (mul4 p w (lift c2) (power4 p w x4 2))
      ∙ ap₂ R.add (el_add p w C (lift c0) (mul4 p w (lift c1) x4) ∙ ap (R.add (el p w C (lift c0))) (el_mul p w C (lift c1) x4))
      (el_mul p w C (lift c2) (power4 p w x4 2) ∙ ap (R.mul (el p w C (lift c2))) (el_power x4 2)))
      (el_mul p w C (lift c3) (power4 p w x4 3) ∙ ap (R.mul (el p w C (lift c3))) (el_power x4 3))
      ∙ solve4 (Fp p pos) (mk p pos w ∷ mk p pos c0 ∷ mk p pos c1 ∷ mk p pos c2 ∷ mk p pos c3 ∷ [])
      (QX.add
      (QX.add (QX.add (X 1, O, O, O) (QX.mul (X 2, O, O, O) XE)) (QX.mul (X 3, O, O, O) (QX.mul (QX.mul QX.u XE) XE)))
      (QX.mul (X 4, O, O, O) (QX.mul (QX.mul (QX.mul QX.u XE) XE) XE)))
      (X 1, X 2, X 3, X 4) tt tt tt tt)
