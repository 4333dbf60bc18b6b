-- What the normaliser of Solve.antt computes is the same in every commutative ring.
use Rattle.std.specs.Prelude.{◌≡◌, refl, Bool, true, false, List, [], ◌∷◌, leb, eqb, T, get_or}
use Rattle.std.proofs.Common.{sym, ap, ap₂, ◌∙◌, suc-add, zero-add, zero-mul, suc-mul, eqb→eq}
use Prim.Native.Nat.{ℕ, zero, suc, ◌+◌, ◌*◌, ◌^◌, compare, Ordering}
use Rattle.algebra.specs.Ring.{CRing}
use Rattle.algebra.specs.laws.Solve.{E, O, I, X, ◌⊕◌, ◌⊗◌, ⊝◌, pick, both, ins, mmul, eq_l, Term, Poly, ins_t, add_p, mul_t, mul_p, nf, same_p, same}

eq_l-eq : (xs ys : List ℕ) → T (eq_l xs ys) → xs ≡ ys
eq_l-eq [] [] t = refl
eq_l-eq [] (y ∷ ys) t = absurd t
eq_l-eq (x ∷ xs) [] t = absurd t
eq_l-eq (x ∷ xs) (y ∷ ys) t = ap₂ ◌∷◌ (eqb→eq x y (left (eqb x y) (eq_l xs ys) t)) (eq_l-eq xs ys (right (eqb x y) (eq_l xs ys) t))
  where
    left : (a b : Bool) → T (both a b) → T a
    left true b s = tt
    left false b s = s

    right : (a b : Bool) → T (both a b) → T b
    right true b s = s
    right false b s = absurd s

module _ (R : CRing) where
  open R use {El, z, u, add, mul, neg, add_assoc, add_comm, add_z, add_neg, mul_assoc, mul_comm, mul_u, mul_add}

  pub add_left_comm : (a b c : El) → add a (add b c) ≡ add b (add a c)
  add_left_comm a b c = sym (add_assoc a b c) ∙ ap (λ (x : El). add x c) (add_comm a b) ∙ add_assoc b a c

  pub mul_left_comm : (a b c : El) → mul a (mul b c) ≡ mul b (mul a c)
  mul_left_comm a b c = sym (mul_assoc a b c) ∙ ap (λ (x : El). mul x c) (mul_comm a b) ∙ mul_assoc b a c

  pub z_add : (a : El) → add z a ≡ a
  z_add a = add_comm z a ∙ add_z a

  pub u_mul : (a : El) → mul u a ≡ a
  u_mul a = mul_comm u a ∙ mul_u a

  pub add-mul : (a b c : El) → mul (add a b) c ≡ add (mul a c) (mul b c)
  add-mul a b c = mul_comm (add a b) c ∙ mul_add c a b ∙ ap₂ add (mul_comm c a) (mul_comm c b)

  pub cancel : (a b c : El) → add a c ≡ add b c → a ≡ b
  cancel a b c e = sym (undo a) ∙ ap (λ (x : El). add x (neg c)) e ∙ undo b
    where
      undo : (x : El) → add (add x c) (neg c) ≡ x
      undo x = add_assoc x c (neg c) ∙ ap (add x) (add_neg c) ∙ add_z x

  pub mul_z : (a : El) → mul a z ≡ z
  mul_z a = cancel (mul a z) z (mul a z) (sym (mul_add a z z) ∙ ap (mul a) (add_z z) ∙ sym (z_add (mul a z)))

  pub z_mul : (a : El) → mul z a ≡ z
  z_mul a = mul_comm z a ∙ mul_z a

  abbrev pub nat : ℕ → El
  nat zero = z
  nat (suc n) = add u (nat n)

  nat-add : (m n : ℕ) → nat (m + n) ≡ add (nat m) (nat n)
  nat-add zero n = ap nat (zero-add n) ∙ sym (z_add (nat n))
  nat-add (suc m) n = ap nat (suc-add m n) ∙ ap (add u) (nat-add m n) ∙ sym (add_assoc u (nat m) (nat n))

  nat-mul : (m n : ℕ) → nat (m * n) ≡ mul (nat m) (nat n)
  nat-mul zero n = ap nat (zero-mul n) ∙ sym (z_mul (nat n))
  nat-mul (suc m) n =
      ap nat (suc-mul m n) ∙ nat-add (m * n) n ∙ ap (λ (x : El). add x (nat n)) (nat-mul m n)
      ∙ add_comm _ _ ∙ ap (λ (x : El). add x (mul (nat m) (nat n))) (sym (u_mul (nat n)))
      ∙ sym (add-mul u (nat m) (nat n))

  module _ (ρ : List El) where
    abbrev pub eval : E → El
    eval O = z
    eval I = u
    eval (X i) = get_or ρ i z
    eval (a ⊕ b) = add (eval a) (eval b)
    eval (a ⊗ b) = mul (eval a) (eval b)
    eval (⊝ a) = neg (eval a)

    abbrev ev_m : List ℕ → El
    ev_m [] = u
    ev_m (x ∷ xs) = mul (get_or ρ x z) (ev_m xs)

    abbrev ev_p : Poly → El
    ev_p [] = z
    ev_p (t ∷ p) = add (mul (nat t.coef) (ev_m t.mono)) (ev_p p)

    ins_ok : (x : ℕ) (m : List ℕ) → ev_m (ins x m) ≡ mul (get_or ρ x z) (ev_m m)
    ins_ok x [] = refl
    ins_ok x (y ∷ m) = go (leb x y) (ins_ok x m)
      where
        go : (b : Bool) → ev_m (ins x m) ≡ mul (get_or ρ x z) (ev_m m)
            → ev_m (pick b (x ∷ y ∷ m) (y ∷ ins x m)) ≡ mul (get_or ρ x z) (mul (get_or ρ y z) (ev_m m))
        go true ih = refl
        go false ih = ap (mul (get_or ρ y z)) ih ∙ mul_left_comm _ _ _

    mmul_ok : (m n : List ℕ) → ev_m (mmul m n) ≡ mul (ev_m m) (ev_m n)
    mmul_ok [] n = sym (u_mul (ev_m n))
    mmul_ok (x ∷ m) n = ins_ok x (mmul m n) ∙ ap (mul (get_or ρ x z)) (mmul_ok m n) ∙ sym (mul_assoc _ _ _)

    ins_t_ok : (c k : ℕ) (m : List ℕ) (p : Poly) → ev_p (ins_t c k m p) ≡ add (mul (nat c) (ev_m m)) (ev_p p)
    ins_t_ok c k m [] = refl
    ins_t_ok c k m (t ∷ p) = go (compare k t.key) (eq_l m t.mono) (eq_l-eq m t.mono) (ins_t_ok c k m p)
      where
        go : (o : Ordering) (a : Bool) → (T a → m ≡ t.mono) → ev_p (ins_t c k m p) ≡ add (mul (nat c) (ev_m m)) (ev_p p)
            → ev_p
            (elim o [
              | Ordering.lt ↦ record { coef = c; key = k; mono = m } ∷ t ∷ p
              | Ordering.eq ↦
                  pick a (record { coef = c + t.coef; key = k; mono = t.mono } ∷ p) (record { coef = c; key = k; mono = m } ∷ t ∷ p)
              | Ordering.gt ↦ t ∷ ins_t c k m p
            ])
            ≡ add (mul (nat c) (ev_m m)) (add (mul (nat t.coef) (ev_m t.mono)) (ev_p p))
        go Ordering.lt a e ih = refl
        go Ordering.eq true e ih =
            ap (λ (x : El). add x (ev_p p))
            (ap (λ (x : El). mul x (ev_m t.mono)) (nat-add c t.coef) ∙ add-mul _ _ _
            ∙ ap (λ (n : List ℕ). add (mul (nat c) (ev_m n)) (mul (nat t.coef) (ev_m t.mono))) (sym (e tt)))
            ∙ add_assoc _ _ _
        go Ordering.eq false e ih = refl
        go Ordering.gt a e ih = ap (add (mul (nat t.coef) (ev_m t.mono))) ih ∙ add_left_comm _ _ _

    add_p_ok : (p q : Poly) → ev_p (add_p p q) ≡ add (ev_p p) (ev_p q)
    add_p_ok [] q = sym (z_add _)
    add_p_ok (t ∷ p) q =
        ins_t_ok t.coef t.key t.mono (add_p p q) ∙ ap (add (mul (nat t.coef) (ev_m t.mono))) (add_p_ok p q) ∙ sym (add_assoc _ _ _)

    mul_t_ok : (c k : ℕ) (m : List ℕ) (q acc : Poly)
        → ev_p (mul_t c k m q acc) ≡ add (mul (mul (nat c) (ev_m m)) (ev_p q)) (ev_p acc)
    mul_t_ok c k m [] acc = sym (ap (λ (x : El). add x (ev_p acc)) (mul_z _) ∙ z_add _)
    mul_t_ok c k m (t ∷ q) acc =
        ins_t_ok (c * t.coef) (k + t.key) (mmul m t.mono) (mul_t c k m q acc)
        ∙ ap₂ add (ap₂ mul (nat-mul c t.coef) (mmul_ok m t.mono) ∙ simp (mul_assoc, mul_left_comm)) (mul_t_ok c k m q acc)
        ∙ sym (add_assoc _ _ _) ∙ ap (λ (x : El). add x (ev_p acc)) (sym (mul_add _ _ _))

    mul_p_ok : (p q acc : Poly) → ev_p (mul_p p q acc) ≡ add (mul (ev_p p) (ev_p q)) (ev_p acc)
    mul_p_ok [] q acc = sym (ap (λ (x : El). add x (ev_p acc)) (z_mul _) ∙ z_add _)
    mul_p_ok (t ∷ p) q acc =
        mul_t_ok t.coef t.key t.mono q (mul_p p q acc) ∙ ap (add _) (mul_p_ok p q acc) ∙ sym (add_assoc _ _ _)
        ∙ ap (λ (x : El). add x (ev_p acc)) (sym (add-mul _ _ _))

    prod : (a b n m p q : El) → add a n ≡ p → add b m ≡ q
        → add (mul a b) (add (mul p m) (add (mul n q) z)) ≡ add (mul p q) (add (mul n m) z)
    prod a b n m p q e f =
        rw (← e, ← f) (simp (add_z, mul_add, add-mul, add_assoc, add_comm, add_left_comm))

    nf_ok : (e : E) → add (eval e) (ev_p (nf e).1) ≡ ev_p (nf e).0
    nf_ok O = add_z z
    nf_ok I = ap (λ (x : El). add x z) (sym (mul_u u ∙ refl) ∙ ap (λ (x : El). mul x u) (sym (add_z u)))
    nf_ok (X i) =
        ap (λ (x : El). add x z)
        (sym (ap₂ mul (add_z u) (mul_u (get_or ρ i z)) ∙ u_mul (get_or ρ i z)))
    nf_ok (a ⊕ b) =
        ap (add _) (add_p_ok (nf a).1 (nf b).1) ∙ swap _ _ _ _ ∙ ap₂ add (nf_ok a) (nf_ok b)
        ∙ sym (add_p_ok (nf a).0 (nf b).0)
      where
        swap : (x y n m : El) → add (add x y) (add n m) ≡ add (add x n) (add y m)
        swap x y n m = simp (add_assoc, add_comm, add_left_comm)
    nf_ok (a ⊗ b) =
        ap (add _) (mul_p_ok (nf a).0 (nf b).1 _ ∙ ap (add _) (mul_p_ok (nf a).1 (nf b).0 []))
        ∙ prod _ _ _ _ _ _ (nf_ok a) (nf_ok b)
        ∙ sym (mul_p_ok (nf a).0 (nf b).0 _ ∙ ap (add _) (mul_p_ok (nf a).1 (nf b).1 []))
    nf_ok (⊝ a) = flip (eval a) _ _ (nf_ok a)
      where
        flip : (x n p : El) → add x n ≡ p → add (neg x) p ≡ n
        flip x n p e =
            ap (add (neg x)) (sym e) ∙ sym (add_assoc _ _ _)
            ∙ ap (λ (y : El). add y n) (add_comm _ _ ∙ add_neg x) ∙ z_add n

    same_ok : (p q : Poly) → T (same_p p q) → ev_p p ≡ ev_p q
    same_ok [] [] h = refl
    same_ok [] (t ∷ q) h = absurd h
    same_ok (s ∷ p) [] h = absurd h
    same_ok (s ∷ p) (t ∷ q) h =
        ap₂ add
        (ap₂ (λ (c : ℕ) (m : List ℕ). mul (nat c) (ev_m m)) (eqb→eq s.coef t.coef h1.0) (eq_l-eq s.mono t.mono h1.1.0))
        (same_ok p q h1.1.1)
      where
        split : (a b : Bool) → T (both a b) → T a × T b
        split true b k = (tt, k)
        split false b k = absurd k

        h1 : T (eqb s.coef t.coef) × (T (eq_l s.mono t.mono) × T (same_p p q))
        h1 =
            let k : _ = split (eqb s.coef t.coef) (both (eq_l s.mono t.mono) (same_p p q)) h in
            (k.0, split (eq_l s.mono t.mono) (same_p p q) k.1)

    -- an identity of rings, by computing both normal forms: `solve R ρ l r tt`
    pub solve : (l r : E) → T (same l r) → eval l ≡ eval r
    solve l r e =
        cancel (eval l) (eval r) (add (ev_p (nf l).1) (ev_p (nf r).1))
        (sym (add_assoc _ _ _) ∙ ap (λ (x : El). add x (ev_p (nf r).1)) (nf_ok l) ∙ sym (add_p_ok (nf l).0 (nf r).1)
        ∙ same_ok (add_p (nf l).0 (nf r).1) (add_p (nf r).0 (nf l).1) e ∙ add_p_ok (nf r).0 (nf l).1
        ∙ ap (λ (x : El). add x (ev_p (nf l).1)) (sym (nf_ok r)) ∙ add_assoc _ _ _ ∙ ap (add _) (add_comm _ _))
