-- A quadratic extension of a field by a square root that the field lacks is a field.
use Rattle.std.specs.Prelude.{◌≡◌, ◌≢◌, [], ◌∷◌}
use Rattle.std.proofs.Common.{sym, ap, ap₂, ◌∙◌}
use Rattle.algebra.specs.Ring.{CRing, ops, quad}
use Rattle.algebra.specs.laws.Solve.{O, I, X, ◌⊕◌, ◌⊗◌, ⊝◌}
use Rattle.algebra.proofs.laws.Solve.{solve, z_mul, mul_z}
use Rattle.algebra.specs.Field.{Field}
use Rattle.algebra.proofs.laws.Quadratic.{Quad}

module _ (F : Field) where
  abbrev pub R : CRing
  R = F.ring

  open R use {El, z, u, add, mul, neg, mul_u, mul_assoc, mul_comm}

  -- no zero divisors
  pub no_zero_div : (a b : El) → mul a b ≡ z → a ≢ z → b ≡ z
  no_zero_div a b e h =
      let i : (c : El) × (mul a c ≡ u) = F.inv a h in
      sym (mul_u b) ∙ ap (mul b) (sym i.1) ∙ solve R (a ∷ b ∷ i.0 ∷ []) (X 1 ⊗ (X 0 ⊗ X 2)) (X 0 ⊗ X 1 ⊗ X 2) tt
      ∙ ap (λ (x : El). mul x i.0) e ∙ z_mul R i.0

  module _ (d : El) (ns : (s : El) → mul s s ≢ d) where
    abbrev pub norm : El → El → El
    norm a b = add (mul a a) (neg (mul d (mul b b)))

    pub norm-zero : (a b : El) → norm a b ≡ z → (a ≡ z) × (b ≡ z)
    norm-zero a b e = go (F.dec b)
      where
        at_zero : b ≡ z → a ≡ z
        at_zero h = sq (F.dec a)
          where
            aa : mul a a ≡ z
            aa =
                solve R (a ∷ []) (X 0 ⊗ X 0) (X 0 ⊗ X 0 ⊕ ⊝ O) tt
                ∙ ap (λ (x : El). add (mul a a) (neg x)) (sym (ap (mul d) (ap (mul b) h ∙ mul_z R b) ∙ mul_z R d)) ∙ e

            sq : Dec (a ≡ z) → a ≡ z
            sq (yes k) = k
            sq (no k) = no_zero_div a a aa k

        go : Dec (b ≡ z) → (a ≡ z) × (b ≡ z)
        go (yes h) = (at_zero h, h)
        go (no h) =
            let i : (c : El) × (mul b c ≡ u) = F.inv b h in
            let c : El = i.0 in
            absurd
            (ns (mul a c)
            (solve R (a ∷ b ∷ c ∷ d ∷ []) (X 0 ⊗ X 2 ⊗ (X 0 ⊗ X 2))
            ((X 0 ⊗ X 0 ⊕ ⊝ (X 3 ⊗ (X 1 ⊗ X 1))) ⊗ (X 2 ⊗ X 2) ⊕ X 3 ⊗ (X 1 ⊗ X 2 ⊗ (X 1 ⊗ X 2)))
            tt
            ∙ ap₂ (λ (x y : El). add (mul x (mul c c)) (mul d (mul y y))) e i.1
            ∙ solve R (c ∷ d ∷ []) (O ⊗ (X 0 ⊗ X 0) ⊕ X 1 ⊗ (I ⊗ I)) (X 1) tt))

    pub pair-dec : (a b : El) → Dec (a ≡ z) → Dec (b ≡ z) → Dec (◌≡◌ {A = El × El} (a, b) (z, z))
    pair-dec a b (yes h) (yes k) = yes (λ j. (h j, k j))
    pair-dec a b (yes h) (no k) = no (λ e. k (ap (λ (x : El × El). x.1) e))
    pair-dec a b (no h) (yes k) = no (λ e. h (ap (λ (x : El × El). x.0) e))
    pair-dec a b (no h) (no k) = no (λ e. h (ap (λ (x : El × El). x.0) e))

    -- (a + bX)·(a - bX)/N = 1
    pub by_norm : (a b m : El) → mul (norm a b) m ≡ u
        → ◌≡◌ {A = El × El} ((quad (ops R) d).mul (a, b) (mul a m, neg (mul b m))) (u, z)
    by_norm a b m e =
        λ j. (
          (solve R (a ∷ b ∷ m ∷ d ∷ []) (X 0 ⊗ (X 0 ⊗ X 2) ⊕ X 3 ⊗ (X 1 ⊗ ⊝ (X 1 ⊗ X 2)))
              ((X 0 ⊗ X 0 ⊕ ⊝ (X 3 ⊗ (X 1 ⊗ X 1))) ⊗ X 2)
              tt
              ∙ e) j,
          solve R (a ∷ b ∷ m ∷ d ∷ []) (X 0 ⊗ ⊝ (X 1 ⊗ X 2) ⊕ X 1 ⊗ (X 0 ⊗ X 2)) O tt j,
        )

    pub pair-inv : (x : El × El) → x ≢ (z, z) → (y : El × El) × (◌≡◌ {A = El × El} ((quad (ops R) d).mul x y) (u, z))
    pair-inv x h =
        let i : (m : El) × (mul (norm x.0 x.1) m ≡ u) =
        F.inv (norm x.0 x.1) (λ e. h (λ j. ((norm-zero x.0 x.1 e).0 j, (norm-zero x.0 x.1 e).1 j)))
        in
        ((mul x.0 i.0, neg (mul x.1 i.0)), by_norm x.0 x.1 i.0 i.1)

    abbrev pub extend : Field
    extend =
        record {
          ring = Quad R d;
          dec = λ x. pair-dec x.0 x.1 (F.dec x.0) (F.dec x.1);
          inv = pair-inv;
          u≢z = λ e. F.u≢z (ap (λ (x : El × El). x.0) e);
        }

    -- where -1 is a square, the new root is no square either: its norm would make d one
    pub rootless : (i : El) → mul i i ≡ neg u → (s : El × El) → (quad (ops R) d).mul s s ≢ (z, u)
    rootless i h s e =
        let a : El = s.0 in
        let b : El = s.1 in
        ns (mul i (norm a b))
        (solve R (a ∷ b ∷ i ∷ d ∷ []) (X 2 ⊗ (X 0 ⊗ X 0 ⊕ ⊝ (X 3 ⊗ (X 1 ⊗ X 1))) ⊗ (X 2 ⊗ (X 0 ⊗ X 0 ⊕ ⊝ (X 3 ⊗ (X 1 ⊗ X 1)))))
        (X 2 ⊗ X 2
        ⊗ ((X 0 ⊗ X 0 ⊕ X 3 ⊗ (X 1 ⊗ X 1)) ⊗ (X 0 ⊗ X 0 ⊕ X 3 ⊗ (X 1 ⊗ X 1))
        ⊕ ⊝ (X 3 ⊗ ((X 0 ⊗ X 1 ⊕ X 1 ⊗ X 0) ⊗ (X 0 ⊗ X 1 ⊕ X 1 ⊗ X 0)))))
        tt
        ∙ ap₂ (λ (x : El) (y : El × El). mul x (add (mul y.0 y.0) (neg (mul d (mul y.1 y.1))))) h e
        ∙ solve R (d ∷ []) (⊝ I ⊗ (O ⊗ O ⊕ ⊝ (X 0 ⊗ (I ⊗ I)))) (X 0) tt)
