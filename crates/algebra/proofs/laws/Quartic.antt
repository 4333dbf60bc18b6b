-- Quadruples with X⁴ = w over a commutative ring are a commutative ring; over a field that has a square root of -1 and none of w
-- they are a field. The tower X² = Y, Y² = w is used here and seen nowhere else.
use Rattle.std.specs.Prelude.{◌≡◌, ◌≢◌, List, [], ◌∷◌, T}
use Rattle.std.proofs.Common.{ap, ◌∙◌}
use Rattle.algebra.specs.Ring.{CRing, Ops, ops, quad, quartic}
use Rattle.algebra.specs.Field.{Field}
use Rattle.algebra.specs.laws.Solve.{E, O, I, X, same}
use Rattle.algebra.proofs.laws.Solve.{solve, eval}
use Rattle.algebra.proofs.laws.Quadratic.{Es}
use Rattle.algebra.proofs.laws.Extension.{extend, rootless}

-- quadruples of expressions, X 0 for w
abbrev pub Q : Ops
Q = quartic Es (X 0)

abbrev pub Four : Type 0
Four = E × E × E × E

abbrev pub A : Four
A = (X 1, X 2, X 3, X 4)

abbrev pub B : Four
B = (X 5, X 6, X 7, X 8)

abbrev pub C : Four
C = (X 9, X 10, X 11, X 12)

module _ (R : CRing) where
  abbrev pub Quad4 : Type 0
  Quad4 = R.El × R.El × R.El × R.El

  abbrev pub env : R.El → Quad4 → Quad4 → Quad4 → List R.El
  env w a b c = w ∷ a.0 ∷ a.1 ∷ a.2 ∷ a.3 ∷ b.0 ∷ b.1 ∷ b.2 ∷ b.3 ∷ c.0 ∷ c.1 ∷ c.2 ∷ c.3 ∷ []

  -- what four expressions come to
  abbrev pub eval4 : List R.El → Four → Quad4
  eval4 ρ e = (eval R ρ e.0, eval R ρ e.1, eval R ρ e.2, eval R ρ e.3)

  -- an identity of quadruples, coefficient by coefficient
  pub solve4 : (ρ : List R.El) (l r : Four) → T (same l.0 r.0) → T (same l.1 r.1) → T (same l.2 r.2) → T (same l.3 r.3)
      → eval4 ρ l ≡ eval4 ρ r
  solve4 ρ l r e f g h =
      λ i. (solve R ρ l.0 r.0 e i, solve R ρ l.1 r.1 f i, solve R ρ l.2 r.2 g i, solve R ρ l.3 r.3 h i)

abbrev pub Quartic : (R : CRing) → R.El → CRing
Quartic R w =
    record {
      El = (quartic (ops R) w).El;
      z = (quartic (ops R) w).z;
      u = (quartic (ops R) w).u;
      add = (quartic (ops R) w).add;
      mul = (quartic (ops R) w).mul;
      neg = (quartic (ops R) w).neg;
      add_assoc = λ a b c. solve4 R (env R w a b c) (Q.add (Q.add A B) C) (Q.add A (Q.add B C)) tt tt tt tt;
      add_comm = λ a b. solve4 R (env R w a b a) (Q.add A B) (Q.add B A) tt tt tt tt;
      add_z = λ a. solve4 R (env R w a a a) (Q.add A Q.z) A tt tt tt tt;
      add_neg = λ a. solve4 R (env R w a a a) (Q.add A (Q.neg A)) Q.z tt tt tt tt;
      mul_assoc = λ a b c. solve4 R (env R w a b c) (Q.mul (Q.mul A B) C) (Q.mul A (Q.mul B C)) tt tt tt tt;
      mul_comm = λ a b. solve4 R (env R w a b a) (Q.mul A B) (Q.mul B A) tt tt tt tt;
      mul_u = λ a. solve4 R (env R w a a a) (Q.mul A Q.u) A tt tt tt tt;
      mul_add = λ a b c. solve4 R (env R w a b c) (Q.mul A (Q.add B C)) (Q.add (Q.mul A B) (Q.mul A C)) tt tt tt tt;
    }

-- a + b·X + c·X² + d·X³ = (a + c·Y) + (b + d·Y)·X with Y = X²
abbrev pub tower : Four → (E × E) × (E × E)
tower e = ((e.0, e.2), (e.1, e.3))

abbrev pub TE : Ops
TE = quad (quad Es (X 0)) (O, I)

module _ (F : Field) (w : F.ring.El) (ns : (s : F.ring.El) → F.ring.mul s s ≢ w) (i : F.ring.El) (root : F.ring.mul i i ≡ F.ring.neg F.ring.u) where
  abbrev pub R : CRing
  R = F.ring

  open R use {El, z, u, add, mul, neg}

  abbrev pub F2 : Field
  F2 = extend F w ns

  abbrev pub F4 : Field
  F4 = extend F2 (z, u) (rootless F w ns i root)

  abbrev pub up : Quad4 R → (El × El) × (El × El)
  up x = ((x.0, x.2), (x.1, x.3))

  abbrev pub down : (El × El) × (El × El) → Quad4 R
  down t = (t.0.0, t.1.0, t.0.1, t.1.1)

  -- the flat product is the tower's
  up_mul : (a b : Quad4 R) → (quartic (ops R) w).mul a b ≡ down (F4.ring.mul (up a) (up b))
  up_mul a b =
      let T4 : (E × E) × (E × E) = TE.mul (tower A) (tower B) in
      solve4 R (env R w a b a) (Q.mul A B) (T4.0.0, T4.1.0, T4.0.1, T4.1.1) tt tt tt tt

  pub dec4 : (a : Quad4 R) → Dec (up a ≡ F4.ring.z) → Dec (a ≡ (quartic (ops R) w).z)
  dec4 a (yes e) = yes (ap down e)
  dec4 a (no e) = no (λ k. e (ap up k))

  pub inv4 : (a : Quad4 R) → a ≢ (quartic (ops R) w).z → (b : Quad4 R) × ((quartic (ops R) w).mul a b ≡ (quartic (ops R) w).u)
  inv4 a h =
      let t : (s : (El × El) × (El × El)) × (F4.ring.mul (up a) s ≡ F4.ring.u) = F4.inv (up a) (λ e. h (ap down e)) in
      (down t.0, up_mul a (down t.0) ∙ ap down t.1)

  abbrev pub quartic_field : Field
  quartic_field =
      record {
        ring = Quartic R w;
        dec = λ a. dec4 a (F4.dec (up a));
        inv = inv4;
        u≢z = λ e. F.u≢z (ap (λ (x : Quad4 R). x.0) e);
      }
