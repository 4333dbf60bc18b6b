-- The quadratic extension of a commutative ring is a commutative ring.
use Rattle.std.specs.Prelude.{◌≡◌, List, [], ◌∷◌, T}
use Rattle.algebra.specs.Ring.{CRing, Ops, ops, quad}
use Rattle.algebra.specs.laws.Solve.{E, O, I, X, ◌⊕◌, ◌⊗◌, ⊝◌, same}
use Rattle.algebra.proofs.laws.Solve.{solve, eval}

-- expressions are an Ops too
abbrev pub Es : Ops
Es = record { El = E; z = O; u = I; add = ◌⊕◌; mul = ◌⊗◌; neg = ⊝◌ }

-- the extension of expressions by the variable 0
abbrev pub Q : Ops
Q = quad Es (X 0)

abbrev pub A : E × E
A = (X 1, X 2)

abbrev pub B : E × E
B = (X 3, X 4)

abbrev pub C : E × E
C = (X 5, X 6)

module _ (R : CRing) (d : R.El) where
  abbrev pub ev : R.El × R.El → R.El × R.El → R.El × R.El → List R.El
  ev a b c = d ∷ a.0 ∷ a.1 ∷ b.0 ∷ b.1 ∷ c.0 ∷ c.1 ∷ []

  pub both : (l r : E × E) (a b c : R.El × R.El)
      → T (same l.0 r.0) → T (same l.1 r.1)
      → ◌≡◌ {A = R.El × R.El} (eval R (ev a b c) l.0, eval R (ev a b c) l.1) (eval R (ev a b c) r.0, eval R (ev a b c) r.1)
  both l r a b c p q = λ i. (solve R (ev a b c) l.0 r.0 p i, solve R (ev a b c) l.1 r.1 q i)

abbrev pub Quad : (R : CRing) → R.El → CRing
Quad R d =
    record {
      El = (quad (ops R) d).El;
      z = (quad (ops R) d).z;
      u = (quad (ops R) d).u;
      add = (quad (ops R) d).add;
      mul = (quad (ops R) d).mul;
      neg = (quad (ops R) d).neg;
      add_assoc = λ a b c. both R d (Q.add (Q.add A B) C) (Q.add A (Q.add B C)) a b c tt tt;
      add_comm = λ a b. both R d (Q.add A B) (Q.add B A) a b a tt tt;
      add_z = λ a. both R d (Q.add A Q.z) A a a a tt tt;
      add_neg = λ a. both R d (Q.add A (Q.neg A)) Q.z a a a tt tt;
      mul_assoc = λ a b c. both R d (Q.mul (Q.mul A B) C) (Q.mul A (Q.mul B C)) a b c tt tt;
      mul_comm = λ a b. both R d (Q.mul A B) (Q.mul B A) a b a tt tt;
      mul_u = λ a. both R d (Q.mul A Q.u) A a a a tt tt;
      mul_add = λ a b c. both R d (Q.mul A (Q.add B C)) (Q.add (Q.mul A B) (Q.mul A C)) a b c tt tt;
    }
