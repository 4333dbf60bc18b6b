-- Commutative rings with one, their operations, and the pairs with X² = d and quadruples with X⁴ = w over them.
use Rattle.std.specs.Prelude.{◌≡◌}

-- z is zero, u is one
pub record CRing : Type 1 where
  pub El : Type 0
  pub z : El
  pub u : El
  pub add : El → El → El
  pub mul : El → El → El
  pub neg : El → El
  pub add_assoc : (a b c : El) → add (add a b) c ≡ add a (add b c)
  pub add_comm : (a b : El) → add a b ≡ add b a
  pub add_z : (a : El) → add a z ≡ a
  pub add_neg : (a : El) → add a (neg a) ≡ z
  pub mul_assoc : (a b c : El) → mul (mul a b) c ≡ mul a (mul b c)
  pub mul_comm : (a b : El) → mul a b ≡ mul b a
  pub mul_u : (a : El) → mul a u ≡ a
  pub mul_add : (a b c : El) → mul a (add b c) ≡ add (mul a b) (mul a c)

-- The operations alone: a formula is written over them once, and read at a ring, at numbers modulo p and at expressions.
pub record Ops : Type 1 where
  pub El : Type 0
  pub z : El
  pub u : El
  pub add : El → El → El
  pub mul : El → El → El
  pub neg : El → El

abbrev pub ops : CRing → Ops
ops R = record { El = R.El; z = R.z; u = R.u; add = R.add; mul = R.mul; neg = R.neg }

-- Pairs (a, b), for a + b·X with X² = d.
abbrev pub quad : (O : Ops) → O.El → Ops
quad O d =
    record {
      El = O.El × O.El;
      z = (O.z, O.z);
      u = (O.u, O.z);
      add = λ x y. (O.add x.0 y.0, O.add x.1 y.1);
      mul =
          λ x y. (
            O.add (O.mul x.0 y.0) (O.mul d (O.mul x.1 y.1)),
            O.add (O.mul x.0 y.1) (O.mul x.1 y.0),
          );
      neg = λ x. (O.neg x.0, O.neg x.1);
    }

-- Quadruples (a, b, c, d), for a + b·X + c·X² + d·X³ with X⁴ = w.
abbrev pub quartic : (O : Ops) → O.El → Ops
quartic O w =
    record {
      El = O.El × O.El × O.El × O.El;
      z = (O.z, O.z, O.z, O.z);
      u = (O.u, O.z, O.z, O.z);
      add = λ x y. (O.add x.0 y.0, O.add x.1 y.1, O.add x.2 y.2, O.add x.3 y.3);
      mul =
          λ x y. (
            O.add (O.mul x.0 y.0) (O.mul w (O.add (O.add (O.mul x.1 y.3) (O.mul x.2 y.2)) (O.mul x.3 y.1))),
            O.add (O.add (O.mul x.0 y.1) (O.mul x.1 y.0)) (O.mul w (O.add (O.mul x.2 y.3) (O.mul x.3 y.2))),
            O.add (O.add (O.add (O.mul x.0 y.2) (O.mul x.1 y.1)) (O.mul x.2 y.0)) (O.mul w (O.mul x.3 y.3)),
            O.add (O.add (O.add (O.mul x.0 y.3) (O.mul x.1 y.2)) (O.mul x.2 y.1)) (O.mul x.3 y.0),
          );
      neg = λ x. (O.neg x.0, O.neg x.1, O.neg x.2, O.neg x.3);
    }
