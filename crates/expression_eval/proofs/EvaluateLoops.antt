-- The turns of the loop that fills the values.
use mathlib.Core.Path.{◌≡◌, refl, sym, ap, ◌∙◌}
use mathlib.Core.List.{List, [], ◌∷◌, ◌++◌}
use Prim.Native.Nat.{ℕ, ◌+◌, ◌-◌, ◌<◌, ◌≤◌, zero-le}
use native.Mathlib.Omega.{arith}
use lib.ListN.{length, drop, set, replicate, length-set, length-replicate}
use Rattle.lists.specs.laws.Parts.{get_or_pad}
use Rattle.lists.specs.laws.Filled.{Filled, filled_none, filled-one}
use Rattle.expression.specs.Node.{node}
use Rattle.expression.specs.Window.{Window}
use Rattle.expression.specs.Values.{node_value, values}
use Rattle.expression.specs.Requires.{Slots}
use Rattle.expression.specs.laws.Below.{below_set, below-zeros, drop-zeros}
use Rattle.expression.specs.laws.Values.{values_one}
use Rattle.expression.specs.declared.node.Node.{Node}
use Rattle.expression.specs.declared.node.Node.TheVariants.{Constant, Main, Preprocessed, PublicValue, FirstRow, LastRow, Transition, Sum, Difference, Product, Negation, Unknown}

-- zeros past the values change nothing
value_pad : (p : ℕ) (v : Window) (l : List ℕ) (m i : ℕ) (n : Node) → node_value p v (l ++ drop i (replicate m 0)) n ≡ node_value p v l n
unfolding node_value
value_pad p v l m i (Constant a) = refl
value_pad p v l m i (Main o a) = refl
value_pad p v l m i (Preprocessed o a) = refl
value_pad p v l m i (PublicValue a) = refl
value_pad p v l m i FirstRow = refl
value_pad p v l m i LastRow = refl
value_pad p v l m i Transition = refl
value_pad p v l m i (Sum a b) = simp get_or_pad
value_pad p v l m i (Difference a b) = simp get_or_pad
value_pad p v l m i (Product a b) = simp get_or_pad
value_pad p v l m i (Negation a) = simp get_or_pad
value_pad p v l m i Unknown = refl

-- the first i values stand in b, which was zeros
pub record Filling (p : ℕ) (nodes : List ℕ) (v : Window) (n : ℕ) (b : List ℕ) (i : ℕ) : Type 0 where
  pub within : i ≤ n
  pub few : n ≤ 1024
  pub filled : Filled (replicate 1024 0) (values p nodes v i) i b
  pub slots : Slots p b

pub begins : {p : ℕ} {nodes : List ℕ} {v : Window} {n : ℕ} {d : List ℕ} → n ≤ 1024 → 0 < p → d ≡ replicate 1024 0 → Filling p nodes v n d 0
unfolding values
begins h k z =
    record {
      within = zero-le;
      few = h;
      filled = rw z filled_none;
      slots = record { below = rw z (below-zeros 1024 k); size = ap length z ∙ length-replicate {A = ℕ} 1024 0 };
    }

pub turn : {p : ℕ} {nodes : List ℕ} {v : Window} {n : ℕ} {b : List ℕ} {i x : ℕ} (k : Node) → Filling p nodes v n b i → i < n → k ≡ node nodes i
    → (x < p) × (x ≡ node_value p v b k) → Filling p nodes v n (set b i x) (i + 1)
turn {p} {nodes} {v} {n} {b} {i} {x} k f h g (l, e) =
    let x≡ : x ≡ node_value p v (values p nodes v i) (node nodes i) =
    e ∙ ap (node_value p v b) g ∙ ap (λ (b : List ℕ). node_value p v b (node nodes i)) f.filled.is
    ∙ value_pad p v (values p nodes v i) 1024 i (node nodes i) in
    record {
      within = omega arith;
      few = f.few;
      filled =
          filled-one x 0 f.filled (omega (arith, f.few, length-replicate {A = ℕ} 1024 0))
          (values_one p nodes v i ∙ ap (λ (y : ℕ). values p nodes v i ++ (y ∷ [])) (sym x≡));
      slots = record { below = below_set i x f.slots.below l; size = length-set b i x ∙ f.slots.size };
    }

pub ends : {p : ℕ} {nodes : List ℕ} {v : Window} {n : ℕ} {b : List ℕ} {i : ℕ} → Filling p nodes v n b i → n ≤ i
    → Slots p b × (b ≡ values p nodes v n ++ replicate (1024 - n) 0)
ends {p} {nodes} {v} {n} {b} {i} f h =
    let e : i ≡ n = omega (arith, f.within) in (
      f.slots,
      f.filled.is ∙ ap (λ (k : ℕ). values p nodes v k ++ drop k (replicate 1024 0)) e
          ∙ ap (λ (l : List ℕ). values p nodes v n ++ l) (drop-zeros n 1024),
    )
