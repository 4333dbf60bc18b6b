-- The turns of the loop that fills the degrees.
use mathlib.Core.Path.{◌≡◌, refl, sym, ap, ◌∙◌}
use mathlib.Core.Bool.{Bool, true, false, ◌&&◌}
use mathlib.Core.List.{List, [], ◌∷◌, ◌++◌}
use Prim.Native.Nat.{ℕ, ◌+◌, ◌-◌, ◌<◌, ◌≤◌, zero-le}
use native.Mathlib.Omega.{arith}
use lib.Dec.{leb}
use lib.ListN.{length, drop, set, replicate, length-set, length-replicate}
use borrow.Author.Tests.{leb-true}
use Rattle.lists.specs.Count.{every}
use Rattle.lists.specs.laws.Filled.{Filled, filled_none, filled-one}
use Rattle.lists.specs.laws.Tests.{both_left, both_right}
use Rattle.expression.specs.Words.{all_within}
use Rattle.expression.specs.Node.{node}
use Rattle.expression.specs.Degree.{node_degree, degrees}
use Rattle.expression.specs.Requires.{Slots}
use Rattle.expression.specs.laws.Below.{below_set, below-zeros, drop-zeros}
use Rattle.expression.specs.laws.Degree.{degrees-one, degree_pad, within_snoc}
use Rattle.expression.specs.declared.node.Node.{Node}

-- the tests of the first i degrees gave ok; while it holds, the degrees stand in b, which was zeros
pub record Rating (t : ℕ) (nodes : List ℕ) (most n : ℕ) (b : List ℕ) (ok : Bool) (i : ℕ) : Type 0 where
  pub within : i ≤ n
  pub few : n ≤ 1024
  pub slots : Slots (most + 2) b
  pub is : ok ≡ all_within most (degrees t nodes i)
  pub exact : ok ≡ true → Filled (replicate 1024 0) (degrees t nodes i) i b

pub begins : {t : ℕ} {nodes : List ℕ} {most n : ℕ} {d : List ℕ} → n ≤ 1024 → d ≡ replicate 1024 0 → Rating t nodes most n d true 0
unfolding degrees all_within every
begins h z =
    record {
      within = zero-le;
      few = h;
      slots = record { below = rw z (below-zeros 1024 (omega arith)); size = ap length z ∙ length-replicate {A = ℕ} 1024 0 };
      is = refl;
      exact = λ e. rw z filled_none;
    }

same_test : (m d x : ℕ) (ok : Bool) → (ok ≡ true → d ≡ x) → (ok && leb d m) ≡ (ok && leb x m)
same_test m d x true e = ap (λ (n : ℕ). leb n m) (e refl)
same_test m d x false e = refl

pub turn : {t : ℕ} {nodes : List ℕ} {most n : ℕ} {b : List ℕ} {ok : Bool} {i : ℕ} (k : Node) (d x : ℕ) → Rating t nodes most n b ok i → i < n → k ≡ node nodes i
    → d ≡ node_degree t b k → (x ≤ most + 1) × (d ≤ most + 1 → x ≡ d) → Rating t nodes most n (set b i x) (ok && leb d most) (i + 1)
turn {t} {nodes} {most} {n} {b} {ok} {i} k d x r h f e (l, g) =
    let D : ℕ = node_degree t (degrees t nodes i) (node nodes i) in
    let d≡ : ok ≡ true → d ≡ D =
    λ y. e ∙ ap (node_degree t b) f ∙ ap (λ (b : List ℕ). node_degree t b (node nodes i)) (r.exact y).is
    ∙ degree_pad t (degrees t nodes i) 1024 i (node nodes i) in
    record {
      within = omega arith;
      few = r.few;
      slots = record { below = below_set i x r.slots.below (omega arith); size = length-set b i x ∙ r.slots.size };
      is =
          same_test most d D ok d≡ ∙ ap (λ (y : Bool). y && leb D most) r.is
          ∙ sym (ap (all_within most) (degrees-one t nodes i) ∙ within_snoc most (degrees t nodes i) D);
      exact =
          λ y.
          let y₁ : ok ≡ true = both_left ok (leb d most) y in
          let y₂ : d ≤ most = leb-true d most (both_right ok (leb d most) y) in
          filled-one x 0 (r.exact y₁) (omega (arith, r.few, length-replicate {A = ℕ} 1024 0))
          (degrees-one t nodes i ∙ ap (λ (z : ℕ). degrees t nodes i ++ (z ∷ [])) (sym (g (omega arith) ∙ d≡ y₁)));
    }

pub ends : {t : ℕ} {nodes : List ℕ} {most n : ℕ} {b : List ℕ} {ok : Bool} {i : ℕ} → Rating t nodes most n b ok i → n ≤ i
    → (ok ≡ all_within most (degrees t nodes n)) × (ok ≡ true → b ≡ degrees t nodes n ++ replicate (1024 - n) 0)
ends {t} {nodes} {most} {n} {b} {ok} {i} r h =
    let e : i ≡ n = omega (arith, r.within) in (
      r.is ∙ ap (λ (k : ℕ). all_within most (degrees t nodes k)) e,
      λ y. (r.exact y).is ∙ ap (λ (k : ℕ). degrees t nodes k ++ drop k (replicate 1024 0)) e ∙ ap (λ (l : List ℕ). degrees t nodes n ++ l) (drop-zeros n 1024),
    )
