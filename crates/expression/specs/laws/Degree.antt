-- Laws of the degrees: one more node, zeros past them, and that none at t = 0 is over the same at t = 1.
use Rattle.std.specs.Prelude.{◌≡◌, refl, true, ◌&&◌, List, [], ◌∷◌, ◌++◌, ℕ, zero, suc, ◌+◌, ◌≤◌, leb, length, drop, replicate}
use Rattle.std.proofs.Common.{ap, ap₂, ◌∙◌, add-one, arith, length-append, le-leb}
use Rattle.std.proofs.Math.ListN.{get_or-append}
use Rattle.lists.specs.Count.{every}
use Rattle.lists.specs.laws.Parts.{get_or_pad}
use Rattle.lists.specs.laws.Tests.{every_of, every-same}
use Rattle.expression.specs.Words.{word, all_within}
use Rattle.expression.specs.Node.{node, node_count}
use Rattle.expression.specs.Degree.{node_degree, degrees}
use Rattle.expression.specs.Tests.{degrees_low}
use Rattle.expression.specs.laws.Below.{within-tested}
use Rattle.expression.specs.declared.sizes.Limits.{Limits}
use Rattle.expression.specs.declared.node.Node.{Node}
use Rattle.expression.specs.declared.node.Node.TheVariants.{Constant, Main, Preprocessed, PublicValue, FirstRow, LastRow, Transition, Sum, Difference, Product, Negation, Unknown}

pub degrees-one : (t : ℕ) (nodes : List ℕ) (n : ℕ) → degrees t nodes (n + 1) ≡ degrees t nodes n ++ (node_degree t (degrees t nodes n) (node nodes n) ∷ [])
unfolding degrees
degrees-one t nodes n = rw (add-one n)

pub degrees-length : (t : ℕ) (nodes : List ℕ) (n : ℕ) → length (degrees t nodes n) ≡ n
unfolding degrees
degrees-length t nodes zero = refl
degrees-length t nodes (suc n) =
    length-append (degrees t nodes n) (node_degree t (degrees t nodes n) (node nodes n) ∷ []) ∙ ap (λ (k : ℕ). k + 1) (degrees-length t nodes n) ∙ add-one n

-- zeros past the degrees change nothing
pub degree_pad : (t : ℕ) (l : List ℕ) (m i : ℕ) (n : Node) → node_degree t (l ++ drop i (replicate m 0)) n ≡ node_degree t l n
unfolding node_degree
degree_pad t l m i (Constant a) = refl
degree_pad t l m i (Main o a) = refl
degree_pad t l m i (Preprocessed o a) = refl
degree_pad t l m i (PublicValue a) = refl
degree_pad t l m i FirstRow = refl
degree_pad t l m i LastRow = refl
degree_pad t l m i Transition = refl
degree_pad t l m i (Sum a b) = simp get_or_pad
degree_pad t l m i (Difference a b) = simp get_or_pad
degree_pad t l m i (Product a b) = simp get_or_pad
degree_pad t l m i (Negation a) = simp get_or_pad
degree_pad t l m i Unknown = refl

snoc_last : (l : List ℕ) (x : ℕ) → word (l ++ (x ∷ [])) (length l) ≡ x
snoc_last [] x = refl
snoc_last (y ∷ l) x = snoc_last l x

pub within_snoc : (m : ℕ) (l : List ℕ) (x : ℕ) → all_within m (l ++ (x ∷ [])) ≡ (all_within m l && leb x m)
unfolding all_within every
within_snoc m l x =
    let e : length (l ++ (x ∷ [])) ≡ suc (length l) = length-append l (x ∷ []) ∙ add-one (length l) in
    ap (every (λ i. leb (word (l ++ (x ∷ [])) i) m)) e
    ∙ ap₂ ◌&&◌
    (every-same (λ i. leb (word (l ++ (x ∷ [])) i) m) (λ i. leb (word l i) m) (length l)
    (λ i h. ap (λ (n : ℕ). leb n m) (get_or-append l (x ∷ []) 0 i h)))
    (ap (λ (n : ℕ). leb n m) (snoc_last l x))

-- a smaller t gives no larger degree
node_monotone : (t u : ℕ) (k l : List ℕ) (n : Node) → t ≤ u → ((i : ℕ) → word k i ≤ word l i) → node_degree t k n ≤ node_degree u l n
unfolding node_degree
node_monotone t u k l (Constant a) h e = omega arith
node_monotone t u k l (Main o a) h e = omega arith
node_monotone t u k l (Preprocessed o a) h e = omega arith
node_monotone t u k l (PublicValue a) h e = omega arith
node_monotone t u k l FirstRow h e = omega arith
node_monotone t u k l LastRow h e = omega arith
node_monotone t u k l Transition h e = h
node_monotone t u k l (Sum a b) h e = omega (arith, e a, e b)
node_monotone t u k l (Difference a b) h e = omega (arith, e a, e b)
node_monotone t u k l (Product a b) h e = omega (arith, e a, e b)
node_monotone t u k l (Negation a) h e = e a
node_monotone t u k l Unknown h e = omega arith

snoc_monotone : (k l : List ℕ) (x y : ℕ) → length k ≡ length l → x ≤ y → ((i : ℕ) → word k i ≤ word l i) → (i : ℕ) → word (k ++ (x ∷ [])) i ≤ word (l ++ (y ∷ [])) i
snoc_monotone [] [] x y e h f zero = h
snoc_monotone [] [] x y e h f (suc i) = omega arith
snoc_monotone [] (b ∷ l) x y e h f i = absurd (omega arith)
snoc_monotone (a ∷ k) [] x y e h f i = absurd (omega arith)
snoc_monotone (a ∷ k) (b ∷ l) x y e h f zero = f 0
snoc_monotone (a ∷ k) (b ∷ l) x y e h f (suc i) = snoc_monotone k l x y (omega arith) h (λ j. f (suc j)) i

pub degrees_monotone : (t u : ℕ) (nodes : List ℕ) (n : ℕ) → t ≤ u → (i : ℕ) → word (degrees t nodes n) i ≤ word (degrees u nodes n) i
unfolding degrees
degrees_monotone t u nodes zero h i = omega arith
degrees_monotone t u nodes (suc n) h i =
    snoc_monotone (degrees t nodes n) (degrees u nodes n) (node_degree t (degrees t nodes n) (node nodes n)) (node_degree u (degrees u nodes n) (node nodes n))
    (omega (arith, degrees-length t nodes n, degrees-length u nodes n))
    (node_monotone t u (degrees t nodes n) (degrees u nodes n) (node nodes n) h (degrees_monotone t u nodes n h)) (degrees_monotone t u nodes n h) i

-- a table without refusal 4 is within the limit at t = 0 too
pub degrees_low_at : (m : Limits) (t : ℕ) (nodes : List ℕ) → t ≤ 1 → degrees_low m nodes ≡ true → all_within m.degree (degrees t nodes (node_count nodes)) ≡ true
unfolding degrees_low all_within
degrees_low_at m t nodes h e =
    every_of (λ i. leb (word (degrees t nodes (node_count nodes)) i) m.degree) (length (degrees t nodes (node_count nodes)))
    (λ i l. le-leb (word (degrees t nodes (node_count nodes)) i) m.degree (omega (arith, degrees_monotone t 1 nodes (node_count nodes) h i, within-tested m.degree (degrees 1 nodes (node_count nodes)) e i)))
