-- Laws of the window: a row lies within its trace, rows are counted around the end, and what a node reads is there.
use Rattle.std.specs.Prelude.{◌≡◌, true, List, ℕ, ◌+◌, ◌*◌, ◌<◌, ◌≤◌, ◌%◌, ltb, length}
use Rattle.std.proofs.Common.{sym, mul-le-mul_right, arith, length-take, length-drop, ltb-true}
use Rattle.std.proofs.Math.Nat.{mod_self}
use Rattle.lists.specs.laws.Tests.{both_left, both_right, every_true}
use Rattle.expression.specs.Node.{row_offsets, node, node_count}
use Rattle.expression.specs.Window.{Traces, row_of}
use Rattle.expression.specs.Tests.{constant_below, constants_below, node_known, nodes_known}
use Rattle.expression.specs.Requires.{Evaluable, Readable, NodeReadable}
use Rattle.expression.specs.declared.node.Node.{Node}
use Rattle.expression.specs.declared.node.Node.TheVariants.{Constant, Main, Preprocessed, PublicValue, FirstRow, LastRow, Transition, Sum, Difference, Product, Negation, Unknown}

-- a row of a trace lies within it
pub row_fits : (width height r n : ℕ) → r < height → width * height ≤ n → r * width + width ≤ n
row_fits width height r n h k = omega (arith, mul-le-mul_right width h)

pub row-length : (l : List ℕ) (width height r : ℕ) → r < height → width * height ≤ length l → length (row_of l width r) ≡ width
unfolding row_of
row-length l width height r h k = simp (length-take, length-drop) (omega (arith, row_fits width height r (length l) h k))

-- after the last row comes row 0
pub wraps : (r height : ℕ) → r < height → height ≤ r + 1 → ◌≡◌ {A = ℕ} 0 ((r + 1) % height)
wraps r height h k = let e : r + 1 ≡ height = omega arith in rw e (sym (mod_self height))

-- what refusals 2 and 3 leave: node i may be read
lower : (i a : ℕ) → i ≤ 1024 → ltb a i ≡ true → a < 1024
lower i a h e = omega (arith, ltb-true a i e)

readable : (p : ℕ) (t : Traces) (i : ℕ) (n : Node) → i ≤ 1024 → constant_below p n ≡ true → node_known t.shape (length t.public_values) i n ≡ true → Readable p t n
readable p t i (Constant a) l h k = ltb-true a p h
readable p t i (Main o a) l h k =
    (ltb-true o row_offsets (both_left (ltb o row_offsets) (ltb a t.shape.main_width) k), ltb-true a t.shape.main_width (both_right (ltb o row_offsets) (ltb a t.shape.main_width) k))
readable p t i (Preprocessed o a) l h k =
    (ltb-true o row_offsets (both_left (ltb o row_offsets) (ltb a t.shape.pre_width) k), ltb-true a t.shape.pre_width (both_right (ltb o row_offsets) (ltb a t.shape.pre_width) k))
readable p t i (PublicValue a) l h k = ltb-true a (length t.public_values) k
readable p t i FirstRow l h k = tt
readable p t i LastRow l h k = tt
readable p t i Transition l h k = tt
readable p t i (Sum a b) l h k = (lower i a l (both_left (ltb a i) (ltb b i) k), lower i b l (both_right (ltb a i) (ltb b i) k))
readable p t i (Difference a b) l h k = (lower i a l (both_left (ltb a i) (ltb b i) k), lower i b l (both_right (ltb a i) (ltb b i) k))
readable p t i (Product a b) l h k = (lower i a l (both_left (ltb a i) (ltb b i) k), lower i b l (both_right (ltb a i) (ltb b i) k))
readable p t i (Negation a) l h k = lower i a l k
readable p t i Unknown l h k = tt

pub node-readable : {p : ℕ} {t : Traces} {nodes : List ℕ} (r i : ℕ) → Evaluable p t nodes → r < t.shape.height → i < node_count nodes → NodeReadable p t r (node nodes i)
unfolding constants_below nodes_known
node-readable {p} {t} {nodes} r i v h l =
    record {
      modulus = v.modulus;
      rows = v.rows;
      inside = h;
      readable =
          readable p t i (node nodes i) (omega (arith, v.few))
          (every_true (λ i. constant_below p (node nodes i)) (node_count nodes) i v.constants l)
          (every_true (λ i. node_known t.shape (length t.public_values) i (node nodes i)) (node_count nodes) i v.known l);
    }
