-- What the tests of refusals 1 to 3 and 9 leave of a table, as the inner functions require it. The laws in laws/Tested say that the tests give it.
use Rattle.std.specs.Prelude.{ℕ, ◌*◌, ◌<◌, ◌≤◌, ◌≡◌, true, List, length}
use Rattle.field.specs.inner.Requires.{KnownPrime}
use Rattle.expression.specs.Words.{word}
use Rattle.expression.specs.Node.{row_offsets, node_count}
use Rattle.expression.specs.Window.{Traces}
use Rattle.expression.specs.Tests.{constants_below, nodes_known}
use Rattle.expression.specs.declared.sizes.Shape.{Shape}
use Rattle.expression.specs.declared.node.Node.{Node}
use Rattle.expression.specs.declared.node.Node.TheVariants.{Constant, Main, Preprocessed, PublicValue, FirstRow, LastRow, Transition, Sum, Difference, Product, Negation, Unknown}

-- sizes within sane limits: their products stay in 64 bits
pub record Small (s : Shape) : Type 0 where
  pub main_width : s.main_width ≤ 4096
  pub height : s.height ≤ 1048576
  pub pre_width : s.pre_width ≤ 4096
  pub pre_height : s.pre_height ≤ 1048576

-- every word of a list, and 0 past its end, is below p
pub record Below (p : ℕ) (l : List ℕ) : Type 0 where
  pub each : (i : ℕ) → word l i < p

-- the 1,024 values of the nodes
pub record Slots (p : ℕ) (l : List ℕ) : Type 0 where
  pub below : Below p l
  pub size : length l ≡ 1024

-- traces whose rows may be read
pub record RowsReadable (p : ℕ) (t : Traces) : Type 0 where
  pub main_fits : t.shape.main_width * t.shape.height ≤ length t.main
  pub pre_fits : t.shape.pre_width * t.shape.height ≤ length t.preprocessed
  pub main_below : Below p t.main
  pub pre_below : Below p t.preprocessed
  pub public_below : Below p t.public_values

-- a table whose rows may be evaluated
pub record Evaluable (p : ℕ) (t : Traces) (nodes : List ℕ) : Type 0 where
  pub modulus : KnownPrime p
  pub few : node_count nodes ≤ 1024
  pub rows : RowsReadable p t
  pub constants : constants_below p nodes ≡ true
  pub known : nodes_known t.shape (length t.public_values) nodes ≡ true

-- what a node reads is there: a word of one of the four rows, and a value among the 1,024
abbrev pub Readable : ℕ → Traces → Node → Type 0
Readable p t (Constant a) = a < p
Readable p t (Main o a) = (o < row_offsets) × (a < t.shape.main_width)
Readable p t (Preprocessed o a) = (o < row_offsets) × (a < t.shape.pre_width)
Readable p t (PublicValue a) = a < length t.public_values
Readable p t FirstRow = Unit
Readable p t LastRow = Unit
Readable p t Transition = Unit
Readable p t (Sum a b) = (a < 1024) × (b < 1024)
Readable p t (Difference a b) = (a < 1024) × (b < 1024)
Readable p t (Product a b) = (a < 1024) × (b < 1024)
Readable p t (Negation a) = a < 1024
Readable p t Unknown = Unit

-- node n, which is read on row r
pub record NodeReadable (p : ℕ) (t : Traces) (r : ℕ) (n : Node) : Type 0 where
  pub modulus : KnownPrime p
  pub rows : RowsReadable p t
  pub inside : r < t.shape.height
  pub readable : Readable p t n
