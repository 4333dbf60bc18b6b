-- The values of the nodes on a row. SPECIFICATION, section 3.3.
use Rattle.std.specs.Prelude.{ℕ, zero, suc, ◌+◌, Bool, cond, not, List, [], ◌∷◌, ◌++◌, eqb}
use Rattle.field.specs.Word.{add_m, sub_m, mul_m, neg_m}
use Rattle.expression.specs.Words.{word}
use Rattle.expression.specs.Node.{node, node_count}
use Rattle.expression.specs.Window.{Traces, Window, window}
use Rattle.expression.specs.declared.node.Node.{Node}
use Rattle.expression.specs.declared.node.Node.TheVariants.{Constant, Main, Preprocessed, PublicValue, FirstRow, LastRow, Transition, Sum, Difference, Product, Negation, Unknown}

abbrev pub bit : Bool → ℕ
bit b = cond b 1 0

-- SPECIFICATION, section 3.1, has the value of each kind in its table. `vals` are the values of the lower nodes.
unfoldable pub node_value : ℕ → Window → List ℕ → Node → ℕ
node_value p v vals (Constant a) = a
node_value p v vals (Main o a) = word (v.main o) a
node_value p v vals (Preprocessed o a) = word (v.preprocessed o) a
node_value p v vals (PublicValue a) = word v.public_values a
node_value p v vals FirstRow = bit (eqb v.row 0)
node_value p v vals LastRow = bit (eqb (v.row + 1) v.height)
node_value p v vals Transition = bit (not (eqb (v.row + 1) v.height))
node_value p v vals (Sum a b) = add_m p (word vals a) (word vals b)
node_value p v vals (Difference a b) = sub_m p (word vals a) (word vals b)
node_value p v vals (Product a b) = mul_m p (word vals a) (word vals b)
node_value p v vals (Negation a) = neg_m p (word vals a)
node_value p v vals Unknown = 0

-- the values of the first n nodes, in node order; a node past them reads as 0: "zero at the start of each row"
unfoldable pub values : ℕ → List ℕ → Window → ℕ → List ℕ
values p nodes v zero = []
values p nodes v (suc n) = values p nodes v n ++ (node_value p v (values p nodes v n) (node nodes n) ∷ [])

-- the values of a table's nodes on row r
unfoldable pub row_values : ℕ → List ℕ → Traces → ℕ → List ℕ
row_values p nodes t r = values p nodes (window t r) (node_count nodes)
