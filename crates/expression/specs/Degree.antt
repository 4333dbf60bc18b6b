-- The degrees of the nodes. SPECIFICATION, section 3.1, has the degree of each kind in its table.
use Rattle.std.specs.Prelude.{ℕ, zero, suc, ◌+◌, max, List, [], ◌∷◌, ◌++◌}
use Rattle.expression.specs.Words.{word}
use Rattle.expression.specs.Node.{node}
use Rattle.expression.specs.declared.node.Node.{Node}
use Rattle.expression.specs.declared.node.Node.TheVariants.{Constant, Main, Preprocessed, PublicValue, FirstRow, LastRow, Transition, Sum, Difference, Product, Negation, Unknown}

-- `ds` are the degrees of the lower nodes
unfoldable pub node_degree : ℕ → List ℕ → Node → ℕ
node_degree t ds (Constant a) = 0
node_degree t ds (Main o a) = 1
node_degree t ds (Preprocessed o a) = 1
node_degree t ds (PublicValue a) = 0
node_degree t ds FirstRow = 1
node_degree t ds LastRow = 1
node_degree t ds Transition = t
node_degree t ds (Sum a b) = max (word ds a) (word ds b)
node_degree t ds (Difference a b) = max (word ds a) (word ds b)
node_degree t ds (Product a b) = word ds a + word ds b
node_degree t ds (Negation a) = word ds a
node_degree t ds Unknown = 0

-- the degrees of the first n nodes, in node order
unfoldable pub degrees : ℕ → List ℕ → ℕ → List ℕ
degrees t nodes zero = []
degrees t nodes (suc n) = degrees t nodes n ++ (node_degree t (degrees t nodes n) (node nodes n) ∷ [])
