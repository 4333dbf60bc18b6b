-- Refusals 1 to 4 of a table's traces and nodes, as tests that hold where there is no such refusal. SPECIFICATION, sections 10.1, 10.3 and 10.4.
use Rattle.std.specs.Prelude.{ℕ, ◌*◌, ◌%◌, Bool, true, false, ◌&&◌, List, eqb, leb, ltb, length}
use Rattle.lists.specs.Count.{every}
use Rattle.expression.specs.Words.{all_below, all_within}
use Rattle.expression.specs.Node.{row_offsets, node, node_count}
use Rattle.expression.specs.Window.{Traces}
use Rattle.expression.specs.Degree.{degrees}
use Rattle.expression.specs.declared.sizes.Shape.{Shape}
use Rattle.expression.specs.declared.sizes.Limits.{Limits}
use Rattle.expression.specs.declared.node.Node.{Node}
use Rattle.expression.specs.declared.node.Node.TheVariants.{Constant, Main, Preprocessed, PublicValue, FirstRow, LastRow, Transition, Sum, Difference, Product, Negation, Unknown}

-- refusal 1, "a size is over a limit" or "main has no columns"
unfoldable pub traces_within : Limits → Shape → List ℕ → Bool
traces_within m s public_values =
    ltb 0 s.main_width
    && leb s.main_width m.main_columns
    && leb s.height m.height
    && leb s.pre_width m.pre_columns
    && leb s.pre_height m.height
    && leb (length public_values) m.public_values

unfoldable pub nodes_within : Limits → List ℕ → Bool
nodes_within m nodes = leb (node_count nodes) m.nodes

-- refusal 1, "at odds with a list's length"
unfoldable pub traces_fit : Shape → List ℕ → List ℕ → Bool
traces_fit s main preprocessed =
    eqb (length main) (s.main_width * s.height) && eqb (length preprocessed) (s.pre_width * s.pre_height)

unfoldable pub nodes_fit : List ℕ → Bool
nodes_fit nodes = eqb (length nodes % 3) 0

-- refusal 2: the traces and the public values
unfoldable pub traces_below : ℕ → Traces → Bool
traces_below p t = all_below p t.main && all_below p t.preprocessed && all_below p t.public_values

-- a constant's word
abbrev pub constant_below : ℕ → Node → Bool
constant_below p (Constant a) = ltb a p
constant_below p (Main o a) = true
constant_below p (Preprocessed o a) = true
constant_below p (PublicValue a) = true
constant_below p FirstRow = true
constant_below p LastRow = true
constant_below p Transition = true
constant_below p (Sum a b) = true
constant_below p (Difference a b) = true
constant_below p (Product a b) = true
constant_below p (Negation a) = true
constant_below p Unknown = true

unfoldable pub constants_below : ℕ → List ℕ → Bool
constants_below p nodes = every (λ i. constant_below p (node nodes i)) (node_count nodes)

-- refusal 3: node i, where there are so many public values
abbrev pub node_known : Shape → ℕ → ℕ → Node → Bool
node_known s publics i (Constant a) = true
node_known s publics i (Main o a) = ltb o row_offsets && ltb a s.main_width
node_known s publics i (Preprocessed o a) = ltb o row_offsets && ltb a s.pre_width
node_known s publics i (PublicValue a) = ltb a publics
node_known s publics i FirstRow = true
node_known s publics i LastRow = true
node_known s publics i Transition = true
node_known s publics i (Sum a b) = ltb a i && ltb b i
node_known s publics i (Difference a b) = ltb a i && ltb b i
node_known s publics i (Product a b) = ltb a i && ltb b i
node_known s publics i (Negation a) = ltb a i
node_known s publics i Unknown = false

unfoldable pub nodes_known : Shape → ℕ → List ℕ → Bool
nodes_known s publics nodes = every (λ i. node_known s publics i (node nodes i)) (node_count nodes)

-- refusal 4: "a node, used or not, has a degree over 255 at t = 1"
unfoldable pub degrees_low : Limits → List ℕ → Bool
degrees_low m nodes = all_within m.degree (degrees 1 nodes (node_count nodes))
