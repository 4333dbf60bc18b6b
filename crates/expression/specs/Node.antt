-- The expression table. SPECIFICATION, section 3: "a list of nodes stands for them"; a node is three words: kind, a, b.
use Rattle.std.specs.Prelude.{ℕ, ◌+◌, ◌*◌, ◌/◌, cond, List, eqb, length}
use Rattle.expression.specs.Words.{word}
use Rattle.expression.specs.declared.node.Node.{Node}
use Rattle.expression.specs.declared.node.Node.TheVariants.{Constant, Main, Preprocessed, PublicValue, FirstRow, LastRow, Transition, Sum, Difference, Product, Negation, Unknown}

-- the words of a node
abbrev pub node_words : ℕ
node_words = 3

-- the row offsets: 0 to 3, "a larger offset is refusal 3"
abbrev pub row_offsets : ℕ
row_offsets = 4

-- The kinds of SPECIFICATION, section 3.1. "Kinds 1 and 3 carry a row offset in b", "kinds 2 and 4 mean offset 1 and ignore b".
unfoldable pub decode : ℕ → ℕ → ℕ → Node
decode k a b =
    cond (eqb k 0) (Constant a)
    (cond (eqb k 1) (Main b a)
    (cond (eqb k 2) (Main 1 a)
    (cond (eqb k 3) (Preprocessed b a)
    (cond (eqb k 4) (Preprocessed 1 a)
    (cond (eqb k 5) (PublicValue a)
    (cond (eqb k 6) FirstRow
    (cond (eqb k 7) LastRow
    (cond (eqb k 8) Transition
    (cond (eqb k 9) (Sum a b)
    (cond (eqb k 10) (Difference a b)
    (cond (eqb k 11) (Product a b)
    (cond (eqb k 12) (Negation a) Unknown))))))))))))

-- node i
unfoldable pub node : List ℕ → ℕ → Node
node nodes i = decode (word nodes (node_words * i)) (word nodes (node_words * i + 1)) (word nodes (node_words * i + 2))

abbrev pub node_count : List ℕ → ℕ
node_count nodes = length nodes / node_words
