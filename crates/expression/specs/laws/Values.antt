-- Laws of the values of the nodes: their number, the 1,024 words in which they stand with zeros after them, and that they are below p.
use Rattle.std.specs.Prelude.{◌≡◌, refl, Bool, true, false, not, List, [], ◌∷◌, ◌++◌, ℕ, zero, suc, ◌+◌, ◌<◌, ◌%◌, eqb, length, take, replicate}
use Rattle.std.proofs.Common.{ap, ◌∙◌, add-one, arith, length-append, take_at, ltb-true}
use Rattle.field.proofs.laws.Word.{add_m-below, sub_m-below, neg_m-below, mul_m-below}
use Rattle.lists.specs.laws.Tests.{every_true}
use Rattle.expression.specs.Words.{word}
use Rattle.expression.specs.Node.{node, node_count}
use Rattle.expression.specs.Window.{Traces, Window, window}
use Rattle.expression.specs.Values.{bit, node_value, values, row_values}
use Rattle.expression.specs.Tests.{constant_below, constants_below}
use Rattle.expression.specs.Requires.{Below, Evaluable}
use Rattle.expression.specs.laws.Below.{below_nil, below_row, below_snoc, word-zeros}
use Rattle.expression.specs.declared.node.Node.{Node}
use Rattle.expression.specs.declared.node.Node.TheVariants.{Constant, Main, Preprocessed, PublicValue, FirstRow, LastRow, Transition, Sum, Difference, Product, Negation, Unknown}

-- one more node
pub values_one : (p : ℕ) (nodes : List ℕ) (v : Window) (n : ℕ) → values p nodes v (n + 1) ≡ values p nodes v n ++ (node_value p v (values p nodes v n) (node nodes n) ∷ [])
unfolding values
values_one p nodes v n = rw (add-one n)

pub values_length : (p : ℕ) (nodes : List ℕ) (v : Window) (n : ℕ) → length (values p nodes v n) ≡ n
unfolding values
values_length p nodes v zero = refl
values_length p nodes v (suc n) =
    length-append (values p nodes v n) (node_value p v (values p nodes v n) (node nodes n) ∷ [])
    ∙ ap (λ (k : ℕ). k + 1) (values_length p nodes v n) ∙ add-one n

pub row_values-length : (p : ℕ) (nodes : List ℕ) (t : Traces) (r : ℕ) → length (row_values p nodes t r) ≡ node_count nodes
unfolding row_values
row_values-length p nodes t r = values_length p nodes (window t r) (node_count nodes)

-- the 1,024 words of a row: the values are those of the nodes, and each word is that node's value
pub values-part : {b : List ℕ} (p : ℕ) (nodes : List ℕ) (t : Traces) (r m : ℕ) → b ≡ row_values p nodes t r ++ replicate m 0 → take (node_count nodes) b ≡ row_values p nodes t r
values-part p nodes t r m e = rw e (take_at (row_values p nodes t r) (replicate m 0) (node_count nodes) (row_values-length p nodes t r))

pub value_at : {b : List ℕ} (l : List ℕ) (m i : ℕ) → b ≡ l ++ replicate m 0 → word b i ≡ word l i
value_at l m i e = rw e (word-zeros l m i)

-- the values are below p
bit_below : (p : ℕ) (b : Bool) → 2 < p → bit b < p
bit_below p true l = omega arith
bit_below p false l = omega arith

node-below : (p : ℕ) (v : Window) (vals : List ℕ) (n : Node) → 2 < p → ((o a : ℕ) → word (v.main o) a < p) → ((o a : ℕ) → word (v.preprocessed o) a < p)
    → Below p v.public_values → Below p vals → constant_below p n ≡ true → node_value p v vals n < p
unfolding node_value
node-below p v vals (Constant a) l m q u b k = ltb-true a p k
node-below p v vals (Main o a) l m q u b k = m o a
node-below p v vals (Preprocessed o a) l m q u b k = q o a
node-below p v vals (PublicValue a) l m q u b k = u.each a
node-below p v vals FirstRow l m q u b k = bit_below p (eqb v.row 0) l
node-below p v vals LastRow l m q u b k = bit_below p (eqb (v.row + 1) v.height) l
node-below p v vals Transition l m q u b k = bit_below p (not (eqb (v.row + 1) v.height)) l
node-below p v vals (Sum a c) l m q u b k = add_m-below p (omega arith) (word vals a) (word vals c)
node-below p v vals (Difference a c) l m q u b k = sub_m-below p (omega arith) (word vals a) (word vals c)
node-below p v vals (Product a c) l m q u b k = mul_m-below p (omega arith) (word vals a) (word vals c)
node-below p v vals (Negation a) l m q u b k = neg_m-below p (omega arith) (word vals a)
node-below p v vals Unknown l m q u b k = omega arith

pub values-below : (p : ℕ) (v : Window) (nodes : List ℕ) (n : ℕ) → 2 < p → ((o a : ℕ) → word (v.main o) a < p) → ((o a : ℕ) → word (v.preprocessed o) a < p)
    → Below p v.public_values → ((i : ℕ) → i < n → constant_below p (node nodes i) ≡ true) → Below p (values p nodes v n)
unfolding values
values-below p v nodes zero l m q u k = below_nil (omega arith)
values-below p v nodes (suc n) l m q u k =
    let b : Below p (values p nodes v n) = values-below p v nodes n l m q u (λ i h. k i (omega arith)) in
    below_snoc (node_value p v (values p nodes v n) (node nodes n)) b (node-below p v (values p nodes v n) (node nodes n) l m q u b (k n (omega arith)))

pub row_values-below : {p : ℕ} {t : Traces} {nodes : List ℕ} (r : ℕ) → Evaluable p t nodes → Below p (row_values p nodes t r)
unfolding row_values window constants_below
row_values-below {p} {t} {nodes} r v =
    values-below p (window t r) nodes (node_count nodes) v.modulus.big
    (λ o. (below_row t.shape.main_width ((r + o) % t.shape.height) v.rows.main_below).each)
    (λ o. (below_row t.shape.pre_width ((r + o) % t.shape.height) v.rows.pre_below).each)
    v.rows.public_below (λ i l. every_true (λ i. constant_below p (node nodes i)) (node_count nodes) i v.constants l)
