-- A table as a rule reads it: the tests find the same in it, and its tuples are the lent ones, reversed under rule 2.
use Rattle.std.specs.Prelude.{◌≡◌, Bool, cond, ◌&&◌, ℕ, zero, suc, ◌+◌, ◌≤◌, eqb, leb, ltb, take, drop}
use Rattle.std.proofs.Math.Path.{refl, sym}
use Rattle.std.proofs.Common.{ap, ap₂, ◌∙◌, arith, length-append, length-take, take-append-drop, drop_of_length-le, length-take-le, take_all, take_at, drop_at, drop-drop, leb-true, leb-false}
use Rattle.std.proofs.Math.Bool.{true, false, and-true, and_assoc, and_comm}
use Rattle.std.proofs.Math.Option.{Option}
use mathlib.Core.List.{List, [], ◌∷◌, ◌++◌, map, map-append, reverse, reverse-cons, append-nil}
use Rattle.std.proofs.Math.ListN.{length}
use Rattle.std.proofs.lemmas.List.{length-reverse}
use Rattle.lists.specs.Count.{total, every}
use Rattle.lists.specs.laws.Sums.{total_head}
use Rattle.expression.specs.Words.{word, all_below}
use Rattle.expression.specs.Node.{node_count}
use Rattle.expression.specs.declared.sizes.Limits.{Limits}
use Rattle.lookup.specs.Lookups.{Lookups, tuple_start, tuple_width, tuple_nodes, element_start}
use Rattle.lookup.specs.Table.{Table}
use Rattle.lookup.specs.Tests.{sizes, words_below, known, lookups_fit, nodes_present, lists_agree}
use Rattle.logup.specs.Tuple.{tuple}
use Rattle.logup.specs.Rule.{reversed, elements_under, lookups_under, table_under}
use Rattle.logup.specs.Generation.{entry_refusal}
use Rattle.logup.specs.Constraints.{constraints_refusal}
use Rattle.logup.specs.Ledger.{has_ledger}

-- lists reversed
map-reverse : (f : ℕ → ℕ) (l : List ℕ) → map f (reverse l) ≡ reverse (map f l)
map-reverse f [] = refl
map-reverse f (x ∷ xs) =
    ap (map f) (reverse-cons x xs) ∙ map-append f (reverse xs) (x ∷ []) ∙ ap (λ (q : List ℕ). q ++ (f x ∷ [])) (map-reverse f xs)
    ∙ sym (reverse-cons (f x) (map f xs))

length-reversed : (tuples elements : List ℕ) → length (reversed tuples elements) ≡ length elements
unfolding reversed
length-reversed [] elements = refl
length-reversed (n ∷ tuples) elements =
    length-append (reverse (take n elements)) (reversed tuples (drop n elements))
    ∙ ap₂ ◌+◌ (length-reverse (take n elements)) (length-reversed tuples (drop n elements))
    ∙ sym (length-append (take n elements) (drop n elements))
    ∙ ap length (take-append-drop n elements)

-- without nodes there is nothing to reverse
reversed_none : (tuples : List ℕ) → reversed tuples [] ≡ []
unfolding reversed
reversed_none [] = refl
reversed_none (zero ∷ tuples) = reversed_none tuples
reversed_none (suc n ∷ tuples) = reversed_none tuples

-- the first tuple and the rest, also where the nodes end within it
parted : (n : ℕ) (tuples elements : List ℕ)
    → (take n (reversed (n ∷ tuples) elements) ≡ reverse (take n elements)) × (drop n (reversed (n ∷ tuples) elements) ≡ reversed tuples (drop n elements))
unfolding reversed
parted n tuples elements = go (leb n (length elements)) refl
  where
    whole : List ℕ
    whole = reverse (take n elements) ++ reversed tuples (drop n elements)

    go : (b : Bool) → leb n (length elements) ≡ b → (take n whole ≡ reverse (take n elements)) × (drop n whole ≡ reversed tuples (drop n elements))
    go true e =
        let long : length (reverse (take n elements)) ≡ n = length-reverse (take n elements) ∙ length-take-le n elements (leb-true n (length elements) e) in (
          take_at (reverse (take n elements)) (reversed tuples (drop n elements)) n long,
          drop_at (reverse (take n elements)) (reversed tuples (drop n elements)) n long,
        )
    go false e =
        let short : length elements ≤ n = omega (arith, leb-false n (length elements) e) in
        let rest : reversed tuples (drop n elements) ≡ [] = ap (reversed tuples) (drop_of_length-le elements short) ∙ reversed_none tuples in
        let alone : whole ≡ reverse (take n elements) = ap (λ (q : List ℕ). reverse (take n elements) ++ q) rest ∙ append-nil (reverse (take n elements)) in
        let few : length (reverse (take n elements)) ≤ n = omega (arith, length-reverse (take n elements), length-take n elements) in (
          ap (take n) alone ∙ take_all n (reverse (take n elements)) few,
          ap (drop n) alone ∙ drop_of_length-le (reverse (take n elements)) few ∙ sym rest,
        )

-- tuple j of the reversed nodes
reversed_at : (tuples elements : List ℕ) (j : ℕ)
    → take (word tuples j) (drop (element_start tuples j) (reversed tuples elements)) ≡ reverse (take (word tuples j) (drop (element_start tuples j) elements))
unfolding element_start total
reversed_at [] elements j = refl
reversed_at (n ∷ tuples) elements zero = (parted n tuples elements).0
reversed_at (n ∷ tuples) elements (suc j) =
    let start : ℕ = element_start tuples j in
    let later : element_start (n ∷ tuples) (suc j) ≡ n + start = total_head (word (n ∷ tuples)) j in
    ap (λ (k : ℕ). take (word tuples j) (drop k (reversed (n ∷ tuples) elements))) later
    ∙ ap (take (word tuples j)) (sym (drop-drop start n (reversed (n ∷ tuples) elements)))
    ∙ ap (λ (q : List ℕ). take (word tuples j) (drop start q)) (parted n tuples elements).1
    ∙ reversed_at tuples (drop n elements) j
    ∙ ap (λ (q : List ℕ). reverse (take (word tuples j) q)) (drop-drop start n elements)
    ∙ ap (λ (k : ℕ). reverse (take (word tuples j) (drop k elements))) (sym later)

-- the nodes or the words of a tuple as a rule takes them
unfoldable pub ordered : ℕ → List ℕ → List ℕ
ordered rule es = cond (eqb rule 2) (reverse es) es

map-ordered : (rule : ℕ) (f : ℕ → ℕ) (es : List ℕ) → map f (ordered rule es) ≡ ordered rule (map f es)
unfolding ordered
map-ordered rule f es = go (eqb rule 2)
  where
    go : (b : Bool) → map f (cond b (reverse es) es) ≡ cond b (reverse (map f es)) (map f es)
    go true = map-reverse f es
    go false = refl

-- the nodes of the table's tuple j
pub part_under : (rule : ℕ) (tuples elements : List ℕ) (j : ℕ)
    → take (word tuples j) (drop (element_start tuples j) (elements_under rule tuples elements))
    ≡ ordered rule (take (word tuples j) (drop (element_start tuples j) elements))
unfolding elements_under ordered
part_under rule tuples elements j = go (eqb rule 2)
  where
    go : (b : Bool)
        → take (word tuples j) (drop (element_start tuples j) (cond b (reversed tuples elements) elements))
        ≡ cond b (reverse (take (word tuples j) (drop (element_start tuples j) elements))) (take (word tuples j) (drop (element_start tuples j) elements))
    go true = reversed_at tuples elements j
    go false = refl

pub nodes_under : (rule : ℕ) (l : Lookups) (i k : ℕ) → tuple_nodes (lookups_under rule l) i k ≡ ordered rule (tuple_nodes l i k)
unfolding tuple_nodes tuple_width
nodes_under rule l i k = part_under rule l.tuples l.elements (tuple_start l.lookups i + k)

pub tuple_under : (rule : ℕ) (l : Lookups) (vals : List ℕ) (i k : ℕ) → tuple (lookups_under rule l) vals i k ≡ ordered rule (tuple l vals i k)
unfolding tuple
tuple_under rule l vals i k = ap (map (word vals)) (nodes_under rule l i k) ∙ map-ordered rule (word vals) (tuple_nodes l i k)

-- every word is below n, word by word
abbrev each_below : ℕ → List ℕ → Bool
each_below n [] = true
each_below n (x ∷ xs) = ltb x n && each_below n xs

every_front : (f : ℕ → Bool) (n : ℕ) → every f (suc n) ≡ (f 0 && every (λ i. f (suc i)) n)
unfolding every
every_front f zero = sym (and-true (f 0))
every_front f (suc n) = ap (λ (b : Bool). b && f (suc n)) (every_front f n) ∙ and_assoc (f 0) (every (λ i. f (suc i)) n) (f (suc n))

below_is : (n : ℕ) (l : List ℕ) → all_below n l ≡ each_below n l
unfolding all_below every
below_is n [] = refl
below_is n (x ∷ xs) = every_front (λ i. ltb (word (x ∷ xs) i) n) (length xs) ∙ ap (λ (b : Bool). ltb x n && b) (below_is n xs)

each_append : (n : ℕ) (xs ys : List ℕ) → each_below n (xs ++ ys) ≡ (each_below n xs && each_below n ys)
each_append n [] ys = refl
each_append n (x ∷ xs) ys = ap (λ (b : Bool). ltb x n && b) (each_append n xs ys) ∙ sym (and_assoc (ltb x n) (each_below n xs) (each_below n ys))

each-reverse : (n : ℕ) (xs : List ℕ) → each_below n (reverse xs) ≡ each_below n xs
each-reverse n [] = refl
each-reverse n (x ∷ xs) =
    ap (each_below n) (reverse-cons x xs) ∙ each_append n (reverse xs) (x ∷ []) ∙ ap₂ ◌&&◌ (each-reverse n xs) (and-true (ltb x n))
    ∙ and_comm (each_below n xs) (ltb x n)

each-reversed : (n : ℕ) (tuples elements : List ℕ) → each_below n (reversed tuples elements) ≡ each_below n elements
unfolding reversed
each-reversed n [] elements = refl
each-reversed n (m ∷ tuples) elements =
    each_append n (reverse (take m elements)) (reversed tuples (drop m elements))
    ∙ ap₂ ◌&&◌ (each-reverse n (take m elements)) (each-reversed n tuples (drop m elements))
    ∙ sym (each_append n (take m elements) (drop m elements))
    ∙ ap (each_below n) (take-append-drop m elements)

module _ (rule : ℕ) where
  -- the nodes are as many, and below the same bound
  pub length_under : (tuples elements : List ℕ) → length (elements_under rule tuples elements) ≡ length elements
  unfolding elements_under
  length_under tuples elements = go (eqb rule 2)
    where
      go : (b : Bool) → length (cond b (reversed tuples elements) elements) ≡ length elements
      go true = length-reversed tuples elements
      go false = refl

  pub below_under : (n : ℕ) (tuples elements : List ℕ) → all_below n (elements_under rule tuples elements) ≡ all_below n elements
  unfolding elements_under
  below_under n tuples elements = go (eqb rule 2)
    where
      go : (b : Bool) → all_below n (cond b (reversed tuples elements) elements) ≡ all_below n elements
      go true = below_is n (reversed tuples elements) ∙ each-reversed n tuples elements ∙ sym (below_is n elements)
      go false = refl

  -- so every test is the same
  fit_under : (l : Lookups) → lookups_fit (lookups_under rule l) ≡ lookups_fit l
  unfolding lookups_fit
  fit_under l = rw (length_under l.tuples l.elements) refl

  agree_under : (n : ℕ) (l : Lookups) → lists_agree n (lookups_under rule l) ≡ lists_agree n l
  unfolding lists_agree nodes_present
  agree_under n l = rw (below_under n l.tuples l.elements) refl

  sizes_under : (m : Limits) (t : Table) → sizes m (table_under rule t) ≡ sizes m t
  unfolding sizes
  sizes_under m t = rw (fit_under t.lookups) refl

  pub ledger_under : (m : Limits) (p : ℕ) (t : Table) → has_ledger m p (table_under rule t) ≡ has_ledger m p t
  unfolding has_ledger words_below known
  ledger_under m p t = rw (sizes_under m t, agree_under (node_count t.nodes) t.lookups) refl

  pub refusal_under : (m : Limits) (p w : ℕ) (t : Table) (challenges buffer : List ℕ)
      → entry_refusal m p w (table_under rule t) challenges buffer ≡ entry_refusal m p w t challenges buffer
  unfolding entry_refusal words_below known
  refusal_under m p w t challenges buffer = rw (sizes_under m t, agree_under (node_count t.nodes) t.lookups) refl

  pub constraints_refusal_under : (m : Limits) (p w : ℕ) (t : Table) (challenges : List ℕ) (width : ℕ) (words : List ℕ) (terminal : Option (List ℕ))
      → constraints_refusal m p w (table_under rule t) challenges width words terminal ≡ constraints_refusal m p w t challenges width words terminal
  unfolding constraints_refusal words_below known
  constraints_refusal_under m p w t challenges width words terminal = rw (sizes_under m t, agree_under (node_count t.nodes) t.lookups) refl
