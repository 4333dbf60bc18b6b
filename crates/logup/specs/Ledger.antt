-- The ledger of a table, and the sets of challenges at which two tables are compared. SPECIFICATION, sections 9.1 and 9.2.
use Rattle.std.specs.Prelude.{ℕ, ◌<◌, ◌≡◌, Bool, false, cond, ◌||◌, eqb, length}
use Rattle.std.proofs.Math.Option.{none}
use mathlib.Core.List.{List, [], ◌∷◌, ◌++◌, Memᴰ}
use Rattle.lists.specs.Same.{same_list}
use Rattle.lists.specs.Count.{joined}
use Rattle.lists.specs.Fold.{fold}
use Rattle.field.specs.Word.{add_m, mul_m}
use Rattle.field.specs.Element.{Word4}
use Rattle.expression.specs.Words.{word}
use Rattle.expression.specs.Refusal.{nothing_refused}
use Rattle.expression.specs.Values.{row_values}
use Rattle.expression.specs.declared.sizes.Limits.{Limits}
use Rattle.lookup.specs.Lookups.{Lookups, lookup_count, exclusive, tuple_count, multiplicity_node, flag_node}
use Rattle.lookup.specs.Table.{Table}
use Rattle.logup.specs.Tuple.{tuple}
use Rattle.logup.specs.Refusals.{table_alone, logup_refusal}

-- "where generation finds none of refusals 1 to 5 and 9 in it": its own chain of tests, with nothing besides the table and nothing later
unfoldable pub has_ledger : Limits → ℕ → Table → Bool
has_ledger m p t = nothing_refused (logup_refusal m p t table_alone none)

-- a tuple, and how often it is counted
pub record Entry : Type 0 where
  pub tuple : List ℕ
  pub count : ℕ

module _ (p : ℕ) (l : Lookups) where
  -- "its multiplicity there, times its flag in an exclusive lookup"
  unfoldable pub count : List ℕ → ℕ → ℕ → ℕ
  count vals i k =
      cond (exclusive l.lookups i) (mul_m p (word vals (multiplicity_node l i k)) (word vals (flag_node l i k))) (word vals (multiplicity_node l i k))

  -- "the tuple's words on that row are the list"
  abbrev pub entry : List ℕ → ℕ → ℕ → Entry
  entry vals i k = record { tuple = tuple l vals i k; count = count vals i k }

  unfoldable pub lookup_entries : List ℕ → ℕ → List Entry
  lookup_entries vals i = joined (λ k. entry vals i k ∷ []) 0 (tuple_count l.lookups i)

  unfoldable pub row_entries : List ℕ → List Entry
  row_entries vals = joined (lookup_entries vals) 0 (lookup_count l.lookups)

-- "For every row, lookup and tuple"
unfoldable pub entries : ℕ → Table → List Entry
entries p t = joined (λ r. row_entries p t.lookups (row_values p t.nodes t.traces r)) 0 t.traces.shape.height

-- "is added to that list's word, modulo p"
unfoldable pub post : ℕ → (List ℕ → ℕ) → Entry → List ℕ → ℕ
post p words e l = cond (same_list e.tuple l) (add_m p (words l) e.count) (words l)

-- "a word for each list of field words, 0 at the start"; "What stands at the end is the ledger."
unfoldable pub ledger : ℕ → Table → List ℕ → ℕ
ledger p t = fold (post p) (λ l. 0) (entries p t)

unfoldable pub listed : List ℕ → List (List ℕ) → Bool
listed l [] = false
listed l (a ∷ seen) = same_list l a || listed l seen

-- the lists that get a nonzero count at least once, each once
unfoldable pub met : List Entry → List (List ℕ)
met [] = []
met (e ∷ es) = cond (eqb e.count 0 || listed e.tuple (met es)) (met es) (e.tuple ∷ met es)

-- "the number of different tuples that get a nonzero count at least once, in either table"
unfoldable pub tuples_met : ℕ → Table → Table → ℕ
tuples_met p t₁ t₂ = length (met (entries p t₁ ++ entries p t₂))

-- four words below p
pub record Element (p : ℕ) (l : List ℕ) : Type 0 where
  pub four : length l ≡ 4
  pub below : Word4 p l

-- a list of w words below p
pub record Listed (p w : ℕ) (l : List ℕ) : Type 0 where
  pub width : length l ≡ w
  pub below : (a : ℕ) → Memᴰ a l → a < p

-- "gets this alpha and beta for every lookup"
unfoldable pub at_pair : Table → List ℕ → List ℕ → List ℕ
at_pair t alpha beta = joined (λ i. alpha ++ beta) 0 (lookup_count t.lookups.lookups)
