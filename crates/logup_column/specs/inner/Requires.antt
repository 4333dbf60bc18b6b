-- What the rows of generation and of the constraints are computed from, as the tests of the entry point leave it.
use Rattle.std.specs.Prelude.{◌≡◌, List, ℕ, ◌+◌, ◌*◌, ◌<◌, ◌≤◌, length}
use Rattle.lists.specs.Tab.{tab}
use Rattle.field.specs.Modulus.{Certificate}
use Rattle.field.specs.inner.Requires.{KnownPrime}
use Rattle.field.specs.Element.{power4, element}
use Rattle.expression.specs.Words.{word}
use Rattle.expression.specs.Requires.{Below}
use Rattle.expression.specs.Window.{lent_traces}
use Rattle.expression.specs.Values.{row_values}
use Rattle.expression.specs.declared.sizes.Shape.{Shape}
use Rattle.lookup.specs.Lookups.{Lookups, lent_lookups, lookup_count, tuple_start, multiplicity_start, flag_start, element_start}
use Rattle.lookup.specs.Requires.{Fitting, Agreeing}
use Rattle.logup_column.specs.declared.starts.Starts.{Starts}

-- the values of the nodes on each row of lent traces
abbrev pub lent_values : ℕ → Shape → List ℕ → List ℕ → List ℕ → List ℕ → ℕ → List ℕ
lent_values p shape main preprocessed public_values nodes = row_values p nodes (lent_traces shape main preprocessed public_values)

-- the lookups' lists, which fit with some names
pub record LookupLists (lookups tuples multiplicities flags elements : List ℕ) : Type 0 where
  pub names : List ℕ
  pub nodes : ℕ
  pub fitting : Fitting (lent_lookups lookups names tuples multiplicities flags elements)
  pub agreeing : Agreeing nodes (lent_lookups lookups names tuples multiplicities flags elements)
  pub narrow : (j : ℕ) → word tuples j ≤ 8

-- the lists of these lookups
abbrev pub Listed : Lookups → Type 0
Listed l = LookupLists l.lookups l.tuples l.multiplicities l.flags l.elements

-- a table of the powers of the first n lookups' betas
pub record PowersTable (p w : ℕ) (challenges table : List ℕ) (n : ℕ) : Type 0 where
  pub size : 32 * n ≤ length table
  pub powers : (i : ℕ) → i < n → tab (λ e. element table (8 * i + e)) 0 8 ≡ tab (power4 p w (element challenges (2 * i + 1))) 0 8

pub record Field (p w : ℕ) : Type 0 where
  pub modulus : KnownPrime p
  pub low : w < p
  pub certificate : Certificate p w

-- what the column of each lookup is computed from: the lookups, the challenges, and the table of beta's powers
pub record ColumnInputs (p w : ℕ) (l : Lookups) (challenges table : List ℕ) : Type 0 where
  pub field : Field p w
  pub lists : Listed l
  pub below : Below p challenges
  pub enough : 8 * lookup_count l.lookups ≤ length challenges
  pub powered : PowersTable p w challenges table (lookup_count l.lookups)

-- where lookup i's parts begin
pub record StartsOf (lookups tuples : List ℕ) (i : ℕ) (at : Starts) : Type 0 where
  pub tuple≡ : at.tuple ≡ tuple_start lookups i
  pub multiplicity≡ : at.multiplicity ≡ multiplicity_start lookups i
  pub flag≡ : at.flag ≡ flag_start lookups i
  pub element≡ : at.element ≡ element_start tuples (tuple_start lookups i)

-- the parts from `at` to `end` lie within the lists
pub record StartsWithin (tuples multiplicities flags elements : List ℕ) (at end : Starts) : Type 0 where
  pub tuple_le : at.tuple ≤ end.tuple
  pub tuple_in : end.tuple ≤ length tuples
  pub multiplicity_le : at.multiplicity ≤ end.multiplicity
  pub multiplicity_in : end.multiplicity ≤ length multiplicities
  pub flag_le : at.flag ≤ end.flag
  pub flag_in : end.flag ≤ length flags
  pub element_le : at.element ≤ end.element
  pub element_in : end.element ≤ length elements

-- the parts of lookup i begin at `at` and end, where those of the next begin, at `end`, within the lists
pub record PartsOf (l : Lookups) (i : ℕ) (at end : Starts) : Type 0 where
  pub counted : i < lookup_count l.lookups
  pub begins : StartsOf l.lookups l.tuples i at
  pub ends : StartsOf l.lookups l.tuples (i + 1) end
  pub within : StartsWithin l.tuples l.multiplicities l.flags l.elements at end
