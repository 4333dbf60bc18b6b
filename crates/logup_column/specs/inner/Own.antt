-- A lookup by its own parts of the table's lists: its eight words, the widths of its tuples, the nodes of its multiplicities and flags, and
-- its node list. Taken alone it is lookup 0 of these lists.
use Rattle.std.specs.Prelude.{◌≡◌, Bool, cond, List, [], ℕ, suc, ◌+◌, ◌*◌, ◌-◌, ◌<◌, ◌≤◌, ltb, length, take, drop}
use Rattle.std.proofs.Math.Option.{Option, none, some}
use Rattle.field.specs.Modulus.{Certificate}
use Rattle.field.specs.inner.Requires.{KnownPrime}
use Rattle.expression.specs.Words.{word}
use Rattle.expression.specs.Requires.{Below}
use Rattle.lookup.specs.Lookups.{Lookups, lent_lookups, lookup_words, tuple_count, tuple_start, multiplicity_start, flag_start, element_start}
use Rattle.logup.specs.Column.{Place}

-- the lists that a fraction is read from: it reads no name
abbrev pub lists : List ℕ → List ℕ → List ℕ → List ℕ → List ℕ → Lookups
lists lookups tuples multiplicities flags elements =
    lent_lookups lookups [] tuples multiplicities flags elements

-- the lookup with these parts, on a row with these values
abbrev pub own_place : List ℕ → List ℕ → List ℕ → List ℕ → List ℕ → List ℕ → List ℕ → List ℕ → Place
own_place own widths multiplicities flags nodes vals alpha beta =
    record { lookups = lists own widths multiplicities flags nodes; vals = vals; lookup = 0; alpha = alpha; beta = beta }

-- p, w and the values on a row, as they must be
pub record FieldValues (p w : ℕ) (vals : List ℕ) : Type 0 where
  pub modulus : KnownPrime p
  pub low : w < p
  pub certificate : Certificate p w
  pub below : Below p vals

-- the parts, as they must be
pub record Fits (own widths multiplicities nodes : List ℕ) : Type 0 where
  pub words : length own ≡ lookup_words
  pub tuples : length widths ≡ tuple_count own 0
  pub mults : length multiplicities ≡ tuple_count own 0
  pub elements : element_start widths (tuple_count own 0) ≤ length nodes
  pub narrow : (k : ℕ) → word widths k ≤ 8

-- a branch by a number: 0 for none
abbrev pub branch_code : Option ℕ → ℕ
branch_code none = 0
branch_code (some k) = suc k

-- 13, 14, 15 or 0
abbrev pub faults : Bool → ℕ → Bool → ℕ
faults over ones nil = cond over 13 (cond (ltb 1 ones) 14 (cond nil 15 0))

-- the slice of a list from a to e
abbrev pub slice : List ℕ → ℕ → ℕ → List ℕ
slice l a e = take (e - a) (drop a l)

-- the own parts of lookup i of a table
module _ (l : Lookups) (i : ℕ) where
  abbrev pub own_words : List ℕ
  own_words = slice l.lookups (lookup_words * i) (lookup_words * i + lookup_words)

  abbrev pub own_widths : List ℕ
  own_widths = slice l.tuples (tuple_start l.lookups i) (tuple_start l.lookups (i + 1))

  abbrev pub own_multiplicities : List ℕ
  own_multiplicities = slice l.multiplicities (multiplicity_start l.lookups i) (multiplicity_start l.lookups (i + 1))

  abbrev pub own_flags : List ℕ
  own_flags = slice l.flags (flag_start l.lookups i) (flag_start l.lookups (i + 1))

  abbrev pub own_nodes : List ℕ
  own_nodes = slice l.elements (element_start l.tuples (tuple_start l.lookups i)) (element_start l.tuples (tuple_start l.lookups (i + 1)))

  abbrev pub parted : Lookups
  parted = lists own_words own_widths own_multiplicities own_flags own_nodes
