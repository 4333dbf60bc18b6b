-- What stands in a list that is made of lists of one length, and so in a table of powers.
use Rattle.std.specs.Prelude.{◌≡◌, List, [], ◌∷◌, ◌++◌, ℕ, ◌+◌, ◌*◌, ◌<◌, ◌≤◌, length}
use Rattle.std.proofs.Common.{ap, ◌∙◌, length-append}
use native.Mathlib.Omega.{arith}
use Rattle.std.proofs.Math.ListN.{get_or-append}
use Rattle.lists.specs.Count.{joined}
use Rattle.lists.specs.laws.Tab.{tab_cong}
use Rattle.lists.specs.laws.Joined.{joined_length, joined_at}
use Rattle.field.specs.Element.{at, power4, element}
use Rattle.field.proofs.laws.Slice.{four-words}
use Rattle.field.proofs.laws.Powers.{four-power4}
use Rattle.logup_column.specs.inner.Requires.{PowersTable}

pub element-append : (l k : List ℕ) (i : ℕ) → 4 * i + 4 ≤ length l → element (l ++ k) i ≡ element l i
unfolding element
element-append l k i h =
    λ j.
    get_or-append l k 0 (4 * i) (omega arith) j
    ∷ get_or-append l k 0 (4 * i + 1) (omega arith) j
    ∷ get_or-append l k 0 (4 * i + 2) (omega arith) j
    ∷ get_or-append l k 0 (4 * i + 3) (omega arith) j
    ∷ []

-- the powers of lookup i, in a table of the powers of n lookups
module _ (p w : ℕ) (beta : ℕ → List ℕ) (n : ℕ) where
  abbrev pub powers_table : List ℕ
  powers_table = joined (λ i. joined (power4 p w (beta i)) 0 8) 0 n

  pub row-size : (i : ℕ) → length (joined (power4 p w (beta i)) 0 8) ≡ 32
  row-size i = joined_length (power4 p w (beta i)) 4 8 (four-power4 p w (beta i))

  table_at : (i e c : ℕ) → i < n → e < 8 → c < 4 → at powers_table (4 * (8 * i + e) + c) ≡ at (power4 p w (beta i) e) c
  table_at i e c h k l =
      ap (at powers_table) q ∙ joined_at (λ i. joined (power4 p w (beta i)) 0 8) 32 n i (4 * e + c) row-size h (omega arith) ∙ joined_at (power4 p w (beta i)) 4 8 e c (four-power4 p w (beta i)) k l
    where
      q : 4 * (8 * i + e) + c ≡ 32 * i + (4 * e + c)
      q = omega arith

  pub table-element : (i e : ℕ) → i < n → e < 8 → element powers_table (8 * i + e) ≡ power4 p w (beta i) e
  unfolding element
  table-element i e h k =
      (λ j. first j ∷ table_at i e 1 h k (omega arith) j ∷ table_at i e 2 h k (omega arith) j ∷ table_at i e 3 h k (omega arith) j ∷ []) ∙ four-words (power4 p w (beta i) e) (four-power4 p w (beta i) e)
    where
      zeroth : 4 * (8 * i + e) ≡ 4 * (8 * i + e) + 0
      zeroth = omega arith

      first : at powers_table (4 * (8 * i + e)) ≡ at (power4 p w (beta i) e) 0
      first = ap (at powers_table) zeroth ∙ table_at i e 0 h k (omega arith)

-- what the rows require of the table
pub powered : {table : List ℕ} (p w : ℕ) (cs : List ℕ) (n : ℕ) (rest : List ℕ) → table ≡ powers_table p w (λ i. element cs (2 * i + 1)) n ++ rest → PowersTable p w cs table n
powered {table} p w cs n rest e =
    record {
      size = rw e (simp length-append (omega (arith, long)));
      powers =
          λ i h.
          tab_cong (λ e. element table (8 * i + e)) (power4 p w (element cs (2 * i + 1))) 8
          (λ k t.
          ap (λ (l : List ℕ). element l (8 * i + k)) e ∙ element-append (powers_table p w (λ i. element cs (2 * i + 1)) n) rest (8 * i + k) (omega (arith, long))
          ∙ table-element p w (λ i. element cs (2 * i + 1)) n i k h t);
    }
  where
    long : length (powers_table p w (λ i. element cs (2 * i + 1)) n) ≡ 32 * n
    long = joined_length (λ i. joined (power4 p w (element cs (2 * i + 1))) 0 8) 32 n (row-size p w (λ i. element cs (2 * i + 1)) n)
