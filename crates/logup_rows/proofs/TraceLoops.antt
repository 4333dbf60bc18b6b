-- The turns of the loops over blocks and over parts.
use Rattle.std.specs.Prelude.{Ok}
use mathlib.Core.Path.{◌≡◌, refl, sym, ap, ap₂, ◌∙◌, subst}
use mathlib.Core.List.{List, ◌++◌}
use Prim.Native.Nat.{ℕ, ◌+◌, ◌*◌, ◌-◌, ◌<◌, ◌≤◌, zero-le}
use native.Mathlib.Nat.{add-zero, zero-add, mul-le-mul_right, zero-mul, mul_comm}
use native.Mathlib.Omega.{arith}
use lib.ListN.{length, take, drop}
use borrow.Rule.Slice.PartMut.{put_mid}
use Rattle.lists.specs.Count.{first, joined}
use Rattle.lists.specs.laws.Count.{joined-add}
use Rattle.lists.specs.laws.Filled.{Filled, filled_none, filled-part, filled-whole}
use Rattle.lists.specs.laws.Parts.{part_length}
use Rattle.field.specs.Element.{sum4}
use Rattle.lookup.specs.Lookups.{Lookups, lookup_count}
use Rattle.logup.specs.Rows.{accumulator, row_words, trace, used}
use Rattle.logup_column.specs.laws.Powers.{word-zero}
use Rattle.lists.specs.laws.Joined.{joined_length}
use Rattle.logup_rows.specs.laws.Lengths.{row-length}
use Rattle.logup_rows.specs.inner.Progress.{Reached}
use Rattle.logup_rows.specs.declared.block.Progress.{Progress}
use Rattle.logup_rows.specs.laws.Terms.{shifted}

-- r rows from row `from` on
pub record RowsLoop (p w : ℕ) (l : Lookups) (cs : List ℕ) (values : ℕ → List ℕ) (wd from height : ℕ) (d out : List ℕ) (progress : Progress) (at r : ℕ) : Type 0 where
  pub cap : 4 * length d < 18446744073709551616
  pub low : from + height ≤ 1048576
  pub wide : wd ≡ 4 * lookup_count l.lookups + 4
  pub within : r ≤ height
  pub at≡ : at ≡ r * wd
  pub room : height * wd ≤ length d
  pub len : length out ≡ length d
  pub out≡ : Filled d (joined (row_words p w l cs values) from r) at out
  pub reached : Reached p w l cs values (from + r) progress

used_is : (lookups : List ℕ) (height : ℕ) → height * (4 * lookup_count lookups + 4) ≡ used lookups height
unfolding used
used_is lookups height = omega arith

pub rows_loop_begins : {p w : ℕ} {l : Lookups} {cs : List ℕ} {values : ℕ → List ℕ} {wd from height : ℕ} {d : List ℕ} {progress : Progress}
    → 4 * length d < 18446744073709551616 → from + height ≤ 1048576 → wd ≡ 4 * lookup_count l.lookups + 4 → height * (4 * lookup_count l.lookups + 4) ≤ length d
    → Reached p w l cs values from progress → RowsLoop p w l cs values wd from height d d progress 0 0
unfolding joined
rows_loop_begins {p} {w} {l} {cs} {values} {wd} {from} {height} {d} {progress} c lo ew er q =
    record {
      cap = c;
      low = lo;
      wide = ew;
      within = zero-le;
      at≡ = sym (zero-mul wd);
      room = subst (λ (x : ℕ). height * x ≤ length d) (sym ew) er;
      len = refl;
      out≡ = filled_none;
      reached = subst (λ (x : ℕ). Reached p w l cs values x progress) (sym (add-zero from)) q;
    }

-- before all rows: the accumulator is 0, and there is no fault
pub starts_at_zero : {p w : ℕ} {l : Lookups} {cs : List ℕ} {values : ℕ → List ℕ} {wd height : ℕ} {d : List ℕ}
    → 4 * length d < 18446744073709551616 → height ≤ 1048576 → wd ≡ 4 * lookup_count l.lookups + 4 → used l.lookups height ≤ length d → 1 < p
    → RowsLoop p w l cs values wd 0 height d d (record { accumulator = record { c0 = 0; c1 = 0; c2 = 0; c3 = 0 }; verdict = Ok tt }) 0 0
unfolding first sum4 accumulator
starts_at_zero {p} {l = l} {height = height} {d = d} c lo ew er big =
    rows_loop_begins c (omega arith) ew (subst (λ (x : ℕ). x ≤ length d) (sym (used_is l.lookups height)) er) (record { below = word-zero p big; accumulator≡ = refl; verdict≡ = refl })

run_length : (p w : ℕ) (l : Lookups) (cs : List ℕ) (values : ℕ → List ℕ) (from n wd : ℕ) → wd ≡ 4 * lookup_count l.lookups + 4 → length (joined (row_words p w l cs values) from n) ≡ n * wd
run_length p w l cs values from n wd e =
    ap length (shifted (row_words p w l cs values) from n) ∙ joined_length (λ j. row_words p w l cs values (from + j)) wd n (λ j. row-length p w l cs values (from + j) ∙ sym e) ∙ mul_comm wd n

module _ {p w : ℕ} {l : Lookups} {cs : List ℕ} {values : ℕ → List ℕ} {wd from height : ℕ} {d out : List ℕ} {progress : Progress} {at r : ℕ}
    (n : ℕ) (s : RowsLoop p w l cs values wd from height d out progress at r) (le : r + n ≤ height) where
  words_in : at + n * wd ≤ length d
  words_in = omega (arith, mul-le-mul_right wd le, s.at≡, s.room)

  pub rows_loop_in : at + n * wd ≤ length out
  rows_loop_in = omega (arith, words_in, s.len)

  pub rows_loop_part : length (take (at + n * wd - at) (drop at out)) ≡ n * (4 * lookup_count l.lookups + 4)
  rows_loop_part = part_length out at (at + n * wd) (omega arith) rows_loop_in ∙ less_at ∙ ap (λ (x : ℕ). n * x) s.wide
    where
      less_at : at + n * wd - at ≡ n * wd
      less_at = omega arith

  -- `a` is where the run starts
  pub rows_loop_turn : (a : ℕ) (next : Progress) (ys : List ℕ) → a ≡ from + r
      → Reached p w l cs values (a + n) next × (ys ≡ joined (row_words p w l cs values) a n)
      → RowsLoop p w l cs values wd from height d (put_mid at (at + n * wd - at) out ys) next (at + n * wd) (r + n)
  rows_loop_turn a next ys ea (q, ey) =
      record {
        cap = s.cap;
        low = s.low;
        wide = s.wide;
        within = le;
        at≡ = omega (arith, s.at≡);
        room = s.room;
        len = grown.len;
        out≡ = grown;
        reached = subst (λ (x : ℕ). Reached p w l cs values x next) after q;
      }
    where
      after : a + n ≡ from + (r + n)
      after = omega arith

      grown : Filled d (joined (row_words p w l cs values) from (r + n)) (at + n * wd) (put_mid at (at + n * wd - at) out ys)
      grown =
          filled-part ys s.out≡ (omega arith) words_in (ap length ey ∙ run_length p w l cs values a n wd s.wide ∙ omega arith)
          (joined-add (row_words p w l cs values) from r n
          ∙ ap (λ (x : List ℕ). joined (row_words p w l cs values) from r ++ x) (ap (λ (a : ℕ). joined (row_words p w l cs values) a n) (sym ea) ∙ sym ey))

-- after r of all rows
pub rows_loop_now : {p w : ℕ} {l : Lookups} {cs : List ℕ} {values : ℕ → List ℕ} {wd height : ℕ} {d out : List ℕ} {progress : Progress} {at r : ℕ} → RowsLoop p w l cs values wd 0 height d out progress at r
    → Reached p w l cs values r progress
rows_loop_now {p} {w} {l} {cs} {values} {progress = progress} {r = r} s = subst (λ (x : ℕ). Reached p w l cs values x progress) (zero-add r) s.reached

-- the rows of a part
pub part-ends : {p w : ℕ} {l : Lookups} {cs : List ℕ} {values : ℕ → List ℕ} {wd from k : ℕ} {d out : List ℕ} {progress : Progress} {at r : ℕ}
    → RowsLoop p w l cs values wd from k d out progress at r → k ≤ r → length d ≡ k * (4 * lookup_count l.lookups + 4)
    → Reached p w l cs values (from + k) progress × (out ≡ joined (row_words p w l cs values) from k)
part-ends {p} {w} {l} {cs} {values} {wd} {from} {k} {d} {progress = progress} {at = at} {r = r} s h ed =
    let e : r ≡ k = omega (arith, s.within) in
    let a : length d ≡ at = ed ∙ ap₂ ◌*◌ (sym e) (sym s.wide) ∙ sym s.at≡ in (
      subst (λ (x : ℕ). Reached p w l cs values (from + x) progress) e s.reached,
      filled-whole s.out≡ (omega (arith, a)) ∙ ap (joined (row_words p w l cs values) from) e,
    )

-- all rows
pub rows_loop_ends : {p w : ℕ} {l : Lookups} {cs : List ℕ} {values : ℕ → List ℕ} {wd height : ℕ} {d out : List ℕ} {progress : Progress} {at r : ℕ}
    → RowsLoop p w l cs values wd 0 height d out progress at r → height ≤ r
    → Reached p w l cs values height progress × (out ≡ trace p w l cs values height ++ drop (used l.lookups height) d)
unfolding trace
rows_loop_ends {p} {w} {l} {cs} {values} {wd} {height} {d} {progress = progress} {at = at} {r = r} s h =
    let e : r ≡ height = omega (arith, s.within) in
    let z : 0 + r ≡ height = zero-add r ∙ e in
    let a : at ≡ used l.lookups height = s.at≡ ∙ ap₂ ◌*◌ e s.wide ∙ used_is l.lookups height in (
      subst (λ (x : ℕ). Reached p w l cs values x progress) z s.reached,
      s.out≡.is ∙ ap₂ (λ (x y : ℕ). joined (row_words p w l cs values) 0 x ++ drop y d) e a,
    )

-- a block has at most 256 tuples
pub block_few : (n b t : ℕ) → n ≤ b → b * t ≤ 256 → n * t ≤ 256
block_few n b t h k = omega (arith, mul-le-mul_right t h)
