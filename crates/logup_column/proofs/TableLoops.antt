-- The turns of the loop over the lookups of a table of powers.
use mathlib.Core.Path.{◌≡◌, refl, sym, ap, ◌∙◌, subst}
use mathlib.Core.List.{List, ◌++◌}
use Prim.Native.Nat.{ℕ, ◌+◌, ◌*◌, ◌-◌, ◌<◌, ◌≤◌, zero-le}
use native.Mathlib.Nat.{zero-add}
use native.Mathlib.Omega.{arith}
use lib.ListN.{length, take, drop}
use borrow.Rule.Slice.PartMut.{put_mid}
use Rattle.lists.specs.Count.{joined}
use Rattle.lists.specs.laws.Count.{joined-one}
use Rattle.lists.specs.laws.Filled.{Filled, filled_none, filled-part}
use Rattle.lists.specs.laws.Parts.{part_length}
use Rattle.field.specs.declared.extension.Ext.{Ext}
use Rattle.field.specs.Ext.{ext_words}
use Rattle.field.specs.Element.{power4, element}
use Rattle.logup_column.specs.laws.Table.{row-size}

-- the powers of the first i lookups' betas
pub record TableLoop (p w : ℕ) (cs : List ℕ) (n : ℕ) (d table : List ℕ) (i : ℕ) : Type 0 where
  pub cap : 4 * length d < 18446744073709551616
  pub cap_c : 4 * length cs < 18446744073709551616
  pub within : i ≤ n
  pub enough : 8 * n ≤ length cs
  pub room : 32 * n ≤ length d
  pub len : length table ≡ length d
  pub out≡ : Filled d (joined (λ i. joined (power4 p w (element cs (2 * i + 1))) 0 8) 0 i) (32 * i) table

pub table_loop_begins : {p w : ℕ} {cs d : List ℕ} {n : ℕ} → 4 * length d < 18446744073709551616 → 4 * length cs < 18446744073709551616 → 8 * n ≤ length cs → 32 * n ≤ length d → TableLoop p w cs n d d 0
unfolding joined
table_loop_begins c k e r = record { cap = c; cap_c = k; within = zero-le; enough = e; room = r; len = refl; out≡ = filled_none }

pub table_loop_part : {p w : ℕ} {cs : List ℕ} {n : ℕ} {d table : List ℕ} {i : ℕ} → TableLoop p w cs n d table i → i < n → length (take (32 * i + 32 - 32 * i) (drop (32 * i) table)) ≡ 32
table_loop_part {table = table} {i} s h = part_length table (32 * i) (32 * i + 32) (omega arith) (omega (arith, s.len, s.room)) ∙ omega arith

pub table_loop_turn : {p w : ℕ} {cs : List ℕ} {n : ℕ} {d table : List ℕ} {i : ℕ} {beta : Ext} (ys : List ℕ) → TableLoop p w cs n d table i → i < n → ext_words beta ≡ element cs (2 * i + 1)
    → ys ≡ joined (power4 p w (ext_words beta)) 0 8 → TableLoop p w cs n d (put_mid (32 * i) (32 * i + 32 - 32 * i) table ys) (i + 1)
table_loop_turn {p} {w} {cs} {n} {d} {table} {i} {beta} ys s h eb ey =
    record {
      cap = s.cap;
      cap_c = s.cap_c;
      within = omega arith;
      enough = s.enough;
      room = s.room;
      len = grown.len;
      out≡ = subst (λ (n : ℕ). Filled d (joined (λ i. joined (power4 p w (element cs (2 * i + 1))) 0 8) 0 (i + 1)) n (put_mid (32 * i) (32 * i + 32 - 32 * i) table ys)) next grown;
    }
  where
    next : 32 * i + 32 ≡ 32 * (i + 1)
    next = omega arith

    is : ys ≡ joined (power4 p w (element cs (2 * i + 1))) 0 8
    is = ey ∙ ap (λ (b : List ℕ). joined (power4 p w b) 0 8) eb

    grown : Filled d (joined (λ i. joined (power4 p w (element cs (2 * i + 1))) 0 8) 0 (i + 1)) (32 * i + 32) (put_mid (32 * i) (32 * i + 32 - 32 * i) table ys)
    grown =
        filled-part ys s.out≡ (omega arith) (omega (arith, s.room)) (ap length is ∙ row-size p w (λ i. element cs (2 * i + 1)) n i ∙ omega arith)
        (joined-one (λ i. joined (power4 p w (element cs (2 * i + 1))) 0 8) 0 i
        ∙ ap (λ (y : List ℕ). joined (λ i. joined (power4 p w (element cs (2 * i + 1))) 0 8) 0 i ++ y) (ap (λ (i : ℕ). joined (power4 p w (element cs (2 * i + 1))) 0 8) (zero-add i) ∙ sym is))

pub table_loop_ends : {p w : ℕ} {cs : List ℕ} {n : ℕ} {d table : List ℕ} {i : ℕ} → TableLoop p w cs n d table i → n ≤ i
    → table ≡ joined (λ i. joined (power4 p w (element cs (2 * i + 1))) 0 8) 0 n ++ drop (32 * n) d
table_loop_ends {p} {w} {cs} {n} {d} {i = i} s h =
    let e : i ≡ n = omega (arith, s.within) in s.out≡.is ∙ ap (λ (k : ℕ). joined (λ i. joined (power4 p w (element cs (2 * i + 1))) 0 8) 0 k ++ drop (32 * k) d) e
