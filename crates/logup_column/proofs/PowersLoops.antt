-- The turns of the loops that write and read a table of powers.
use mathlib.Core.Path.{◌≡◌, sym, ap, ◌∙◌, subst}
use mathlib.Core.List.{List, [], ◌∷◌, ◌++◌}
use Prim.Native.Nat.{ℕ, ◌+◌, ◌*◌, ◌-◌, ◌<◌, ◌≤◌, zero-le}
use native.Mathlib.Nat.{zero-add}
use native.Mathlib.Numerals.{add-one}
use native.Mathlib.Omega.{arith}
use lib.ListN.{length, set}
use borrow.Rule.Slice.PartMut.{put_mid}
use Rattle.lists.specs.Count.{joined}
use Rattle.lists.specs.Tab.{tab}
use Rattle.lists.specs.laws.Filled.{Filled, filled_none, filled-one, filled-part, filled-whole}
use Rattle.lists.specs.laws.Count.{joined-one}
use Rattle.lists.specs.laws.Tab.{tab-one}
use Rattle.field.specs.declared.extension.Ext.{Ext}
use Rattle.field.specs.Ext.{ext_words}
use Rattle.field.specs.Element.{Word4, one4, mul4, power4, element}
use Rattle.field.proofs.laws.Powers.{power4-zero, power4-suc}
use Rattle.logup_column.specs.laws.Powers.{word-one}

pub record PowersLoop (p w : ℕ) (b d out : List ℕ) (e : ℕ) (power : Ext) : Type 0 where
  pub upto : e ≤ 8
  pub size : length d ≡ 32
  pub len : length out ≡ 32
  pub word : Word4 p (ext_words power)
  pub is : ext_words power ≡ power4 p w b e
  pub out≡ : Filled d (joined (power4 p w b) 0 e) (4 * e) out

pub powers_loop_begins : {p w : ℕ} {b d : List ℕ} {power : Ext} → 1 < p → length d ≡ 32 → ext_words power ≡ one4 → PowersLoop p w b d d 0 power
unfolding joined
powers_loop_begins {p} {w} {b} h e o = record { upto = zero-le; size = e; len = e; word = subst (Word4 p) (sym o) (word-one p h); is = o ∙ sym (power4-zero p w b); out≡ = filled_none }

pub powers_loop_turn : {p w : ℕ} {b d out : List ℕ} {e : ℕ} {power next : Ext} (ys : List ℕ) → PowersLoop p w b d out e power → e < 8 → ys ≡ ext_words power
    → Word4 p (ext_words next) × (ext_words next ≡ mul4 p w (ext_words power) b) → PowersLoop p w b d (put_mid (4 * e) (4 * e + 4 - 4 * e) out ys) (e + 1) next
unfolding joined
powers_loop_turn {p} {w} {b} {d} {out} {e} {power} {next} ys s h ey (q, en) =
    record {
      upto = omega arith;
      size = s.size;
      len = grown.len ∙ s.size;
      word = q;
      is = rw (add-one e) (en ∙ ap (λ (l : List ℕ). mul4 p w l b) s.is ∙ sym (power4-suc p w b e));
      out≡ = subst (λ (n : ℕ). Filled d (joined (power4 p w b) 0 (e + 1)) n (put_mid (4 * e) (4 * e + 4 - 4 * e) out ys)) four grown;
    }
  where
    four : 4 * e + 4 ≡ 4 * (e + 1)
    four = omega arith

    grown : Filled d (joined (power4 p w b) 0 (e + 1)) (4 * e + 4) (put_mid (4 * e) (4 * e + 4 - 4 * e) out ys)
    grown =
        filled-part ys s.out≡ (omega arith) (omega (arith, s.size)) (ap length ey ∙ omega arith)
        (joined-one (power4 p w b) 0 e ∙ ap (λ (l : List ℕ). joined (power4 p w b) 0 e ++ l) (ap (power4 p w b) (zero-add e) ∙ sym s.is ∙ sym ey))

pub powers_loop_ends : {p w : ℕ} {b d out : List ℕ} {e : ℕ} {power : Ext} → PowersLoop p w b d out e power → 8 ≤ e → out ≡ joined (power4 p w b) 0 8
powers_loop_ends {p} {w} {b} {e = e} s h = let k : e ≡ 8 = omega (arith, s.upto) in filled-whole s.out≡ (omega (arith, s.size)) ∙ ap (joined (power4 p w b) 0) k

-- the eight powers of lookup i
pub record LoadLoop (table : List ℕ) (i : ℕ) (d ps : List (List ℕ)) (e : ℕ) : Type 0 where
  pub upto : e ≤ 8
  pub eight : length d ≡ 8
  pub room : 32 * i + 32 ≤ length table
  pub out≡ : Filled d (tab (λ e. element table (8 * i + e)) 0 e) e ps

pub load_loop_begins : {table : List ℕ} {i : ℕ} {d : List (List ℕ)} → length d ≡ 8 → 32 * i + 32 ≤ length table → LoadLoop table i d d 0
unfolding tab
load_loop_begins e h = record { upto = zero-le; eight = e; room = h; out≡ = filled_none }

pub load_loop_turn : {table : List ℕ} {i : ℕ} {d ps : List (List ℕ)} {e : ℕ} {a : Ext} → LoadLoop table i d ps e → e < 8 → ext_words a ≡ element table (8 * i + e)
    → LoadLoop table i d (set ps e (ext_words a)) (e + 1)
load_loop_turn {table} {i} {d} {ps} {e} {a} s h ea =
    record {
      upto = omega arith;
      eight = s.eight;
      room = s.room;
      out≡ =
          filled-one (ext_words a) [] s.out≡ (omega (arith, s.eight))
          (tab-one (λ e. element table (8 * i + e)) 0 e ∙ ap (λ (l : List ℕ). tab (λ e. element table (8 * i + e)) 0 e ++ (l ∷ [])) (ap (λ (n : ℕ). element table (8 * i + n)) (zero-add e) ∙ sym ea));
    }

pub load_loop_ends : {table : List ℕ} {i : ℕ} {d ps : List (List ℕ)} {e : ℕ} → LoadLoop table i d ps e → 8 ≤ e → ps ≡ tab (λ e. element table (8 * i + e)) 0 8
load_loop_ends {table} {i} {e = e} s h =
    let k : e ≡ 8 = omega (arith, s.upto) in filled-whole s.out≡ (omega (arith, s.eight)) ∙ ap (tab (λ e. element table (8 * i + e)) 0) k
