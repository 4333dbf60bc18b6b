-- The turns of the loops over the flags and to a tuple's nodes.
use mathlib.Core.Path.{◌≡◌, refl, sym, ap, ap₂, ◌∙◌}
use mathlib.Core.Bool.{Bool, true, false, cond, ◌||◌}
use mathlib.Core.Option.{Option, some}
use mathlib.Core.List.{List}
use Prim.Native.Nat.{ℕ, ◌+◌, ◌<◌, ◌≤◌, zero-le}
use native.Mathlib.Numerals.{add-one}
use native.Mathlib.Omega.{arith}
use lib.Dec.{eqb, ltb}
use lib.ListN.{length}
use mir.Val.{bool_byte}
use Rattle.lists.specs.Count.{some_of, total}
use Rattle.lists.specs.laws.Count.{total-le, eqb_true, eqb_false}
use Rattle.expression.specs.Words.{word}
use Rattle.expression.specs.Values.{bit}
use Rattle.lookup.specs.Lookups.{element_start}
use Rattle.logup.specs.Column.{chosen}
use Rattle.std.specs.Prelude as Std
use Rattle.std.specs.Prelude.{◌≢◌, Some, None}
use Rattle.logup_column.specs.inner.Own.{branch_code}
use Rattle.logup_column.specs.inner.Kinds.{chosen_number}
use Rattle.logup_column.specs.inner.Results.{FlagsRead}
use Rattle.logup_column.specs.laws.Own.{start-next}

-- the first k flags
pub record FlagsLoop (flags vals : List ℕ) (n : ℕ) (over : Bool) (ones : ℕ) (ch : Std.Option ℕ) (k : ℕ) : Type 0 where
  pub within : k ≤ n
  pub room : n ≤ length flags
  pub few : ones ≤ k
  pub over≡ : over ≡ some_of (λ k. ltb 1 (word vals (word flags k))) k
  pub ones≡ : ones ≡ total (λ k. bit (eqb (word vals (word flags k)) 1)) k
  pub chosen≡ : chosen_number ch ≡ branch_code (chosen (λ k. word vals (word flags k)) k)

pub flags_loop_begins : {flags vals : List ℕ} {n : ℕ} {over : Bool} → over ≡ false → n ≤ length flags → FlagsLoop flags vals n over 0 None 0
unfolding some_of total chosen
flags_loop_begins e h = record { within = zero-le; room = h; few = zero-le; over≡ = e; ones≡ = refl; chosen≡ = refl }

code_cond : (b : Bool) (k : ℕ) (ch : Std.Option ℕ) (o : Option ℕ) → chosen_number ch ≡ branch_code o → chosen_number (cond b (Some k) ch) ≡ branch_code (cond b (some k) o)
code_cond true k ch o e = refl
code_cond false k ch o e = e

-- a flag as a number
pub bit_of : (b : Bool) → bool_byte b ≡ bit b
bit_of true = refl
bit_of false = refl

-- what a flag that is 1, and another, makes of the choice
pub taken : {f : ℕ} {ch' : Std.Option ℕ} (k : ℕ) (ch : Std.Option ℕ) → f ≡ 1 → ch' ≡ Some k → ch' ≡ cond (eqb f 1) (Some k) ch
taken k ch e r = rw (eqb_true e) r

pub kept : {f : ℕ} {ch' : Std.Option ℕ} (k : ℕ) (ch : Std.Option ℕ) → f ≢ 1 → ch' ≡ ch → ch' ≡ cond (eqb f 1) (Some k) ch
kept k ch n r = rw (eqb_false n) r

pub flags_loop_turn : {flags vals : List ℕ} {n f : ℕ} {over over' : Bool} {ones x k : ℕ} {ch ch' : Std.Option ℕ} → FlagsLoop flags vals n over ones ch k → k < n → f ≡ word vals (word flags k)
    → over' ≡ (over || ltb 1 f) → x ≡ bit (eqb f 1) → ch' ≡ cond (eqb f 1) (Some k) ch → FlagsLoop flags vals n over' (ones + x) ch' (k + 1)
unfolding some_of total chosen
flags_loop_turn {flags} {vals} {n} {f} {over} {over'} {ones} {x} {k} {ch} {ch'} s h e eo ex ec =
    record {
      within = omega arith;
      room = s.room;
      few = few_more (eqb f 1) ex;
      over≡ = rw (add-one k) (eo ∙ ap₂ ◌||◌ s.over≡ (ap (ltb 1) e));
      ones≡ = rw (add-one k) (ap₂ ◌+◌ s.ones≡ (ex ∙ ap (λ (n : ℕ). bit (eqb n 1)) e));
      chosen≡ = rw (add-one k) (ap chosen_number (ec ∙ ap (λ (f : ℕ). cond (eqb f 1) (Some k) ch) e) ∙ code_cond (eqb (word vals (word flags k)) 1) k ch (chosen (λ k. word vals (word flags k)) k) s.chosen≡);
    }
  where
    few_more : (b : Bool) → x ≡ bit b → ones + x ≤ k + 1
    few_more true e = omega (arith, s.few)
    few_more false e = omega (arith, s.few)

pub flags_loop_ends : {flags vals : List ℕ} {n : ℕ} {over : Bool} {ones : ℕ} {ch : Std.Option ℕ} {k : ℕ} → FlagsLoop flags vals n over ones ch k → n ≤ k
    → FlagsRead (λ k. word vals (word flags k)) n (record { over = over; ones = ones; chosen = ch })
flags_loop_ends {flags} {vals} {n} {k = k} s h =
    let e : k ≡ n = omega (arith, s.within) in
    record { over≡ = s.over≡ ∙ ap (some_of _) e; ones≡ = s.ones≡ ∙ ap (total _) e; chosen≡ = s.chosen≡ ∙ ap (λ (k : ℕ). branch_code (chosen (λ k. word vals (word flags k)) k)) e }

-- to the nodes of tuple k
pub record StartLoop (widths nodes : List ℕ) (k at j : ℕ) : Type 0 where
  pub within : j ≤ k
  pub enough : k ≤ length widths
  pub last_in : element_start widths k ≤ length nodes
  pub at≡ : at ≡ element_start widths j

pub start_loop_begins : {widths nodes : List ℕ} {k at j : ℕ} → j ≤ k → k ≤ length widths → element_start widths k ≤ length nodes → at ≡ element_start widths j → StartLoop widths nodes k at j
start_loop_begins l h g e = record { within = l; enough = h; last_in = g; at≡ = e }

pub start_loop_turn : {widths nodes : List ℕ} {k at j r : ℕ} → StartLoop widths nodes k at j → j < k → r ≡ word widths j → StartLoop widths nodes k (at + r) (j + 1)
start_loop_turn {widths} {j = j} s h e = record { within = omega arith; enough = s.enough; last_in = s.last_in; at≡ = ap₂ ◌+◌ s.at≡ e ∙ sym (start-next widths j) }

pub start_loop_in : {widths nodes : List ℕ} {k at j r : ℕ} → StartLoop widths nodes k at j → j < k → r ≡ word widths j → at + r ≤ length nodes
unfolding element_start
start_loop_in {widths} {k = k} {j = j} s h e = omega (arith, s.last_in, s.at≡, start-next widths j, total-le (word widths) (j + 1) k (omega arith))

pub start_loop_ends : {widths nodes : List ℕ} {k at j : ℕ} → StartLoop widths nodes k at j → k ≤ j → at ≡ element_start widths k
start_loop_ends {widths} {k = k} {j = j} s h = let e : j ≡ k = omega (arith, s.within) in s.at≡ ∙ ap (element_start widths) e
