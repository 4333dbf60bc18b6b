-- The node values of the next row, and a verdict after a row.
use Rattle.std.specs.Prelude.{Ok, Err}
use Rattle.std.specs.Result.{is_err}
use mathlib.Core.Path.{◌≡◌, refl, sym, ap, ◌∙◌}
use mathlib.Core.List.{List, ◌++◌}
use mathlib.Core.Bool.{false, true≢false}
use mathlib.Core.Option.{Option, none, some}
use Prim.Native.Nat.{ℕ, ◌+◌, ◌-◌, ◌%◌, ◌<◌}
use native.Mathlib.Nat.{mod-eq_of_lt}
use lib.ListN.{take, replicate}
use Rattle.lists.specs.Count.{or_else}
use Rattle.expression.specs.Node.{node_count}
use Rattle.expression.specs.Window.{Traces}
use Rattle.expression.specs.Values.{row_values}
use Rattle.expression.specs.Refusal.{refusal}
use Rattle.expression.specs.declared.refusal.Refusal.{Refusal}
use Rattle.expression.specs.Refusal.{Verdict}
use Rattle.logup_column.specs.laws.Values.{vals_are}

-- the values of the row after row r, where it is not row 0 again
pub next-values : {b : List ℕ} (p : ℕ) (nodes : List ℕ) (t : Traces) (r : ℕ) → b ≡ row_values p nodes t ((r + 1) % t.shape.height) ++ replicate (1024 - node_count nodes) 0
    → r + 1 < t.shape.height → row_values p nodes t (r + 1) ≡ take (node_count nodes - 0) b
next-values p nodes t r e h = ap (row_values p nodes t) (sym (mod-eq_of_lt h)) ∙ sym (vals_are p nodes t ((r + 1) % t.shape.height) e)

-- a verdict after a row without a fault
pub nothing_refused : (v : Option Refusal) (x : Verdict) → is_err x ≡ false → v ≡ or_else v (refusal x)
nothing_refused none (Ok u) e = refl
nothing_refused none (Err f) e = absurd (true≢false e)
nothing_refused (some a) x e = refl
