-- Refusals 1 to 5 and 9 of several tables as the code finds them: of each table its first, and of these the one with the lowest number.
use Rattle.std.specs.Prelude.{ℕ, zero, suc, cond, leb}
use Rattle.std.proofs.Math.Option.{Option, none, some}
use Rattle.lists.specs.Count.{or_else}
use Rattle.expression.specs.Refusal.{number, unless}
use Rattle.expression.specs.declared.sizes.Limits.{Limits}
use Rattle.expression.specs.declared.refusal.Refusal.{Refusal}
use Rattle.expression.specs.declared.refusal.Refusal.TheVariants.{RowsMissing}
use Rattle.lookup.specs.Table.{Table}
use Rattle.lookup.specs.Refusals.{table_refusal}
use Rattle.balance.specs.Refusals.{covered}

-- no refusal comes after all of them: a refusal's number has 32 bits
abbrev pub rank : Option Refusal → ℕ
rank none = 4294967296
rank (some f) = number f

-- of two the one with the lower number
abbrev pub lower : Option Refusal → Option Refusal → Option Refusal
lower a b = cond (leb (rank a) (rank b)) a b

unfoldable pub lowest : (ℕ → Option Refusal) → ℕ → Option Refusal
lowest f zero = none
lowest f (suc n) = lower (lowest f n) (f n)

-- the first that one table has
unfoldable pub one_refusal : Limits → ℕ → Table → Option Refusal
one_refusal m p t = or_else (table_refusal m p t) (unless (covered t) RowsMissing none)
