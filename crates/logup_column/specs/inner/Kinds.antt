-- What the types of the code stand for in the definitions.
use Rattle.std.specs.Prelude.{Bool, true, false, ℕ, suc, Option, None, Some, Result, Ok, Err}
use Rattle.logup_column.specs.declared.column.Kind.{Kind}
use Rattle.logup_column.specs.declared.column.Kind.TheVariants.{Additive, Exclusive}
use Rattle.logup_column.specs.declared.column.Fault.{Fault}
use Rattle.logup_column.specs.declared.column.Fault.TheVariants.{FlagNotBinary, TwoFlags, DenominatorZero}

-- the number of the branch chosen plus 1; 0 for none
abbrev pub chosen_number : Option ℕ → ℕ
chosen_number None = 0
chosen_number (Some k) = suc k

abbrev pub is_exclusive : Kind → Bool
is_exclusive Additive = false
is_exclusive (Exclusive branch) = true

abbrev pub branch_of : Kind → ℕ
branch_of Additive = 0
branch_of (Exclusive branch) = chosen_number branch

-- 13, 14, 15, or 0 where there is none
abbrev pub fault_number : Result (Unit {0}) Fault → ℕ
fault_number (Ok u) = 0
fault_number (Err FlagNotBinary) = 13
fault_number (Err TwoFlags) = 14
fault_number (Err DenominatorZero) = 15
