use Rattle.std.proofs.Common.{ℕ, zero, suc, ◌-◌, ◌<◌, ◌≤◌, ℤ, pos, negsuc, ◌-ℤ◌, sym, subst, arith, w32, SFits, to_z}
use mir.ValLaws.{to_z_pos}
use Rattle.program_cases.proofs.counts.signed.Goals as goal

-- -1 - n is no less than the least number
least : (n : ℕ) → n < 2147483648 → SFits w32 (negsuc 0 -ℤ pos n)
least zero h = record { sfits = omega arith }
least (suc n) h = record { sfits = omega (arith, h) }

minus-fits : (n : ℕ) → n < 2147483648 → SFits w32 (negsuc 0 -ℤ to_z w32 n)
minus-fits n h = subst (λ (z : ℤ). SFits w32 (negsuc 0 -ℤ z)) (sym (to_z_pos w32 n h)) (least n h)

pub overflow_sub-result : goal.overflow_sub-result
overflow_sub-result c =
    let h : 2147483648 ≤ c.args.w = c.if-w-lt2147483648.false in
    minus-fits (4294967295 - c.args.w) (omega (arith, h))
