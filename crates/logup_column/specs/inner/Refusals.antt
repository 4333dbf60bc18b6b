-- Refusals 1 to 5 of the two entry points that take a trace, generation and constraints, in the order of their numbers. SPECIFICATION, section 10.2.
use Rattle.std.specs.Prelude.{ℕ, Bool, ◌&&◌}
use Rattle.std.proofs.Math.Option.{Option}
use Rattle.expression.specs.Refusal.{unless}
use Rattle.expression.specs.declared.sizes.Limits.{Limits}
use Rattle.expression.specs.declared.refusal.Refusal.{Refusal}
use Rattle.expression.specs.declared.refusal.Refusal.TheVariants.{LookupInvalid}
use Rattle.lookup.specs.Lookups.{Lookups}
use Rattle.lookup.specs.Table.{Table}
use Rattle.lookup.specs.Tests.{lists_agree, in_position}
use Rattle.lookup.specs.Order.{first_refusal}
use Rattle.logup.specs.Refusals.{logup_tests}

-- refusal 5, with n nodes, "in generation and constraints: a lookup's column is not its position"
unfoldable pub position_refusal : ℕ → Lookups → Option Refusal → Option Refusal
position_refusal n l later = unless (lists_agree n l && in_position l.lookups) LookupInvalid later

-- 1 to 5, and what comes after them; `fit` and `low` are what the entry point tests beside the table by 1 and by 2
unfoldable pub table_tests : Limits → ℕ → Table → Bool → Bool → Option Refusal → Option Refusal
table_tests m p t fit low later = first_refusal (logup_tests m p t fit low) later
