-- Generation accepts only tables that have a ledger.
use Rattle.std.proofs.Common.{subst}
use Rattle.std.specs.Prelude.{List, ℕ, ◌%◌, T, eqb, length}
use Rattle.lists.specs.laws.Count.{and_left}
use Rattle.field.specs.Known.{prime_of, w_of}
use Rattle.expression.specs.Choices.{limits_of}
use Rattle.expression.specs.Words.{all_below}
use Rattle.expression.specs.declared.sizes.Limits.{Limits}
use Rattle.lookup.specs.Table.{Table}
use Rattle.lookup.specs.Tests.{sizes, words_below}
use Rattle.logup.specs.Rule.{table_under}
use Rattle.logup.specs.Generation.{generation}
use Rattle.logup.proofs.laws.Rule.{ledger_under}
use Rattle.theorems_soundness.specs.Accepted.{LedgerOfAccepted, KnownLedgers}
use Rattle.theorems_soundness.proofs.laws.Choices.{UnderEachRule, at_known}
use Rattle.theorems_soundness.proofs.laws.Entered.{Passed, passed, Ledgered, ledger_of}
use Rattle.theorems_soundness.proofs.laws.Answers.{accepted_of}

-- a table that passed generation's tests passed its own
pub own-tests : (m : Limits) (p w : ℕ) (t : Table) (challenges buffer : List ℕ) → Passed m p w t challenges buffer → Ledgered m p t
own-tests m p w t challenges buffer q =
    record {
      one = and_left (sizes m t) (eqb (length challenges % 4) 0) q.one;
      two = and_left (words_below p t) (all_below p challenges) q.two;
      three = q.three;
      four = q.four;
      five = q.five;
      nine = q.nine;
    }

pub ledger_of_accepted : (m : Limits) (p w : ℕ) → LedgerOfAccepted m p (generation m p w)
ledger_of_accepted m p w t challenges buffer ok =
    ledger_of m p t
    (own-tests m p w t challenges buffer (passed m p w t challenges buffer (accepted_of m p w t challenges buffer ok).entered))

-- a table has a ledger where it has one as a rule reads it
accepted_under : UnderEachRule LedgerOfAccepted
accepted_under m p g rule holds t challenges buffer ok = subst T (ledger_under rule m p t) (holds (table_under rule t) challenges buffer ok)

-- and so in each field, at the entry point
pub logup_ledgers : KnownLedgers
logup_ledgers = at_known LedgerOfAccepted accepted_under (λ c k. ledger_of_accepted (limits_of c.profile) (prime_of c.field) (w_of c.field))
