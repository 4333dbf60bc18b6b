use Rattle.balance_slots.proofs.ChainsLoops.{step-full, step_skip, step-add}
use Rattle.balance_slots.proofs.add.add.Goals as goal

pub returns-in_err-v : goal.returns-in_err-v
returns-in_err-v c =
    rw c.from_residual.ensures (step-full _ _ _ c.requires.2 c.in_err-v.was)

pub returns-then-count-eq0 : goal.returns-then-count-eq0
returns-then-count-eq0 c =
    rw c.in_ok-v.was (step_skip _ _ _ (rw c.in_ok-v.was at c.requires.2) c.if-count-eq0.true)

pub returns : goal.returns
returns c =
    rw c.in_ok-v.was (step-add _ _ _ _ _ c.if-count-eq0.false c.add_nonzero.ensures)
