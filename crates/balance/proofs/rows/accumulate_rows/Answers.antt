use borrow.Author.Rules.{rules}
use Rattle.balance.proofs.RowsLoops.{rows-full, used_of, unlinked, unlinked_none}
use Rattle.balance.proofs.rows.accumulate_rows.Goals as goal

pub returns-in_err-used : goal.returns-in_err-used
returns-in_err-used c =
    rw c.from_residual.ensures (rows-full _ _ _ c.in_err-used.was)

pub link_slots-linked-requires : goal.link_slots-linked-requires
link_slots-linked-requires c = (search rules, used_of c.in_ok-used.was c.requires.2)

pub returns-in_err-v : goal.returns-in_err-v
returns-in_err-v c =
    rw (c.from_residual-in_err-v.ensures, c.in_ok-used.was) (unlinked_none _ _ _ c.link_slots-linked.ensures c.accumulate_linked.ensures c.in_err-v.was)

pub returns : goal.returns
returns c =
    rw c.in_ok-used.was (unlinked _ _ _ c.link_slots-linked.ensures c.accumulate_linked.ensures c.in_ok-v.was c.unlink_slots.ensures)
