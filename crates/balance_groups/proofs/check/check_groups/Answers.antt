use Rattle.std.proofs.Common.{rules, ◌≡◌, Err}
use Rattle.balance_groups.proofs.CheckLoops.{so_many, locals_refused, both_visited}
use Rattle.balance_groups.proofs.check.check_groups.Goals as goal

pub check_kind-requires-2 : goal.check_kind-requires-2
check_kind-requires-2 c = (c.requires, so_many c.check_kind.ensures.1 c.in_ok-locals.was)

pub returns-in_err-locals : goal.returns-in_err-locals
returns-in_err-locals c =
    let e : c.from_residual.result ≡ Err c.in_err-locals.field-0.0 = search rules in
    locals_refused _ _ _ _ _ c.clear.ensures (search rules) c.check_kind.ensures.0 c.in_err-locals.was e

pub returns : goal.returns
returns c =
    both_visited _ _ _ _ _ c.clear.ensures (search rules) (search rules) c.check_kind.ensures.0 c.in_ok-locals.was c.check_kind-2.ensures.0
