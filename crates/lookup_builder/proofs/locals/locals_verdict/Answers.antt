use Rattle.lookup_buses.specs.laws.NoneYet.{none_begins, none_ends, accepted_turn, refused_stops}
use Rattle.lookup_builder.specs.Building.{locals_refusal}
use borrow.Author.Rules.{rules}
use Rattle.std.proofs.lemmas.Result.{err_from_is_err_and}
use Rattle.lookup_builder.proofs.locals.locals_verdict.Goals as goal

pub loop-i-init : goal.loop-i-init
loop-i-init c = none_begins

pub returns-in_err-local_verdict : goal.returns-in_err-local_verdict
unfolding locals_refusal
returns-in_err-local_verdict c =
    let p = err_from_is_err_and c.from_residual.result c.from_residual.ensures.1 in
    rw (p.1, p.2) (refused_stops c.loop-i.invariant (search rules) c.local_verdict.ensures c.in_err-local_verdict.was)

pub loop-i-preserved : goal.loop-i-preserved
loop-i-preserved c = accepted_turn c.loop-i.invariant c.local_verdict.ensures c.in_ok-local_verdict.was

pub returns : goal.returns
unfolding locals_refusal
returns c = none_ends c.loop-i.invariant (search rules) (search rules)
