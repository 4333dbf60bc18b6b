use Rattle.logup_constraints.proofs.Testing.{trace_8, trace_9, trace_10, trace_11, trace_passed}
use Rattle.logup_constraints.proofs.eval_all.trace_refusal.Goals as goal

pub returns-then-some-challenges : goal.returns-then-some-challenges
returns-then-some-challenges c = trace_8 _ _ _ _ _ c.has_lookups-some.ensures c.if-some-challenges.true

pub returns-then-not-rows_enough : goal.returns-then-not-rows_enough
returns-then-not-rows_enough c =
    trace_9 _ _ _ _ _ c.has_lookups-some.ensures c.if-some-challenges.false c.rows_enough.ensures
    c.if-not-rows_enough.true

pub returns-then-some-width : goal.returns-then-some-width
returns-then-some-width c =
    trace_10 _ _ _ _ _ c.has_lookups-some.ensures c.if-some-challenges.false c.rows_enough.ensures
    c.if-not-rows_enough.false c.if-some-width.true

pub returns-then-some-present : goal.returns-then-some-present
returns-then-some-present c =
    trace_11 _ _ _ _ _ c.has_lookups-some.ensures c.if-some-challenges.false c.rows_enough.ensures c.if-not-rows_enough.false
    c.if-some-width.false c.if-some-present.true

pub returns : goal.returns
returns c =
    trace_passed _ _ _ _ _ c.has_lookups-some.ensures c.if-some-challenges.false c.rows_enough.ensures
    c.if-not-rows_enough.false c.if-some-width.false c.if-some-present.false
