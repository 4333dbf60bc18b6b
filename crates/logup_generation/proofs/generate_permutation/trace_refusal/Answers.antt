use Rattle.logup_generation.proofs.Testing.{trace_8, trace_9, trace_10, trace_passed}
use Rattle.logup_generation.proofs.generate_permutation.trace_refusal.Goals as goal

pub returns-then-some-challenges : goal.returns-then-some-challenges
returns-then-some-challenges c = trace_8 _ _ _ _ c.has_lookups-some.ensures c.if-some-challenges.true

pub returns-then-not-rows_enough : goal.returns-then-not-rows_enough
returns-then-not-rows_enough c = trace_9 _ _ _ _ c.has_lookups-some.ensures c.if-some-challenges.false c.rows_enough.ensures c.if-not-rows_enough.true

pub returns-then-some-trace_len : goal.returns-then-some-trace_len
returns-then-some-trace_len c =
    trace_10 _ _ _ _ c.has_lookups-some.ensures c.if-some-challenges.false c.rows_enough.ensures c.if-not-rows_enough.false
    c.used_words.ensures c.if-some-trace_len.true

pub returns : goal.returns
returns c =
    trace_passed _ _ _ _ c.has_lookups-some.ensures c.if-some-challenges.false c.rows_enough.ensures
    c.if-not-rows_enough.false c.used_words.ensures c.if-some-trace_len.false
