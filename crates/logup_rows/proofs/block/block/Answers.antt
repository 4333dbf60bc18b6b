use Rattle.logup_rows.proofs.BlockLoops.{multiplicities_put, denominators_put, terms_again, block_divisible, block_length, block_quotients, quotients_put, quotients_again, block_words, block_rows}
use Rattle.expression.specs.laws.Values.{row_values-below}
use native.Mathlib.Omega.{arith}
use lib.ListN.{replicate}
use Rattle.logup_rows.proofs.block.block.Goals as goal

pub divide_all-requires : goal.divide_all-requires
divide_all-requires c =
    let fm = multiplicities_put _ _ _ _ _ c.requires.0.field c.fill-verdict.ensures.1 _ c.requires.0.lists.fitting.tuples (replicate 256 0)
    (omega (arith, c.requires.6)) in
    let fd = denominators_put _ _ _ _ _ c.requires.0.field c.fill-verdict.ensures.1 _ c.requires.0.lists.fitting.tuples (replicate 1024 0)
    (omega (arith, c.requires.6)) in
    let again = terms_again _ _ _ _ _ c.requires.0.field c.fill-verdict.ensures.1 _ c.requires.0.lists.fitting.tuples fm fd in (
      block_divisible _ _ _ _ _ c.requires.0.field again (λ r. row_values-below r c.requires.1),
      omega (arith, block_length _ _ _ _ _ c.requires.0.field again _ c.requires.0.lists.fitting.tuples, c.requires.6),
    )

pub write_rows-accumulator-requires : goal.write_rows-accumulator-requires
write_rows-accumulator-requires c =
    let fm = multiplicities_put _ _ _ _ _ c.requires.0.field c.fill-verdict.ensures.1 _ c.requires.0.lists.fitting.tuples (replicate 256 0)
    (omega (arith, c.requires.6)) in
    let fd = denominators_put _ _ _ _ _ c.requires.0.field c.fill-verdict.ensures.1 _ c.requires.0.lists.fitting.tuples (replicate 1024 0)
    (omega (arith, c.requires.6)) in
    let again = terms_again _ _ _ _ _ c.requires.0.field c.fill-verdict.ensures.1 _ c.requires.0.lists.fitting.tuples fm fd in
    let put = quotients_put _ _ _ _ _ c.requires.0.field again _ c.requires.0.lists.fitting.tuples c.divide_all.ensures fd in
    let quotients = quotients_again _ _ _ _ _ c.requires.0.field again _ c.requires.0.lists.fitting.tuples c.divide_all.ensures put
    in (
      block_quotients _ _ _ _ _ c.requires.0.field again _ c.requires.0.lists.fitting.tuples quotients,
      c.requires.0.lists.fitting.lookups,
      c.requires.0.lists.fitting.tuples,
      block_words _ _ _ _ _ c.requires.0.field again _ c.requires.0.lists.fitting.tuples quotients,
      c.requires.4,
      omega (arith, c.requires.2, c.requires.3),
      c.requires.5.below,
    )

pub returns : goal.returns
returns c =
    let fm = multiplicities_put _ _ _ _ _ c.requires.0.field c.fill-verdict.ensures.1 _ c.requires.0.lists.fitting.tuples (replicate 256 0)
    (omega (arith, c.requires.6)) in
    let fd = denominators_put _ _ _ _ _ c.requires.0.field c.fill-verdict.ensures.1 _ c.requires.0.lists.fitting.tuples (replicate 1024 0)
    (omega (arith, c.requires.6)) in
    let again = terms_again _ _ _ _ _ c.requires.0.field c.fill-verdict.ensures.1 _ c.requires.0.lists.fitting.tuples fm fd in
    let put = quotients_put _ _ _ _ _ c.requires.0.field again _ c.requires.0.lists.fitting.tuples c.divide_all.ensures fd in
    let quotients = quotients_again _ _ _ _ _ c.requires.0.field again _ c.requires.0.lists.fitting.tuples c.divide_all.ensures put
    in
    block_rows _ _ _ _ _ c.requires.0.field again _ c.requires.0.lists.fitting.tuples quotients _ c.requires.5.accumulator≡
    c.write_rows-accumulator.ensures c.fill-verdict.ensures.0
