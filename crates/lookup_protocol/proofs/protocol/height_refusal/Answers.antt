use borrow.Author.Tests.{lt-ltb, le-ltb}
use Rattle.lookup_protocol.proofs.laws.Height.{counted-tested}
use Rattle.lookup_protocol.specs.Height.{height_refusal}
use Rattle.lookup_protocol.proofs.protocol.height_refusal.Goals as goal

pub returns-then-not-tables_fit : goal.returns-then-not-tables_fit
unfolding height_refusal
returns-then-not-tables_fit c = rw (← c.tables_fit.ensures, c.if-not-tables_fit.true)

pub returns-then-not-all_agree : goal.returns-then-not-all_agree
unfolding height_refusal
returns-then-not-all_agree c =
    rw (
      ← c.tables_fit.ensures,
      c.if-not-tables_fit.false,
      ← c.all_agree.ensures,
      c.if-not-all_agree.true,
    )

pub height_sum-sum-requires : goal.height_sum-sum-requires
height_sum-sum-requires c =
    let tested = counted-tested c.args.lookups.now c.args.counts.now c.args.heights.now c.requires c.tables_fit.ensures c.if-not-tables_fit.false in
    record { lookups_counted = tested.0; heights_len = tested.1 }

pub returns-then-sum-from : goal.returns-then-sum-from
unfolding height_refusal
returns-then-sum-from c =
    rw (
      ← c.tables_fit.ensures,
      c.if-not-tables_fit.false,
      ← c.all_agree.ensures,
      c.if-not-all_agree.false,
      ← c.height_sum-sum.ensures,
      ← c.from.ensures,
      lt-ltb _ _ c.if-sum-from.true,
    )

pub returns-else-sum-from : goal.returns-else-sum-from
unfolding height_refusal
returns-else-sum-from c =
    rw (
      ← c.tables_fit.ensures,
      c.if-not-tables_fit.false,
      ← c.all_agree.ensures,
      c.if-not-all_agree.false,
      ← c.height_sum-sum.ensures,
      ← c.from.ensures,
      le-ltb _ _ c.if-sum-from.false,
    )
