use Rattle.logup_rows.proofs.SumLoops.{put_length, fractions_loop_begins, fractions_loop_room, fractions_loop_turn, fractions_loop_ends}
use native.Mathlib.Omega.{arith}
use mathlib.Core.Path.{refl}
use borrow.Author.Rules.{rules}
use Rattle.logup_rows.proofs.writing.write_row.Goals as goal

pub loop-i-init : goal.loop-i-init
loop-i-init c =
    fractions_loop_begins (search rules) (search rules) refl c.requires.1 c.requires.2 (put_length _ c.args.out.now _ c.requires.3
    c.store.ensures) (omega (arith, c.requires.0.modulus.big)) refl

pub sum_of-fraction-requires : goal.sum_of-fraction-requires
sum_of-fraction-requires c = (
  c.requires.0,
  fractions_loop_room c.loop-i.invariant c.loop-i-test.true c.tuple_count-count.ensures,
)

pub overflow_add-at : goal.overflow_add-at
overflow_add-at c =
    omega (
      arith,
      fractions_loop_room c.loop-i.invariant c.loop-i-test.true c.tuple_count-count.ensures,
      c.loop-i.invariant.cap_q,
    )

pub loop-i-preserved : goal.loop-i-preserved
loop-i-preserved c =
    fractions_loop_turn c.loop-i.invariant c.loop-i-test.true _ c.tuple_count-count.ensures
    c.sum_of-fraction.ensures.1 c.store-in-loop-i.ensures c.add-sum.ensures

pub returns : goal.returns
returns c =
    fractions_loop_ends _ c.args.out.now c.loop-i.invariant (search rules) c.store.ensures
