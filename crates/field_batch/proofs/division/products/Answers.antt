use mathlib.Core.Path.{refl, sym, subst}
use Rattle.field.proofs.laws.Slice.{word-element}
use Rattle.field.specs.Element.{Word4}
use Rattle.field_batch.proofs.DivisionLoops.{multiplying_begins, multiplying_factor, multiplying_turn}
use borrow.Author.Rules.{rules}
use Rattle.field_batch.proofs.division.products.Goals as goal

pub loop-j-init : goal.loop-j-init
loop-j-init g c = multiplying_begins c.requires.0 (search rules) refl c.requires.1

pub keep-k-requires : goal.keep-k-requires
keep-k-requires g c = (
  c.requires.0.modulus,
  c.requires.0.low,
  c.requires.0.certificate,
  subst (Word4 g.row.P) (sym c.load.ensures) (word-element _ _ c.requires.0.ds_below),
)

pub times-product-requires : goal.times-product-requires
times-product-requires g c = (
  c.requires.0.modulus,
  multiplying_factor c.loop-j.invariant c.loop-j-test.true refl c.load.ensures c.keep-k.ensures,
  c.loop-j.invariant.below,
)

pub loop-j-preserved : goal.loop-j-preserved
loop-j-preserved g c =
    multiplying_turn c.loop-j.invariant c.loop-j-test.true refl c.load.ensures c.keep-k.ensures _ c.store.ensures c.times-product.ensures
