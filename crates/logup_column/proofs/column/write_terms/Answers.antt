use Rattle.logup_column.proofs.TermsLoops.{terms_begin, terms_in, terms_turn}
use mathlib.Core.Path.{refl}
use native.Mathlib.Omega.{arith}
use Rattle.logup_column.proofs.column.write_terms.Goals as goal

pub loop-k-init : goal.loop-k-init
loop-k-init c =
    terms_begin c.requires.3 (omega (arith, c.well_formed)) (omega (arith, c.well_formed)) refl c.requires.4 c.requires.5

pub slice_bounds-term_of-end : goal.slice_bounds-term_of-end
slice_bounds-term_of-end c = terms_in c.loop-k.invariant c.loop-k-test.true refl

pub loop-k-preserved : goal.loop-k-preserved
loop-k-preserved c =
    terms_turn c.loop-k.invariant c.loop-k-test.true _ c.value-m.ensures refl c.contributes_nothing-nothing.ensures
    c.term_of-t.ensures c.store.ensures c.is_zero-zero.ensures refl
