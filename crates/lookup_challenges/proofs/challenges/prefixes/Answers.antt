use borrow.Author.Tests.{eq-eqb, ne_eqb}
use native.Mathlib.Omega.{arith}
use mathlib.Core.Path.{refl, ap}
use mathlib.Core.Bool.{not}
use Rattle.lookup_challenges.specs.laws.Prefixes.{writable}
use Rattle.lookup_challenges.specs.Prefixes.{prefixes_refusal}
use Rattle.lookup_challenges.proofs.challenges.prefixes.Goals as goal

pub returns-then-not-fits : goal.returns-then-not-fits
unfolding prefixes_refusal
returns-then-not-fits c = (rw (← c.fits.ensures, c.if-not-fits.true), refl)

pub returns-then-not-all_below : goal.returns-then-not-all_below
unfolding prefixes_refusal
returns-then-not-all_below c = (
  rw (
    ← c.fits.ensures,
    c.if-not-fits.false,
    ← c.all_below.ensures,
    ← c.all_below-2.ensures,
    c.if-not-all_below.true,
  ),
  refl,
)

pub returns-then-width-eq0 : goal.returns-then-width-eq0
unfolding prefixes_refusal
returns-then-width-eq0 c = (
  rw (
    ← c.fits.ensures,
    c.if-not-fits.false,
    ← c.all_below.ensures,
    ← c.all_below-2.ensures,
    c.if-not-all_below.false,
    eq-eqb _ _ c.if-width-eq0.true,
  ),
  refl,
)

pub write-requires : goal.write-requires
write-requires c = (
  c.requires.1,
  c.requires.2,
  writable c.args.limits c.args.alpha.now c.args.beta.now c.args.width c.args.count c.args.out.now c.requires.0 (omega (arith, c.requires.1.big)) c.fits.ensures (ap not c.if-not-fits.false)
      c.all_below.ensures c.all_below-2.ensures (ap not c.if-not-all_below.false),
)

pub returns : goal.returns
unfolding prefixes_refusal
returns c = (
  rw (
    ← c.fits.ensures,
    c.if-not-fits.false,
    ← c.all_below.ensures,
    ← c.all_below-2.ensures,
    c.if-not-all_below.false,
    ne_eqb _ _ c.if-width-eq0.false,
  ),
  c.write.ensures,
)
