use Rattle.logup_column.specs.laws.Lookup.{powers_are, element-word, field-values, one-fits, one-flags, one_same}
use Rattle.logup_rows.proofs.TermsLoops.{one-count, one_is}
use Prim.Native.Nat.{ℕ, ◌*◌}
use mathlib.Core.Path.{sym, ap, ◌∙◌}
use Rattle.logup_rows.proofs.row.lookup_terms.Goals as goal

pub lookup-requires : goal.lookup-requires
lookup-requires c =
    let k = powers_are _ c.requires.0 c.requires.2.counted c.load_powers-powers.ensures in
    let n = one-count _ _ _ _ (one_same c.requires.0.lists c.requires.2.counted c.requires.2.begins c.requires.2.ends c.args.p c.args.w
    c.args.challenges.now c.args.vals.now c.load-alpha.ensures k.1) in (
      field-values c.requires.0.field c.requires.1,
      k.0,
      element-word _ c.requires.0.below c.load-alpha.ensures,
      one-fits c.requires.0.lists c.requires.2.counted c.requires.2.begins c.requires.2.ends,
      one-flags c.requires.0.lists c.requires.2.counted c.requires.2.begins c.requires.2.ends,
      c.requires.3 ∙ sym n,
      c.requires.4 ∙ ap (λ (x : ℕ). 4 * x) (sym n),
    )

pub returns : goal.returns
returns c =
    one_is _ _ _ _ (one_same c.requires.0.lists c.requires.2.counted c.requires.2.begins c.requires.2.ends _ _ _ _ c.load-alpha.ensures
    (powers_are _ c.requires.0 c.requires.2.counted c.load_powers-powers.ensures).1) c.lookup.ensures
