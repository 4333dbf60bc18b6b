use Rattle.logup_column.proofs.TermsLoops.{flags-read, no_flags, lookup_is}
use mathlib.Core.Path.{sym, ◌∙◌}
use Rattle.logup_column.proofs.column.lookup.Goals as goal

pub returns-then-exclusive : goal.returns-then-exclusive
returns-then-exclusive c =
    lookup_is _ _ _ _ _ _ _ _ _ _ (flags-read _ _ _ _ _ _ _ _ _ _ c.requires.4 c.read_flags-f.ensures) (sym c.if-exclusive.true ∙
    c.exclusive.ensures) c.write_terms-zero.ensures c.first_fault.ensures

pub returns : goal.returns
returns c =
    let e = sym c.if-exclusive.false ∙ c.exclusive.ensures in
    lookup_is _ _ _ _ _ _ _ _ _ _ (no_flags _ _ _ _ _ _ _ _ _ _ e) e c.write_terms-zero-2.ensures c.first_fault-2.ensures
