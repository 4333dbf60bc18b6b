use mathlib.Core.Path.{sym, ◌∙◌}
use Rattle.field.specs.Ext.{ext_words}
use Rattle.field_batch.proofs.DivisionLoops.{at_least_one, keep_in}
use Rattle.field_batch.specs.laws.Quotients.{kept_out}
use Rattle.field_batch.proofs.division.keep.Goals as goal

pub returns-then-m-eq0 : goal.returns-then-m-eq0
returns-then-m-eq0 g c = let s = c.args in sym (kept_out g.row.P s.w s.m (ext_words s.d) s.product c.if-m-eq0.true)

pub returns : goal.returns
returns g c = let s = c.args in keep_in g.row.P s.w s.m s.d s.product c.if-m-eq0.false c.norm2-x.ensures.2 c.norm2-x.ensures.3 c.norm_of.ensures.1 (c.max.ensures ∙ at_least_one _)
