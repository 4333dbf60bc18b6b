use mathlib.Core.Path.{sym, ap, ◌∙◌}
use mathlib.Core.Bool.{Bool, cond}
use mathlib.Core.Option.{none, some}
use lib.ListN.{length}
use Rattle.expression.specs.declared.refusal.Refusal.TheVariants.{WordTooLarge}
use Rattle.delmatik_answers.proofs.Tested.{odd, four-words, compared}
use Rattle.delmatik_answers.proofs.element.test.Goals as goal

pub returns-then-not-known_field-a : goal.returns-then-not-known_field-a
returns-then-not-known_field-a c = odd _ _ _ c.known_field.ensures c.if-not-known_field-a.true

pub below-requires : goal.below-requires
below-requires c =
    four-words _ c.args.a.now (length c.args.out.now) c.known_field.ensures c.if-not-known_field-a.false

pub returns-then-not-below : goal.returns-then-not-below
returns-then-not-below c =
    ap (λ (b : Bool). cond b none (some WordTooLarge)) (sym c.if-not-below.true)
    ∙ compared _ _ _ c.known_field.ensures c.if-not-known_field-a.false c.prime_of.ensures c.below.ensures

pub returns : goal.returns
returns c =
    ap (λ (b : Bool). cond b none (some WordTooLarge)) (sym c.if-not-below.false)
    ∙ compared _ _ _ c.known_field.ensures c.if-not-known_field-a.false c.prime_of.ensures c.below.ensures
