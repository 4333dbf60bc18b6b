use mathlib.Core.List.{[], ◌∷◌}
use Rattle.expression_eval.specs.laws.Window.{row-after}
use Rattle.expression_eval.proofs.window.rows_ahead.Goals as goal

pub returns : goal.returns
returns c =
    let r = c.args.r in
    let height = c.args.height in
    let one = c.next_row-next.ensures.1 in
    let two = row-after r 1 height one c.next_row-second.ensures.1 in
    let three = row-after r 2 height two c.next_row-third.ensures.1 in
    λ i. r ∷ one i ∷ two i ∷ three i ∷ []
