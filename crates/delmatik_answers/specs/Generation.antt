-- Generation's answer as numbers: number and details, and the words of the terminal (SPECIFICATION, section 14.1).
use Rattle.std.specs.Prelude.{ℕ, cond, ◌&&◌, List, [], ◌∷◌, leb, ltb}
use Rattle.std.proofs.Math.Option.{Option, none, some}
use Rattle.expression.specs.declared.sizes.Shape.{Shape}
use Rattle.logup.specs.Generation.{Answer}

abbrev pub generation_number : Answer → ℕ
generation_number a = a.number

abbrev pub generation_details : Answer → List ℕ
generation_details a = a.details

-- 1 and the four words of a terminal, or five zeros where there is none
abbrev pub marked_words : Option (List ℕ) → List ℕ
marked_words none = 0 ∷ 0 ∷ 0 ∷ 0 ∷ 0 ∷ []
marked_words (some e) = 1 ∷ e

-- what stands in the lent terminal afterwards: refusals 1 to 12 leave it as it was (SPECIFICATION, section 10.5), after 13 to 15 there is none
unfoldable pub generation_terminal : Answer → List ℕ → List ℕ
generation_terminal a lent = cond (ltb 0 a.number && leb a.number 12) lent (marked_words a.terminal)

abbrev pub shape_of : ℕ → ℕ → ℕ → ℕ → Shape
shape_of main_width height pre_width pre_height =
    record { main_width = main_width; height = height; pre_width = pre_width; pre_height = pre_height }
