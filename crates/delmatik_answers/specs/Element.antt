-- What the exported functions on one element return and write: refusal 1 for the field's number and for sizes, 2 for words, else 0, and what stands
-- in the output then. They have no limits, so they take the field alone.
use Rattle.std.specs.Prelude.{ℕ, Bool, cond, ◌&&◌, List, eqb, ltb, length}
use Rattle.std.proofs.Math.Option.{Option, none, some}
use Rattle.expression.specs.Refusal.{answer_number}
use Rattle.expression.specs.declared.refusal.Refusal.{Refusal}
use Rattle.expression.specs.declared.refusal.Refusal.TheVariants.{SizeAtOdds, WordTooLarge}
use Rattle.field.specs.Element.{at, power4, inverse4}
use Rattle.field.specs.Known.{known_field, prime_of, w_of}

unfoldable pub four_below : ℕ → List ℕ → Bool
four_below p a = ltb (at a 0) p && ltb (at a 1) p && ltb (at a 2) p && ltb (at a 3) p

-- a known field, an element of four words, and room for as many
unfoldable pub element_refusal : ℕ → List ℕ → ℕ → Option Refusal
element_refusal field a room =
    cond (known_field field && eqb (length a) 4 && eqb room 4) (cond (four_below (prime_of field) a) none (some WordTooLarge)) (some SizeAtOdds)

-- the output: the element where nothing was refused, else as it was
abbrev pub element_after : Option Refusal → List ℕ → List ℕ → List ℕ
element_after none element before = element
element_after (some f) element before = before

pub record ExportedElement : Type 0 where
  pub number : ℕ
  pub out : List ℕ

unfoldable pub exported_element : Option Refusal → List ℕ → List ℕ → ExportedElement
exported_element r element before = record { number = answer_number r; out = element_after r element before }

-- a to the power n, into a lent output
unfoldable pub exported_power : ℕ → List ℕ → ℕ → List ℕ → ExportedElement
exported_power field a n out = exported_element (element_refusal field a (length out)) (power4 (prime_of field) (w_of field) a n) out

-- 1 ÷ a, and 0 where a is 0
unfoldable pub exported_inverse : ℕ → List ℕ → List ℕ → ExportedElement
exported_inverse field a out = exported_element (element_refusal field a (length out)) (inverse4 (prime_of field) (w_of field) a) out
