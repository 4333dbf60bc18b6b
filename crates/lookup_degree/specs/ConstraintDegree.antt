-- The degree of one lookup of a table: the answer for every input.
use Rattle.std.specs.Prelude.{cond, ◌&&◌, List, ℕ, leb, ltb, Err, Ok, Result}
use Rattle.std.proofs.Math.Option.{Option, none, some}
use Rattle.field.specs.Known.{prime_of}
use Rattle.expression.specs.Choices.{known, limits_of}
use Rattle.expression.specs.declared.choices.Choices.{Choices}
use Rattle.expression.specs.Refusal.{Numbers, numbers, unless}
use Rattle.expression.specs.declared.sizes.Limits.{Limits}
use Rattle.expression.specs.declared.refusal.Refusal.{Refusal}
use Rattle.expression.specs.declared.refusal.Refusal.TheVariants.{SizeAtOdds}
use Rattle.lookup.specs.Lookups.{Lookups, lookup_count, lookup_at}
use Rattle.lookup.specs.Refusals.{form_refusal}
use Rattle.lookup.specs.declared.refusals.Columns.{Columns}
use Rattle.lookup_degree.specs.Degree.{node_degrees, lookup_degree}

-- SPECIFICATION, section 6.1: "A lookup number past the list, or t above 1, is refusal 1."
unfoldable pub degree_refusal : Limits → ℕ → Columns → List ℕ → Lookups → ℕ → ℕ → Option Refusal
degree_refusal m p c nodes l i t = unless (leb t 1 && ltb i (lookup_count l.lookups)) SizeAtOdds (form_refusal m p c nodes l)

abbrev pub answered : Option Refusal → ℕ → Result ℕ Refusal
answered none d = Ok d
answered (some f) d = Err f

-- of lookup i at a transition degree t
unfoldable pub degree_answer : Limits → ℕ → Columns → List ℕ → Lookups → ℕ → ℕ → Result ℕ Refusal
degree_answer m p c nodes l i t = answered (degree_refusal m p c nodes l i t) (lookup_degree (node_degrees t nodes) (lookup_at l i))

-- at the choices of a call: refusal 1 where one of them is unknown
unfoldable pub degree_at : Choices → Columns → List ℕ → Lookups → ℕ → ℕ → Result ℕ Refusal
degree_at c columns nodes l i t =
    cond (known c) (degree_answer (limits_of c.profile) (prime_of c.field) columns nodes l i t) (Err SizeAtOdds)

-- SPECIFICATION, section 1.4: "An answer is a number and three 64-bit details", "a degree" beside it, 0 where it is refused
pub record DegreeNumbers : Type 0 where
  pub answer : Numbers
  pub degree : ℕ

-- for each case of the code's enum
unfoldable pub in_numbers : Result ℕ Refusal → DegreeNumbers
in_numbers (Ok d) = record { answer = numbers none; degree = d }
in_numbers (Err f) = record { answer = numbers (some f); degree = 0 }
