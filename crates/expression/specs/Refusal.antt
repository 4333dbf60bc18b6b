-- The number and the three details of each refusal. SPECIFICATION, section 1.4: "its details are zero unless the table there names them";
-- the table is section 10.1.
use Rattle.std.specs.Prelude.{ℕ, Bool, true, false, List, [], ◌∷◌, Result, Err, Ok}
use Rattle.std.proofs.Math.Option.{Option, none, some}
use Rattle.expression.specs.declared.refusal.Refusal.{Refusal}
use Rattle.expression.specs.declared.refusal.Refusal.TheVariants.{SizeAtOdds, WordTooLarge, NodeInvalid, DegreeTooHigh, LookupInvalid, WidthsDiffer, WeightTooLarge, ChallengesMissing, RowsMissing, TraceTooSmall, TerminalMisplaced, WidthZero, FlagNotBinary, TwoFlags, DenominatorZero, WorkspaceFull, ConstraintNotZero, NetNotZero, HeightSumTooLarge, TerminalsNotZero}
use Rattle.expression.specs.declared.refusal.ThreeDetails.{ThreeDetails}

abbrev pub number : Refusal → ℕ
number SizeAtOdds = 1
number WordTooLarge = 2
number NodeInvalid = 3
number DegreeTooHigh = 4
number LookupInvalid = 5
number (WidthsDiffer lookup expected actual) = 6
number WeightTooLarge = 7
number ChallengesMissing = 8
number RowsMissing = 9
number TraceTooSmall = 10
number TerminalMisplaced = 11
number WidthZero = 12
number (FlagNotBinary row lookup) = 13
number (TwoFlags row lookup) = 14
number (DenominatorZero row lookup) = 15
number WorkspaceFull = 16
number (ConstraintNotZero row place) = 17
number (NetNotZero group slot net) = 18
number (HeightSumTooLarge sum) = 19
number TerminalsNotZero = 20

abbrev pub details : Refusal → List ℕ
details SizeAtOdds = 0 ∷ 0 ∷ 0 ∷ []
details WordTooLarge = 0 ∷ 0 ∷ 0 ∷ []
details NodeInvalid = 0 ∷ 0 ∷ 0 ∷ []
details DegreeTooHigh = 0 ∷ 0 ∷ 0 ∷ []
details LookupInvalid = 0 ∷ 0 ∷ 0 ∷ []
details (WidthsDiffer lookup expected actual) = lookup ∷ expected ∷ actual ∷ []
details WeightTooLarge = 0 ∷ 0 ∷ 0 ∷ []
details ChallengesMissing = 0 ∷ 0 ∷ 0 ∷ []
details RowsMissing = 0 ∷ 0 ∷ 0 ∷ []
details TraceTooSmall = 0 ∷ 0 ∷ 0 ∷ []
details TerminalMisplaced = 0 ∷ 0 ∷ 0 ∷ []
details WidthZero = 0 ∷ 0 ∷ 0 ∷ []
details (FlagNotBinary row lookup) = row ∷ lookup ∷ 0 ∷ []
details (TwoFlags row lookup) = row ∷ lookup ∷ 0 ∷ []
details (DenominatorZero row lookup) = row ∷ lookup ∷ 0 ∷ []
details WorkspaceFull = 0 ∷ 0 ∷ 0 ∷ []
details (ConstraintNotZero row place) = row ∷ place ∷ 0 ∷ []
details (NetNotZero group slot net) = group ∷ slot ∷ net ∷ []
details (HeightSumTooLarge sum) = sum ∷ 0 ∷ 0 ∷ []
details TerminalsNotZero = 0 ∷ 0 ∷ 0 ∷ []

-- the code's three details, as a list
abbrev pub the_details : ThreeDetails → List ℕ
the_details d = d.first ∷ d.second ∷ d.third ∷ []

-- what a test answers
abbrev pub Verdict : Type 0
Verdict = Result (Unit {0}) Refusal

-- what a verdict refuses, if anything
abbrev pub refusal : Verdict → Option Refusal
refusal (Ok u) = none
refusal (Err f) = some f

-- "Number 0 with zero details means that nothing is refused"
abbrev pub answer_number : Option Refusal → ℕ
answer_number none = 0
answer_number (some f) = number f

abbrev pub answer_details : Option Refusal → List ℕ
answer_details none = 0 ∷ 0 ∷ 0 ∷ []
answer_details (some f) = details f

-- "An answer is a number and three 64-bit details"
pub record Numbers : Type 0 where
  pub number : ℕ
  pub details : List ℕ

abbrev pub numbers : Option Refusal → Numbers
numbers r = record { number = answer_number r; details = answer_details r }

abbrev pub nothing_refused : Option Refusal → Bool
nothing_refused none = true
nothing_refused (some f) = false

-- the refusal f unless the test holds, and then what comes after it
abbrev pub unless : Bool → Refusal → Option Refusal → Option Refusal
unless true f later = later
unless false f later = some f
