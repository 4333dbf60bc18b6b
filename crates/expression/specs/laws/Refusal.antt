-- What it says that there is no refusal, and what the numbers of an answer say of it.
use Rattle.std.specs.Prelude.{◌≡◌, refl, Bool, true, false, cond, List, ℕ, eqb, get_or}
use Rattle.std.proofs.Common.{sym, ap, ◌∙◌}
use Rattle.std.proofs.Math.Option.{Option, none, some, some-ne-none}
use Rattle.expression.specs.Refusal.{number, Numbers, numbers, unless}
use Rattle.expression.specs.declared.refusal.Refusal.{Refusal}
use Rattle.expression.specs.declared.refusal.Refusal.TheVariants.{SizeAtOdds, WordTooLarge, NodeInvalid, DegreeTooHigh, LookupInvalid, WidthsDiffer, WeightTooLarge, ChallengesMissing, RowsMissing, TraceTooSmall, TerminalMisplaced, WidthZero, FlagNotBinary, TwoFlags, DenominatorZero, WorkspaceFull, ConstraintNotZero, NetNotZero, HeightSumTooLarge, TerminalsNotZero}

-- the test passed, and nothing after it refuses
pub unless_none : (b : Bool) (f : Refusal) (later : Option Refusal) → unless b f later ≡ none → (b ≡ true) × (later ≡ none)
unless_none true f later e = (refl, e)
unless_none false f later e = absurd (some-ne-none f e)

-- number 0 is no refusal's
pub number-nonzero : (f : Refusal) → eqb (number f) 0 ≡ false
number-nonzero SizeAtOdds = refl
number-nonzero WordTooLarge = refl
number-nonzero NodeInvalid = refl
number-nonzero DegreeTooHigh = refl
number-nonzero LookupInvalid = refl
number-nonzero (WidthsDiffer lookup expected actual) = refl
number-nonzero WeightTooLarge = refl
number-nonzero ChallengesMissing = refl
number-nonzero RowsMissing = refl
number-nonzero TraceTooSmall = refl
number-nonzero TerminalMisplaced = refl
number-nonzero WidthZero = refl
number-nonzero (FlagNotBinary row lookup) = refl
number-nonzero (TwoFlags row lookup) = refl
number-nonzero (DenominatorZero row lookup) = refl
number-nonzero WorkspaceFull = refl
number-nonzero (ConstraintNotZero row place) = refl
number-nonzero (NetNotZero group slot net) = refl
number-nonzero (HeightSumTooLarge sum) = refl
number-nonzero TerminalsNotZero = refl

-- the refusal that a number and details stand for
unfoldable refused_by : ℕ → List ℕ → Option Refusal
refused_by n d =
    cond (eqb n 1) (some SizeAtOdds)
    (cond (eqb n 2) (some WordTooLarge)
    (cond (eqb n 3) (some NodeInvalid)
    (cond (eqb n 4) (some DegreeTooHigh)
    (cond (eqb n 5) (some LookupInvalid)
    (cond (eqb n 6) (some (WidthsDiffer (get_or d 0 0) (get_or d 1 0) (get_or d 2 0)))
    (cond (eqb n 7) (some WeightTooLarge)
    (cond (eqb n 8) (some ChallengesMissing)
    (cond (eqb n 9) (some RowsMissing)
    (cond (eqb n 10) (some TraceTooSmall)
    (cond (eqb n 11) (some TerminalMisplaced)
    (cond (eqb n 12) (some WidthZero)
    (cond (eqb n 13) (some (FlagNotBinary (get_or d 0 0) (get_or d 1 0)))
    (cond (eqb n 14) (some (TwoFlags (get_or d 0 0) (get_or d 1 0)))
    (cond (eqb n 15) (some (DenominatorZero (get_or d 0 0) (get_or d 1 0)))
    (cond (eqb n 16) (some WorkspaceFull)
    (cond (eqb n 17) (some (ConstraintNotZero (get_or d 0 0) (get_or d 1 0)))
    (cond (eqb n 18) (some (NetNotZero (get_or d 0 0) (get_or d 1 0) (get_or d 2 0)))
    (cond (eqb n 19) (some (HeightSumTooLarge (get_or d 0 0)))
    (cond (eqb n 20) (some TerminalsNotZero) none)))))))))))))))))))

refused_by-numbers : (o : Option Refusal) → refused_by (numbers o).number (numbers o).details ≡ o
unfolding refused_by
refused_by-numbers none = refl
refused_by-numbers (some f) = go f
  where
    go : (f : Refusal) → refused_by (numbers (some f)).number (numbers (some f)).details ≡ some f
    go SizeAtOdds = refl
    go WordTooLarge = refl
    go NodeInvalid = refl
    go DegreeTooHigh = refl
    go LookupInvalid = refl
    go (WidthsDiffer lookup expected actual) = refl
    go WeightTooLarge = refl
    go ChallengesMissing = refl
    go RowsMissing = refl
    go TraceTooSmall = refl
    go TerminalMisplaced = refl
    go WidthZero = refl
    go (FlagNotBinary row lookup) = refl
    go (TwoFlags row lookup) = refl
    go (DenominatorZero row lookup) = refl
    go WorkspaceFull = refl
    go (ConstraintNotZero row place) = refl
    go (NetNotZero group slot net) = refl
    go (HeightSumTooLarge sum) = refl
    go TerminalsNotZero = refl

-- the numbers leave nothing out: they say which refusal it is
pub numbers_injective : (a b : Option Refusal) → numbers a ≡ numbers b → a ≡ b
numbers_injective a b e = sym (refused_by-numbers a) ∙ ap (λ (n : Numbers). refused_by n.number n.details) e ∙ refused_by-numbers b
