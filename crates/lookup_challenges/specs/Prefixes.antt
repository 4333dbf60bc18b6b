-- Prefixes (`Challenges::new`). SPECIFICATION, section 7.4.
use Rattle.std.specs.Prelude.{ℕ, ◌+◌, ◌*◌, ◌/◌, Bool, cond, not, ◌&&◌, List, ◌++◌, eqb, leb, length, drop}
use Rattle.std.proofs.Math.Option.{Option, none, some}
use Rattle.lists.specs.Count.{joined}
use Rattle.field.specs.Element.{add4, scale4, power4}
use Rattle.field.specs.Known.{prime_of, w_of}
use Rattle.expression.specs.Choices.{known, limits_of}
use Rattle.expression.specs.Words.{all_below}
use Rattle.expression.specs.Refusal.{Numbers, numbers, unless}
use Rattle.expression.specs.declared.choices.Choices.{Choices}
use Rattle.expression.specs.declared.sizes.Limits.{Limits}
use Rattle.expression.specs.declared.refusal.Refusal.{Refusal}
use Rattle.expression.specs.declared.refusal.Refusal.TheVariants.{SizeAtOdds, WordTooLarge, WidthZero}

-- prefix i, from gamma = beta^W
unfoldable pub prefix_by : ℕ → List ℕ → List ℕ → ℕ → List ℕ
prefix_by p alpha gamma i = add4 p alpha (scale4 p (i + 1) gamma)

-- "Prefix i is alpha + (i + 1) × beta^W"
abbrev pub prefix : ℕ → ℕ → List ℕ → List ℕ → ℕ → ℕ → List ℕ
prefix p w alpha beta width = prefix_by p alpha (power4 p w beta width)

-- refusal 1 of n prefixes where there is room for so many: alpha and beta are one element each, W and n are within their limits
unfoldable pub prefixes_fit : Limits → List ℕ → List ℕ → ℕ → ℕ → ℕ → Bool
prefixes_fit m alpha beta width n room =
    eqb (length alpha) 4 && eqb (length beta) 4 && leb width m.prefix_width && leb n m.prefixes && leb n room

-- n prefixes into a lent list `out`, four words each; refusal 12: "W is 0"
unfoldable pub prefixes_refusal : Limits → ℕ → List ℕ → List ℕ → ℕ → ℕ → List ℕ → Option Refusal
prefixes_refusal m p alpha beta width n out =
    unless (prefixes_fit m alpha beta width n (length out / 4)) SizeAtOdds
    (unless (all_below p alpha && all_below p beta) WordTooLarge
    (unless (not (eqb width 0)) WidthZero none))

-- the list afterwards: refusals 1 to 12 leave lent outputs as they were (SPECIFICATION, section 10.5)
abbrev pub prefixes_after : Option Refusal → ℕ → ℕ → List ℕ → List ℕ → ℕ → ℕ → List ℕ → List ℕ
prefixes_after (some f) p w alpha beta width n out = out
prefixes_after none p w alpha beta width n out = joined (prefix p w alpha beta width) 0 n ++ drop (4 * n) out

-- the answer in numbers, and the lent list afterwards
pub record Outcome : Type 0 where
  pub answer : Numbers
  pub out : List ℕ

abbrev pub outcome : Option Refusal → ℕ → ℕ → List ℕ → List ℕ → ℕ → ℕ → List ℕ → Outcome
outcome r p w alpha beta width n out = record { answer = numbers r; out = prefixes_after r p w alpha beta width n out }

-- n prefixes of alpha and beta into the front of `out`
unfoldable pub prefixes : Limits → ℕ → ℕ → List ℕ → List ℕ → ℕ → ℕ → List ℕ → Outcome
prefixes m p w alpha beta width n out = outcome (prefixes_refusal m p alpha beta width n out) p w alpha beta width n out

-- at the choices of a call: refusal 1 where one of them is unknown
unfoldable pub prefixes_at : Choices → List ℕ → List ℕ → ℕ → ℕ → List ℕ → Outcome
prefixes_at c alpha beta width n out =
    cond (known c) (prefixes (limits_of c.profile) (prime_of c.field) (w_of c.field) alpha beta width n out)
    (record { answer = numbers (some SizeAtOdds); out = out })
