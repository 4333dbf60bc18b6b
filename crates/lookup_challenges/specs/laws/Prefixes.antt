-- What the prefixes' code relies on: one element is its list, and what the tests leave.
use Rattle.std.specs.Prelude.{◌≡◌, Bool, false, not, ◌&&◌, List, [], ◌∷◌, ℕ, ◌/◌, ◌<◌, eqb, leb, length}
use Rattle.std.proofs.Common.{sym, ap, ◌∙◌, arith, eqb-true, leb-true}
use Rattle.std.proofs.Math.Option.{Option}
use Rattle.std.proofs.lemmas.Bool.{not-false}
use Rattle.lists.specs.laws.Tests.{passed}
use Rattle.field.specs.Element.{Word4, element}
use Rattle.field.proofs.laws.Slice.{word-element}
use Rattle.expression.specs.Words.{all_below}
use Rattle.expression.specs.Requires.{Below}
use Rattle.expression.specs.Limits.{Sane}
use Rattle.expression.specs.Refusal.{numbers}
use Rattle.expression.specs.declared.sizes.Limits.{Limits}
use Rattle.expression.specs.declared.refusal.Refusal.{Refusal}
use Rattle.expression.specs.laws.Below.{below-tested}
use Rattle.lookup_challenges.specs.Prefixes.{prefixes_fit, prefixes_refusal, prefixes_after, outcome, prefixes}
use Rattle.lookup_challenges.specs.inner.Requires.{Writable}

pub loaded : {p : ℕ} {l e : List ℕ} → Below p l → e ≡ element l 0 → Word4 p e
loaded {p} {l} {e} b q = rw q (word-element l 0 b.each)

pub writable : {p : ℕ} {s a b : Bool} (m : Limits) (alpha beta : List ℕ) (width n : ℕ) (out : List ℕ) → Sane m → 0 < p
    → s ≡ prefixes_fit m alpha beta width n (length out / 4) → not s ≡ false → a ≡ all_below p alpha → b ≡ all_below p beta → not (a && b) ≡ false
    → Writable p alpha beta width n out
unfolding prefixes_fit
writable {p} {s} {a} {b} m alpha beta width n out g pos es hs ea eb h =
    let t =
    passed (eqb (length alpha) 4) (eqb (length beta) 4 ∷ leb width m.prefix_width ∷ leb n m.prefixes ∷ leb n (length out / 4) ∷ []) (sym es ∙ not-false s hs) in
    let u = passed a (b ∷ []) (not-false (a && b) h) in
    record {
      alpha_four = eqb-true (length alpha) 4 t.0;
      beta_four = eqb-true (length beta) 4 t.1.0;
      alpha_below = below-tested alpha pos (sym ea ∙ u.0);
      beta_below = below-tested beta pos (sym eb ∙ u.1.0);
      narrow = omega (arith, g.prefix_width, leb-true width m.prefix_width t.1.1.0);
      few = omega (arith, g.prefixes, leb-true n m.prefixes t.1.1.1.0);
      room = omega (arith, leb-true n (length out / 4) t.1.1.1.1.0);
    }

-- a refusal and the list that it leaves are the outcome
pub outcome_is : (m : Limits) {r : Option Refusal} {written : List ℕ} (p w : ℕ) (alpha beta : List ℕ) (width n : ℕ) (out : List ℕ)
    → (r ≡ prefixes_refusal m p alpha beta width n out) × (written ≡ prefixes_after r p w alpha beta width n out)
    → record { answer = numbers r; out = written } ≡ prefixes m p w alpha beta width n out
unfolding prefixes
outcome_is m {r} p w alpha beta width n out (er, ew) =
    (λ i. record { answer = numbers r; out = ew i }) ∙ ap (λ (x : Option Refusal). outcome x p w alpha beta width n out) er
