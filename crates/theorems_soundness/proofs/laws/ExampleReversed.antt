-- The tuples (1, 2) and (2, 1), of which each is the other as rule 2 reads it: under each rule they are told apart, and at a pair at which they
-- agree the soundness error counts them.
use Rattle.std.specs.Prelude.{ℕ, ◌/◌, ◌^◌, ◌<◌, ◌≤◌, ◌≡◌, refl, T}
use Rattle.std.proofs.Math.Path.{sym, ap}
use Rattle.std.proofs.Common.{◌∙◌, arith, lt_of_lt_of_le, lit<, lit≤}
use mathlib.Core.List.Memᴰ
use mathlib.Core.List.{List, [], ◌∷◌, Memᴰ}
use Rattle.lists.specs.laws.Count.{of_true, eq_of_eqb}
use Rattle.field.specs.Element.{lift}
use Rattle.field.specs.Known.{babybear, known_field, prime_of}
use Rattle.theorems_logup.specs.Distinct.{Distinct}
use Rattle.theorems_logup.specs.Sets.{Pair, Pairing}
use Rattle.expression.specs.Choices.{choices_of, known_rule}
use Rattle.logup.specs.Rule.{reversed, elements_under}
use Rattle.logup.specs.Generation.{Generation}
use Rattle.logup.specs.Ledger.{ledger, tuples_met, at_pair}
use Rattle.logup.proofs.laws.Choices.{generation-known}
use Rattle.theorems_soundness.specs.Soundness.{Comparable, SameLedger, answer_at, AgreeAt, FullSet, AtEachPair}
use Rattle.theorems_soundness.specs.Error.{Passes, passing_pairs}
use Rattle.theorems_soundness.proofs.laws.Choices.{prime_least, known_of, rule_2, generation_by_rule_1}
use Rattle.theorems_soundness.proofs.laws.FullSets.{logup_full_sets}
use Rattle.theorems_soundness.proofs.laws.Error.{logup_soundness_error}
use Rattle.theorems_soundness.proofs.laws.OneIn2To67.{logup_error}
use Rattle.theorems_soundness.proofs.laws.Cases.{m_bus, buffers, rising, falling, generate_in, limits, reversed-holds, reversed-agree}
use Rattle.theorems_soundness.proofs.laws.OneEntry.{comparable, no_flags, room}
use Rattle.theorems_soundness.proofs.laws.Example.{lifted, of_one, of_two, agree_so, soundness_in}

module _ (field : ℕ) (ok : T (known_field field)) where
  abbrev p : ℕ
  p = prime_of field

  both : Comparable limits p rising falling m_bus 2
  both =
      comparable limits p (1 ∷ 2 ∷ []) (2 ∷ 1 ∷ []) 1 1 refl (lit≤ tt) (of_true (reversed-holds field ok).0) (of_true (reversed-holds field ok).1.0)

  ledgers_differ : ¬ SameLedger p 2 rising falling
  ledgers_differ same =
      let k = reversed-holds field ok in
      let below : (a : ℕ) → a < babybear → a < p = λ a l. lt_of_lt_of_le l (prime_least field) in
      let z : ◌≡◌ {A = ℕ} 1 0 = sym (eq_of_eqb (ledger p rising (1 ∷ 2 ∷ [])) 1 k.1.1.0)
      ∙ same (1 ∷ 2 ∷ []) (record { width = refl; below = of_two (λ (a : ℕ). a < p) (below 1 (lit< tt)) (below 2 (lit< tt)) })
      ∙ eq_of_eqb (ledger p falling (1 ∷ 2 ∷ [])) 0 k.1.1.1.0 in
      omega arith

  -- Both tables must be under one rule: by rule 2 the one gives at every pair what the other gives by rule 1.
  pub not_across_rules : ((alpha beta : List ℕ) → answer_at (generate_in field 2) rising buffers alpha beta ≡ answer_at (generate_in field 1) falling buffers alpha beta)
      × ¬ SameLedger p 2 rising falling
  unfolding at_pair elements_under reversed
  not_across_rules = (
    λ alpha beta.
        ap (λ (g : Generation). answer_at g rising buffers alpha beta) (generation-known (choices_of field 1) 2 (known_of field ok) rule_2)
        ∙ sym (ap (λ (g : Generation). answer_at g falling buffers alpha beta) (generation_by_rule_1 (choices_of field 1) (known_of field ok))),
    ledgers_differ,
  )

  module _ (rule : ℕ) (by : T (known_rule rule)) where
    -- A full set exists for them, and at some pair of it their terminals do not agree.
    pub told_apart : (set : List (Pairing (List ℕ))) × FullSet p 2 (tuples_met p rising falling) set
        × ¬ AtEachPair set (AgreeAt (generate_in field rule) rising falling buffers buffers)
    told_apart =
        let k = reversed-holds field ok in
        let (set, full, accepted₁, accepted₂) =
        logup_full_sets (choices_of field 1) rule (known_of field ok) by rising falling 2 buffers buffers (lit≤ tt) (of_true k.0) (of_true k.1.0)
        (no_flags p (1 ∷ 2 ∷ []) 1) (no_flags p (2 ∷ 1 ∷ []) 1) (λ a b. room (1 ∷ 2 ∷ []) 1) (λ a b. room (2 ∷ 1 ∷ []) 1) in
        (set, full, λ agree. ledgers_differ ((soundness_in field ok rule by rising falling m_bus 2 set buffers buffers both full accepted₁ accepted₂).1 agree))

    -- At alpha 5 and beta 1 both are accepted and agree, since both tuples combine to 3.
    abbrev meeting : List (Pair (List ℕ))
    meeting = record { alpha = lift 5; beta = lift 1 } ∷ []

    alone : Distinct meeting
    alone = (λ y k. absurd (Memᴰ.not-nil k), tt)

    meets : (c : Pair (List ℕ)) → Memᴰ c meeting → Passes p (generate_in field rule) rising falling buffers buffers c
    meets =
        let q = agree_so field rule rising falling 5 1 (reversed-agree field ok rule by) in
        of_one (Passes p (generate_in field rule) rising falling buffers buffers)
        (record {
          challenges = record { alpha_element = lifted p (prime_least field) 5 (lit< tt); beta_element = lifted p (prime_least field) 1 (lit< tt) };
          accepted₁ = q.accepted₁;
          accepted₂ = q.accepted₂;
          agree = q.agree;
        })

    pub counted : 1 ≤ passing_pairs p 2 (tuples_met p rising falling)
    counted =
        logup_soundness_error (choices_of field 1) rule (known_of field ok) by rising falling m_bus 2 meeting buffers buffers both ledgers_differ alone meets

    pub counted_in_2_67 : 1 ≤ p ^ 8 / 2 ^ 67
    counted_in_2_67 = logup_error (choices_of field 1) rule (known_of field ok) by rising falling m_bus 2 meeting buffers buffers both ledgers_differ alone meets
