-- The answers.
use Rattle.std.specs.Prelude.{Err, Ok, Result}
use mathlib.Core.Path.{◌≡◌, refl, sym, ap, ap₂, ◌∙◌}
use mathlib.Core.Bool.{Bool, true, false}
use mathlib.Core.Option.{Option, some}
use mathlib.Core.List.{List, ◌++◌}
use Prim.Native.Nat.{ℕ, ◌*◌, ◌-◌, ◌≤◌}
use native.Mathlib.Omega.{arith}
use lib.ListN.{length, take, drop, replicate}
use lib.Seq.{take_at}
use Rattle.lists.specs.laws.Joined.{joined_length}
use Rattle.field.specs.Known.{prime_of}
use Rattle.expression.specs.Limits.{Sane}
use Rattle.expression.specs.Choices.{known, limits_of}
use Rattle.expression.specs.Refusal.{refusal}
use Rattle.expression.specs.declared.choices.Choices.{Choices}
use Rattle.expression.specs.declared.sizes.Limits.{Limits}
use Rattle.expression.specs.declared.refusal.Refusal.{Refusal}
use Rattle.expression.specs.declared.refusal.Refusal.TheVariants.{SizeAtOdds}
use Rattle.expression.specs.Refusal.{Verdict}
use Rattle.lookup.specs.Lookups.{Lookups, lent_lookups, lookup_words, lookup_count, tuple_start}
use Rattle.lookup.specs.Refusals.{form_refusal}
use Rattle.lookup.specs.declared.refusals.Columns.{Columns}
use Rattle.lookup_degree.specs.Formed.{Formed}
use Rattle.lookup_degree.specs.laws.Formed.{formed}
use Rattle.lookup_builder.specs.Building.{interaction_count, built_words, built, locals_refusal}
use Rattle.lookup_builder.specs.FromInteractions.{Interactions, Outcome, building_fits, lookups_built, built_refusal, building_refusal, building, building_at}
use Rattle.lookup_builder.specs.declared.answer.Kinds.{Kinds}
use Rattle.lookup_builder.specs.inner.Requires.{InteractionsSized}
use Rattle.lookup_builder.proofs.Built.{words-nine}
use Rattle.lookup_builder.proofs.Sizes.{sized}

-- `words_verdict`
module _ (m : Limits) (p : ℕ) (c : Columns) (nodes : List ℕ) (locals : ℕ) (l : Lookups) {v : Verdict} (g : refusal v ≡ form_refusal m p c nodes l) where
  pub locals_asks : Sane m → locals ≤ lookup_count l.lookups → v ≡ Ok tt
      → (lookup_count l.lookups ≤ 64) × (locals ≤ lookup_count l.lookups) × (tuple_start l.lookups (lookup_count l.lookups) ≤ length l.tuples)
  locals_asks s h q =
      let f : Formed m nodes l = formed m p c nodes l s (sym g ∙ ap refusal q) in
      (f.few_lookups, h, omega (arith, f.fitting.tuples))

  pub form_refused : {f : Refusal} → v ≡ Err f → some f ≡ built_refusal m p c nodes locals l
  unfolding built_refusal
  form_refused q = rw (sym g ∙ ap refusal q) refl

  pub locals-tested : {r : Option Refusal} → v ≡ Ok tt → r ≡ locals_refusal locals l.lookups l.tuples → r ≡ built_refusal m p c nodes locals l
  unfolding built_refusal
  locals-tested q h = rw (sym g ∙ ap refusal q) h

built-length : (k : Kinds) (interactions weights : List ℕ) → length (built k interactions weights) ≡ lookup_words * interaction_count k
unfolding built
built-length k interactions weights =
    joined_length (built_words k interactions weights) lookup_words (interaction_count k) (words-nine k interactions weights)

-- `built_verdict`: the words that are lent on are those that are built
pub built-tested : {n : ℕ} {b : List ℕ} {r : Option Refusal} (m : Limits) (p : ℕ) (c : Columns) (nodes : List ℕ) (k : Kinds) (g : Interactions) → n ≡ interaction_count k
    → b ≡ built k g.interactions g.weights ++ drop (lookup_words * interaction_count k) (replicate 576 0)
    → r ≡ built_refusal m p c nodes k.locals (lent_lookups (take (lookup_words * n - 0) (drop 0 b)) g.names g.tuples g.multiplicities g.flags g.elements)
    → r ≡ built_refusal m p c nodes k.locals (lookups_built k g)
built-tested {n} {b} {r} m p c nodes k g q e h =
    let words : List ℕ = built k g.interactions g.weights in
    let z : lookup_words * n - 0 ≡ lookup_words * interaction_count k = omega arith in
    let same : take (lookup_words * n - 0) (drop 0 b) ≡ words =
    ap₂ (λ (j : ℕ) (x : List ℕ). take j x) z e ∙ take_at words (drop (lookup_words * interaction_count k) (replicate 576 0)) (lookup_words * interaction_count k) (built-length k g.interactions g.weights) in
    h ∙ ap (λ (x : List ℕ). built_refusal m p c nodes k.locals (lent_lookups x g.names g.tuples g.multiplicities g.flags g.elements)) same

-- `build_within`
module _ (m : Limits) (p : ℕ) (c : Columns) (nodes : List ℕ) (k : Kinds) (g : Interactions) (lent : List ℕ) {b : Bool} (e : b ≡ building_fits m k g.interactions g.weights g.tuples (length lent)) where
  pub size-refused : b ≡ false → (Err SizeAtOdds ≡ (building m p c nodes k g lent).answer) × (lent ≡ (building m p c nodes k g lent).lookups)
  unfolding building building_refusal
  size-refused z = rw (sym e ∙ z) (refl, refl)

  pub fits_asks : Sane m → b ≡ true → InteractionsSized k g.interactions g.weights × (lookup_words * interaction_count k ≤ length lent)
  fits_asks s z = sized m k g.interactions g.weights g.tuples (length lent) s (sym e ∙ z)

  pub answer-refused : {v : Verdict} {f : Refusal} → b ≡ true → refusal v ≡ built_refusal m p c nodes k.locals (lookups_built k g) → v ≡ Err f
      → (Err f ≡ (building m p c nodes k g lent).answer) × (lent ≡ (building m p c nodes k g lent).lookups)
  unfolding building building_refusal
  answer-refused z h q = rw (sym e ∙ z, sym h ∙ ap refusal q) (refl, refl)

  pub answer-built : {v : Verdict} {n : ℕ} {out : List ℕ} → b ≡ true → refusal v ≡ built_refusal m p c nodes k.locals (lookups_built k g) → v ≡ Ok tt → n ≡ interaction_count k
      → out ≡ built k g.interactions g.weights ++ drop (lookup_words * interaction_count k) lent
      → (Ok (lookup_words * n) ≡ (building m p c nodes k g lent).answer) × (out ≡ (building m p c nodes k g lent).lookups)
  unfolding building building_refusal
  answer-built {v} {n} {out} z h q t o =
      let words : List ℕ = built k g.interactions g.weights in
      let w : lookup_words * interaction_count k ≡ length words = sym (built-length k g.interactions g.weights) in
      rw (sym e ∙ z, sym h ∙ ap refusal q) (ap Ok (ap (λ (x : ℕ). lookup_words * x) t ∙ w), o ∙ ap (λ (x : ℕ). words ++ drop x lent) w)

-- `from_interactions`
module _ (c : Choices) (columns : Columns) (nodes : List ℕ) (k : Kinds) (g : Interactions) (lent : List ℕ) {b : Bool} (e : b ≡ known c) where
  pub choice_unknown : b ≡ false → ◌≡◌ {A = Outcome} (record { answer = Err SizeAtOdds; lookups = lent }) (building_at c columns nodes k g lent)
  unfolding building_at
  choice_unknown z = rw (sym e ∙ z) refl

  pub choices_known : {m : Limits} {p : ℕ} {a : Result ℕ Refusal} {out : List ℕ} → b ≡ true → m ≡ limits_of c.profile → p ≡ prime_of c.field
      → (a ≡ (building m p columns nodes k g lent).answer) × (out ≡ (building m p columns nodes k g lent).lookups)
      → ◌≡◌ {A = Outcome} (record { answer = a; lookups = out }) (building_at c columns nodes k g lent)
  unfolding building_at
  choices_known z em ep h = rw (sym e ∙ z, ← em, ← ep) (λ i. record { answer = h.0 i; lookups = h.1 i })
