-- Balance on bytes, by cases.
use Rattle.std.specs.Prelude.{ℕ, ◌≡◌, true, false, ◌&&◌, List, [], ◌∷◌, map}
use Rattle.std.proofs.Math.Path.{ap, ap₂}
use Rattle.std.proofs.Common.{◌∙◌}
use Rattle.std.proofs.Math.Option.{Option, some}
use Rattle.expression.specs.Choices.{known}
use Rattle.expression.specs.Refusal.{answer_number, answer_details}
use Rattle.expression.specs.declared.choices.Choices.{Choices}
use Rattle.expression.specs.declared.refusal.Refusal.{Refusal}
use Rattle.expression.specs.declared.refusal.Refusal.TheVariants.{SizeAtOdds}
use Rattle.balance.specs.Tables.{TableLists}
use Rattle.balance.specs.Balance.{Outcome}
use Rattle.wire.specs.Wire.{words_of, bytes_of}
use Rattle.wire.specs.Room.{fit, all_words}
use Rattle.delmatik_bytes.specs.inner.Words.{balance_on_words}
use Rattle.delmatik_bytes.specs.Balance.{answered, lists_of, in_bytes, balance_on_bytes}

module _ (c : Choices) (l : TableLists) (workspace room workspace_room : List ℕ) {n : ℕ} {details : List ℕ} {a : Option Refusal} where
  pub fitting : {workspace_after Room-after words_after words : List ℕ} (lists : List (List ℕ)) → known c ≡ true
      → fit (lists_of l) room ≡ true → fit (workspace ∷ []) workspace_room ≡ true
      → (Room-after ≡ all_words (lists_of l)) × (lists ≡ map words_of (lists_of l)) → words ≡ words_of workspace
      → record { refusal = a; workspace = words_after } ≡ balance_on_words c l.lookups.names lists words
      → workspace_after ≡ bytes_of words_after
      → (n ≡ answer_number a) × (details ≡ answer_details a)
      → record { number = n; details = details; workspace = workspace_after; room = Room-after; workspace_room = words_after }
      ≡ balance_on_bytes c l workspace room workspace_room
  unfolding balance_on_bytes
  fitting {workspace_after} {Room-after} {words_after} {words} lists k f g r w o b told =
      let same : balance_on_words c l.lookups.names lists words ≡ balance_on_words c l.lookups.names (map words_of (lists_of l)) (words_of workspace) =
      ap₂ (balance_on_words c l.lookups.names) r.1 w in
      rw (k, f, g)
      ((λ i. record { number = told.0 i; details = told.1 i; workspace = b i; room = r.0 i; workspace_room = words_after })
      ∙ ap (λ (z : Outcome). in_bytes z (all_words (lists_of l))) (o ∙ same))

  -- refusal 1, and everything as it was lent
  as_lent : a ≡ some SizeAtOdds → (n ≡ answer_number a) × (details ≡ answer_details a)
      → record { number = n; details = details; workspace = workspace; room = room; workspace_room = workspace_room }
      ≡ answered (some SizeAtOdds) workspace room workspace_room
  as_lent q told =
      (λ i. record { number = told.0 i; details = told.1 i; workspace = workspace; room = room; workspace_room = workspace_room })
      ∙ ap (λ (z : Option Refusal). answered z workspace room workspace_room) q

  pub unknown : known c ≡ false → a ≡ some SizeAtOdds
      → (n ≡ answer_number a) × (details ≡ answer_details a)
      → record { number = n; details = details; workspace = workspace; room = room; workspace_room = workspace_room }
      ≡ balance_on_bytes c l workspace room workspace_room
  unfolding balance_on_bytes
  unknown k q told = rw k (as_lent q told)

  pub odd : known c ≡ true → (fit (lists_of l) room && fit (workspace ∷ []) workspace_room) ≡ false → a ≡ some SizeAtOdds
      → (n ≡ answer_number a) × (details ≡ answer_details a)
      → record { number = n; details = details; workspace = workspace; room = room; workspace_room = workspace_room }
      ≡ balance_on_bytes c l workspace room workspace_room
  unfolding balance_on_bytes
  odd k e q told = rw (k, e) (as_lent q told)
