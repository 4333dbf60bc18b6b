-- The laws that a loop over a slice needs of a left fold.
use Rattle.std.specs.Prelude.{◌≡◌, ℕ, ◌+◌, ◌<◌, ◌≤◌, length, drop, get_or}
use Rattle.std.proofs.Math.Path.{refl}
use Rattle.std.proofs.Common.{sym, ◌∙◌, add-one, drop_of_length-le}
use mathlib.Core.List.{List, [], ◌∷◌, ◌++◌}
use Rattle.std.proofs.Math.Seq.{drop-cons}
use Rattle.lists.specs.Fold.{fold}

module _ {A B : Type 0} where
  -- a turn takes the next element
  pub fold_next : (f : B → A → B) (b : B) (xs : List A) (i : ℕ) (z : A) → i < length xs → fold f b (drop i xs) ≡ fold f (f b (get_or xs i z)) (drop (i + 1) xs)
  unfolding fold
  fold_next f b xs i z h = rw (add-one i, drop-cons xs i z h)

  -- none is left
  pub fold_end : (f : B → A → B) (b : B) (xs : List A) (i : ℕ) → length xs ≤ i → fold f b (drop i xs) ≡ b
  unfolding fold
  fold_end f b xs i h = rw (drop_of_length-le xs {i = i} h)

  pub fold-append : (f : B → A → B) (b : B) (xs ys : List A) → fold f b (xs ++ ys) ≡ fold f (fold f b xs) ys
  unfolding fold
  fold-append f b [] ys = refl
  fold-append f b (x ∷ xs) ys = fold-append f (f b x) xs ys

  -- what a loop's invariant keeps: the fold of what is left, from what there is, is t. A record, so that its arguments are found
  pub record Folding (f : B → A → B) (xs : List A) (t : B) (i : ℕ) (b : B) : Type 0 where
    pub rest : fold f b (drop i xs) ≡ t

  pub fold_start : {f : B → A → B} {xs : List A} {b : B} → Folding f xs (fold f b xs) 0 b
  fold_start = record { rest = refl }

  pub fold_again : {f : B → A → B} {xs : List A} {t : B} {i : ℕ} {b b' : B} (z : A) → Folding f xs t i b → i < length xs → b' ≡ f b (get_or xs i z) → Folding f xs t (i + 1) b'
  fold_again {f} {xs} {t} {i} {b} z inv h e = record { rest = rw e (sym (fold_next f b xs i z h) ∙ inv.rest) }

  pub fold_done : {f : B → A → B} {xs : List A} {t : B} {i : ℕ} {b : B} → Folding f xs t i b → length xs ≤ i → b ≡ t
  fold_done {f} {xs} {t} {i} {b} inv h = sym (fold_end f b xs i h) ∙ inv.rest
