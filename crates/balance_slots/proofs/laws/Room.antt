-- A step keeps the workspace's length, and the slots in use within it.
use Rattle.std.specs.Prelude.{◌≡◌, refl, Bool, true, false, cond, List, [], ◌∷◌, ◌++◌, ℕ, ◌+◌, ◌*◌, ◌≤◌, eqb, leb, ltb, length, take, drop, set, replicate}
use Rattle.std.proofs.Common.{ap, ap₂, ◌∙◌, arith, length-append, length-set, length-take, length-drop, leb-true}
use Rattle.std.proofs.lemmas.List.{length-replicate}
use Rattle.lists.specs.Fold.{fold}
use Rattle.lists.specs.laws.Fold.{fold-append}
use Rattle.field.specs.Word.{add_m}
use Rattle.expression.specs.Words.{word}
use Rattle.logup.specs.Ledger.{Entry}
use Rattle.balance_slots.specs.inner.Work.{Work, find_slot, added_at, new_words, new_at, add_nonzero_at, step}
use Rattle.balance_slots.specs.Workspace.{slot_words, net_word}

pub record Roomy (n : ℕ) (w : Work) : Type 0 where
  pub long : length w.words ≡ n
  pub room : slot_words * w.used ≤ n

pub new_long : (t : List ℕ) (count : ℕ) → length (new_words t count) ≡ 10
unfolding new_words Rattle.lists.specs.Tab.tab
new_long t count = refl

pub new_at-long : (workspace : List ℕ) (k : ℕ) (t : List ℕ) (count : ℕ) → slot_words * k + slot_words ≤ length workspace → length (new_at workspace k t count) ≡ length workspace
unfolding new_at
new_at-long workspace k t count h =
    length-append (take (slot_words * k) workspace) (new_words t count ++ drop (slot_words * k + slot_words) workspace)
    ∙ ap₂ ◌+◌ (length-take (slot_words * k) workspace) (length-append (new_words t count) (drop (slot_words * k + slot_words) workspace) ∙ ap₂ ◌+◌ (new_long t count) (length-drop (slot_words * k + slot_words) workspace))
    ∙ omega arith

add_nonzero_roomy : (n p : ℕ) (w : Work) (t : List ℕ) (count : ℕ) → Roomy n w → Roomy n (add_nonzero_at p w t count)
unfolding add_nonzero_at added_at
add_nonzero_roomy n p w t count r = go (ltb (find_slot w.words t 0 w.used) w.used) (leb (slot_words * w.used + slot_words) (length w.words)) refl
  where
    K : ℕ
    K = find_slot w.words t 0 w.used

    go : (b c : Bool) → leb (slot_words * w.used + slot_words) (length w.words) ≡ c
        → Roomy n (cond b (record { words = set w.words (slot_words * K + net_word) (add_m p (word w.words (slot_words * K + net_word)) count); used = w.used; full = false })
        (cond c (record { words = new_at w.words w.used t count; used = w.used + 1; full = false }) (record { words = replicate (length w.words) 0; used = 0; full = true })))
    go true c q = record { long = length-set w.words (slot_words * K + net_word) _ ∙ r.long; room = r.room }
    go false true q =
        let h : slot_words * w.used + slot_words ≤ length w.words = leb-true (slot_words * w.used + slot_words) (length w.words) q in
        record { long = new_at-long w.words w.used t count h ∙ r.long; room = omega (arith, r.long) }
    go false false q = record { long = length-replicate (length w.words) 0 ∙ r.long; room = omega arith }

step_roomy : (n p : ℕ) (w : Work) (e : Entry) → Roomy n w → Roomy n (step p w e)
unfolding step
step_roomy n p w e r = go w.full (eqb e.count 0) (add_nonzero_roomy n p w e.tuple e.count r)
  where
    go : (b c : Bool) → Roomy n (add_nonzero_at p w e.tuple e.count) → Roomy n (cond b w (cond c w (add_nonzero_at p w e.tuple e.count)))
    go true c k = r
    go false true k = r
    go false false k = k

pub fold_roomy : (n p : ℕ) (es : List Entry) (w : Work) → Roomy n w → Roomy n (fold (step p) w es)
unfolding fold
fold_roomy n p [] w r = r
fold_roomy n p (e ∷ es) w r = fold_roomy n p es (step p w e) (step_roomy n p w e r)

-- after a slot was missing nothing changes
pub fold-full : (p : ℕ) (es : List Entry) (w : Work) → w.full ≡ true → fold (step p) w es ≡ w
unfolding fold step
fold-full p [] w f = refl
fold-full p (e ∷ es) w f =
    ap (λ (v : Work). fold (step p) v es) (ap (λ (b : Bool). cond b w (cond (eqb e.count 0) w (add_nonzero_at p w e.tuple e.count))) f) ∙ fold-full p es w f

fold-one : (p : ℕ) (w : Work) (e : Entry) → fold (step p) w (e ∷ []) ≡ step p w e
unfolding fold
fold-one p w e = refl

-- entries met so far, and one more, and more
pub fold_snoc : (p : ℕ) (w : Work) (es : List Entry) (e : Entry) → fold (step p) w (es ++ (e ∷ [])) ≡ step p (fold (step p) w es) e
fold_snoc p w es e = fold-append (step p) w es (e ∷ []) ∙ fold-one p (fold (step p) w es) e

pub fold_more : (p : ℕ) (w : Work) (es xs : List Entry) → fold (step p) w (es ++ xs) ≡ fold (step p) (fold (step p) w es) xs
fold_more p w es xs = fold-append (step p) w es xs
