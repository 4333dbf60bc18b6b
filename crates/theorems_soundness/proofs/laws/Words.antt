-- Words below p in lists that are put together, and tests that pass.
use Rattle.std.specs.Prelude.{Bool, true, false, ◌&&◌, ◌||◌, List, [], ◌∷◌, ◌++◌, ℕ, zero, suc, ◌+◌, ◌<◌, T, ltb, length}
use Rattle.std.proofs.Common.{lt→ltb}
use Rattle.lists.specs.Count.{joined}
use Rattle.lists.specs.laws.Count.{of_true, true_of}
use Rattle.lists.specs.laws.Tests.{every_of}
use Rattle.field.specs.Element.{at}
use Rattle.expression.specs.Words.{word, all_below}
use Rattle.expression.specs.Requires.{Below}
use Rattle.logup.specs.Ledger.{Element}
use Rattle.theorems_soundness.proofs.laws.Setting.{as_four}

pub and_of : (a b : Bool) → T a → T b → T (a && b)
and_of true b t q = q
and_of false b t q = t

pub or_right : (a b : Bool) → T b → T (a || b)
or_right true b t = tt
or_right false b t = t

pub all_below_of : (p : ℕ) (l : List ℕ) → Below p l → T (all_below p l)
unfolding all_below
all_below_of p l b = of_true (every_of (λ i. ltb (word l i) p) (length l) (λ i _. true_of (ltb (word l i) p) (lt→ltb (word l i) p (b.each i))))

pub append-each : (p : ℕ) (a b : List ℕ) → ((i : ℕ) → word a i < p) → ((i : ℕ) → word b i < p) → (i : ℕ) → word (a ++ b) i < p
append-each p [] b ba bb i = bb i
append-each p (x ∷ a) b ba bb zero = ba 0
append-each p (x ∷ a) b ba bb (suc i) = append-each p a b (λ i. ba (suc i)) bb i

pub joined-each : (p : ℕ) (f : ℕ → List ℕ) (a n : ℕ) → 0 < p → ((i j : ℕ) → word (f i) j < p) → (i : ℕ) → word (joined f a n) i < p
unfolding joined
joined-each p f a zero pos each = λ i. pos
joined-each p f a (suc n) pos each = append-each p (joined f a n) (f (a + n)) (joined-each p f a n pos each) (each (a + n))

pub element-each : (p : ℕ) (l : List ℕ) → 0 < p → Element p l → (i : ℕ) → word l i < p
element-each p l pos e i = rw (as_four l e.four) (go i)
  where
    go : (i : ℕ) → word (at l 0 ∷ at l 1 ∷ at l 2 ∷ at l 3 ∷ []) i < p
    go zero = e.below.w0
    go (suc zero) = e.below.w1
    go (suc (suc zero)) = e.below.w2
    go (suc (suc (suc zero))) = e.below.w3
    go (suc (suc (suc (suc i)))) = pos
