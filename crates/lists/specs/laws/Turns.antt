-- The turns of a loop that tests, `ok = ok & f(i)`, of one that sums, `s = s + f(i)`, and of one that finds the first that is there.
use Rattle.std.specs.Prelude.{◌≡◌, Bool, true, ◌&&◌, ℕ, ◌+◌, ◌*◌, ◌<◌, ◌≤◌}
use Rattle.std.proofs.Math.Path.{refl}
use Rattle.std.proofs.Common.{sym, ap, ap₂, ◌∙◌, zero-le, add-one, arith}
use Rattle.std.proofs.Math.Option.{Option, none}
use Rattle.lists.specs.Count.{every, total, first, or_else}
use Rattle.lists.specs.laws.Count.{first_one}

-- of the n tests f the first i gave ok
pub record Testing (f : ℕ → Bool) (n i : ℕ) (ok : Bool) : Type 0 where
  pub within : i ≤ n
  pub is : ok ≡ every f i

pub test_begins : {f : ℕ → Bool} {n : ℕ} → Testing f n 0 true
unfolding every
test_begins = record { within = zero-le; is = refl }

pub test_turn : {f : ℕ → Bool} {n i : ℕ} {ok ok' : Bool} → Testing f n i ok → i < n → ok' ≡ (ok && f i) → Testing f n (i + 1) ok'
unfolding every
test_turn {f} {n} {i} {ok} {ok'} s h e = record { within = omega arith; is = rw (add-one i) (e ∙ ap (λ (b : Bool). b && f i) s.is) }

pub test_ends : {f : ℕ → Bool} {n i : ℕ} {ok : Bool} → Testing f n i ok → n ≤ i → ok ≡ every f n
test_ends {f} {n} {i} {ok} s h = let e : i ≡ n = omega (arith, s.within) in s.is ∙ ap (every f) e

-- s is the sum of the first i numbers f, none over k
pub record Summing (f : ℕ → ℕ) (k n i s : ℕ) : Type 0 where
  pub within : i ≤ n
  pub is : s ≡ total f i
  pub small : s ≤ i * k

pub sum-begins : {f : ℕ → ℕ} {k n : ℕ} → Summing f k n 0 0
unfolding total
sum-begins = record { within = zero-le; is = refl; small = zero-le }

pub sum_turn : {f : ℕ → ℕ} {k n i s : ℕ} (x : ℕ) → Summing f k n i s → i < n → x ≤ k → x ≡ f i → Summing f k n (i + 1) (s + x)
unfolding total
sum_turn {f} {k} {n} {i} {s} x t h b e =
    record { within = omega arith; is = rw (add-one i) (ap₂ ◌+◌ t.is e); small = omega (arith, t.small) }

pub sum-ends : {f : ℕ → ℕ} {k n i s : ℕ} → Summing f k n i s → n ≤ i → s ≡ total f n
sum-ends {f} {k} {n} {i} {s} t h = let e : i ≡ n = omega (arith, t.within) in t.is ∙ ap (total f) e

-- o is the first that is there of the first i
pub record Finding {A : Type 0} (f : ℕ → Option A) (n i : ℕ) (o : Option A) : Type 0 where
  pub within : i ≤ n
  pub is : o ≡ first f i

module _ {A : Type 0} where
  pub find_begins : {f : ℕ → Option A} {n : ℕ} → Finding f n 0 none
  unfolding first
  find_begins = record { within = zero-le; is = refl }

  pub find_turn : {f : ℕ → Option A} {n i : ℕ} {o o' : Option A} (x : Option A) → Finding f n i o → i < n → o' ≡ or_else o x → x ≡ f i → Finding f n (i + 1) o'
  find_turn {f} {n} {i} {o} {o'} x s h e g = record { within = omega arith; is = e ∙ ap₂ or_else s.is g ∙ sym (first_one f i) }

  pub find_ends : {f : ℕ → Option A} {n i : ℕ} {o : Option A} → Finding f n i o → n ≤ i → o ≡ first f n
  find_ends {f} {n} {i} {o} s h = let e : i ≡ n = omega (arith, s.within) in s.is ∙ ap (first f) e
