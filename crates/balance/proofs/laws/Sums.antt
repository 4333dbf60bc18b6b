-- A ledger's word as a sum of counts modulo p, so that it does not depend on the order of the entries.
use Rattle.std.specs.Prelude.{◌≡◌, refl, Bool, true, false, cond, List, [], ◌∷◌, ◌++◌, ℕ, zero, suc, ◌+◌, ◌%◌}
use Rattle.std.proofs.Common.{sym, ap, ap₂, ◌∙◌, zero-add, arith}
use Rattle.lists.specs.Same.{same_list}
use Rattle.lists.specs.Count.{total, joined}
use Rattle.lists.specs.Fold.{fold}
use Rattle.lists.specs.laws.Sums.{total-zero, total-add}
use Rattle.field.specs.Word.{add_m}
use Rattle.field.proofs.laws.Word.{add_m-more}
use Rattle.logup.specs.Ledger.{Entry, post}
use Rattle.balance_slots.specs.Nets.{net_of}

-- the counts of a tuple, added up
unfoldable pub tally : List Entry → List ℕ → ℕ
tally [] l = 0
tally (e ∷ es) l = cond (same_list e.tuple l) e.count 0 + tally es l

post-mod : (p : ℕ) (f : List ℕ → ℕ) (e : Entry) (l : List ℕ) (n : ℕ) → (post p f e l + n) % p ≡ (f l + (cond (same_list e.tuple l) e.count 0 + n)) % p
unfolding post
post-mod p f e l n = go (same_list e.tuple l)
  where
    go : (b : Bool) → (cond b (add_m p (f l) e.count) (f l) + n) % p ≡ (f l + (cond b e.count 0 + n)) % p
    go true = add_m-more p (f l) e.count n ∙ ap (λ (k : ℕ). k % p) (let k : f l + e.count + n ≡ f l + (e.count + n) = omega arith in k)
    go false = ap (λ (k : ℕ). (f l + k) % p) (sym (zero-add n))

fold-tally : (p : ℕ) (es : List Entry) (f : List ℕ → ℕ) (l : List ℕ) → fold (post p) f es l % p ≡ (f l + tally es l) % p
unfolding fold tally
fold-tally p [] f l = ap (λ (k : ℕ). k % p) (let k : f l ≡ f l + 0 = omega arith in k)
fold-tally p (e ∷ es) f l = fold-tally p es (post p f e) l ∙ post-mod p f e l (tally es l)

-- two lists of entries with the same sums give the same word, as far as it is below p
pub net-tally : (p : ℕ) (es : List Entry) (l : List ℕ) → net_of p es l % p ≡ tally es l % p
unfolding net_of
net-tally p es l = fold-tally p es (λ l. 0) l ∙ ap (λ (k : ℕ). k % p) (zero-add (tally es l))

pub tally-append : (xs ys : List Entry) (l : List ℕ) → tally (xs ++ ys) l ≡ tally xs l + tally ys l
unfolding tally
tally-append [] ys l = sym (zero-add (tally ys l))
tally-append (e ∷ xs) ys l = omega (arith, tally-append xs ys l)

pub tally-joined : (f : ℕ → List Entry) (n : ℕ) (l : List ℕ) → tally (joined f 0 n) l ≡ total (λ i. tally (f i) l) n
unfolding joined total tally
tally-joined f zero l = refl
tally-joined f (suc n) l =
    tally-append (joined f 0 n) (f (0 + n)) l ∙ ap₂ ◌+◌ (tally-joined f n l) (ap (λ (i : ℕ). tally (f i) l) (zero-add n))

-- a sum over rows and lookups, in either order
pub total_swap : (g : ℕ → ℕ → ℕ) (n m : ℕ) → total (λ i. total (g i) m) n ≡ total (λ r. total (λ i. g i r) n) m
unfolding total
total_swap g n zero = total-zero n
total_swap g n (suc m) =
    total-add (λ i. total (g i) m) (λ i. g i m) n ∙ ap (λ (k : ℕ). k + total (λ i. g i m) n) (total_swap g n m)
