-- The turns of the loop that writes the elements as a rule takes them.
use mathlib.Core.Path.{◌≡◌, refl, sym, ap, ap₂, ◌∙◌}
use mathlib.Core.Bool.{Bool, true, false, cond}
use mathlib.Core.List.{List, ◌++◌, reverse}
use Prim.Native.Nat.{ℕ, ◌+◌, ◌-◌, ◌<◌, ◌≤◌, zero-le}
use native.Mathlib.Omega.{arith}
use lib.Dec.{eqb}
use lib.ListN.{length, take, drop, get_or, set, length-reverse}
use borrow.Author.Tests.{ne_eqb}
use lib.Seq.{take_all}
use borrow.Rule.Slice.PartMut.{put_mid}
use Rattle.lists.specs.Count.{total}
use Rattle.lists.specs.laws.Count.{total-one, total_in}
use Rattle.lists.specs.laws.Filled.{Filled, filled_none, filled-one, filled-part, filled-whole}
use Rattle.lists.specs.laws.Parts.{take-one, take_more, part_length}
use Rattle.expression.specs.Words.{word}
use Rattle.lookup.specs.Lookups.{element_start}
use Rattle.logup.specs.Rule.{elements_under}
use Rattle.logup.proofs.laws.Rule.{ordered, part_under, length_under}

length-ordered : (rule : ℕ) (l : List ℕ) → length (ordered rule l) ≡ length l
unfolding ordered
length-ordered rule l = go (eqb rule 2)
  where
    go : (b : Bool) → length (cond b (reverse l) l) ≡ length l
    go true = length-reverse l
    go false = refl

-- the first j elements of a tuple
pub record TupleLoop (nodes d out : List ℕ) (j : ℕ) : Type 0 where
  pub room : length nodes ≡ length d
  pub out≡ : Filled d (take j nodes) j out

pub tuple_loop_begins : {nodes d : List ℕ} → length nodes ≡ length d → TupleLoop nodes d d 0
tuple_loop_begins r = record { room = r; out≡ = filled_none }

pub tuple_loop_turn : {nodes d out : List ℕ} {j : ℕ} → TupleLoop nodes d out j → j < length nodes → TupleLoop nodes d (set out j (get_or nodes j 0)) (j + 1)
tuple_loop_turn {nodes} {d} {out} {j} s h = record { room = s.room; out≡ = filled-one (get_or nodes j 0) 0 s.out≡ (omega (arith, s.room)) (take-one nodes j 0 h) }

pub tuple_loop_ends : {nodes d out : List ℕ} {j : ℕ} → TupleLoop nodes d out j → length nodes ≤ j → out ≡ nodes
tuple_loop_ends {nodes} {j = j} s h = filled-whole s.out≡ (omega (arith, s.room)) ∙ take_all j nodes h

-- as the rule takes them
pub tuple_reversed : {rule : ℕ} {nodes d out new : List ℕ} {j : ℕ} → TupleLoop nodes d out j → length nodes ≤ j → rule ≡ 2 → new ≡ reverse out → new ≡ cond (eqb rule 2) (reverse nodes) nodes
tuple_reversed s h e r = rw e (r ∙ ap reverse (tuple_loop_ends s h))

pub tuple_as_it_is : {rule : ℕ} {nodes d out : List ℕ} {j : ℕ} → TupleLoop nodes d out j → length nodes ≤ j → (rule ≡ 2 → ⊥) → out ≡ cond (eqb rule 2) (reverse nodes) nodes
tuple_as_it_is {rule} s h n = rw (ne_eqb rule 2 n) (tuple_loop_ends s h)

-- the first k tuples, whose elements end at `start`
pub record ElementsLoop (rule : ℕ) (tuples elements d out : List ℕ) (start k : ℕ) : Type 0 where
  pub fits : length elements ≡ element_start tuples (length tuples)
  pub room : length elements ≤ length d
  pub within : k ≤ length tuples
  pub start≡ : start ≡ element_start tuples k
  pub out≡ : Filled d (take start (elements_under rule tuples elements)) start out

pub elements_loop_begins : {rule : ℕ} {tuples elements d : List ℕ} → length elements ≡ element_start tuples (length tuples) → length elements ≤ length d
    → ElementsLoop rule tuples elements d d 0 0
unfolding element_start total
elements_loop_begins f r = record { fits = f; room = r; within = zero-le; start≡ = refl; out≡ = filled_none }

-- tuple k and its part of the elements
pub elements_loop_next : {rule : ℕ} {tuples elements d out : List ℕ} {start k : ℕ} → ElementsLoop rule tuples elements d out start k → k < length tuples
    → (element_start tuples (k + 1) ≡ start + word tuples k) × (start + word tuples k ≤ length elements)
unfolding element_start
elements_loop_next {tuples = tuples} {k = k} s h =
    (total-one (word tuples) k ∙ ap (λ (n : ℕ). n + word tuples k) (sym s.start≡), omega (arith, s.fits, s.start≡, total_in (word tuples) k (length tuples) h))

pub elements_loop_turn : {rule : ℕ} {tuples elements d out : List ℕ} {start k end : ℕ} (ys : List ℕ) → ElementsLoop rule tuples elements d out start k
    → k < length tuples → end ≡ start + word tuples k
    → ys ≡ cond (eqb rule 2) (reverse (take (end - start) (drop start elements))) (take (end - start) (drop start elements))
    → ElementsLoop rule tuples elements d (put_mid start (end - start) out ys) end (k + 1)
unfolding ordered
elements_loop_turn {rule} {tuples} {elements} {d} {out} {start} {k} {end} ys s h e y =
    record {
      fits = s.fits;
      room = s.room;
      within = omega (arith, h);
      start≡ = e ∙ sym next.0;
      out≡ =
          filled-part ys s.out≡ (omega (arith, e)) (omega (arith, e, next.1, s.room)) many
          (take_more (elements_under rule tuples elements) start end (omega (arith, e)) ∙ ap (λ (q : List ℕ). take start (elements_under rule tuples elements) ++ q) is);
    }
  where
    next : (element_start tuples (k + 1) ≡ start + word tuples k) × (start + word tuples k ≤ length elements)
    next = elements_loop_next s h

    wide : end - start ≡ word tuples k
    wide = omega (arith, e)

    is : take (end - start) (drop start (elements_under rule tuples elements)) ≡ ys
    is =
        ap₂ (λ (n m : ℕ). take n (drop m (elements_under rule tuples elements))) wide s.start≡
        ∙ part_under rule tuples elements k
        ∙ sym (ap₂ (λ (n m : ℕ). ordered rule (take n (drop m elements))) wide s.start≡)
        ∙ sym y

    many : length ys ≡ end - start
    many = ap length y ∙ length-ordered rule (take (end - start) (drop start elements)) ∙ part_length elements start end (omega (arith, e)) (omega (arith, e, next.1))

pub elements_loop_ends : {rule : ℕ} {tuples elements d out : List ℕ} {start k : ℕ} → ElementsLoop rule tuples elements d out start k → length tuples ≤ k
    → out ≡ elements_under rule tuples elements ++ drop (length elements) d
elements_loop_ends {rule} {tuples} {elements} {d} {out} {start} {k} s h =
    let all : start ≡ length elements = s.start≡ ∙ ap (element_start tuples) last ∙ sym s.fits in
    s.out≡.is
    ∙ ap₂ (λ (q : List ℕ) (n : ℕ). q ++ drop n d) (take_all start (elements_under rule tuples elements) (omega (arith, all, length_under rule tuples elements))) all
  where
    last : k ≡ length tuples
    last = omega (arith, h, s.within)
