-- The turns of the loops over tables and members, over plain lists and numbers.
use mathlib.Core.Path.{◌≡◌, refl, sym, ap, ap₂, ◌∙◌}
use mathlib.Core.Bool.{Bool, true, false, cond}
use mathlib.Core.List.{List}
use Prim.Native.Nat.{ℕ, suc, ◌+◌, ◌*◌, ◌-◌, ◌<◌, ◌≤◌, zero-le}
use native.Mathlib.Numerals.{add-one}
use native.Mathlib.Omega.{arith}
use lib.Dec.{ltb}
use borrow.Author.Tests.{lt-ltb, le-ltb}
use Rattle.lists.specs.Count.{total}
use Rattle.lists.specs.laws.Turns.{Summing, sum-ends}
use Rattle.lookup.specs.Sizes.{size_start as sized_start}
use Rattle.balance.specs.Tables.{size, size_start, shape_at, main_width_size, height_size, preprocessed_width_size, preprocessed_height_size, lookup_count_size}
use Rattle.balance.specs.Members.{table_from}
use Rattle.balance.proofs.laws.Members.{size-next}

-- what the tables before table t have
pub sizes-end : {t j s : ℕ} (sizes : List ℕ) (f : ℕ) → Summing (size sizes f) 4294967295 t j s → t ≤ j → t ≤ 16 → (s ≡ size_start sizes f t) × (s ≤ 68719476720)
unfolding sized_start
sizes-end {t} {j} {s} sizes f r h g = (sum-ends r h, let e : j ≡ t = omega (arith, r.within) in omega (arith, r.small))

pub shape_is : {a b c d : ℕ} (sizes : List ℕ) (t : ℕ) → a ≡ size sizes main_width_size t → b ≡ size sizes height_size t → c ≡ size sizes preprocessed_width_size t → d ≡ size sizes preprocessed_height_size t
    → record { main_width = a; height = b; pre_width = c; pre_height = d } ≡ shape_at sizes t
unfolding shape_at
shape_is sizes t ea eb ec ed = λ j. record { main_width = ea j; height = eb j; pre_width = ec j; pre_height = ed j }

-- the table of lookup m: it is none of the first t
pub record TableOfLoop (sizes : List ℕ) (m n t end : ℕ) : Type 0 where
  pub rest : table_from sizes m t (n - t) ≡ table_from sizes m 0 n
  pub ends : end ≡ size_start sizes lookup_count_size t
  pub within : t ≤ n
  pub small : end ≤ t * 4294967295

pub table_of_loop_begins : {sizes : List ℕ} {m n : ℕ} → TableOfLoop sizes m n 0 0
unfolding sized_start total
table_of_loop_begins {sizes} {m} {n} = record { rest = ap (table_from sizes m 0) (let e : n - 0 ≡ n = omega arith in e); ends = refl; within = zero-le; small = zero-le }

table_of_loop_step : (sizes : List ℕ) (m n t : ℕ) → t < n → table_from sizes m t (n - t) ≡ cond (ltb m (size_start sizes lookup_count_size (suc t))) t (table_from sizes m (t + 1) (n - (t + 1)))
unfolding table_from
table_of_loop_step sizes m n t h =
    let q : n - t ≡ suc (n - (t + 1)) = omega arith in
    ap (table_from sizes m t) q ∙ ap (λ (j : ℕ). cond (ltb m (size_start sizes lookup_count_size (suc t))) t (table_from sizes m j (n - (t + 1)))) (sym (add-one t))

end-next : {sizes : List ℕ} {m n t end w : ℕ} → TableOfLoop sizes m n t end → w ≡ size sizes lookup_count_size t → end + w ≡ size_start sizes lookup_count_size (suc t)
end-next {sizes} {m} {n} {t} {end} {w} r e = ap₂ ◌+◌ r.ends e ∙ sym (size-next sizes lookup_count_size t)

pub table_of_loop_hits : {sizes : List ℕ} {m n t end w : ℕ} → TableOfLoop sizes m n t end → t < n → w ≡ size sizes lookup_count_size t → m < end + w → t ≡ table_from sizes m 0 n
table_of_loop_hits {sizes} {m} {n} {t} {end} {w} r h e g =
    let b : ltb m (size_start sizes lookup_count_size (suc t)) ≡ true = lt-ltb m (size_start sizes lookup_count_size (suc t)) (rw (sym (end-next r e)) g) in
    ap (λ (x : Bool). cond x t (table_from sizes m (t + 1) (n - (t + 1)))) (sym b) ∙ sym (table_of_loop_step sizes m n t h) ∙ r.rest

pub table_of_loop_turn : {sizes : List ℕ} {m n t end w : ℕ} → TableOfLoop sizes m n t end → t < n → w ≡ size sizes lookup_count_size t → w ≤ 4294967295 → end + w ≤ m → TableOfLoop sizes m n (t + 1) (end + w)
table_of_loop_turn {sizes} {m} {n} {t} {end} {w} r h e s g =
    let b : ltb m (size_start sizes lookup_count_size (suc t)) ≡ false = le-ltb m (size_start sizes lookup_count_size (suc t)) (rw (sym (end-next r e)) g) in
    record {
      rest = ap (λ (x : Bool). cond x t (table_from sizes m (t + 1) (n - (t + 1)))) (sym b) ∙ sym (table_of_loop_step sizes m n t h) ∙ r.rest;
      ends = rw (add-one t) (end-next r e);
      within = omega arith;
      small = omega (arith, r.small);
    }

pub table_of_loop_ends : {sizes : List ℕ} {m n t end : ℕ} → TableOfLoop sizes m n t end → n ≤ t → n ≡ table_from sizes m 0 n
unfolding table_from
table_of_loop_ends {sizes} {m} {n} {t} r h =
    let e : t ≡ n = omega (arith, r.within) in
    let z : n - t ≡ 0 = omega arith in
    sym e ∙ ap (table_from sizes m t) (sym z) ∙ r.rest
