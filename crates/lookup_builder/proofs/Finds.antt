-- The first refusal of the locals.
use mathlib.Core.Path.{◌≡◌, refl, sym, ap, ◌∙◌}
use mathlib.Core.Option.{Option, none, some}
use mathlib.Core.List.{List}
use Prim.Native.Nat.{ℕ, ◌+◌, ◌<◌, ◌≤◌}
use native.Mathlib.Omega.{arith}
use native.Mathlib.Nat.{add-zero}
use lib.ListN.{length}
use Rattle.lists.specs.Count.{first}
use Rattle.lists.specs.laws.Count.{total_in}
use Rattle.expression.specs.Words.{word}
use Rattle.expression.specs.declared.refusal.Refusal.{Refusal}
use Rattle.lookup.specs.Lookups.{lookup_count, tuple_count, tuple_start, tuple_width}
use Rattle.lookup_buses.specs.Widths.{tuple_refusal}
use Rattle.lookup_builder.specs.Building.{local_refusal}

-- the tuples of lookup i lie in the list
pub tuples_in : (l t : List ℕ) (i : ℕ) → i < lookup_count l → tuple_start l (lookup_count l) ≤ length t → tuple_start l i + tuple_count l i ≤ length t
unfolding tuple_start
tuples_in l t i h e = omega (arith, e, total_in (tuple_count l) i (lookup_count l) h)

pub first_in : {n s : ℕ} (l t : List ℕ) (i : ℕ) → i < lookup_count l → tuple_start l (lookup_count l) ≤ length t → n ≡ tuple_count l i → 0 < n → s ≡ tuple_start l i → s < length t
first_in {n} {s} l t i h e f g q = omega (arith, tuples_in l t i h e)

-- `local_verdict`: no tuples, or the first is expected
pub local_none : {n : ℕ} (l t : List ℕ) (i : ℕ) → n ≡ tuple_count l i → n ≡ 0 → none ≡ local_refusal l t i
unfolding local_refusal first
local_none {n} l t i e z = rw (sym e ∙ z) refl

pub local-some : {s : ℕ} {r : Option Refusal} (l t : List ℕ) (i : ℕ) → s ≡ tuple_start l i → r ≡ first (λ k. tuple_refusal i (some (word t s)) (tuple_width l t i k)) (tuple_count l i) → r ≡ local_refusal l t i
unfolding local_refusal tuple_width
local-some {s} {r} l t i e g = g ∙ ap (λ (a : ℕ). first (λ k. tuple_refusal i (some (word t a)) (tuple_width l t i k)) (tuple_count l i)) (e ∙ sym (add-zero (tuple_start l i)))
