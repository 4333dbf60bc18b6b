-- The turns of the search for the slot that refusal 18 names, over plain lists and numbers.
use Rattle.std.specs.Prelude as Std
use Rattle.std.specs.Prelude.{Some, None}
use mathlib.Core.Path.{◌≡◌, refl, sym, ap, ap₂, ◌∙◌}
use mathlib.Core.Bool.{Bool, true, false, cond}
use mathlib.Core.List.{List}
use Prim.Native.Nat.{ℕ, ◌+◌, ◌*◌, ◌-◌, ◌<◌, ◌≤◌, zero-le}
use native.Mathlib.Numerals.{add-one}
use native.Mathlib.Omega.{arith}
use lib.ListN.{get_or, take, drop}
use borrow.Author.Tests.{eq-eqb, ne_eqb}
use Rattle.expression.specs.Words.{word}
use Rattle.balance_slots.specs.Decimal.{tuple_less}
use mathlib.Core.Option.{none, some}
use Rattle.expression.specs.declared.refusal.Refusal.TheVariants.{WorkspaceFull, NetNotZero}
use Rattle.balance_slots.specs.inner.Work.{slot_of, work, net_at, tuple_at, chosen_at, better_at, least_to, slot_refusal, work_refusal}
use Rattle.balance_slots.specs.Workspace.{slot_words, tuple_word, net_word}

pub less_is : {m n : ℕ} {r : Bool} (workspace : List ℕ) (k b : ℕ) → m ≡ get_or workspace (slot_words * k) 0 → n ≡ get_or workspace (slot_words * b) 0
    → r ≡ tuple_less (take ((slot_words * k + tuple_word + m) - (slot_words * k + tuple_word)) (drop (slot_words * k + tuple_word) workspace)) (take ((slot_words * b + tuple_word + n) - (slot_words * b + tuple_word)) (drop (slot_words * b + tuple_word) workspace))
    → r ≡ tuple_less (tuple_at workspace k) (tuple_at workspace b)
less_is {m} {n} workspace k b em en er =
    let x : (slot_words * k + tuple_word + m) - (slot_words * k + tuple_word) ≡ m = omega arith in
    let y : (slot_words * b + tuple_word + n) - (slot_words * b + tuple_word) ≡ n = omega arith in
    er ∙ ap₂ (λ (i j : ℕ). tuple_less (take i (drop (slot_words * k + tuple_word) workspace)) (take j (drop (slot_words * b + tuple_word) workspace))) (x ∙ em) (y ∙ en)

pub better_zero : (workspace : List ℕ) (b : Std.Option ℕ) (k : ℕ) → slot_of b ≤ k → net_at workspace k ≡ 0 → (b ≡ better_at workspace b k) × (slot_of b ≤ k)
unfolding better_at
better_zero workspace b k h e = (rw (eq-eqb (net_at workspace k) 0 e), h)

chosen_loud : (workspace : List ℕ) (b : Std.Option ℕ) (k : ℕ) → (net_at workspace k ≡ 0 → ⊥) → better_at workspace b k ≡ chosen_at workspace b k
unfolding better_at
chosen_loud workspace b k n = rw (ne_eqb (net_at workspace k) 0 n)

pub better_less : {t : Bool} (workspace : List ℕ) {b : Std.Option ℕ} {j : ℕ} (k : ℕ) → (net_at workspace k ≡ 0 → ⊥) → b ≡ Some j → t ≡ tuple_less (tuple_at workspace k) (tuple_at workspace j) → t ≡ true → (Some k ≡ better_at workspace b k) × (k ≤ k)
better_less workspace {b} {j} k n f e z = (sym (chosen_loud workspace b k n ∙ ap (λ (x : Std.Option ℕ). chosen_at workspace x k) f ∙ ap (λ (x : Bool). cond x (Some k) (Some j)) (sym e ∙ z)), omega arith)

pub better_kept : {t : Bool} (workspace : List ℕ) {b : Std.Option ℕ} {j : ℕ} (k : ℕ) → slot_of b ≤ k → (net_at workspace k ≡ 0 → ⊥) → b ≡ Some j → t ≡ tuple_less (tuple_at workspace k) (tuple_at workspace j) → t ≡ false → (Some j ≡ better_at workspace b k) × (j ≤ k)
better_kept workspace {b} {j} k h n f e z =
    (sym (chosen_loud workspace b k n ∙ ap (λ (x : Std.Option ℕ). chosen_at workspace x k) f ∙ ap (λ (x : Bool). cond x (Some k) (Some j)) (sym e ∙ z)), rw f at h)

pub better_first : (workspace : List ℕ) {b : Std.Option ℕ} (k : ℕ) → (net_at workspace k ≡ 0 → ⊥) → b ≡ None → (Some k ≡ better_at workspace b k) × (k ≤ k)
better_first workspace {b} k n f = (sym (chosen_loud workspace b k n ∙ ap (λ (x : Std.Option ℕ). chosen_at workspace x k) f), omega arith)

pub record LeastLoop (workspace : List ℕ) (n k : ℕ) (b : Std.Option ℕ) : Type 0 where
  pub is : b ≡ least_to workspace k
  pub at : slot_of b ≤ k
  pub within : k ≤ n

pub least_loop_begins : {workspace : List ℕ} {n : ℕ} → LeastLoop workspace n 0 None
unfolding least_to
least_loop_begins = record { is = refl; at = zero-le; within = zero-le }

pub least_loop_turn : {workspace : List ℕ} {n k : ℕ} {b c : Std.Option ℕ} → LeastLoop workspace n k b → k < n → (c ≡ better_at workspace b k) × (slot_of c ≤ k) → LeastLoop workspace n (k + 1) c
unfolding least_to
least_loop_turn {workspace} {n} {k} {b} {c} l h (e, s) = record { is = rw (add-one k) (e ∙ ap (λ (x : Std.Option ℕ). better_at workspace x k) l.is); at = omega arith; within = omega arith }

pub least_loop_ends : {workspace : List ℕ} {n k : ℕ} {b : Std.Option ℕ} → LeastLoop workspace n k b → n ≤ k → (b ≡ least_to workspace n) × (slot_of b ≤ n)
least_loop_ends {workspace} {n} {k} {b} l h = let e : k ≡ n = omega (arith, l.within) in (l.is ∙ ap (least_to workspace) e, omega (arith, l.at))

-- the three ways of a verdict
pub refusal-full : (workspace : List ℕ) (u : Std.Option ℕ) (g : ℕ) → u ≡ None → some WorkspaceFull ≡ work_refusal g (work workspace u)
unfolding work_refusal
refusal-full workspace u g e = sym (ap (λ (v : Std.Option ℕ). work_refusal g (work workspace v)) e)

pub refusal-named : {b u : Std.Option ℕ} {n k net : ℕ} (workspace : List ℕ) (g : ℕ) → u ≡ Some n → b ≡ least_to workspace n → b ≡ Some k → net ≡ word workspace (slot_words * k + net_word)
    → some (NetNotZero g k net) ≡ work_refusal g (work workspace u)
unfolding work_refusal
refusal-named {b} {u} {n} {k} {net} workspace g f e t en =
    ap (λ (x : ℕ). some (NetNotZero g k x)) en
    ∙ ap (slot_refusal g workspace) (sym t ∙ e)
    ∙ sym (ap (λ (v : Std.Option ℕ). work_refusal g (work workspace v)) f)

pub refusal_none : {b u : Std.Option ℕ} {n : ℕ} (workspace : List ℕ) (g : ℕ) → u ≡ Some n → b ≡ least_to workspace n → b ≡ None → none ≡ work_refusal g (work workspace u)
unfolding work_refusal
refusal_none {b} {u} {n} workspace g f e t =
    ap (slot_refusal g workspace) (sym t ∙ e)
    ∙ sym (ap (λ (v : Std.Option ℕ). work_refusal g (work workspace v)) f)
