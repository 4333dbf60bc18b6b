-- Refusals 16 and 18 of a group. SPECIFICATION, section 8.4.
use Rattle.std.specs.Prelude.{ℕ, suc, cond, List, [], ◌∷◌, ◌++◌, eqb}
use Rattle.std.proofs.Math.Option.{Option, none, some}
use Rattle.lists.specs.Fold.{fold}
use Rattle.expression.specs.declared.refusal.Refusal.{Refusal}
use Rattle.expression.specs.declared.refusal.Refusal.TheVariants.{WorkspaceFull, NetNotZero}
use Rattle.balance_slots.specs.Decimal.{tuple_less}
use Rattle.balance_slots.specs.Slots.{Slot}
use Rattle.balance_slots.specs.Workspace.{full}

-- a slot and its number in order of first meeting
pub record Numbered : Type 0 where
  pub number : ℕ
  pub slot : Slot

-- refusal 18, "a net is not zero": such slots, numbered from k on
unfoldable pub unbalanced : ℕ → List Slot → List Numbered
unbalanced k [] = []
unbalanced k (s ∷ ss) = cond (eqb s.net 0) [] (record { number = k; slot = s } ∷ []) ++ unbalanced (suc k) ss

-- SPECIFICATION, section 8.4: "Of several such tuples the first is named"
abbrev pub earlier : Numbered → Numbered → Numbered
earlier best x = cond (tuple_less x.slot.tuple best.slot.tuple) x best

-- refusal 18 with "group, slot, net"
unfoldable pub names_first : ℕ → List Numbered → Option Refusal
names_first g [] = none
names_first g (x ∷ xs) = some (NetNotZero g (fold earlier x xs).number (fold earlier x xs).slot.net)

-- group g with these slots, in a workspace of `room` words: in one group 16 comes before 18
unfoldable pub group_refusal : ℕ → ℕ → List Slot → Option Refusal
group_refusal room g ss = cond (full room ss) (some WorkspaceFull) (names_first g (unbalanced 0 ss))
