-- Balance accepts exactly where every group has enough slots and every net of it is zero.
use Rattle.std.specs.Prelude.{◌≡◌, refl, Bool, true, false, cond, ◌↔◌, ℕ, suc, ◌/◌, ◌<◌, eqb, ltb, length}
use Rattle.std.proofs.Common.{sym, ap, ◌∙◌, ltb-false, le-ltb, eqb-true, eq-eqb}
use Rattle.std.proofs.Math.Option.{Option, none, some, some-ne-none}
use mathlib.Core.List.{List, [], ◌∷◌, ◌++◌, Memᴰ}
use Rattle.lists.specs.laws.Count.{joined-member}
use Rattle.lists.specs.laws.Members.{tab_in}
use Rattle.lists.specs.Fold.{fold}
use Rattle.field.proofs.laws.Word.{mul_m-below}
use Rattle.expression.specs.declared.refusal.Refusal.{Refusal}
use Rattle.expression.specs.declared.refusal.Refusal.TheVariants.{WorkspaceFull}
use Rattle.lookup.specs.Table.{values_of}
use Rattle.logup.specs.Ledger.{Entry}
use Rattle.balance_slots.specs.Slots.{Slot, slots}
use Rattle.balance_slots.specs.Workspace.{full, workspace_of}
use Rattle.balance_slots.specs.GroupRefusal.{Numbered, unbalanced, names_first, group_refusal}
use Rattle.balance_slots.proofs.laws.Nets.{Counted, Zero, zero_nets, nets_zero}
use Rattle.balance.proofs.laws.Lists.{flat_in}
use Rattle.balance.specs.Tables.{tables_of}
use Rattle.balance.specs.Groups.{Member, members, groups}
use Rattle.balance.specs.Entries.{count_of, entry_of, row_entries, member_entries, entries}
use Rattle.balance.specs.Refusals.{tables_refusal}
use Rattle.balance.specs.Balance.{Visited, visited, visit, unvisited, balance, outcome, check}
use Rattle.balance.specs.Passes.{Passes, AllGroups, groups_of, BalancePasses, CheckPasses}

-- counts are words below p
row-counted : (p : ℕ) → 0 < p → (m : Member) (r : ℕ) {e : Entry} → Memᴰ e (row_entries p m.lookup (values_of p m.table r)) → e.count < p
unfolding row_entries entry_of count_of
row-counted p z m r k =
    let c = tab_in (entry_of p m.lookup (values_of p m.table r)) 0 (length m.lookup.tuples) k in
    rw (ap (λ (x : Entry). x.count) c.2) (mul_m-below p z _ _)

pub counted : (p : ℕ) → 0 < p → (ms : List Member) → Counted p (entries p ms)
unfolding entries member_entries
counted p z ms e k =
    let a = flat_in (member_entries p) ms k in
    let b = joined-member (λ r. row_entries p a.0.lookup (values_of p a.0.table r)) a.0.table.traces.shape.height a.2 in
    row-counted p z a.0 b.0 b.2

-- 18 is given exactly where a net is not zero
zero-balanced : (k : ℕ) (ss : List Slot) → Zero ss → unbalanced k ss ≡ []
unfolding unbalanced
zero-balanced k [] z = refl
zero-balanced k (s ∷ ss) z = rw (eq-eqb s.net 0 z.0) (zero-balanced (suc k) ss z.1)

balanced-zero : (k : ℕ) (ss : List Slot) → unbalanced k ss ≡ [] → Zero ss
unfolding unbalanced
balanced-zero k [] e = tt
balanced-zero k (s ∷ ss) e = go (eqb s.net 0) refl (λ q. balanced-zero (suc k) ss q) e
  where
    go : (b : Bool) → eqb s.net 0 ≡ b → (unbalanced (suc k) ss ≡ [] → Zero ss) → cond b [] (record { number = k; slot = s } ∷ []) ++ unbalanced (suc k) ss ≡ [] → (s.net ≡ 0) × Zero ss
    go true q ih n = (eqb-true s.net 0 q, ih n)
    go false q ih n = (cc, ih (cc))

names_none : (g : ℕ) (xs : List Numbered) → names_first g xs ≡ none → xs ≡ []
unfolding names_first
names_none g [] e = refl
names_none g (x ∷ xs) e = absurd (some-ne-none _ e)

-- one group
group-accepted : (p room g : ℕ) → 0 < p → (ms : List Member) → (group_refusal room g (slots p (entries p ms)) ≡ none) ↔ Passes p room ms
unfolding group_refusal names_first full
group-accepted p room g z ms = (there (ltb (room / 10) (length ss)) refl, back)
  where
    ss : List Slot
    ss = slots p (entries p ms)

    there : (b : Bool) → ltb (room / 10) (length ss) ≡ b → cond b (some WorkspaceFull) (names_first g (unbalanced 0 ss)) ≡ none → Passes p room ms
    there true q e = absurd (some-ne-none _ e)
    there false q e =
        (ltb-false (room / 10) (length ss) q, zero_nets p z (entries p ms) (counted p z ms) (balanced-zero 0 ss (names_none g (unbalanced 0 ss) e)))

    back : Passes p room ms → cond (ltb (room / 10) (length ss)) (some WorkspaceFull) (names_first g (unbalanced 0 ss)) ≡ none
    back h = rw (le-ltb (room / 10) (length ss) h.0, zero-balanced 0 ss (nets_zero p z (entries p ms) (counted p z ms) h.1))

-- after a refusal nothing changes
pub fold-refused : (p room : ℕ) (f : Refusal) (v : Visited) → v.refusal ≡ some f → (gs : List (List Member)) → fold (visit p room) v gs ≡ v
unfolding fold visit
fold-refused p room f v e [] = refl
fold-refused p room f v e (ms ∷ gs) = ap (λ (u : Visited). fold (visit p room) u gs) (ap (λ (o : Option Refusal). visited room o v (slots p (entries p ms))) e) ∙ fold-refused p room f v e gs

from_accepted : (p room : ℕ) → 0 < p → (v : Visited) → v.refusal ≡ none → (gs : List (List Member)) → ((fold (visit p room) v gs).refusal ≡ none) ↔ AllGroups (Passes p room) gs
unfolding fold visit
from_accepted p room z v q [] = (λ e. tt, λ e. q)
from_accepted p room z v q (ms ∷ gs) = go (group_refusal room v.group ss) refl (group-accepted p room v.group z ms) (λ h. from_accepted p room z next h gs)
  where
    ss : List Slot
    ss = slots p (entries p ms)

    next : Visited
    next = record { refusal = group_refusal room v.group ss; workspace = workspace_of room ss; group = suc v.group }

    first : visited room v.refusal v ss ≡ next
    first = ap (λ (o : Option Refusal). visited room o v ss) q

    go : (o : Option Refusal) → group_refusal room v.group ss ≡ o → (group_refusal room v.group ss ≡ none) ↔ Passes p room ms
        → (next.refusal ≡ none → ((fold (visit p room) next gs).refusal ≡ none) ↔ AllGroups (Passes p room) gs)
        → ((fold (visit p room) (visited room v.refusal v ss) gs).refusal ≡ none) ↔ (Passes p room ms × AllGroups (Passes p room) gs)
    go none e one rest =
        rw first (λ k. (one.0 e, (rest e).0 k), λ h. (rest e).1 h.1)
    go (some f) e one rest =
        rw (first, fold-refused p room f next e gs) (λ k. absurd (some-ne-none f (sym e ∙ k)), λ h. absurd (some-ne-none f (sym e ∙ one.1 h.0)))

-- every group of the tables, behind the tests
pub balance-passes : BalancePasses
unfolding balance
balance-passes p room z tables = from_accepted p room z (unvisited room) refl (groups (members tables))

-- and at the entry point
pub check-passes : CheckPasses
unfolding check
check-passes m p z l workspace = go (tables_refusal m p l) (balance-passes p (length workspace) z (tables_of l))
  where
    B : Visited
    B = balance p (length workspace) (tables_of l)

    G : Type 0
    G = AllGroups (Passes p (length workspace)) (groups_of l)

    go : (o : Option Refusal) → (B.refusal ≡ none) ↔ G → ((outcome o B workspace).refusal ≡ none) ↔ ((o ≡ none) × G)
    go none h = (λ e. (refl, h.0 e), λ k. h.1 k.1)
    go (some f) h = (λ e. absurd (some-ne-none f e), λ k. absurd (some-ne-none f k.0))
