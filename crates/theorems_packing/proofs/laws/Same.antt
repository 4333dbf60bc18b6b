-- Tables that say the same are balanced together: packing does not change whether balance accepts.
use Rattle.std.specs.Prelude.{◌≡◌, refl, cond, ◌↔◌, ℕ, ◌+◌, ◌/◌, ◌<◌, ◌≤◌, length}
use Rattle.std.proofs.Common.{sym, ap, ap₂, ◌∙◌, subst}
use mathlib.Core.List.{List, [], ◌∷◌, ◌++◌, map, map-append, flat_map}
use native.Mathlib.Omega.{arith}
use Rattle.lists.specs.Same.{same_list}
use Rattle.lists.specs.Fold.{fold}
use Rattle.lists.specs.laws.Tab.{flat_append}
use Rattle.logup.specs.Ledger.{Entry}
use Rattle.lookup.specs.Table.{Table}
use Rattle.lookup_degree.specs.Sums.{sum_of}
use Rattle.lookup_buses.specs.Order.{keep}
use Rattle.balance_slots.specs.Slots.{slots}
use Rattle.balance_slots.specs.Nets.{net_of}
use Rattle.lookup_buses.specs.laws.Order.{keep_append}
use Rattle.balance.specs.Groups.{Member, members, local, groups, members_of}
use Rattle.balance.specs.Entries.{member_entries, entries}
use Rattle.balance.proofs.laws.Sums.{tally, tally-append}
use Rattle.balance.proofs.laws.Ledger.{net-same}
use Rattle.balance.specs.Passes.{Passes, AllGroups}
use Rattle.balance.proofs.laws.Passes.{balance-passes}
use Rattle.theorems_packing.specs.Same.{on, count_in, AllSame}
use Rattle.theorems_packing.specs.Accepted.{SameAccepted}
use Rattle.theorems_packing.proofs.laws.Each.{Each}
use Rattle.theorems_packing.proofs.laws.Groups.{Level, groups_level, level_groups}
use Rattle.theorems_packing.proofs.laws.Room.{same-slots}

members-next : (t : Table) (ts : List Table) → members (t ∷ ts) ≡ members_of t ++ members ts
unfolding members flat_map
members-next t ts = refl

entries-append : (p : ℕ) (xs ys : List Member) → entries p (xs ++ ys) ≡ entries p xs ++ entries p ys
unfolding entries
entries-append p xs ys = flat_append (member_entries p) xs ys

-- the locals of one table more
locals-next : (p : ℕ) (t : Table) (ts : List Table)
    → map (member_entries p) (keep local (members (t ∷ ts))) ≡ map (member_entries p) (keep local (members_of t)) ++ map (member_entries p) (keep local (members ts))
locals-next p t ts =
    ap (λ (ms : List Member). map (member_entries p) (keep local ms)) (members-next t ts)
    ∙ ap (map (member_entries p)) (keep_append local (members_of t) (members ts))
    ∙ map-append (member_entries p) (keep local (members_of t)) (keep local (members ts))

all-locals : (p : ℕ) (ts us : List Table) → AllSame p ts us
    → map (member_entries p) (keep local (members ts)) ≡ map (member_entries p) (keep local (members us))
all-locals p [] [] s = refl
all-locals p [] (u ∷ us) s = absurd s
all-locals p (t ∷ ts) [] s = absurd s
all-locals p (t ∷ ts) (u ∷ us) s =
    locals-next p t ts ∙ ap₂ (λ (x y : List (List Entry)). x ++ y) s.0.locals (all-locals p ts us s.1) ∙ sym (locals-next p u us)

-- the counts of a tuple are its tally
pub count-tally : (es : List Entry) (l : List ℕ) → count_in es l ≡ tally es l
unfolding tally sum_of
count-tally [] l = refl
count-tally (e ∷ es) l = ap (λ (n : ℕ). cond (same_list e.tuple l) e.count 0 + n) (count-tally es l)

-- the counts on a bus of one table more
bus-next : (p : ℕ) (bus l : List ℕ) (t : Table) (ts : List Table)
    → tally (entries p (keep (on bus) (members (t ∷ ts)))) l ≡ tally (entries p (keep (on bus) (members_of t))) l + tally (entries p (keep (on bus) (members ts))) l
bus-next p bus l t ts =
    ap (λ (ms : List Member). tally (entries p ms) l) (ap (keep (on bus)) (members-next t ts) ∙ keep_append (on bus) (members_of t) (members ts))
    ∙ ap (λ (es : List Entry). tally es l) (entries-append p (keep (on bus) (members_of t)) (keep (on bus) (members ts)))
    ∙ tally-append (entries p (keep (on bus) (members_of t))) (entries p (keep (on bus) (members ts))) l

all-buses : (p : ℕ) (bus l : List ℕ) (ts us : List Table) → AllSame p ts us
    → tally (entries p (keep (on bus) (members ts))) l ≡ tally (entries p (keep (on bus) (members us))) l
all-buses p bus l [] [] s = refl
all-buses p bus l [] (u ∷ us) s = absurd s
all-buses p bus l (t ∷ ts) [] s = absurd s
all-buses p bus l (t ∷ ts) (u ∷ us) s =
    bus-next p bus l t ts
    ∙ ap₂ ◌+◌ (sym (count-tally (entries p (keep (on bus) (members_of t))) l) ∙ s.0.buses bus l ∙ count-tally (entries p (keep (on bus) (members_of u))) l) (all-buses p bus l ts us s.1)
    ∙ sym (bus-next p bus l u us)

-- what depends on the counts of each tuple alone
module _ (p : ℕ) (Q : List Entry → Type 0) (empty : Q []) (carry : (xs ys : List Entry) → ((l : List ℕ) → tally xs l ≡ tally ys l) → Q xs → Q ys) where
  level_same : (ts us : List Table) → AllSame p ts us → Level p Q (members ts) → Level p Q (members us)
  level_same ts us s h =
      record {
        locals = subst (Each Q) (all-locals p ts us s) h.locals;
        buses = λ bus. carry (entries p (keep (on bus) (members ts))) (entries p (keep (on bus) (members us))) (λ l. all-buses p bus l ts us s) (h.buses bus);
      }

  level_back : (ts us : List Table) → AllSame p ts us → Level p Q (members us) → Level p Q (members ts)
  level_back ts us s h =
      record {
        locals = subst (Each Q) (sym (all-locals p ts us s)) h.locals;
        buses = λ bus. carry (entries p (keep (on bus) (members us))) (entries p (keep (on bus) (members ts))) (λ l. sym (all-buses p bus l ts us s)) (h.buses bus);
      }

  all-groups-same : (ts us : List Table) → AllSame p ts us
      → AllGroups (λ ms. Q (entries p ms)) (groups (members ts)) ↔ AllGroups (λ ms. Q (entries p ms)) (groups (members us))
  all-groups-same ts us s = (
    λ a. level_groups p Q empty (members us) (level_same ts us s (groups_level p Q empty (members ts) a)),
    λ a. level_groups p Q empty (members ts) (level_back ts us s (groups_level p Q empty (members us) a)),
  )

-- the slots suffice and the nets are zero: both are said by the counts
abbrev Passing : ℕ → ℕ → List Entry → Type 0
Passing p room es = (length (slots p es) ≤ room / 10) × ((l : List ℕ) → net_of p es l ≡ 0)

-- All groups of the one have slots and are balanced exactly where all groups of the other have and are.
pub same-passes : (p room : ℕ) → 0 < p → (ts us : List Table) → AllSame p ts us
    → AllGroups (Passes p room) (groups (members ts)) ↔ AllGroups (Passes p room) (groups (members us))
same-passes p room z ts us s = all-groups-same p (Passing p room) empty carry ts us s
  where
    empty : Passing p room []
    empty = unfold slots in unfold net_of in unfold fold in (omega arith, λ l. refl)

    carry : (xs ys : List Entry) → ((l : List ℕ) → tally xs l ≡ tally ys l) → Passing p room xs → Passing p room ys
    carry xs ys h (a, b) = (rw (sym (same-slots p xs ys h)) a, λ l. net-same p z ys xs l (sym (h l)) ∙ b l)

-- Balance accepts the one exactly where it accepts the other. Which slot refusal 18 names may differ: tuples may be met in another order.
pub same-accepted : SameAccepted
same-accepted p room z ts us s = (
  λ e. (balance-passes p room z us).1 ((same-passes p room z ts us s).0 ((balance-passes p room z ts).0 e)),
  λ e. (balance-passes p room z ts).1 ((same-passes p room z ts us s).1 ((balance-passes p room z us).0 e)),
)
