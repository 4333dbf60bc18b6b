-- Tables that say the same to balance: the same locals in order, and on each bus the same counts of each tuple, in however many lookups.
-- Packing makes such a table: it leaves locals and exclusives as they are, and the tuples of each bus with their multiplicities.
use Rattle.std.specs.Prelude.{ℕ, ◌≡◌, Bool, cond, not, ◌&&◌, List, [], ◌∷◌, map}
use Rattle.lists.specs.Same.{same_list}
use Rattle.lookup.specs.Lookups.{Lookup}
use Rattle.lookup.specs.Table.{Table}
use Rattle.lookup_buses.specs.Order.{keep}
use Rattle.theorems_packing.specs.Packed.{packed_table, NotOverweight}
use Rattle.balance.specs.Groups.{Member, members_of, local}
use Rattle.balance.specs.Entries.{member_entries, entries}
use Rattle.lookup_degree.specs.Sums.{sum_of}
use Rattle.logup.specs.Ledger.{Entry}

-- a lookup on the bus of this name, additive or exclusive
abbrev pub on_the_bus : List ℕ → Lookup → Bool
on_the_bus bus x = not x.local && same_list bus x.name

abbrev pub on : List ℕ → Member → Bool
on bus m = on_the_bus bus m.lookup

-- the counts of a tuple in a list of entries, added up
abbrev pub count_in : List Entry → List ℕ → ℕ
count_in es tuple = sum_of (λ (e : Entry). cond (same_list e.tuple tuple) e.count 0) es

pub record Same (p : ℕ) (t u : Table) : Type 0 where
  pub locals : map (member_entries p) (keep local (members_of t)) ≡ map (member_entries p) (keep local (members_of u))
  pub buses : (bus tuple : List ℕ)
      → count_in (entries p (keep (on bus) (members_of t))) tuple ≡ count_in (entries p (keep (on bus) (members_of u))) tuple

-- table by table
abbrev pub AllSame : ℕ → List Table → List Table → Type 0
AllSame p [] [] = Unit {0}
AllSame p [] (u ∷ us) = ⊥
AllSame p (t ∷ ts) [] = ⊥
AllSame p (t ∷ ts) (u ∷ us) = Same p t u × AllSame p ts us

-- a table, and the table that packing makes of it, where it has no refusal 7
pub record IsPacked (t u : Table) : Type 0 where
  pub limit : ℕ
  pub packed : u ≡ packed_table limit t
  pub not_over : NotOverweight limit t

abbrev pub AllPacked : List Table → List Table → Type 0
AllPacked [] [] = Unit {0}
AllPacked [] (u ∷ us) = ⊥
AllPacked (t ∷ ts) [] = ⊥
AllPacked (t ∷ ts) (u ∷ us) = IsPacked t u × AllPacked ts us
