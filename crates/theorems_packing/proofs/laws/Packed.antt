-- A packed table says the same to balance as the table that it was packed from.
use Rattle.std.specs.Prelude.{◌≡◌, Bool, true, false, cond, not, ◌&&◌, ◌||◌, length, get_or}
use Rattle.std.proofs.Math.Path.{refl, sym, ap, ap₂}
use Rattle.std.proofs.Common.{◌∙◌, subst, arith}
use mathlib.Core.List.{List, [], ◌∷◌, ◌++◌, map, flat_map}
use Prim.Native.Nat.{ℕ, ◌+◌}
use Rattle.std.proofs.Math.Nat.{suc_inj}
use Rattle.lists.specs.Same.{same_list}
use Rattle.lists.specs.Count.{joined, total}
use Rattle.lists.specs.Tab.{tab}
use Rattle.lists.specs.laws.Tab.{tab_none, tab_cons}
use Rattle.lists.specs.laws.Sums.{total_cong, total-zero, total-add}
use Rattle.field.specs.Word.{mul_m}
use Rattle.expression.specs.Words.{word}
use Rattle.expression.specs.Node.{node_count}
use Rattle.expression.specs.Window.{Traces}
use Rattle.expression.specs.Values.{row_values}
use Rattle.lookup.specs.Lookups.{Lookups, Lookup, lookups_of}
use Rattle.lookup.specs.Requires.{Fitting, Agreeing}
use Rattle.lookup.specs.Table.{Table}
use Rattle.logup.specs.Ledger.{Entry}
use Rattle.lookup_buses.specs.Order.{keep}
use Rattle.packing.specs.Packing.{passes, additive_on, numbered, packed}
use Rattle.packing.proofs.laws.Keeps.{packing_keeps}
use Rattle.packing.specs.PackSameBus.{columns}
use Rattle.lookup_degree.specs.Degree.{node_degrees}
use Rattle.theorems_packing.specs.inner.Entries.{Aligned}
use Rattle.theorems_packing.proofs.laws.Each.{Each}
use Rattle.theorems_packing.proofs.laws.Same.{count-tally}
use Rattle.theorems_packing.proofs.laws.Back.{columns-back}
use Rattle.theorems_packing.proofs.laws.Passed.{passed_on}
use Rattle.theorems_packing.proofs.laws.Entries.{lookups_sound, columns_sound}
use Rattle.balance.specs.Groups.{Member, local, members_of}
use Rattle.balance.specs.Entries.{count_of, entry_of, row_entries, member_entries, entries}
use Rattle.balance.proofs.laws.Sums.{tally, tally-append, tally-joined}
use Rattle.theorems_packing.specs.Same.{on, Same, AllSame, IsPacked, AllPacked}

-- the additive lookups of a bus
record Additive (x : Lookup) : Type 0 where
  plain : x.exclusive ≡ false
  aligned : length x.tuples ≡ length x.multiplicities

kept-additive : (bus : List ℕ) (xs : List Lookup) → Each Aligned xs → Each Additive (keep (additive_on bus) xs)
unfolding keep
kept-additive bus [] a = tt
kept-additive bus (x ∷ xs) a = go x.local x.exclusive refl (same_list bus x.name) (kept-additive bus xs a.1)
  where
    go : (l e : Bool) → x.exclusive ≡ e → (s : Bool) → Each Additive (keep (additive_on bus) xs)
        → Each Additive (cond (not (l || e) && s) (x ∷ keep (additive_on bus) xs) (keep (additive_on bus) xs))
    go true e q s ih = ih
    go false true q s ih = ih
    go false false q true ih = (record { plain = q; aligned = sym a.0.aligned }, ih)
    go false false q false ih = ih

-- the entries on a row of tuples and multiplicities, one by one
module _ (p : ℕ) (vals : List ℕ) where
  abbrev pair : List ℕ → ℕ → Entry
  pair t m = record { tuple = map (word vals) t; count = mul_m p (word vals m) 1 }

  unfoldable pairs : List (List ℕ) → List ℕ → List Entry
  pairs ts ms = tab (λ k. pair (get_or ts k []) (word ms k)) 0 (length ts)

  pairs_cons : (t : List ℕ) (ts : List (List ℕ)) (m : ℕ) (ms : List ℕ) → pairs (t ∷ ts) (m ∷ ms) ≡ pair t m ∷ pairs ts ms
  unfolding pairs
  pairs_cons t ts m ms = tab_cons (λ k. pair (get_or (t ∷ ts) k []) (word (m ∷ ms) k)) (length ts)

  pairs-append : (ts us : List (List ℕ)) (ms ns : List ℕ) → length ts ≡ length ms → pairs (ts ++ us) (ms ++ ns) ≡ pairs ts ms ++ pairs us ns
  pairs-append [] us [] ns e = sym (ap (λ (x : List Entry). x ++ pairs us ns) none)
    where
      none : pairs [] [] ≡ []
      none = unfold pairs in tab_none (λ k. pair (get_or [] k []) (word [] k)) 0
  pairs-append [] us (m ∷ ms) ns e = absurd (omega arith)
  pairs-append (t ∷ ts) us [] ns e = absurd (omega arith)
  pairs-append (t ∷ ts) us (m ∷ ms) ns e =
      pairs_cons t (ts ++ us) m (ms ++ ns) ∙ ap (λ (x : List Entry). pair t m ∷ x) (pairs-append ts us ms ns (suc_inj e))
      ∙ ap (λ (x : List Entry). x ++ pairs us ns) (sym (pairs_cons t ts m ms))

  row-pairs : (x : Lookup) → x.exclusive ≡ false → row_entries p x vals ≡ pairs x.tuples x.multiplicities
  unfolding row_entries entry_of count_of pairs
  row-pairs x e =
      ap (λ (b : Bool). tab (λ k. record { tuple = map (word vals) (get_or x.tuples k []); count = mul_m p (word vals (word x.multiplicities k)) (cond b (word vals (word x.flags k)) 1) }) 0 (length x.tuples)) e

  rows-pairs : (xs : List Lookup) → Each Additive xs
      → flat_map (λ (x : Lookup). row_entries p x vals) xs ≡ pairs (flat_map (λ (x : Lookup). x.tuples) xs) (flat_map (λ (x : Lookup). x.multiplicities) xs)
  unfolding flat_map
  rows-pairs [] a = sym (unfold pairs in tab_none (λ k. pair (get_or [] k []) (word [] k)) 0)
  rows-pairs (x ∷ xs) a =
      ap₂ (λ (u v : List Entry). u ++ v) (row-pairs x a.0.plain) (rows-pairs xs a.1)
      ∙ sym (pairs-append x.tuples (flat_map (λ (x : Lookup). x.tuples) xs) x.multiplicities (flat_map (λ (x : Lookup). x.multiplicities) xs) a.0.aligned)

module _ (p : ℕ) (t : Table) where
  abbrev at : Lookup → Member
  at x = record { table = t; lookup = x }

  abbrev vals : ℕ → List ℕ
  vals r = row_values p t.nodes t.traces r

  abbrev height : ℕ
  height = t.traces.shape.height

  abbrev enters : Lookup → List Entry
  enters x = member_entries p (at x)

  by_rows : (xs : List Lookup) (l : List ℕ)
      → tally (flat_map enters xs) l ≡ total (λ r. tally (flat_map (λ (x : Lookup). row_entries p x (vals r)) xs) l) height
  unfolding flat_map member_entries
  by_rows [] l = unfold tally in sym (total-zero height)
  by_rows (x ∷ xs) l =
      tally-append (enters x) (flat_map enters xs) l
      ∙ ap₂ ◌+◌ (tally-joined (λ r. row_entries p x (vals r)) height l) (by_rows xs l)
      ∙ sym (total-add (λ r. tally (row_entries p x (vals r)) l) (λ r. tally (flat_map (λ (y : Lookup). row_entries p y (vals r)) xs) l) height)
      ∙ total_cong (λ r. tally (row_entries p x (vals r)) l + tally (flat_map (λ (y : Lookup). row_entries p y (vals r)) xs) l)
      (λ r. tally (row_entries p x (vals r) ++ flat_map (λ (y : Lookup). row_entries p y (vals r)) xs) l) height
      (λ r h. sym (tally-append (row_entries p x (vals r)) (flat_map (λ (y : Lookup). row_entries p y (vals r)) xs) l))

  -- additive lookups with the same tuples and multiplicities
  additive-same : (xs ys : List Lookup) → Each Additive xs → Each Additive ys
      → flat_map (λ (x : Lookup). x.tuples) xs ≡ flat_map (λ (x : Lookup). x.tuples) ys
      → flat_map (λ (x : Lookup). x.multiplicities) xs ≡ flat_map (λ (x : Lookup). x.multiplicities) ys → (l : List ℕ) → tally (flat_map enters xs) l ≡ tally (flat_map enters ys) l
  additive-same xs ys a b et em l =
      by_rows xs l
      ∙ total_cong (λ r. tally (flat_map (λ (x : Lookup). row_entries p x (vals r)) xs) l) (λ r. tally (flat_map (λ (x : Lookup). row_entries p x (vals r)) ys) l) height
      (λ r h. ap (λ (es : List Entry). tally es l) (rows-pairs p (vals r) xs a ∙ ap₂ (pairs p (vals r)) et em ∙ sym (rows-pairs p (vals r) ys b)))
      ∙ sym (by_rows ys l)

-- a table's own lookups
keep-map : {A B : Type 0} (f : B → Bool) (g : A → B) (xs : List A) → keep f (map g xs) ≡ map g (keep (λ x. f (g x)) xs)
unfolding keep
keep-map f g [] = refl
keep-map {A} {B} f g (x ∷ xs) = go (f (g x)) (keep-map f g xs)
  where
    go : (b : Bool) → keep f (map g xs) ≡ map g (keep (λ x. f (g x)) xs)
        → cond b (g x ∷ keep f (map g xs)) (keep f (map g xs)) ≡ map g (cond b (x ∷ keep (λ x. f (g x)) xs) (keep (λ x. f (g x)) xs))
    go true e = ap (λ (l : List B). g x ∷ l) e
    go false e = e

map-map : (p : ℕ) (t : Table) (xs : List Lookup) → map (member_entries p) (map (at p t) xs) ≡ map (enters p t) xs
map-map p t [] = refl
map-map p t (x ∷ xs) = ap (λ (l : List (List Entry)). enters p t x ∷ l) (map-map p t xs)

flat-map : (p : ℕ) (t : Table) (xs : List Lookup) → entries p (map (at p t) xs) ≡ flat_map (enters p t) xs
unfolding entries flat_map
flat-map p t [] = refl
flat-map p t (x ∷ xs) = ap (λ (l : List Entry). enters p t x ++ l) (flat-map p t xs)

abbrev on_bus : List ℕ → Lookup → Bool
on_bus bus x = not x.local && same_list bus x.name

own-locals : (p : ℕ) (t : Table)
    → map (member_entries p) (keep local (members_of t)) ≡ map (enters p t) (keep (λ (x : Lookup). x.local) (lookups_of t.lookups))
own-locals p t =
    ap (map (member_entries p)) (keep-map local (at p t) (lookups_of t.lookups))
    ∙ map-map p t (keep (λ (x : Lookup). x.local) (lookups_of t.lookups))

own-bus : (p : ℕ) (bus : List ℕ) (t : Table)
    → entries p (keep (on bus) (members_of t)) ≡ flat_map (enters p t) (keep (on_bus bus) (lookups_of t.lookups))
own-bus p bus t =
    ap (entries p) (keep-map (on bus) (at p t) (lookups_of t.lookups)) ∙ flat-map p t (keep (on_bus bus) (lookups_of t.lookups))

-- a lookup enters the same in the other table, and under another number
module _ (p : ℕ) (t : Table) where
  enters_in : (u : Table) → u.traces ≡ t.traces → u.nodes ≡ t.nodes → (x : Lookup) → enters p u x ≡ enters p t x
  unfolding member_entries
  enters_in u et en x = ap₂ (λ (n : List ℕ) (s : Traces). joined (λ r. row_entries p x (row_values p n s r)) 0 s.shape.height) en et

  map_in : (u : Table) → u.traces ≡ t.traces → u.nodes ≡ t.nodes → (xs : List Lookup) → map (enters p u) xs ≡ map (enters p t) xs
  map_in u et en [] = refl
  map_in u et en (x ∷ xs) = ap₂ (λ (e : List Entry) (l : List (List Entry)). e ∷ l) (enters_in u et en x) (map_in u et en xs)

  enters-numbered : (k : ℕ) (x : Lookup) → enters p t (numbered k x) ≡ enters p t x
  unfolding member_entries row_entries entry_of count_of
  enters-numbered k x = refl

-- a bus: its exclusives and its additive lookups
abbrev chosen_on : List ℕ → Lookup → Bool
chosen_on bus x = on_bus bus x && x.exclusive

-- the sum over a list of lists of entries
unfoldable sums : List ℕ → List (List Entry) → ℕ
sums l [] = 0
sums l (es ∷ rest) = tally es l + sums l rest

module _ (p : ℕ) (t : Table) (l : List ℕ) where
  flat-sums : (xs : List Lookup) → tally (flat_map (enters p t) xs) l ≡ sums l (map (enters p t) xs)
  unfolding flat_map sums
  flat-sums [] = unfold tally in refl
  flat-sums (x ∷ xs) = tally-append (enters p t x) (flat_map (enters p t) xs) l ∙ ap (λ (n : ℕ). tally (enters p t x) l + n) (flat-sums xs)

  apart : (bus : List ℕ) (xs : List Lookup)
      → sums l (map (enters p t) (keep (on_bus bus) xs)) ≡ sums l (map (enters p t) (keep (chosen_on bus) xs)) + sums l (map (enters p t) (keep (additive_on bus) xs))
  unfolding keep sums
  apart bus [] = refl
  apart bus (x ∷ xs) = go x.local x.exclusive (same_list bus x.name) (apart bus xs)
    where
      A : List Lookup
      A = keep (on_bus bus) xs

      B : List Lookup
      B = keep (chosen_on bus) xs

      C : List Lookup
      C = keep (additive_on bus) xs

      S : List Lookup → ℕ
      S ys = sums l (map (enters p t) ys)

      more : (ys : List Lookup) → S (x ∷ ys) ≡ tally (enters p t x) l + S ys
      more ys = unfold sums in refl

      go : (a e s : Bool) → S A ≡ S B + S C
          → S (cond (not a && s) (x ∷ A) A) ≡ S (cond ((not a && s) && e) (x ∷ B) B) + S (cond (not (a || e) && s) (x ∷ C) C)
      go true e s ih = ih
      go false true true ih =
          more A ∙ (let k : tally (enters p t x) l + S A ≡ (tally (enters p t x) l + S B) + S C = omega (arith, ih) in k)
          ∙ ap (λ (n : ℕ). n + S C) (sym (more B))
      go false false true ih =
          more A ∙ (let k : tally (enters p t x) l + S A ≡ S B + (tally (enters p t x) l + S C) = omega (arith, ih) in k)
          ∙ ap (λ (n : ℕ). S B + n) (sym (more C))
      go false true false ih = ih
      go false false false ih = ih

-- traces and nodes as they were, and the packed lookups
record Packs (deg : ℕ → ℕ) (limit : ℕ) (t u : Table) : Type 0 where
  traces : u.traces ≡ t.traces
  nodes : u.nodes ≡ t.nodes
  lookups : lookups_of u.lookups ≡ packed deg limit t.lookups

opened : (limit : ℕ) (nodes : List ℕ) (l : Lookups) → columns limit nodes l ≡ packed (node_degrees 0 nodes) limit l
unfolding columns
opened limit nodes l = refl

-- what the lists of a table have that passed refusals 1 and 5
pub record Listed (t : Table) : Type 0 where
  pub fitting : Fitting t.lookups
  pub agreeing : Agreeing (node_count t.nodes) t.lookups

sound_packed : {t : Table} → Listed t → (limit : ℕ) → Each Aligned (packed (node_degrees 0 t.nodes) limit t.lookups)
sound_packed {t} f limit =
    subst (Each Aligned) (opened limit t.nodes t.lookups) (columns_sound t.nodes t.lookups f.fitting f.agreeing limit)

packs : {t u : Table} (k : IsPacked t u) → Packs (node_degrees 0 t.nodes) k.limit t u
packs {t} {u} k =
    record {
      traces = ap (λ (x : Table). x.traces) k.packed;
      nodes = ap (λ (x : Table). x.nodes) k.packed;
      lookups =
          ap (λ (x : Table). lookups_of x.lookups) k.packed ∙ columns-back k.limit t.nodes t.lookups
          ∙ opened k.limit t.nodes t.lookups;
    }

-- The packed table says the same.
packed-same : (p : ℕ) (deg : ℕ → ℕ) (limit : ℕ) (t u : Table) → Each Aligned (lookups_of t.lookups)
    → Each Aligned (packed deg limit t.lookups) → Packs deg limit t u → Same p t u
packed-same p deg limit t u own_sound packed_sound k =
    record {
      locals =
          own-locals p t
          ∙ sym (passed_on (enters p t) (enters-numbered p t) (λ (x : Lookup). x.local) (λ k x. refl) is_local deg limit t.lookups)
          ∙ sym (own-locals p u ∙ map_in p t u k.traces k.nodes (keep (λ (x : Lookup). x.local) (lookups_of u.lookups)) ∙ ap (λ (xs : List Lookup). map (enters p t) (keep (λ (x : Lookup). x.local) xs)) k.lookups);
      buses = λ bus l. count-tally (entries p (keep (on bus) (members_of t))) l ∙ before bus l
          ∙ sym (count-tally (entries p (keep (on bus) (members_of u))) l ∙ after bus l);
    }
  where
    ls : List Lookup
    ls = lookups_of t.lookups

    ps : List Lookup
    ps = packed deg limit t.lookups

    is_local : (x : Lookup) → x.local ≡ true → passes x ≡ true
    is_local x e = ap (λ (b : Bool). b || x.exclusive) e

    is_chosen : (bus : List ℕ) (x : Lookup) → chosen_on bus x ≡ true → passes x ≡ true
    is_chosen bus x e = go x.local x.exclusive (same_list bus x.name) e
      where
        go : (b c s : Bool) → ((not b && s) && c) ≡ true → (b || c) ≡ true
        go true c s q = refl
        go false true s q = refl
        go false false true q = q
        go false false false q = q

    S : List ℕ → List Lookup → ℕ
    S l xs = sums l (map (enters p t) xs)

    -- on the bus of t, and of the packed table
    before : (bus l : List ℕ)
        → tally (entries p (keep (on bus) (members_of t))) l ≡ S l (keep (chosen_on bus) ps) + S l (keep (additive_on bus) ps)
    before bus l =
        ap (λ (es : List Entry). tally es l) (own-bus p bus t) ∙ flat-sums p t l (keep (on_bus bus) ls) ∙ apart p t l bus ls
        ∙ ap₂ ◌+◌ (ap (sums l) (sym (passed_on (enters p t) (enters-numbered p t) (chosen_on bus) (λ k x. refl) (is_chosen bus) deg limit t.lookups)))
        (sym (flat-sums p t l (keep (additive_on bus) ls))
        ∙ additive-same p t (keep (additive_on bus) ls) (keep (additive_on bus) ps) (kept-additive bus ls own_sound) (kept-additive bus ps packed_sound)
        (sym ((packing_keeps deg limit t.lookups).tuples bus)) (sym ((packing_keeps deg limit t.lookups).multiplicities bus)) l
        ∙ flat-sums p t l (keep (additive_on bus) ps))

    after : (bus l : List ℕ)
        → tally (entries p (keep (on bus) (members_of u))) l ≡ S l (keep (chosen_on bus) ps) + S l (keep (additive_on bus) ps)
    after bus l =
        ap (λ (es : List Entry). tally es l) (own-bus p bus u) ∙ flat-sums p u l (keep (on_bus bus) (lookups_of u.lookups))
        ∙ ap (sums l) (map_in p t u k.traces k.nodes (keep (on_bus bus) (lookups_of u.lookups)))
        ∙ ap (λ (xs : List Lookup). S l (keep (on_bus bus) xs)) k.lookups
        ∙ apart p t l bus ps

pub all_same : (p : ℕ) (ts us : List Table) → Each Listed ts → AllPacked ts us → AllSame p ts us
all_same p [] [] f k = tt
all_same p [] (u ∷ us) f k = absurd k
all_same p (t ∷ ts) [] f k = absurd k
all_same p (t ∷ ts) (u ∷ us) f k =
    (packed-same p (node_degrees 0 t.nodes) k.0.limit t u (lookups_sound t.nodes t.lookups f.0.fitting f.0.agreeing) (sound_packed f.0 k.0.limit) (packs k.0), all_same p ts us f.1 k.1)
