-- Packing keeps what the lookups say: one theorem.
use Rattle.std.specs.Prelude.{◌≡◌, refl, Bool, true, false, cond, not, ◌&&◌, List, [], ◌∷◌, ◌++◌, ℕ, leb, length}
use Rattle.std.proofs.Common.{sym, ◌∙◌, append-nil, length-append}
use Rattle.std.proofs.Math.Path.{ap}
use Rattle.std.proofs.lemmas.List.{append_cancel_left}
use Rattle.lookup.specs.Lookups.{Lookup, lookups_of}
use Rattle.lookup_degree.specs.Degree.{lookup_degree}
use Rattle.lookup_buses.specs.Order.{keep}
use Rattle.packing.specs.Packing.{passes, additive_on, on_one_bus, in_order, merged, joins, fill, filled, renumbered, packed}
use Rattle.lookup_buses.specs.laws.Order.{keep_append, keep_same}
use Rattle.packing.specs.Keeps.{PackingKeepsAll}
use Rattle.packing.proofs.laws.Columns.{and_both, on_one, packed_keeps, packed-sum, packed-within, order-passes, order-front}

-- a lookup that passes is a column of its own
fill-passes : (deg : ℕ → ℕ) (limit : ℕ) (c : Lookup) (ls : List Lookup) → passes c ≡ true → fill deg limit c ls ≡ c ∷ filled deg limit ls
unfolding fill filled
fill-passes deg limit c [] e = refl
fill-passes deg limit c (l ∷ ls) e = go (passes c) (additive_on c.name l) (leb (lookup_degree deg (merged c l)) limit) e
  where
    go : (b d t : Bool) → b ≡ true → cond ((not b && d) && t) (fill deg limit (merged c l) ls) (c ∷ fill deg limit l ls) ≡ c ∷ fill deg limit l ls
    go true d t e' = refl
    go false d t e' = cc

-- those in front stay in front, as they are
filled-front : (deg : ℕ → ℕ) (limit : ℕ) (ls xs : List Lookup) → filled deg limit (keep passes ls ++ xs) ≡ keep passes ls ++ filled deg limit xs
unfolding keep filled
filled-front deg limit [] xs = refl
filled-front deg limit (l ∷ ls) xs = go (passes l) refl (filled-front deg limit ls xs)
  where
    go : (b : Bool) → passes l ≡ b → filled deg limit (keep passes ls ++ xs) ≡ keep passes ls ++ filled deg limit xs
        → filled deg limit (cond b (l ∷ keep passes ls) (keep passes ls) ++ xs) ≡ cond b (l ∷ keep passes ls) (keep passes ls) ++ filled deg limit xs
    go true e ih = fill-passes deg limit l (keep passes ls ++ xs) e ∙ ap (λ (x : List Lookup). l ∷ x) ih
    go false e ih = ih

-- merging makes no lookup that passes
fill_keeps_passes : (deg : ℕ → ℕ) (limit : ℕ) (c : Lookup) (ls : List Lookup) → keep passes (fill deg limit c ls) ≡ keep passes (c ∷ ls)
unfolding fill keep
fill_keeps_passes deg limit c [] = refl
fill_keeps_passes deg limit c (l ∷ ls) = go (joins deg limit c l) refl (fill_keeps_passes deg limit (merged c l) ls) (fill_keeps_passes deg limit l ls)
  where
    go : (b : Bool) → joins deg limit c l ≡ b → keep passes (fill deg limit (merged c l) ls) ≡ keep passes (merged c l ∷ ls) → keep passes (fill deg limit l ls) ≡ keep passes (l ∷ ls)
        → keep passes (cond b (fill deg limit (merged c l) ls) (c ∷ fill deg limit l ls)) ≡ keep passes (c ∷ l ∷ ls)
    go true e ih ih' =
        let s = on_one c l (and_both (on_one_bus c l) (leb (lookup_degree deg (merged c l)) limit) e).0 in
        ih ∙ drops (passes c) (passes l) s.0 s.1
      where
        drops : (b d : Bool) → b ≡ false → d ≡ false → cond b (merged c l ∷ keep passes ls) (keep passes ls) ≡ cond b (c ∷ cond d (l ∷ keep passes ls) (keep passes ls)) (cond d (l ∷ keep passes ls) (keep passes ls))
        drops b d e f = rw (e, f)
    go false e ih ih' = ap (λ (x : List Lookup). cond (passes c) (c ∷ x) x) ih'

filled_keeps_passes : (deg : ℕ → ℕ) (limit : ℕ) (ls : List Lookup) → keep passes (filled deg limit ls) ≡ keep passes ls
unfolding filled
filled_keeps_passes deg limit [] = refl
filled_keeps_passes deg limit (l ∷ ls) = fill_keeps_passes deg limit l ls

-- What packing keeps: the record of specs/Keeps.antt, for every table.
pub packing_keeps : PackingKeepsAll
packing_keeps deg limit l = record {
  tuples = λ (bus : List ℕ). packed_keeps (λ (x : Lookup). x.tuples) (λ (a b : Lookup). refl) (λ (k : ℕ) (x : Lookup). refl) deg limit bus l;
  multiplicities = λ (bus : List ℕ). packed_keeps (λ (x : Lookup). x.multiplicities) (λ (a b : Lookup). refl) (λ (k : ℕ) (x : Lookup). refl) deg limit bus l;
  others = passed;
  weights = packed-sum (λ (x : Lookup). x.weight) (λ (a b : Lookup). refl) (λ (k : ℕ) (x : Lookup). refl) deg limit l;
  count = packed-sum (λ (x : Lookup). length x.tuples) (λ (a b : Lookup). length-append a.tuples b.tuples) (λ (k : ℕ) (x : Lookup). refl) deg limit l;
  within = packed-within deg limit l;
}
  where
    ls : List Lookup
    ls = lookups_of l

    front : (rest : List Lookup) × (in_order l ≡ keep passes ls ++ rest)
    front = order-front l

    fills : filled deg limit (in_order l) ≡ keep passes ls ++ filled deg limit front.0
    fills = ap (filled deg limit) front.1 ∙ filled-front deg limit ls front.0

    alone : keep passes (filled deg limit front.0) ≡ []
    alone =
        append_cancel_left (keep passes ls) (keep passes (filled deg limit front.0)) []
        (ap (λ (x : List Lookup). x ++ keep passes (filled deg limit front.0)) (sym (keep_same passes passes (λ (x : Lookup) e. e) ls))
        ∙ sym (keep_append passes (keep passes ls) (filled deg limit front.0))
        ∙ ap (keep passes) (sym fills)
        ∙ filled_keeps_passes deg limit (in_order l)
        ∙ order-passes l
        ∙ sym (append-nil (keep passes ls)))

    passed : (columns : List Lookup) × (packed deg limit l ≡ renumbered 0 (keep passes ls ++ columns)) × (keep passes columns ≡ [])
    passed = (filled deg limit front.0, unfold packed in ap (renumbered 0) fills, alone)
