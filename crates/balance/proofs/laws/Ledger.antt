-- A lookup's entries on a row are those of the table's ledger, and nets are told by sums of counts.
use Rattle.std.specs.Prelude.{◌≡◌, refl, Bool, true, false, ℕ, ◌+◌, ◌%◌, ◌<◌, take, drop}
use Rattle.std.proofs.Math.Path.{sym, ap, ap₂}
use Rattle.std.proofs.Common.{◌∙◌, mod-eq_of_lt, arith, get_or-take, get_or-drop}
use Rattle.std.proofs.Math.Bool.{cond}
use mathlib.Core.List.{List, [], ◌∷◌, map}
use Rattle.lists.specs.Fold.{fold}
use Rattle.lists.specs.Tab.{tab}
use Rattle.lists.specs.laws.Tab.{tab-length, tab_at, tab_cong}
use Rattle.lists.specs.laws.Joined.{joined-singles}
use Rattle.lists.specs.Same.{same_list}
use Rattle.field.specs.Word.{add_m, mul_m}
use Rattle.field.proofs.laws.Word.{add_m-below, mul_m-one}
use Rattle.expression.specs.Words.{word}
use Rattle.expression.specs.Requires.{Below}
use Rattle.lookup.specs.Lookups.{Lookups, exclusive, tuple_count, multiplicity_count, flag_count, multiplicity_start, flag_start, multiplicity_node, flag_node, tuple_nodes, lookup_at}
use Rattle.logup.specs.Tuple.{tuple}
use Rattle.logup.specs.Ledger as logup
use Rattle.balance_slots.specs.Nets.{net_of}
use Rattle.balance.specs.Entries.{count_of, entry_of, row_entries}
use Rattle.balance.proofs.laws.Sums.{tally, net-tally}

-- a word of a part of a list
pub part-word : (c s k : ℕ) (l : List ℕ) → k < c → word (take c (drop s l)) k ≡ word l (s + k)
part-word c s k l h = get_or-take c (drop s l) k 0 h ∙ get_or-drop s l k 0

-- the flag of a branch, if the lookup is exclusive
flagged : (p m f g : ℕ) (b : Bool) → m < p → (b ≡ true → f ≡ g) → mul_m p m (cond b f 1) ≡ cond b (mul_m p m g) m
flagged p m f g true h e = ap (mul_m p m) (e refl)
flagged p m f g false h e = mul_m-one p m h

-- one entry, by its record and by its words
module _ (p : ℕ) (l : Lookups) (vals : List ℕ) (b : Below p vals) (i : ℕ) (am : multiplicity_count l.lookups i ≡ tuple_count l.lookups i)
    (af : flag_count l.lookups i ≡ cond (exclusive l.lookups i) (tuple_count l.lookups i) 0) where
  entry_is : (k : ℕ) → k < tuple_count l.lookups i → entry_of p (lookup_at l i) vals k ≡ logup.entry p l vals i k
  unfolding entry_of count_of lookup_at logup.count tuple multiplicity_node flag_node
  entry_is k g =
      let m : word (take (multiplicity_count l.lookups i) (drop (multiplicity_start l.lookups i) l.multiplicities)) k ≡ word l.multiplicities (multiplicity_start l.lookups i + k) =
      part-word (multiplicity_count l.lookups i) (multiplicity_start l.lookups i) k l.multiplicities (omega (arith, am)) in
      ap₂ (λ (t : List ℕ) (c : ℕ). record { tuple = t; count = c }) (ap (map (word vals)) (tab_at (tuple_nodes l i) (tuple_count l.lookups i) k [] g))
      (ap (λ (x : ℕ). mul_m p (word vals x) (cond (exclusive l.lookups i) (word vals (word (take (flag_count l.lookups i) (drop (flag_start l.lookups i) l.flags)) k)) 1)) m
      ∙ flagged p (word vals (word l.multiplicities (multiplicity_start l.lookups i + k))) _ _ (exclusive l.lookups i) (b.each _)
      (λ x. ap (word vals) (part-word (flag_count l.lookups i) (flag_start l.lookups i) k l.flags
      (let y : flag_count l.lookups i ≡ tuple_count l.lookups i = af ∙ ap (λ (c : Bool). cond c (tuple_count l.lookups i) 0) x in omega arith))))

  -- one lookup on one row
  pub lookup_entries_is : row_entries p (lookup_at l i) vals ≡ logup.lookup_entries p l vals i
  unfolding row_entries logup.lookup_entries lookup_at
  lookup_entries_is =
      ap (tab (entry_of p (lookup_at l i) vals) 0) (tab-length (tuple_nodes l i) 0 (tuple_count l.lookups i))
      ∙ tab_cong (entry_of p (lookup_at l i) vals) (logup.entry p l vals i) (tuple_count l.lookups i) entry_is
      ∙ sym (joined-singles (logup.entry p l vals i) (tuple_count l.lookups i))

fold-below : (p : ℕ) → 0 < p → (es : List logup.Entry) (f : List ℕ → ℕ) (l : List ℕ) → f l < p → fold (logup.post p) f es l < p
unfolding fold logup.post
fold-below p z [] f l h = h
fold-below p z (e ∷ es) f l h = fold-below p z es (logup.post p f e) l (one (same_list e.tuple l))
  where
    one : (b : Bool) → cond b (add_m p (f l) e.count) (f l) < p
    one true = add_m-below p z (f l) e.count
    one false = h

-- a net is a word below p
pub net-below : (p : ℕ) → 0 < p → (es : List logup.Entry) (l : List ℕ) → net_of p es l < p
unfolding net_of
net-below p z es l = fold-below p z es (λ l. 0) l z

-- two lists of entries with the same sums have the same nets
pub net-same : (p : ℕ) → 0 < p → (xs ys : List logup.Entry) (l : List ℕ) → tally xs l ≡ tally ys l → net_of p xs l ≡ net_of p ys l
net-same p z xs ys l e =
    sym (mod-eq_of_lt (net-below p z xs l)) ∙ net-tally p xs l ∙ ap (λ (k : ℕ). k % p) e ∙ sym (net-tally p ys l) ∙ mod-eq_of_lt (net-below p z ys l)
