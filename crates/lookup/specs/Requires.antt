-- What lookups have that passed the tests: what the inner functions require.
use Rattle.std.specs.Prelude.{ℕ, ◌+◌, ◌*◌, ◌<◌, ◌≤◌, ◌≡◌, List, cond, length}
use Rattle.expression.specs.Words.{word}
use Rattle.expression.specs.declared.sizes.Limits.{Limits}
use Rattle.lookup.specs.Lookups.{Lookups, lookup_words, lookup_count, name_length, weight, exclusive, tuple_count, multiplicity_count, flag_count, name_start, tuple_start, multiplicity_start, flag_start, element_start}
use Rattle.lookup.specs.Tests.{weight_limit}

-- `lookups_within`
pub record Limited (m : Limits) (lookups tuples : List ℕ) : Type 0 where
  pub few_lookups : lookup_count lookups ≤ m.lookups
  pub few_tuples : length tuples ≤ m.tuples
  pub width : (j : ℕ) → word tuples j ≤ m.tuple_words
  pub name : (i : ℕ) → i < lookup_count lookups → name_length lookups i ≤ m.name_bytes
  pub weight : (i : ℕ) → i < lookup_count lookups → weight lookups i ≤ weight_limit lookups i

-- `lookups_fit`: each list is as long as the lookups say
pub record Fitting (l : Lookups) : Type 0 where
  pub lookups : length l.lookups ≡ lookup_words * lookup_count l.lookups
  pub names : length l.names ≡ name_start l.lookups (lookup_count l.lookups)
  pub tuples : length l.tuples ≡ tuple_start l.lookups (lookup_count l.lookups)
  pub multiplicities : length l.multiplicities ≡ multiplicity_start l.lookups (lookup_count l.lookups)
  pub flags : length l.flags ≡ flag_start l.lookups (lookup_count l.lookups)
  pub elements : length l.elements ≡ element_start l.tuples (length l.tuples)

-- `lists_agree`, with n nodes
pub record Agreeing (n : ℕ) (l : Lookups) : Type 0 where
  pub multiplicities_agree : (i : ℕ) → i < lookup_count l.lookups → multiplicity_count l.lookups i ≡ tuple_count l.lookups i
  pub flags_agree : (i : ℕ) → i < lookup_count l.lookups → flag_count l.lookups i ≡ cond (exclusive l.lookups i) (tuple_count l.lookups i) 0
  pub multiplicity : (k : ℕ) → k < length l.multiplicities → word l.multiplicities k < n
  pub flag : (k : ℕ) → k < length l.flags → word l.flags k < n
  pub element : (k : ℕ) → k < length l.elements → word l.elements k < n

-- where lookup i's own parts lie in the lists
pub record Placed (l : Lookups) (i : ℕ) : Type 0 where
  pub words : lookup_words * i + lookup_words ≤ length l.lookups
  pub names : name_start l.lookups i + name_length l.lookups i ≤ length l.names
  pub tuples : tuple_start l.lookups i + tuple_count l.lookups i ≤ length l.tuples
  pub multiplicities : multiplicity_start l.lookups i + multiplicity_count l.lookups i ≤ length l.multiplicities
  pub flags : flag_start l.lookups i + flag_count l.lookups i ≤ length l.flags

-- few enough lookups for the arrays, and all names lie in the list
pub record BusNames (lookups names : List ℕ) : Type 0 where
  pub few : lookup_count lookups ≤ 64
  pub room : name_start lookups (lookup_count lookups) ≤ length names
