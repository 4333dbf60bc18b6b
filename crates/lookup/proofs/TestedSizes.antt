-- The sizes are tested for the limits first, so that the sums that follow fit.
use mathlib.Core.Path.{◌≡◌, sym, ◌∙◌}
use mathlib.Core.Bool.{Bool, true, ◌&&◌}
use mathlib.Core.List.{List, [], ◌∷◌}
use Prim.Native.Nat.{ℕ, ◌≤◌}
use native.Mathlib.Omega.{arith}
use lib.ListN.{length}
use Rattle.lists.specs.laws.Tests.{passed}
use Rattle.expression.specs.Limits.{Sane}
use Rattle.expression.specs.Node.{node_count}
use Rattle.expression.specs.Tests.{traces_within, nodes_within, nodes_fit}
use Rattle.expression.specs.Requires.{Small}
use Rattle.expression.specs.declared.sizes.Shape.{Shape}
use Rattle.expression.specs.declared.sizes.Limits.{Limits}
use Rattle.lookup.specs.Lookups.{Lookups, lookup_count}
use Rattle.lookup.specs.Refusals.{columns_within, form_sizes}
use Rattle.lookup.specs.declared.refusals.Columns.{Columns}
use Rattle.lookup.specs.Tests.{lookups_within, lookups_fit}
use Rattle.expression.specs.laws.Tested.{small-tested, few-tested}
use Rattle.lookup.specs.laws.Tested.{lookups-few}

-- the first and the last of three tests
pub small : {m : Limits} {a : Bool} (s : Shape) (public_values : List ℕ) (b c : Bool) → Sane m → a ≡ traces_within m s public_values → (a && b && c) ≡ true → Small s
small {m} {a} s public_values b c g e h = small-tested m s public_values g (sym e ∙ (passed a (b ∷ c ∷ []) h).0)

pub few : {m : Limits} {c : Bool} (lookups tuples : List ℕ) (a b : Bool) → Sane m → c ≡ lookups_within m lookups tuples → (a && b && c) ≡ true
    → (lookup_count lookups ≤ 4294967295) × (length tuples ≤ 4294967295)
few {m} {c} lookups tuples a b g e h =
    let k = lookups-few m lookups tuples g (sym e ∙ (passed a (b ∷ c ∷ []) h).1.1.0) in (omega (arith, k.0), omega (arith, k.1))

-- of a form that passed refusal 1
pub form_few_nodes : (m : Limits) (c : Columns) (nodes : List ℕ) (l : Lookups) → Sane m → form_sizes m c nodes l ≡ true → node_count nodes ≤ 1024
unfolding form_sizes
form_few_nodes m c nodes l g h =
    let k = passed (columns_within m c) (nodes_within m nodes ∷ lookups_within m l.lookups l.tuples ∷ nodes_fit nodes ∷ lookups_fit l ∷ []) h in
    few-tested m nodes g k.1.0
