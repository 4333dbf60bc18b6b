-- A refusal other than 1 is the same within wider limits, at each entry point.
use Rattle.std.specs.Prelude.{ℕ, ◌%◌, ◌/◌, ◌≡◌, ◌≢◌, Bool, true, false, ◌&&◌, List, [], ◌∷◌, eqb, length}
use Rattle.std.proofs.Math.Path.{refl}
use Rattle.std.proofs.Common.{ap, arith}
use Rattle.std.proofs.Math.Option.{Option, none, some}
use Rattle.std.proofs.Math.Dec.{leb, ltb}
use Rattle.lists.specs.Count.{or_else}
use Rattle.lists.specs.laws.Tests.{passed}
use Rattle.expression.specs.Refusal.{answer_number, unless}
use Rattle.expression.specs.Words.{all_below}
use Rattle.expression.specs.Node.{node_words}
use Rattle.expression.specs.Tests.{degrees_low}
use Rattle.expression.specs.declared.sizes.Limits.{Limits}
use Rattle.expression.specs.declared.refusal.Refusal.{Refusal}
use Rattle.expression.specs.declared.refusal.Refusal.TheVariants.{SizeAtOdds, NodeInvalid}
use Rattle.lookup.specs.Lookups.{Lookups, lookup_count}
use Rattle.lookup.specs.Table.{Table}
use Rattle.lookup.specs.Tests.{sizes}
use Rattle.lookup.specs.Order.{first_refusal}
use Rattle.lookup.specs.Refusals.{form_sizes, form_refusal}
use Rattle.lookup.specs.declared.refusals.Columns.{Columns}
use Rattle.lookup_count.specs.Count.{count_refusal, negation_refusal}
use Rattle.lookup_challenges.specs.Prefixes.{prefixes_fit, prefixes_refusal}
use Rattle.lookup_protocol.specs.Height.{tables_fit, height_refusal}
use Rattle.lookup_protocol.specs.Terminals.{terminal_words, terminal_count, terminals_refusal}
use Rattle.lookup_degree.specs.ConstraintDegree.{degree_refusal}
use Rattle.lookup_buses.specs.CheckBusWidths.{BusTables, all_fit}
use Rattle.lookup_builder.specs.FromInteractions.{Interactions, building_fits, lookups_built, built_refusal, building_refusal}
use Rattle.lookup_builder.specs.declared.answer.Kinds.{Kinds}
use Rattle.packing.specs.PackSameBus.{holds, packing_refusal}
use Rattle.logup.specs.Refusals.{logup_tests}
use Rattle.logup.specs.Generation.{entry_refusal}
use Rattle.logup.specs.Constraints.{trace_sizes, trace_words, constraints_refusal}
use Rattle.balance.specs.Tables.{TableLists, tables_of, lists_fit}
use Rattle.balance.specs.Refusals.{all, tables_refusal}
use Rattle.theorems_profiles.proofs.laws.Narrower.{Narrower, Passes, sizes_pass, form_pass, building_pass, widths_pass, heights_pass, count_pass, prefixes_pass, node-passes, tables_pass}

-- the second refusal is the first, unless that is 1
abbrev pub SameUnless1 : Option Refusal → Option Refusal → Type 0
SameUnless1 x y = answer_number x ≢ 1 → x ≡ y

-- any other says that the test of 1 passed
tested : (b : Bool) (later : Option Refusal) → answer_number (unless b SizeAtOdds later) ≢ 1 → b ≡ true
tested true later h = refl
tested false later h = absurd (h refl)

-- refusal 1, and what comes after it
pub unless-same : (a b : Bool) {x y : Option Refusal} → Passes a b → SameUnless1 x y → SameUnless1 (unless a SizeAtOdds x) (unless b SizeAtOdds y)
unless-same true b f g h = rw (f refl) (g h)
unless-same false b f g h = absurd (h refl)

pub or_else-same : (x : Option Refusal) {y : Option Refusal} (later : Option Refusal) → SameUnless1 x y → SameUnless1 (or_else x later) (or_else y later)
or_else-same none later g h = ap (λ r. or_else r later) (g (λ e. omega arith))
or_else-same (some f) later g h = ap (λ r. or_else r later) (g h)

-- a test that reads no limit, and what comes after it
pub test_same : (b : Bool) {x y : Option Refusal} → SameUnless1 x y → SameUnless1 (unless b SizeAtOdds x) (unless b SizeAtOdds y)
test_same b = unless-same b b (λ e. e)

module _ (m n : Limits) (k : Narrower m n) where
  -- generation and constraints share refusals 1 to 5: with what else is tested by 1 and by 2
  logup_same : (p : ℕ) (t : Table) (fit low : Bool) (later : Option Refusal)
      → SameUnless1 (first_refusal (logup_tests m p t fit low) later) (first_refusal (logup_tests n p t fit low) later)
  unfolding degrees_low
  logup_same p t fit low later h =
      let q = passed (sizes m t) (fit ∷ []) (tested (sizes m t && fit) _ h) in
      rw (q.0, sizes_pass m n k t q.0, k.degree) refl

  pub entry-same : (p w : ℕ) (t : Table) (challenges buffer : List ℕ)
      → SameUnless1 (entry_refusal m p w t challenges buffer) (entry_refusal n p w t challenges buffer)
  unfolding entry_refusal
  entry-same p w t challenges buffer = logup_same p t (eqb (length challenges % 4) 0) (all_below p challenges) _

  pub constraints-same : (p w : ℕ) (t : Table) (challenges : List ℕ) (width : ℕ) (words : List ℕ) (terminal : Option (List ℕ))
      → SameUnless1 (constraints_refusal m p w t challenges width words terminal) (constraints_refusal n p w t challenges width words terminal)
  unfolding constraints_refusal
  constraints-same p w t challenges width words terminal =
      logup_same p t (trace_sizes challenges t.traces.shape.height width words) (trace_words p challenges words terminal) _

  pub form_same : (p : ℕ) (c : Columns) (nodes : List ℕ) (l : Lookups) → SameUnless1 (form_refusal m p c nodes l) (form_refusal n p c nodes l)
  unfolding form_refusal degrees_low
  form_same p c nodes l h =
      let q = tested (form_sizes m c nodes l) _ h in
      rw (q, form_pass m n k c nodes l q, k.degree) refl

  pub degree-same : (p : ℕ) (c : Columns) (nodes : List ℕ) (l : Lookups) (i t : ℕ)
      → SameUnless1 (degree_refusal m p c nodes l i t) (degree_refusal n p c nodes l i t)
  unfolding degree_refusal
  degree-same p c nodes l i t =
      test_same (leb t 1 && ltb i (lookup_count l.lookups)) (form_same p c nodes l)

  pub packing-same : (p limit : ℕ) (c : Columns) (nodes : List ℕ) (l lent : Lookups)
      → SameUnless1 (packing_refusal m p limit c nodes l lent) (packing_refusal n p limit c nodes l lent)
  unfolding packing_refusal
  packing-same p limit c nodes l lent =
      test_same (holds lent l) (or_else-same (form_refusal m p c nodes l) _ (form_same p c nodes l))

  pub building-same : (p : ℕ) (c : Columns) (nodes : List ℕ) (kinds : Kinds) (g : Interactions) (room : ℕ)
      → SameUnless1 (building_refusal m p c nodes kinds g room) (building_refusal n p c nodes kinds g room)
  unfolding building_refusal built_refusal
  building-same p c nodes kinds g room =
      unless-same (building_fits m kinds g.interactions g.weights g.tuples room) (building_fits n kinds g.interactions g.weights g.tuples room)
      (building_pass m n k kinds g.interactions g.weights g.tuples room)
      (or_else-same (form_refusal m p c nodes (lookups_built kinds g)) _ (form_same p c nodes (lookups_built kinds g)))

  pub widths_same : (l : BusTables) (later : Option Refusal) → SameUnless1 (unless (all_fit m l) SizeAtOdds later) (unless (all_fit n l) SizeAtOdds later)
  widths_same l later = unless-same (all_fit m l) (all_fit n l) (widths_pass m n k l) (λ h. refl)

  pub height-same : (p : ℕ) (lookups counts heights : List ℕ)
      → SameUnless1 (height_refusal m p lookups counts heights) (height_refusal n p lookups counts heights)
  unfolding height_refusal
  height-same p lookups counts heights =
      unless-same (tables_fit m lookups counts heights) (tables_fit n lookups counts heights) (heights_pass m n k lookups counts heights) (λ h. refl)

  pub terminals-same : (p : ℕ) (ts : List ℕ) → SameUnless1 (terminals_refusal m p ts) (terminals_refusal n p ts)
  unfolding terminals_refusal
  terminals-same p ts =
      unless-same (eqb (length ts % terminal_words) 0 && leb (terminal_count ts) m.tables) (eqb (length ts % terminal_words) 0 && leb (terminal_count ts) n.tables)
      (count_pass m n k (eqb (length ts % terminal_words) 0) (terminal_count ts)) (λ h. refl)

  pub prefixes-same : (p : ℕ) (alpha beta : List ℕ) (width count : ℕ) (out : List ℕ)
      → SameUnless1 (prefixes_refusal m p alpha beta width count out) (prefixes_refusal n p alpha beta width count out)
  unfolding prefixes_refusal
  prefixes-same p alpha beta width count out =
      unless-same (prefixes_fit m alpha beta width count (length out / 4)) (prefixes_fit n alpha beta width count (length out / 4))
      (prefixes_pass m n k alpha beta width count (length out / 4)) (λ h. refl)

  -- counts: room for one node more, and what comes after that test
  node-same : (nodes : List ℕ) (used : ℕ) (later : Option Refusal)
      → SameUnless1 (unless (ltb used m.nodes && ltb used (length nodes / node_words)) SizeAtOdds later)
      (unless (ltb used n.nodes && ltb used (length nodes / node_words)) SizeAtOdds later)
  node-same nodes used later =
      unless-same (ltb used m.nodes && ltb used (length nodes / node_words)) (ltb used n.nodes && ltb used (length nodes / node_words))
      (node-passes m n k nodes used) (λ h. refl)

  pub count_same : (nodes : List ℕ) (used : ℕ) → SameUnless1 (count_refusal m nodes used) (count_refusal n nodes used)
  unfolding count_refusal
  count_same nodes used = node-same nodes used none

  pub negation_same : (nodes : List ℕ) (used node : ℕ) → SameUnless1 (negation_refusal m nodes used node) (negation_refusal n nodes used node)
  unfolding negation_refusal
  negation_same nodes used node = node-same nodes used (unless (ltb node used) NodeInvalid none)

  pub tables-same : (p : ℕ) (l : TableLists) → SameUnless1 (tables_refusal m p l) (tables_refusal n p l)
  unfolding tables_refusal degrees_low
  tables-same p l h =
      let q = tested (lists_fit m l && all (sizes m) (tables_of l)) _ h in
      rw (q, tables_pass m n k l q, k.degree) refl
