-- A table as a tuple rule reads it. SPECIFICATION, section 4.2: "Rule 2 is rule 1 of the table in which each tuple is reversed."
use Rattle.std.specs.Prelude.{ℕ, cond, List, [], ◌∷◌, ◌++◌, reverse, eqb, take, drop}
use Rattle.lookup.specs.Lookups.{Lookups, lent_lookups}
use Rattle.lookup.specs.Table.{Table}

-- the element nodes of tuples of these widths, each tuple reversed; what lies past the last tuple stays
unfoldable pub reversed : List ℕ → List ℕ → List ℕ
reversed [] elements = elements
reversed (width ∷ widths) elements = reverse (take width elements) ++ reversed widths (drop width elements)

-- the element nodes as a rule takes them
unfoldable pub elements_under : ℕ → List ℕ → List ℕ → List ℕ
elements_under rule tuples elements = cond (eqb rule 2) (reversed tuples elements) elements

abbrev pub lookups_under : ℕ → Lookups → Lookups
lookups_under rule l =
    lent_lookups l.lookups l.names l.tuples l.multiplicities l.flags (elements_under rule l.tuples l.elements)

abbrev pub table_under : ℕ → Table → Table
table_under rule t = record { traces = t.traces; nodes = t.nodes; lookups = lookups_under rule t.lookups }
