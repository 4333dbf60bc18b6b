-- The terminal that comes with a trace.
use Rattle.std.proofs.Math.Option.{Option, none, some}
use Rattle.std.specs.Prelude.{List, ℕ, Some, None}
use Rattle.std.specs.Prelude as Std
use Rattle.field.specs.Ext.{ext_words}
use Rattle.lookup.specs.declared.types.LookupTerminal.{LookupTerminal}

-- the four words of a terminal that is given
abbrev pub terminal_of : Std.Option LookupTerminal → Option (List ℕ)
terminal_of None = none
terminal_of (Some t) = some (ext_words t.0)
