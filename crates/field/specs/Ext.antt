-- The four words of an `Ext`, as a list.
use Rattle.std.specs.Prelude.{List, [], ◌∷◌, ℕ}
use Rattle.field.specs.declared.extension.Ext.{Ext}

abbrev pub ext_words : Ext → List ℕ
ext_words a = a.c0 ∷ a.c1 ∷ a.c2 ∷ a.c3 ∷ []
