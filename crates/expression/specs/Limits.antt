-- The limits of SPECIFICATION, section 11, of each profile: how many tables there may be, how large each of them, and how high the degree of a
-- node.
use Rattle.std.specs.Prelude.{◌≤◌}
use Rattle.expression.specs.declared.sizes.Limits.{Limits}

unfoldable pub cabinet : Limits
cabinet =
    record {
      tables = 16;
      lookups = 64;
      tuples = 64;
      tuple_words = 8;
      nodes = 1024;
      main_columns = 256;
      pre_columns = 64;
      public_values = 64;
      height = 1048576;
      name_bytes = 16;
      degree = 255;
      prefixes = 256;
      prefix_width = 255;
    }

-- the gateway takes "8 lookups, 4 words a tuple and height 4,096; all else is the cabinet's"
unfoldable pub gateway : Limits
gateway =
    record {
      tables = cabinet.tables;
      lookups = 8;
      tuples = cabinet.tuples;
      tuple_words = 4;
      nodes = cabinet.nodes;
      main_columns = cabinet.main_columns;
      pre_columns = cabinet.pre_columns;
      public_values = cabinet.public_values;
      height = 4096;
      name_bytes = cabinet.name_bytes;
      degree = cabinet.degree;
      prefixes = cabinet.prefixes;
      prefix_width = cabinet.prefix_width;
    }

-- what the code asks of limits: its arrays hold a table within them, and no product or sum of sizes leaves 64 bits
pub record Sane (m : Limits) : Type 0 where
  pub tables : m.tables ≤ 16
  pub lookups : m.lookups ≤ 64
  pub tuples : m.tuples ≤ 64
  pub tuple_words : m.tuple_words ≤ 8
  pub nodes : m.nodes ≤ 1024
  pub main_columns : m.main_columns ≤ 4096
  pub pre_columns : m.pre_columns ≤ 4096
  pub height : m.height ≤ 1048576
  pub name_bytes : m.name_bytes ≤ 65535
  pub degree : m.degree ≤ 65535
  pub prefixes : m.prefixes ≤ 4294967295
  pub prefix_width : m.prefix_width ≤ 4294967295
