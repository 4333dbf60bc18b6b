-- From the tests that passed to what the functions require.
use Rattle.std.specs.Prelude.{◌≡◌, refl, Bool, true, false, cond, ◌||◌, List, [], ◌∷◌, ℕ, ◌*◌, ◌≤◌, ◌<◌, eqb, leb, ltb, length}
use Rattle.std.proofs.Common.{mul-le-mul_left, arith, eqb-true, leb-true}
use Rattle.field.specs.inner.Requires.{KnownPrime}
use Rattle.lists.specs.laws.Tests.{both_left, both_right, passed}
use Rattle.expression.specs.Words.{all_below}
use Rattle.expression.specs.Limits.{cabinet, gateway, Sane}
use Rattle.expression.specs.Choices.{limits_of}
use Rattle.expression.specs.Node.{node_count}
use Rattle.expression.specs.Window.{Traces}
use Rattle.expression.specs.Tests.{traces_within, nodes_within, traces_fit, traces_below, constants_below, nodes_known}
use Rattle.expression.specs.Requires.{Small, Evaluable}
use Rattle.expression.specs.laws.Below.{below-tested}
use Rattle.expression.specs.declared.sizes.Shape.{Shape}
use Rattle.expression.specs.declared.sizes.Limits.{Limits}

cabinet_sane : Sane cabinet
unfolding cabinet
cabinet_sane =
    record {
      tables = omega arith;
      lookups = omega arith;
      tuples = omega arith;
      tuple_words = omega arith;
      nodes = omega arith;
      main_columns = omega arith;
      pre_columns = omega arith;
      height = omega arith;
      name_bytes = omega arith;
      degree = omega arith;
      prefixes = omega arith;
      prefix_width = omega arith;
    }

gateway_sane : Sane gateway
unfolding gateway
gateway_sane =
    record {
      tables = cabinet_sane.tables;
      lookups = omega arith;
      tuples = cabinet_sane.tuples;
      tuple_words = omega arith;
      nodes = cabinet_sane.nodes;
      main_columns = cabinet_sane.main_columns;
      pre_columns = cabinet_sane.pre_columns;
      height = omega arith;
      name_bytes = cabinet_sane.name_bytes;
      degree = cabinet_sane.degree;
      prefixes = cabinet_sane.prefixes;
      prefix_width = cabinet_sane.prefix_width;
    }

-- the limits of a number are those of the gateway or of the cabinet
of_each_profile : (P : Limits → Type 0) → P cabinet → P gateway → (profile : ℕ) → P (limits_of profile)
unfolding limits_of
of_each_profile P one two profile = by (eqb profile 2)
  where
    by : (b : Bool) → P (cond b gateway cabinet)
    by true = two
    by false = one

pub limits_sane : (profile : ℕ) → Sane (limits_of profile)
limits_sane = of_each_profile Sane cabinet_sane gateway_sane

-- refusal 1: sizes within the limits are small
pub small-tested : (m : Limits) (s : Shape) (public_values : List ℕ) → Sane m → traces_within m s public_values ≡ true → Small s
unfolding traces_within
small-tested m s public_values g h =
    let k =
    passed (ltb 0 s.main_width)
    (leb s.main_width m.main_columns
    ∷ leb s.height m.height
    ∷ leb s.pre_width m.pre_columns
    ∷ leb s.pre_height m.height
    ∷ leb (length public_values) m.public_values
    ∷ [])
    h in
    let main_width = leb-true s.main_width m.main_columns k.1.0 in
    let height = leb-true s.height m.height k.1.1.0 in
    let pre_width = leb-true s.pre_width m.pre_columns k.1.1.1.0 in
    let pre_height = leb-true s.pre_height m.height k.1.1.1.1.0 in
    record {
      main_width = omega (arith, main_width, g.main_columns);
      height = omega (arith, height, g.height);
      pre_width = omega (arith, pre_width, g.pre_columns);
      pre_height = omega (arith, pre_height, g.height);
    }

pub few-tested : (m : Limits) (nodes : List ℕ) → Sane m → nodes_within m nodes ≡ true → node_count nodes ≤ 1024
unfolding nodes_within
few-tested m nodes g h = let k = leb-true (node_count nodes) m.nodes h in omega (arith, k, g.nodes)

-- refusal 9: the preprocessed trace has main's rows
pre_enough : (w h q n : ℕ) → n ≡ w * q → (b : Bool) → eqb w 0 ≡ b → (b || leb h q) ≡ true → w * h ≤ n
pre_enough w h q n e true z k = let w0 : w ≡ 0 = eqb-true w 0 z in rw w0 (omega arith)
pre_enough w h q n e false z k = rw e (mul-le-mul_left w (leb-true h q k))

-- refusals 1 to 3, and a preprocessed trace that is not shorter: each row may be evaluated
pub traces-tested : (m : Limits) (p : ℕ) (t : Traces) (nodes : List ℕ) → Sane m → KnownPrime p
    → nodes_within m nodes ≡ true → traces_fit t.shape t.main t.preprocessed ≡ true
    → traces_below p t ≡ true → constants_below p nodes ≡ true
    → nodes_known t.shape (length t.public_values) nodes ≡ true
    → (eqb t.shape.pre_width 0 || leb t.shape.height t.shape.pre_height) ≡ true
    → Evaluable p t nodes
unfolding traces_fit traces_below
traces-tested m p t nodes g o n₁ f₁ w₂ c₂ k₃ r₉ =
    let pos : 0 < p = omega (arith, o.big) in
    let ws = passed (all_below p t.main) (all_below p t.preprocessed ∷ all_below p t.public_values ∷ []) w₂ in
    let main_fits =
    eqb-true (length t.main) (t.shape.main_width * t.shape.height)
    (both_left (eqb (length t.main) (t.shape.main_width * t.shape.height)) (eqb (length t.preprocessed) (t.shape.pre_width * t.shape.pre_height)) f₁) in
    let pre_fits =
    eqb-true (length t.preprocessed) (t.shape.pre_width * t.shape.pre_height)
    (both_right (eqb (length t.main) (t.shape.main_width * t.shape.height)) (eqb (length t.preprocessed) (t.shape.pre_width * t.shape.pre_height)) f₁) in
    record {
      modulus = o;
      few = few-tested m nodes g n₁;
      rows =
          record {
            main_fits = omega (arith, main_fits);
            pre_fits = pre_enough t.shape.pre_width t.shape.height t.shape.pre_height (length t.preprocessed) pre_fits (eqb t.shape.pre_width 0) refl r₉;
            main_below = below-tested t.main pos ws.0;
            pre_below = below-tested t.preprocessed pos ws.1.0;
            public_below = below-tested t.public_values pos ws.1.1.0;
          };
      constants = c₂;
      known = k₃;
    }
