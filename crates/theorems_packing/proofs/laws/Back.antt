-- The words of a list of lookups, read back.
use Rattle.std.specs.Prelude.{◌≡◌, Bool, eqb, drop, get_or, Err}
use Rattle.std.proofs.Math.Path.{refl, sym, ap, ap₂}
use Rattle.std.proofs.Common.{◌∙◌, subst, zero-add, length-append}
use Rattle.std.proofs.Math.Bool.{true, false, cond, not}
use Rattle.std.proofs.Math.Option.{Option}
use mathlib.Core.List.{List, [], ◌∷◌, ◌++◌, append_assoc, map, flat_map}
use Prim.Native.Nat.{ℕ, zero, suc, ◌+◌, ◌*◌, ◌<◌}
use native.Mathlib.Omega.{arith}
use Rattle.std.proofs.Math.Dec.{T}
use Rattle.std.proofs.Math.ListN.{length, take, get_or-append}
use Rattle.std.proofs.lemmas.List.{length-map}
use Rattle.std.proofs.Math.Seq.{get_or-append-add, drop-append-add, take_at}
use Rattle.lists.specs.Count.{total}
use Rattle.lists.specs.Tab.{tab}
use Rattle.lists.specs.laws.Tab.{tab_none, tab_cons, tab_cong}
use Rattle.lists.specs.laws.Sums.{total_head}
use Rattle.lists.specs.laws.Count.{true_of}
use Rattle.field.specs.Known.{prime_of}
use Rattle.expression.specs.Words.{word, low_half, high_half}
use Rattle.expression.specs.Choices.{known, limits_of}
use Rattle.expression.specs.Values.{bit}
use Rattle.lookup.specs.Lookups.{Lookups, Lookup, lookup_count, lookup_word, on_bus, name_length, exclusive, tuple_count, multiplicity_count, flag_count, name_start, tuple_start, multiplicity_start, flag_start, element_start, tuple_width, tuple_nodes, lookup_at, lookups_of}
use Rattle.lookup.specs.Requires.{Fitting}
use Rattle.expression.specs.declared.choices.Choices.{Choices}
use Rattle.expression.specs.declared.sizes.Limits.{Limits}
use Rattle.expression.specs.declared.refusal.Refusal.{Refusal}
use Rattle.expression.specs.declared.refusal.Refusal.TheVariants.{SizeAtOdds}
use Rattle.lookup_degree.specs.Degree.{node_degrees}
use Rattle.packing.specs.Written.{lookup_words, words_of}
use Rattle.packing.specs.PackSameBus.{columns, outcome, packing, packing_at}
use Rattle.theorems_packing.specs.Packed.{WritesPacked, KnownWritesPacked}
use Rattle.theorems_packing.proofs.laws.Each.{Each, packed-each}

-- a local has no name
abbrev pub Unnamed : Lookup → Type 0
Unnamed x = x.local ≡ true → x.name ≡ []

-- a list of sizes with one more in front
total_shift : (f g : ℕ → ℕ) (a n : ℕ) → f 0 ≡ a → ((k : ℕ) → f (suc k) ≡ g k) → total f (suc n) ≡ a + total g n
total_shift f g a n e h = total_head f n ∙ ap₂ ◌+◌ e (ap (λ (q : ℕ → ℕ). total q n) (λ j k. h k j))

-- one tuple more in front: the widths, and where the elements begin
widths_cons : (t : List ℕ) (ws : List ℕ) (k : ℕ) → element_start (length t ∷ ws) (suc k) ≡ length t + element_start ws k
unfolding element_start
widths_cons t ws k = total_shift (word (length t ∷ ws)) (word ws) (length t) k refl (λ j. refl)

-- the tuples from their widths and elements, whatever follows
tuples-back : (ts : List (List ℕ)) (ws es : List ℕ)
    → tab (λ k. take (word (map (λ (t : List ℕ). length t) ts ++ ws) k) (drop (element_start (map (λ (t : List ℕ). length t) ts ++ ws) k) (flat_map (λ (t : List ℕ). t) ts ++ es))) 0 (length ts) ≡ ts
unfolding flat_map
tuples-back [] ws es = tab_none (λ k. take (word ws k) (drop (element_start ws k) es)) 0
tuples-back (t ∷ ts) ws es =
    tab_cons F (length ts)
    ∙ ap₂ (λ (x : List ℕ) (y : List (List ℕ)). x ∷ y) first (tab_cong (λ k. F (suc k)) G (length ts) (λ k _. later k) ∙ tuples-back ts ws es)
  where
    W : List ℕ
    W = map (λ (t : List ℕ). length t) ts ++ ws

    E : List ℕ
    E = flat_map (λ (t : List ℕ). t) ts ++ es

    F : ℕ → List ℕ
    F k = take (word (length t ∷ W) k) (drop (element_start (length t ∷ W) k) ((t ++ flat_map (λ (t : List ℕ). t) ts) ++ es))

    G : ℕ → List ℕ
    G k = take (word W k) (drop (element_start W k) E)

    first : F 0 ≡ t
    first =
        unfold element_start in unfold total in (ap (take (length t)) (append_assoc t (flat_map (λ (t : List ℕ). t) ts) es) ∙ take_at t E (length t) refl)

    later : (k : ℕ) → F (suc k) ≡ G k
    later k =
        ap₂ (λ (n : ℕ) (x : List ℕ). take (word W k) (drop n x)) (widths_cons t W k) (append_assoc t (flat_map (λ (t : List ℕ). t) ts) es)
        ∙ ap (take (word W k)) (drop-append-add t E (element_start W k))

-- a table with one lookup more in front
abbrev prepend : Lookup → Lookups → Lookups
prepend c l =
    record {
      lookups = lookup_words c ++ l.lookups;
      names = c.name ++ l.names;
      tuples = map (λ (t : List ℕ). length t) c.tuples ++ l.tuples;
      multiplicities = c.multiplicities ++ l.multiplicities;
      flags = c.flags ++ l.flags;
      elements = flat_map (λ (t : List ℕ). t) c.tuples ++ l.elements;
    }

-- all widths of some tuples are all their elements
widths-sum : (ts : List (List ℕ)) (ws : List ℕ) (k : ℕ)
    → element_start (map (λ (t : List ℕ). length t) ts ++ ws) (length ts + k) ≡ length (flat_map (λ (t : List ℕ). t) ts) + element_start ws k
unfolding flat_map
widths-sum [] ws k = ap (element_start ws) (zero-add k) ∙ sym (zero-add (element_start ws k))
widths-sum (t ∷ ts) ws k =
    let z : suc (length ts) + k ≡ suc (length ts + k) = omega arith in
    let W : List ℕ = map (λ (t : List ℕ). length t) ts ++ ws in
    ap (element_start (length t ∷ W)) z ∙ widths_cons t W (length ts + k)
    ∙ (let e : length t + element_start W (length ts + k) ≡ length (t ++ flat_map (λ (t : List ℕ). t) ts) + element_start ws k = omega (arith, widths-sum ts ws k, length-append t (flat_map (λ (t : List ℕ). t) ts)) in e)

module _ (c : Lookup) (un : Unnamed c) (l : Lookups) where
  abbrev L : Lookups
  L = prepend c l

  entry_later : (k f : ℕ) → lookup_word (lookup_words c ++ l.lookups) (suc k) f ≡ lookup_word l.lookups k f
  unfolding lookup_words
  entry_later k f =
      let z : 9 * suc k + f ≡ 9 + (9 * k + f) = omega arith in
      ap (λ (n : ℕ). word (lookup_words c ++ l.lookups) n) z ∙ get_or-append-add (lookup_words c) l.lookups (9 * k + f) 0

  name_later : (k : ℕ) → name_length (lookup_words c ++ l.lookups) (suc k) ≡ name_length l.lookups k
  name_later k = ap₂ (λ (s n : ℕ). cond (not (eqb s 0)) n 0) (entry_later k 0) (entry_later k 1)

  name-first : name_length (lookup_words c ++ l.lookups) 0 ≡ length c.name
  unfolding lookup_words
  name-first = go c.local refl
    where
      go : (b : Bool) → c.local ≡ b → cond (not (eqb (bit (not b)) 0)) (length c.name) 0 ≡ length c.name
      go true e = sym (ap length (un e))
      go false e = refl

  names-start : (k : ℕ) → name_start (lookup_words c ++ l.lookups) (suc k) ≡ length c.name + name_start l.lookups k
  unfolding name_start
  names-start k =
      total_shift (name_length (lookup_words c ++ l.lookups)) (name_length l.lookups) (length c.name) k name-first name_later

  tuples-start : (k : ℕ) → tuple_start (lookup_words c ++ l.lookups) (suc k) ≡ length c.tuples + tuple_start l.lookups k
  unfolding tuple_start
  tuples-start k =
      total_shift (tuple_count (lookup_words c ++ l.lookups)) (tuple_count l.lookups) (length c.tuples) k (unfold lookup_words in refl) (λ j. entry_later j 5)

  multiplicities-start : (k : ℕ)
      → multiplicity_start (lookup_words c ++ l.lookups) (suc k) ≡ length c.multiplicities + multiplicity_start l.lookups k
  unfolding multiplicity_start
  multiplicities-start k =
      total_shift (multiplicity_count (lookup_words c ++ l.lookups)) (multiplicity_count l.lookups) (length c.multiplicities) k (unfold lookup_words in refl) (λ j. entry_later j 6)

  flags-start : (k : ℕ) → flag_start (lookup_words c ++ l.lookups) (suc k) ≡ length c.flags + flag_start l.lookups k
  unfolding flag_start
  flags-start k =
      total_shift (flag_count (lookup_words c ++ l.lookups)) (flag_count l.lookups) (length c.flags) k (unfold lookup_words in refl) (λ j. entry_later j 7)

  -- a part of a list with one part more in front
  part_later : (xs ys : List ℕ) (n m s t : ℕ) → n ≡ m → s ≡ length xs + t → take n (drop s (xs ++ ys)) ≡ take m (drop t ys)
  part_later xs ys n m s t e g = ap₂ (λ (a b : ℕ). take a (drop b (xs ++ ys))) e g ∙ ap (take m) (drop-append-add xs ys t)

  nodes_later : (k j : ℕ) → tuple_nodes (prepend c l) (suc k) j ≡ tuple_nodes l k j
  unfolding tuple_nodes tuple_width
  nodes_later k j =
      let ws : List ℕ = map (λ (t : List ℕ). length t) c.tuples in
      let T : ℕ = tuple_start l.lookups k in
      let z : tuple_start (lookup_words c ++ l.lookups) (suc k) + j ≡ length c.tuples + (T + j) = omega (arith, tuples-start k) in
      let y : length c.tuples + (T + j) ≡ length ws + (T + j) = ap (λ (n : ℕ). n + (T + j)) (sym (length-map c.tuples (λ (t : List ℕ). length t))) in
      part_later (flat_map (λ (t : List ℕ). t) c.tuples) l.elements
      (word (ws ++ l.tuples) (tuple_start (lookup_words c ++ l.lookups) (suc k) + j)) (word l.tuples (T + j))
      (element_start (ws ++ l.tuples) (tuple_start (lookup_words c ++ l.lookups) (suc k) + j)) (element_start l.tuples (T + j))
      (ap (word (ws ++ l.tuples)) (z ∙ y) ∙ get_or-append-add ws l.tuples (T + j) 0)
      (ap (element_start (ws ++ l.tuples)) z ∙ widths-sum c.tuples l.tuples (T + j))

  pub later : (k : ℕ) → lookup_at (prepend c l) (suc k) ≡ lookup_at l k
  unfolding lookup_at
  later k =
      let on = entry_later k 0 in
      let we = ap₂ (λ (low high : ℕ). low + 4294967296 * high) (entry_later k 2) (entry_later k 8) in
      let co = entry_later k 3 in
      let ex = entry_later k 4 in
      let na = part_later c.name l.names _ _ _ _ (name_later k) (names-start k) in
      let mu = part_later c.multiplicities l.multiplicities _ _ _ _ (entry_later k 6) (multiplicities-start k) in
      let fl = part_later c.flags l.flags _ _ _ _ (entry_later k 7) (flags-start k) in
      let tu = tab_cong (tuple_nodes (prepend c l) (suc k)) (tuple_nodes l k) (tuple_count (lookup_words c ++ l.lookups) (suc k)) (λ j _. nodes_later k j) ∙ ap (λ (n : ℕ). tab (tuple_nodes l k) 0 n) (entry_later k 5) in
      λ j. record {
        local = not (not (eqb (on j) 0));
        name = na j;
        weight = we j;
        column = co j;
        exclusive = not (eqb (ex j) 0);
        tuples = tu j;
        multiplicities = mu j;
        flags = fl j;
      }

  mark_back : (b : Bool) → not (not (eqb (bit (not b)) 0)) ≡ b
  mark_back true = refl
  mark_back false = refl

  flag-back : (b : Bool) → not (eqb (bit b) 0) ≡ b
  flag-back true = refl
  flag-back false = refl

  pub now : lookup_at (prepend c l) 0 ≡ c
  unfolding lookup_at lookup_words name_start multiplicity_start flag_start total tuple_nodes tuple_width tuple_start
  now =
      let lo = mark_back c.local in
      let ex = flag-back c.exclusive in
      let we : low_half c.weight + 4294967296 * high_half c.weight ≡ c.weight = omega arith in
      let na = ap (λ (n : ℕ). take n (c.name ++ l.names)) name-first ∙ take_at c.name l.names (length c.name) refl in
      let mu = take_at c.multiplicities l.multiplicities (length c.multiplicities) refl in
      let fl = take_at c.flags l.flags (length c.flags) refl in
      let tu = tab_cong (tuple_nodes (prepend c l) 0) (λ k. take (word (map (λ (t : List ℕ). length t) c.tuples ++ l.tuples) k) (drop (element_start (map (λ (t : List ℕ). length t) c.tuples ++ l.tuples) k) (flat_map (λ (t : List ℕ). t) c.tuples ++ l.elements)))
      (length c.tuples) (λ k _. ap (λ (n : ℕ). take (word (map (λ (t : List ℕ). length t) c.tuples ++ l.tuples) n) (drop (element_start (map (λ (t : List ℕ). length t) c.tuples ++ l.tuples) n) (flat_map (λ (t : List ℕ). t) c.tuples ++ l.elements))) (zero-add k))
      ∙ tuples-back c.tuples l.tuples l.elements in
      λ j. record {
        local = lo j;
        name = na j;
        weight = we j;
        column = c.column;
        exclusive = ex j;
        tuples = tu j;
        multiplicities = mu j;
        flags = fl j;
      }

-- the lookups that the words of a list of lookups say are that list
words_long : (cs : List Lookup) → length (words_of cs).lookups ≡ 9 * length cs
unfolding words_of flat_map lookup_words
words_long [] = refl
words_long (c ∷ cs) = omega (arith, words_long cs)

pub count-back : (cs : List Lookup) → lookup_count (words_of cs).lookups ≡ length cs
count-back cs = let e : lookup_count (words_of cs).lookups ≡ length cs = omega (arith, words_long cs) in e

back : (cs : List Lookup) → Each Unnamed cs → tab (lookup_at (words_of cs)) 0 (length cs) ≡ cs
unfolding words_of flat_map
back [] u = tab_none (lookup_at (words_of [])) 0
back (c ∷ cs) u =
    tab_cons (lookup_at (words_of (c ∷ cs))) (length cs)
    ∙ ap₂ (λ (x : Lookup) (y : List Lookup). x ∷ y) (now c u.0 (words_of cs)) (tab_cong (λ k. lookup_at (words_of (c ∷ cs)) (suc k)) (lookup_at (words_of cs)) (length cs) (λ k _. later c u.0 (words_of cs) k) ∙ back cs u.1)

read_back : (cs : List Lookup) → Each Unnamed cs → lookups_of (words_of cs) ≡ cs
unfolding lookups_of
read_back cs u = ap (λ (n : ℕ). tab (lookup_at (words_of cs)) 0 n) (count-back cs) ∙ back cs u

-- the words of lookup i
abbrev pub nothing : Lookup
nothing = record { local = true; name = []; weight = 0; column = 0; exclusive = false; tuples = []; multiplicities = []; flags = [] }

pub word_back : (cs : List Lookup) → Each Unnamed cs → (i f : ℕ) → i < length cs → f < 9
    → lookup_word (words_of cs).lookups i f ≡ word (lookup_words (get_or cs i nothing)) f
unfolding words_of flat_map
word_back [] u i f h k = absurd (omega arith)
word_back (c ∷ cs) u zero f h k =
    let z : 9 * 0 + f ≡ f = omega arith in
    ap (word (lookup_words c ++ (words_of cs).lookups)) z
    ∙ get_or-append (lookup_words c) (words_of cs).lookups 0 f (unfold lookup_words in k)
word_back (c ∷ cs) u (suc i) f h k = entry_later c u.0 (words_of cs) i f ∙ word_back cs u.1 i f (omega arith) k

-- each list of the words is as long as the lookups say
names-fit : (cs : List Lookup) → Each Unnamed cs → length (words_of cs).names ≡ name_start (words_of cs).lookups (length cs)
unfolding words_of flat_map
names-fit [] u = unfold name_start in unfold total in refl
names-fit (c ∷ cs) u =
    length-append c.name (words_of cs).names ∙ ap (λ (n : ℕ). length c.name + n) (names-fit cs u.1)
    ∙ sym (names-start c u.0 (words_of cs) (length cs))

tuples-fit : (cs : List Lookup) → Each Unnamed cs → length (words_of cs).tuples ≡ tuple_start (words_of cs).lookups (length cs)
unfolding words_of flat_map
tuples-fit [] u = unfold tuple_start in unfold total in refl
tuples-fit (c ∷ cs) u =
    length-append (map (λ (t : List ℕ). length t) c.tuples) (words_of cs).tuples
    ∙ ap₂ ◌+◌ (length-map c.tuples (λ (t : List ℕ). length t)) (tuples-fit cs u.1)
    ∙ sym (tuples-start c u.0 (words_of cs) (length cs))

multiplicities-fit : (cs : List Lookup) → Each Unnamed cs
    → length (words_of cs).multiplicities ≡ multiplicity_start (words_of cs).lookups (length cs)
unfolding words_of flat_map
multiplicities-fit [] u = unfold multiplicity_start in unfold total in refl
multiplicities-fit (c ∷ cs) u =
    length-append c.multiplicities (words_of cs).multiplicities
    ∙ ap (λ (n : ℕ). length c.multiplicities + n) (multiplicities-fit cs u.1)
    ∙ sym (multiplicities-start c u.0 (words_of cs) (length cs))

flags-fit : (cs : List Lookup) → Each Unnamed cs → length (words_of cs).flags ≡ flag_start (words_of cs).lookups (length cs)
unfolding words_of flat_map
flags-fit [] u = unfold flag_start in unfold total in refl
flags-fit (c ∷ cs) u =
    length-append c.flags (words_of cs).flags ∙ ap (λ (n : ℕ). length c.flags + n) (flags-fit cs u.1)
    ∙ sym (flags-start c u.0 (words_of cs) (length cs))

elements-fit : (cs : List Lookup) → length (words_of cs).elements ≡ element_start (words_of cs).tuples (length (words_of cs).tuples)
unfolding words_of flat_map
elements-fit [] = unfold element_start in unfold total in refl
elements-fit (c ∷ cs) =
    let ws : List ℕ = map (λ (t : List ℕ). length t) c.tuples in
    length-append (flat_map (λ (t : List ℕ). t) c.tuples) (words_of cs).elements
    ∙ ap (λ (n : ℕ). length (flat_map (λ (t : List ℕ). t) c.tuples) + n) (elements-fit cs)
    ∙ sym (widths-sum c.tuples (words_of cs).tuples (length (words_of cs).tuples))
    ∙ ap (element_start (ws ++ (words_of cs).tuples)) (ap (λ (n : ℕ). n + length (words_of cs).tuples) (sym (length-map c.tuples (λ (t : List ℕ). length t))) ∙ sym (length-append ws (words_of cs).tuples))

pub words-fit : (cs : List Lookup) → Each Unnamed cs → Fitting (words_of cs)
words-fit cs u =
    let n : length cs ≡ lookup_count (words_of cs).lookups = sym (count-back cs) in
    record {
      lookups = words_long cs ∙ ap (λ (k : ℕ). 9 * k) n;
      names = names-fit cs u ∙ ap (name_start (words_of cs).lookups) n;
      tuples = tuples-fit cs u ∙ ap (tuple_start (words_of cs).lookups) n;
      multiplicities = multiplicities-fit cs u ∙ ap (multiplicity_start (words_of cs).lookups) n;
      flags = flags-fit cs u ∙ ap (flag_start (words_of cs).lookups) n;
      elements = elements-fit cs;
    }

-- every lookup of a table, and so every column, has a name only where it is on a bus
pub at_unnamed : (l : Lookups) (i : ℕ) → Unnamed (lookup_at l i)
unfolding lookup_at
at_unnamed l i = go (drop (name_start l.lookups i) l.names) (lookup_word l.lookups i 1) (on_bus l.lookups i)
  where
    go : (xs : List ℕ) (n : ℕ) (b : Bool) → not b ≡ true → take (cond b n 0) xs ≡ []
    go xs n true e = cc
    go xs n false e = refl

pub columns-unnamed : (limit : ℕ) (nodes : List ℕ) (l : Lookups) → Each Unnamed (columns limit nodes l)
unfolding columns
columns-unnamed limit nodes l = packed-each Unnamed l (λ i _. at_unnamed l i) (λ a b o s t. s) (λ k x s. s) (node_degrees 0 nodes) limit

-- the words that packing writes say its columns
pub columns-back : (limit : ℕ) (nodes : List ℕ) (l : Lookups) → lookups_of (words_of (columns limit nodes l)) ≡ columns limit nodes l
columns-back limit nodes l = read_back (columns limit nodes l) (columns-unnamed limit nodes l)

-- packing's own definition, at a table
pub writes_packed : (m : Limits) (p : ℕ) → WritesPacked m p (packing m p)
unfolding packing
writes_packed m p limit c t lent e = ap (λ (o : Option Refusal). outcome o (words_of (columns limit t.nodes t.lookups)) lent) e

packing-known : (c : Choices) → T (known c) → packing_at c ≡ packing (limits_of c.profile) (prime_of c.field)
unfolding packing_at
packing-known c k =
    λ i limit columns nodes l lent.
    cond (true_of (known c) k i) (packing (limits_of c.profile) (prime_of c.field) limit columns nodes l lent)
    (record { answer = Err SizeAtOdds; lists = lent })

-- at the entry point, in each field
pub known_writes_packed : KnownWritesPacked
known_writes_packed c k =
    subst (WritesPacked (limits_of c.profile) (prime_of c.field)) (sym (packing-known c k))
    (writes_packed (limits_of c.profile) (prime_of c.field))
