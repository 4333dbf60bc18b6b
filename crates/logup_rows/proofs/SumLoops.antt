-- The turns of the loops that write rows: over the quotients of a lookup, over the lookups of a row, over rows.
use mathlib.Core.Path.{◌≡◌, refl, sym, ap, ap₂, ◌∙◌, subst}
use mathlib.Core.List.{List, ◌++◌, append-nil, append_assoc}
use Prim.Native.Nat.{ℕ, ◌+◌, ◌*◌, ◌-◌, ◌<◌, ◌≤◌, zero-le}
use native.Mathlib.Nat.{zero-add, add-zero, suc-mul, mul-le-mul_right, zero-mul}
use native.Mathlib.Numerals.{add-one}
use native.Mathlib.Omega.{arith}
use lib.ListN.{length, take, drop, length-append, length-take, take-append-drop}
use lib.Seq.{take_at}
use borrow.Rule.Slice.PartMut.{put_mid}
use Rattle.lists.specs.Count.{joined, total}
use Rattle.lists.specs.laws.Count.{joined-one, total-one, total_in}
use Rattle.lists.specs.laws.Filled.{Filled, filled_none, filled-part, filled-whole}
use Rattle.field.specs.declared.extension.Ext.{Ext}
use Rattle.field.specs.Ext.{ext_words}
use Rattle.field.specs.Element.{Word4, zero4, add4, sum4, element}
use Rattle.field.proofs.laws.Element.{four-sum4}
use Rattle.lookup.specs.Lookups.{lookup_words, lookup_count, tuple_count, tuple_start}
use Rattle.logup_column.specs.laws.Powers.{word-zero}
use Rattle.lists.specs.laws.Joined.{joined_length}
use Rattle.logup_rows.specs.inner.Sums.{sum_from, fraction_in, row_sum_in, running, row_in, Quotients, RowWritten}

pub record SumLoop (p : ℕ) (qs : List ℕ) (at n : ℕ) (sum : Ext) (k : ℕ) : Type 0 where
  pub cap : 4 * length qs < 18446744073709551616
  pub room : 4 * (at + n) ≤ length qs
  pub within : k ≤ n
  pub word4 : Word4 p (ext_words sum)
  pub sum≡ : ext_words sum ≡ sum4 p (λ k. element qs (at + k)) k

pub sum_loop_begins : {p : ℕ} {qs : List ℕ} {at n : ℕ} {sum : Ext} → 4 * length qs < 18446744073709551616 → 4 * (at + n) ≤ length qs → 1 < p → ext_words sum ≡ zero4 → SumLoop p qs at n sum 0
unfolding sum4
sum_loop_begins {p} c h big e = record { cap = c; room = h; within = zero-le; word4 = subst (Word4 p) (sym e) (word-zero p big); sum≡ = e }

pub sum_loop_turn : {p : ℕ} {qs : List ℕ} {at n : ℕ} {sum sum' q : Ext} {k : ℕ} → SumLoop p qs at n sum k → k < n → ext_words q ≡ element qs (at + k)
    → Word4 p (ext_words sum') × (ext_words sum' ≡ add4 p (ext_words sum) (ext_words q)) → SumLoop p qs at n sum' (k + 1)
unfolding sum4
sum_loop_turn {p} {k = k} s h eq (w, e) = record { cap = s.cap; room = s.room; within = omega arith; word4 = w; sum≡ = rw (add-one k) (e ∙ ap₂ (add4 p) s.sum≡ eq) }

pub sum_loop_ends : {p : ℕ} {qs : List ℕ} {at n : ℕ} {sum : Ext} {k : ℕ} → SumLoop p qs at n sum k → n ≤ k → Word4 p (ext_words sum) × (ext_words sum ≡ sum_from p qs at n)
unfolding sum_from
sum_loop_ends {p} {n = n} {k = k} s h = let e : k ≡ n = omega (arith, s.within) in (s.word4, s.sum≡ ∙ ap (sum4 p _) e)

-- i fractions of a row, after the accumulator
pub record FractionsLoop (p : ℕ) (lookups qs : List ℕ) (start : ℕ) (d : List ℕ) (n : ℕ) (out : List ℕ) (sum : Ext) (at i : ℕ) : Type 0 where
  pub cap : 4 * length d < 18446744073709551616
  pub cap_q : 4 * length qs < 18446744073709551616
  pub count : n ≡ lookup_count lookups
  pub words : length lookups ≡ lookup_words * n
  pub room : 4 * (start + tuple_start lookups n) ≤ length qs
  pub within : i ≤ n
  pub at≡ : at ≡ start + tuple_start lookups i
  pub size : length d ≡ 4 * n + 4
  pub len : length out ≡ 4 * n + 4
  pub out≡ : Filled d (take 4 d ++ joined (fraction_in p lookups qs start) 0 i) (4 * i + 4) out
  pub word4 : Word4 p (ext_words sum)
  pub sum≡ : ext_words sum ≡ sum4 p (fraction_in p lookups qs start) i

-- the accumulator was lent the first four words
pub put_length : {ys : List ℕ} (acc : Ext) (d : List ℕ) (n : ℕ) → length d ≡ 4 * n + 4 → ys ≡ ext_words acc → length (put_mid 0 (4 - 0) d ys) ≡ 4 * n + 4
put_length {ys} acc d n e y = (filled-part {i = 0} {e = 4} ys (filled_none {d = d}) (omega arith) (omega arith) (ap length y) (sym y)).len ∙ e

put_front : {ys : List ℕ} (acc : Ext) (d : List ℕ) → ys ≡ ext_words acc → take 4 (put_mid 0 (4 - 0) d ys) ≡ ext_words acc
put_front {ys} acc d y = take_at ys (drop 4 d) 4 (ap length y) ∙ y

pub fractions_loop_begins : {p : ℕ} {lookups qs : List ℕ} {start : ℕ} {d : List ℕ} {n : ℕ} {sum : Ext} → 4 * length d < 18446744073709551616 → 4 * length qs < 18446744073709551616
    → n ≡ lookup_count lookups → length lookups ≡ lookup_words * lookup_count lookups → 4 * (start + tuple_start lookups (lookup_count lookups)) ≤ length qs → length d ≡ 4 * lookup_count lookups + 4 → 1 < p → ext_words sum ≡ zero4
    → FractionsLoop p lookups qs start d n d sum start 0
unfolding joined sum4 tuple_start total
fractions_loop_begins {p} {lookups} {qs} {start} {d} {n} {sum} c cq e lw room ld big z =
    record {
      cap = c;
      cap_q = cq;
      count = e;
      words = omega arith;
      room = subst (λ (x : ℕ). 4 * (start + tuple_start lookups x) ≤ length qs) (sym e) room;
      within = zero-le;
      at≡ = sym (add-zero start);
      size = omega arith;
      len = omega arith;
      out≡ = record { is = sym (take-append-drop 4 d) ∙ ap (λ (x : List ℕ). x ++ drop 4 d) (sym (append-nil (take 4 d))); size = simp (length-append, length-take) (omega arith); room = omega arith; len = refl };
      word4 = subst (Word4 p) (sym z) (word-zero p big);
      sum≡ = z;
    }

module _ {p : ℕ} {lookups qs : List ℕ} {start : ℕ} {d : List ℕ} {n : ℕ} {out : List ℕ} {sum : Ext} {at i : ℕ} (s : FractionsLoop p lookups qs start d n out sum at i) (h : i < n) where
  -- the quotients of lookup i are there
  pub fractions_loop_room : {c : ℕ} → c ≡ tuple_count lookups i → 4 * (at + c) ≤ length qs
  unfolding tuple_start
  fractions_loop_room e = omega (arith, s.at≡, s.room, total_in (tuple_count lookups) i n h)

  pub fractions_loop_turn : {c : ℕ} {f sum' : Ext} (ys : List ℕ) → c ≡ tuple_count lookups i → ext_words f ≡ sum_from p qs at c → ys ≡ ext_words f
      → Word4 p (ext_words sum') × (ext_words sum' ≡ add4 p (ext_words sum) (ext_words f)) → FractionsLoop p lookups qs start d n (put_mid (4 * i + 4) (4 * i + 8 - (4 * i + 4)) out ys) sum' (at + c) (i + 1)
  unfolding sum4 fraction_in tuple_start
  fractions_loop_turn {c} {f} {sum'} ys ec ef ey (w, es) =
      record {
        cap = s.cap;
        cap_q = s.cap_q;
        count = s.count;
        words = s.words;
        room = s.room;
        within = omega arith;
        at≡ = next;
        size = s.size;
        len = grown.len ∙ s.size;
        out≡ = subst (λ (x : ℕ). Filled d (take 4 d ++ joined fs 0 (i + 1)) x (put_mid (4 * i + 4) (4 * i + 8 - (4 * i + 4)) out ys)) more grown;
        word4 = w;
        sum≡ = rw (add-one i) (es ∙ ap₂ (add4 p) s.sum≡ is);
      }
    where
      fs : ℕ → List ℕ
      fs = fraction_in p lookups qs start

      is : ext_words f ≡ fs i
      is = ef ∙ ap₂ (sum_from p qs) s.at≡ ec

      next : at + c ≡ start + tuple_start lookups (i + 1)
      next = omega (arith, s.at≡, total-one (tuple_count lookups) i)

      more : 4 * i + 8 ≡ 4 * (i + 1) + 4
      more = omega arith

      grown : Filled d (take 4 d ++ joined fs 0 (i + 1)) (4 * i + 8) (put_mid (4 * i + 4) (4 * i + 8 - (4 * i + 4)) out ys)
      grown =
          filled-part ys s.out≡ (omega arith) (omega (arith, s.size)) (ap length ey ∙ omega arith)
          (ap (λ (y : List ℕ). take 4 d ++ y) (joined-one fs 0 i ∙ ap (λ (y : List ℕ). joined fs 0 i ++ y) (ap fs (zero-add i) ∙ sym is ∙ sym ey)) ∙ sym (append_assoc (take 4 d) (joined fs 0 i) ys))

pub fractions_loop_ends : {p : ℕ} {lookups qs : List ℕ} {start : ℕ} {n : ℕ} {out ys : List ℕ} {sum : Ext} {at i : ℕ} (acc : Ext) (d : List ℕ) → FractionsLoop p lookups qs start (put_mid 0 (4 - 0) d ys) n out sum at i → n ≤ i → ys ≡ ext_words acc
    → RowWritten p lookups qs start (ext_words acc) (ext_words sum) out
unfolding row_sum_in
fractions_loop_ends {p} {lookups} {qs} {start} {i = i} acc d s h y =
    let e : i ≡ lookup_count lookups = omega (arith, s.within, s.count) in
    record {
      below = s.word4;
      sum≡ = s.sum≡ ∙ ap (sum4 p (fraction_in p lookups qs start)) e;
      words≡ = filled-whole s.out≡ (omega (arith, s.size)) ∙ ap₂ (λ (a : List ℕ) (x : ℕ). a ++ joined (fraction_in p lookups qs start) 0 x) (put_front acc d y) e;
    }

fractions_in_length : (p : ℕ) (lookups qs : List ℕ) (start n : ℕ) → length (joined (fraction_in p lookups qs start) 0 n) ≡ 4 * n
unfolding fraction_in sum_from
fractions_in_length p lookups qs start n =
    joined_length (fraction_in p lookups qs start) 4 n (λ i. four-sum4 p (λ k. element qs (start + tuple_start lookups i + k)) (tuple_count lookups i))

-- j rows
pub record WriteRowsLoop (p : ℕ) (lookups qs : List ℕ) (size k : ℕ) (before : Ext) (wd : ℕ) (d out : List ℕ) (acc : Ext) (start at j : ℕ) : Type 0 where
  pub quotients : Quotients p qs
  pub words : length lookups ≡ lookup_words * lookup_count lookups
  pub cap : 4 * length d < 18446744073709551616
  pub cap_q : 4 * length qs < 18446744073709551616
  pub few : k ≤ 1048576
  pub wide : wd ≡ 4 * lookup_count lookups + 4
  pub size≡ : size ≡ tuple_start lookups (lookup_count lookups)
  pub qs_size : length qs ≡ 4 * (k * size)
  pub d_size : length d ≡ k * wd
  pub within : j ≤ k
  pub start≡ : start ≡ j * size
  pub at≡ : at ≡ j * wd
  pub len : length out ≡ length d
  pub out≡ : Filled d (joined (row_in p lookups qs size (ext_words before)) 0 j) at out
  pub word4 : Word4 p (ext_words acc)
  pub acc≡ : ext_words acc ≡ running p lookups qs size (ext_words before) j

pub write_rows_begins : {p : ℕ} {lookups qs : List ℕ} {size k : ℕ} {before : Ext} {wd : ℕ} {d : List ℕ} → Quotients p qs → length lookups ≡ lookup_words * lookup_count lookups
    → 4 * length d < 18446744073709551616 → 4 * length qs < 18446744073709551616 → k ≤ 1048576 → wd ≡ 4 * lookup_count lookups + 4 → size ≡ tuple_start lookups (lookup_count lookups) → length qs ≡ 4 * (k * size)
    → length d ≡ k * (4 * lookup_count lookups + 4) → Word4 p (ext_words before) → WriteRowsLoop p lookups qs size k before wd d d before 0 0 0
unfolding joined running
write_rows_begins {size = size} {k} {wd = wd} q lw c cq few ew es eq ed w =
    record {
      quotients = q;
      words = lw;
      cap = c;
      cap_q = cq;
      few = few;
      wide = ew;
      size≡ = es;
      qs_size = eq;
      d_size = ed ∙ ap (λ (x : ℕ). k * x) (sym ew);
      within = zero-le;
      start≡ = sym (zero-mul size);
      at≡ = sym (zero-mul wd);
      len = refl;
      out≡ = filled_none;
      word4 = w;
      acc≡ = refl;
    }

next_times : (a b m : ℕ) → a < b → a * m + m ≤ b * m
next_times a b m h = rw suc-mul at (mul-le-mul_right m h)

module _ {p : ℕ} {lookups qs : List ℕ} {size k : ℕ} {before : Ext} {wd : ℕ} {d out : List ℕ} {acc : Ext} {start at j : ℕ} (s : WriteRowsLoop p lookups qs size k before wd d out acc start at j) (h : j < k) where
  pub write_rows_in : at + wd ≤ length out
  write_rows_in = omega (arith, next_times j k wd h, s.at≡, s.d_size, s.len)

  pub write_rows_start : start + size ≤ k * size
  write_rows_start = omega (arith, next_times j k size h, s.start≡)

  pub write_rows_turn : {sum acc' : Ext} (ys : List ℕ)
      → RowWritten p lookups qs start (ext_words acc) (ext_words sum) ys
      → Word4 p (ext_words acc') × (ext_words acc' ≡ add4 p (ext_words acc) (ext_words sum)) → WriteRowsLoop p lookups qs size k before wd d (put_mid at (at + wd - at) out ys) acc' (start + size) (at + wd) (j + 1)
  unfolding running row_in
  write_rows_turn {sum} {acc'} ys row (w, ea) =
      record {
        quotients = s.quotients;
        words = s.words;
        cap = s.cap;
        cap_q = s.cap_q;
        few = s.few;
        wide = s.wide;
        size≡ = s.size≡;
        qs_size = s.qs_size;
        d_size = s.d_size;
        within = omega arith;
        start≡ = rw (add-one j, suc-mul j size, s.start≡);
        at≡ = rw (add-one j, suc-mul j wd, s.at≡);
        len = grown.len;
        out≡ = grown;
        word4 = w;
        acc≡ = rw (add-one j) (ea ∙ ap₂ (add4 p) s.acc≡ (row.sum≡ ∙ ap (row_sum_in p lookups qs) s.start≡));
      }
    where
      is : ys ≡ row_in p lookups qs size (ext_words before) j
      is = row.words≡ ∙ ap₂ (λ (a : List ℕ) (x : ℕ). a ++ joined (fraction_in p lookups qs x) 0 (lookup_count lookups)) s.acc≡ s.start≡

      long : length ys ≡ at + wd - at
      long = ap length row.words≡ ∙ simp length-append (omega (arith, fractions_in_length p lookups qs start (lookup_count lookups), s.wide))

      grown : Filled d (joined (row_in p lookups qs size (ext_words before)) 0 (j + 1)) (at + wd) (put_mid at (at + wd - at) out ys)
      grown =
          filled-part ys s.out≡ (omega arith) (omega (arith, write_rows_in, s.len)) long
          (joined-one (row_in p lookups qs size (ext_words before)) 0 j ∙ ap (λ (y : List ℕ). joined (row_in p lookups qs size (ext_words before)) 0 j ++ y) (ap (row_in p lookups qs size (ext_words before)) (zero-add j) ∙ sym is))
