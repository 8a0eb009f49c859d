-- A part begins at each record of a term's table, and any closed term put in its place gives a term again. By induction on the term, down
-- to the record. Assumes nothing.
--   Hole r k    the part of r that begins at record k, `here`, with what stands before and behind it; and r with another term there, `put`
use mathlib.Core.Path.{◌≡◌, refl, sym, ap, ◌∙◌}
use mathlib.Core.List.{List, [], ◌++◌, append_assoc, append-nil}
use Prim.Native.Nat.{ℕ, zero, suc, ◌+◌, ◌-◌, ◌*◌, ◌<◌}
use native.Mathlib.Decide.{dec_lt}
use native.Mathlib.Omega.{arith}
use lib.ListN.{length, take, drop, length-append}
use lib.Seq.{take_at, drop_at, drop-drop}
use Rattle.terms.specs.Term.{Term, app, lam, loc, con, var, size, Normal, Closed, Below, Ground}
use Rattle.terms.specs.Table.{record_bytes, encode}
use Rattle.terms.proofs.Table.{encode_length}
use Rattle.terms.proofs.Locals.{closed_more}
use Rattle.records.specs.Parts.{Part}
use Rattle.records.proofs.Parts.{part}
use Rattle.replacing.specs.Replacing.{splice}

pub record Hole (r : Term) (k : ℕ) : Type 0 where
  pub here : Term
  pub before : List ℕ
  pub behind : List ℕ
  pub put : Term → Term
  pub start : length before ≡ 4 * k
  pub is : encode r ≡ before ++ (encode here ++ behind)
  pub put_is : (u : Term) → before ++ (encode u ++ behind) ≡ encode (put u)
  pub put_size : (u : Term) → size (put u) + size here ≡ size r + size u
  pub put_closed : (d : ℕ) (u : Term) → Closed 0 u → Closed d r → Closed d (put u)
  pub put_below : (u : Term) → Below 0 u → Below 0 r → Below 0 (put u)
  pub normal : Normal r → Normal here
  pub ground : Ground r → Ground here

hole_all : (r : Term) → Hole r 0
hole_all r = record {
  here = r;
  before = [];
  behind = [];
  put = λ u. u;
  start = refl;
  is = sym (append-nil (encode r));
  put_is = λ u. append-nil (encode u);
  put_size = λ u. omega arith;
  put_closed = λ d u c h. closed_more 0 d u (omega arith) c;
  put_below = λ u b h. b;
  normal = λ n. n;
  ground = λ g. g;
}

hole_head : (f a : Term) (k : ℕ) → Hole f k → Hole (app f a) (suc k)
hole_head f a k x = record {
  here = x.here;
  before = record_bytes 0 0 x.before;
  behind = x.behind ++ encode a;
  put = λ u. app (x.put u) a;
  start = omega (arith, x.start);
  is = ap (record_bytes 0 0) (ap (◌++ encode a) x.is ∙ simp append_assoc);
  put_is = λ u. ap (record_bytes 0 0) (sym (ap (◌++ encode a) (sym (x.put_is u)) ∙ simp append_assoc));
  put_size = λ u. omega (arith, x.put_size u);
  put_closed = λ d u c h. (x.put_closed d u c h.0, h.1);
  put_below = λ u b h. (x.put_below u b h.0, h.1);
  normal = λ n. x.normal n.1;
  ground = λ g. x.ground g.0;
}

hole_argument : (f a : Term) (k j : ℕ) → k ≡ size f + j → Hole a j → Hole (app f a) (suc k)
hole_argument f a k j e x = record {
  here = x.here;
  before = record_bytes 0 0 (encode f ++ x.before);
  behind = x.behind;
  put = λ u. app f (x.put u);
  start = omega (arith, x.start, length-append (encode f) x.before, encode_length f);
  is = ap (record_bytes 0 0) (ap (encode f ++◌) x.is ∙ sym (append_assoc (encode f) x.before _));
  put_is = λ u. ap (record_bytes 0 0) (append_assoc (encode f) x.before _ ∙ ap (encode f ++◌) (x.put_is u));
  put_size = λ u. omega (arith, x.put_size u);
  put_closed = λ d u c h. (h.0, x.put_closed d u c h.1);
  put_below = λ u b h. (h.0, x.put_below u b h.1);
  normal = λ n. x.normal n.2;
  ground = λ g. x.ground g.1;
}

hole_body : (b : Term) (k : ℕ) → Hole b k → Hole (lam b) (suc k)
hole_body b k x = record {
  here = x.here;
  before = record_bytes 1 0 x.before;
  behind = x.behind;
  put = λ u. lam (x.put u);
  start = omega (arith, x.start);
  is = ap (record_bytes 1 0) x.is;
  put_is = λ u. ap (record_bytes 1 0) (x.put_is u);
  put_size = λ u. omega (arith, x.put_size u);
  put_closed = λ d u c h. x.put_closed (suc d) u c h;
  put_below = λ u c h. x.put_below u c h;
  normal = λ n. x.normal n.1;
  ground = λ g. x.ground g;
}

pub hole : (r : Term) (k : ℕ) → k < size r → Hole r k
hole (app f a) zero h = hole_all (app f a)
hole (app f a) (suc k) h = elim (dec_lt k (size f)) [
  | yes l ↦ hole_head f a k (hole f k l)
  | no l ↦ hole_argument f a k (k - size f) (omega arith) (hole a (k - size f) (omega arith))
]
hole (lam b) zero h = hole_all (lam b)
hole (lam b) (suc k) h = hole_body b k (hole b k (omega arith))
hole (loc n) zero h = hole_all (loc n)
hole (loc n) (suc k) h = absurd (omega arith)
hole (con n) zero h = hole_all (con n)
hole (con n) (suc k) h = absurd (omega arith)
hole (var n) zero h = hole_all (var n)
hole (var n) (suc k) h = absurd (omega arith)

-- the part in the table, and the table with another term in its place
module _ (l : List ℕ) (r : Term) (k : ℕ) (e : l ≡ encode r) (x : Hole r k) where
  split : l ≡ x.before ++ (encode x.here ++ x.behind)
  split = e ∙ x.is

  from_start : drop (4 * k) l ≡ encode x.here ++ x.behind
  from_start = ap (drop (4 * k)) split ∙ drop_at x.before _ (4 * k) x.start

  pub hole_part : Part l (4 * k) x.here
  hole_part = part l (4 * k) x.here x.behind from_start

  pub hole_put : (u : Term) → splice l (4 * k) (4 * k + 4 * size x.here) (encode u) ≡ encode (x.put u)
  hole_put u =
      let a : take (4 * k) l ≡ x.before = ap (take (4 * k)) split ∙ take_at x.before _ (4 * k) x.start in
      let b : drop (4 * k + 4 * size x.here) l ≡ x.behind =
      sym (drop-drop (4 * size x.here) (4 * k) l) ∙ ap (drop (4 * size x.here)) from_start
      ∙ drop_at (encode x.here) x.behind (4 * size x.here) (encode_length x.here) in
      rw (a, b) (x.put_is u)
