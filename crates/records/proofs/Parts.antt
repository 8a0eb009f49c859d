-- Terms that stand in a table: their first record, their parts and where they end. By the term's kind, which its first record shows.
-- Assumes nothing.
use mathlib.Core.Path.{◌≡◌, refl, sym, ap, ◌∙◌, subst}
use mathlib.Core.List.{List, [], ◌∷◌, ◌++◌, append_assoc, append-nil}
use Prim.Native.Nat.{ℕ, ◌+◌, ◌-◌, ◌*◌, ◌<◌}
use native.Mathlib.Omega.{arith}
use lib.ListN.{length, get_or, take, drop, length-append, length-drop, length-take}
use lib.Seq.{drop-drop, drop_at, take_at, take_all}
use Rattle.terms.specs.Term.{Term, app, lam, loc, con, var, size}
use Rattle.terms.specs.Table.{record_bytes, encode}
use Rattle.terms.proofs.Table.{kind, number_of, encode_length, encode_inj}
use Rattle.terms.proofs.Substitute.{size_pos}
use Rattle.records.specs.Record.{parts, number_at}
use Rattle.records.specs.Parts.{slice, Part, Whole, Ends, Tree, Divided, Lies}
use Rattle.records.proofs.Record.{kind_read, number_read, rest_read}

-- the parts of a term, and the tables of terms one behind another
abbrev pub children : Term → List Term
children (app f a) = f ∷ a ∷ []
children (lam b) = b ∷ []
children (loc n) = []
children (con n) = []
children (var n) = []

abbrev pub tables : List Term → List ℕ
tables [] = []
tables (t ∷ ts) = encode t ++ tables ts

pub tables_append : (ts us : List Term) → tables (ts ++ us) ≡ tables ts ++ tables us
tables_append [] us = refl
tables_append (t ∷ ts) us = ap (encode t ++◌) (tables_append ts us) ∙ sym (append_assoc (encode t) (tables ts) (tables us))

pub children_length : (t : Term) → length (children t) ≡ parts (kind t)
children_length (app f a) = refl
children_length (lam b) = refl
children_length (loc n) = refl
children_length (con n) = refl
children_length (var n) = refl

-- a term's table is its first record and its parts
pub encode_first : (t : Term) → encode t ≡ record_bytes (kind t) (number_of t) (tables (children t))
encode_first (app f a) = ap (λ (x : List ℕ). record_bytes 0 0 (encode f ++ x)) (sym (append-nil (encode a)))
encode_first (lam b) = ap (record_bytes 1 0) (sym (append-nil (encode b)))
encode_first (loc n) = refl
encode_first (con n) = refl
encode_first (var n) = refl

pub part : (l : List ℕ) (at : ℕ) (t : Term) (rest : List ℕ) → drop at l ≡ encode t ++ rest → Part l at t
part l at t rest e = record {
  rest = rest;
  bytes = e;
  some = size_pos t;
  within = omega (arith, ap length e, length-append (encode t) rest, encode_length t, length-drop at l, size_pos t);
}

-- one term stands at a place, and its table there
pub part_one : (l : List ℕ) (at : ℕ) (s t : Term) → Part l at s → Part l at t → s ≡ t
part_one l at s t x y = (encode_inj s t x.rest y.rest (sym x.bytes ∙ y.bytes)).0

pub part_bytes : (l : List ℕ) (at n : ℕ) (t : Term) → Part l at t → n ≡ 4 * size t → take n (drop at l) ≡ encode t
part_bytes l at n t x e = ap (take n) x.bytes ∙ take_at (encode t) x.rest n (encode_length t ∙ sym e)

pub whole : (l : List ℕ) (at : ℕ) (t : Term) → Part l at t → Whole l at
whole l at t x = record { tree = t; part = x; least = omega (arith, x.some, x.within) }

-- the first record of a term that stands in a table
module _ (l : List ℕ) (at : ℕ) (t : Term) (x : Part l at t) where
  first : drop at l ≡ record_bytes (kind t) (number_of t) (tables (children t) ++ x.rest)
  first = x.bytes ∙ ap (◌++ x.rest) (encode_first t)

  pub kind_at : get_or l at 0 ≡ kind t
  kind_at = kind_read l at (kind t) (number_of t) (tables (children t) ++ x.rest) first

  pub number_at_lem : number_at l at ≡ number_of t
  number_at_lem = number_read l at (kind t) (number_of t) (tables (children t) ++ x.rest) first

  pub behind : drop (at + 4) l ≡ tables (children t) ++ x.rest
  behind = rest_read l at (kind t) (number_of t) (tables (children t) ++ x.rest) first

-- the parts of an application and of an abstraction
pub record Application (l : List ℕ) (at : ℕ) (t : Term) : Type 0 where
  pub f : Term
  pub a : Term
  pub is : t ≡ app f a
  pub head : Part l (at + 4) f
  pub argument : Part l (at + 4 + 4 * size f) a

pub record Abstraction (l : List ℕ) (at : ℕ) (t : Term) : Type 0 where
  pub b : Term
  pub is : t ≡ lam b
  pub body : Part l (at + 4) b

pub application : (l : List ℕ) (at : ℕ) (t : Term) → Part l at t → get_or l at 0 ≡ 0 → Application l at t
application l at (app f a) x k =
    let h : drop (at + 4) l ≡ encode f ++ (encode a ++ x.rest) =
    behind l at (app f a) x ∙ ap (λ (y : List ℕ). (encode f ++ y) ++ x.rest) (append-nil (encode a))
    ∙ append_assoc (encode f) (encode a) x.rest in
    let g : drop (at + 4 + 4 * size f) l ≡ encode a ++ x.rest =
    sym (drop-drop (4 * size f) (at + 4) l) ∙ ap (drop (4 * size f)) h
    ∙ drop_at (encode f) (encode a ++ x.rest) (4 * size f) (encode_length f) in
    record { f = f; a = a; is = refl; head = part l (at + 4) f _ h; argument = part l (at + 4 + 4 * size f) a _ g }
application l at (lam b) x k = absurd (omega (arith, kind_at l at (lam b) x))
application l at (loc n) x k = absurd (omega (arith, kind_at l at (loc n) x))
application l at (con n) x k = absurd (omega (arith, kind_at l at (con n) x))
application l at (var n) x k = absurd (omega (arith, kind_at l at (var n) x))

pub abstraction : (l : List ℕ) (at : ℕ) (t : Term) → Part l at t → get_or l at 0 ≡ 1 → Abstraction l at t
abstraction l at (lam b) x k =
    record { b = b; is = refl; body = part l (at + 4) b x.rest (behind l at (lam b) x ∙ ap (◌++ x.rest) (append-nil (encode b))) }
abstraction l at (app f a) x k = absurd (omega (arith, kind_at l at (app f a) x))
abstraction l at (loc n) x k = absurd (omega (arith, kind_at l at (loc n) x))
abstraction l at (con n) x k = absurd (omega (arith, kind_at l at (con n) x))
abstraction l at (var n) x k = absurd (omega (arith, kind_at l at (var n) x))

-- the parts of a known application or abstraction
pub application_parts : (l : List ℕ) (at : ℕ) (f a : Term) → Part l at (app f a) → Part l (at + 4) f × Part l (at + 4 + 4 * size f) a
application_parts l at f a x =
    let v = application l at (app f a) x (kind_at l at (app f a) x) in
    let p : v.f ≡ f = cc in
    let q : v.a ≡ a = cc in (
      subst (Part l (at + 4)) p v.head,
      subst (λ (g : Term). Part l (at + 4 + 4 * size g) a) p (subst (Part l (at + 4 + 4 * size v.f)) q v.argument),
    )

pub abstraction_part : (l : List ℕ) (at : ℕ) (b : Term) → Part l at (lam b) → Part l (at + 4) b
abstraction_part l at b x =
    let v = abstraction l at (lam b) x (kind_at l at (lam b) x) in
    let q : v.b ≡ b = cc in
    subst (Part l (at + 4)) q v.body

-- some term at the head's, the argument's and the body's place
pub whole_head : (l : List ℕ) (at : ℕ) → Whole l at → get_or l at 0 ≡ 0 → Whole l (at + 4)
whole_head l at x k = let v = application l at x.tree x.part k in whole l (at + 4) v.f v.head

pub whole_body : (l : List ℕ) (at : ℕ) → Whole l at → get_or l at 0 ≡ 1 → Whole l (at + 4)
whole_body l at x k = let v = abstraction l at x.tree x.part k in whole l (at + 4) v.b v.body

-- the argument stands where the head ends
pub argument_part : (l : List ℕ) (at h : ℕ) (t : Term) → Ends l (at + 4) h → (v : Application l at t) → Part l h v.a
argument_part l at h t e v = subst (λ (k : ℕ). Part l k v.a) (sym (e.exact v.f v.head)) v.argument

pub whole_argument : (l : List ℕ) (at h : ℕ) → Whole l at → get_or l at 0 ≡ 0 → Ends l (at + 4) h → Whole l h
whole_argument l at h x k e =
    let v = application l at x.tree x.part k in
    whole l h v.a (argument_part l at h x.tree e v)

-- where an application, an abstraction and any other term end
pub ends_app : (l : List ℕ) (at h r : ℕ) → get_or l at 0 ≡ 0 → Ends l (at + 4) h → Ends l h r → Ends l at r
ends_app l at h r k e d = record {
  more = omega (arith, e.more, d.more);
  within = d.within;
  exact = λ t x.
      let v = application l at t x k in
      let p = e.exact v.f v.head in
      let q = d.exact v.a (argument_part l at h t e v) in
      rw v.is (omega arith);
}

pub ends_lam : (l : List ℕ) (at r : ℕ) → get_or l at 0 ≡ 1 → Ends l (at + 4) r → Ends l at r
ends_lam l at r k e = record {
  more = omega (arith, e.more);
  within = e.within;
  exact = λ t x. let v = abstraction l at t x k in let p = e.exact v.b v.body in rw v.is (omega arith);
}

pub leaf_size : (l : List ℕ) (at : ℕ) (t : Term) → Part l at t → ¬ (get_or l at 0 ≡ 0) → ¬ (get_or l at 0 ≡ 1) → size t ≡ 1
leaf_size l at (app f a) x n m = absurd (n (kind_at l at (app f a) x))
leaf_size l at (lam b) x n m = absurd (m (kind_at l at (lam b) x))
leaf_size l at (loc k) x n m = refl
leaf_size l at (con k) x n m = refl
leaf_size l at (var k) x n m = refl

pub ends_leaf : (l : List ℕ) (at : ℕ) → ¬ (get_or l at 0 ≡ 0) → ¬ (get_or l at 0 ≡ 1) → Whole l at → Ends l at (at + 4)
ends_leaf l at n m x = record { more = omega arith; within = x.least; exact = λ t y. omega (arith, leaf_size l at t y n m) }

-- a whole table is a term with nothing behind it
pub at_start : (l : List ℕ) (t : Term) → l ≡ encode t → Part l 0 t
at_start l t e = part l 0 t [] (e ∙ sym (append-nil (encode t)))

pub tree : (l : List ℕ) (t : Term) → l ≡ encode t → Tree l
tree l t e = record { tree = t; bytes = e; least = omega (arith, ap length e, encode_length t, size_pos t) }

pub tree_whole : (l : List ℕ) → Tree l → Whole l 0
tree_whole l x = whole l 0 x.tree (at_start l x.tree x.bytes)

-- the rest of a list from h on, as a part of a slice has it
pub rest_part : (l : List ℕ) (h : ℕ) → slice l h ≡ drop h l
rest_part l h = take_all (length l - h) (drop h l) (omega (arith, length-drop h l))

-- the two parts of a table of an application
pub divided : (l : List ℕ) (h : ℕ) → Tree l → get_or l 0 0 ≡ 0 → Ends l 4 h → Divided l h
divided l h x k e =
    let v = application l 0 x.tree (at_start l x.tree x.bytes) k in
    let p = argument_part l 0 h x.tree e v in
    record {
      least = omega (arith, e.more);
      within = omega (arith, p.some, p.within);
      head = λ f a q. (go f a q).0;
      argument = λ f a q. (go f a q).1;
    }
  where
    go : (f a : Term) → l ≡ encode (app f a) → (take (h - 4) (drop 4 l) ≡ encode f) × (drop h l ≡ encode a)
    go f a q =
        let d : drop 4 l ≡ encode f ++ encode a = ap (drop 4) q in
        let n : h ≡ 4 + 4 * size f = e.exact f (part l 4 f (encode a) d) in
        let m : length (encode f) ≡ h - 4 = omega (arith, encode_length f) in (
          ap (take (h - 4)) d ∙ take_at (encode f) (encode a) (h - 4) m,
          ap (λ (i : ℕ). drop i l) n ∙ sym (drop-drop (4 * size f) 4 l) ∙ ap (drop (4 * size f)) d
              ∙ drop_at (encode f) (encode a) (4 * size f) (encode_length f),
        )

-- the tree of a table, by its first record
pub record ApplicationOf (l : List ℕ) (t : Term) : Type 0 where
  pub f : Term
  pub a : Term
  pub is : t ≡ app f a
  pub bytes : l ≡ encode (app f a)

pub application_of : (l : List ℕ) (t : Term) → l ≡ encode t → get_or l 0 0 ≡ 0 → ApplicationOf l t
application_of l t e k =
    let v = application l 0 t (at_start l t e) k in
    record { f = v.f; a = v.a; is = v.is; bytes = e ∙ ap encode v.is }

pub record AbstractionOf (l : List ℕ) (t : Term) : Type 0 where
  pub b : Term
  pub is : t ≡ lam b
  pub bytes : l ≡ encode (lam b)

pub abstraction_of : (l : List ℕ) (t : Term) → l ≡ encode t → get_or l 0 0 ≡ 1 → AbstractionOf l t
abstraction_of l t e k = let v = abstraction l 0 t (at_start l t e) k in record { b = v.b; is = v.is; bytes = e ∙ ap encode v.is }

-- the head, the argument and the body lie in the table
lies : (l m : List ℕ) (t : Term) → m ≡ encode t → length m < length l → Lies l m
lies l m t e h = record { tree = tree m t e; shorter = h }

pub head_lies : (l : List ℕ) (h : ℕ) → Tree l → get_or l 0 0 ≡ 0 → Divided l h → Lies l (take (h - 4) (drop 4 l))
head_lies l h x k d =
    let v = application_of l x.tree x.bytes k in
    lies l (take (h - 4) (drop 4 l)) v.f (d.head v.f v.a v.bytes)
    (omega (arith, d.least, d.within, length-take (h - 4) (drop 4 l), length-drop 4 l))

pub argument_lies : (l : List ℕ) (h : ℕ) → Tree l → get_or l 0 0 ≡ 0 → Divided l h → Lies l (drop h l)
argument_lies l h x k d =
    let v = application_of l x.tree x.bytes k in
    lies l (drop h l) v.a (d.argument v.f v.a v.bytes) (omega (arith, d.least, d.within, length-drop h l))

pub body_lies : (l : List ℕ) → Tree l → get_or l 0 0 ≡ 1 → Lies l (drop 4 l)
body_lies l x k =
    let v = abstraction_of l x.tree x.bytes k in
    lies l (drop 4 l) v.b (ap (drop 4) v.bytes) (omega (arith, x.least, length-drop 4 l))

-- a constant and a variable, by its record
pub constant_at : (l : List ℕ) (at n : ℕ) (t : Term) → Part l at t → get_or l at 0 ≡ 3 → n ≡ number_at l at → t ≡ con n
constant_at l at n (app f a) x k e = absurd (omega (arith, kind_at l at (app f a) x))
constant_at l at n (lam b) x k e = absurd (omega (arith, kind_at l at (lam b) x))
constant_at l at n (loc m) x k e = absurd (omega (arith, kind_at l at (loc m) x))
constant_at l at n (con m) x k e = ap con (sym (e ∙ number_at_lem l at (con m) x))
constant_at l at n (var m) x k e = absurd (omega (arith, kind_at l at (var m) x))

pub variable_at : (l : List ℕ) (at n : ℕ) (t : Term) → Part l at t → get_or l at 0 ≡ 4 → n ≡ number_at l at → t ≡ var n
variable_at l at n (app f a) x k e = absurd (omega (arith, kind_at l at (app f a) x))
variable_at l at n (lam b) x k e = absurd (omega (arith, kind_at l at (lam b) x))
variable_at l at n (loc m) x k e = absurd (omega (arith, kind_at l at (loc m) x))
variable_at l at n (con m) x k e = absurd (omega (arith, kind_at l at (con m) x))
variable_at l at n (var m) x k e = ap var (sym (e ∙ number_at_lem l at (var m) x))
