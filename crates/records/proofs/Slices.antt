-- A part handed on as a slice: the slice of a table from byte n on begins with the part that stands there, and ends where it ends. Assumes
-- nothing.
use mathlib.Core.Path.{◌≡◌, ap, ◌∙◌}
use mathlib.Core.Bool.{Bool, true, false}
use mathlib.Core.Logic.{◌↔◌}
use mathlib.Core.List.{List}
use Prim.Native.Nat.{ℕ, ◌+◌, ◌-◌, ◌≤◌}
use native.Mathlib.Omega.{arith}
use lib.Dec.{eqb}
use lib.ListN.{length, get_or, take, drop, length-drop, length-take}
use Rattle.terms.specs.Term.{Term, app, lam, is_eta, Normal}
use Rattle.terms.specs.Table.{encode}
use Rattle.records.specs.declared.Ask.TheVariants.{Other}
use Rattle.std.specs.declared.option.Option.{Option}
use Rattle.std.specs.declared.option.Option.TheVariants.{Some, None}
use Rattle.records.specs.Parts.{slice, Part, Whole, Ends, Tree}
use Rattle.records.specs.Record.{innermost_at}
use Rattle.records.specs.Tests.{Equals, Asks, Walked}
use Rattle.records.proofs.Parts.{part, part_bytes, whole, whole_head, whole_argument, whole_body, tree, rest_part}
use Rattle.records.proofs.Tests.{walked_ends, walked_app, walked_stop, walked_lam, eta_used, eta_ends}
use Rattle.records.proofs.Tests.{normal_stop, normal_redex, normal_body}

-- what a walk answers that began n bytes further on
abbrev pub further : ℕ → Option ℕ → Option ℕ
further n (Some r) = Some (n + r)
further n None = None

module _ (l : List ℕ) (n : ℕ) where
  pub part_slice : (t : Term) → Part l n t → Part (slice l n) 0 t
  part_slice t x = part (slice l n) 0 t x.rest (rest_part l n ∙ x.bytes)

  pub whole_slice : Whole l n → Whole (slice l n) 0
  whole_slice x = whole (slice l n) 0 x.tree (part_slice x.tree x.part)

  pub slice_length : length (slice l n) ≡ length l - n
  slice_length = ap length (rest_part l n) ∙ length-drop n l

  pub slice_most : (r : ℕ) → length (take (n + r - n) (drop n l)) ≤ length l
  slice_most r = omega (arith, length-take (n + r - n) (drop n l), length-drop n l)

  pub slice_ends : (r : ℕ) → Ends (slice l n) 0 r → Ends l n (n + r)
  slice_ends r e = record {
    more = omega (arith, e.more);
    within = omega (arith, e.more, e.within, slice_length);
    exact = λ t x. omega (arith, e.exact t (part_slice t x));
  }

  pub slice_walked : (P : Term → Type 0) (w : Option ℕ) → Walked (slice l n) 0 P w → Walked l n P (further n w)
  unfolding Walked
  slice_walked P (Some r) x = (slice_ends r x.0, λ t y. x.1 t (part_slice t y))
  slice_walked P None x = λ t y. x t (part_slice t y)

  -- the bytes of the part, where its end is known
  pub slice_bytes : (r : ℕ) → Ends (slice l n) 0 r → (t : Term) → Part l n t → take (n + r - n) (drop n l) ≡ encode t
  slice_bytes r e t x = part_bytes l n (n + r - n) t x (omega (arith, e.exact t (part_slice t x)))

  pub slice_tree : (r : ℕ) → Whole l n → Ends (slice l n) 0 r → Tree (take (n + r - n) (drop n l))
  slice_tree r x e = tree (take (n + r - n) (drop n l)) x.tree (slice_bytes r e x.tree x.part)

-- the parts of the term that a slice begins with, each handed on as a slice
module _ (l : List ℕ) where
  pub head_slice : Whole l 0 → get_or l 0 0 ≡ 0 → Whole (slice l 4) 0
  head_slice x k = whole_slice l 4 (whole_head l 0 x k)

  pub body_slice : Whole l 0 → get_or l 0 0 ≡ 1 → Whole (slice l 4) 0
  body_slice x k = whole_slice l 4 (whole_body l 0 x k)

  -- a walk further on ends within the table
  pub slice_end : (n : ℕ) (Q : Term → Type 0) (h : ℕ) → Walked (slice l n) 0 Q (Some h) → Ends l n (n + h)
  slice_end n Q h x = slice_ends l n h (walked_ends (slice l n) 0 Q h x)

  module _ (Q : Term → Type 0) (h : ℕ) (x : Walked (slice l 4) 0 Q (Some h)) where
    pub argument_slice : Whole l 0 → get_or l 0 0 ≡ 0 → Whole (slice l (4 + h)) 0
    argument_slice y k = whole_slice l (4 + h) (whole_argument l 0 (4 + h) y k (slice_end 4 Q h x))

    -- a walk over an application, by the walks over its head and its argument
    pub walked_parts : (P R : Term → Type 0) (n : ℕ) → get_or l 0 0 ≡ 0 → ((f a : Term) → P (app f a) ↔ (Q f × R a))
        → Walked (slice l (4 + h)) 0 R (Some n) → Walked l 0 P (Some (4 + h + n))
    walked_parts P R n k i y =
        walked_app l 0 P Q R (4 + h) (Some (4 + h + n)) k i (slice_walked l 4 Q (Some h) x) (slice_walked l (4 + h) R (Some n) y)

    pub walked_argument_no : (P R : Term → Type 0) → get_or l 0 0 ≡ 0 → ((f a : Term) → P (app f a) ↔ (Q f × R a))
        → Walked (slice l (4 + h)) 0 R None → Walked l 0 P None
    walked_argument_no P R k i y = walked_app l 0 P Q R (4 + h) None k i (slice_walked l 4 Q (Some h) x) (slice_walked l (4 + h) R None y)

  pub walked_head_no : (P Q R : Term → Type 0) → Walked (slice l 4) 0 Q None → get_or l 0 0 ≡ 0
      → ((f a : Term) → P (app f a) ↔ (Q f × R a)) → Walked l 0 P None
  walked_head_no P Q R x k i = walked_stop l 0 P Q R k i (slice_walked l 4 Q None x)

  -- a walk over an abstraction, by the walk over its body
  pub walked_body : (P Q : Term → Type 0) (n : ℕ) → get_or l 0 0 ≡ 1 → ((b : Term) → P (lam b) ↔ Q b) → Walked (slice l 4) 0 Q (Some n)
      → Walked l 0 P (Some (4 + n))
  walked_body P Q n k i x = walked_lam l 0 P Q (Some (4 + n)) k i (slice_walked l 4 Q (Some n) x)

  pub walked_body_no : (P Q : Term → Type 0) → get_or l 0 0 ≡ 1 → ((b : Term) → P (lam b) ↔ Q b) → Walked (slice l 4) 0 Q None
      → Walked l 0 P None
  walked_body_no P Q k i x = walked_lam l 0 P Q None k i (slice_walked l 4 Q None x)

  -- the test for an abstraction that is itself a redex, by the walk over the head
  module _ (k : get_or l 0 0 ≡ 0) where
    pub eta_used_slice : Walked (slice l 4) 0 (Asks Other 0) None → Equals l is_eta false
    eta_used_slice x = eta_used l k (slice_walked l 4 (Asks Other 0) None x)

    pub eta_ends_slice : (h : ℕ) → innermost_at l (length l - 4) ≡ true → Walked (slice l 4) 0 (Asks Other 0) (Some h)
        → Equals l is_eta (eqb (4 + h) (length l - 4))
    eta_ends_slice h i x = eta_ends l k (4 + h) i (slice_walked l 4 (Asks Other 0) (Some h) x)

  -- an abstraction is normal as its body is, unless it is itself a redex
  module _ (k : get_or l 0 0 ≡ 1) where
    pub normal_body_no : Walked (slice l 4) 0 Normal None → Walked l 0 Normal None
    normal_body_no x = normal_stop l 0 k (slice_walked l 4 Normal None x)

    module _ (h : ℕ) (x : Walked (slice l 4) 0 Normal (Some h)) (r : Bool) (g : Equals (take (4 + h - 4) (drop 4 l)) is_eta r) where
      eta_is : (b : Term) → Part l 4 b → r ≡ is_eta b
      eta_is b y = g b (slice_bytes l 4 h (walked_ends (slice l 4) 0 Normal h x) b y)

      pub normal_body_redex : r ≡ true → Walked l 0 Normal None
      normal_body_redex p = normal_redex l 0 k (4 + h) r eta_is p

      pub normal_body_kept : r ≡ false → Walked l 0 Normal (Some (4 + h))
      normal_body_kept p = normal_body l 0 k (4 + h) r eta_is p (slice_walked l 4 Normal (Some h) x)
