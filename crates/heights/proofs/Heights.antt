-- Heights: of a term by those of its parts, which terms are closed by them, and where those of a term's parts stand. By the term's kind.
-- Assumes nothing.
use mathlib.Core.Path.{◌≡◌, refl, sym, ap, ap₂, ◌∙◌}
use mathlib.Core.Option.{Option, none, some}
use mathlib.Core.List.{List, ◌∷◌, ◌++◌, append_assoc}
use Prim.Native.Nat.{ℕ, zero, suc, ◌+◌, ◌-◌, ◌≤◌, max}
use native.Mathlib.Omega.{arith}
use lib.ListN.{length, get_or, take, drop, length-append, length-drop}
use lib.Seq.{sets, sets-eq, drop_at, drop-drop, get_or-drop, length-take-le}
use Rattle.terms.specs.Term.{Term, app, lam, loc, con, var, size, Closed}
use Rattle.terms.proofs.Substitute.{size_pos}
use Rattle.records.specs.Parts.{slice}
use Rattle.records.proofs.Parts.{rest_part}
use Rattle.heights.specs.Highest.{higher, outside, highest, NoneOrBelow}
use Rattle.heights.specs.Heights.{byte_of, height, heights, HeightsAt}
use Rattle.heights.proofs.Highest.{decides_closed}

byte_higher : (x y : Option ℕ) → byte_of (higher x y) ≡ max (byte_of x) (byte_of y)
byte_higher none y = omega arith
byte_higher (some m) none = omega arith
byte_higher (some m) (some n) = omega arith

pub height_application : (f a : Term) → height (app f a) ≡ max (height f) (height a)
height_application f a = byte_higher (highest f) (highest a)

byte_outside : (x : Option ℕ) → byte_of (outside x) ≡ byte_of x - 1
byte_outside none = refl
byte_outside (some zero) = refl
byte_outside (some (suc n)) = omega arith

pub height_abstraction : (b : Term) → height (lam b) ≡ height b - 1
height_abstraction b = byte_outside (highest b)

below_byte : (d : ℕ) (x : Option ℕ) → NoneOrBelow d x → byte_of x ≤ d
below_byte d none u = omega arith
below_byte d (some n) u = omega (arith, u)

byte_below : (d : ℕ) (x : Option ℕ) → byte_of x ≤ d → NoneOrBelow d x
byte_below d none u = tt
byte_below d (some n) u = omega (arith, u)

-- a part below d binders is closed exactly if its height is at most d
pub closed_height : (d : ℕ) (t : Term) → Closed d t → height t ≤ d
closed_height d t c = below_byte d (highest t) ((decides_closed d t).0 c)

pub height_closed : (d : ℕ) (t : Term) → height t ≤ d → Closed d t
height_closed d t h = (decides_closed d t).1 (byte_below d (highest t) h)

pub heights_length : (t : Term) → length (heights t) ≡ size t
heights_length (app f a) = ap suc (length-append (heights f) (heights a) ∙ ap₂ ◌+◌ (heights_length f) (heights_length a))
heights_length (lam b) = ap suc (heights_length b)
heights_length (loc n) = refl
heights_length (con n) = refl
heights_length (var n) = refl

-- heights t begins with the height of t
heights_begin : (t : Term) → (rest : List ℕ) → get_or (heights t ++ rest) 0 0 ≡ height t
heights_begin (app f a) rest = refl
heights_begin (lam b) rest = refl
heights_begin (loc n) rest = refl
heights_begin (con n) rest = refl
heights_begin (var n) rest = refl

-- where the heights of a term stand those of its parts stand too
module _ (l : List ℕ) (i : ℕ) (t : Term) (x : HeightsAt l i t) where
  pub heights_first : get_or l i 0 ≡ height t
  heights_first =
      ap (λ (j : ℕ). get_or l j 0) (omega arith) ∙ sym (get_or-drop i l 0 0) ∙ ap (λ (m : List ℕ). get_or m 0 0) x.bytes
      ∙ heights_begin t x.rest

  pub heights_within : i + size t ≤ length l
  heights_within =
      let e = sym (length-drop i l) ∙ ap length x.bytes ∙ length-append (heights t) x.rest in
      omega (arith, e, heights_length t, size_pos t)

  -- the term's own height stands before those of its parts
  own : (parts : List ℕ) → heights t ≡ height t ∷ parts → drop (i + 1) l ≡ parts ++ x.rest
  own parts e = sym (drop-drop 1 i l) ∙ ap (drop 1) (x.bytes ∙ ap (◌++ x.rest) e)

  behind_own : (f a : Term) → t ≡ app f a → drop (i + 1) l ≡ heights f ++ (heights a ++ x.rest)
  behind_own f a e =
      own (heights f ++ heights a) (ap heights e ∙ ap (◌∷ (heights f ++ heights a)) (sym (ap height e)))
      ∙ append_assoc (heights f) (heights a) x.rest

  pub heights_head : (f a : Term) → t ≡ app f a → HeightsAt l (i + 1) f
  heights_head f a e = record { rest = heights a ++ x.rest; bytes = behind_own f a e }

  pub heights_argument : (f a : Term) → t ≡ app f a → HeightsAt l (i + 1 + size f) a
  heights_argument f a e = record {
    rest = x.rest;
    bytes = sym (drop-drop (size f) (i + 1) l) ∙ ap (drop (size f)) (behind_own f a e)
        ∙ drop_at (heights f) (heights a ++ x.rest) (size f) (heights_length f);
  }

  pub heights_body : (b : Term) → t ≡ lam b → HeightsAt l (i + 1) b
  heights_body b e = record {
    rest = x.rest;
    bytes = own (heights b) (ap heights e ∙ ap (◌∷ heights b) (sym (ap height e)));
  }

  -- in a slice that begins there
  pub heights_slice : HeightsAt (slice l i) 0 t
  heights_slice = record { rest = x.rest; bytes = rest_part l i ∙ x.bytes }

pub heights_stored : (W X : List ℕ) (o : ℕ) (t : Term) → X ≡ sets W o (heights t) → o + size t ≤ length W → HeightsAt X o t
heights_stored W X o t e h = record {
  rest = drop (o + length (heights t)) W;
  bytes = ap (drop o) (e ∙ sets-eq (heights t) W o (omega (arith, heights_length t))
      ∙ append_assoc (take o W) (heights t) (drop (o + length (heights t)) W))
      ∙ drop_at (take o W) (heights t ++ drop (o + length (heights t)) W) o (length-take-le o W (omega arith));
}
