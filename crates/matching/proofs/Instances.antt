-- There is one full listing and only one, over any number of variables; eight and sixteen are instances. Assumes nothing.
use mathlib.Core.Path.{◌≡◌}
use mathlib.Core.List.{List}
use Prim.Native.Nat.{ℕ}
use Rattle.terms.specs.Term.{Term, Normal, Below}
use Rattle.terms.specs.Listing.{Line, Full}
use Rattle.matching.proofs.Listing.{full_listing, full, unique}

pub record Promised (n : ℕ) (p t : Term) : Type 0 where
  pub lines : List Line
  pub is : Full n p t lines
  pub only : (ls : List Line) → Full n p t ls → ls ≡ lines

pub promised : (n : ℕ) (p t : Term) → Below n p → Normal t → Promised n p t
promised n p t b h = record {
  lines = full_listing n p t;
  is = full n p t b h;
  only = λ ls x. unique n p t b ls (full_listing n p t) x (full n p t b h);
}

pub promised_eight : (p t : Term) → Below 8 p → Normal t → Promised 8 p t
promised_eight p t b h = promised 8 p t b h

pub promised_sixteen : (p t : Term) → Below 16 p → Normal t → Promised 16 p t
promised_sixteen p t b h = promised 16 p t b h
