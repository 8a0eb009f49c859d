-- There is a full listing, and only one; and what a program that searches has to show. The lister's lines, sorted, are one; any other has
-- the same members and rises too. Assumes nothing.
--   full_listing n p t  the lister's lines, sorted
use mathlib.Core.Path.{◌≡◌, ap}
use mathlib.Core.List.{List}
use mathlib.Core.Logic.{◌↔◌}
use Prim.Native.Nat.{ℕ, ◌≤◌, ◌<◌}
use native.Mathlib.Omega.{arith}
use lib.ListN.{length}
use Rattle.terms.specs.Term.{Term, Normal, Occurs, Below}
use Rattle.terms.specs.Listing.{In, Line, Full}
use Rattle.terms.specs.Members.{Distinct}
use Rattle.terms.proofs.Order.{sort, rising_sort, sort_in, in_sort, rising_same, found_length, sort_distinct}
use Rattle.matching.specs.Lists.{Predicate, Lists}
use Rattle.matching.specs.Goals.{Sweeps}
use Rattle.matching.proofs.Lister.{solve, lists_solve}
use Rattle.matching.proofs.Partial.{full_lists, lists_full}
use Rattle.matching.proofs.Unique.{lists_members, lists_length}

-- the same members, none twice
pub lists_members_same :
    (n : ℕ) (S : ℕ → Type 0) (Q : Predicate) (ls ms : List Line) → Distinct ms → ((l : Line) → In l ms ↔ In l ls)
    → Lists n S Q ls → Lists n S Q ms
lists_members_same n S Q ls ms d e x = record {
  entries = λ l i. x.entries l ((e l).0 i);
  assigns = λ l i. x.assigns l ((e l).0 i);
  sound = λ φ v l i g. x.sound φ v l ((e l).0 i) g;
  covers = λ φ v s. let r = x.covers φ v s in (r.0, (e r.0).1 r.1, r.2);
  once = λ φ v l m i j g h. x.once φ v l m ((e l).0 i) ((e m).0 j) g h;
  distinct = d;
}

abbrev pub full_listing : ℕ → Term → Term → List Line
full_listing n p t = sort (solve n p t)

module _ (n : ℕ) (p t : Term) (b : Below n p) where
  abbrev S : ℕ → Type 0
  S i = Occurs i p

  -- lines that list the matches, sorted, are a full listing of as many lines
  pub full_sort : (ls : List Line) → Lists n S (Sweeps p t) ls → Full n p t (sort ls)
  full_sort ls x =
      full_lists n p t b (sort ls)
      (lists_members_same n S (Sweeps p t) ls (sort ls) (sort_distinct ls) (λ l. (sort_in l ls, in_sort l ls)) x) (rising_sort ls)

  -- two full listings are equal
  pub unique : (ls ms : List Line) → Full n p t ls → Full n p t ms → ls ≡ ms
  unique ls ms x y =
      let lx = lists_full n p t b ls x in
      let ly = lists_full n p t b ms y in
      rising_same ls ms x.rising y.rising (lists_members n S (Sweeps p t) ls ms lx ly) (lists_members n S (Sweeps p t) ms ls ly lx)

  -- every full listing has as many lines as lines that list the matches
  pub full_length : (ls ms : List Line) → Lists n S (Sweeps p t) ls → Full n p t ms → length ms ≡ length ls
  full_length ls ms x y = lists_length n S (Sweeps p t) ms ls (lists_full n p t b ms y) x

  -- "every full listing has more lines than were lent" from one that has
  pub more_lines : (k : ℕ) (ls : List Line) → Full n p t ls → k < length ls → (ms : List Line) → Full n p t ms → k < length ms
  more_lines k ls x h ms y = omega (arith, ap length (unique ls ms x y))

  module _ (h : Normal t) where
    pub full : Full n p t (full_listing n p t)
    full = full_sort (solve n p t) (lists_solve n p t b h)

    -- distinct lines that are all the lister's lines, sorted, are the full listing
    pub full_members : (ls : List Line) → Distinct ls → ((l : Line) → In l ls ↔ In l (solve n p t)) → Full n p t (sort ls)
    full_members ls d e = full_sort ls (lists_members_same n S (Sweeps p t) (solve n p t) ls d e (lists_solve n p t b h))

    -- more distinct lines of the lister's than k: no full listing has at most k
    pub too_many : (k : ℕ) (fs : List Line) → Distinct fs → ((l : Line) → In l fs → In l (solve n p t)) → k < length fs → (ls : List Line)
        → Full n p t ls → ¬ (length ls ≤ k)
    too_many k fs d e g ls x m =
        omega (arith, found_length fs (solve n p t) d e, full_length (solve n p t) ls (lists_solve n p t b h) x)
