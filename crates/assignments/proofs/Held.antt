-- What the entries of an assignment hold, read and changed at one index. Assumes nothing.
use mathlib.Core.Path.{◌≡◌, refl, subst}
use mathlib.Core.Option.{Option, none, some}
use mathlib.Core.List.{List, [], ◌∷◌}
use Prim.Native.Nat.{ℕ, zero, suc}
use native.Mathlib.Omega.{arith}
use lib.ListN.{get_or, set}
use Rattle.terms.specs.Term.{Term}
use Rattle.terms.specs.Assignment.{entry}
use Rattle.terms.specs.Listing.{Line}
use Rattle.assignments.specs.declared.Span.{Span}
use Rattle.assignments.specs.declared.Entry.{Entry}
use Rattle.assignments.specs.declared.Entry.TheVariants.{Open, Assigned}
use Rattle.assignments.specs.Held.{Held, EntryHeld, Holds}

-- entries
module _ (W : List ℕ) (top : ℕ) where
  entry_open : (e : Entry) (o : Option Term) → EntryHeld W top e o → e ≡ Open → o ≡ none
  entry_open Open none x q = refl
  entry_open Open (some v) x q = absurd x
  entry_open (Assigned n) none x q = refl
  entry_open (Assigned n) (some v) x q = absurd (let z : ◌≡◌ {A = ℕ} 0 1 = cc in omega arith)

  pub holds_open : (a : List Entry) (l : Line) (i : ℕ) → Holds W top a l → get_or a i Open ≡ Open → entry l i ≡ none
  holds_open [] [] i x q = refl
  holds_open [] (o ∷ l) i x q = absurd x
  holds_open (e ∷ a) [] i x q = refl
  holds_open (e ∷ a) (o ∷ l) zero x q = entry_open e o x.0 q
  holds_open (e ∷ a) (o ∷ l) (suc i) x q = holds_open a l i x.1 q

  entry_held : (e : Entry) (o : Option Term) (n : Span) → EntryHeld W top e o → e ≡ Assigned n → (v : Term) × (o ≡ some v) × Held W top n v
  entry_held Open none n x q = absurd (let z : ◌≡◌ {A = ℕ} 0 1 = cc in omega arith)
  entry_held Open (some v) n x q = absurd x
  entry_held (Assigned m) none n x q = absurd x
  entry_held (Assigned m) (some v) n x q = let z : m ≡ n = cc in (v, refl, subst (λ (i : Span). Held W top i v) z x)

  pub holds_held : (a : List Entry) (l : Line) (i : ℕ) (n : Span) → Holds W top a l → get_or a i Open ≡ Assigned n
      → (v : Term) × (entry l i ≡ some v) × Held W top n v
  holds_held [] l i n x q = absurd (let z : ◌≡◌ {A = ℕ} 0 1 = cc in omega arith)
  holds_held (e ∷ a) [] i n x q = absurd x
  holds_held (e ∷ a) (o ∷ l) zero n x q = entry_held e o n x.0 q
  holds_held (e ∷ a) (o ∷ l) (suc i) n x q = holds_held a l i n x.1 q

  pub holds_set : (a : List Entry) (l : Line) (i : ℕ) (e : Entry) (o : Option Term) → EntryHeld W top e o → Holds W top a l
      → Holds W top (set a i e) (set l i o)
  holds_set [] [] i e o h x = x
  holds_set [] (p ∷ l) i e o h x = absurd x
  holds_set (d ∷ a) [] i e o h x = absurd x
  holds_set (d ∷ a) (p ∷ l) zero e o h x = (h, x.1)
  holds_set (d ∷ a) (p ∷ l) (suc i) e o h x = (x.0, holds_set a l i e o h x.1)
