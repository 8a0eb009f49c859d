-- Nothing is left free: two answers that meet what list promises on the same lent tables are equal, and so are two contents of the line
-- table and of the value table. There is one full listing only, and at most one row of refusal is given. So for a pattern without variables
-- the answer is one line of zero bytes or none. Assumes nothing.
use mathlib.Core.Path.{◌≡◌, sym, ap, ◌∙◌, subst}
use mathlib.Core.List.{List, [], ◌∷◌}
use mathlib.Core.Logic.{◌⊎◌, inl, inr}
use Prim.Native.Nat.{ℕ, ◌*◌}
use lib.ListN.{length, replicate}
use Rattle.std.specs.declared.result.Result.{Result}
use Rattle.std.specs.declared.result.Result.TheVariants.{Ok, Err}
use Rattle.terms.specs.Figures.{variables}
use Rattle.terms.specs.Term.{Term, Occurs}
use Rattle.terms.specs.Table.{IsTable}
use Rattle.terms.specs.Listing.{Line, Full}
use Rattle.terms.specs.Layout.{line_table, value_table}
use Rattle.terms.specs.Refusal.{Row, Refused, Passed, listing_rows}
use Rattle.terms.proofs.Table.{encode_one}
use Rattle.terms.proofs.Refusal.{refused_passed}
use Rattle.matching.proofs.Lines.{open_line}
use Rattle.matching.proofs.Ground.{no_variable, open_line_table, open_value_table}
use Rattle.refusals.specs.declared.Refusal.{Refusal}
use Rattle.refusals.specs.Judged.{number}
use Rattle.refusals.specs.Lent.{overwritten}
use Rattle.refusals.proofs.Numbers.{refusal_one}
use Rattle.enumeration.specs.Written.{lent_lines, lent_records, ListingOf, WrittenLines, NoRoom}
use Rattle.matcher.specs.Operations.{lent_for_list, Listed}
use Rattle.matcher.proofs.Listed.{listing_one}

module _ (p r l s w : List ℕ) where
  abbrev lent : List Row
  lent = lent_for_list p r l s w

  abbrev rows : List Line → List Row
  rows ls = listing_rows (lent_lines l) (lent_records s) ls

  -- what has no room is every full listing
  no_room : Passed lent → (ls : List Line) → ListingOf p r ls → (k : ℕ) → NoRoom p r l s k → Refused (rows ls) k
  no_room h ls f k n =
      subst (λ (ms : List Line). Refused (rows ms) k) (listing_one p r l s w h n.lines ls n.listing_of f) n.cause

  -- why list refuses
  abbrev Cause : Refusal → Type 0
  Cause c = Refused lent (number c) ⊎ (Passed lent × NoRoom p r l s (number c))

  cause_one : (c d : Refusal) → Cause c → Cause d → c ≡ d
  cause_one c d (inl x) (inl y) = refusal_one lent c d x y
  cause_one c d (inl x) (inr y) = absurd (refused_passed lent (number c) x y.0)
  cause_one c d (inr x) (inl y) = absurd (refused_passed lent (number d) y x.0)
  cause_one c d (inr (h, x)) (inr (g, y)) =
      refusal_one (rows y.lines) c d (no_room h y.lines y.listing_of (number c) x) y.cause

  module _ (j : ℕ) (m x : List ℕ) (h : Passed lent) (f : WrittenLines p r l s j m x) where
    refused_written : (c : Refusal) → Cause c → ⊥
    refused_written c (inl d) = refused_passed lent (number c) d h
    refused_written c (inr (g, n)) =
        refused_passed (rows f.lines) (number c) (no_room h f.lines f.listing_of (number c) n) f.room

    written_one : (k : ℕ) (n y : List ℕ) → WrittenLines p r l s k n y → (j ≡ k) × (m ≡ n) × (x ≡ y)
    written_one k n y g =
        let e : f.lines ≡ g.lines = listing_one p r l s w h f.lines g.lines f.listing_of g.listing_of in (
          f.count ∙ ap length e ∙ sym g.count,
          f.line_bytes ∙ ap (λ (ls : List Line). overwritten (line_table 0 ls) l) e ∙ sym g.line_bytes,
          f.value_bytes ∙ ap (λ (ls : List Line). overwritten (value_table ls) s) e ∙ sym g.value_bytes,
        )

  pub listed_one : (a b : Result ℕ Refusal) (m n x y : List ℕ) → Listed p r l s w a m x → Listed p r l s w b n y
      → (a ≡ b) × (m ≡ n) × (x ≡ y)
  unfolding Listed
  listed_one (Ok j) (Ok k) m n x y f g =
      let e = written_one j m x f.0 f.1 k n y g.1 in (ap Ok e.0, e.1, e.2)
  listed_one (Ok j) (Err d) m n x y f g = absurd (refused_written j m x f.0 f.1 d g.0)
  listed_one (Err c) (Ok k) m n x y f g = absurd (refused_written k n y g.0 g.1 c f.0)
  listed_one (Err c) (Err d) m n x y f g =
      (ap Err (cause_one c d f.0 g.0), f.1 ∙ sym g.1, f.2 ∙ sym g.2)

  -- "A pattern without variables has one all-zero line or none.", of the count and the bytes; there are no values
  module _ (t : Term) (i : IsTable p t) (h : (v : ℕ) → ¬ Occurs v t) where
    abbrev GroundListing : ℕ → List ℕ → List ℕ → Type 0
    GroundListing n m x = (((n ≡ 0) × (m ≡ l)) ⊎ ((n ≡ 1) × (m ≡ overwritten (replicate (4 * variables) 0) l))) × (x ≡ s)

    written_ground : (n : ℕ) (m x : List ℕ) → WrittenLines p r l s n m x → GroundListing n m x
    written_ground n m x f =
        go (no_variable variables t f.listing_of.recipe_term h f.lines
        (subst (λ (u : Term). Full variables u f.listing_of.recipe_term f.lines)
        (encode_one f.listing_of.pattern_term t (sym f.listing_of.pattern_table.0 ∙ i.0)) f.listing_of.full))
      where
        lines_of : (ls : List Line) → f.lines ≡ ls → m ≡ overwritten (line_table 0 ls) l
        lines_of ls e = f.line_bytes ∙ ap (λ (ms : List Line). overwritten (line_table 0 ms) l) e

        values_of : (ls : List Line) → f.lines ≡ ls → x ≡ overwritten (value_table ls) s
        values_of ls e = f.value_bytes ∙ ap (λ (ms : List Line). overwritten (value_table ms) s) e

        go : (f.lines ≡ []) ⊎ (f.lines ≡ open_line variables ∷ []) → GroundListing n m x
        go (inl e) = (inl (f.count ∙ ap length e, lines_of [] e), values_of [] e)
        go (inr e) =
            let ls = open_line variables ∷ [] in (
              inr (f.count ∙ ap length e, lines_of ls e ∙ ap (λ (b : List ℕ). overwritten b l) (open_line_table variables)),
              values_of ls e ∙ ap (λ (b : List ℕ). overwritten b s) (open_value_table variables),
            )

    pub listed_ground : (n : ℕ) (m x : List ℕ) → Listed p r l s w (Ok n) m x
        → (((n ≡ 0) × (m ≡ l)) ⊎ ((n ≡ 1) × (m ≡ overwritten (replicate (4 * variables) 0) l))) × (x ≡ s)
    unfolding Listed
    listed_ground n m x f = written_ground n m x f.1
