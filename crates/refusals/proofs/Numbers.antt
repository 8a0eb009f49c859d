-- A refusal is known by its number: no two have one, and all are from 1 to 19; so rows refuse with one cause only. It stands at its number
-- in a list of all. Assumes nothing.
--   of_number n  the refusal of number n
use mathlib.Core.Path.{◌≡◌, refl, sym, ap, ◌∙◌}
use mathlib.Core.List.{List, [], ◌∷◌}
use Prim.Native.Nat.{ℕ, ◌<◌}
use lib.Dec.{lit<}
use lib.ListN.{get_or}
use Rattle.terms.specs.Refusal.{Row, Refused}
use Rattle.terms.proofs.Refusal.{refused_once}
use Rattle.refusals.specs.declared.Refusal.{Refusal}
use Rattle.refusals.specs.Judged.{number}

-- those of the numbers 1 to 19
abbrev refusals : List Refusal
refusals =
    Refusal.PatternLength ∷ Refusal.PatternRecord ∷ Refusal.PatternTerm ∷ Refusal.RecipeLength ∷ Refusal.RecipeRecord ∷ Refusal.RecipeTerm
    ∷ Refusal.RecipeRedex ∷ Refusal.Tables ∷ Refusal.LineRoom ∷ Refusal.ValueRoom ∷ Refusal.Assignment ∷ Refusal.SweptForm ∷ Refusal.Output
    ∷ Refusal.NoMatch ∷ Refusal.NoNormalForm ∷ Refusal.BookSize ∷ Refusal.LongRecipe ∷ Refusal.Buoy
    ∷ Refusal.ShelfRoom ∷ []

abbrev pub of_number : ℕ → Refusal
of_number n = get_or (Refusal.NoMatch ∷ refusals) n Refusal.NoMatch

numbered : (c : Refusal) → (0 < number c) × (number c < 20) × (of_number (number c) ≡ c)
numbered Refusal.PatternLength = (lit< tt, lit< tt, refl)
numbered Refusal.PatternRecord = (lit< tt, lit< tt, refl)
numbered Refusal.PatternTerm = (lit< tt, lit< tt, refl)
numbered Refusal.RecipeLength = (lit< tt, lit< tt, refl)
numbered Refusal.RecipeRecord = (lit< tt, lit< tt, refl)
numbered Refusal.RecipeTerm = (lit< tt, lit< tt, refl)
numbered Refusal.RecipeRedex = (lit< tt, lit< tt, refl)
numbered Refusal.Tables = (lit< tt, lit< tt, refl)
numbered Refusal.LineRoom = (lit< tt, lit< tt, refl)
numbered Refusal.ValueRoom = (lit< tt, lit< tt, refl)
numbered Refusal.Assignment = (lit< tt, lit< tt, refl)
numbered Refusal.SweptForm = (lit< tt, lit< tt, refl)
numbered Refusal.Output = (lit< tt, lit< tt, refl)
numbered Refusal.NoMatch = (lit< tt, lit< tt, refl)
numbered Refusal.NoNormalForm = (lit< tt, lit< tt, refl)
numbered Refusal.BookSize = (lit< tt, lit< tt, refl)
numbered Refusal.LongRecipe = (lit< tt, lit< tt, refl)
numbered Refusal.Buoy = (lit< tt, lit< tt, refl)
numbered Refusal.ShelfRoom = (lit< tt, lit< tt, refl)

pub number_positive : (c : Refusal) → 0 < number c
number_positive c = (numbered c).0

pub number_most : (c : Refusal) → number c < 20
number_most c = (numbered c).1

pub of_number_lem : (c : Refusal) → of_number (number c) ≡ c
of_number_lem c = (numbered c).2

pub number_inj : (c d : Refusal) → number c ≡ number d → c ≡ d
number_inj c d e = sym (of_number_lem c) ∙ ap of_number e ∙ of_number_lem d

-- rows refuse with one cause
pub refusal_one : (rows : List Row) (c d : Refusal) → Refused rows (number c) → Refused rows (number d) → c ≡ d
refusal_one rows c d x y = number_inj c d (refused_once rows (number c) (number d) x y)
