-- The number of an exported answer says which answer it is: the codes of each function are one to one, the book's with the number of
-- pairs. A code from 0 on is a count, or yes and no, and one below 0 is minus the number of one refusal. So -9 is list's answer 9. Assumes
-- nothing.
use mathlib.Core.Path.{◌≡◌, refl, sym, ap, ap₂, ◌∙◌}
use mathlib.Core.List.{List}
use Prim.Native.Nat.{ℕ, zero, suc, ◌<◌}
use native.Mathlib.Omega.{arith}
use lib.IntN.{ℤ, pos, negsuc, neg_ℤ}
use Rattle.std.specs.Prelude.{Bool, true, false, ⊤}
use Rattle.std.specs.declared.result.Result.{Result}
use Rattle.std.specs.declared.result.Result.TheVariants.{Ok, Err}
use Rattle.refusals.specs.declared.Refusal.{Refusal}
use Rattle.refusals.specs.Judged.{number}
use Rattle.refusals.proofs.Numbers.{of_number, of_number_lem, number_positive}
use Rattle.book.specs.declared.NewRecipe.{NewRecipe}
use Rattle.matcher.specs.Operations.{Listed, NineExactly}
use Rattle.exports.specs.Answers.{refusal_code, count_code, check_code, change_code, book_code, pairs_after, ListedAs, NineAs}

-- answers that are counts or refusals, read back from their codes
module _ {A : Type 0} (counted : ℕ → A) (refused : Refusal → A) where
  abbrev answer : ℤ → A
  answer (pos n) = counted n
  answer (negsuc n) = refused (of_number (suc n))

  answer_minus : (n : ℕ) → 0 < n → answer (neg_ℤ (pos n)) ≡ refused (of_number n)
  answer_minus zero h = absurd (omega arith)
  answer_minus (suc n) h = refl

  answer_refusal : (c : Refusal) → answer (refusal_code c) ≡ refused c
  answer_refusal c = answer_minus (number c) (number_positive c) ∙ ap refused (of_number_lem c)

  answer_inj : (code : A → ℤ) → ((a : A) → answer (code a) ≡ a) → (a b : A) → code a ≡ code b → a ≡ b
  answer_inj code back a b e = sym (back a) ∙ ap answer e ∙ back b

pub count_code_inj : (a b : Result ℕ Refusal) → count_code a ≡ count_code b → a ≡ b
count_code_inj = answer_inj Ok Err count_code back
  where
    back : (a : Result ℕ Refusal) → answer Ok Err (count_code a) ≡ a
    back (Ok n) = refl
    back (Err c) = answer_refusal Ok Err c

pub change_code_inj : (a b : Result ⊤ Refusal) → change_code a ≡ change_code b → a ≡ b
change_code_inj = answer_inj (λ n. (Ok tt)) Err change_code back
  where
    back : (a : Result ⊤ Refusal) → answer (λ n. (Ok tt)) Err (change_code a) ≡ a
    back (Ok _) = refl
    back (Err c) = answer_refusal (λ n. (Ok tt)) Err c

-- with the number of pairs
abbrev counted_pairs : ℕ → ℕ → Result NewRecipe Refusal
counted_pairs c n = Ok (record { records = n; pairs = c })

pub book_code_inj : (before : ℕ) (a b : Result NewRecipe Refusal) → book_code a ≡ book_code b → pairs_after before a ≡ pairs_after before b
    → a ≡ b
book_code_inj before a b e p = sym (back a) ∙ ap₂ given p e ∙ back b
  where
    given : ℕ → ℤ → Result NewRecipe Refusal
    given c = answer (counted_pairs c) Err

    back : (a : Result NewRecipe Refusal) → given (pairs_after before a) (book_code a) ≡ a
    back (Ok x) = refl
    back (Err c) = answer_refusal (counted_pairs before) Err c

-- 1 is yes, 0 no
abbrev said : ℕ → Result Bool Refusal
said zero = (Ok false)
said (suc n) = (Ok true)

pub check_code_inj : (a b : Result Bool Refusal) → check_code a ≡ check_code b → a ≡ b
check_code_inj = answer_inj said Err check_code back
  where
    back : (a : Result Bool Refusal) → answer said Err (check_code a) ≡ a
    back (Ok true) = refl
    back (Ok false) = refl
    back (Err c) = answer_refusal said Err c

-- minus 9, exactly
module _ (p r l s w : List ℕ) (a : Result ℕ Refusal) (k : ℤ) where
  nine_as : NineExactly p r l s w a → k ≡ count_code a → NineAs p r l s w k
  unfolding NineExactly NineAs
  nine_as n e = (λ f. n.0 (count_code_inj a (Err Refusal.LineRoom) (sym e ∙ f)), λ t. e ∙ ap count_code (n.1 t))

pub listed_as :
    (p r l s w : List ℕ) (A : Type 0) (a : Result ℕ Refusal) (k : ℤ) (m x : List ℕ) → Listed p r l s w a m x → NineExactly p r l s w a
    → k ≡ count_code a → A → ListedAs p r l s w k m x × (NineAs p r l s w k × A)
listed_as p r l s w A a k m x f n e y = ((a, f, e), (nine_as p r l s w a k n e, y))
