-- `book::write_recipe` meets its contract. Assumes nothing.
use Rattle.book.proofs.Answers.{recipe_long, recipe_short, recipe_written}
use borrow.Author.Rules.{rules}
use Rattle.book.proofs.write_recipe.Goals as goal

pub returns-then-n-gt-RECIPE_RECORDS : goal.returns-then-n-gt-RECIPE_RECORDS
returns-then-n-gt-RECIPE_RECORDS c = search (rules, recipe_long)

pub returns-then-out-form : goal.returns-then-out-form
returns-then-out-form c = search (rules, recipe_short)

pub returns : goal.returns
returns c = search (rules, recipe_written)
