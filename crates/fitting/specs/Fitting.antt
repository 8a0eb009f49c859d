-- Whether a pattern has a match with a recipe. Document 02, request "Which rules fit which buoy, always up to date": "An entry is yes
-- exactly if the rule's left side has a match with the buoy's whole recipe." "Space never affects an entry.": nothing here speaks of room.
--   HasMatch p t   the pattern of the table p has a match with the recipe of the table t
use Rattle.std.specs.Prelude.{List, ℕ}
use Rattle.terms.specs.Figures.{variables}
use Rattle.terms.specs.Term.{Term}
use Rattle.terms.specs.Table.{IsTable}
use Rattle.terms.specs.Assignment.{Assignment, Match}

-- a match as document 01 has it: "if the filled pattern sweeps to the recipe"
pub record HasMatch (p t : List ℕ) : Type 0 where
  pub pattern_term : Term
  pub recipe_term : Term
  pub pattern_table : IsTable p pattern_term
  pub recipe_table : IsTable t recipe_term
  pub assignment : Assignment
  pub is_match : Match variables pattern_term recipe_term assignment
