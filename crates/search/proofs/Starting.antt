-- A search from the pattern and the recipe begins with one goal, and its assignments are those that take the one to the other. The recipe
-- stands at the start of the work area behind its heights, and the goal behind it; 32 records of pattern leave room for all that may be
-- written. Assumes nothing.
use mathlib.Core.Path.{◌≡◌, refl, sym, ap, ◌∙◌, subst₂}
use mathlib.Core.List.{List, [], ◌∷◌, append-nil}
use Prim.Native.Nat.{ℕ, zero, suc, ◌+◌, ◌-◌, ◌*◌, ◌≤◌}
use native.Mathlib.Omega.{arith}
use lib.ListN.{length, replicate}
use lib.Seq.{sets}
use Rattle.matching.specs.Goals.{Goal.match, Sweeps}
use Rattle.terms.specs.Figures.{variables, pattern_records, recipe_records, value_records, table_bytes}
use Rattle.terms.specs.Term.{Term, size}
use Rattle.terms.specs.Table.{encode}
use Rattle.terms.specs.Refusal.{OccursIn}
use Rattle.terms.proofs.Table.{encode_one, encode_length}
use Rattle.terms.proofs.Locals.{closed_more}
use Rattle.matching.proofs.Lines.{open_line, length_blank, extends_blank, assigns_blank}
use Rattle.records.specs.Parts.{Part}
use Rattle.records.proofs.Parts.{part}
use Rattle.heights.specs.Heights.{heights}
use Rattle.assignments.specs.declared.Entry.TheVariants.{Open}
use Rattle.listing.specs.declared.Tally.{Tally}
use Rattle.assignments.specs.Held.{Holds}
use Rattle.listing.specs.Outcome.{none_found, outcome}
use Rattle.agenda.specs.declared.Agenda.{Agenda}
use Rattle.agenda.specs.declared.StoredGoal.{StoredGoal}
use Rattle.agenda.specs.Stored.{stored_bytes, stored_match}
use Rattle.agenda.specs.State.{goal_bytes, height_bytes, WrittenTarget, Easy, Target, State, Sat}
use Rattle.agenda.proofs.Frame.{target_kept, kept_sets, length_stored, goal_stored, chain_match}
use Rattle.agenda.proofs.Targets.{NewTarget, written_target, new_target}
use Rattle.search.specs.Collected.{Tallied, Collects, Collected}
use Rattle.search.specs.Searched.{Begins, Searched}
use Rattle.search.proofs.Tallies.{tallied_same}

holds_none : (W : List ℕ) (top n : ℕ) → Holds W top (replicate n Open) (open_line n)
holds_none W top zero = tt
holds_none W top (suc n) = (tt, holds_none W top n)

pub recipe_short : (p t : List ℕ) (limit : ℕ) (L X W : List ℕ) → Collects p t limit L X W → length t ≤ 4 * recipe_records
recipe_short p t limit L X W c = omega (arith, ap length c.recipe.table.0, encode_length c.recipe.tree, c.recipe.most)

abbrev pub start : ℕ → Agenda
start n = record { top = n + goal_bytes; easy = n; deferred = 0 }

abbrev pub first_goal : StoredGoal
first_goal = stored_match 0 height_bytes height_bytes 0

-- the recipe is written, and then its heights
module _ (p t : List ℕ) (limit : ℕ) (L X W : List ℕ) (c : Collects p t limit L X W) (W₁ : List ℕ) (e₁ : W₁ ≡ sets W height_bytes t) where
  recipe_length : length t ≡ 4 * size c.recipe.tree
  recipe_length = ap length c.recipe.table.0 ∙ encode_length c.recipe.tree

  recipe_written : W₁ ≡ sets W height_bytes (encode c.recipe.tree)
  recipe_written = e₁ ∙ ap (sets W height_bytes) c.recipe.table.0

  recipe_room : height_bytes + 4 * size c.recipe.tree ≤ length W
  recipe_room = omega (arith, c.area, c.recipe.most)

  recipe_few : size c.recipe.tree ≤ value_records
  recipe_few = omega (arith, c.recipe.most)

  pub recipe_target_written : WrittenTarget W₁ height_bytes (height_bytes + length t)
  recipe_target_written =
      written_target W W₁ W₁ 0 c.recipe.tree recipe_written recipe_room recipe_few
      (closed_more 0 pattern_records c.recipe.tree (omega arith) c.recipe.table.1) (height_bytes + length t)
      (omega (arith, recipe_length))

module _ (p t : List ℕ) (limit : ℕ) (L X W : List ℕ) (c : Collects p t limit L X W) (W₁ : List ℕ) (e₁ : W₁ ≡ sets W height_bytes t)
    (W₂ : List ℕ) (kept_heights : (u : Term) → Part W₁ height_bytes u → W₂ ≡ sets W₁ (height_bytes - height_bytes) (heights u)) where
  abbrev x : Term
  x = c.pattern.tree

  abbrev y : Term
  y = c.recipe.tree

  made : NewTarget W W₂ 0 y
  made = new_target W W₁ W₂ 0 y (recipe_written p t limit L X W c W₁ e₁) (recipe_room p t limit L X W c W₁ e₁)
      (recipe_few p t limit L X W c W₁ e₁) kept_heights

  area : length W₂ ≡ table_bytes
  area = made.same_length ∙ c.area

  y_length : length t ≡ 4 * size y
  y_length = recipe_length p t limit L X W c W₁ e₁

  few : size x ≤ pattern_records
  few = c.pattern.most

  short : size y ≤ recipe_records
  short = c.recipe.most

  pub first_room : height_bytes + length t + goal_bytes ≤ length W₂
  first_room = omega (arith, area, y_length, short)

  module _ (W₃ : List ℕ) (e₃ : W₃ ≡ sets W₂ (height_bytes + length t) (stored_bytes first_goal)) where
    target : Target W₃ (height_bytes + length t + goal_bytes) (size x) height_bytes height_bytes y
    target =
        target_kept W₂ W₃ (height_bytes + length t)
        (kept_sets (stored_bytes first_goal) W₂ W₃ (height_bytes + length t) (height_bytes + length t) e₃ (omega arith)
        (omega (arith, first_room)))
        (height_bytes + length t + goal_bytes) (omega arith) (size x) height_bytes height_bytes y
        (record {
          part = made.part;
          below = omega (arith, y_length);
          normal = c.recipe.normal;
          ground = c.recipe.ground;
          few = few;
          closed = closed_more 0 (pattern_records - size x) y (omega arith) c.recipe.table.1;
          short = omega (arith, few, short);
          heights = made.heights;
        })

    state : State 0 p W₃ (start (height_bytes + length t)) (replicate variables Open) (match x y ∷ []) [] (open_line variables)
    state = record {
      easy =
          chain_match Easy p W₃ (height_bytes + length t + goal_bytes) (height_bytes + length t) first_goal
          (goal_stored W₂ W₃ (height_bytes + length t) first_goal e₃ first_room refl refl (omega arith) refl refl refl)
          (omega arith) (omega arith) (omega (arith, y_length)) (omega arith)
          x y [] refl tt (part p 0 x [] (c.pattern.table.0 ∙ sym (append-nil (encode x)))) target (
            (c.pattern.below, λ i o. (x, c.pattern.table, o)),
            c.recipe.normal,
          ) refl;
      deferred = refl;
      entries = holds_none W₃ (height_bytes + length t + goal_bytes) variables;
      line = length_blank variables;
      assigns = assigns_blank (OccursIn p) variables;
      room = omega (arith, y_length, short, few);
    }

    pub begins : Begins 0 p W₃ (start (height_bytes + length t)) (replicate variables Open) limit L X none_found
    begins = record {
      ready = record {
        gs = match x y ∷ [];
        hs = [];
        line = open_line variables;
        state = state;
        bounds = record {
          whole = length_stored (stored_bytes first_goal) W₂ W₃ (height_bytes + length t) e₃ ∙ area;
          short = omega (arith, ap length c.pattern.table.0, encode_length x, few);
          top = omega (arith, y_length, short);
          start = omega arith;
          even = omega (arith, y_length);
          easy_room = omega arith;
          easy_even = omega (arith, y_length);
          deferred_room = omega arith;
          deferred_even = refl;
        };
      };
      counts = record { lines = c.lines; values = c.values; limited = c.limited; upto = omega arith; records = omega arith };
    }

    module _ (W₄ L₄ X₄ : List ℕ) (r : Tally)
        (z : Searched 0 Sat p W₃ (start (height_bytes + length t)) (replicate variables Open) limit L X none_found W₄ L₄ X₄ r) where
      tallied : Tallied p (Sweeps x y) limit (outcome L X none_found) (outcome L₄ X₄ r)
      tallied =
          tallied_same p limit (Sweeps x y) (Sat (match x y ∷ []) [] (open_line variables)) (outcome L X none_found) (outcome L₄ X₄ r)
          (λ φ v. (λ q. ((q, tt), tt, extends_blank φ variables), λ q. q.0.0)) (z.answer (match x y ∷ []) [] (open_line variables) state)

      pub answers : Collected p t limit L X L₄ X₄ r
      answers = record {
        answer = λ q u p_is t_is.
            subst₂ (λ (a b : Term). Tallied p (Sweeps a b) limit (outcome L X none_found) (outcome L₄ X₄ r))
            (encode_one x q (sym c.pattern.table.0 ∙ p_is)) (encode_one y u (sym c.recipe.table.0 ∙ t_is)) tallied;
      }
