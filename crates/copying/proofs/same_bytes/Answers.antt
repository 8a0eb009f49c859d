-- `copying::same_bytes` meets its contract. Assumes nothing.
use Rattle.std.proofs.Common.{◌≡◌, ℕ, Bool, true, false, List, Decides, refl}
use Rattle.std.proofs.lemmas.Bool.{false≢true}
use Rattle.std.proofs.lemmas.Bool.Decides.{Decides-eqb}
use Rattle.std.proofs.lemmas.Slice.Eq.{slice_eq-Decides}
use Rattle.copying.specs.Equality.{Same}
use Rattle.copying.proofs.same_bytes.Goals as goal

told : (a b : List ℕ) (r : Bool) → Decides r (a ≡ b) → Same a b r
unfolding Same
told a b true h = h.0 refl
told a b false h = λ e. false≢true (h.1 e)

pub returns : goal.returns
returns c = told _ _ _ (slice_eq-Decides Decides-eqb _ _ _ c.eq.ensures)
