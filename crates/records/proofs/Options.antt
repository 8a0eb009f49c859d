-- What `is_some` and `is_none` tell of an answer. By its two cases. Assumes nothing.
use mathlib.Core.Path.{◌≡◌, refl, sym, ap, ◌∙◌, subst}
use mathlib.Core.Bool.{Bool, true, false, not}
use lib.Dec.{T}
use Rattle.std.specs.Prelude.{is_some}
use Rattle.std.specs.declared.option.Option.{Option}
use Rattle.std.specs.declared.option.Option.TheVariants.{Some, None}

module _ (A : Type 0) where
  pub some_found : (r : Option A) (b : Bool) → b ≡ is_some r → b ≡ true → (x : A) × (r ≡ Some x)
  some_found (Some x) b e f = (x, refl)
  some_found None b e f = let z : T false = subst T (sym f ∙ e) tt in absurd z

  pub none_found : (r : Option A) (b : Bool) → b ≡ is_some r → b ≡ false → r ≡ None
  none_found (Some x) b e f = let z : T false = subst T (sym e ∙ f) tt in absurd z
  none_found None b e f = refl

  -- what `is_none` says
  pub some_left : (r : Option A) (b : Bool) → is_some r ≡ not b → b ≡ false → (x : A) × (r ≡ Some x)
  some_left r b e f = some_found r (not b) (sym e) (ap not f)

  pub none_left : (r : Option A) (b : Bool) → is_some r ≡ not b → b ≡ true → r ≡ None
  none_left r b e f = none_found r (not b) (sym e) (ap not f)
