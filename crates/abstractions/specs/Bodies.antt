-- What counting the copies of an argument and writing a body need, and what they leave. Copies and bodies are those of `matching`: a body
-- is the target with some copies replaced by a local, by a choice at each. A part is given by a list that begins with it; bytes may follow
-- behind it.
--   chosen_in m i                        choice i is made, in the table m of choices: its byte i isn't 0
--   Counting s d e                       s and e begin with terms, and d binders above the first can be counted
--   CopiesCounted s d e r n              the term that s begins with, below d binders, has n copies of the one that e begins with, and
--                                        takes r bytes
--   BodySource s d e last k room o       a body can be written from byte o on, before byte `room`, with the choices from k on, before
--                                        choice `last`
--   Chose s d m k out o after end        the copy that s begins with was written into out from byte o on, by choice k
--   Body s d e m k out o after r end j   the body by the choices from k on was written into out from byte o on, and choice j is the next;
--                                        the term that s begins with takes r bytes
use Rattle.std.specs.Prelude.{◌≡◌, Bool, List, ℕ, ◌+◌, ◌*◌, ◌≤◌, ltb, length, get_or}
use Rattle.std.proofs.lemmas.List.Edits.{sets}
use Rattle.terms.specs.Figures.{table_bytes}
use Rattle.terms.specs.Term.{Term, size, shift}
use Rattle.terms.specs.Table.{encode}
use Rattle.matching.specs.Bodies.{copies, choose, body}
use Rattle.records.specs.Parts.{Part, Whole, Ends}
use Rattle.substitution.specs.Writers.{Source}

abbrev pub chosen_in : List ℕ → ℕ → Bool
chosen_in m i = ltb 0 (get_or m i 0)

-- d grows by one for a binder, whose record has four bytes
pub record Counting (s : List ℕ) (d : ℕ) (e : List ℕ) : Type 0 where
  pub target : Whole s 0
  pub argument : Whole e 0
  pub shallow : d + length s ≤ table_bytes

pub record CopiesCounted (s : List ℕ) (d : ℕ) (e : List ℕ) (r n : ℕ) : Type 0 where
  pub ends : Ends s 0 r
  pub few : 4 * n ≤ r
  pub exact : (t y : Term) → Part s 0 t → Part e 0 y → n ≡ copies y d t

pub record BodySource (s : List ℕ) (d : ℕ) (e : List ℕ) (last k room o : ℕ) : Type 0 where
  pub source : Source (shift 1) s 0 d room o
  pub argument : Whole e 0
  pub most : length s ≤ table_bytes
  pub choices : k + size source.tree ≤ last

pub record Chose (s : List ℕ) (d : ℕ) (m : List ℕ) (k : ℕ) (out : List ℕ) (o : ℕ) (after : List ℕ) (end : ℕ) : Type 0 where
  pub exact : (t : Term) → Part s 0 t → end ≡ o + 4 * size (choose (chosen_in m k) d t)
  pub bytes : (t : Term) → Part s 0 t → after ≡ sets out o (encode (choose (chosen_in m k) d t))

pub record Body (s : List ℕ) (d : ℕ) (e m : List ℕ) (k : ℕ) (out : List ℕ) (o : ℕ) (after : List ℕ) (r end j : ℕ) : Type 0 where
  pub ends : Ends s 0 r
  pub short : end ≤ o + r
  pub few : 4 * j ≤ r + 4 * k
  pub number : (t y : Term) → Part s 0 t → Part e 0 y → j ≡ k + copies y d t
  pub exact : (t y : Term) → Part s 0 t → Part e 0 y → end ≡ o + 4 * size (body y d t (chosen_in m) k)
  pub bytes : (t y : Term) → Part s 0 t → Part e 0 y → after ≡ sets out o (encode (body y d t (chosen_in m) k))
