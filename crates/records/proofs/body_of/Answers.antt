-- `records::body_of` meets its contract. The body is what stands behind the first record. Assumes nothing.
use mathlib.Core.Path.{ap}
use lib.ListN.{drop}
use Rattle.records.proofs.Parts.{rest_part, body_lies}
use Rattle.records.proofs.body_of.Goals as goal

pub returns : goal.returns
returns c = rw rest_part (record { lies = body_lies _ c.requires.0 c.requires.1; is = λ b p. ap (drop 4) p })
