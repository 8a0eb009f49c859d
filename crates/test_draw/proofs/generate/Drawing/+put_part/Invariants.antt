-- `test_draw::generate::Drawing::put_part` is safe and ends. Each part that is put is smaller, which is the measure.
-- Assumes nothing.
use Rattle.test_draw.proofs.generate.Drawing.+put_part.Given as goal

abbrev pub decreases-put_part : goal.decreases-put_part
decreases-put_part l = l.size
