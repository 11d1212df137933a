use lib.Count.{leading_le}
use mir.Facts.{Fits-le, Fits-lit}
use Rattle.number_varint.proofs.Marker.{zeros_leading}
use Rattle.number_varint.proofs.ones.Goals as goal

pub overflow_cast-result : goal.overflow_cast-result
overflow_cast-result c = Fits-le (leading_le 8 _) (Fits-lit tt)

pub returns : goal.returns
returns c = zeros_leading c.args.b c.ranges.b.fits
