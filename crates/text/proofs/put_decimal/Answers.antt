-- `text::put_decimal` meets its contract.
use Rattle.text.proofs.Putting.{decimal-room, puts-same}
use Rattle.text.proofs.put_decimal.Goals as goal

pub put-requires : goal.put-requires
put-requires c = decimal-room _ _ _ _ c.write_decimal-digits.ensures c.requires

pub returns : goal.returns
returns c = puts-same _ _ _ _ _ _ c.write_decimal-digits.ensures c.put.ensures
