-- `numbers::with_bit` meets its contract.
use Rattle.numbers.specs.Digits.{set_at}
use Rattle.numbers.proofs.with_bit.Goals as goal

pub returns : goal.returns
unfolding set_at
returns c = cc
