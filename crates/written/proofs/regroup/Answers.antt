-- `written::regroup` meets its contract.
use Prim.Native.Nat.{◌%◌}
use native.Mathlib.Omega.{arith}
use Rattle.numbers.proofs.Digits.{set-small}
use Rattle.written.proofs.Windows.{window-small}
use Rattle.written.proofs.Setting.{regroup-told}
use borrow.Author.Rules.{rules}
use Rattle.written.proofs.regroup.Goals as goal

pub with_bit-requires : goal.with_bit-requires
with_bit-requires c = (rw c.window-kept.ensures (window-small _ _ _ _ _ _), search rules)

pub overflow_add-result : goal.overflow_add-result
overflow_add-result c =
    omega (arith, c.with_bit.ensures, set-small 16 c.window-kept.result (c.args.frame % 16) (rw c.window-kept.ensures (window-small _ _ _ _ _ _)) (search rules))

pub returns : goal.returns
returns c = regroup-told _ _ _ _ _ _ _ _ c.window-kept.ensures c.with_bit.ensures
