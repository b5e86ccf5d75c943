-- `vcm::vcm_raw_line` meets its contract.
use mathlib.Core.Path.{sym, refl}
use mathlib.Core.List.{[]}
use native.Mathlib.Omega.{arith}
use Rattle.rules.proofs.Refusals.{number-some}
use Rattle.storage.proofs.Chains.{measured-none}
use Rattle.storage.proofs.Looking.{companion}
use Rattle.storage.proofs.Using.{line_refused}
use Rattle.border.proofs.Answers.{copied_none}
use Rattle.vcm.proofs.vcm_raw_line.Goals as goal

pub returns-in-Err : goal.returns-in-Err
returns-in-Err c =
    rw c.from.ensures
    (record {
      part = [];
      lends = rw (sym c.read_registers-loaded.ensures) (λ _. line_refused _ _ _ _ c.measure-lengths.ensures c.in-Err.ensures.0 (number-some _));
      companion = rw (sym c.read_registers-loaded.ensures) (λ _. companion _ _ _ _ c.measure-lengths.ensures c.in-Err.ensures.0);
      bytes_is = copied_none [] _ (λ e. omega (arith, e));
    })

pub line_admitted-part-requires : goal.line_admitted-part-requires
line_admitted-part-requires c = measured-none _ _ c.measure-lengths.ensures c.in-Ok.ensures.0 refl

pub returns-in-Ok : goal.returns-in-Ok
returns-in-Ok c =
    record {
      part = _;
      lends = rw c.read_registers-loaded.ensures at c.line_admitted-part.ensures;
      companion = rw (sym c.read_registers-loaded.ensures) (λ _. companion _ _ _ _ c.measure-lengths.ensures c.in-Ok.ensures.0);
      bytes_is = c.copy_line.ensures;
    }
