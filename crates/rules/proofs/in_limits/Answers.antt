-- `rules::in_limits` meets its contract: each test that fails refutes the limits, and all of them together are the limits.
use Rattle.std.proofs.Common.{sym, arith}
use Rattle.rules.proofs.Settings.{good-within, not_within}
use Rattle.rules.proofs.in_limits.Goals as goal

pub returns-then-lines-lt8 : goal.returns-then-lines-lt8
returns-then-lines-lt8 c = sym (not_within _ (λ g. omega arith))

pub returns-then-lines-gt4096 : goal.returns-then-lines-gt4096
returns-then-lines-gt4096 c = sym (not_within _ (λ g. omega arith))

pub returns-then-lines-ne0 : goal.returns-then-lines-ne0
returns-then-lines-ne0 c = sym (not_within _ (λ g. omega arith))

pub returns-then-frames-lt16 : goal.returns-then-frames-lt16
returns-then-frames-lt16 c = sym (not_within _ (λ g. omega arith))

pub returns-then-frames-gt256 : goal.returns-then-frames-gt256
returns-then-frames-gt256 c = sym (not_within _ (λ g. omega arith))

pub returns-then-frames-ne0 : goal.returns-then-frames-ne0
returns-then-frames-ne0 c = sym (not_within _ (λ g. omega arith))

pub returns-then-pages-lt1 : goal.returns-then-pages-lt1
returns-then-pages-lt1 c = sym (not_within _ (λ g. omega arith))

pub returns-then-pages-gt4096 : goal.returns-then-pages-gt4096
returns-then-pages-gt4096 c = sym (not_within _ (λ g. omega arith))

pub returns : goal.returns
returns c = sym (good-within _ (omega arith))
