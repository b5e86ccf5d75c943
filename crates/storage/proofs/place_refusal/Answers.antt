-- `storage::place_refusal` meets its contract.
use Rattle.storage.proofs.Chains.{of_width, place-width, place-aligned, width-in, place-past, place-passes}
use Rattle.storage.proofs.place_refusal.Goals as goal

pub returns-then-not-is_width : goal.returns-then-not-is_width
returns-then-not-is_width c = search place-width

pub remainder-requires : goal.remainder-requires
remainder-requires c = search of_width

pub returns-then-remainder-ne0 : goal.returns-then-remainder-ne0
returns-then-remainder-ne0 c = search place-aligned

pub overflow_sub-registers : goal.overflow_sub-registers
overflow_sub-registers c = search width-in

pub returns-then-registers-width : goal.returns-then-registers-width
returns-then-registers-width c = search place-past

pub returns : goal.returns
returns c = search place-passes
