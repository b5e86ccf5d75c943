-- A turn of the loop over lines: each way through it. Assumes nothing.
use mathlib.Core.Path.{◌≡◌, refl, sym, subst}
use mathlib.Core.Bool.{Bool}
use mathlib.Core.List.{[]}
use Prim.Native.Nat.{ℕ, ◌+◌, ◌-◌, ◌≤◌, ◌<◌}
use native.Mathlib.Omega.{arith}
use lib.ListN.{length, take, drop, length-take, length-drop}
use Rattle.text.specs.Parts.{Text, up_to}
use Rattle.text.specs.Output.{Puts}
use Rattle.text.proofs.Putting.{puts_none}
use Rattle.std.specs.Prelude.{Ok, Err}
use Rattle.records.specs.declared.Record.{Record}
use Rattle.records.specs.declared.Refusal.{Refusal}
use Rattle.records.specs.Records.{parsed}
use Rattle.records.specs.Shown.{numbers_of, refusal_number, shown_parsed}
use Rattle.store.specs.Shown.{StoreState, Lent, kept, Promises}
use Rattle.tally.specs.declared.Tally.{Tally}
use Rattle.tally.specs.Counts.{tally_after}
use Rattle.replies.specs.declared.Shown.{Shown}
use Rattle.replies.specs.declared.Shown.TheVariants.{Nothing}
use Rattle.replies.specs.Answers.{answer_line, longest}
use Rattle.replies.specs.Lines.{answer_of}
use Rattle.replies.specs.Calls.{call_of}
use Rattle.session.specs.Between.{admitted, started_after, Desk, desk_of, kept_on, Lines}
use Rattle.session.proofs.Lines.{answers-nothing, lines_next}
use Rattle.session.proofs.Answering.{AnswersLine, answers-down, answers-up}

module _ {d : Desk} {text : Text} {from : ℕ} {first : Text} {at : ℕ} {e : Desk} {out : Text} {used filled : ℕ} (w : Lines d text from first at e out used filled) where
  module _ (end : ℕ) (here : end ≡ used + up_to 10 (drop used text)) (inside : end < length text) (room : longest ≤ length first - filled) where
    -- an empty line
    pub turn-empty : end ≤ used → Lines d text from first at e out (end + 1) filled
    turn-empty h =
        let none : end - used ≡ 0 = omega arith in
        lines_next w end here e [] out filled inside room (subst (λ (n : ℕ). AnswersLine e (take n (drop used text)) e []) (sym none) (answers-nothing e)) (puts_none out filled)

    module _ (more : used < end) where
      some_byte : 0 < length (take (end - used) (drop used text))
      some_byte = omega (arith, length-take (end - used) (drop used text), length-drop used text)

      -- one that is turned down
      pub turn-down : (refusal : Refusal) (n : ℕ) (tally : Tally) (after : Text) (behind : ℕ)
          → shown_parsed (Err refusal) ≡ admitted e.started (parsed (take (end - used) (drop used text))) → n ≡ refusal_number refusal
          → Puts out filled (answer_line (answer_of n Nothing)) after behind → tally ≡ tally_after e.tally n
          → Lines d text from first at (desk_of e.state e.started tally e.lent) after (end + 1) behind
      turn-down refusal n tally after behind ask is p t =
          lines_next w end here (desk_of e.state e.started tally e.lent) (answer_line (answer_of n Nothing)) after behind inside room
          (subst (λ (s : Tally). AnswersLine e (take (end - used) (drop used text)) (desk_of e.state e.started s e.lent) (answer_line (answer_of n Nothing))) (sym t)
          (answers-down e (take (end - used) (drop used text)) refusal n some_byte ask is))
          p

      -- one whose call is made
      pub turn-call : (r : Record) (n : ℕ) (shown : Shown) (started : Bool) (state : StoreState) (lent : Lent) (tally : Tally) (after : Text) (behind : ℕ)
          → shown_parsed (Ok r) ≡ admitted e.started (parsed (take (end - used) (drop used text)))
          → Promises (call_of r.word (numbers_of r)) (kept_on e) (answer_of n shown) (kept state lent)
          → Puts out filled (answer_line (answer_of n shown)) after behind → tally ≡ tally_after e.tally n → started ≡ started_after e.started n
          → Lines d text from first at (desk_of state started tally lent) after (end + 1) behind
      turn-call r n shown started state lent tally after behind ask h p t s =
          lines_next w end here (desk_of state started tally lent) (answer_line (answer_of n shown)) after behind inside room
          (subst (λ (x : Tally). AnswersLine e (take (end - used) (drop used text)) (desk_of state started x lent) (answer_line (answer_of n shown))) (sym t)
          (answers-up e n shown started state lent r.word (numbers_of r) s h (take (end - used) (drop used text)) r some_byte ask refl refl))
          p
