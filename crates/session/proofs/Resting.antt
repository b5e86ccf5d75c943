-- The rest of a chunk behind its lines, and a line that chunks cut. Assumes nothing.
use mathlib.Core.Path.{◌≡◌, refl, sym, ◌∙◌, ap, ap₂, subst}
use mathlib.Core.Bool.{Bool, true, false}
use mathlib.Core.List.{[], append-nil}
use Prim.Native.Nat.{ℕ, ◌+◌, ◌-◌, ◌≤◌, ◌<◌}
use native.Mathlib.Omega.{arith}
use lib.Dec.{ltb}
use borrow.Author.Tests.{ltb-true, ltb-false}
use lib.ListN.{length, take, drop, length-drop}
use lib.Seq.{take_all}
use Rattle.text.specs.Parts.{Text}
use Rattle.text.specs.Lines.{Holds, Extends}
use Rattle.text.specs.declared.Reader.{Reader}
use Rattle.store.specs.Shown.{StoreState, Lent, Kept, kept, lengths_of}
use Rattle.tally.specs.declared.Tally.{Tally}
use Rattle.replies.specs.Answers.{longest}
use Rattle.session.specs.declared.Runner.{Runner}
use Rattle.session.specs.Transcript.{Running, Told, stopped, onward}
use Rattle.session.specs.Running.{StandsFor, Made, Tells}
use Rattle.session.specs.Between.{Desk, desk_of, kept_on, Lines, NoneLeft, Rested}
use Rattle.session.proofs.Telling.{onward_then, told-full, told-within}

-- What stands behind is nothing.
pub tells_as : (before : Kept) (x : Running) (s : Runner) (after : Lent) (used : ℕ) (said : Text) (t : Told) (y : Running) (left : Text) → t ≡ onward used said (stopped y left)
    → StandsFor s after y left → Made x y before (kept s.state after) → Tells before x s after used said t
unfolding onward stopped
tells_as before x s after used said t y left e h k =
    subst (Tells before x s after used said) (sym e) (omega arith, sym (append-nil said), h, k)

module _ {d : Desk} {text : Text} {from : ℕ} {first : Text} {at : ℕ} {state : StoreState} {started : Bool} {tally : Tally} {lent : Lent} {out : Text} {used filled : ℕ}
    (w : Lines d text from first at (desk_of state started tally lent) out used filled) where
  -- no room is left
  pub rested-full : (reader : Reader) → length first - filled < longest → Holds reader []
      → Rested d text from first at (record { state = state; started = started; tally = tally; reader = reader }) lent out used filled
  rested-full reader h none =
      record {
        lengths = w.lengths;
        low = w.low;
        within = w.within;
        moves = λ r l. moves used refl r;
        said = w.said;
        fits = w.fits;
        puts = w.puts;
        tells =
            λ x q.
            let g = w.goes x q in
            tells_as (kept_on d) x _ lent (used - from) w.said _ g.now []
            (g.told ∙ ap (onward (used - from) w.said) (told-full (lengths_of d.lent) (length first - filled) g.now [] (drop used text) h))
            (record { reader = none; part = omega arith; tally = g.stands.tally; store = g.stands.store }) g.made;
      }
    where
      moves : (u : ℕ) → used ≡ u → longest ≤ length first - at → from < used
      moves u e r = go (ltb from used) refl
        where
          go : (b : Bool) → ltb from used ≡ b → from < used
          go true t = ltb-true from used t
          go false t =
              let stay : used ≡ from = omega (arith, ltb-false from used t, w.low) in
              absurd (omega (arith, w.moved stay, h, r))

  -- all of it is taken, and what is behind the last line kept
  pub rested-kept : (none reader : Reader) → longest ≤ length first - filled → NoneLeft text (length first) used filled → Holds none [] → Extends none (take (length text - used) (drop used text)) reader
      → Rested d text from first at (record { state = state; started = started; tally = tally; reader = reader }) lent out (length text) filled
  rested-kept none reader h ended q0 keeps =
      record {
        lengths = w.lengths;
        low = omega (arith, w.low, w.within);
        within = omega arith;
        moves = λ r l. l;
        said = w.said;
        fits = w.fits;
        puts = w.puts;
        tells =
            λ x q.
            let g = w.goes x q in
            tells_as (kept_on d) x _ lent (length text - from) w.said _ g.now (drop used text)
            (g.told
            ∙ (ap (onward (used - from) w.said) (told-within (lengths_of d.lent) (length first - filled) g.now [] (drop used text) h (ended h))
            ∙ (onward_then (used - from) (length (drop used text)) w.said [] (stopped g.now (drop used text))
            ∙ ap₂ (λ (n : ℕ) (t : Text). onward n t (stopped g.now (drop used text))) sum (append-nil w.said))))
            (record { reader = held; part = ended h; tally = g.stands.tally; store = g.stands.store }) g.made;
      }
    where
      sum : (used - from) + length (drop used text) ≡ length text - from
      sum = omega (arith, length-drop used text, w.low, w.within)

      held : Holds reader (drop used text)
      held = subst (Holds reader) (take_all (length text - used) (drop used text) (omega (arith, length-drop used text))) (keeps [] q0)
