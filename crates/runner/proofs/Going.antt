-- A chunk fed by one call after another. Assumes nothing.
use mathlib.Core.Path.{◌≡◌, sym, ◌∙◌, subst}
use mathlib.Core.List.{[], ◌++◌, append-nil}
use Prim.Native.Nat.{ℕ, ◌-◌}
use native.Mathlib.Omega.{arith}
use lib.ListN.{length, take, drop, length-drop}
use lib.Seq.{take_all}
use Rattle.std.specs.Prelude.{Ok}
use Rattle.std.proofs.lemmas.List.{nil_from_length}
use Rattle.text.specs.Parts.{Text}
use Rattle.store.specs.Shown.{Lent, lengths_of}
use Rattle.session.specs.declared.Runner.{Runner}
use Rattle.session.specs.Running.{Taken, Feeds}
use Rattle.session.specs.Running.Feeds.{stop, next}
use Rattle.session.proofs.Taking.{taken-room}
use Rattle.runner.specs.Reading.{AnswersChunk}

pub record Going (r : Runner) (m : Lent) (chunk first : Text) (s : Runner) (n : Lent) (out rest : Text) : Type 0 where
  pub lengths : lengths_of n ≡ lengths_of m
  pub same_room : length out ≡ length first
  pub on : (later : Text) (t : Runner) (o : Lent) → Feeds s n rest later t o → (said : Text) × Feeds r m chunk said t o

module _ {r : Runner} {m : Lent} {chunk first : Text} {s : Runner} {n : Lent} {out rest : Text} (w : Going r m chunk first s n out rest) where
  pub going_next : {t : Runner} {o : Lent} {after : Text} {used filled : ℕ} → Taken s n rest out t o after used filled
      → Going r m chunk first t o after (take (length rest - used) (drop used rest))
  going_next {t = t} {o = o} {used = used} k =
      record {
        lengths = k.lengths ∙ w.lengths;
        same_room = taken-room k ∙ w.same_room;
        on =
            λ later u p f.
            w.on (k.said ++ later) u p
            (subst (λ (i : Text). Feeds s n i (k.said ++ later) u p) (append-nil rest)
            (next rest [] k (subst (λ (i : Text). Feeds t o i later u p) (whole ∙ sym (append-nil (drop used rest))) f)));
      }
    where
      whole : take (length rest - used) (drop used rest) ≡ drop used rest
      whole = take_all (length rest - used) (drop used rest) (omega (arith, length-drop used rest))

  pub answers-all : {E : Type 0} → length rest ≡ 0 → AnswersChunk {E = E} r m chunk (Ok s) n
  answers-all e = record { lengths = w.lengths; fed = w.on [] s n (subst (λ (i : Text). Feeds s n i [] s n) (sym (nil_from_length rest e)) stop) }
