-- A chunk fed: each way through `feed`. Assumes nothing.
use mathlib.Core.Path.{◌≡◌, refl, sym, ◌∙◌, ap, subst}
use mathlib.Core.Bool.{Bool, true, false, cond}
use mathlib.Core.List.{[], ◌∷◌, ◌++◌}
use Prim.Native.Nat.{ℕ, suc, ◌+◌, ◌-◌, ◌≤◌, ◌<◌}
use native.Mathlib.Omega.{arith}
use lib.Dec.{eqb}
use lib.ListN.{length, take, drop, length-append}
use lib.Seq.{take_all}
use Rattle.text.specs.Parts.{Text, up_to}
use Rattle.text.specs.Lines.{Holds, Extends}
use Rattle.text.specs.declared.Reader.{Reader}
use Rattle.text.proofs.Fields.{up-to-length}
use Rattle.text.proofs.Putting.{puts_none}
use Rattle.store.specs.Shown.{Lent, kept, lengths_of}
use Rattle.replies.specs.Answers.{longest}
use Rattle.session.specs.declared.Runner.{Runner}
use Rattle.session.specs.Transcript.{Running, stopped, onward, told_to}
use Rattle.session.specs.Running.{StandsFor, Tells, Taken}
use Rattle.session.specs.Between.{desk_in, Stands, Rested}
use Rattle.session.proofs.Telling.{onward-none, told-full, told-within}
use Rattle.session.proofs.Making.{made_none}
use Rattle.session.proofs.Resting.{tells_as}

-- Too little room.
pub taken-full : (r : Runner) (m : Lent) (chunk out : Text) → length out < longest → Taken r m chunk out r m out 0 0
taken-full r m chunk out h =
    record {
      lengths = refl;
      within = omega arith;
      moves = λ k l. absurd (omega (arith, h, k));
      said = [];
      fits = omega arith;
      puts = puts_none _ 0;
      full = λ k. (refl, refl, refl, refl);
      tells =
          λ x begun q.
          tells_as (kept r.state m) x r m 0 [] _ x begun (told-full (lengths_of m) (length out) x begun chunk h ∙ sym (onward-none (stopped x begun))) q (made_none x (kept r.state m));
    }

-- A runner without its line.
pub desk-stands : {r : Runner} {m : Lent} {x : Running} {begun : Text} → StandsFor r m x begun → Stands (desk_in r m) x
desk-stands q = record { tally = q.tally; store = q.store }

-- No line was begun.
empty-line : (r : Reader) (begun : Text) → Holds r begun → r.count ≡ 0 → begun ≡ []
empty-line r [] q e = refl
empty-line r (b ∷ bs) q e = absurd (omega (arith, q.counted))

from-nought : (n : ℕ) → n - 0 ≡ n
from-nought n = omega arith

pub taken-rest : (r : Runner) (m : Lent) (chunk first : Text) (s : Runner) (after : Lent) (out : Text) (used filled : ℕ) → longest ≤ length first → r.reader.count ≡ 0
    → Rested (desk_in r m) chunk 0 first 0 s after out used filled → Taken r m chunk first s after out used filled
taken-rest r m chunk first s after out used filled h e w =
    record {
      lengths = w.lengths;
      within = w.within;
      moves = λ k l. w.moves (omega arith) l;
      said = w.said;
      fits = omega (arith, w.fits);
      puts = w.puts;
      full = λ k. absurd (omega (arith, h, k));
      tells =
          λ x begun q.
          subst (λ (b : Text). Tells (kept r.state m) x s after used w.said (told_to (lengths_of m) (length first) x b chunk)) (sym (empty-line r.reader begun q.reader e))
          (subst (λ (n : ℕ). Tells (kept r.state m) x s after n w.said (told_to (lengths_of m) (length first) x [] chunk)) (from-nought used)
          (subst (λ (n : ℕ). Tells (kept r.state m) x s after (used - 0) w.said (told_to (lengths_of m) n x [] chunk)) (from-nought (length first)) (w.tells x (desk-stands q))));
    }

-- Where a part of a line goes on.
pub up-to-append : (a b : Text) → length a ≤ up_to 10 a → up_to 10 (a ++ b) ≡ length a + up_to 10 b
unfolding up_to
up-to-append [] b h = omega arith
up-to-append (x ∷ xs) b h = go (eqb x 10) (up-to-append xs b) h
  where
    go : (t : Bool) → (length xs ≤ up_to 10 xs → up_to 10 (xs ++ b) ≡ length xs + up_to 10 b) → suc (length xs) ≤ cond t 0 (suc (up_to 10 xs))
        → cond t 0 (suc (up_to 10 (xs ++ b))) ≡ suc (length xs) + up_to 10 b
    go true ih k = absurd (omega (arith, k))
    go false ih k = omega (arith, ih (omega (arith, k)))

-- The line that was begun does not end here.
pub taken-part : (r : Runner) (m : Lent) (chunk first : Text) (whole : Reader) (end : ℕ) → longest ≤ length first → end ≡ 0 + up_to 10 (drop 0 chunk) → length chunk ≤ end
    → Extends r.reader (take end chunk) whole
    → Taken r m chunk first (record { state = r.state; started = r.started; tally = r.tally; reader = whole }) m first end 0
taken-part r m chunk first whole end h here long keeps =
    record {
      lengths = refl;
      within = omega (arith, here, up-to-length 10 chunk);
      moves = λ k l. omega (arith, long, l);
      said = [];
      fits = omega arith;
      puts = puts_none _ 0;
      full = λ k. absurd (omega (arith, h, k));
      tells =
          λ x begun q.
          tells_as (kept r.state m) x _ m end [] _ x (begun ++ chunk)
          (told-within (lengths_of m) (length first) x begun chunk h (omega (arith, here, long)) ∙ ap (λ (n : ℕ). onward n [] (stopped x (begun ++ chunk))) count)
          (record {
            reader = subst (λ (t : Text). Holds whole (begun ++ t)) (take_all end chunk long) (keeps begun q.reader);
            part = omega (arith, here, long, q.part, up-to-append begun chunk q.part, length-append begun chunk);
            tally = q.tally;
            store = q.store;
          })
          (made_none x (kept r.state m));
    }
  where
    count : length chunk ≡ end
    count = omega (arith, here, long, up-to-length 10 chunk)

pub end_few : (chunk : Text) (end : ℕ) → end ≡ 0 + up_to 10 (drop 0 chunk) → end ≤ length chunk
end_few chunk end here = omega (arith, here, up-to-length 10 chunk)
