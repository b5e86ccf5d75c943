-- The end of input. Assumes nothing.
use mathlib.Core.Path.{◌≡◌, sym, ◌∙◌, ap, ap₂}
use mathlib.Core.Bool.{Bool}
use mathlib.Core.List.{[], ◌∷◌, ◌++◌}
use Prim.Native.Nat.{ℕ, ◌+◌, ◌-◌, ◌≤◌, ◌<◌}
use native.Mathlib.Omega.{arith}
use lib.ListN.{length, take, length-append}
use Rattle.text.specs.Parts.{Text}
use Rattle.text.specs.Lines.{looked}
use Rattle.text.specs.Lines as lines
use Rattle.text.specs.Output.{Puts}
use Rattle.text.specs.declared.Reader.{Reader}
use Rattle.text.proofs.Putting.{puts_then}
use Rattle.rules.specs.Settings.{Pieces}
use Rattle.store.specs.Shown.{StoreState, Lent, kept, lengths_of}
use Rattle.tally.specs.declared.Tally.{Tally}
use Rattle.replies.specs.Answers.{end_line, longest, longest_end}
use Rattle.replies.proofs.Lines.{answer-few, end_few}
use Rattle.session.specs.declared.Runner.{Runner}
use Rattle.session.specs.Transcript.{Running, line_text, line_after}
use Rattle.session.specs.Running.{StandsFor, Made, Finishes}
use Rattle.session.specs.Between.{desk_of, desk_in, Stands, Lines, NoneLeft}
use Rattle.session.proofs.Whole.{whole-text, whole-stands, whole-made}
use Rattle.session.proofs.Feeding.{desk-stands}
use Rattle.session.proofs.Streaming.{last_line}

line_few : (lengths : Pieces) (x : Running) (line : Text) → length (line_text lengths x line) ≤ longest
unfolding line_text
line_few lengths x [] = omega arith
line_few lengths x (b ∷ bs) = answer-few _

module _ (r : Runner) (m : Lent) (first : Text) (line : Reader) (state : StoreState) (started : Bool) (tally : Tally) (lent : Lent) (mid : Text) (k f : ℕ)
    (h : longest + longest_end ≤ length first) (ended : lines.Ended r.reader line)
    (w : Lines (desk_in r m) (take line.count line.kept) 0 first 0 (desk_of state started tally lent) mid k f) (z : NoneLeft (take line.count line.kept) (length first) k f) where
  module _ (x : Running) (begun : Text) (q : StandsFor r m x begun) where
    bytes : take line.count line.kept ≡ looked begun ++ (10 ∷ [])
    bytes = ended.bytes begun q.reader

    said-is : w.said ≡ line_text (lengths_of m) x begun
    said-is = whole-text (desk_in r m) _ begun first _ mid k f bytes w z q.part (omega (arith, h)) x (desk-stands q)

    stands : Stands (desk_of state started tally lent) (line_after (lengths_of m) x begun)
    stands = whole-stands (desk_in r m) _ begun first _ mid k f bytes w z q.part (omega (arith, h)) x (desk-stands q)

    made : Made x (line_after (lengths_of m) x begun) (kept r.state m) (kept state lent)
    made = whole-made (desk_in r m) _ begun first _ mid k f bytes w z q.part (omega (arith, h)) x (desk-stands q)

    short : f ≤ longest
    short = omega (arith, w.puts.ends, ap length said-is, line_few (lengths_of m) x begun)

  -- never on a runner that stands for one of the transcript's
  pub finished-short : length first - f < longest_end → Finishes r m first lent mid f
  finished-short j =
      record {
        lengths = w.lengths;
        said = w.said;
        fits = omega (arith, w.fits);
        puts = w.puts;
        full = λ l. absurd (omega (arith, h, l));
        ends = λ l x begun q. absurd (omega (arith, h, j, short x begun q));
        leaves = λ l x begun q. absurd (omega (arith, h, j, short x begun q));
      }

  module _ (out : Text) (end : ℕ) (j : longest_end ≤ length first - f) (p : Puts mid f (end_line tally.oks tally.noes) out end) where
    pub finished : Finishes r m first lent out end
    finished =
        record {
          lengths = w.lengths;
          said = w.said ++ end_line tally.oks tally.noes;
          fits = omega (arith, length-append w.said (end_line tally.oks tally.noes), w.puts.ends, j, end_few tally.oks tally.noes);
          puts = puts_then (omega arith) w.puts p;
          full = λ l. absurd (omega (arith, h, l));
          ends =
              λ l x begun q.
              ap₂ (λ (a b : Text). a ++ b) (said-is x begun q) (ap (λ (t : Tally). end_line t.oks t.noes) (stands x begun q).tally) ∙ sym (last_line (lengths_of m) x begun);
          leaves = λ l x begun q. (state, made x begun q);
        }
