-- Input in chunks of any size: what is said to them is the transcript. Assumes nothing.
use mathlib.Core.Path.{◌≡◌, refl, sym, ◌∙◌, ap₂}
use mathlib.Core.List.{[], ◌++◌, append_assoc}
use Prim.Native.Nat.{ℕ, min}
use lib.ListN.{length, drop}
use Rattle.text.specs.Parts.{Text, split}
use Rattle.rules.specs.Settings.{Pieces}
use Rattle.store.specs.Shown.{Lent, lengths_of}
use Rattle.tally.specs.Counts.{most}
use Rattle.replies.specs.Answers.{end_line}
use Rattle.session.specs.declared.Runner.{Runner}
use Rattle.session.specs.Transcript.{Running, beginning, line_text, line_after, answers_to, transcript, told_to}
use Rattle.session.specs.Running.{StandsFor, Ends, Feeds}
use Rattle.session.specs.Running.Feeds.{stop, next}
use Rattle.session.proofs.Telling.{told-says}

-- The last line, which may lack its line feed.
pub last_line : (lengths : Pieces) (x : Running) (begun : Text)
    → answers_to lengths x (split 10 begun []) ≡ line_text lengths x begun ++ end_line (min most (line_after lengths x begun).oks) (min most (line_after lengths x begun).noes)
unfolding answers_to split
last_line lengths x begun = refl

-- The bytes that a session's calls say, whatever the chunks, are those of the transcript, continued from where the runner stands.
continued : {r t : Runner} {m o : Lent} {input said : Text} (final : Text) (x : Running) (begun : Text) → Feeds r m input said t o → Ends t o final → StandsFor r m x begun
    → said ++ final ≡ answers_to (lengths_of m) x (split 10 begun input)
continued final x begun stop e q = e x begun q
continued {m = m} final x begun (next {first = first} {used = used} chunk rest {later = later} w run) e q =
    let t = told_to (lengths_of m) (length first) x begun chunk in
    let on = w.tells x begun q in
    append_assoc w.said later final
    ∙ (ap₂ (λ (a b : Text). a ++ b) on.1
    (continued final t.running t.left run e on.2
    ∙ ap₂ (λ (lengths : Pieces) (k : ℕ). answers_to lengths t.running (split 10 t.left (drop k chunk ++ rest))) w.lengths on.0)
    ∙ sym (told-says (lengths_of m) (length first) x begun chunk rest))

-- THE TRANSCRIPT: a runner that starts, is fed an input in chunks of any size and ends, says the transcript of the input. Each step is the
-- promise that the `ensures` of `start`, `feed` and `finish` states. Assumes nothing.
pub says-transcript : (r t : Runner) (m o : Lent) (input said final : Text) → StandsFor r m beginning [] → Feeds r m input said t o → Ends t o final
    → said ++ final ≡ transcript (lengths_of m) input
unfolding transcript
says-transcript r t m o input said final q f e = continued final beginning [] f e q
