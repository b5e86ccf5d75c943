-- Figure 2 of the report, "The rollback chip algorithm"; document 01's limits are the refusals'. Quotations are of the report unless
-- document 01 is named.
use Rattle.std.specs.Prelude.{ℕ, zero, suc, ◌+◌, ◌-◌, ◌/◌, ◌%◌, Bool, true, false, cond, ◌||◌, ltb, eqb}
use Rattle.std.proofs.Math.Option.{Option, none, some, get_or}
use Rattle.rules.specs.Settings.{Settings, circle}
use Rattle.rules.specs.Line.{Line, Memory, zeros, edit, line_of, offset_of}
use Rattle.rules.specs.Call.{Act, Place}
use Rattle.rules.specs.Call.Place.{in_frame, in_archive}
use Rattle.rules.specs.Call.Change.{WRITE, MARK, ROLLBACK, ADVANCE}
use Rattle.rules.specs.Call.Act.{READ, LOOK, CHANGE}
use Rattle.rules.specs.Registers.{Registers, moved_to}
use Rattle.rules.specs.Seen.{Seen, further, any, count, needs}

-- The stack of mark frames and the archive. A frame is named by the marks back from CMF, 0 for CMF itself, so that the circle
-- does not show. `frame j l` is Stack[l, j] where the written bit WB[l, j] is set, and none where it is not. `collected l`: ADVANCE has copied a
-- version of the line to the archive (request 2.3: "`a` is left for lines that were collected").
pub record Figure : Type 0 where
  pub live : ℕ
  pub frame : ℕ → ℕ → Option Line
  pub archive : Memory
  pub collected : ℕ → Bool

-- The same figure with other frames.
abbrev pub with_frames : (live : ℕ) → (ℕ → ℕ → Option Line) → Figure → Figure
with_frames live frame f = record { live = live; frame = frame; archive = f.archive; collected = f.collected }

unfoldable pub is_written : Option Line → Bool
is_written none = false
is_written (some x) = true

-- "The most recent version of line l is found by searching row l of the written bit array starting at WB[l, CMF] until a set bit
-- is found" (section IV.A): the search of n frames in a row, and otherwise what is given, the archive's line.
unfoldable pub version_in : (n : ℕ) → (ℕ → Option Line) → Line → Line
version_in zero row other = other
version_in (suc n) row other = get_or (row 0) (version_in n (λ j. row (suc j)) other)

-- In which frame of the row the search finds it.
unfoldable pub found_in : (n : ℕ) → (ℕ → Bool) → Place
found_in zero written = in_archive
found_in (suc n) written = cond (written 0) (in_frame 0) (further (found_in n (λ j. written (suc j))))

-- How many pages of n frames have a line with its written bit set.
unfoldable pub pages_of : (blocks n : ℕ) → (ℕ → ℕ → Bool) → ℕ
pages_of blocks zero written = 0
pages_of blocks (suc n) written = count blocks (needs (written 0)) + pages_of blocks n (λ j. written (suc j))

-- Stack[l, MRV]: "if the READ operation does not find any set written bits in its search .., it assumes the data is stored in the
-- archive frame" (section IV.B).
unfoldable pub mrv : Figure → ℕ → Line
mrv f l = version_in f.live (λ j. f.frame j l) (f.archive l)

-- Stack[l, OMRV]: the same among the k oldest frames, "OMRV is MRV frame older than DMF+k" (document 01: "the comment's DMF means
-- OMF"). Where no such frame exists this is the archive's own line, so that "if (OMRV frame exists)" needs no case.
unfoldable pub omrv : Figure → ℕ → ℕ → Line
omrv f k l = version_in k (λ j. f.frame (f.live - k + j) l) (f.archive l)

-- Whether that frame exists.
unfoldable pub has_omrv : Figure → ℕ → ℕ → Bool
has_omrv f k l = any k (λ j. is_written (f.frame (f.live - k + j) l))

-- INIT: "CMF:=0; OMF:=0; WB[ln,fr]:=0; for all ln and fr"; and document 01's "archive all zero, one live frame".
unfoldable pub initial : Figure
initial = record { live = 1; frame = λ j l. none; archive = λ l. zeros; collected = λ l. false }

-- WRITE: "if (WB[A.Line,CMF] = 0) then Stack[A.Line,CMF] := Stack[A.Line,MRV]; end-if Stack[A.Word,CMF] := D;
-- WB[A.Line,CMF] := 1;"
unfoldable pub written : (width address value : ℕ) → Figure → ℕ → ℕ → Option Line
written w a v f zero l =
    cond (eqb (line_of a) l) (some (edit w (offset_of a) v (get_or (f.frame 0 l) (mrv f l)))) (f.frame 0 l)
written w a v f (suc j) l = f.frame (suc j) l

-- MARK: "CMF := CMF + 1;", in document 01 "opens the next frame, without written bits. Nothing is copied."
unfoldable pub marked : Figure → ℕ → ℕ → Option Line
marked f zero l = none
marked f (suc j) l = f.frame j l

-- Figure 2 after an accepted act. ROLLBACK: "WB[ln,fr]:=0 for all ln, CMF-k < fr ≤ CMF; CMF := CMF - k;". ADVANCE: "for each line
-- ln do .. AFrame[ln] := Stack[ln,OMRV]; .. OMF := OMF + k;", and the collected frames are no more: document 01's "and frees them".
-- Figure and registers are handed to both steps, though no act of document 01 looks at the other part.
unfoldable pub figure_step : Act → Registers → Figure → Figure
figure_step (READ w a) r f = f
figure_step (LOOK q) r f = f
figure_step (CHANGE (WRITE w a v)) r f = with_frames f.live (written w a v f) f
figure_step (CHANGE MARK) r f = with_frames (f.live + 1) (marked f) f
figure_step (CHANGE (ROLLBACK k)) r f = with_frames (f.live - k) (λ j l. f.frame (k + j) l) f
figure_step (CHANGE (ADVANCE k)) r f =
    record {
      live = f.live - k;
      frame = λ j l. cond (ltb j (f.live - k)) (f.frame j l) none;
      archive = omrv f k;
      collected = λ l. has_omrv f k l || f.collected l;
    }

-- The registers after an accepted act: the stack "is implemented as a circular buffer", in document 01 "F frames used in a circle".
unfoldable pub registers_step : Act → Registers → Figure → Registers
registers_step (READ w a) r f = r
registers_step (LOOK q) r f = r
registers_step (CHANGE (WRITE w a v)) r f = r
registers_step (CHANGE MARK) r f = moved_to ((r.cmf + 1) % circle r.settings) r.omf r
registers_step (CHANGE (ROLLBACK k)) r f = moved_to ((r.cmf + circle r.settings - k) % circle r.settings) r.omf r
registers_step (CHANGE (ADVANCE k)) r f = moved_to r.cmf ((r.omf + k) % circle r.settings) r

-- What there is to see of Figure 2.
unfoldable pub figure_seen : Settings → Figure → Seen
figure_seen s f =
    record {
      live = f.live;
      pages = pages_of (s.lines / 8) f.live (λ j l. is_written (f.frame j l));
      current = needs (λ l. is_written (f.frame 0 l));
      latest = mrv f;
      origin = λ l. found_in f.live (λ j. is_written (f.frame j l));
      touched = λ l. any f.live (λ j. is_written (f.frame j l)) || f.collected l;
    }
