-- "Cases at the edges (P: proved)": the P cases of document 01 as one table of lists of calls with their answers, the whole session
-- of document 01 with its output behind them, and rows of requests.
use Rattle.std.specs.Prelude.{ℕ, suc, Bool, cond, List, [], ◌∷◌, ◌++◌, replicate, eqb}
use Rattle.rules.specs.Settings.{Settings, Pieces, elements}
use Rattle.rules.specs.Sizing.{settings_of}
use Rattle.rules.specs.Call.{Write, Call, Answer, number_in}
use Rattle.rules.specs.Call.Place.{in_frame, in_archive}
use Rattle.rules.specs.Call.Origin.{from_cache, from, empty}
use Rattle.rules.specs.Call.Answer.{outcome, reading, counting, filling}
use Rattle.rules.specs.Call.Look.{COUNTS}
use Rattle.rules.specs.Call.Change.{WRITE, MARK, ROLLBACK, ADVANCE}
use Rattle.rules.specs.Call.Act.{READ, LOOK, CHANGE}
use Rattle.rules.specs.Call.Call.{RESET, ON, WRITE_BLOCK}
use Rattle.rules.specs.Refusal.{asked_refusal}
use Rattle.rules.specs.Plain.{answers_from, fresh_model}

-- The settings of the reset that a list of calls starts with, the calls after it, all answers, and how many of these are acceptances and
-- refusals.
pub record Row : Type 0 where
  pub asked : Settings
  pub calls : List Call
  pub answers : List Answer
  pub oks : ℕ
  pub noes : ℕ

abbrev reset : (lines frames pages : ℕ) → Call
reset lines frames pages = RESET (settings_of lines frames pages)

abbrev write : (width address value : ℕ) → Call
write width address value = ON (CHANGE (WRITE width address value))

abbrev read : (width address : ℕ) → Call
read width address = ON (READ width address)

abbrev mark : Call
mark = ON (CHANGE MARK)

abbrev back : (k : ℕ) → Call
back k = ON (CHANGE (ROLLBACK k))

abbrev advance : (k : ℕ) → Call
advance k = ON (CHANGE (ADVANCE k))

abbrev counts : Call
counts = ON (LOOK COUNTS)

abbrev item : (width address value : ℕ) → Write
item width address value = record { width = width; address = address; value = value }

abbrev ok : Answer
ok = outcome 0

-- "no", tab, the refusal
abbrev refuse : ℕ → Answer
refuse n = outcome n

unfoldable pub rows : List Row
rows =
    -- "L = 8 and 4,096 pass; 7, 12 and 4,104 get 4."
    record {
      asked = settings_of 8 16 1;
      calls = reset 4096 16 1 ∷ reset 7 16 1 ∷ reset 12 16 1 ∷ reset 4104 16 1 ∷ [];
      answers = ok ∷ ok ∷ refuse 4 ∷ refuse 4 ∷ refuse 4 ∷ [];
      oks = 2;
      noes = 3;
    }
    -- "F = 16 and 256 pass; 17 and 272 get 4."
    ∷ record {
      asked = settings_of 8 16 1;
      calls = reset 8 256 1 ∷ reset 8 17 1 ∷ reset 8 272 1 ∷ [];
      answers = ok ∷ ok ∷ refuse 4 ∷ refuse 4 ∷ [];
      oks = 2;
      noes = 2;
    }
    -- "L = 8: read 4 at 124 passes, at 128 gets 9; read 2 at 127 gets 8."
    ∷ record {
      asked = settings_of 8 16 1;
      calls = read 4 124 ∷ read 4 128 ∷ read 2 127 ∷ [];
      answers = ok ∷ reading 0 0 empty ∷ reading 9 0 (from in_archive) ∷ reading 8 0 (from in_archive) ∷ [];
      oks = 2;
      noes = 2;
    }
    -- "width 3 at address 1 gets 7."
    ∷ record {
      asked = settings_of 8 16 1;
      calls = read 3 1 ∷ write 3 1 0 ∷ [];
      answers = ok ∷ reading 7 0 (from in_archive) ∷ refuse 7 ∷ [];
      oks = 1;
      noes = 2;
    }
    -- "width 1: 255 passes, 256 gets 10; 256 at address 128 gets 9 where L = 8."
    ∷ record {
      asked = settings_of 8 16 1;
      calls = write 1 0 255 ∷ write 1 0 256 ∷ write 1 128 256 ∷ [];
      answers = ok ∷ ok ∷ refuse 10 ∷ refuse 9 ∷ [];
      oks = 2;
      noes = 2;
    }
    -- "F = 16: 15 marks pass, the 16th gets 12; after ADVANCE(1) one more passes."
    ∷ record {
      asked = settings_of 8 16 1;
      calls = replicate 15 mark ++ (mark ∷ advance 1 ∷ mark ∷ mark ∷ []);
      answers = ok ∷ replicate 15 ok ++ (refuse 12 ∷ ok ∷ ok ∷ refuse 12 ∷ []);
      oks = 18;
      noes = 2;
    }
    -- "three marks: ROLLBACK 3 passes; 4 and 0 get 11."
    ∷ record {
      asked = settings_of 8 16 1;
      calls = mark ∷ mark ∷ mark ∷ back 4 ∷ back 0 ∷ back 3 ∷ [];
      answers = ok ∷ ok ∷ ok ∷ ok ∷ refuse 11 ∷ refuse 11 ∷ ok ∷ [];
      oks = 5;
      noes = 2;
    }
    -- "write 7, mark, mark, advance 2: read gives 7, pages needed 0."
    ∷ record {
      asked = settings_of 8 16 1;
      calls = write 1 0 7 ∷ mark ∷ mark ∷ advance 2 ∷ read 1 0 ∷ counts ∷ [];
      answers = ok ∷ ok ∷ ok ∷ ok ∷ ok ∷ reading 0 7 from_cache ∷ counting 0 1 0 ∷ [];
      oks = 7;
      noes = 0;
    }
    -- "write 5, mark, write 6, mark, back 2: read gives 5."
    ∷ record {
      asked = settings_of 8 16 2;
      calls = write 1 0 5 ∷ mark ∷ write 1 0 6 ∷ mark ∷ back 2 ∷ read 1 0 ∷ [];
      answers = ok ∷ ok ∷ ok ∷ ok ∷ ok ∷ ok ∷ reading 0 5 (from (in_frame 0)) ∷ [];
      oks = 7;
      noes = 0;
    }
    -- "write 5, mark, back 1, write 6, mark, back 1: read gives 6."
    ∷ record {
      asked = settings_of 8 16 1;
      calls = write 1 0 5 ∷ mark ∷ back 1 ∷ write 1 0 6 ∷ mark ∷ back 1 ∷ read 1 0 ∷ [];
      answers = ok ∷ ok ∷ ok ∷ ok ∷ ok ∷ ok ∷ ok ∷ reading 0 6 from_cache ∷ [];
      oks = 8;
      noes = 0;
    }
    -- "A whole session and its output", whose last line is "end 10 3". Request 2.3: "In the whole session of document 01 the answer `ok 0 a`
    -- becomes `ok 0 e`, and comparisons use that."
    ∷ record {
      asked = settings_of 8 16 2;
      calls =
          write 4 0 305419896
          ∷ mark
          ∷ write 1 1 255
          ∷ read 4 0
          ∷ mark
          ∷ write 1 2 1
          ∷ back 2
          ∷ read 4 0
          ∷ read 1 16
          ∷ back 1
          ∷ read 2 1
          ∷ counts
          ∷ [];
      answers =
          ok
          ∷ ok
          ∷ ok
          ∷ ok
          ∷ reading 0 318723704 from_cache
          ∷ ok
          ∷ refuse 13
          ∷ ok
          ∷ reading 0 305419896 (from (in_frame 0))
          ∷ reading 0 0 empty
          ∷ refuse 11
          ∷ reading 8 0 (from in_archive)
          ∷ counting 0 1 1
          ∷ [];
      oks = 10;
      noes = 3;
    }
    -- Request 2.1, in a pool of one page: the second item gets 7 and the third, which needs a page more, 13; the fourth, in a page that is there
    -- already, is accepted, and what stands behind the last answer stays. A list that is too short, and no items. The third item's line was not
    -- loaded.
    ∷ record {
      asked = settings_of 16 16 1;
      calls =
          WRITE_BLOCK (item 1 0 5 ∷ item 3 1 0 ∷ item 1 128 7 ∷ item 1 16 9 ∷ []) (99 ∷ 99 ∷ 99 ∷ 99 ∷ 99 ∷ [])
          ∷ WRITE_BLOCK (item 1 0 6 ∷ item 1 1 6 ∷ []) (99 ∷ [])
          ∷ WRITE_BLOCK [] []
          ∷ read 1 0
          ∷ read 1 16
          ∷ read 1 128
          ∷ counts
          ∷ [];
      answers =
          ok
          ∷ filling 0 (0 ∷ 7 ∷ 13 ∷ 0 ∷ 99 ∷ [])
          ∷ filling 14 (99 ∷ [])
          ∷ filling 0 []
          ∷ reading 0 5 from_cache
          ∷ reading 0 9 from_cache
          ∷ reading 0 0 empty
          ∷ counting 0 1 1
          ∷ [];
      oks = 7;
      noes = 1;
    }
    -- Request 2.3: a line that is written, taken back and read is empty again. Written, collected, pushed out of the cache and read it comes from the
    -- archive, and again when a later write to it was taken back.
    ∷ record {
      asked = settings_of 40 16 2;
      calls =
          mark
          ∷ write 1 0 5
          ∷ back 1
          ∷ read 1 0
          ∷ write 1 0 7
          ∷ mark
          ∷ advance 1
          ∷ read 1 256
          ∷ read 1 512
          ∷ read 1 0
          ∷ mark
          ∷ write 1 0 8
          ∷ back 1
          ∷ read 1 0
          ∷ [];
      answers =
          ok
          ∷ ok
          ∷ ok
          ∷ ok
          ∷ reading 0 0 empty
          ∷ ok
          ∷ ok
          ∷ ok
          ∷ reading 0 0 empty
          ∷ reading 0 0 empty
          ∷ reading 0 7 (from in_archive)
          ∷ ok
          ∷ ok
          ∷ ok
          ∷ reading 0 7 (from in_archive)
          ∷ [];
      oks = 15;
      noes = 0;
    }
    -- An empty line in the cache, pushed out by two others of its set and loaded again, which pushes out the older of them.
    ∷ record {
      asked = settings_of 40 16 2;
      calls = read 1 0 ∷ read 1 0 ∷ write 1 256 1 ∷ write 1 512 2 ∷ read 1 0 ∷ read 1 512 ∷ read 1 256 ∷ [];
      answers =
          ok
          ∷ reading 0 0 empty
          ∷ reading 0 0 empty
          ∷ ok
          ∷ ok
          ∷ reading 0 0 empty
          ∷ reading 0 2 from_cache
          ∷ reading 0 1 (from (in_frame 0))
          ∷ [];
      oks = 8;
      noes = 0;
    }
    ∷ []

-- Lent memory that is long enough for every setting.
unfoldable pub ample : Pieces
ample = elements (settings_of 4096 256 4096)

-- Acceptances and refusals, as the runner's tally counts them.
unfoldable pub is_ok : Answer → Bool
is_ok a = eqb (number_in a) 0

unfoldable pub oks_of : List Answer → ℕ
oks_of [] = 0
oks_of (a ∷ rest) = cond (is_ok a) (suc (oks_of rest)) (oks_of rest)

unfoldable pub noes_of : List Answer → ℕ
noes_of [] = 0
noes_of (a ∷ rest) = cond (is_ok a) (noes_of rest) (suc (noes_of rest))

-- A row as the plain store answers it.
unfoldable pub played : Row → Row
played r =
    let given = outcome (asked_refusal ample r.asked) ∷ answers_from ample (fresh_model r.asked) r.calls in
    record { asked = r.asked; calls = r.calls; answers = given; oks = oks_of given; noes = noes_of given }
