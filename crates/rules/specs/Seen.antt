-- What there is to see of a store. The plain store and Figure 2 each say what is seen of them; the answers are one function of it and of the
-- cache, and with the registers and the lent lengths it decides the refusals.
use Rattle.std.specs.Prelude.{ℕ, zero, suc, ◌+◌, ◌*◌, Bool, false, cond, ◌||◌, ltb}
use Rattle.rules.specs.Line.{Line, line_of, offset_of, value_at}
use Rattle.rules.specs.Call.{Act, Place, Answer}
use Rattle.rules.specs.Call.Look.{LINE, LINE_REFUSAL, COUNTS}
use Rattle.rules.specs.Call.Act.{READ, LOOK, CHANGE}
use Rattle.rules.specs.Call.Place.{in_frame, in_archive}
use Rattle.rules.specs.Call.Origin.{from_cache, from, empty}
use Rattle.rules.specs.Call.Answer.{outcome, reading, lending, counting}

pub record Seen : Type 0 where
  -- the live frames
  pub live : ℕ
  -- the pages needed (document 01's term): "A page of a live frame is needed if a line in it has its written bit set."
  pub pages : ℕ
  -- by block of 8 lines, whether its page in CMF is needed
  pub current : ℕ → Bool
  -- by line, the most recent version
  pub latest : ℕ → Line
  -- by line, where that version lies
  pub origin : ℕ → Place
  -- by line, whether a surviving write has touched it (request 2.3)
  pub touched : ℕ → Bool

-- A version that lies one frame further back.
unfoldable pub further : Place → Place
further (in_frame back) = in_frame (suc back)
further in_archive = in_archive

-- Whether a version lay in one of the k newest frames.
unfoldable pub dropped : ℕ → Place → Bool
dropped k (in_frame back) = ltb back k
dropped k in_archive = false

-- Some number below n passes the test.
unfoldable pub any : ℕ → (ℕ → Bool) → Bool
any zero f = false
any (suc n) f = f n || any n f

-- How many numbers below n pass the test.
unfoldable pub count : ℕ → (ℕ → Bool) → ℕ
count zero f = zero
count (suc n) f = cond (f n) (suc (count n f)) (count n f)

-- "A page is needed for each group and block of 8 lines, counted from line 0, with such a line": one of the block's lines has
-- its written bit.
unfoldable pub needs : (ℕ → Bool) → ℕ → Bool
needs written block = any 8 (λ i. written (block * 8 + i))

-- The answer to an accepted act; held says which lines Figure 3's cache holds. "Only an accepted READ names the cache as
-- origin instead, just where demand 2's cache .. holds its line and no later paper names another origin" (demand 3). "From this release a read
-- whose line no surviving write has touched gives value 0 and origin `e`, cached or not" (request 2.3). "LINE's companion gives 0, COUNTS the
-- groups and the pages needed".
unfoldable pub accepted : Seen → (ℕ → Bool) → Act → Answer
accepted v held (READ w a) =
    let l = line_of a in
    reading 0 (value_at w (offset_of a) (v.latest l)) (cond (v.touched l) (cond (held l) from_cache (from (v.origin l))) empty)
accepted v held (LOOK (LINE l)) = lending (v.latest l)
accepted v held (LOOK (LINE_REFUSAL l)) = outcome 0
accepted v held (LOOK COUNTS) = counting 0 v.live v.pages
accepted v held (CHANGE c) = outcome 0
