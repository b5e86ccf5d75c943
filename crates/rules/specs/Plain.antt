-- The plain store of demand 3: the settings and the surviving history (document 01's term), whole copies in effect, and
-- nothing from the program's own record.
use Rattle.std.specs.Prelude.{ℕ, zero, suc, ◌+◌, ◌-◌, ◌/◌, ◌≤◌, ◌<◌, ◌≡◌, Bool, true, false, cond, ◌||◌, List, [], ◌∷◌, length, take, drop, eqb}
use Rattle.rules.specs.Settings.{Settings, Pieces, circle}
use Rattle.rules.specs.Line.{Memory, IsLine, zeros, edit, line_of, offset_of}
use Rattle.rules.specs.Call.{Write, Act, Call, Place, Answer, write_of, filled, refused}
use Rattle.rules.specs.Call.Place.{in_frame, in_archive}
use Rattle.rules.specs.Call.Answer.{outcome, verdict, filling}
use Rattle.rules.specs.Call.Change.{WRITE, MARK, ROLLBACK, ADVANCE}
use Rattle.rules.specs.Call.Act.{READ, LOOK, CHANGE}
use Rattle.rules.specs.Call.Call.{RESET, CHECK, ON, WRITE_BLOCK}
use Rattle.rules.specs.Seen.{Seen, further, count, needs, accepted}
use Rattle.rules.specs.Refusal.{Facts, refusal, write_refusal, lacks}
use Rattle.rules.specs.Figure3.{Cache, empty_cache, holds, cache_step}

-- The writes between two marks, newest first.
abbrev pub Group : Type 0
Group = List Write

-- "The plain store of demand 3 holds the settings L, F and P and the surviving history." "The surviving history is a base of
-- 16 × L bytes and a list of groups of writes." The groups stand newest first: "Its groups are the live frames, the last one
-- CMF." Request 2.3: "The base of the surviving history therefore holds, for each line, whether it was ever written."
pub record Plain : Type 0 where
  pub settings : Settings
  pub base : Memory
  pub collected : ℕ → Bool
  pub groups : List Group

-- A write played onto a memory: it changes the line in which it lies.
unfoldable pub play : Write → Memory → Memory
play w m l = cond (eqb (line_of w.address) l) (edit w.width (offset_of w.address) w.value (m l)) (m l)

-- A group, its oldest write first,
unfoldable pub play_group : Group → Memory → Memory
play_group [] m = m
play_group (w ∷ g) m = play w (play_group g m)

-- and "all groups played onto it, oldest first".
unfoldable pub play_all : List Group → Memory → Memory
play_all [] m = m
play_all (g ∷ gs) m = play_group g (play_all gs m)

-- "A line has its written bit in a frame if a write of that group lies in the line."
unfoldable pub touches : Group → ℕ → Bool
touches [] l = false
touches (w ∷ g) l = eqb (line_of w.address) l || touches g l

-- Some group of a list has such a write.
unfoldable pub touched_in : List Group → ℕ → Bool
touched_in [] l = false
touched_in (g ∷ gs) l = touches g l || touched_in gs l

-- "READ's origin is the count of groups after the last one that writes the line, or the archive if none does": where the version lies. That READ names a
-- line empty goes by `touched` (request 2.3).
unfoldable pub origin_in : List Group → ℕ → Place
origin_in [] l = in_archive
origin_in (g ∷ gs) l = cond (touches g l) (in_frame 0) (further (origin_in gs l))

-- "A page is needed for each group and block of 8 lines .. with such a line": how many, among so many blocks.
unfoldable pub pages_in : (blocks : ℕ) → List Group → ℕ
pages_in blocks [] = 0
pages_in blocks (g ∷ gs) = count blocks (needs (touches g)) + pages_in blocks gs

-- The group of CMF.
unfoldable pub newest : List Group → Group
newest [] = []
newest (g ∷ gs) = g

-- What there is to see of the plain store. "READ and LINE take their bytes from the base with all groups played onto it,
-- oldest first."
unfoldable pub plain_seen : Plain → Seen
plain_seen p =
    record {
      live = length p.groups;
      pages = pages_in (p.settings.lines / 8) p.groups;
      current = needs (touches (newest p.groups));
      latest = play_all p.groups p.base;
      origin = origin_in p.groups;
      touched = λ l. touched_in p.groups l || p.collected l;
    }

-- The same store with other groups.
abbrev pub with_groups : List Group → Plain → Plain
with_groups gs p = record { settings = p.settings; base = p.base; collected = p.collected; groups = gs }

-- "RESET gives a zero base", no line of which was ever written, "and one empty group." "An accepted RESET takes its settings and starts the
-- history anew."
unfoldable pub fresh : Settings → Plain
fresh s = record { settings = s; base = λ l. zeros; collected = λ l. false; groups = [] ∷ [] }

-- "WRITE adds to the last group". There is always one: RESET opens it, and by refusal 11 a rollback or an advance leaves one.
unfoldable pub add_write : Write → List Group → List Group
add_write w [] = []
add_write w (g ∷ gs) = (w ∷ g) ∷ gs

-- "MARK adds an empty group, ROLLBACK(k) drops the last k groups, ADVANCE(k) plays the first k groups onto the base", "and frees
-- them"; "the other calls change nothing." A line that is played onto the base is written there from then on (request 2.3), and "taking back a
-- line's only write makes it empty again".
unfoldable pub plain_step : Act → Plain → Plain
plain_step (READ w a) p = p
plain_step (LOOK q) p = p
plain_step (CHANGE (WRITE w a v)) p = with_groups (add_write (record { width = w; address = a; value = v }) p.groups) p
plain_step (CHANGE MARK) p = with_groups ([] ∷ p.groups) p
plain_step (CHANGE (ROLLBACK k)) p = with_groups (drop k p.groups) p
plain_step (CHANGE (ADVANCE k)) p =
    record {
      settings = p.settings;
      base = play_all (drop (length p.groups - k) p.groups) p.base;
      collected = λ l. touched_in (drop (length p.groups - k) p.groups) l || p.collected l;
      groups = take (length p.groups - k) p.groups;
    }

-- Something holds of each element of a list.
abbrev pub Each {ℓ} : {A : Type ℓ} → (A → Type 0) → List A → Type 0
Each P [] = Unit {0}
Each P (x ∷ xs) = P x × Each P xs

abbrev pub Acceptable : Settings → Write → Type 0
Acceptable s w = write_refusal s w.width w.address w.value 0 ≡ 0

-- A history that calls can have left: a group for each live frame, accepted writes alone, a base of 16 × L bytes, zero where it was never
-- written, and no more pages needed than there are.
pub record Surviving (p : Plain) : Type 0 where
  pub some_group : 0 < length p.groups
  pub in_circle : length p.groups ≤ circle p.settings
  pub writes : Each (Each (Acceptable p.settings)) p.groups
  pub base_line : (l : ℕ) → IsLine (p.base l)
  pub collected_lines : (l : ℕ) → p.settings.lines ≤ l → p.collected l ≡ false
  pub base_empty : (l : ℕ) → p.collected l ≡ false → p.base l ≡ zeros
  pub pages : (plain_seen p).pages ≤ p.settings.pages

-- "From these it decides every refusal, the first in order; 5 never comes."
unfoldable pub plain_facts : Pieces → Plain → Facts
plain_facts lengths p = record { settings = p.settings; fits = true; lengths = lengths; live = (plain_seen p).live }

unfoldable pub plain_refusal : Pieces → Plain → Call → ℕ
plain_refusal lengths p c = refusal (plain_facts lengths p) (lacks p.settings (plain_seen p)) c

-- The plain store, with "demand 2's cache, run over the same list" (demand 3) beside it.
pub record Model : Type 0 where
  pub plain : Plain
  pub cache : Cache

unfoldable pub fresh_model : Settings → Model
fresh_model s = record { plain = fresh s; cache = empty_cache }

-- What an act leaves, given its refusal or 0: "A refused call gets the answer fixed below and changes nothing."
unfoldable pub act_step : ℕ → Model → Act → Model
act_step zero m a = record { plain = plain_step a m.plain; cache = cache_step (plain_seen m.plain) a m.cache }
act_step (suc n) m a = m

-- A block of writes "does them in order; a refused item is skipped and the later ones still tried" (request 2.1), "exactly as if the items had been sent
-- singly": the refusal of each single WRITE, or 0,
unfoldable pub item_refusals : Pieces → Model → List Write → List ℕ
item_refusals lengths m [] = []
item_refusals lengths m (w ∷ ws) =
    let n = plain_refusal lengths m.plain (ON (write_of w)) in
    n ∷ item_refusals lengths (act_step n m (write_of w)) ws

-- and what they leave.
unfoldable pub after_items : Pieces → Model → List Write → Model
after_items lengths m [] = m
after_items lengths m (w ∷ ws) = after_items lengths (act_step (plain_refusal lengths m.plain (ON (write_of w))) m (write_of w)) ws

-- The answer, given the refusal or 0; "CHECK yes",
unfoldable pub model_answer : Pieces → ℕ → Model → Call → Answer
model_answer lengths zero m (RESET s) = outcome 0
model_answer lengths zero m CHECK = verdict 0 true
model_answer lengths zero m (ON a) = accepted (plain_seen m.plain) (holds m.cache) a
model_answer lengths zero m (WRITE_BLOCK items list) = filling 0 (filled (item_refusals lengths m items) list)
model_answer lengths (suc n) m c = refused (suc n) c

-- and what the call leaves.
unfoldable pub model_step : Pieces → ℕ → Model → Call → Model
model_step lengths zero m (RESET s) = fresh_model s
model_step lengths zero m CHECK = m
model_step lengths zero m (ON a) = act_step zero m a
model_step lengths zero m (WRITE_BLOCK items list) = after_items lengths m items
model_step lengths (suc n) m c = m

-- "It is fed each call's arguments and the lent lengths, and nothing from the program's own record": the answers to a list of
-- calls.
unfoldable pub answers_from : Pieces → Model → List Call → List Answer
answers_from lengths m [] = []
answers_from lengths m (c ∷ cs) =
    let n = plain_refusal lengths m.plain c in
    model_answer lengths n m c ∷ answers_from lengths (model_step lengths n m c) cs
