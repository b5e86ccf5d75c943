-- The promise of a call, for any kind of storage, and lists of calls. The functions of the store cite Promise in their
-- `ensures`, and demand 3 is about every Run.
use Rattle.std.specs.Prelude.{ℕ, ◌≤◌, ◌<◌, ◌≡◌, ◌≢◌, Bool, true, false, List, [], ◌∷◌}
use Rattle.std.proofs.Math.Option.{none, some}
use Rattle.rules.specs.Settings.{Settings, Pieces, elements, circle}
use Rattle.rules.specs.Line.{Line, IsLine, zeros}
use Rattle.rules.specs.Call.{Write, Look, Act, Call, Answer, write_of, filled, refused}
use Rattle.rules.specs.Call.Place.{in_archive}
use Rattle.rules.specs.Call.Origin.{from}
use Rattle.rules.specs.Call.Answer.{outcome, reading, lending, counting, verdict, filling}
use Rattle.rules.specs.Call.Act.{READ, LOOK, CHANGE}
use Rattle.rules.specs.Call.Call.{RESET, CHECK, ON, WRITE_BLOCK}
use Rattle.rules.specs.Seen.{Seen, accepted}
use Rattle.rules.specs.Registers.{Registers, live_frames, state_fits, at_start}
use Rattle.rules.specs.Refusal.{Facts, facts_by, refusal, lacks}
use Rattle.rules.specs.Figure3.{Cache, WellCache, empty_cache, holds, cache_step}
use Rattle.rules.specs.Figure2.{Figure, initial, figure_step, figure_seen, registers_step}

-- A figure that some surviving history draws, what document 01's "storage that meets it answers as some surviving history does" asks:
-- a live frame and no more of them than there are, no version outside the live frames and the L lines, 16 bytes in each line, no line
-- collected past the L lines, nothing in the archive of a line that was not (request 2.3), and no more pages needed than there are.
pub record WellFigure (s : Settings) (f : Figure) : Type 0 where
  pub some_live : 0 < f.live
  pub in_circle : f.live ≤ circle s
  pub only_live : (j l : ℕ) → f.live ≤ j → f.frame j l ≡ none
  pub only_lines : (j l : ℕ) → s.lines ≤ l → f.frame j l ≡ none
  pub line : (j l : ℕ) (x : Line) → f.frame j l ≡ some x → IsLine x
  pub archive_line : (l : ℕ) → IsLine (f.archive l)
  pub collected_lines : (l : ℕ) → s.lines ≤ l → f.collected l ≡ false
  pub archive_empty : (l : ℕ) → f.collected l ≡ false → f.archive l ≡ zeros
  pub pages : (figure_seen s f).pages ≤ s.pages

-- An answer without its values: its form, and the refusal or 0 in it.
abbrev pub form_of : Answer → Answer
form_of (outcome n) = outcome n
form_of (reading n v o) = reading n 0 (from in_archive)
form_of (lending x) = lending []
form_of (counting n l p) = counting n 0 0
form_of (verdict n b) = verdict n false
form_of (filling n left) = filling n []

-- Requests done one after the other, each on what the one before left, with an answer for each. A step is one request on one storage.
pub data RunBy {S Q A : Type 0} (Step : S → Q → A → S → Type 0) : S → List Q → List A → S → Type 0 where
  stop : {s : S} → RunBy Step s [] [] s
  next : {s t u : S} {q : Q} {qs : List Q} {a : A} {answers : List A} → Step s q a t → RunBy Step t qs answers u → RunBy Step s (q ∷ qs) (a ∷ answers) u

-- A kind of storage: what a call is given and leaves, the state and the lent memory. Any state and any contents count.
pub record Kind : Type 1 where
  pub Storage : Type 0
  -- the registers, which the state holds, and the lent lengths in elements
  pub registers : Storage → Registers
  pub lengths : Storage → Pieces
  -- all that lies past the first so many elements of each piece
  pub Rest : Type 0
  pub past : Pieces → Storage → Rest
  -- the written well-formedness, which CHECK decides
  pub Well : Storage → Type 0
  -- what state and lent memory show of Figures 2 and 3
  pub figure : Storage → Figure
  pub cache : Storage → Cache

module _ (K : Kind) where
  abbrev settings_at : K.Storage → Settings
  settings_at s = (K.registers s).settings

  unfoldable pub seen_of : K.Storage → Seen
  seen_of s = figure_seen (settings_at s) (K.figure s)

  -- What the refusals of a call go by, but for what the storage lacks.
  abbrev pub facts_of : K.Storage → Facts
  facts_of s = facts_by (K.registers s) (K.lengths s)

  -- What document 01 asks of the well-formedness: "All storage reached from RESET meets it, and storage that meets it answers as
  -- some surviving history does." RESET's promise and Followed have the first half; the second follows from this.
  pub record Lawful : Type 0 where
    pub fits : (s : K.Storage) → K.Well s → state_fits (K.registers s) ≡ true
    pub live : (s : K.Storage) → K.Well s → live_frames (K.registers s) ≡ (K.figure s).live
    pub figure : (s : K.Storage) → K.Well s → WellFigure (settings_at s) (K.figure s)
    pub cache : (s : K.Storage) → K.Well s → WellCache (settings_at s) (K.cache s)

  -- An accepted RESET, on any storage.
  pub record Started (asked : Settings) (a : Answer) (t : K.Storage) : Type 0 where
    pub answer : a ≡ outcome 0
    pub well : K.Well t
    pub registers : K.registers t ≡ at_start asked
    pub figure : K.figure t ≡ initial
    pub cache : K.cache t ≡ empty_cache

  -- An accepted CHECK, on any storage: "yes exactly if the storage meets the written well-formedness definition".
  pub record Checked (s : K.Storage) (a : Answer) (t : K.Storage) : Type 0 where
    pub kept : t ≡ s
    pub says : Bool
    pub answer : a ≡ verdict 0 says
    pub only : says ≡ true → K.Well s
    pub always : K.Well s → says ≡ true

  -- An accepted look: it leaves any storage as it was (LINE "changes nothing"), and answers by what is seen of storage that CHECK passes.
  pub record Looked (q : Look) (s : K.Storage) (a : Answer) (t : K.Storage) : Type 0 where
    pub kept : t ≡ s
    pub answer : K.Well s → a ≡ accepted (seen_of s) (holds (K.cache s)) (LOOK q)

  -- Any other accepted act, on storage that CHECK passes: it answers and steps as Figure 2 with Figure 3. What the abstraction does not
  -- show (the choice of page and tag, and the bytes by which a kind of storage writes its figures down) is said by the contracts of the
  -- functions themselves.
  pub record Followed (c : Act) (s : K.Storage) (a : Answer) (t : K.Storage) : Type 0 where
    pub answer : a ≡ accepted (seen_of s) (holds (K.cache s)) c
    pub well : K.Well t
    pub figure : K.figure t ≡ figure_step c (K.registers s) (K.figure s)
    pub cache : K.cache t ≡ cache_step (seen_of s) c (K.cache s)

  -- On any storage the registers step. On storage that CHECK rejects nothing more is said: "there an accepted call other than RESET and
  -- CHECK only ends safely".
  pub record Stepped (c : Act) (s : K.Storage) (a : Answer) (t : K.Storage) : Type 0 where
    pub registers : K.registers t ≡ registers_step c (K.registers s) (K.figure s)
    pub followed : K.Well s → Followed c s a t

  -- What holds of an accepted act.
  abbrev pub AcceptedAct : Act → K.Storage → Answer → K.Storage → Type 0
  AcceptedAct (READ w x) = Stepped (READ w x)
  AcceptedAct (LOOK q) = Looked q
  AcceptedAct (CHANGE c) = Stepped (CHANGE c)

  -- The settings whose need bounds what a call may write: those asked for, or those in the state.
  unfoldable pub settings_for : Call → K.Storage → Settings
  settings_for (RESET asked) s = asked
  settings_for CHECK s = settings_at s
  settings_for (ON c) s = settings_at s
  settings_for (WRITE_BLOCK items list) s = settings_at s

  -- The promise of call c on storage s, with answer a and storage t after it, by what holds of the call where it is accepted.
  pub record PromiseBy (Done : K.Storage → Answer → K.Storage → Type 0) (c : Call) (s : K.Storage) (a : Answer) (t : K.Storage) : Type 0 where
    -- whether the storage was found to lack what the act needs: exact on storage that CHECK passes, free on the rest. (The items of a block of
    -- writes have promises of their own.)
    pub lacking : Act → Bool
    pub exact : K.Well s → refusal (facts_of s) lacking c ≡ refusal (facts_of s) (lacks (settings_at s) (seen_of s)) c
    -- the answer has the call's form, with the refusal, or 0, in it (LINE's has none)
    pub number : form_of a ≡ form_of (refused (refusal (facts_of s) lacking c) c)
    -- "leaves state and lent memory untouched" (demand 1), with the answer of a refused call
    pub refused_answer : refusal (facts_of s) lacking c ≢ 0 → a ≡ refused (refusal (facts_of s) lacking c) c
    pub refused_kept : refusal (facts_of s) lacking c ≢ 0 → t ≡ s
    pub accepted_call : refusal (facts_of s) lacking c ≡ 0 → Done s a t
    -- "stays inside the lent memory" (demand 1)
    pub lengths : K.lengths t ≡ K.lengths s
    pub past : K.past (elements (settings_for c s)) t ≡ K.past (elements (settings_for c s)) s

  -- The promise of an act: what Promise below is for it.
  abbrev pub ActPromise : Act → K.Storage → Answer → K.Storage → Type 0
  ActPromise c = PromiseBy (AcceptedAct c) (ON c)

  -- The items of a block of writes, "in order", each a single WRITE with its own promise.
  abbrev pub Singly : K.Storage → List Write → List ℕ → K.Storage → Type 0
  Singly = RunBy (λ s w n t. ActPromise (write_of w) s (outcome n) t)

  -- An accepted block of writes, on any storage: "Answers, state, memory and cache end exactly as if the items had been sent singly"
  -- (request 2.1).
  pub record WroteEach (items : List Write) (list : List ℕ) (s : K.Storage) (a : Answer) (t : K.Storage) : Type 0 where
    pub refusals : List ℕ
    pub singly : Singly s items refusals t
    pub answer : a ≡ filling 0 (filled refusals list)

  -- What holds of an accepted call.
  abbrev pub Accepted : Call → K.Storage → Answer → K.Storage → Type 0
  Accepted (RESET asked) = λ s a t. Started asked a t
  Accepted CHECK = Checked
  Accepted (ON c) = AcceptedAct c
  Accepted (WRITE_BLOCK items list) = WroteEach items list

  -- The promise of a call.
  abbrev pub Promise : Call → K.Storage → Answer → K.Storage → Type 0
  Promise c = PromiseBy (Accepted c) c

  -- A list of calls with its answers, from one storage to another. "Each later call gets the state and lent memory just as the call before
  -- it, refused or not, returned or left them; nothing else passes from call to call."
  abbrev pub Run : K.Storage → List Call → List Answer → K.Storage → Type 0
  Run = RunBy (λ s c a t. Promise c s a t)
