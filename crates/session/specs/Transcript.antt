-- The transcript of a whole session as a function of its bytes, over the plain store's answers. Quotations are of document 01.
use Rattle.std.specs.Prelude.{ℕ, suc, ◌+◌, ◌-◌, min, ◌≡◌, Bool, true, false, not, cond, ◌&&◌, List, [], ◌∷◌, ◌++◌, leb, ltb, eqb, length}
use Rattle.std.proofs.Math.Option.{Option, none, some}
use Rattle.text.specs.Parts.{Text, lines_of}
use Rattle.records.specs.declared.Word.{Word}
use Rattle.records.specs.declared.Word.TheVariants.{Reset, Read, Write, Mark, Back, Advance, Counts}
use Rattle.records.specs.Records.{Asked, parsed}
use Rattle.records.specs.Records.Asked.{asks, turned_down}
use Rattle.rules.specs.Settings.{Settings, Pieces, within, elements}
use Rattle.rules.specs.Sizing.{settings_of}
use Rattle.rules.specs.Call.{Call, Answer, number_in}
use Rattle.rules.specs.Call.Answer.{outcome}
use Rattle.rules.specs.Call.Call.{RESET, CHECK, ON, WRITE_BLOCK}
use Rattle.rules.specs.Refusal.{asked_refusal}
use Rattle.rules.specs.Plain.{Model, plain_refusal, model_answer, model_step, fresh_model}
use Rattle.tally.specs.Counts.{most}
use Rattle.replies.specs.Calls.{call_of}
use Rattle.replies.specs.Answers.{answer_line, end_line, longest}

-- The settings that a call asks for, if it is a RESET.
unfoldable pub reset_in : Call → Option Settings
reset_in (RESET asked) = some asked
reset_in CHECK = none
reset_in (ON a) = none
reset_in (WRITE_BLOCK items list) = none

-- A session's store: none before the first accepted reset, then the plain store with its cache.
abbrev pub Store : Type 0
Store = Option Model

-- The runner at work: its store, its tally and the calls made for its lines.
pub record Running : Type 0 where
  pub store : Store
  pub oks : ℕ
  pub noes : ℕ
  pub calls : List Call

-- "an empty session prints only that, with 0 and 0".
unfoldable pub beginning : Running
beginning = record { store = none; oks = 0; noes = 0; calls = [] }

-- The runner after an answer, with the store that it leaves and all calls made: "a tally of ok and no answers".
unfoldable pub counted : Answer → Running → Store → List Call → Running
counted a x after calls =
    cond (eqb (number_in a) 0) (record { store = after; oks = suc x.oks; noes = x.noes; calls = calls }) (record { store = after; oks = x.oks; noes = suc x.noes; calls = calls })

-- Whether a word is another than `reset`.
unfoldable pub is_other : Word → Bool
is_other Reset = false
is_other Read = true
is_other Write = true
is_other Mark = true
is_other Back = true
is_other Advance = true
is_other Counts = true

-- The calls made for a line: its own, or none if it gets 1, 2 or 3.
unfoldable pub calls_for : Store → Asked → List Call
calls_for store (turned_down n) = []
calls_for none (asks w ns) = cond (is_other w) [] (call_of w ns ∷ [])
calls_for (some m) (asks w ns) = call_of w ns ∷ []

-- The plain store "is fed each call's arguments and the lent lengths".
module _ (lengths : Pieces) where
  -- The refusal of a record that comes before the first accepted reset, or 0. 3: "A session record other than `reset` comes before the first
  -- accepted reset."
  unfoldable pub unstarted_refusal : Option Settings → ℕ
  unstarted_refusal none = 3
  unstarted_refusal (some asked) = asked_refusal lengths asked

  -- "accepted reset": the first one starts the store.
  unfoldable pub unstarted_store : Option Settings → Store
  unstarted_store none = none
  unstarted_store (some asked) = cond (eqb (asked_refusal lengths asked) 0) (some (fresh_model asked)) none

  -- The answer to a record's call,
  unfoldable pub answer_to : Store → Call → Answer
  answer_to none c = outcome (unstarted_refusal (reset_in c))
  answer_to (some m) c = model_answer lengths (plain_refusal lengths m.plain c) m c

  -- and the store after it: "A refused call .. changes nothing", so that a refused reset leaves the old store, or none.
  unfoldable pub store_after : Store → Call → Store
  store_after none c = unstarted_store (reset_in c)
  store_after (some m) c = some (model_step lengths (plain_refusal lengths m.plain c) m c)

  -- The answer to a line and the store after it: 1 and 2 come first, then 3 and the call's own. "Each is given if its condition holds and no
  -- earlier one does, never otherwise."
  unfoldable pub line_answer : Store → Asked → Answer
  line_answer store (turned_down n) = outcome n
  line_answer store (asks w ns) = answer_to store (call_of w ns)

  unfoldable pub line_store : Store → Asked → Store
  line_store store (turned_down n) = store
  line_store store (asks w ns) = store_after store (call_of w ns)

  -- What a line is answered with, and the runner after it. "An empty line gets no answer."
  unfoldable pub line_text : Running → Text → Text
  line_text x [] = []
  line_text x (b ∷ bs) = answer_line (line_answer x.store (parsed (b ∷ bs)))

  unfoldable pub line_after : Running → Text → Running
  line_after x [] = x
  line_after x (b ∷ bs) =
      counted (line_answer x.store (parsed (b ∷ bs))) x (line_store x.store (parsed (b ∷ bs))) (x.calls ++ calls_for x.store (parsed (b ∷ bs)))

  -- The answers to lines, with the tally "printed last": a count past the last 64-bit number is printed as that number.
  unfoldable pub answers_to : Running → List Text → Text
  answers_to x [] = end_line (min most x.oks) (min most x.noes)
  answers_to x (line ∷ lines) = line_text x line ++ answers_to (line_after x line) lines

  -- "It reads standard input, one record a line, .. and answers each line."
  unfoldable pub transcript : Text → Text
  transcript input = answers_to beginning (lines_of input)

-- What is done with some bytes of input: how many are taken, what is said to them, the runner after them, and the line that they leave begun.
pub record Told : Type 0 where
  pub used : ℕ
  pub said : Text
  pub running : Running
  pub left : Text

unfoldable pub stopped : Running → Text → Told
stopped x begun = record { used = 0; said = []; running = x; left = begun }

unfoldable pub onward : ℕ → Text → Told → Told
onward n text t = record { used = n + t.used; said = text ++ t.said; running = t.running; left = t.left }

module _ (lengths : Pieces) where
  -- Bytes are taken while the output has room for the longest answer: whole lines, and the beginning of one that does not end here.
  unfoldable pub told_to : (room : ℕ) → Running → (begun : Text) → Text → Told
  told_to room x begun [] = stopped x begun
  told_to room x begun (b ∷ bs) =
      cond (ltb room longest) (stopped x begun)
      (cond (eqb b 10) (onward 1 (line_text lengths x begun) (told_to (room - length (line_text lengths x begun)) (line_after lengths x begun) [] bs))
      (onward 1 [] (told_to room x (begun ++ (b ∷ [])) bs)))

-- "It answers 6 exactly for otherwise good settings with L above 512 or P above 256": the lengths that the runner lends,
unfoldable pub runner_lent : Pieces
runner_lent = elements (settings_of 512 256 256)

-- whether a line asks for such settings,
unfoldable pub past_room : Option Settings → Bool
past_room none = false
past_room (some s) = within s && not (leb s.lines 512 && leb s.pages 256)

unfoldable pub asks_too_much : Asked → Bool
asks_too_much (turned_down n) = false
asks_too_much (asks w ns) = past_room (reset_in (call_of w ns))

-- and that it is answered with 6 exactly then, line after line.
abbrev pub SixExactly : Running → List Text → Type 0
SixExactly x [] = Unit {0}
SixExactly x (line ∷ lines) =
    (eqb (number_in (line_answer runner_lent x.store (parsed line))) 6 ≡ asks_too_much (parsed line)) × SixExactly (line_after runner_lent x line) lines
