-- The memory that the runner lends: in every session a line gets 6 exactly if it is a reset to otherwise good settings past it. And the empty
-- session. Assumes nothing.
use mathlib.Core.Path.{◌≡◌, refl, sym, ◌∙◌, ap, subst}
use mathlib.Core.Logic.{⊎_elim}
use mathlib.Core.Option.{Option, none, some}
use mathlib.Core.List.{List, [], ◌∷◌}
use mathlib.Core.Bool.{Bool, true, false, not, cond, ◌&&◌}
use Prim.Native.Nat.{ℕ, zero, suc, ◌+◌, ◌*◌, ◌/◌, ◌≤◌, ◌<◌}
use native.Mathlib.Nat.{mul-le-mul_right, le_trans}
use native.Mathlib.Omega.{arith}
use borrow.Author.Tests.{leb-true, leb-false, le-leb, lt-leb, eqb-true, ne_eqb}
use lib.Dec.{leb, eqb}
use Rattle.rules.specs.Settings.{Settings, Pieces, within, elements, enough, covers}
use Rattle.rules.specs.Refusal.{Facts, unless, asked_refusal, state_refusal, place_refusal, write_refusal, line_refusal, marked_refusal, lacks, act_refusal, refusal}
use Rattle.rules.specs.Call.{Write, Act, Call, write_of, number_in, refused}
use Rattle.rules.specs.Call.Look.{LINE, LINE_REFUSAL, COUNTS}
use Rattle.rules.specs.Call.Change.{WRITE, MARK, ROLLBACK, ADVANCE}
use Rattle.rules.specs.Call.Act.{READ, LOOK, CHANGE}
use Rattle.rules.specs.Call.Call.{RESET, CHECK, ON, WRITE_BLOCK}
use Rattle.rules.specs.Plain.{Plain, Model, plain_seen, plain_facts, plain_refusal, plain_step, act_step, after_items, model_answer, model_step, fresh, fresh_model}
use Rattle.rules.specs.Promise.{form_of}
use Rattle.rules.proofs.Chain.{unless_not}
use Rattle.rules.proofs.Promise.{accepted-form}
use Rattle.rules.proofs.Settings.{Good, within-good}
use Rattle.records.specs.declared.Word.{Word}
use Rattle.records.specs.Records.{Asked, parsed}
use Rattle.records.specs.Records.Asked.{asks, turned_down}
use Rattle.records.proofs.Refusing.{turned-low}
use Rattle.text.specs.Parts.{Text, split, lines_of}
use Rattle.replies.specs.Answers.{end_line}
use Rattle.replies.specs.Calls.{call_of}
use Rattle.session.specs.Transcript.{Store, Running, reset_in, unstarted_refusal, unstarted_store, answer_to, store_after, line_answer, line_store, beginning, line_text, line_after, answers_to, transcript, runner_lent, past_room, asks_too_much, SixExactly}
use Rattle.session.proofs.Asking.{Resets, Acts, word-call, named}
use Rattle.session.proofs.Tallies.{counted-store}

-- Good settings within 512 lines and 256 pages need no more of any piece.
module _ (s : Settings) (g : Good s) where
  groups-fit : s.lines ≤ 512 → s.frames / 16 * s.lines ≤ 8192
  groups-fit h = le_trans (mul-le-mul_right s.lines (frames_few s.frames g.frames_to)) (omega arith)
    where
      frames_few : (f : ℕ) → f ≤ 256 → f / 16 ≤ 16
      frames_few f k = omega arith

  table_fits : s.lines ≤ 512 → s.frames * (s.lines / 8) ≤ 16384
  table_fits h = le_trans (mul-le-mul_right (s.lines / 8) g.frames_to) (omega arith)

  pub fits-exactly : enough s runner_lent ≡ leb s.lines 512 && leb s.pages 256
  unfolding covers elements runner_lent
  fits-exactly = go (leb s.lines 512) refl (leb s.pages 256) refl
    where
      go : (a : Bool) → leb s.lines 512 ≡ a → (b : Bool) → leb s.pages 256 ≡ b
          → leb (16 * s.lines) 8192 && leb (128 * s.pages) 32768 && leb (s.frames / 16 * s.lines) 8192 && leb (s.frames * (s.lines / 8)) 16384 && leb (s.pages + s.lines) 768 && leb 256 256 ≡ a && b
      go true e true d =
          let lines : s.lines ≤ 512 = leb-true s.lines 512 e in
          let pages : s.pages ≤ 256 = leb-true s.pages 256 d in
          λ i. le-leb (16 * s.lines) 8192 (omega arith) i
          && le-leb (128 * s.pages) 32768 (omega arith) i
          && le-leb (s.frames / 16 * s.lines) 8192 (groups-fit lines) i
          && le-leb (s.frames * (s.lines / 8)) 16384 (table_fits lines) i
          && le-leb (s.pages + s.lines) 768 (omega arith) i
          && true
      go true e false d =
          let lines : s.lines ≤ 512 = leb-true s.lines 512 e in
          let pages : 256 < s.pages = leb-false s.pages 256 d in
          λ i. le-leb (16 * s.lines) 8192 (omega arith) i
          && lt-leb (128 * s.pages) 32768 (omega arith) i
          && leb (s.frames / 16 * s.lines) 8192
          && leb (s.frames * (s.lines / 8)) 16384
          && leb (s.pages + s.lines) 768
          && true
      go false e b d =
          let lines : 512 < s.lines = leb-false s.lines 512 e in
          λ i. lt-leb (16 * s.lines) 8192 (omega arith) i
          && leb (128 * s.pages) 32768
          && leb (s.frames / 16 * s.lines) 8192
          && leb (s.frames * (s.lines / 8)) 16384
          && leb (s.pages + s.lines) 768
          && true

-- "It answers 6 exactly for otherwise good settings with L above 512 or P above 256."
pub six-exactly : (asked : Settings) → asked_refusal runner_lent asked ≡ unless (within asked) 4 (unless (leb asked.lines 512 && leb asked.pages 256) 6 0)
unfolding asked_refusal unless
six-exactly asked = go (within asked) refl
  where
    go : (w : Bool) → within asked ≡ w → unless w 4 (unless (enough asked runner_lent) 6 0) ≡ unless w 4 (unless (leb asked.lines 512 && leb asked.pages 256) 6 0)
    go true e = ap (λ (b : Bool). unless b 6 0) (fits-exactly asked (within-good asked e))
    go false e = refl

-- "an empty session prints only that, with 0 and 0."
pub empty-session : (lengths : Pieces) → transcript lengths [] ≡ end_line 0 0
unfolding transcript split answers_to line_text line_after beginning
empty-session lengths = refl

-- No other record gets 6: a session's store has memory enough for its settings, which only an accepted reset changes.
abbrev pub Roomy : Pieces → Store → Type 0
Roomy lengths none = Unit {0}
Roomy lengths (some m) = enough m.plain.settings lengths ≡ true

place-not : (s : Settings) (w a rest : ℕ) → (rest ≡ 6 → ⊥) → place_refusal s w a rest ≡ 6 → ⊥
unfolding place_refusal
place-not s w a rest q = unless_not 6 _ 7 _ (λ d. omega arith) (unless_not 6 _ 8 _ (λ d. omega arith) (unless_not 6 _ 9 _ (λ d. omega arith) q))

act-not : (g : Facts) (b : Bool) (a : Act) → act_refusal g b a ≡ 6 → ⊥
unfolding act_refusal write_refusal line_refusal marked_refusal
act-not g b (READ w x) = place-not _ w x 0 (λ d. omega arith)
act-not g b (LOOK (LINE l)) = unless_not 6 _ 9 0 (λ d. omega arith) (λ d. omega arith)
act-not g b (LOOK (LINE_REFUSAL l)) = unless_not 6 _ 9 0 (λ d. omega arith) (λ d. omega arith)
act-not g b (LOOK COUNTS) = λ d. omega arith
act-not g b (CHANGE (WRITE w x v)) = place-not _ w x _ (unless_not 6 _ 10 _ (λ d. omega arith) (unless_not 6 _ 13 0 (λ d. omega arith) (λ d. omega arith)))
act-not g b (CHANGE MARK) = unless_not 6 _ 12 0 (λ d. omega arith) (λ d. omega arith)
act-not g b (CHANGE (ROLLBACK k)) = unless_not 6 _ 11 0 (λ d. omega arith) (λ d. omega arith)
act-not g b (CHANGE (ADVANCE k)) = unless_not 6 _ 11 0 (λ d. omega arith) (λ d. omega arith)

on-not : (lengths : Pieces) (p : Plain) (a : Act) → enough p.settings lengths ≡ true → plain_refusal lengths p (ON a) ≡ 6 → ⊥
unfolding plain_refusal plain_facts refusal state_refusal unless
on-not lengths p a e d =
    let lacking = lacks p.settings (plain_seen p) a in
    act-not (plain_facts lengths p) lacking a (subst (λ (b : Bool). unless b 6 (act_refusal (plain_facts lengths p) lacking a) ≡ 6) e d)

model-form : (lengths : Pieces) (n : ℕ) (m : Model) (c : Call) → form_of (model_answer lengths n m c) ≡ form_of (refused n c)
unfolding model_answer refused
model-form lengths zero m (RESET asked) = refl
model-form lengths zero m CHECK = refl
model-form lengths zero m (ON a) = accepted-form _ _ a
model-form lengths zero m (WRITE_BLOCK items list) = refl
model-form lengths (suc n) m c = refl

number_is : (m : Model) (w : Word) (ns : List ℕ) → number_in (answer_to runner_lent (some m) (call_of w ns)) ≡ plain_refusal runner_lent m.plain (call_of w ns)
unfolding answer_to
number_is m w ns = named w ns _ _ (model-form runner_lent _ m (call_of w ns))

-- A reset gets 4, 6 or 0 for the settings that it asks for, and no other record gets 6.
reset-number : (o : Store) (w : Word) (ns : List ℕ) (r : Resets w (call_of w ns)) → number_in (answer_to runner_lent o (call_of w ns)) ≡ asked_refusal runner_lent r.settings
unfolding answer_to unstarted_refusal reset_in number_in plain_refusal plain_facts refusal
reset-number none w ns r = ap (λ (c : Call). unstarted_refusal runner_lent (reset_in c)) r.call
reset-number (some m) w ns r = number_is m w ns ∙ ap (plain_refusal runner_lent m.plain) r.call

act-number : (o : Store) (w : Word) (ns : List ℕ) → Acts w (call_of w ns) → Roomy runner_lent o → number_in (answer_to runner_lent o (call_of w ns)) ≡ 6 → ⊥
unfolding answer_to unstarted_refusal reset_in number_in
act-number none w ns a q d =
    let three : unstarted_refusal runner_lent (reset_in (call_of w ns)) ≡ 3 = ap (λ (c : Call). unstarted_refusal runner_lent (reset_in c)) a.call in
    omega (arith, three, d)
act-number (some m) w ns a q d =
    on-not runner_lent m.plain a.act q (sym (ap (plain_refusal runner_lent m.plain) a.call) ∙ (sym (number_is m w ns) ∙ d))

-- and what the session's store is after a record has enough again.
asked-enough : (lengths : Pieces) (asked : Settings) → asked_refusal lengths asked ≡ 0 → enough asked lengths ≡ true
unfolding asked_refusal unless
asked-enough lengths asked = go (within asked) (enough asked lengths)
  where
    go : (a b : Bool) → unless a 4 (unless b 6 0) ≡ 0 → b ≡ true
    go true true d = refl
    go true false d = absurd (omega arith)
    go false b d = absurd (omega arith)

unstarted-roomy : (lengths : Pieces) (o : Option Settings) → Roomy lengths (unstarted_store lengths o)
unfolding unstarted_store fresh_model fresh
unstarted-roomy lengths none = tt
unstarted-roomy lengths (some asked) = go (eqb (asked_refusal lengths asked) 0) refl
  where
    go : (b : Bool) → eqb (asked_refusal lengths asked) 0 ≡ b → Roomy lengths (cond b (some (fresh_model asked)) none)
    go true e = asked-enough lengths asked (eqb-true _ 0 e)
    go false e = tt

step-settings : (a : Act) (p : Plain) → (plain_step a p).settings ≡ p.settings
unfolding plain_step
step-settings (READ w x) p = refl
step-settings (LOOK q) p = refl
step-settings (CHANGE (WRITE w x v)) p = refl
step-settings (CHANGE MARK) p = refl
step-settings (CHANGE (ROLLBACK k)) p = refl
step-settings (CHANGE (ADVANCE k)) p = refl

act-settings : (n : ℕ) (m : Model) (a : Act) → (act_step n m a).plain.settings ≡ m.plain.settings
unfolding act_step
act-settings zero m a = step-settings a m.plain
act-settings (suc n) m a = refl

items-settings : (lengths : Pieces) (m : Model) (ws : List Write) → (after_items lengths m ws).plain.settings ≡ m.plain.settings
unfolding after_items
items-settings lengths m [] = refl
items-settings lengths m (w ∷ ws) =
    let n : ℕ = plain_refusal lengths m.plain (ON (write_of w)) in
    items-settings lengths (act_step n m (write_of w)) ws ∙ act-settings n m (write_of w)

step-roomy : (lengths : Pieces) (m : Model) (c : Call) (n : ℕ) → plain_refusal lengths m.plain c ≡ n → enough m.plain.settings lengths ≡ true
    → enough (model_step lengths n m c).plain.settings lengths ≡ true
unfolding model_step act_step fresh_model fresh plain_refusal plain_facts refusal
step-roomy lengths m (RESET asked) zero e q = asked-enough lengths asked e
step-roomy lengths m CHECK zero e q = q
step-roomy lengths m (ON a) zero e q = subst (λ (s : Settings). enough s lengths ≡ true) (sym (step-settings a m.plain)) q
step-roomy lengths m (WRITE_BLOCK items list) zero e q = subst (λ (s : Settings). enough s lengths ≡ true) (sym (items-settings lengths m items)) q
step-roomy lengths m c (suc n) e q = q

call-roomy : (lengths : Pieces) (o : Store) (c : Call) → Roomy lengths o → Roomy lengths (store_after lengths o c)
unfolding store_after
call-roomy lengths none c q = unstarted-roomy lengths (reset_in c)
call-roomy lengths (some m) c q = step-roomy lengths m c _ refl q

asked-six : (s : Settings) → eqb (asked_refusal runner_lent s) 6 ≡ past_room (some s)
unfolding past_room unless
asked-six s = ap (λ (n : ℕ). eqb n 6) (six-exactly s) ∙ go (within s) (leb s.lines 512 && leb s.pages 256)
  where
    go : (a b : Bool) → eqb (unless a 4 (unless b 6 0)) 6 ≡ a && not b
    go true true = refl
    go true false = refl
    go false b = refl

module _ (x : Running) (q : Roomy runner_lent x.store) where
  -- a line: 1 and 2 are not 6
  asked-exactly : (p : Asked) → ((n : ℕ) → p ≡ turned_down n → n ≤ 2) → eqb (number_in (line_answer runner_lent x.store p)) 6 ≡ asks_too_much p
  unfolding line_answer number_in asks_too_much reset_in past_room
  asked-exactly (turned_down n) h = ne_eqb n 6 (λ e. omega (arith, h n refl, e))
  asked-exactly (asks w ns) h =
      ⊎_elim
      (λ r. ap (λ (n : ℕ). eqb n 6) (reset-number x.store w ns r) ∙ (asked-six r.settings ∙ sym (ap (λ (c : Call). past_room (reset_in c)) r.call)))
      (λ a. ne_eqb _ 6 (act-number x.store w ns a q) ∙ sym (ap (λ (c : Call). past_room (reset_in c)) a.call))
      (word-call w ns)

  line-roomy : (line : Text) → Roomy runner_lent (line_after runner_lent x line).store
  unfolding line_after line_store
  line-roomy [] = q
  line-roomy (b ∷ bs) =
      subst (Roomy runner_lent) (sym (counted-store _ x (line_store runner_lent x.store (parsed (b ∷ bs))) _)) (go (parsed (b ∷ bs)))
    where
      go : (p : Asked) → Roomy runner_lent (line_store runner_lent x.store p)
      go (turned_down n) = q
      go (asks w ns) = call-roomy runner_lent x.store (call_of w ns) q

lines-exactly : (x : Running) (lines : List Text) → Roomy runner_lent x.store → SixExactly x lines
lines-exactly x [] q = tt
lines-exactly x (line ∷ lines) q = (asked-exactly x q (parsed line) (turned-low line), lines-exactly (line_after runner_lent x line) lines (line-roomy x q line))

-- Of every session: a line gets 6 exactly if it is a reset to otherwise good settings past the memory that the runner lends.
pub session-six : (input : Text) → SixExactly beginning (lines_of input)
unfolding beginning
session-six input = lines-exactly beginning (lines_of input) tt
