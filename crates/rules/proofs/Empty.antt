-- A read that names its line empty gives 0, in every list of calls. Assumes nothing.
use mathlib.Core.Path.{◌≡◌, refl, sym, ◌∙◌, ap, subst}
use mathlib.Core.Bool.{false}
use mathlib.Core.List.{List, [], ◌∷◌}
use Prim.Native.Nat.{ℕ, zero, suc, ◌-◌}
use native.Mathlib.Omega.{arith}
use lib.ListN.{length, drop}
use Rattle.rules.specs.Settings.{Pieces}
use Rattle.rules.specs.Line.{zeros, line_of, value_at}
use Rattle.rules.specs.Call.{Write, Act, Call, Origin, Answer, write_of, refused}
use Rattle.rules.specs.Call.Place.{in_archive}
use Rattle.rules.specs.Call.Origin.{from, empty}
use Rattle.rules.specs.Call.Answer.{outcome, reading, lending, counting, verdict, filling}
use Rattle.rules.specs.Call.Look.{LINE, LINE_REFUSAL, COUNTS}
use Rattle.rules.specs.Call.Change.{WRITE, MARK, ROLLBACK, ADVANCE}
use Rattle.rules.specs.Call.Act.{READ, LOOK, CHANGE}
use Rattle.rules.specs.Call.Call.{RESET, CHECK, ON, WRITE_BLOCK}
use Rattle.rules.specs.Seen.{accepted}
use Rattle.rules.specs.Figure3.{holds}
use Rattle.rules.specs.Plain.{Plain, Model, Each, touched_in, plain_seen, fresh, plain_step, plain_refusal, fresh_model, act_step, after_items, model_answer, model_step, answers_from}
use Rattle.rules.specs.Promise.{Kind, Lawful}
use Rattle.rules.specs.Demand3.{EmptyIsZero, EmptyReadsZero}
use Rattle.rules.proofs.Line.{zeros-value}
use Rattle.rules.proofs.Picture.{or-false, untouched-all}
use Rattle.rules.proofs.Alike.{origin_named, empty-only}
use Rattle.rules.proofs.Demand3.{demand-3}

-- A base that is zero where it was never written, as `Surviving` has it,
abbrev pub EmptyBase : Plain → Type 0
EmptyBase p = (l : ℕ) → p.collected l ≡ false → p.base l ≡ zeros

-- stays so: an advance plays a line's writes onto it and notes the line.
base_kept : (a : Act) (p : Plain) → EmptyBase p → EmptyBase (plain_step a p)
unfolding plain_step
base_kept (READ w a) p h = h
base_kept (LOOK q) p h = h
base_kept (CHANGE (WRITE w a v)) p h = h
base_kept (CHANGE MARK) p h = h
base_kept (CHANGE (ROLLBACK k)) p h = h
base_kept (CHANGE (ADVANCE k)) p h = λ l e.
    let gs = drop (length p.groups - k) p.groups in
    let t = or-false (touched_in gs l) (p.collected l) e in
    untouched-all gs p.base l t.0 ∙ h l t.1

act-kept : (n : ℕ) (m : Model) (a : Act) → EmptyBase m.plain → EmptyBase (act_step n m a).plain
unfolding act_step
act-kept zero m a h = base_kept a m.plain h
act-kept (suc n) m a h = h

items_kept : (lengths : Pieces) (ws : List Write) (m : Model) → EmptyBase m.plain → EmptyBase (after_items lengths m ws).plain
unfolding after_items
items_kept lengths [] m h = h
items_kept lengths (w ∷ ws) m h = items_kept lengths ws _ (act-kept (plain_refusal lengths m.plain (ON (write_of w))) m (write_of w) h)

model-kept : (lengths : Pieces) (n : ℕ) (m : Model) (c : Call) → EmptyBase m.plain → EmptyBase (model_step lengths n m c).plain
unfolding model_step fresh_model fresh
model-kept lengths zero m (RESET s) h = λ l e. refl
model-kept lengths zero m CHECK h = h
model-kept lengths zero m (ON a) h = act-kept zero m a h
model-kept lengths zero m (WRITE_BLOCK items list) h = items_kept lengths items m h
model-kept lengths (suc n) m c h = h

-- An answer that names no line empty says nothing of one.
other-origin : (a : Answer) → origin_named a ≡ from in_archive → EmptyIsZero a
unfolding origin_named
other-origin a o n v e = let z : ◌≡◌ {A = Origin} empty (from in_archive) = ap origin_named (sym e) ∙ o in let y : ◌≡◌ {A = ℕ} 0 1 = cc in absurd (omega (arith, y))

-- The value in an answer.
value_in : Answer → ℕ
value_in (outcome n) = 0
value_in (reading n v o) = v
value_in (lending x) = 0
value_in (counting n live pages) = 0
value_in (verdict n b) = 0
value_in (filling n left) = 0

module _ (m : Model) (h : EmptyBase m.plain) where
  read-zero : (w a : ℕ) → EmptyIsZero (accepted (plain_seen m.plain) (holds m.cache) (READ w a))
  unfolding accepted plain_seen origin_named value_in
  read-zero w a n v e =
      let t = or-false (touched_in m.plain.groups (line_of a)) (m.plain.collected (line_of a)) (empty-only m.plain m.cache w a (ap origin_named e)) in
      sym (ap value_in e) ∙ (ap (value_at _ _) (untouched-all m.plain.groups m.plain.base (line_of a) t.0 ∙ h (line_of a) t.1) ∙ zeros-value _ _)

  act-zero : (a : Act) → EmptyIsZero (accepted (plain_seen m.plain) (holds m.cache) a)
  unfolding accepted origin_named
  act-zero (READ w a) = read-zero w a
  act-zero (LOOK (LINE l)) = other-origin _ refl
  act-zero (LOOK (LINE_REFUSAL l)) = other-origin _ refl
  act-zero (LOOK COUNTS) = other-origin _ refl
  act-zero (CHANGE c) = other-origin _ refl

refused-zero : (n : ℕ) (c : Call) → EmptyIsZero (refused n c)
unfolding refused origin_named
refused-zero n (RESET s) = other-origin _ refl
refused-zero n CHECK = other-origin _ refl
refused-zero n (ON (READ w a)) = other-origin _ refl
refused-zero n (ON (LOOK (LINE l))) = other-origin _ refl
refused-zero n (ON (LOOK (LINE_REFUSAL l))) = other-origin _ refl
refused-zero n (ON (LOOK COUNTS)) = other-origin _ refl
refused-zero n (ON (CHANGE c)) = other-origin _ refl
refused-zero n (WRITE_BLOCK items list) = other-origin _ refl

answer-zero : (lengths : Pieces) (n : ℕ) (m : Model) (c : Call) → EmptyBase m.plain → EmptyIsZero (model_answer lengths n m c)
unfolding model_answer origin_named
answer-zero lengths zero m (RESET s) h = other-origin _ refl
answer-zero lengths zero m CHECK h = other-origin _ refl
answer-zero lengths zero m (ON a) h = act-zero m h a
answer-zero lengths zero m (WRITE_BLOCK items list) h = other-origin _ refl
answer-zero lengths (suc n) m c h = refused-zero (suc n) c

-- So it is in every list of the plain store's answers,
pub answers-zero : (lengths : Pieces) (calls : List Call) (m : Model) → EmptyBase m.plain → Each EmptyIsZero (answers_from lengths m calls)
unfolding answers_from
answers-zero lengths [] m h = tt
answers-zero lengths (c ∷ cs) m h =
    let n = plain_refusal lengths m.plain c in
    (answer-zero lengths n m c h, answers-zero lengths cs (model_step lengths n m c) (model-kept lengths n m c h))

-- and by demand 3 in every list of a store's.
pub empty-reads-zero : (K : Kind) → Lawful K → EmptyReadsZero K
unfolding fresh_model fresh
empty-reads-zero K w s t u asked calls given start run =
    subst (Each EmptyIsZero) (sym (demand-3 K w s t u asked calls given start run)) (answers-zero (K.lengths s) calls (fresh_model asked) (λ l e. refl))
