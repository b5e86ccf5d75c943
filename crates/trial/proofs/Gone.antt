-- What was taken back is gone: if the plain store accepts every call of the trial, it reads the first value. Assumes nothing.
use mathlib.Core.Path.{◌≡◌, refl, sym, ◌∙◌, ap}
use mathlib.Core.List.{List, [], ◌∷◌}
use Prim.Native.Nat.{ℕ, zero, suc}
use native.Mathlib.Omega.{arith}
use Rattle.rules.specs.Settings.{Settings, Pieces}
use Rattle.rules.specs.Line.{zeros}
use Rattle.rules.specs.Call.{Act, Call, Answer, Origin, number_in, refused}
use Rattle.rules.specs.Call.Answer.{outcome, reading, lending, counting, verdict, filling}
use Rattle.rules.specs.Call.Change.{WRITE, MARK, ROLLBACK}
use Rattle.rules.specs.Call.Act.{READ, CHANGE}
use Rattle.rules.specs.Call.Call.{ON}
use Rattle.rules.specs.Seen.{accepted}
use Rattle.rules.specs.Refusal.{refusal, act_refusal}
use Rattle.rules.specs.Figure3.{holds, cache_step}
use Rattle.rules.specs.Plain.{Model, plain_seen, plain_facts, plain_refusal, plain_step, act_step, model_answer, model_step, answers_from, fresh_model, fresh, add_write, play_all, play_group}
use Rattle.rules.proofs.Chain.{state-passed, write-passed}
use Rattle.rules.proofs.Width.{widths, written_read}
use Rattle.rules.proofs.WellSteps.{zeros-line}

head_of : Answer → List Answer → Answer
head_of d [] = d
head_of d (x ∷ xs) = x

tail_of : List Answer → List Answer
tail_of [] = []
tail_of (x ∷ xs) = xs

-- the value of a read's answer
value_in : Answer → ℕ
value_in (outcome n) = 0
value_in (reading n v o) = v
value_in (lending x) = 0
value_in (counting n l p) = 0
value_in (verdict n b) = 0
value_in (filling n left) = 0

-- An answer of 0 is an accepted act's, and the model goes on from its step.
module _ (lengths : Pieces) (m : Model) (c : Act) (cs : List Call) where
  abbrev number : ℕ
  number = plain_refusal lengths m.plain (ON c)

  abbrev later : Model
  later = record { plain = plain_step c m.plain; cache = cache_step (plain_seen m.plain) c m.cache }

  record Accepted (a : Answer) (rest : List Answer) : Type 0 where
    passed : number ≡ 0
    answer : a ≡ accepted (plain_seen m.plain) (holds m.cache) c
    goes_on : rest ≡ answers_from lengths later cs

  accepted-step : ((k : ℕ) → number_in (refused k (ON c)) ≡ k) → (a : Answer) (rest : List Answer) → a ∷ rest ≡ answers_from lengths m (ON c ∷ cs) → number_in a ≡ 0 → Accepted a rest
  unfolding answers_from model_answer model_step act_step head_of tail_of
  accepted-step names a rest e z = go number refl
    where
      told : (k : ℕ) → number ≡ k → a ∷ rest ≡ model_answer lengths k m (ON c) ∷ answers_from lengths (model_step lengths k m (ON c)) cs
      told k d = e ∙ ap (λ (j : ℕ). model_answer lengths j m (ON c) ∷ answers_from lengths (model_step lengths j m (ON c)) cs) d

      go : (k : ℕ) → number ≡ k → Accepted a rest
      go zero d = record { passed = d; answer = ap (head_of a) (told zero d); goes_on = ap tail_of (told zero d) }
      go (suc k) d =
          let wrong : suc k ≡ 0 = sym (ap number_in (ap (head_of a) (told (suc k) d)) ∙ names (suc k)) ∙ z in
          absurd (omega arith)

-- The trial's calls, one after the other.
module _ (lengths : Pieces) (asked : Settings) (a first second v : ℕ) (o : Origin)
    (e : outcome 0 ∷ outcome 0 ∷ outcome 0 ∷ outcome 0 ∷ reading 0 v o ∷ []
    ≡ answers_from lengths (fresh_model asked) (ON (CHANGE (WRITE 4 a first)) ∷ ON (CHANGE MARK) ∷ ON (CHANGE (WRITE 4 a second)) ∷ ON (CHANGE (ROLLBACK 1)) ∷ ON (READ 4 a) ∷ [])) where
  pub gone : v ≡ first
  unfolding refused number_in value_in fresh_model fresh plain_step add_write accepted plain_seen play_all play_group refusal act_refusal plain_facts plain_refusal
  gone =
      let s1 = accepted-step lengths (fresh_model asked) (CHANGE (WRITE 4 a first)) _ (λ k. refl) (outcome 0) _ e refl in
      let s2 = accepted-step lengths _ (CHANGE MARK) _ (λ k. refl) (outcome 0) _ s1.goes_on refl in
      let s3 = accepted-step lengths _ (CHANGE (WRITE 4 a second)) _ (λ k. refl) (outcome 0) _ s2.goes_on refl in
      let s4 = accepted-step lengths _ (CHANGE (ROLLBACK 1)) _ (λ k. refl) (outcome 0) _ s3.goes_on refl in
      let s5 = accepted-step lengths _ (READ 4 a) _ (λ k. refl) (reading 0 v o) _ s4.goes_on refl in
      let w = write-passed asked 4 a first _ (state-passed _ _ s1.passed) in
      ap value_in s5.answer ∙ written_read 4 a first (widths 4 w.0.width) w.0.aligned (λ l. zeros) (λ l. zeros-line) w.1

-- in the form in which the client has its refusals
pub taken_back : (lengths : Pieces) (asked : Settings) (a first second b m w k r v : ℕ) (o : Origin)
    → outcome b ∷ outcome m ∷ outcome w ∷ outcome k ∷ reading r v o ∷ []
    ≡ answers_from lengths (fresh_model asked) (ON (CHANGE (WRITE 4 a first)) ∷ ON (CHANGE MARK) ∷ ON (CHANGE (WRITE 4 a second)) ∷ ON (CHANGE (ROLLBACK 1)) ∷ ON (READ 4 a) ∷ [])
    → b ≡ 0 → m ≡ 0 → w ≡ 0 → k ≡ 0 → r ≡ 0 → v ≡ first
taken_back lengths asked a first second b m w k r v o e eb em ew ek er =
    gone lengths asked a first second v o (sym (λ i. outcome (eb i) ∷ outcome (em i) ∷ outcome (ew i) ∷ outcome (ek i) ∷ reading (er i) v o ∷ []) ∙ e)
