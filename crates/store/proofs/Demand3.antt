-- DEMAND 3 of the store, with nothing left as a parameter: whatever the state and the lent contents, after an accepted RESET every list of
-- calls, refused ones and further resets included, gets the plain store's answers. Each step of the list is the promise that the `ensures`
-- of the call states. Assumes nothing.
use mathlib.Core.Path.{◌≡◌, refl, sym, ◌∙◌, ap, subst}
use mathlib.Core.List.{List, [], ◌∷◌}
use Prim.Native.Nat.{ℕ, zero, suc}
use native.Mathlib.Nat.{suc-ne-zero}
use Rattle.rules.specs.Settings.{Settings, Pieces}
use Rattle.rules.specs.Call.{Call, Answer, number_in, refused}
use Rattle.rules.specs.Call.Answer.{outcome}
use Rattle.rules.specs.Call.Call.{RESET}
use Rattle.rules.specs.Refusal.{asked_refusal, refusal, facts_by}
use Rattle.rules.specs.Plain.{Model, plain_refusal, model_answer, model_step, answers_from, fresh_model}
use Rattle.rules.specs.Promise.{Promise, Run}
use Rattle.rules.specs.Promise.RunBy.{stop, next}
use Rattle.rules.specs.Demand3.{Demand3, AnswersAsHistory, EmptyReadsZero}
use Rattle.rules.proofs.Demand3.{demand-3, reached-well, answers-as-history}
use Rattle.rules.proofs.Empty.{empty-reads-zero}
use Rattle.storage.specs.Storage.{Storage, lengths_in, WellStore, store}
use Rattle.storage.proofs.Figures.{lawful}
use Rattle.store.specs.Shown.{Kept, lengths_kept, Promises, AnswersAs}

pub store-demand-3 : Demand3 store
store-demand-3 = demand-3 store lawful

-- In every such list a read that names its line empty gives 0 (request 2.3).
pub store-empty-zero : EmptyReadsZero store
store-empty-zero = empty-reads-zero store lawful

-- "All storage reached from RESET meets it" (the written well-formedness),
pub store-reached : (s t u : Storage) (asked : Settings) (calls : List Call) (given : List Answer) → Promise store (RESET asked) s (outcome 0) t
    → Run store t calls given u → WellStore u
store-reached = reached-well store lawful

-- "and storage that meets it answers as some surviving history does."
pub store-history : AnswersAsHistory store
store-history = answers-as-history store lawful

-- What a caller has of its RESET: the answer is document 01's refusal or 0,
pub store-answered : (s t : Storage) (asked : Settings) (a : Answer) → Promise store (RESET asked) s a t → a ≡ outcome (asked_refusal (lengths_in s.memory) asked)
unfolding refusal facts_by refused
store-answered s t asked a h = go (asked_refusal (lengths_in s.memory) asked) refl
  where
    go : (n : ℕ) → asked_refusal (lengths_in s.memory) asked ≡ n → a ≡ outcome (asked_refusal (lengths_in s.memory) asked)
    go zero e = (h.accepted_call e).answer ∙ ap outcome (sym e)
    go (suc n) e = h.refused_answer (λ z. suc-ne-zero n (sym e ∙ z))

pub store-refusal : (s t : Storage) (asked : Settings) (n : ℕ) → Promise store (RESET asked) s (outcome n) t → n ≡ asked_refusal (lengths_in s.memory) asked
unfolding number_in
store-refusal s t asked n h = ap number_in (store-answered s t asked (outcome n) h)

-- and once it is 0 every list of calls gets the plain store's answers.
pub store-answers : (s t u : Storage) (asked : Settings) (calls : List Call) (given : List Answer) (n : ℕ) → n ≡ 0
    → Promise store (RESET asked) s (outcome n) t → Run store t calls given u → given ≡ answers_from (lengths_in s.memory) (fresh_model asked) calls
store-answers s t u asked calls given n z h run =
    store-demand-3 s t u asked calls given (subst (λ (m : ℕ). Promise store (RESET asked) s (outcome m) t) z h) run

-- The same, from one call to the next: an accepted RESET leaves storage that answers as the empty plain store,
pub store-starts : (s t : Kept) (asked : Settings) (n : ℕ) → n ≡ 0 → Promises (RESET asked) s (outcome n) t → AnswersAs t (fresh_model asked)
store-starts s t asked n z h u calls given run =
    store-answers s t u asked calls given n z h run ∙ ap (λ (lengths : Pieces). answers_from lengths (fresh_model asked) calls) (sym h.lengths)

-- and storage that answers as a model does gives the model's next answer and goes on as the model does.
heads : (a b : Answer) (xs ys : List Answer) → a ∷ xs ≡ b ∷ ys → a ≡ b
heads a b xs ys e = cc

tails : (a b : Answer) (xs ys : List Answer) → a ∷ xs ≡ b ∷ ys → xs ≡ ys
tails a b xs ys e = cc

module _ (s t : Kept) (c : Call) (a : Answer) (m : Model) (q : AnswersAs s m) (h : Promises c s a t) where
  abbrev next-number : ℕ
  next-number = plain_refusal (lengths_kept s) m.plain c

  pub store-answers-next : a ≡ model_answer (lengths_kept s) next-number m c
  unfolding answers_from
  store-answers-next = heads _ _ _ _ (q t (c ∷ []) (a ∷ []) (next h stop))

  pub store-goes-on : AnswersAs t (model_step (lengths_kept s) next-number m c)
  unfolding answers_from
  store-goes-on u calls given run =
      tails _ _ _ _ (q u (c ∷ calls) (a ∷ given) (next h run))
      ∙ ap (λ (lengths : Pieces). answers_from lengths (model_step (lengths_kept s) next-number m c) calls) (sym h.lengths)
