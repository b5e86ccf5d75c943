-- A record's call and its answer. Assumes nothing.
use mathlib.Core.Path.{◌≡◌, refl, sym, ◌∙◌, ap, subst}
use mathlib.Core.Logic.{◌⊎◌, inl, inr, ⊎_elim}
use mathlib.Core.Bool.{Bool, true, false, cond, ◌||◌, true≢false, false≢true}
use mathlib.Core.Option.{Option, none, some}
use mathlib.Core.List.{List, [], ◌∷◌}
use Prim.Native.Nat.{ℕ, zero, suc}
use native.Mathlib.Omega.{arith}
use lib.Dec.{eqb}
use borrow.Author.Tests.{eq-eqb, ne_eqb}
use Rattle.rules.specs.Settings.{Settings}
use Rattle.rules.specs.Call.{Act, Call, Answer, number_in, refused}
use Rattle.rules.specs.Call.Call.{RESET, ON}
use Rattle.rules.specs.Call.Answer.{outcome, reading, lending, counting, verdict, filling}
use Rattle.rules.specs.Refusal.{facts_by, refusal, asked_refusal}
use Rattle.rules.specs.Plain.{Model, fresh_model}
use Rattle.rules.specs.Promise.{form_of}
use Rattle.records.specs.declared.Word.{Word}
use Rattle.records.specs.Records.Asked.{asks}
use Rattle.records.specs.declared.Word.TheVariants.{Reset, Read, Write, Mark, Back, Advance, Counts}
use Rattle.store.specs.Shown.{Kept, blank_state, lengths_kept, Promises, Ran, AnswersAs}
use Rattle.store.proofs.Ran.{ran-none, ran-one}
use Rattle.store.proofs.Demand3.{store-answered, store-starts, store-answers-next, store-goes-on}
use Rattle.replies.specs.Calls.{call_of}
use Rattle.session.specs.Transcript.{Store, is_other, calls_for, reset_in, unstarted_refusal, unstarted_store, answer_to, store_after}
use Rattle.session.specs.Running.{Stored}
use Rattle.session.specs.Between.{early, started_after}

-- Whether a reset was accepted.
started-true : (b : Bool) (n : ℕ) → b ≡ true → started_after b n ≡ true
unfolding started_after
started-true b n e = ap (λ (x : Bool). x || eqb n 0) e

started-zero : (b : Bool) (n : ℕ) → n ≡ 0 → started_after b n ≡ true
unfolding started_after
started-zero true n e = refl
started-zero false n e = eq-eqb n 0 e

started-false : (b : Bool) (n : ℕ) → b ≡ false → (n ≡ 0 → ⊥) → started_after b n ≡ false
unfolding started_after
started-false b n e d = ap (λ (x : Bool). x || eqb n 0) e ∙ ne_eqb n 0 d

pub started-suc : (b : Bool) (n : ℕ) → b ≡ false → started_after b (suc n) ≡ false
started-suc b n e = started-false b (suc n) e (λ d. omega arith)

-- What a word asks for: a reset, or an act whose answer has a number.
pub record Resets (w : Word) (c : Call) : Type 0 where
  pub other : is_other w ≡ false
  pub settings : Settings
  pub call : c ≡ RESET settings

pub record Acts (w : Word) (c : Call) : Type 0 where
  pub other : is_other w ≡ true
  pub act : Act
  pub call : c ≡ ON act
  pub numbered : (n : ℕ) → number_in (refused n (ON act)) ≡ n

pub word-call : (w : Word) (ns : List ℕ) → Resets w (call_of w ns) ⊎ Acts w (call_of w ns)
unfolding is_other call_of refused number_in
word-call Reset ns = inl (record { other = refl; settings = _; call = refl })
word-call Read ns = inr (record { other = refl; act = _; call = refl; numbered = λ n. refl })
word-call Write ns = inr (record { other = refl; act = _; call = refl; numbered = λ n. refl })
word-call Mark ns = inr (record { other = refl; act = _; call = refl; numbered = λ n. refl })
word-call Back ns = inr (record { other = refl; act = _; call = refl; numbered = λ n. refl })
word-call Advance ns = inr (record { other = refl; act = _; call = refl; numbered = λ n. refl })
word-call Counts ns = inr (record { other = refl; act = _; call = refl; numbered = λ n. refl })

module _ (w : Word) (ns : List ℕ) where
  other_none : is_other w ≡ true → reset_in (call_of w ns) ≡ none
  unfolding reset_in
  other_none e =
      ⊎_elim (λ r. absurd (false≢true (sym r.other ∙ e))) (λ a. ap reset_in a.call) (word-call w ns)

  reset-call : is_other w ≡ false → Resets w (call_of w ns)
  reset-call e = ⊎_elim (λ r. r) (λ a. absurd (true≢false (sym a.other ∙ e))) (word-call w ns)

  refused-number : (n : ℕ) → number_in (refused n (call_of w ns)) ≡ n
  unfolding refused number_in
  refused-number n =
      ⊎_elim (λ r. ap (λ (c : Call). number_in (refused n c)) r.call) (λ a. ap (λ (c : Call). number_in (refused n c)) a.call ∙ a.numbered n) (word-call w ns)

module _ (s t : Kept) (c : Call) (a : Answer) (m : Model) where
  later-answer : AnswersAs s m → Promises c s a t → a ≡ answer_to (lengths_kept s) (some m) c
  unfolding answer_to
  later-answer q h = store-answers-next s t c a m q h

  later-stored : {started : Bool} → (started ≡ true) × AnswersAs s m → Promises c s a t → Stored (started_after started (number_in a)) t (store_after (lengths_kept s) (some m) c)
  unfolding store_after
  later-stored q h = (started-true _ (number_in a) q.0, store-goes-on s t c a m q.1 h)

-- The answer to a record's call, whatever the session's store was, and what is left.
pub record CallAnswered (started : Bool) (w : Word) (ns : List ℕ) (s : Kept) (a : Answer) (t : Kept) : Type 0 where
  pub answer : (o : Store) → Stored started s o → a ≡ answer_to (lengths_kept s) o (call_of w ns)
  pub after : (o : Store) → Stored started s o → Stored (started_after started (number_in a)) t (store_after (lengths_kept s) o (call_of w ns))
  pub made : (o : Store) → Stored started s o → Ran s (calls_for o (asks w ns)) t

-- 3: a record that is no reset, before the first accepted one
early-started : (b : Bool) (w : Word) → early b w ≡ true → b ≡ false
unfolding early
early-started true w e = absurd (false≢true e)
early-started false w e = refl

early-other : (b : Bool) (w : Word) → early b w ≡ true → is_other w ≡ true
unfolding early
early-other true w e = absurd (false≢true e)
early-other false w e = e

module _ (started : Bool) (w : Word) (ns : List ℕ) (s : Kept) (e : early started w ≡ true) where
  pub early-answer : (o : Store) → Stored started s o → outcome 3 ≡ answer_to (lengths_kept s) o (call_of w ns)
  unfolding answer_to unstarted_refusal
  early-answer none q = sym (ap (λ (x : Option Settings). outcome (unstarted_refusal (lengths_kept s) x)) (other_none w ns (early-other started w e)))
  early-answer (some m) q = absurd (true≢false (sym q.0 ∙ early-started started w e))

  pub early-store : (o : Store) → Stored started s o → store_after (lengths_kept s) o (call_of w ns) ≡ o
  unfolding store_after unstarted_store
  early-store none q = ap (unstarted_store (lengths_kept s)) (other_none w ns (early-other started w e))
  early-store (some m) q = absurd (true≢false (sym q.0 ∙ early-started started w e))

  pub early-calls : (o : Store) → Stored started s o → Ran s (calls_for o (asks w ns)) s
  unfolding calls_for
  early-calls none q = subst (λ (b : Bool). Ran s (cond b [] (call_of w ns ∷ [])) s) (sym (early-other started w e)) (ran-none s)
  early-calls (some m) q = absurd (true≢false (sym q.0 ∙ early-started started w e))

-- The first reset.
module _ (s t : Kept) (asked : Settings) (a : Answer) (blank : s.state ≡ blank_state) (h : Promises (RESET asked) s a t) where
  first-number : a ≡ outcome (asked_refusal (lengths_kept s) asked)
  first-number = store-answered s t asked a h

  stays : (n : ℕ) → asked_refusal (lengths_kept s) asked ≡ suc n → t.state ≡ blank_state
  unfolding refusal facts_by
  stays n e = ap (λ (x : Kept). x.state) (h.refused_kept (λ d. absurd (omega (arith, e, d)))) ∙ blank

  first-stored : (n : ℕ) → asked_refusal (lengths_kept s) asked ≡ n → Stored (started_after false n) t (cond (eqb n 0) (some (fresh_model asked)) none)
  first-stored zero e =
      (started-zero false 0 refl, store-starts s t asked (asked_refusal (lengths_kept s) asked) e (subst (λ (x : Answer). Promises (RESET asked) s x t) first-number h))
  first-stored (suc n) e =
      subst (λ (b : Bool). Stored (started_after false (suc n)) t (cond b (some (fresh_model asked)) none)) (sym (ne_eqb (suc n) 0 (λ d. omega arith))) (started-suc false n refl, stays n e)

-- the call that is made before an accepted reset is a reset
record First (c : Call) (s : Kept) (a : Answer) (t : Kept) : Type 0 where
  answer : a ≡ answer_to (lengths_kept s) none c
  stored : Stored (started_after false (number_in a)) t (store_after (lengths_kept s) none c)

first-reset : (s t : Kept) (asked : Settings) (a : Answer) → s.state ≡ blank_state → Promises (RESET asked) s a t → First (RESET asked) s a t
unfolding answer_to store_after reset_in unstarted_refusal unstarted_store number_in
first-reset s t asked a blank h =
    record {
      answer = first-number s t asked a blank h;
      stored =
          subst (λ (n : ℕ). Stored (started_after false n) t (cond (eqb (asked_refusal (lengths_kept s) asked) 0) (some (fresh_model asked)) none))
          (sym (ap number_in (first-number s t asked a blank h))) (first-stored s t asked a blank h (asked_refusal (lengths_kept s) asked) refl);
    }

first : (w : Word) (ns : List ℕ) (s : Kept) (a : Answer) (t : Kept) → s.state ≡ blank_state → is_other w ≡ false → Promises (call_of w ns) s a t → First (call_of w ns) s a t
first w ns s a t b e h =
    let r = reset-call w ns e in
    subst (λ (c : Call). First c s a t) (sym r.call) (first-reset s t r.settings a b (subst (λ (c : Call). Promises c s a t) r.call h))

-- A call that is made answers as the session's store does.
pub answers-call : (started : Bool) (w : Word) (ns : List ℕ) (s : Kept) (a : Answer) (t : Kept) → early started w ≡ false → Promises (call_of w ns) s a t
    → CallAnswered started w ns s a t
unfolding early calls_for
answers-call started w ns s a t e h = record { answer = answer; after = after; made = made }
  where
    other : started ≡ false → is_other w ≡ false
    other q = ap (λ (b : Bool). early b w) (sym q) ∙ e

    made : (o : Store) → Stored started s o → Ran s (calls_for o (asks w ns)) t
    made none q = subst (λ (b : Bool). Ran s (cond b [] (call_of w ns ∷ [])) t) (sym (other q.0)) (ran-one h)
    made (some m) q = ran-one h

    answer : (o : Store) → Stored started s o → a ≡ answer_to (lengths_kept s) o (call_of w ns)
    answer none q = (first w ns s a t q.1 (other q.0) h).answer
    answer (some m) q = later-answer s t (call_of w ns) a m q.1 h

    after : (o : Store) → Stored started s o → Stored (started_after started (number_in a)) t (store_after (lengths_kept s) o (call_of w ns))
    after none q =
        subst (λ (b : Bool). Stored (started_after b (number_in a)) t (store_after (lengths_kept s) none (call_of w ns))) (sym q.0) (first w ns s a t q.1 (other q.0) h).stored
    after (some m) q = later-stored s t (call_of w ns) a m q h

-- The number of a refusal.
form-number : (a : Answer) → number_in (form_of a) ≡ number_in a
unfolding number_in
form-number (outcome n) = refl
form-number (reading n v o) = refl
form-number (lending x) = refl
form-number (counting n l p) = refl
form-number (verdict n b) = refl
form-number (filling n left) = refl

pub named : (w : Word) (ns : List ℕ) (n : ℕ) (a : Answer) → form_of a ≡ form_of (refused n (call_of w ns)) → number_in a ≡ n
named w ns n a h = ((sym (form-number a) ∙ ap number_in h) ∙ form-number (refused n (call_of w ns))) ∙ refused-number w ns n
