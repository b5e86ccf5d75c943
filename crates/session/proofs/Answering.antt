-- A line answered. Assumes nothing.
use mathlib.Core.Path.{◌≡◌, refl, sym, ◌∙◌, ap, subst}
use mathlib.Core.Bool.{Bool, true, false, cond, true≢false, false≢true}
use mathlib.Core.List.{List, [], ◌∷◌, ◌++◌}
use Prim.Native.Nat.{ℕ, ◌<◌, ◌≤◌}
use native.Mathlib.Omega.{arith}
use lib.ListN.{length}
use Rattle.text.specs.Parts.{Text}
use Rattle.text.specs.Lines.{Holds}
use Rattle.text.specs.declared.Reader.{Reader}
use Rattle.records.specs.declared.Word.{Word}
use Rattle.std.specs.Prelude.{Ok, Err}
use Rattle.records.specs.declared.Record.{Record}
use Rattle.records.specs.declared.Refusal.{Refusal}
use Rattle.records.specs.declared.Refusal.TheVariants.{Early}
use Rattle.records.specs.Records.{Asked, parsed}
use Rattle.records.specs.Records.Asked.{asks, turned_down}
use Rattle.records.specs.Shown.{numbers_of, refusal_number, shown_parsed}
use Rattle.rules.specs.Call.{Answer, number_in}
use Rattle.rules.specs.Call.Answer.{outcome}
use Rattle.store.specs.Shown.{StoreState, blank_state, Lent, kept, lengths_of, Promises, Ran}
use Rattle.store.proofs.Ran.{ran-none}
use Rattle.tally.specs.Counts.{tally_after}
use Rattle.replies.specs.declared.Shown.{Shown}
use Rattle.replies.specs.declared.Shown.TheVariants.{Nothing}
use Rattle.replies.specs.Answers.{answer_line, longest}
use Rattle.replies.specs.Lines.{answer_of}
use Rattle.replies.specs.Calls.{call_of}
use Rattle.replies.proofs.Lines.{number_of, answer-few}
use Rattle.session.specs.Transcript.{Store, Running, beginning, calls_for, store_after, line_answer, line_store, line_text, line_after}
use Rattle.session.specs.Running.{Stored, tally_on, StandsFor, Made}
use Rattle.session.specs.Between.{early, admitted, started_after, Desk, desk_of, kept_on, Stands}
use Rattle.session.proofs.Asking.{early-answer, early-store, early-calls, answers-call}
use Rattle.session.proofs.Tallies.{tally-next, counted-store, counted-calls}

-- The runner before its first line.
pub stands-first : (state : StoreState) (reader : Reader) (lent : Lent) → state ≡ blank_state → Holds reader []
    → StandsFor (record { state = state; started = false; tally = record { oks = 0; noes = 0 }; reader = reader }) lent beginning []
unfolding beginning
stands-first state reader lent b h = record { reader = h; part = omega arith; tally = refl; store = (refl, b) }

-- The answer to a line, whichever runner of the transcript it was, and the calls made for it.
pub record AnswersLine (d : Desk) (line : Text) (e : Desk) (answer : Text) : Type 0 where
  pub lengths : lengths_of e.lent ≡ lengths_of d.lent
  pub few : length answer ≤ longest
  pub text : (x : Running) → Stands d x → answer ≡ line_text (lengths_of d.lent) x line
  pub stands : (x : Running) → Stands d x → Stands e (line_after (lengths_of d.lent) x line)
  pub made : (x : Running) → Stands d x → Made x (line_after (lengths_of d.lent) x line) (kept_on d) (kept_on e)

-- What a line says in code.
module _ (started : Bool) (line : Text) where
  pub ask-down : (e : Refusal) → shown_parsed (Err e) ≡ parsed line → shown_parsed (Err e) ≡ admitted started (parsed line)
  unfolding admitted shown_parsed
  ask-down e p = ap (admitted started) p

  module _ (r : Record) (p : shown_parsed (Ok r) ≡ parsed line) (b : Bool) (q : b ≡ early started r.word) where
    admitted-record : admitted started (parsed line) ≡ cond b (turned_down 3) (asks r.word (numbers_of r))
    unfolding admitted shown_parsed
    admitted-record = ap (admitted started) (sym p) ∙ ap (λ (x : Bool). cond x (turned_down 3) (asks r.word (numbers_of r))) (sym q)

    pub ask-early : b ≡ true → shown_parsed (Err Early) ≡ admitted started (parsed line)
    unfolding shown_parsed
    ask-early t = sym (admitted-record ∙ ap (λ (x : Bool). cond x (turned_down 3) (asks r.word (numbers_of r))) t)

    pub ask-record : b ≡ false → shown_parsed (Ok r) ≡ admitted started (parsed line)
    unfolding shown_parsed
    ask-record t = sym (admitted-record ∙ ap (λ (x : Bool). cond x (turned_down 3) (asks r.word (numbers_of r))) t)

-- What an answer has to be, for any store of the session: the transcript's, with the store that it leaves.
pub record Fits (d : Desk) (p : Asked) (a : Answer) (started : Bool) (state : StoreState) (after : Lent) : Type 0 where
  pub answer : (o : Store) → Stored d.started (kept_on d) o → a ≡ line_answer (lengths_of d.lent) o p
  pub store : (o : Store) → Stored d.started (kept_on d) o → Stored started (kept state after) (line_store (lengths_of d.lent) o p)
  pub made : (o : Store) → Stored d.started (kept_on d) o → Ran (kept_on d) (calls_for o p) (kept state after)

module _ (d : Desk) (n : ℕ) (shown : Shown) (started : Bool) (state : StoreState) (after : Lent) where
  abbrev left : Desk
  left = desk_of state started (tally_after d.tally n) after

  module _ (b : ℕ) (bs : Text) (fit : Fits d (parsed (b ∷ bs)) (answer_of n shown) started state after) where
    module _ (x : Running) (q : Stands d x) where
      said : answer_of n shown ≡ line_answer (lengths_of d.lent) x.store (parsed (b ∷ bs))
      said = fit.answer x.store q.store

      text-some : answer_line (answer_of n shown) ≡ line_text (lengths_of d.lent) x (b ∷ bs)
      unfolding line_text
      text-some = ap answer_line said

      number_is : number_in (line_answer (lengths_of d.lent) x.store (parsed (b ∷ bs))) ≡ n
      number_is = ap number_in (sym said) ∙ number_of n shown

      beside : tally_after d.tally n ≡ tally_on (line_after (lengths_of d.lent) x (b ∷ bs))
      unfolding line_after
      beside =
          tally-next d.tally x (line_answer (lengths_of d.lent) x.store (parsed (b ∷ bs))) (line_store (lengths_of d.lent) x.store (parsed (b ∷ bs))) (x.calls ++ calls_for x.store (parsed (b ∷ bs))) q.tally n number_is

      stored : Stored started (kept state after) (line_after (lengths_of d.lent) x (b ∷ bs)).store
      unfolding line_after
      stored =
          subst (Stored started (kept state after))
          (sym (counted-store (line_answer (lengths_of d.lent) x.store (parsed (b ∷ bs))) x (line_store (lengths_of d.lent) x.store (parsed (b ∷ bs))) (x.calls ++ calls_for x.store (parsed (b ∷ bs)))))
          (fit.store x.store q.store)

      made_some : Made x (line_after (lengths_of d.lent) x (b ∷ bs)) (kept_on d) (kept state after)
      unfolding line_after
      made_some =
          (calls_for x.store (parsed (b ∷ bs)), counted-calls _ x _ (x.calls ++ calls_for x.store (parsed (b ∷ bs))), fit.made x.store q.store)

    some-answered : lengths_of after ≡ lengths_of d.lent → AnswersLine d (b ∷ bs) left (answer_line (answer_of n shown))
    some-answered e =
        record {
          lengths = e;
          few = answer-few (answer_of n shown);
          text = text-some;
          stands = λ x q. record { tally = beside x q; store = stored x q };
          made = made_some;
        }

  line-answered : (line : Text) → 0 < length line → Fits d (parsed line) (answer_of n shown) started state after
      → lengths_of after ≡ lengths_of d.lent → AnswersLine d line left (answer_line (answer_of n shown))
  line-answered [] h fit e = absurd (omega (arith, h))
  line-answered (b ∷ bs) h fit e = some-answered b bs fit e

-- A line that is turned down,
refusal_in : Asked → ℕ
refusal_in (turned_down n) = n
refusal_in (asks w ns) = 0

is_asked : Asked → Bool
is_asked (turned_down n) = false
is_asked (asks w ns) = true

fits-down : (d : Desk) (p : Asked) (n : ℕ) → turned_down n ≡ admitted d.started p → Fits d p (answer_of n Nothing) d.started d.state d.lent
unfolding line_answer line_store answer_of admitted is_asked refusal_in calls_for
fits-down d (turned_down k) n e =
    record { answer = λ o q. ap (λ (a : Asked). outcome (refusal_in a)) e; store = λ o q. q; made = λ o q. ran-none (kept_on d) }
fits-down d (asks w ns) n e = go (early d.started w) refl e
  where
    go : (b : Bool) → early d.started w ≡ b → turned_down n ≡ cond b (turned_down 3) (asks w ns) → Fits d (asks w ns) (outcome n) d.started d.state d.lent
    go true t f =
        record {
          answer = λ o q. ap (λ (a : Asked). outcome (refusal_in a)) f ∙ early-answer d.started w ns (kept_on d) t o q;
          store = λ o q. subst (Stored d.started (kept_on d)) (sym (early-store d.started w ns (kept_on d) t o q)) q;
          made = early-calls d.started w ns (kept_on d) t;
        }
    go false t f = absurd (false≢true (ap is_asked f))

pub answers-down : (d : Desk) (line : Text) (e : Refusal) (n : ℕ) → 0 < length line → shown_parsed (Err e) ≡ admitted d.started (parsed line) → n ≡ refusal_number e
    → AnswersLine d line (desk_of d.state d.started (tally_after d.tally n) d.lent) (answer_line (answer_of n Nothing))
unfolding shown_parsed
answers-down d line e n h a i = line-answered d n Nothing d.started d.state d.lent line h (fits-down d (parsed line) n (ap turned_down i ∙ a)) refl

-- and one whose call is made.
module _ (d : Desk) (n : ℕ) (shown : Shown) (started : Bool) (state : StoreState) (after : Lent) (w : Word) (ns : List ℕ)
    (s : started ≡ started_after d.started n) (h : Promises (call_of w ns) (kept_on d) (answer_of n shown) (kept state after)) where
  fits-record : early d.started w ≡ false → Fits d (asks w ns) (answer_of n shown) started state after
  unfolding line_answer line_store
  fits-record e =
      let k = answers-call d.started w ns (kept_on d) (answer_of n shown) (kept state after) e h in
      record {
        answer = k.answer;
        store =
            λ o q.
            subst (λ (b : Bool). Stored b (kept state after) (store_after (lengths_of d.lent) o (call_of w ns))) (ap (started_after d.started) (number_of n shown) ∙ sym s) (k.after o q);
        made = k.made;
      }

  fits-up : (p : Asked) → asks w ns ≡ admitted d.started p → Fits d p (answer_of n shown) started state after
  unfolding admitted is_asked
  fits-up (turned_down k) e = absurd (true≢false (ap is_asked e))
  fits-up (asks v ms) e = go (early d.started v) refl e
    where
      word_in : Asked → Word
      word_in (turned_down k) = v
      word_in (asks u us) = u

      go : (b : Bool) → early d.started v ≡ b → asks w ns ≡ cond b (turned_down 3) (asks v ms) → Fits d (asks v ms) (answer_of n shown) started state after
      go true t f = absurd (true≢false (ap is_asked f))
      go false t f =
          subst (λ (p : Asked). Fits d p (answer_of n shown) started state after) f
          (fits-record (ap (λ (p : Asked). early d.started (word_in p)) f ∙ t))

  pub answers-up : (line : Text) (r : Record) → 0 < length line → shown_parsed (Ok r) ≡ admitted d.started (parsed line) → w ≡ r.word → ns ≡ numbers_of r
      → AnswersLine d line (desk_of state started (tally_after d.tally n) after) (answer_line (answer_of n shown))
  unfolding shown_parsed
  answers-up line r i e f g =
      line-answered d n shown started state after line i (fits-up (parsed line) (ap (λ (u : Word). asks u ns) f ∙ (ap (asks r.word) g ∙ e))) h.lengths
