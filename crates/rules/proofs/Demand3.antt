-- Demand 3, of every kind of storage whose calls keep their promise. Assumes nothing.
use mathlib.Core.Path.{◌≡◌, refl, sym, ◌∙◌, ap, ap₂, subst}
use mathlib.Core.Logic.{◌≢◌}
use mathlib.Core.List.{List, ◌∷◌}
use Prim.Native.Nat.{ℕ, zero, suc, ◌<◌}
use native.Mathlib.Nat.{suc-ne-zero}
use native.Mathlib.Omega.{arith}
use lib.ListN.{length}
use Rattle.rules.specs.Settings.{Settings, Pieces}
use Rattle.rules.specs.Call.{Write, Look, Act, Call, Answer, write_of, filled, number_in, refused}
use Rattle.rules.specs.Call.Answer.{outcome, verdict, filling}
use Rattle.rules.specs.Call.Act.{READ, LOOK, CHANGE}
use Rattle.rules.specs.Call.Call.{RESET, CHECK, ON, WRITE_BLOCK}
use Rattle.rules.specs.Seen.{accepted}
use Rattle.rules.specs.Refusal.{refusal, lacks, facts_by}
use Rattle.rules.specs.Figure3.{holds, cache_step}
use Rattle.rules.specs.Registers.{Registers, at_start}
use Rattle.rules.specs.Figure2.{Figure, figure_step, figure_seen, registers_step}
use Rattle.rules.specs.Plain.{Plain, Surviving, Model, plain_seen, plain_step, plain_facts, plain_refusal, fresh, fresh_model, act_step, item_refusals, after_items, model_answer, model_step, answers_from}
use Rattle.rules.specs.Promise.{form_of, Kind, Lawful, Promise, Run, Started, Looked, Stepped, AcceptedAct, Accepted, Singly, seen_of, facts_of}
use Rattle.rules.specs.Promise.RunBy.{stop, next}
use Rattle.rules.specs.Demand3.{Demand3, AnswersAsHistory}
use Rattle.rules.proofs.Chain.{state-passed}
use Rattle.rules.proofs.WriteBlock.{write-answer, act-steps}
use Rattle.rules.proofs.Picture.{picture, seen-is}
use Rattle.rules.proofs.History.{drawn, drawn-settings, picture-drawn, drawn-survives}
use Rattle.rules.proofs.Steps.{Steps, steps, fresh-is}

-- A storage that the model mirrors: it is well-formed, and its figures are those that the model's history and cache draw.
pub record Mirrored (K : Kind) (lengths : Pieces) (s : K.Storage) (m : Model) : Type 0 where
  pub well : K.Well s
  pub lent : K.lengths s ≡ lengths
  pub settings : (K.registers s).settings ≡ m.plain.settings
  pub figure : K.figure s ≡ picture m.plain
  pub cache : K.cache s ≡ m.cache
  pub group : 0 < length m.plain.groups

module _ (K : Kind) (law : Lawful K) (lengths : Pieces) where
  module _ (s : K.Storage) (m : Model) (q : Mirrored K lengths s m) where
    same_seen : seen_of K s ≡ plain_seen m.plain
    unfolding seen_of
    same_seen = ap₂ figure_seen q.settings q.figure ∙ seen-is m.plain

    same-facts : facts_of K s ≡ plain_facts lengths m.plain
    unfolding facts_by plain_facts picture plain_seen
    same-facts = λ i. record {
      settings = q.settings i;
      fits = law.fits s q.well i;
      lengths = q.lent i;
      live = (law.live s q.well ∙ ap (λ (f : Figure). f.live) q.figure) i;
    }

    same-refusal : (c : Call) → refusal (facts_of K s) (lacks (K.registers s).settings (seen_of K s)) c ≡ plain_refusal lengths m.plain c
    unfolding plain_refusal
    same-refusal c = λ i. refusal (same-facts i) (lacks (q.settings i) (same_seen i)) c

    -- an accepted look, and an accepted act that steps
    looks : (t : K.Storage) (x : Look) (a : Answer) → Looked K x s a t
        → (a ≡ model_answer lengths 0 m (ON (LOOK x))) × Mirrored K lengths t (model_step lengths 0 m (ON (LOOK x)))
    unfolding model_answer model_step act_step plain_step cache_step
    looks t x a f = (
      f.answer q.well ∙ ap₂ (λ v y. accepted v (holds y) (LOOK x)) same_seen q.cache,
      subst (λ y. Mirrored K lengths y m) (sym f.kept) q,
    )

    follows : (t : K.Storage) (c : Act) (a : Answer) → K.lengths t ≡ K.lengths s → plain_refusal lengths m.plain (ON c) ≡ 0
        → Stepped K c s a t → (a ≡ model_answer lengths 0 m (ON c)) × Mirrored K lengths t (model_step lengths 0 m (ON c))
    unfolding model_answer model_step act_step plain_refusal plain_facts plain_seen refusal
    follows t c a kept r step =
        let f = step.followed q.well in
        let p : Steps c (K.registers s) m.plain = steps _ _ c (K.registers s) m.plain q.settings q.group refl (state-passed _ _ r) in (
          f.answer ∙ ap₂ (λ v x. accepted v (holds x) c) same_seen q.cache,
          record {
            well = f.well;
            lent = kept ∙ q.lent;
            settings =
                ap (λ (x : Registers). x.settings) step.registers
                ∙ (ap (λ (x : Figure). (registers_step c (K.registers s) x).settings) q.figure ∙ p.settings);
            figure = f.figure ∙ (ap (figure_step c (K.registers s)) q.figure ∙ sym p.drawn);
            cache = f.cache ∙ ap₂ (λ v x. cache_step v c x) same_seen q.cache;
            group = p.group;
          },
        )

  starts : {asked : Settings} {a : Answer} {t : K.Storage} → K.lengths t ≡ lengths → Started K asked a t → Mirrored K lengths t (fresh_model asked)
  unfolding fresh_model fresh at_start
  starts {asked} e f =
      record {
        well = f.well;
        lent = e;
        settings = ap (λ (x : Registers). x.settings) f.registers;
        figure = f.figure ∙ sym (fresh-is asked);
        cache = f.cache;
        group = omega arith;
      }

  same_number : (s t : K.Storage) (c : Call) (a : Answer) (m : Model) → Mirrored K lengths s m → (h : Promise K c s a t)
      → refusal (facts_of K s) h.lacking c ≡ plain_refusal lengths m.plain c
  same_number s t c a m q h = h.exact q.well ∙ same-refusal s m q c

  -- One call answers as the model does and leaves a storage that the model's next state mirrors: refused, as it is,
  abbrev Goes : (t : K.Storage) (c : Call) (a : Answer) (m : Model) (n : ℕ) → Type 0
  Goes t c a m n = (a ≡ model_answer lengths n m c) × Mirrored K lengths t (model_step lengths n m c)

  by_number : (s t : K.Storage) (c : Call) (a : Answer) (m : Model) (q : Mirrored K lengths s m) (h : Promise K c s a t) (n : ℕ)
      → plain_refusal lengths m.plain c ≡ n → (plain_refusal lengths m.plain c ≡ 0 → Accepted K c s a t → Goes t c a m 0) → Goes t c a m n
  unfolding model_answer model_step
  by_number s t c a m q h zero r go = go r (h.accepted_call (same_number s t c a m q h ∙ r))
  by_number s t c a m q h (suc n) r go =
      let e : refusal (facts_of K s) h.lacking c ≡ suc n = same_number s t c a m q h ∙ r in
      let z : refusal (facts_of K s) h.lacking c ≢ 0 = λ o. suc-ne-zero n (sym e ∙ o) in
      (h.refused_answer z ∙ ap (λ k. refused k c) e, subst (λ x. Mirrored K lengths x m) (sym (h.refused_kept z)) q)

  -- an accepted act,
  act-goes : (s t : K.Storage) (c : Act) (a : Answer) (m : Model) (q : Mirrored K lengths s m) → K.lengths t ≡ K.lengths s
      → plain_refusal lengths m.plain (ON c) ≡ 0 → AcceptedAct K c s a t → Goes t (ON c) a m 0
  act-goes s t (READ w x) a m q h r f = follows s m q t (READ w x) a h r f
  act-goes s t (LOOK x) a m q h r f = looks s m q t x a f
  act-goes s t (CHANGE c) a m q h r f = follows s m q t (CHANGE c) a h r f

  -- the items of a block, each of which gets what a single WRITE gets,
  items-go : {s u : K.Storage} {ws : List Write} {ns : List ℕ} (m : Model) → Mirrored K lengths s m → Singly K s ws ns u
      → (ns ≡ item_refusals lengths m ws) × Mirrored K lengths u (after_items lengths m ws)
  unfolding item_refusals after_items number_in
  items-go m q stop = (refl, q)
  items-go m q (next {s = s} {t = t} {q = w} {a = n} h rest) =
      let k : ℕ = plain_refusal lengths m.plain (ON (write_of w)) in
      let one : Goes t (ON (write_of w)) (outcome n) m k = by_number s t (ON (write_of w)) (outcome n) m q h k refl (act-goes s t (write_of w) (outcome n) m q h.lengths) in
      let later = items-go (act_step k m (write_of w)) (subst (λ (x : Model). Mirrored K lengths t x) (act-steps lengths k m (write_of w)) one.1) rest in
      (ap₂ (λ (x : ℕ) (xs : List ℕ). x ∷ xs) (ap number_in (one.0 ∙ write-answer lengths k m w)) later.0, later.1)

  -- and any accepted call.
  goes : (s t : K.Storage) (c : Call) (a : Answer) (m : Model) (q : Mirrored K lengths s m) → K.lengths t ≡ K.lengths s
      → plain_refusal lengths m.plain c ≡ 0 → Accepted K c s a t → Goes t c a m 0
  unfolding model_answer model_step
  goes s t (RESET asked) a m q h r f = (f.answer, starts (h ∙ q.lent) f)
  goes s t CHECK a m q h r f = (f.answer ∙ ap (verdict 0) (f.always q.well), subst (λ x. Mirrored K lengths x m) (sym f.kept) q)
  goes s t (ON c) a m q h r f = act-goes s t c a m q h r f
  goes s t (WRITE_BLOCK items list) a m q h r f =
      let all = items-go m q f.singly in
      (f.answer ∙ ap (λ (ns : List ℕ). filling 0 (filled ns list)) all.0, all.1)

  answers : (s t : K.Storage) (c : Call) (a : Answer) (m : Model) (q : Mirrored K lengths s m) → Promise K c s a t
      → Goes t c a m (plain_refusal lengths m.plain c)
  answers s t c a m q h = by_number s t c a m q h (plain_refusal lengths m.plain c) refl (goes s t c a m q h.lengths)

  -- A list of calls on a storage that the model mirrors.
  pub run-answers : {s u : K.Storage} {cs : List Call} {given : List Answer} (m : Model) → Mirrored K lengths s m → Run K s cs given u
      → given ≡ answers_from lengths m cs
  unfolding answers_from
  run-answers m q stop = refl
  run-answers m q (next {s = s} {t = t} {q = c} {a = a} h rest) =
      let one = answers s t c a m q h in
      ap₂ (λ x xs. x ∷ xs) one.0 (run-answers (model_step lengths (plain_refusal lengths m.plain c) m c) one.1 rest)

  -- Each storage on the way is well-formed.
  pub run-well : {s u : K.Storage} {cs : List Call} {given : List Answer} (m : Model) → Mirrored K lengths s m → Run K s cs given u
      → K.Well u
  run-well m q stop = q.well
  run-well m q (next {s = s} {t = t} {q = c} {a = a} h rest) =
      run-well (model_step lengths (plain_refusal lengths m.plain c) m c) (answers s t c a m q h).1 rest

-- an accepted RESET's answer says 0, so the chain refused nothing
named-zero : (n : ℕ) (asked : Settings) → outcome 0 ≡ form_of (refused n (RESET asked)) → n ≡ 0
unfolding refused
named-zero n asked e = cc

reset-mirrors : (K : Kind) (law : Lawful K) (s t : K.Storage) (asked : Settings) → Promise K (RESET asked) s (outcome 0) t
    → Mirrored K (K.lengths s) t (fresh_model asked)
reset-mirrors K law s t asked h = starts K law (K.lengths s) h.lengths (h.accepted_call (named-zero _ asked h.number))

-- DEMAND 3 holds of every kind of storage whose well-formedness is lawful. Who meets the hypotheses: the crate `store` proves `Lawful`
-- of its storage and a Promise of each of its functions; Instance.antt does both for Figure 2 with Figure 3 itself.
pub demand-3 : (K : Kind) → Lawful K → Demand3 K
demand-3 K law s t u asked calls given h run =
    run-answers K law (K.lengths s) (fresh_model asked) (reset-mirrors K law s t asked h) run

-- "All storage reached from RESET meets it."
pub reached-well : (K : Kind) → Lawful K → (s t u : K.Storage) (asked : Settings) (calls : List Call) (given : List Answer)
    → Promise K (RESET asked) s (outcome 0) t → Run K t calls given u → K.Well u
reached-well K law s t u asked calls given h run =
    run-well K law (K.lengths s) (fresh_model asked) (reset-mirrors K law s t asked h) run

-- "storage that meets it answers as some surviving history does."
pub answers-as-history : (K : Kind) → Lawful K → AnswersAsHistory K
answers-as-history K law s w =
    let f = law.figure s w in
    let p : Plain = drawn (K.registers s).settings (K.figure s) in
    let kept : Surviving p = drawn-survives (K.registers s).settings (K.figure s) f in
    let q : Mirrored K (K.lengths s) s (record { plain = p; cache = K.cache s }) =
    record {
      well = w;
      lent = refl;
      settings = sym (drawn-settings (K.registers s).settings (K.figure s));
      figure = sym (picture-drawn (K.registers s).settings (K.figure s) f);
      cache = refl;
      group = kept.some_group;
    }
    in
    (p, drawn-settings (K.registers s).settings (K.figure s), kept, λ u calls given run. run-answers K law (K.lengths s) (record { plain = p; cache = K.cache s }) q run)
