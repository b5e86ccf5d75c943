-- A block of writes (request 2.1): how its promise is made, what its items get, and that it is what single WRITEs are. Assumes nothing.
use mathlib.Core.Path.{◌≡◌, refl, sym, ◌∙◌, ap, ap₂, subst}
use mathlib.Core.Logic.{◌≢◌}
use mathlib.Core.Bool.{Bool, not}
use mathlib.Core.List.{List, [], ◌∷◌, ◌++◌, map}
use Prim.Native.Nat.{ℕ, zero, suc}
use native.Mathlib.Nat.{suc-ne-zero}
use native.Mathlib.Omega.{arith}
use lib.ListN.{length}
use Rattle.rules.specs.Settings.{Settings, Pieces, elements}
use Rattle.rules.specs.Call.{Write, Act, Call, Answer, write_of, filled, number_in, refused}
use Rattle.rules.specs.Call.Answer.{outcome, reading, lending, counting, verdict, filling}
use Rattle.rules.specs.Call.Call.{ON, WRITE_BLOCK}
use Rattle.rules.specs.Seen.{accepted}
use Rattle.rules.specs.Registers.{Registers}
use Rattle.rules.specs.Refusal.{facts_by, unless, state_refusal, place_refusal, write_refusal, list_refusal, act_refusal, refusal}
use Rattle.rules.specs.Figure2.{registers_step}
use Rattle.rules.specs.Plain.{Model, plain_refusal, act_step, item_refusals, after_items, model_answer, model_step, answers_from}
use Rattle.rules.specs.Promise.{form_of, RunBy, Kind, Promise, Run, Singly, facts_of, settings_for}
use Rattle.rules.specs.Promise.RunBy.{stop, next}
use Rattle.rules.proofs.Chain.{state-passed, state-lets-in, unless_not}
use Rattle.rules.proofs.Promise.{accept}

-- One request more at the end of a run, and the same run by another step that each step gives.
pub run_more : {S Q A : Type 0} {Step : S → Q → A → S → Type 0} {s t u : S} {qs : List Q} {answers : List A} {q : Q} {a : A} → RunBy Step s qs answers t
    → Step t q a u → RunBy Step s (qs ++ (q ∷ [])) (answers ++ (a ∷ [])) u
run_more stop h = next h stop
run_more (next g rest) h = next g (run_more rest h)

pub run_by : {S Q A : Type 0} {Step Other : S → Q → A → S → Type 0} → ((s : S) (q : Q) (a : A) (t : S) → Step s q a t → Other s q a t)
    → {s t : S} {qs : List Q} {answers : List A} → RunBy Step s qs answers t → RunBy Other s qs answers t
run_by f stop = stop
run_by f (next h rest) = next (f _ _ _ _ h) (run_by f rest)

-- An answer that has a WRITE's form.
pub outcome-form : (a : Answer) (n : ℕ) → form_of a ≡ outcome n → a ≡ outcome n
outcome-form (outcome m) n e = e
outcome-form (reading m v o) n e = let z : ◌≡◌ {A = ℕ} 0 1 = cc in absurd (omega arith)
outcome-form (lending x) n e = let z : ◌≡◌ {A = ℕ} 0 1 = cc in absurd (omega arith)
outcome-form (counting m l p) n e = let z : ◌≡◌ {A = ℕ} 0 1 = cc in absurd (omega arith)
outcome-form (verdict m b) n e = let z : ◌≡◌ {A = ℕ} 0 1 = cc in absurd (omega arith)
outcome-form (filling m left) n e = let z : ◌≡◌ {A = ℕ} 0 1 = cc in absurd (omega arith)

-- An item's refusal or 0: 7 to 10, or 13 where the storage was found to lack a page; never 5, 6 or 14.
pub record ItemRefusal (s : Settings) (w : Write) (n : ℕ) : Type 0 where
  pub lacking : Bool
  pub number : n ≡ write_refusal s w.width w.address w.value (unless (not lacking) 13 0)
  pub never : (n ≢ 5) × (n ≢ 6) × (n ≢ 14)

abbrev pub ItemsRefusals : Settings → List Write → List ℕ → Type 0
ItemsRefusals s [] [] = Unit {0}
ItemsRefusals s [] (n ∷ ns) = ⊥
ItemsRefusals s (w ∷ ws) [] = ⊥
ItemsRefusals s (w ∷ ws) (n ∷ ns) = ItemRefusal s w n × ItemsRefusals s ws ns

item-refusal : (s : Settings) (w : Write) (n : ℕ) (lacking : Bool) → n ≡ write_refusal s w.width w.address w.value (unless (not lacking) 13 0)
    → ItemRefusal s w n
unfolding write_refusal place_refusal
item-refusal s w n lacking e =
    record { lacking = lacking; number = e; never = (never 5 (omega arith), never 6 (omega arith), never 14 (omega arith)) }
  where
    never : (k : ℕ) → (k ≢ 0) × (k ≢ 7) × (k ≢ 8) × (k ≢ 9) × (k ≢ 10) × (k ≢ 13) → n ≢ k
    never k d is =
        unless_not k _ 7 _ (λ z. omega (arith, d)) (unless_not k _ 8 _ (λ z. omega (arith, d)) (unless_not k _ 9 _ (λ z. omega (arith, d))
        (unless_not k _ 10 _ (λ z. omega (arith, d)) (unless_not k _ 13 0 (λ z. omega (arith, d)) (λ z. omega (arith, d)))))) (sym e ∙ is)

-- The single WRITEs of a block's items, and their answers.
abbrev pub singles : List Write → List Call
singles ws = map (λ w. ON (write_of w)) ws

abbrev pub outcomes : List ℕ → List Answer
outcomes ns = map outcome ns

module _ (K : Kind) where
  -- Whatever the storage, a WRITE leaves the registers,
  pub write-registers : (s t : K.Storage) (w : Write) (a : Answer) → Promise K (ON (write_of w)) s a t → K.registers t ≡ K.registers s
  unfolding registers_step
  write-registers s t w a h = go (refusal (facts_of K s) h.lacking (ON (write_of w))) refl
    where
      go : (n : ℕ) → refusal (facts_of K s) h.lacking (ON (write_of w)) ≡ n → K.registers t ≡ K.registers s
      go zero e = (h.accepted_call e).registers
      go (suc n) e = ap K.registers (h.refused_kept (λ z. suc-ne-zero n (sym e ∙ z)))

  -- and says its refusal.
  write-number : (s t : K.Storage) (w : Write) (n : ℕ) (h : Promise K (ON (write_of w)) s (outcome n) t)
      → n ≡ refusal (facts_of K s) h.lacking (ON (write_of w))
  unfolding refused number_in
  write-number s t w n h = ap number_in h.number

  -- So do all items: lengths and what lies past the need stay.
  items-lengths : {s t : K.Storage} {ws : List Write} {ns : List ℕ} → Singly K s ws ns t → K.lengths t ≡ K.lengths s
  items-lengths stop = refl
  items-lengths (next h rest) = items-lengths rest ∙ h.lengths

  items-past : {s t : K.Storage} {ws : List Write} {ns : List ℕ} (need : Settings) → need ≡ (K.registers s).settings → Singly K s ws ns t
      → K.past (elements need) t ≡ K.past (elements need) s
  unfolding settings_for
  items-past need e stop = refl
  items-past need e (next {s = s} {t = t} {q = w} h rest) =
      items-past need (e ∙ sym (ap (λ (r : Registers). r.settings) (write-registers s t w _ h))) rest
      ∙ subst (λ (x : Settings). K.past (elements x) t ≡ K.past (elements x) s) (sym e) h.past

  -- The promise of an accepted block of writes, from its items'.
  pub write-block-accept : (s t : K.Storage) (items : List Write) (list ns : List ℕ) (lacking : Act → Bool)
      → refusal (facts_of K s) lacking (WRITE_BLOCK items list) ≡ 0 → Singly K s items ns t → Promise K (WRITE_BLOCK items list) s (filling 0 (filled ns list)) t
  unfolding refusal refused settings_for
  write-block-accept s t items list ns lacking e run =
      accept K (WRITE_BLOCK items list) s lacking (λ w. refl) e refl (record { refusals = ns; singly = run; answer = refl }) (items-lengths run)
      (items-past (K.registers s).settings refl run)

  -- Past 5 and 6 each item gets what a WRITE gets behind them, on any storage.
  items-refusals : {s t : K.Storage} {ws : List Write} {ns : List ℕ} → state_refusal (facts_of K s) 0 ≡ 0 → Singly K s ws ns t
      → ItemsRefusals (K.registers s).settings ws ns
  unfolding refusal act_refusal facts_by
  items-refusals z stop = tt
  items-refusals z (next {s = s} {t = t} {q = w} {qs = ws} {a = n} {answers = ns} h rest) =
      let kept : K.registers t ≡ K.registers s = write-registers s t w _ h in
      let later : state_refusal (facts_of K t) 0 ≡ 0 = ap₂ (λ (r : Registers) (p : Pieces). state_refusal (facts_by r p) 0) kept h.lengths ∙ z in (
        item-refusal _ w n (h.lacking (write_of w)) (write-number s t w n h ∙ state-lets-in (facts_of K s) _ z),
        subst (λ (r : Registers). ItemsRefusals r.settings ws ns) kept (items-refusals later rest),
      )

  -- The items of a block are a run of single WRITEs,
  pub singly-run : {s t : K.Storage} {ws : List Write} {ns : List ℕ} → Singly K s ws ns t → Run K s (singles ws) (outcomes ns) t
  singly-run stop = stop
  singly-run (next h rest) = next h (singly-run rest)

  -- and a run of single WRITEs is the items of a block: nothing more is asked of it.
  pub run-singly : {s t : K.Storage} (ws : List Write) {given : List Answer} → Run K s (singles ws) given t
      → (ns : List ℕ) × (given ≡ outcomes ns) × Singly K s ws ns t
  unfolding refused
  run-singly [] stop = ([], refl, stop)
  run-singly {s = s} {t = u} (w ∷ ws) (next {t = t} {a = a} {answers = given} h rest) =
      let n : ℕ = refusal (facts_of K s) h.lacking (ON (write_of w)) in
      let is : a ≡ outcome n = outcome-form a n h.number in
      let later = run-singly {s = t} {t = u} ws rest in
      (n ∷ later.0, ap₂ (λ (x : Answer) (xs : List Answer). x ∷ xs) is later.1, next (subst (λ (x : Answer). Promise K (ON (write_of w)) s x t) is h) later.2)

  -- All that an accepted block of writes is, on any storage.
  pub record WrittenSingly (items : List Write) (list left : List ℕ) (s t : K.Storage) : Type 0 where
    pub refusals : List ℕ
    pub left_is : left ≡ filled refusals list
    pub run : Run K s (singles items) (outcomes refusals) t
    pub each : ItemsRefusals (K.registers s).settings items refusals

  pub written-singly : (s t : K.Storage) (items : List Write) (list left : List ℕ) → Promise K (WRITE_BLOCK items list) s (filling 0 left) t
      → WrittenSingly items list left s t
  unfolding refusal refused number_in
  written-singly s t items list left h =
      let z : state_refusal (facts_of K s) (list_refusal (length items) (length list)) ≡ 0 = sym (ap number_in h.number) in
      let d = h.accepted_call z in
      let in-0 : state_refusal (facts_of K s) 0 ≡ 0 = ap (state_refusal (facts_of K s)) (sym (state-passed (facts_of K s) _ z)) ∙ z in
      record { refusals = d.refusals; left_is = same_left d.answer; run = singly-run d.singly; each = items-refusals in-0 d.singly }
    where
      same_left : {xs ys : List ℕ} → filling 0 xs ≡ filling 0 ys → xs ≡ ys
      same_left e = cc

-- A single WRITE in the plain store: its answer is its number, and what it leaves is its act's step.
pub write-answer : (lengths : Pieces) (n : ℕ) (m : Model) (w : Write) → model_answer lengths n m (ON (write_of w)) ≡ outcome n
unfolding model_answer accepted refused
write-answer lengths zero m w = refl
write-answer lengths (suc n) m w = refl

pub act-steps : (lengths : Pieces) (n : ℕ) (m : Model) (c : Act) → model_step lengths n m (ON c) ≡ act_step n m c
unfolding model_step act_step
act-steps lengths zero m c = refl
act-steps lengths (suc n) m c = refl

-- The plain store too: sent singly, each item gets the refusal that the block has for it, and every later answer is the one after the block.
pub sent-singly : (lengths : Pieces) (m : Model) (ws : List Write) (cs : List Call)
    → answers_from lengths m (singles ws ++ cs) ≡ outcomes (item_refusals lengths m ws) ++ answers_from lengths (after_items lengths m ws) cs
unfolding answers_from item_refusals after_items
sent-singly lengths m [] cs = refl
sent-singly lengths m (w ∷ ws) cs =
    let n : ℕ = plain_refusal lengths m.plain (ON (write_of w)) in
    ap₂ (λ (x : Answer) (xs : List Answer). x ∷ xs) (write-answer lengths n m w)
    (ap (λ (x : Model). answers_from lengths x (singles ws ++ cs)) (act-steps lengths n m (write_of w)) ∙ sent-singly lengths (act_step n m (write_of w)) ws cs)
