-- An instance: the storage is Figure 2 with Figure 3 itself, beside the lent lengths. All calls, a block of writes too, keep their promise on every such
-- storage, accepted and refused, on what CHECK passes and on what it rejects, so no clause of the promise is one that nobody can meet.
-- Assumes nothing.
use mathlib.Core.Path.{◌≡◌, refl, sym, ◌∙◌, ap, ap₂, subst}
use mathlib.Core.Logic.{◌⊎◌, inl, inr}
use mathlib.Core.Bool.{Bool, true, false, not, ◌&&◌}
use mathlib.Core.List.{List, [], ◌∷◌}
use Prim.Native.Nat.{ℕ, zero, suc, ◌+◌, ◌-◌, ◌≤◌, ◌<◌}
use native.Mathlib.Nat.{suc-ne-zero, mod-lt}
use native.Mathlib.Omega.{arith}
use borrow.Author.Tests.{ltb-true, leb-false, not-true}
use lib.Dec.{leb}
use Rattle.rules.specs.Settings.{Settings, Pieces, within}
use Rattle.rules.specs.Sizing as sizing
use Rattle.rules.specs.Line.{line_of}
use Rattle.rules.specs.Call.{Write, Act, Call, Answer, write_of, filled, refused}
use Rattle.rules.specs.Call.Answer.{outcome, verdict, filling}
use Rattle.rules.specs.Call.Change.{WRITE, MARK, ROLLBACK, ADVANCE}
use Rattle.rules.specs.Call.Act.{READ, LOOK, CHANGE}
use Rattle.rules.specs.Call.Call.{RESET, CHECK, ON, WRITE_BLOCK}
use Rattle.rules.specs.Seen.{accepted}
use Rattle.rules.specs.Registers.{Registers, live_frames, state_fits, at_start}
use Rattle.rules.specs.Refusal.{refusal, act_refusal, lacks, asked_refusal, facts_by}
use Rattle.rules.specs.Figure3.{Cache, WellCache, empty_cache, holds, cache_step}
use Rattle.rules.specs.Figure2.{Figure, initial, figure_step, figure_seen, registers_step}
use Rattle.rules.specs.Plain.{Each}
use Rattle.rules.specs.Promise.{Kind, Lawful, WellFigure, Promise, Run, Stepped, Accepted, Singly, seen_of, facts_of}
use Rattle.rules.specs.Promise.RunBy.{stop, next}
use Rattle.rules.specs.Cases.{Row, rows, ample, played}
use Rattle.rules.proofs.Chain.{passed, state-passed, marked-passed, place-passed, write-passed, Placed}
use Rattle.rules.proofs.Settings.{within-good}
use Rattle.rules.proofs.Width.{line_below}
use Rattle.rules.proofs.Registers.{Fits, fits-facts, facts-fit, live-start, live-mark, live-rollback, live-advance}
use Rattle.rules.proofs.WellSteps.{initial-well, mark-well, rollback-well, advance-well, write-well}
use Rattle.rules.proofs.WellCache.{empty-well, use-well, forget-well}
use Rattle.rules.proofs.Promise.{refuse, accept, accepted-form}
use Rattle.rules.proofs.WriteBlock.{outcome-form, write-block-accept}
use Rattle.rules.proofs.Demand3.{demand-3}
use Rattle.rules.proofs.Cases.{each-case, each-reset}

-- Both figures with their registers.
pub record Figures : Type 0 where
  pub registers : Registers
  pub figure : Figure
  pub cache : Cache

abbrev settings_of : Figures → Settings
settings_of x = x.registers.settings

pub record WellFigures (x : Figures) : Type 0 where
  pub fits : state_fits x.registers ≡ true
  pub live : live_frames x.registers ≡ x.figure.live
  pub figure : WellFigure (settings_of x) x.figure
  pub cache : WellCache (settings_of x) x.cache

-- The storage. beyond stands for what lies past the need; intact is what CHECK says, and may be false of any figures.
pub record Chip : Type 0 where
  pub figures : Figures
  pub lengths : Pieces
  pub beyond : ℕ
  pub intact : Bool
  pub sound : intact ≡ true → WellFigures figures

abbrev pub chip : Kind
chip =
    record {
      Storage = Chip;
      registers = λ s. s.figures.registers;
      lengths = λ s. s.lengths;
      Rest = ℕ;
      past = λ n s. s.beyond;
      Well = λ s. s.intact ≡ true;
      figure = λ s. s.figures.figure;
      cache = λ s. s.figures.cache;
    }

pub lawful : Lawful chip
lawful =
    record {
      fits = λ s w. (s.sound w).fits;
      live = λ s w. (s.sound w).live;
      figure = λ s w. (s.sound w).figure;
      cache = λ s w. (s.sound w).cache;
    }

-- The figures after an accepted act.
moved : Act → Figures → Figures
moved c x =
    record {
      registers = registers_step c x.registers x.figure;
      figure = figure_step c x.registers x.figure;
      cache = cache_step (figure_seen (settings_of x) x.figure) c x.cache;
    }

-- 13 does not apply: the page is needed already, or there is one left
page-free : (b : Bool) (pages most : ℕ) → (not b && leb most pages) ≡ false → (b ≡ true) ⊎ (pages < most)
page-free true pages most e = inl refl
page-free false pages most e = inr (leb-false most pages e)

-- The registers tell the live frames that Figure 2 has, and all stays well-formed.
module _ (x : Figures) (q : WellFigures x) where
  abbrev s : Settings
  s = settings_of x

  state : Fits x.registers
  state = fits-facts x.registers q.fits

  frames-some : 0 < s.frames
  frames-some = omega (arith, state.cmf_below)

  at_most : (k : ℕ) → k ≤ live_frames x.registers - 1 → k ≤ x.figure.live - 1
  at_most k h = omega (arith, q.live)

  read-moves : (w a : ℕ) → Placed s w a → WellFigures (moved (READ w a) x)
  unfolding moved figure_step registers_step cache_step
  read-moves w a p =
      record { fits = q.fits; live = q.live; figure = q.figure; cache = use-well s (line_of a) x.cache (line_below p) q.cache }

  write_moves : (w a v : ℕ) → Placed s w a → lacks s (figure_seen s x.figure) (CHANGE (WRITE w a v)) ≡ false
      → WellFigures (moved (CHANGE (WRITE w a v)) x)
  unfolding moved figure_step registers_step cache_step lacks figure_seen
  write_moves w a v p free =
      record {
        fits = q.fits;
        live = q.live;
        figure = write-well s x.registers x.figure q.figure w a v p (page-free _ _ _ free);
        cache = use-well s (line_of a) x.cache (line_below p) q.cache;
      }

  mark-moves : live_frames x.registers < s.frames → WellFigures (moved (CHANGE MARK) x)
  unfolding moved figure_step registers_step cache_step
  mark-moves h =
      record {
        fits =
            facts-fit _
            (record { limits = state.limits; cmf_below = mod-lt (x.registers.cmf + 1) frames-some; omf_below = state.omf_below });
        live = live-mark x.registers state h ∙ ap (λ (n : ℕ). n + 1) q.live;
        figure = mark-well s x.registers x.figure q.figure (omega (arith, q.live));
        cache = q.cache;
      }

  rollback-moves : (k : ℕ) → k ≤ live_frames x.registers - 1 → WellFigures (moved (CHANGE (ROLLBACK k)) x)
  unfolding moved figure_step registers_step cache_step
  rollback-moves k h =
      record {
        fits =
            facts-fit _
            (record { limits = state.limits; cmf_below = mod-lt (x.registers.cmf + s.frames - k) frames-some; omf_below = state.omf_below });
        live = live-rollback x.registers state k h ∙ ap (λ (n : ℕ). n - k) q.live;
        figure = rollback-well s x.registers x.figure q.figure k (at_most k h);
        cache = forget-well s _ x.cache q.cache;
      }

  advance-moves : (k : ℕ) → k ≤ live_frames x.registers - 1 → WellFigures (moved (CHANGE (ADVANCE k)) x)
  unfolding moved figure_step registers_step cache_step
  advance-moves k h =
      record {
        fits =
            facts-fit _
            (record { limits = state.limits; cmf_below = state.cmf_below; omf_below = mod-lt (x.registers.omf + k) frames-some });
        live = live-advance x.registers state k h ∙ ap (λ (n : ℕ). n - k) q.live;
        figure = advance-well s x.registers x.figure q.figure k (at_most k h);
        cache = q.cache;
      }

-- What a call gives and leaves, with its promise.
abbrev Performed : Call → Chip → Type 0
Performed c s = (a : Answer) × (t : Chip) × Promise chip c s a t

module _ (s : Chip) where
  lacking : Act → Bool
  lacking = lacks (settings_of s.figures) (seen_of chip s)

  number : Call → ℕ
  number c = refusal (facts_of chip s) lacking c

  exactly : (c : Call) → chip.Well s → refusal (facts_of chip s) lacking c ≡ refusal (facts_of chip s) (lacks (settings_of s.figures) (seen_of chip s)) c
  unfolding lacking
  exactly c w = refl

  reply : Act → Answer
  reply c = accepted (seen_of chip s) (holds s.figures.cache) c

  -- an act that moves the figures
  goes : (c : Act) → number (ON c) ≡ 0 → (s.intact ≡ true → WellFigures (moved c s.figures))
      → ((a : Answer) (t : Chip) → Stepped chip c s a t → Accepted chip (ON c) s a t) → Performed (ON c) s
  unfolding number reply moved seen_of
  goes c e m done =
      let t : Chip =
      record {
        figures = moved c s.figures;
        lengths = s.lengths;
        beyond = s.beyond;
        intact = s.intact;
        sound = m;
      }
      in (
        reply c,
        t,
        accept chip (ON c) s lacking (exactly (ON c)) e (accepted-form _ _ c)
            (done (reply c) t
            (record { registers = refl; followed = λ w. record { answer = refl; well = w; figure = refl; cache = refl } }))
            refl refl,
      )

  -- RESET, on any storage
  begun : Settings → Figures
  begun asked = record { registers = at_start asked; figure = initial; cache = empty_cache }

  begun-well : (asked : Settings) → within asked ≡ true → WellFigures (begun asked)
  unfolding begun at_start initial
  begun-well asked h =
      let g = within-good asked h in
      let some : 0 < asked.frames = omega (arith, g.frames_from) in
      record {
        fits = facts-fit (at_start asked) (record { limits = h; cmf_below = some; omf_below = some });
        live = live-start asked some;
        figure = initial-well asked g;
        cache = empty-well asked;
      }

  starts : (asked : Settings) → number (RESET asked) ≡ 0 → Performed (RESET asked) s
  unfolding number begun refusal asked_refusal refused
  starts asked e =
      let h = (passed (within asked) 4 _ (omega arith) e).0 in (
        outcome 0,
        record { figures = begun asked; lengths = s.lengths; beyond = s.beyond; intact = true; sound = λ i. begun-well asked h },
        accept chip (RESET asked) s lacking (exactly (RESET asked)) e refl
            (record {
              answer = refl;
              well = refl;
              registers = refl;
              figure = refl;
              cache = refl;
            })
            refl refl,
      )

  checks : number CHECK ≡ 0 → Performed CHECK s
  unfolding number refused
  checks e = (
    verdict 0 s.intact,
    s,
    accept chip CHECK s lacking (exactly CHECK) e refl
        (record { kept = refl; says = s.intact; answer = refl; only = λ h. h; always = λ h. h }) refl refl,
  )

  -- An accepted act,
  accepts : (c : Act) → number (ON c) ≡ 0 → Performed (ON c) s
  unfolding number lacking refusal act_refusal facts_by seen_of reply
  accepts (READ w a) e =
      goes (READ w a) e (λ i. read-moves s.figures (s.sound i) w a (place-passed (settings_of s.figures) w a 0 (state-passed _ _ e)).0)
      (λ a t h. h)
  accepts (LOOK q) e = (
    reply (LOOK q),
    s,
    accept chip (ON (LOOK q)) s lacking (exactly (ON (LOOK q))) e (accepted-form _ _ (LOOK q))
        (record { kept = refl; answer = λ w. refl }) refl refl,
  )
  accepts (CHANGE (WRITE w a v)) e =
      let p = write-passed (settings_of s.figures) w a v _ (state-passed _ _ e) in
      goes (CHANGE (WRITE w a v)) e
      (λ i. write_moves s.figures (s.sound i) w a v p.0 (not-true _ (passed _ 13 0 (omega arith) p.2).0)) (λ a t h. h)
  accepts (CHANGE MARK) e =
      goes (CHANGE MARK) e
      (λ i. mark-moves s.figures (s.sound i) (ltb-true _ _ (passed _ 12 0 (omega arith) (state-passed _ _ e)).0)) (λ a t h. h)
  accepts (CHANGE (ROLLBACK k)) e =
      goes (CHANGE (ROLLBACK k)) e (λ i. rollback-moves s.figures (s.sound i) k (marked-passed _ k (state-passed _ _ e)).1) (λ a t h. h)
  accepts (CHANGE (ADVANCE k)) e =
      goes (CHANGE (ADVANCE k)) e (λ i. advance-moves s.figures (s.sound i) k (marked-passed _ k (state-passed _ _ e)).1) (λ a t h. h)

  -- and a call, which may be refused.
  decide : (c : Call) (n : ℕ) → number c ≡ n → (number c ≡ 0 → Performed c s) → Performed c s
  unfolding number
  decide c zero e done = done e
  decide c (suc n) e done =
      (refused (number c) c, s, refuse chip c s lacking (exactly c) (λ z. suc-ne-zero n (sym e ∙ z)))

-- A block's items: single WRITEs, each of which answers with its refusal or 0.
Done : List Write → Chip → Type 0
Done ws s = (ns : List ℕ) × (t : Chip) × Singly chip s ws ns t

one-item : (w : Write) (s : Chip) → (n : ℕ) × (t : Chip) × Promise chip (ON (write_of w)) s (outcome n) t
unfolding refused
one-item w s =
    let p : Performed (ON (write_of w)) s = decide s (ON (write_of w)) (number s (ON (write_of w))) refl (accepts s (write_of w)) in
    let n : ℕ = refusal (facts_of chip s) p.2.lacking (ON (write_of w)) in
    (n, p.1, subst (λ (a : Answer). Promise chip (ON (write_of w)) s a p.1) (outcome-form p.0 n p.2.number) p.2)

items-done : (ws : List Write) (s : Chip) → Done ws s
unfolding Done
items-done [] s = ([], s, stop)
items-done (w ∷ ws) s =
    let one = one-item w s in
    let rest = items-done ws one.1 in
    (one.0 ∷ rest.0, rest.1, next one.2 rest.2)

accepts-call : (c : Call) (s : Chip) → number s c ≡ 0 → Performed c s
unfolding number Done
accepts-call (RESET asked) s e = starts s asked e
accepts-call CHECK s e = checks s e
accepts-call (ON c) s e = accepts s c e
accepts-call (WRITE_BLOCK items list) s e =
    let d = items-done items s in
    (filling 0 (filled d.0 list), d.1, write-block-accept chip s d.1 items list d.0 (lacking s) e d.2)

-- Every call on every storage has an answer and a storage after it that keep the promise.
pub perform : (c : Call) (s : Chip) → Performed c s
perform c s = decide s c (number s c) refl (accepts-call c s)

-- Every list of calls is a run.
pub runs : (calls : List Call) (s : Chip) → (given : List Answer) × (u : Chip) × Run chip s calls given u
runs [] s = ([], s, stop)
runs (c ∷ cs) s =
    let one = perform c s in
    let rest = runs cs one.1 in
    (one.0 ∷ rest.0, rest.1, next one.2 rest.2)

-- The blank state, "with L = 0", in lent memory that is long enough: where a session stands before its first reset.
pub blank : Chip
blank =
    record {
      figures = record { registers = at_start (sizing.settings_of 0 0 0); figure = initial; cache = empty_cache };
      lengths = ample;
      beyond = 0;
      intact = false;
      sound = λ e. absurd (mathlib.Core.Bool.false≢true e);
    }

-- A reset of the blank state and the calls after it get the plain store's answers, by demand 3.
run_row : (r : Row) → asked_refusal ample r.asked ≡ 0 → played r ≡ r → (u : Chip) × Run chip blank (RESET r.asked ∷ r.calls) r.answers u
unfolding blank starts number refusal facts_by played
run_row r z e =
    let first : Performed (RESET r.asked) blank = starts blank r.asked z in
    let rest = runs r.calls first.1 in
    let same = demand-3 chip lawful blank first.1 rest.1 r.asked r.calls rest.0 first.2 rest.2 in
    let given : outcome 0 ∷ rest.0 ≡ r.answers =
    ap₂ (λ n xs. outcome n ∷ xs) (sym z) same ∙ ap (λ x. x.answers) e
    in
    (rest.1, subst (λ xs. Run chip blank (RESET r.asked ∷ r.calls) xs rest.1) given (next first.2 rest.2))

each-run : (rs : List Row) → Each (λ r. asked_refusal ample r.asked ≡ 0) rs → Each (λ r. played r ≡ r) rs
    → Each (λ r. (u : Chip) × Run chip blank (RESET r.asked ∷ r.calls) r.answers u) rs
each-run [] z e = tt
each-run (r ∷ rs) z e = (run_row r z.0 e.0, each-run rs z.1 e.1)

-- Each row of the table, document 01's whole session among them, is a run of the instance.
pub table_runs : Each (λ r. (u : Chip) × Run chip blank (RESET r.asked ∷ r.calls) r.answers u) rows
table_runs = each-run rows each-reset each-case
