-- Each accepted call of the plain store is Figure 2's step of its picture. Assumes nothing.
use mathlib.Core.Path.{◌≡◌, refl, sym, ◌∙◌, ap, ap₂, fun_ext}
use mathlib.Core.Bool.{Bool, true, false, cond, ◌||◌}
use mathlib.Core.Option.{Option, none, some, get_or}
use mathlib.Core.List.{List, [], ◌∷◌}
use Prim.Native.Nat.{ℕ, zero, suc, ◌+◌, ◌-◌, ◌≤◌, ◌<◌}
use native.Mathlib.Nat.{zero-lt-suc}
use native.Mathlib.Numerals.{add-one}
use native.Mathlib.Omega.{arith}
use lib.Dec.{eqb, ltb, leb-suc-zero, leb-suc-suc}
use lib.ListN.{length, take, drop, length-take, length-drop}
use lib.Seq.{get_or-drop, drop-drop}
use borrow.Author.Tests.{lt-ltb}
use Rattle.rules.specs.Settings.{Settings}
use Rattle.rules.specs.Line.{Line, Memory, edit, line_of, offset_of, zeros}
use Rattle.rules.specs.Call.{Act}
use Rattle.rules.specs.Call.Change.{WRITE, MARK, ROLLBACK, ADVANCE}
use Rattle.rules.specs.Call.Act.{READ, LOOK, CHANGE}
use Rattle.rules.specs.Refusal.{Facts, act_refusal}
use Rattle.rules.specs.Seen.{any}
use Rattle.rules.specs.Call.{Write}
use Rattle.rules.specs.Plain.{Group, Plain, with_groups, play, play_group, play_all, touches, touched_in, add_write, fresh, plain_step}
use Rattle.rules.specs.Registers.{Registers}
use Rattle.rules.specs.Figure2.{with_frames, is_written, version_in, mrv, omrv, has_omrv, initial, written, marked, figure_step, registers_step}
use Rattle.rules.proofs.Chain.{marked-passed}
use Rattle.rules.proofs.Picture.{frame_in, picture, touched-any, version-is, get_or-cond}

cond_same : {A : Type 0} (b : Bool) (x : A) → cond b x x ≡ x
cond_same true x = refl
cond_same false x = refl

-- the picture of what is left after dropping groups is the picture from that frame on
frame-drop : (k : ℕ) (gs : List Group) (base : Memory) (j l : ℕ) → frame_in (drop k gs) base j l ≡ frame_in gs base (k + j) l
unfolding frame_in
frame-drop k gs base j l =
    ap₂ (λ (g : Group) (hs : List Group). cond (touches g l) (some (play_all hs base l)) none) (get_or-drop k gs j []) (drop-drop j k gs)

play-split : (m : ℕ) (gs : List Group) (base : Memory) → play_all (take m gs) (play_all (drop m gs) base) ≡ play_all gs base
unfolding play_all
play-split zero gs base = refl
play-split (suc m) [] base = refl
play-split (suc m) (g ∷ gs) base = ap (play_group g) (play-split m gs base)

-- the picture after the groups from m on were played onto the base
frame-take : (m : ℕ) (gs : List Group) (base : Memory) (j l : ℕ)
    → frame_in (take m gs) (play_all (drop m gs) base) j l ≡ cond (ltb j m) (frame_in gs base j l) none
unfolding frame_in touches play_all
frame-take zero gs base j l = sym (ap (λ (b : Bool). cond b (frame_in gs base j l) none) (leb-suc-zero j))
frame-take (suc m) [] base j l = sym (cond_same (ltb j (suc m)) none)
frame-take (suc m) (g ∷ gs) base zero l =
    ap (λ (n : Memory). cond (touches g l) (some (play_group g n l)) none) (play-split m gs base)
    ∙ sym (ap (λ (b : Bool). cond b (frame_in (g ∷ gs) base zero l) none) (lt-ltb 0 (suc m) (zero-lt-suc m)))
frame-take (suc m) (g ∷ gs) base (suc j) l =
    frame-take m gs base j l ∙ sym (ap (λ (b : Bool). cond b (frame_in gs base j l) none) (leb-suc-suc (suc j) m))

-- the line that WRITE works on is the most recent version
copied_is : (g : Group) (gs : List Group) (base : Memory) (l : ℕ)
    → get_or (frame_in (g ∷ gs) base 0 l) (version_in (length (g ∷ gs)) (λ j. frame_in (g ∷ gs) base j l) (base l)) ≡ play_all (g ∷ gs) base l
unfolding frame_in
copied_is g gs base l =
    get_or-cond (touches g l) _ _
    ∙ (ap (cond (touches g l) (play_all (g ∷ gs) base l)) (version-is (g ∷ gs) base l) ∙ cond_same (touches g l) (play_all (g ∷ gs) base l))

pub fresh-is : (s : Settings) → picture (fresh s) ≡ initial
unfolding picture fresh initial frame_in touches
fresh-is s = λ i. record { live = 1; frame = λ j l. never j l i; archive = λ l. zeros; collected = λ l. false }
  where
    never : (j l : ℕ) → frame_in ([] ∷ []) (λ l. zeros) j l ≡ none
    never zero l = refl
    never (suc j) l = refl

added : (w : Write) (gs : List Group) → length (add_write w gs) ≡ length gs
unfolding add_write
added w [] = refl
added w (g ∷ gs) = refl

module _ (r : Registers) (p : Plain) where
  abbrev base : Memory
  base = p.base

  holding : List Group → Plain
  holding gs = with_groups gs p

  written_is : (w a v : ℕ) (g : Group) (gs : List Group) (j l : ℕ)
      → frame_in (add_write (record { width = w; address = a; value = v }) (g ∷ gs)) base j l ≡ written w a v (picture (holding (g ∷ gs))) j l
  unfolding frame_in add_write written picture mrv touches play_all play_group play holding
  written_is w a v g gs zero l = go (eqb (line_of a) l) (copied_is g gs base l)
    where
      go : (b : Bool)
          → get_or (frame_in (g ∷ gs) base 0 l) (version_in (length (g ∷ gs)) (λ j. frame_in (g ∷ gs) base j l) (base l)) ≡ play_all (g ∷ gs) base l
          → cond (b || touches g l)
          (some (cond b (edit w (offset_of a) v (play_group g (play_all gs base) l)) (play_group g (play_all gs base) l))) none
          ≡ cond b (some (edit w (offset_of a) v (get_or (frame_in (g ∷ gs) base 0 l) (mrv (picture (holding (g ∷ gs))) l)))) (frame_in (g ∷ gs) base 0 l)
      go true e = ap (λ (x : Line). some (edit w (offset_of a) v x)) (sym e)
      go false e = refl
  written_is w a v g gs (suc j) l = refl

  write_step : (w a v : ℕ) (gs : List Group) → 0 < length gs
      → picture (plain_step (CHANGE (WRITE w a v)) (holding gs)) ≡ figure_step (CHANGE (WRITE w a v)) r (picture (holding gs))
  unfolding plain_step figure_step holding picture add_write
  write_step w a v [] h = absurd (omega arith)
  write_step w a v (g ∷ gs) h = λ i. with_frames (suc (length gs)) (λ j l. written_is w a v g gs j l i) (picture (holding (g ∷ gs)))

  marked-is : (gs : List Group) (j l : ℕ) → frame_in ([] ∷ gs) base j l ≡ marked (picture (holding gs)) j l
  unfolding frame_in marked picture holding touches
  marked-is gs zero l = refl
  marked-is gs (suc j) l = refl

  mark-step : (gs : List Group) → picture (plain_step (CHANGE MARK) (holding gs)) ≡ figure_step (CHANGE MARK) r (picture (holding gs))
  unfolding plain_step figure_step holding picture
  mark-step gs = λ i. with_frames (sym (add-one (length gs)) i) (λ j l. marked-is gs j l i) (picture (holding gs))

  rollback-step : (k : ℕ) (gs : List Group) → picture (plain_step (CHANGE (ROLLBACK k)) (holding gs)) ≡ figure_step (CHANGE (ROLLBACK k)) r (picture (holding gs))
  unfolding plain_step figure_step holding picture
  rollback-step k gs = λ i. with_frames (length-drop k gs i) (λ j l. frame-drop k gs base j l i) (picture (holding gs))

  -- the version among the k oldest frames is what playing the k oldest groups gives
  omrv-is : (k : ℕ) (gs : List Group) → k ≤ length gs → (l : ℕ)
      → play_all (drop (length gs - k) gs) base l ≡ omrv (picture (holding gs)) k l
  unfolding omrv picture holding
  omrv-is k gs h l =
      sym (version-is (drop (length gs - k) gs) base l)
      ∙ ap₂ (λ (n : ℕ) (row : ℕ → Option Line). version_in n row (base l))
      (length-drop (length gs - k) gs ∙ omega arith)
      (fun_ext (λ j. frame-drop (length gs - k) gs base j l))

  -- and it exists where one of these groups writes the line
  exists-is : (k : ℕ) (gs : List Group) → k ≤ length gs → (l : ℕ) → touched_in (drop (length gs - k) gs) l ≡ has_omrv (picture (holding gs)) k l
  unfolding has_omrv picture holding
  exists-is k gs h l =
      touched-any (drop (length gs - k) gs) base l
      ∙ ap₂ any (length-drop (length gs - k) gs ∙ omega arith)
      (fun_ext (λ j. ap is_written (frame-drop (length gs - k) gs base j l)))

  length-kept : (k : ℕ) (gs : List Group) → k ≤ length gs → length (take (length gs - k) gs) ≡ length gs - k
  length-kept k gs h = length-take (length gs - k) gs ∙ omega arith

  advance-step : (k : ℕ) (gs : List Group) → k ≤ length gs
      → picture (plain_step (CHANGE (ADVANCE k)) (holding gs)) ≡ figure_step (CHANGE (ADVANCE k)) r (picture (holding gs))
  unfolding plain_step figure_step holding picture
  advance-step k gs h = λ i. record {
    live = length-kept k gs h i;
    frame = λ j l. frame-take (length gs - k) gs base j l i;
    archive = λ l. omrv-is k gs h l i;
    collected = λ l. exists-is k gs h l i || p.collected l;
  }

-- An act of the plain store, beside registers: it is Figure 2's step of the picture, it leaves a group, and the settings stay one.
pub record Steps (c : Act) (r : Registers) (p : Plain) : Type 0 where
  pub drawn : picture (plain_step c p) ≡ figure_step c r (picture p)
  pub group : 0 < length (plain_step c p).groups
  pub settings : (registers_step c r (picture p)).settings ≡ (plain_step c p).settings

-- So does each that is accepted, where there is a group.
pub steps : (g : Facts) (lacking : Bool) (c : Act) (x : Registers) (p : Plain) → x.settings ≡ p.settings → 0 < length p.groups → g.live ≡ length p.groups → act_refusal g lacking c ≡ 0 → Steps c x p
unfolding plain_step figure_step registers_step act_refusal holding
steps g lacking (READ w a) x p s h e r = record { drawn = refl; group = h; settings = s }
steps g lacking (LOOK q) x p s h e r = record { drawn = refl; group = h; settings = s }
steps g lacking (CHANGE (WRITE w a v)) x p s h e r =
    record {
      drawn = write_step x p w a v p.groups h;
      group = rw (added (record { width = w; address = a; value = v }) p.groups) h;
      settings = s;
    }
steps g lacking (CHANGE MARK) x p s h e r =
    record {
      drawn = mark-step x p p.groups;
      group = zero-lt-suc (length p.groups);
      settings = s;
    }
steps g lacking (CHANGE (ROLLBACK k)) x p s h e r =
    let m = marked-passed g.live k r in
    record {
      drawn = rollback-step x p k p.groups;
      group = omega (arith, length-drop k p.groups);
      settings = s;
    }
steps g lacking (CHANGE (ADVANCE k)) x p s h e r =
    let m = marked-passed g.live k r in
    record {
      drawn = advance-step x p k p.groups (omega arith);
      group = omega (arith, length-kept x p k p.groups (omega arith));
      settings = s;
    }
