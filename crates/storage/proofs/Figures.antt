-- Well-formed storage shows a figure that some surviving history draws, so that the store's well-formedness is lawful. Assumes nothing.
use mathlib.Core.Path.{◌≡◌, refl, sym, ◌∙◌, ap, ap₂, subst}
use mathlib.Core.Bool.{Bool, true, false, cond, ◌&&◌, and-false}
use mathlib.Core.Option.{Option, none, some}
use Prim.Native.Nat.{ℕ, ◌≤◌, ◌<◌}
use native.Mathlib.Decide.{dec_lt}
use native.Mathlib.Omega.{arith}
use borrow.Author.Tests.{lt-ltb, le-ltb}
use lib.Dec.{ltb}
use Rattle.rules.specs.Settings.{Settings}
use Rattle.rules.specs.Line.{Line, IsLine, zeros}
use Rattle.rules.specs.Figure2.{Figure}
use Rattle.rules.specs.Promise.{WellFigure, Lawful, seen_of}
use Rattle.written.specs.Bits.{effective}
use Rattle.pages.specs.Lines.{archive_line}
use Rattle.pages.specs.Flags.{collected_at}
use Rattle.wellformed.specs.Parts.{CollectedOrZero, WellArchive}
use Rattle.storage.specs.Storage.{Storage, settings_in, live_in, written_in, index_back, version_at, frame_in, archive_in, collected_in, WellStore, store}
use Rattle.storage.proofs.Limits.{limits}
use Rattle.storage.proofs.Counting.{pages-counted}

-- No version lies outside the live frames and the L lines.
module _ (x : Storage) (j l : ℕ) where
  abbrev bit : Bool
  bit = effective (written_in x) (index_back x.state j) l

  abbrev version : Option Line
  version = some (version_at x (index_back x.state j) l)

  pub frame-live : live_in x.state ≤ j → frame_in x j l ≡ none
  unfolding frame_in
  frame-live h =
      ap (λ (t : Bool). cond (t && (ltb l x.state.registers.lines && bit)) version none) (le-ltb j (live_in x.state) h)

  pub frame_past : x.state.registers.lines ≤ l → frame_in x j l ≡ none
  unfolding frame_in
  frame_past h =
      ap (λ (t : Bool). cond (ltb j (live_in x.state) && (t && bit)) version none) (le-ltb l x.state.registers.lines h)
      ∙ ap (λ (t : Bool). cond t version none) (and-false (ltb j (live_in x.state)))

  pub frame-at : j < live_in x.state → l < x.state.registers.lines → frame_in x j l ≡ cond bit version none
  unfolding frame_in
  frame-at h b =
      ap₂ (λ (s t : Bool). cond (s && (t && bit)) version none) (lt-ltb j (live_in x.state) h) (lt-ltb l x.state.registers.lines b)

-- A line in a frame of two storages has its version in both alike, if it is written in both or in neither.
pub record AlikeAt (t x : Storage) (i j l : ℕ) : Type 0 where
  pub bit : effective (written_in t) i l ≡ effective (written_in x) j l
  pub version : effective (written_in x) j l ≡ true → version_at t i l ≡ version_at x j l

pub frames-alike : (t x : Storage) (i j l : ℕ) → t.state.registers.lines ≡ x.state.registers.lines → (i < live_in t.state → j < live_in x.state)
    → (j < live_in x.state → i < live_in t.state)
    → (i < live_in t.state → j < live_in x.state → l < x.state.registers.lines → AlikeAt t x (index_back t.state i) (index_back x.state j) l)
    → frame_in t i l ≡ frame_in x j l
frames-alike t x i j l e there back alike = go (dec_lt i (live_in t.state)) (dec_lt l x.state.registers.lines)
  where
    same : (a b : Bool) (v w : Line) → a ≡ b → (b ≡ true → v ≡ w) → cond a (some v) none ≡ cond b (some w) none
    same a true v w e h = ap (λ (c : Bool). cond c (some v) none) e ∙ ap some (h refl)
    same a false v w e h = ap (λ (c : Bool). cond c (some v) none) e

    go : Dec (i < live_in t.state) → Dec (l < x.state.registers.lines) → frame_in t i l ≡ frame_in x j l
    go (yes h) (yes b) =
        let a = alike h (there h) b in
        frame-at t i l h (subst (λ (n : ℕ). l < n) (sym e) b)
        ∙ (same _ _ (version_at t (index_back t.state i) l) (version_at x (index_back x.state j) l) a.bit a.version ∙ sym (frame-at x j l (there h) b))
    go (yes h) (no b) = frame_past t i l (subst (λ (n : ℕ). n ≤ l) (sym e) (omega arith)) ∙ sym (frame_past x j l (omega arith))
    go (no h) b = frame-live t i l (omega arith) ∙ sym (frame-live x j l (outside (dec_lt j (live_in x.state))))
      where
        outside : Dec (j < live_in x.state) → live_in x.state ≤ j
        outside (yes d) = absurd (h (back d))
        outside (no d) = omega arith

pub archive-past : (x : Storage) (l : ℕ) → x.state.registers.lines ≤ l → archive_in x l ≡ zeros
unfolding archive_in
archive-past x l h = ap (λ (t : Bool). cond t (archive_line x.memory.archive l) zeros) (le-ltb l x.state.registers.lines h)

-- no line past the L lines is collected, and one that is not is zero in the archive
pub collected-past : (x : Storage) (l : ℕ) → x.state.registers.lines ≤ l → collected_in x l ≡ false
unfolding collected_in
collected-past x l h = ap (λ (t : Bool). t && collected_at x.state.registers.pages x.memory.owners l) (le-ltb l x.state.registers.lines h)

pub collected-at : (x : Storage) (l : ℕ) → l < x.state.registers.lines → collected_in x l ≡ collected_at x.state.registers.pages x.memory.owners l
unfolding collected_in
collected-at x l b = ap (λ (t : Bool). t && collected_at x.state.registers.pages x.memory.owners l) (lt-ltb l x.state.registers.lines b)

archive-at : (x : Storage) (l : ℕ) → l < x.state.registers.lines → archive_in x l ≡ archive_line x.memory.archive l
unfolding archive_in
archive-at x l b = ap (λ (t : Bool). cond t (archive_line x.memory.archive l) zeros) (lt-ltb l x.state.registers.lines b)

archive-zero : (x : Storage) → WellStore x → (l : ℕ) → collected_in x l ≡ false → archive_in x l ≡ zeros
unfolding CollectedOrZero
archive-zero x q l e = go (dec_lt l x.state.registers.lines)
  where
    go : Dec (l < x.state.registers.lines) → archive_in x l ≡ zeros
    go (yes b) = archive-at x l b ∙ q.archive_empty l b (sym (collected-at x l b) ∙ e)
    go (no b) = archive-past x l (omega arith)

-- Storage whose figure is well-formed has zeros in its archive where they should be.
pub figure-archive : (t : Storage) (s : Settings) (f : Figure) → store.figure t ≡ f → WellFigure s f
    → WellArchive t.state.registers.lines t.state.registers.pages t.memory.archive t.memory.owners
unfolding CollectedOrZero
figure-archive t s f shows q l b e =
    sym (archive-at t l b)
    ∙ (ap (λ (g : Figure). g.archive l) shows ∙ q.archive_empty l (sym (ap (λ (g : Figure). g.collected l) shows) ∙ (collected-at t l b ∙ e)))

pub well-figure : (x : Storage) → WellStore x → WellFigure (settings_in x.state) (store.figure x)
unfolding seen_of
well-figure x q =
    let f = limits x q.fits in
    record {
      some_live = f.live_some;
      in_circle = f.live_most;
      only_live = λ j l h. frame-live x j l h;
      only_lines = λ j l h. frame_past x j l h;
      line = q.version_line;
      archive_line = q.archive_line;
      collected_lines = collected-past x;
      archive_empty = archive-zero x q;
      pages = subst (λ (n : ℕ). n ≤ x.state.registers.pages) (pages-counted x q) q.pages.used_few;
    }

-- The store's well-formedness is what document 01 asks of it.
pub lawful : Lawful store
lawful = record { fits = λ x q. q.fits; live = λ x q. refl; figure = well-figure; cache = λ x q. q.entries }

-- Storage whose figure is well-formed has lines for versions.
module _ (t : Storage) (s : Settings) (f : Figure) (shows : store.figure t ≡ f) (q : WellFigure s f) where
  pub step-versions : (j l : ℕ) (v : Line) → frame_in t j l ≡ some v → IsLine v
  step-versions j l v e = q.line j l v (sym (ap (λ (g : Figure). g.frame j l) shows) ∙ e)

  pub step-archive : (l : ℕ) → IsLine (archive_in t l)
  step-archive l = subst IsLine (sym (ap (λ (g : Figure). g.archive l) shows)) (q.archive_line l)
