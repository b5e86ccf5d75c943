-- Accepted calls keep figures and caches well-formed, from RESET on. Assumes nothing.
use mathlib.Core.Path.{◌≡◌, refl, sym, ◌∙◌, ap, ap₂, subst}
use mathlib.Core.Bool.{Bool, true, false, cond, ◌||◌}
use mathlib.Core.Logic.{◌≢◌, ◌⊎◌, inl, inr}
use mathlib.Core.Option
use mathlib.Core.Option.{Option, none, some, none-ne-some, some-injective}
use Prim.Native.Nat.{ℕ, zero, suc, ◌+◌, ◌-◌, ◌/◌, ◌≤◌, ◌<◌}
use native.Mathlib.Decide.{dec_lt}
use native.Mathlib.Numerals.{add-one}
use native.Mathlib.Omega.{arith}
use borrow.Author.Tests.{eqb-true, eq-eqb, ne_eqb, lt-ltb, le-ltb}
use lib.Dec.{eqb, ltb}
use lib.ListN.{get_or, replicate}
use Rattle.rules.specs.Settings.{Settings}
use Rattle.rules.specs.Line.{Line, IsLine, zeros, edit, line_of, offset_of, block_of}
use Rattle.rules.specs.Seen.{needs}
use Rattle.rules.specs.Registers.{Registers}
use Rattle.rules.specs.Figure2.{Figure, with_frames, is_written, version_in, pages_of, mrv, omrv, has_omrv, initial, written, marked, figure_step, figure_seen}
use Rattle.rules.specs.Call.Change.{WRITE, MARK, ROLLBACK, ADVANCE}
use Rattle.rules.specs.Call.Act.{CHANGE}
use Rattle.rules.specs.Promise.{WellFigure}
use Rattle.rules.proofs.Chain.{Placed}
use Rattle.rules.proofs.Settings.{Good}
use Rattle.rules.proofs.Line.{line-edit}
use Rattle.rules.proofs.Width.{widths, in-line, line_below}
use Rattle.rules.proofs.Count.{any_false, any_none, blocks-none, blocks_more, blocks-same, pages-same, pages-newest, pages-oldest}
use Rattle.rules.proofs.Picture.{or-false}
use Rattle.rules.proofs.History.{version_line}

-- A search that finds nothing.
version-none : (n : ℕ) (row : ℕ → Option Line) (other : Line) → ((j : ℕ) → row j ≡ none) → version_in n row other ≡ other
unfolding version_in
version-none zero row other h = refl
version-none (suc n) row other h =
    ap (λ (o : Option Line). Option.get_or o (version_in n (λ j. row (suc j)) other)) (h 0)
    ∙ version-none n (λ j. row (suc j)) other (λ j. h (suc j))

-- A row that holds a line where another row or nothing does.
cond-line : (b : Bool) (o : Option Line) (x : Line) → ((y : Line) → o ≡ some y → IsLine y) → cond b o none ≡ some x → IsLine x
cond-line true o x h e = h x e
cond-line false o x h e = absurd (none-ne-some x e)

replicate-small : (n i : ℕ) → get_or (replicate n 0) i 0 < 256
replicate-small zero i = omega arith
replicate-small (suc n) zero = omega arith
replicate-small (suc n) (suc i) = replicate-small n i

pub zeros-line : IsLine zeros
unfolding zeros
zeros-line = record { long = refl; small = replicate-small 16 }

-- A row without the written bit has nothing.
unwritten : (o : Option Line) → is_written o ≡ false → o ≡ none
unfolding is_written
unwritten none e = refl
unwritten (some x) e = absurd (mathlib.Core.Bool.true≢false e)

-- RESET
pub initial-well : (s : Settings) → Good s → WellFigure s initial
unfolding initial figure_seen pages_of is_written
initial-well s g =
    record {
      some_live = omega arith;
      in_circle = omega arith;
      only_live = λ j l h. refl;
      only_lines = λ j l h. refl;
      line = λ j l x e. absurd (none-ne-some x e);
      archive_line = λ l. zeros-line;
      collected_lines = λ l h. refl;
      archive_empty = λ l h. refl;
      pages = omega (arith, blocks-none (s.lines / 8) (λ l. false) (λ l. refl));
    }

module _ (s : Settings) (r : Registers) (f : Figure) (q : WellFigure s f) where
  recent-line : (l : ℕ) → IsLine (mrv f l)
  unfolding mrv
  recent-line l = version_line f.live (λ j. f.frame j l) (f.archive l) (λ j. q.line j l) (q.archive_line l)

  -- What WellFigure asks of the frames alone.
  abbrev Frames : (live : ℕ) → (ℕ → ℕ → Option Line) → Type 0
  Frames live rows =
      ((j l : ℕ) → live ≤ j → rows j l ≡ none) × ((j l : ℕ) → s.lines ≤ l → rows j l ≡ none)
      × ((j l : ℕ) (x : Line) → rows j l ≡ some x → IsLine x)

  with-frames : (live : ℕ) (rows : ℕ → ℕ → Option Line) → 0 < live → live ≤ s.frames → Frames live rows
      → pages_of (s.lines / 8) live (λ j l. is_written (rows j l)) ≤ s.pages → WellFigure s (with_frames live rows f)
  unfolding figure_seen
  with-frames live rows a b h p =
      record {
        some_live = a;
        in_circle = b;
        only_live = h.0;
        only_lines = h.1;
        line = h.2;
        archive_line = q.archive_line;
        collected_lines = q.collected_lines;
        archive_empty = q.archive_empty;
        pages = p;
      }

  held : pages_of (s.lines / 8) f.live (λ j l. is_written (f.frame j l)) ≤ s.pages
  unfolding figure_seen
  held = q.pages

  -- MARK
  marked-live : (j l : ℕ) → f.live + 1 ≤ j → marked f j l ≡ none
  unfolding marked
  marked-live zero l h = refl
  marked-live (suc j) l h = q.only_live j l (omega arith)

  marked-lines : (j l : ℕ) → s.lines ≤ l → marked f j l ≡ none
  unfolding marked
  marked-lines zero l h = refl
  marked-lines (suc j) l h = q.only_lines j l h

  marked-line : (j l : ℕ) (x : Line) → marked f j l ≡ some x → IsLine x
  unfolding marked
  marked-line zero l x e = absurd (none-ne-some x e)
  marked-line (suc j) l x e = q.line j l x e

  marked-pages : (blocks n : ℕ) → pages_of blocks (n + 1) (λ j l. is_written (marked f j l)) ≡ pages_of blocks n (λ j l. is_written (f.frame j l))
  unfolding pages_of marked is_written
  marked-pages blocks n = rw add-one (omega (arith, blocks-none blocks (λ l. false) (λ l. refl)))

  pub mark-well : f.live < s.frames → WellFigure s (figure_step (CHANGE MARK) r f)
  unfolding figure_step
  mark-well h =
      with-frames (f.live + 1) (marked f) (omega arith) (omega arith) (marked-live, marked-lines, marked-line)
      (rw (marked-pages (s.lines / 8) f.live) held)

  -- ROLLBACK
  pub rollback-well : (k : ℕ) → k ≤ f.live - 1 → WellFigure s (figure_step (CHANGE (ROLLBACK k)) r f)
  unfolding figure_step
  rollback-well k h =
      with-frames (f.live - k) (λ j l. f.frame (k + j) l) (omega (arith, q.some_live)) (omega (arith, q.in_circle))
      ((λ j l b. q.only_live (k + j) l (omega arith)), (λ j l b. q.only_lines (k + j) l b), (λ j l x e. q.line (k + j) l x e))
      (omega (arith, held, pages-oldest (s.lines / 8) k f.live (λ j l. is_written (f.frame j l))))

  -- ADVANCE
  kept-none : (b : Bool) (o : Option Line) → (b ≡ true → o ≡ none) → cond b o none ≡ none
  kept-none true o h = h refl
  kept-none false o h = refl

  -- a line without a version in the k oldest frames is not collected, and what the archive has of it stays
  omrv-none : (k l : ℕ) → ((j : ℕ) → f.frame (f.live - k + j) l ≡ none) → has_omrv f k l ≡ false
  unfolding has_omrv is_written
  omrv-none k l h = any_none k _ (λ j b. ap is_written (h j))

  archive-kept : (k l : ℕ) → k ≤ f.live → (has_omrv f k l ≡ false) × (f.collected l ≡ false) → omrv f k l ≡ zeros
  unfolding has_omrv omrv
  archive-kept k l few h = version-none k _ (f.archive l) gone ∙ q.archive_empty l h.1
    where
      gone : (j : ℕ) → f.frame (f.live - k + j) l ≡ none
      gone j = elim (dec_lt j k) [
        | yes b ↦ unwritten _ (any_false k _ h.0 j b)
        | no b ↦ q.only_live (f.live - k + j) l (omega (arith, b, few))
      ]

  advance-pages : (m : ℕ) → m ≤ f.live
      → pages_of (s.lines / 8) m (λ j l. is_written (cond (ltb j m) (f.frame j l) none)) ≤ s.pages
  advance-pages m h =
      omega (
        arith,
        held,
        pages-newest (s.lines / 8) m f.live (λ j l. is_written (f.frame j l)) h,
        pages-same (s.lines / 8) m (λ j l. is_written (cond (ltb j m) (f.frame j l) none)) (λ j l. is_written (f.frame j l))
            (λ j b. ap {B = ℕ → Bool} (λ (t : Bool) (l : ℕ). is_written (cond t (f.frame j l) none)) (lt-ltb j m b)),
      )

  pub advance-well : (k : ℕ) → k ≤ f.live - 1 → WellFigure s (figure_step (CHANGE (ADVANCE k)) r f)
  unfolding figure_step figure_seen omrv
  advance-well k h =
      record {
        some_live = omega (arith, q.some_live);
        in_circle = omega (arith, q.in_circle);
        only_live = λ j l b. ap (λ (t : Bool). cond t (f.frame j l) none) (le-ltb j (f.live - k) b);
        only_lines = λ j l b. kept-none (ltb j (f.live - k)) (f.frame j l) (λ t. q.only_lines j l b);
        line = λ j l x. cond-line (ltb j (f.live - k)) (f.frame j l) x (q.line j l);
        archive_line = λ l. version_line k _ (f.archive l) (λ j. q.line (f.live - k + j) l) (q.archive_line l);
        collected_lines = λ l b. ap₂ (λ (x y : Bool). x || y) (omrv-none k l (λ j. q.only_lines (f.live - k + j) l b)) (q.collected_lines l b);
        archive_empty = λ l e. archive-kept k l (omega (arith, h)) (or-false _ _ e);
        pages = advance-pages (f.live - k) (omega arith);
      }

  -- WRITE
  module _ (w a v : ℕ) (p : Placed s w a) where
    edited-line : IsLine (edit w (offset_of a) v (Option.get_or (f.frame 0 (line_of a)) (mrv f (line_of a))))
    edited-line = go (f.frame 0 (line_of a)) refl
      where
        from : (x : Line) → IsLine x → IsLine (edit w (offset_of a) v x)
        from x h =
            line-edit w (offset_of a) v x (omega (arith, in-line (widths w p.width) a p.aligned, h.long)) h

        go : (o : Option Line) → f.frame 0 (line_of a) ≡ o → IsLine (edit w (offset_of a) v (Option.get_or o (mrv f (line_of a))))
        go none e = from (mrv f (line_of a)) (recent-line (line_of a))
        go (some x) e = from x (q.line 0 (line_of a) x e)

    written-live : (j l : ℕ) → f.live ≤ j → written w a v f j l ≡ none
    unfolding written
    written-live zero l h = absurd (omega (arith, q.some_live))
    written-live (suc j) l h = q.only_live (suc j) l h

    written-lines : (j l : ℕ) → s.lines ≤ l → written w a v f j l ≡ none
    unfolding written
    written-lines zero l h =
        ap (λ (t : Bool). cond t (some (edit w (offset_of a) v (Option.get_or (f.frame 0 l) (mrv f l)))) (f.frame 0 l))
        (ne_eqb (line_of a) l (λ e. omega (arith, line_below p)))
        ∙ q.only_lines 0 l h
    written-lines (suc j) l h = q.only_lines (suc j) l h

    written-line : (j l : ℕ) (x : Line) → written w a v f j l ≡ some x → IsLine x
    unfolding written
    written-line zero l x e = go (eqb (line_of a) l) refl e
      where
        go : (t : Bool) → eqb (line_of a) l ≡ t
            → cond t (some (edit w (offset_of a) v (Option.get_or (f.frame 0 l) (mrv f l)))) (f.frame 0 l) ≡ some x → IsLine x
        go true t e =
            subst IsLine (some-injective _ x e)
            (subst (λ (z : ℕ). IsLine (edit w (offset_of a) v (Option.get_or (f.frame 0 z) (mrv f z)))) (eqb-true (line_of a) l t) edited-line)
        go false t e = q.line 0 l x e
    written-line (suc j) l x e = q.line (suc j) l x e

    row : ℕ → Bool
    row l = is_written (f.frame 0 l)

    more : ℕ → Bool
    more l = is_written (written w a v f 0 l)

    more-now : more (line_of a) ≡ true
    unfolding more written is_written
    more-now =
        ap (λ (t : Bool). is_written (cond t (some (edit w (offset_of a) v (Option.get_or (f.frame 0 (line_of a)) (mrv f (line_of a))))) (f.frame 0 (line_of a))))
        (eq-eqb (line_of a) (line_of a) refl)

    more-rest : (l : ℕ) → l ≢ line_of a → row l ≡ more l
    unfolding row more written
    more-rest l d =
        sym (ap (λ (t : Bool). is_written (cond t (some (edit w (offset_of a) v (Option.get_or (f.frame 0 l) (mrv f l)))) (f.frame 0 l)))
        (ne_eqb (line_of a) l (λ e. d (sym e))))

    -- a page more than before, or none if the block's page in CMF is needed already
    written-pages : (blocks n : ℕ) → 0 < n
        → (needs row (block_of (line_of a)) ≡ true) ⊎ (pages_of blocks n (λ j l. is_written (f.frame j l)) < s.pages)
        → pages_of blocks n (λ j l. is_written (f.frame j l)) ≤ s.pages
        → pages_of blocks n (λ j l. is_written (written w a v f j l)) ≤ s.pages
    unfolding pages_of row more written
    written-pages blocks zero h free most = absurd (omega arith)
    written-pages blocks (suc n) h (inl already) most = omega (arith, blocks-same row more (line_of a) more-now more-rest blocks already)
    written-pages blocks (suc n) h (inr room) most = omega (arith, blocks_more row more (line_of a) more-now more-rest blocks)

    pub write-well : (needs (λ l. is_written (f.frame 0 l)) (block_of (line_of a)) ≡ true) ⊎ ((figure_seen s f).pages < s.pages)
        → WellFigure s (figure_step (CHANGE (WRITE w a v)) r f)
    unfolding figure_step figure_seen row
    write-well free =
        with-frames f.live (written w a v f) q.some_live q.in_circle (written-live, written-lines, written-line)
        (written-pages (s.lines / 8) f.live q.some_live free held)
