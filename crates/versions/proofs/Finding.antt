-- Where versions stand, in the form in which the code has it. Assumes nothing.
use Rattle.std.specs.Prelude.{Option, Some, None}
use mathlib.Core.Path.{◌≡◌, refl, sym, ◌∙◌, ap, ap₂}
use mathlib.Core.Bool.{Bool, true, false, cond}
use mathlib.Core.List.{List}
use Prim.Native.Nat.{ℕ, ◌+◌, ◌-◌, ◌*◌, ◌/◌, ◌%◌, ◌≤◌, ◌<◌}
use native.Mathlib.Omega.{arith}
use mir.Syntax.{w16}
use mir.Val.{Fits}
use borrow.Author.Tests.{ltb-true}
use lib.Dec.{ltb}
use lib.ListN.{length, get_or}
use Rattle.rules.specs.Line.{Line}
use Rattle.frames.specs.Circle.{Turn, frame_at}
use Rattle.frames.proofs.Circle.{frame_below}
use Rattle.numbers.proofs.Search.{greatest-found}
use Rattle.written.specs.Bits.{Written, effective, newest_from}
use Rattle.written.proofs.Areas.{place-below}
use Rattle.pages.specs.Table.{blocks_of, place_at, entry_of, AsksTable, entry_at, AsksEntry}
use Rattle.pages.proofs.Needs.{place-frame, place-block}
use Rattle.cache.specs.Entries.{bytes_in, hit_in}
use Rattle.versions.specs.declared.Origin.TheVariants as origin
use Rattle.versions.specs.declared.Version.{Version}
use Rattle.versions.specs.Newest.{page_of, spot_of, newest_of, latest_from, latest_held, AsksSpot, AsksContent, AsksNewest}

-- the place of a frame and line lies in the table
pub entry-within : (lines frames frame line : ℕ) → lines % 8 ≡ 0 → frame < frames → line < lines → entry_at lines frame (line / 8) < frames * (lines / 8)
entry-within lines frames frame line by f l = place-below (lines / 8) frames frame (line / 8) f (omega arith)

-- it is that of its place
pub place-entry : (w : Written) (frame line : ℕ) → w.lines ≤ 4096 → line < w.lines → entry_of w (place_at frame (line / 8)) ≡ entry_at w.lines frame (line / 8)
place-entry w frame line few b =
    let wide : line / 8 < 512 = omega arith in
    ap₂ (λ (x y : ℕ). x * blocks_of w + y) (place-frame frame (line / 8) wide) (place-block frame (line / 8) wide)

-- and what is asked to read it
pub entry-asks : (lines frames frame line long : ℕ) → lines % 8 ≡ 0 → lines ≤ 4096 → frames ≤ 4096 → frame < frames → line < lines → frames * (lines / 8) ≤ long
    → AsksEntry lines frame (line / 8) long
entry-asks lines frames frame line long by few some f l room =
    record {
      lines_few = few;
      frame_few = omega arith;
      block_few = omega arith;
      entry_below = omega (arith, entry-within lines frames frame line by f l);
    }

-- ---- a version that a search found
-- lies no higher than the search started
pub newest-below : (w : Written) (line start i : ℕ) → newest_from w line start ≡ Some i → i ≤ start
unfolding newest_from
newest-below w line start i e = omega (arith, (greatest-found (start + 1) (λ k. effective w k line) i e).below)

pub spot-asks : (w : Written) (table : List ℕ) (line start : ℕ) (r : Option ℕ) → AsksTable w table → line < w.lines → start < w.frames
    → r ≡ newest_from w line start → AsksSpot w.lines w.frames w.omf line r (length table)
spot-asks w table line start r a l s e =
    record {
      lines_by = a.lines_by;
      lines_few = a.lent.lines_few;
      frames_few = a.lent.frames_few;
      omf_below = a.lent.omf_below;
      line_below = l;
      index_below = λ i h. omega (arith, newest-below w line start i (sym e ∙ h));
      table_long = a.table_long;
    }

module _ (lines frames omf line : ℕ) (r : Option ℕ) (long : ℕ) (asks : AsksSpot lines frames omf line r long) (i : ℕ) where
  pub found-entry : (f : ℕ) → f ≡ frame_at frames omf i → AsksEntry lines f (line / 8) long
  found-entry f e =
      entry-asks lines frames f line long asks.lines_by asks.lines_few asks.frames_few
      (omega (arith, e, frame_below frames omf asks.omf_below i)) asks.line_below asks.table_long

module _ (lines frames omf pages : ℕ) (table : List ℕ) (line : ℕ) (r : Option ℕ) where
  -- a page that it stands in is below P
  pub spot-below : (p : ℕ) → spot_of lines frames omf pages table line r ≡ Some p → p < pages
  unfolding spot_of
  spot-below p h = go r h
    where
      at : (n : ℕ) (b : Bool) → ltb n pages ≡ b → cond b (Some n) None ≡ Some p → p < pages
      at n true t e =
          let d : n ≡ p = cc in
          omega (arith, d, ltb-true n pages t)
      at n false t e = let z : ◌≡◌ {A = ℕ} 0 1 = cc in absurd (omega arith)

      go : (x : Option ℕ) → spot_of lines frames omf pages table line x ≡ Some p → p < pages
      go (Some i) e = at (page_of lines frames omf table i line) (ltb (page_of lines frames omf table i line) pages) refl e
      go None e = let z : ◌≡◌ {A = ℕ} 0 1 = cc in absurd (omega arith)

-- ---- the bytes of a version
pub content-asks : (lines frames omf pages line : ℕ) (table : List ℕ) (archive pool : ℕ) (r : Option ℕ) (spot : Option ℕ) → lines % 8 ≡ 0 → lines ≤ 4096 → line < lines → pages ≤ 4096
    → 16 * lines ≤ archive → 128 * pages ≤ pool → spot ≡ spot_of lines frames omf pages table line r → AsksContent line spot archive pool
content-asks lines frames omf pages line table archive pool r spot by some l few long room e =
    record {
      page = λ p h.
          let b : p < pages = spot-below lines frames omf pages table line r p (sym e ∙ h) in
          record { page_few = omega arith; slot_below = omega arith; room = omega arith };
      archived = record { line_few = omega arith; room = omega arith };
    }

-- the version by the entry found
module _ (frames bytes : List ℕ) (other : Version) (r : Option ℕ) where
  pub latest-hit : (e n : ℕ) (x : Line) → r ≡ Some e → x ≡ bytes_in bytes e → n ≡ get_or frames e 0
      → record { content = x; frame = n; origin = origin.Cache } ≡ latest_from frames bytes other r
  unfolding latest_from
  latest-hit e n x h ex en =
      ap₂ (λ (y : Line) (z : ℕ). record { content = y; frame = z; origin = origin.Cache }) ex en ∙ ap (latest_from frames bytes other) (sym h)

  pub latest-miss : (v : Version) → r ≡ None → v ≡ other → v ≡ latest_from frames bytes other r
  unfolding latest_from
  latest-miss v h e = e ∙ ap (latest_from frames bytes other) (sym h)

pub latest-held : (lines frames valid bytes : List ℕ) (w : Written) (pages live line : ℕ) (archive pool table : List ℕ) (r : Option ℕ) → r ≡ hit_in lines valid line → (v : Version)
    → v ≡ latest_from frames bytes (newest_of w pages live archive pool table line) r → v ≡ latest_held lines frames valid bytes w pages live archive pool table line
unfolding latest_held
latest-held lines frames valid bytes w pages live line archive pool table r told v e = e ∙ ap (latest_from frames bytes (newest_of w pages live archive pool table line)) told

-- what a version found has its frame and origin by
module _ (w : Written) (pages live line : ℕ) (archive pool table : List ℕ) (asks : AsksNewest w pages live line archive pool table) (r : Option ℕ) (i : ℕ)
    (told : r ≡ newest_from w line (live - 1)) (at : r ≡ Some i) where
  pub newest-within : i ≤ live - 1
  newest-within = newest-below w line (live - 1) i (sym told ∙ at)

  pub newest-asks : AsksSpot w.lines w.frames w.omf line (Some i) (length table)
  newest-asks =
      spot-asks w table line (live - 1) (Some i) asks.asks asks.line_below (omega (arith, asks.live_some, asks.live_within)) (sym at ∙ told)

  pub newest-turn : Turn w.frames w.omf i
  newest-turn =
      record {
        omf_below = asks.asks.lent.omf_below;
        below = omega (arith, newest-within, asks.live_some, asks.live_within);
        few = omega (arith, asks.asks.lent.frames_few);
      }

  pub newest-fits : (f : ℕ) → f ≡ frame_at w.frames w.omf i → Fits w16 f
  newest-fits f e = record { fits = omega (arith, e, frame_below w.frames w.omf asks.asks.lent.omf_below i, asks.asks.lent.frames_few) }
