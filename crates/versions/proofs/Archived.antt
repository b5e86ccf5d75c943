-- What a fold leaves in the archive, on any storage: its length, what lies past the lines, and each line. Assumes nothing.
use mathlib.Core.Path.{◌≡◌, refl, sym, ◌∙◌, ap}
use mathlib.Core.Logic.{◌≢◌}
use mathlib.Core.Bool.{Bool, true, false, cond, ◌&&◌}
use mathlib.Core.List.{List}
use Prim.Native.Nat.{ℕ, zero, suc, ◌+◌, ◌*◌, ◌/◌, ◌%◌, ◌≤◌, ◌<◌}
use native.Mathlib.Decide.{ℕ_discrete, dec_lt}
use native.Mathlib.Omega.{arith}
use borrow.Author.Tests.{lt-ltb, le-ltb, eq-eqb, ne_eqb}
use lib.Dec.{ltb, eqb}
use lib.ListN.{length, get_or, drop, length-drop}
use lib.Seq.{length-take-le}
use Rattle.rules.specs.Line.{Line}
use Rattle.lists.specs.Lines.{line_at}
use Rattle.lists.proofs.Lines.{length-written, read-own, past-written}
use Rattle.frames.proofs.Circle.{frame_below}
use Rattle.written.specs.Bits.{Written, effective}
use Rattle.pages.specs.Lines.{page_line, archive_line, with_archive_line}
use Rattle.pages.specs.Table.{blocks_of}
use Rattle.pages.specs.Ring.{nth_page, owner_index}
use Rattle.pages.proofs.Places.{archive-other}
use Rattle.versions.specs.Steps.{folded_line, folded_lines, folded_page, folded_pages}

page-long : (pool : List ℕ) (p slot : ℕ) → slot < 8 → 128 * p + 128 ≤ length pool → length (page_line pool p slot) ≡ 16
unfolding line_at
page-long pool p slot b h =
    length-take-le 16 (drop (128 * p + 16 * slot) pool) (omega (arith, length-drop (128 * p + 16 * slot) pool))

-- One line.
module _ (w : Written) (pool : List ℕ) (page index : ℕ) (room : 128 * page + 128 ≤ length pool) where
  record LineFolded (l : ℕ) (now after : List ℕ) : Type 0 where
    long : length after ≡ length now
    past : (m : ℕ) → 16 * l + 16 ≤ m → drop m after ≡ drop m now
    own : archive_line after l ≡ cond (effective w index l) (page_line pool page (l % 8)) (archive_line now l)
    other : (m : ℕ) → m ≢ l → archive_line after m ≡ archive_line now m

  line-folded : (l : ℕ) (now : List ℕ) → 16 * l + 16 ≤ length now → LineFolded l now (folded_line w pool page index l now)
  unfolding folded_line
  line-folded l now inside = go (effective w index l) refl
    where
      go : (t : Bool) → effective w index l ≡ t → LineFolded l now (cond (effective w index l) (with_archive_line now l (page_line pool page (l % 8))) now)
      go true e =
          let long = page-long pool page (l % 8) (omega arith) room in
          let same : cond (effective w index l) (with_archive_line now l (page_line pool page (l % 8))) now ≡ with_archive_line now l (page_line pool page (l % 8)) =
          ap (λ (t : Bool). cond t (with_archive_line now l (page_line pool page (l % 8))) now) e
          in
          record {
            long = ap length same ∙ length-written now (page_line pool page (l % 8)) (16 * l) inside long;
            past = λ m b. ap (drop m) same ∙ past-written now (page_line pool page (l % 8)) (16 * l) inside long m b;
            own =
                ap (λ (a : List ℕ). archive_line a l) same
                ∙ (read-own now (page_line pool page (l % 8)) (16 * l) inside long
                ∙ sym (ap (λ (t : Bool). cond t (page_line pool page (l % 8)) (archive_line now l)) e));
            other = λ m d. ap (λ (a : List ℕ). archive_line a m) same ∙ archive-other now (page_line pool page (l % 8)) l m inside long d;
          }
      go false e =
          let same : cond (effective w index l) (with_archive_line now l (page_line pool page (l % 8))) now ≡ now =
          ap (λ (t : Bool). cond t (with_archive_line now l (page_line pool page (l % 8))) now) e
          in
          record {
            long = ap length same;
            past = λ m b. ap (drop m) same;
            own = ap (λ (a : List ℕ). archive_line a l) same ∙ sym (ap (λ (t : Bool). cond t (page_line pool page (l % 8)) (archive_line now l)) e);
            other = λ m d. ap (λ (a : List ℕ). archive_line a m) same;
          }

  -- The first n lines of a block.
  record LinesFolded (block n : ℕ) (now after : List ℕ) : Type 0 where
    long : length after ≡ length now
    past : (m : ℕ) → 128 * block + 16 * n ≤ m → drop m after ≡ drop m now
    own : (l : ℕ) → l / 8 ≡ block → l % 8 < n → archive_line after l ≡ cond (effective w index l) (page_line pool page (l % 8)) (archive_line now l)
    later : (l : ℕ) → n ≤ l % 8 → archive_line after l ≡ archive_line now l
    other : (l : ℕ) → l / 8 ≢ block → archive_line after l ≡ archive_line now l

  lines-folded : (block n : ℕ) (now : List ℕ) → n ≤ 8 → 128 * block + 16 * n ≤ length now → LinesFolded block n now (folded_lines w pool page index block n now)
  unfolding folded_lines
  lines-folded block zero now few inside = record { long = refl; past = λ m b. refl; own = λ l a b. absurd (omega arith); later = λ l b. refl; other = λ l d. refl }
  lines-folded block (suc n) now few inside =
      next (folded_lines w pool page index block n now) (lines-folded block n now (omega arith) (omega arith))
    where
      next : (middle : List ℕ) → LinesFolded block n now middle → LinesFolded block (suc n) now (folded_line w pool page index (block * 8 + n) middle)
      next middle h =
          let s = line-folded (block * 8 + n) middle (omega (arith, h.long)) in
          record {
            long = s.long ∙ h.long;
            past = λ m b. s.past m (omega arith) ∙ h.past m (omega arith);
            own = λ l a b.
                elim (ℕ_discrete (l % 8) n) [
                  | yes e ↦
                      let here : l ≡ block * 8 + n = omega arith in
                      ap (archive_line (folded_line w pool page index (block * 8 + n) middle)) here
                      ∙ (s.own
                      ∙ (ap (λ (m : ℕ). cond (effective w index m) (page_line pool page (m % 8)) (archive_line middle m)) (sym here)
                      ∙ ap (λ (x : Line). cond (effective w index l) (page_line pool page (l % 8)) x) (h.later l (omega arith))))
                  | no d ↦ s.other l (λ z. d (omega (arith, z))) ∙ h.own l a (omega arith)
                ];
            later = λ l b. s.other l (λ z. absurd (omega (arith, z))) ∙ h.later l (omega arith);
            other = λ l d. s.other l (λ z. d (omega (arith, z))) ∙ h.other l d;
          }

  -- A page's lines.
  record PageFolded (block : ℕ) (now after : List ℕ) : Type 0 where
    long : length after ≡ length now
    past : drop (16 * w.lines) after ≡ drop (16 * w.lines) now
    line : (l : ℕ) → l < w.lines → archive_line after l ≡ cond (eqb block (l / 8) && effective w index l) (page_line pool page (l % 8)) (archive_line now l)

  page-folded : (block : ℕ) (now : List ℕ) → w.lines % 8 ≡ 0 → 16 * w.lines ≤ length now → PageFolded block now (folded_page w pool page index block now)
  unfolding folded_page
  page-folded block now by inside = go (dec_lt block (blocks_of w))
    where
      line-at : (after : List ℕ) (l : ℕ) → LinesFolded block 8 now after → archive_line after l ≡ cond (eqb block (l / 8) && effective w index l) (page_line pool page (l % 8)) (archive_line now l)
      line-at after l h =
          elim (ℕ_discrete block (l / 8)) [
            | yes e ↦ h.own l (sym e) (omega arith) ∙ sym (ap (λ (t : Bool). cond (t && effective w index l) (page_line pool page (l % 8)) (archive_line now l)) (eq-eqb block (l / 8) e))
            | no d ↦ h.other l (λ z. d (sym z)) ∙ sym (ap (λ (t : Bool). cond (t && effective w index l) (page_line pool page (l % 8)) (archive_line now l)) (ne_eqb block (l / 8) d))
          ]

      go : Dec (block < blocks_of w) → PageFolded block now (cond (ltb block (blocks_of w)) (folded_lines w pool page index block 8 now) now)
      go (yes b) =
          let same : cond (ltb block (blocks_of w)) (folded_lines w pool page index block 8 now) now ≡ folded_lines w pool page index block 8 now =
          ap (λ (t : Bool). cond t (folded_lines w pool page index block 8 now) now) (lt-ltb block (blocks_of w) b)
          in
          let h = lines-folded block 8 now (omega arith) (omega arith) in
          record {
            long = ap length same ∙ h.long;
            past = ap (drop (16 * w.lines)) same ∙ h.past (16 * w.lines) (omega arith);
            line = λ l c. ap (λ (a : List ℕ). archive_line a l) same ∙ line-at (folded_lines w pool page index block 8 now) l h;
          }
      go (no b) =
          let same : cond (ltb block (blocks_of w)) (folded_lines w pool page index block 8 now) now ≡ now =
          ap (λ (t : Bool). cond t (folded_lines w pool page index block 8 now) now) (le-ltb block (blocks_of w) (omega arith))
          in
          record {
            long = ap length same;
            past = ap (drop (16 * w.lines)) same;
            line = λ l c.
                ap (λ (a : List ℕ). archive_line a l) same
                ∙ sym (ap (λ (t : Bool). cond (t && effective w index l) (page_line pool page (l % 8)) (archive_line now l)) (ne_eqb block (l / 8) (λ z. absurd (omega (arith, z)))));
          }

-- The ring's first pages: of each line the last page that has it counts.
unfoldable pub walk : {A : Type 0} (archive : A) (page : ℕ → A) (hit : ℕ → Bool) → ℕ → A
walk archive page hit zero = archive
walk archive page hit (suc n) = cond (hit n) (page n) (walk archive page hit n)

module _ (w : Written) (pages first : ℕ) (owners : List ℕ) where
  abbrev owner : ℕ → ℕ
  owner i = get_or owners (nth_page pages first i) 0

  -- whether the page at a position has a line
  abbrev pub hit : (line i : ℕ) → Bool
  hit l i = eqb (owner i % 512) (l / 8) && effective w (owner_index w.frames w.omf (owner i)) l

  pub record PagesFolded (pool : List ℕ) (n : ℕ) (archive after : List ℕ) : Type 0 where
    pub long : length after ≡ length archive
    pub past : drop (16 * w.lines) after ≡ drop (16 * w.lines) archive
    pub line : (l : ℕ) → l < w.lines → archive_line after l ≡ walk (archive_line archive l) (λ i. page_line pool (nth_page pages first i) (l % 8)) (hit l) n

  pub pages-folded : (pool : List ℕ) (n : ℕ) (archive : List ℕ) → w.lines % 8 ≡ 0 → 16 * w.lines ≤ length archive → first < pages → 128 * pages ≤ length pool
      → PagesFolded pool n archive (folded_pages w pages first pool owners n archive)
  unfolding folded_pages walk
  pages-folded pool zero archive by inside start room = record { long = refl; past = refl; line = λ l b. refl }
  pages-folded pool (suc n) archive by inside start room = next (folded_pages w pages first pool owners n archive) (pages-folded pool n archive by inside start room)
    where
      next : (now : List ℕ) → PagesFolded pool n archive now → PagesFolded pool (suc n) archive (folded_page w pool (nth_page pages first n) (owner_index w.frames w.omf (owner n)) (owner n % 512) now)
      next now h =
          let s = page-folded w pool (nth_page pages first n) (owner_index w.frames w.omf (owner n)) (omega (arith, frame_below pages first start n)) (owner n % 512) now by (omega (arith, h.long)) in
          record {
            long = s.long ∙ h.long;
            past = s.past ∙ h.past;
            line = λ l b. s.line l b ∙ ap (λ (x : Line). cond (hit l n) (page_line pool (nth_page pages first n) (l % 8)) x) (h.line l b);
          }
