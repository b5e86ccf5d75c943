-- What a fold leaves of the collected lines' flags, on any storage: the list's length, the pages' owners, what lies past the flags, and each flag.
-- Assumes nothing.
use mathlib.Core.Path.{◌≡◌, refl, sym, ◌∙◌, ap, ap₂, fun_ext, subst}
use mathlib.Core.Logic.{◌≢◌}
use mathlib.Core.Bool.{Bool, true, false, cond, ◌&&◌, ◌||◌}
use mathlib.Core.List.{List}
use Prim.Native.Nat.{ℕ, zero, suc, ◌+◌, ◌*◌, ◌/◌, ◌%◌, ◌≤◌, ◌<◌}
use native.Mathlib.Decide.{ℕ_discrete, dec_lt}
use native.Mathlib.Omega.{arith}
use borrow.Author.Tests.{lt-ltb, le-ltb, eq-eqb, ne_eqb}
use lib.Dec.{ltb, eqb}
use lib.ListN.{length, get_or, drop}
use Rattle.rules.specs.Seen.{any}
use Rattle.written.specs.Bits.{Written, effective}
use Rattle.pages.specs.Table.{blocks_of}
use Rattle.pages.specs.Ring.{nth_page, owner_index, index_at}
use Rattle.frames.proofs.Circle.{frame_below}
use Rattle.pages.specs.Flags.{collected_at, flagged}
use Rattle.pages.proofs.Flagging.{flagged-length, flagged-below, flagged-past, flagged-own, flagged-other}
use Rattle.versions.specs.Steps.{flagged_line, flagged_lines, flagged_page, flagged_pages, cleared_page, cleared_pages, AsksFold}
use Rattle.versions.proofs.Archived.{hit}

-- What every part of it keeps: the length, the pages' owners, and what lies past the flags.
pub record Kept (pages lines : ℕ) (now after : List ℕ) : Type 0 where
  pub long : length after ≡ length now
  pub below : (p : ℕ) → p < pages → get_or after p 0 ≡ get_or now p 0
  pub past : drop (pages + lines) after ≡ drop (pages + lines) now

pub kept_same : (pages lines : ℕ) (now : List ℕ) → Kept pages lines now now
kept_same pages lines now = record { long = refl; below = λ p b. refl; past = refl }

kept_on : {pages lines : ℕ} {now middle after : List ℕ} → Kept pages lines now middle → Kept pages lines middle after → Kept pages lines now after
kept_on h s =
    record {
      long = s.long ∙ h.long;
      below = λ p b. s.below p b ∙ h.below p b;
      past = s.past ∙ h.past;
    }

module _ (w : Written) (pages index : ℕ) where
  -- One line.
  record LineFlagged (l : ℕ) (now after : List ℕ) : Type 0 where
    kept : Kept pages w.lines now after
    own : collected_at pages after l ≡ (effective w index l || collected_at pages now l)
    other : (m : ℕ) → m ≢ l → collected_at pages after m ≡ collected_at pages now m

  line-flagged : (l : ℕ) (now : List ℕ) → l < w.lines → pages + w.lines ≤ length now → LineFlagged l now (flagged_line w pages index l now)
  unfolding flagged_line
  line-flagged l now b inside = go (effective w index l) refl
    where
      go : (t : Bool) → effective w index l ≡ t → LineFlagged l now (cond t (flagged pages l now) now)
      go true e =
          record {
            kept =
                record {
                  long = flagged-length pages l now;
                  below = flagged-below pages l now;
                  past = flagged-past pages l now (pages + w.lines) (omega (arith, b));
                };
            own = flagged-own pages l now (omega (arith, b, inside)) ∙ sym (ap (λ (t : Bool). t || collected_at pages now l) e);
            other = flagged-other pages l now;
          }
      go false e =
          record {
            kept = kept_same pages w.lines now;
            own = sym (ap (λ (t : Bool). t || collected_at pages now l) e);
            other = λ m d. refl;
          }

  -- The first n lines of a block.
  record LinesFlagged (block n : ℕ) (now after : List ℕ) : Type 0 where
    kept : Kept pages w.lines now after
    own : (l : ℕ) → l / 8 ≡ block → l % 8 < n → collected_at pages after l ≡ (effective w index l || collected_at pages now l)
    later : (l : ℕ) → n ≤ l % 8 → collected_at pages after l ≡ collected_at pages now l
    other : (l : ℕ) → l / 8 ≢ block → collected_at pages after l ≡ collected_at pages now l

  lines-flagged : (block n : ℕ) (now : List ℕ) → n ≤ 8 → block * 8 + n ≤ w.lines → pages + w.lines ≤ length now
      → LinesFlagged block n now (flagged_lines w pages index block n now)
  unfolding flagged_lines
  lines-flagged block zero now few inside long =
      record { kept = kept_same pages w.lines now; own = λ l a b. absurd (omega arith); later = λ l b. refl; other = λ l d. refl }
  lines-flagged block (suc n) now few inside long =
      next (flagged_lines w pages index block n now) (lines-flagged block n now (omega arith) (omega arith) long)
    where
      next : (middle : List ℕ) → LinesFlagged block n now middle → LinesFlagged block (suc n) now (flagged_line w pages index (block * 8 + n) middle)
      next middle h =
          let s = line-flagged (block * 8 + n) middle (omega arith) (omega (arith, h.kept.long)) in
          record {
            kept = kept_on h.kept s.kept;
            own = λ l a b.
                elim (ℕ_discrete (l % 8) n) [
                  | yes e ↦
                      let here : l ≡ block * 8 + n = omega arith in
                      ap (collected_at pages (flagged_line w pages index (block * 8 + n) middle)) here
                      ∙ (s.own
                      ∙ (ap (λ (m : ℕ). effective w index m || collected_at pages middle m) (sym here)
                      ∙ ap (λ (x : Bool). effective w index l || x) (h.later l (omega arith))))
                  | no d ↦ s.other l (λ z. d (omega (arith, z))) ∙ h.own l a (omega arith)
                ];
            later = λ l b. s.other l (λ z. absurd (omega (arith, z))) ∙ h.later l (omega arith);
            other = λ l d. s.other l (λ z. d (omega (arith, z))) ∙ h.other l d;
          }

  -- A page's lines.
  record PageFlagged (block : ℕ) (now after : List ℕ) : Type 0 where
    kept : Kept pages w.lines now after
    line : (l : ℕ) → l < w.lines → collected_at pages after l ≡ (eqb block (l / 8) && effective w index l || collected_at pages now l)

  page-flagged : (block : ℕ) (now : List ℕ) → w.lines % 8 ≡ 0 → pages + w.lines ≤ length now → PageFlagged block now (flagged_page w pages index block now)
  unfolding flagged_page
  page-flagged block now by long = go (dec_lt block (blocks_of w))
    where
      told : (b : Bool) (l : ℕ) → eqb block (l / 8) ≡ b → (b && effective w index l || collected_at pages now l) ≡ (eqb block (l / 8) && effective w index l || collected_at pages now l)
      told b l e = ap (λ (t : Bool). t && effective w index l || collected_at pages now l) (sym e)

      line-at : (after : List ℕ) (l : ℕ) → LinesFlagged block 8 now after → collected_at pages after l ≡ (eqb block (l / 8) && effective w index l || collected_at pages now l)
      line-at after l h =
          elim (ℕ_discrete block (l / 8)) [
            | yes e ↦ h.own l (sym e) (omega arith) ∙ told true l (eq-eqb block (l / 8) e)
            | no d ↦ h.other l (λ z. d (sym z)) ∙ told false l (ne_eqb block (l / 8) d)
          ]

      go : Dec (block < blocks_of w) → PageFlagged block now (cond (ltb block (blocks_of w)) (flagged_lines w pages index block 8 now) now)
      go (yes b) =
          let h = lines-flagged block 8 now (omega arith) (omega arith) long in
          subst (λ (t : Bool). PageFlagged block now (cond t (flagged_lines w pages index block 8 now) now)) (sym (lt-ltb block (blocks_of w) b))
          (record { kept = h.kept; line = λ l c. line-at (flagged_lines w pages index block 8 now) l h })
      go (no b) =
          subst (λ (t : Bool). PageFlagged block now (cond t (flagged_lines w pages index block 8 now) now)) (sym (le-ltb block (blocks_of w) (omega arith)))
          (record { kept = kept_same pages w.lines now; line = λ l c. told false l (ne_eqb block (l / 8) (λ z. absurd (omega (arith, z)))) })

or_assoc : (a b c : Bool) → (a || (b || c)) ≡ (a || b || c)
or_assoc true b c = refl
or_assoc false b c = refl

-- The ring's first pages: a line is collected if one of them has it.
module _ (w : Written) (pages first : ℕ) (owners : List ℕ) where
  abbrev owner : ℕ → ℕ
  owner i = get_or owners (nth_page pages first i) 0

  pub record PagesFlagged (n : ℕ) (after : List ℕ) : Type 0 where
    pub kept : Kept pages w.lines owners after
    pub line : (l : ℕ) → l < w.lines → collected_at pages after l ≡ (any n (hit w pages first owners l) || collected_at pages owners l)

  pub pages-flagged : (n : ℕ) → w.lines % 8 ≡ 0 → pages + w.lines ≤ length owners → PagesFlagged n (flagged_pages w pages first owners n)
  unfolding flagged_pages any
  pages-flagged zero by long = record { kept = kept_same pages w.lines owners; line = λ l b. refl }
  pages-flagged (suc n) by long = next (flagged_pages w pages first owners n) (pages-flagged n by long)
    where
      next : (now : List ℕ) → PagesFlagged n now → PagesFlagged (suc n) (flagged_page w pages (owner_index w.frames w.omf (owner n)) (owner n % 512) now)
      next now h =
          let s = page-flagged w pages (owner_index w.frames w.omf (owner n)) (owner n % 512) now by (omega (arith, long, h.kept.long)) in
          record {
            kept = kept_on h.kept s.kept;
            line = λ l b.
                s.line l b
                ∙ (ap (λ (x : Bool). hit w pages first owners l n || x) (h.line l b)
                ∙ or_assoc (hit w pages first owners l n) (any n (hit w pages first owners l)) (collected_at pages owners l));
          }

-- What a fold leaves of the owners: those of the pages, so that what goes by them stays.
pub fold-kept : (w : Written) (pages first used archive pool : ℕ) (owners after : List ℕ) (n : ℕ) → AsksFold w pages first used archive pool (length owners)
    → after ≡ flagged_pages w pages first owners n → Kept pages w.lines owners after
fold-kept w pages first used archive pool owners after n ask e =
    subst (Kept pages w.lines owners) (sym e) (pages-flagged w pages first owners n ask.lines_by ask.owners_long).kept

module _ (pages lines first : ℕ) (owners after : List ℕ) (below : first < pages) (h : Kept pages lines owners after) where
  pub indexes-kept : (frames omf : ℕ) → index_at frames omf pages first after ≡ index_at frames omf pages first owners
  unfolding index_at
  indexes-kept frames omf = fun_ext (λ i. ap (owner_index frames omf) (h.below (nth_page pages first i) (frame_below pages first below i)))

  pub cleared-kept : (n : ℕ) (groups : List ℕ) → cleared_pages lines pages first after n groups ≡ cleared_pages lines pages first owners n groups
  unfolding cleared_pages
  cleared-kept zero groups = refl
  cleared-kept (suc n) groups = ap₂ (cleared_page lines) (h.below (nth_page pages first n) (frame_below pages first below n)) (cleared-kept n groups)
