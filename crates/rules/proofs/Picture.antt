-- The picture that a surviving history draws in Figure 2: what there is to see is the same, and each step of the plain store
-- is Figure 2's step of its picture. Assumes nothing.
use mathlib.Core.Path.{◌≡◌, refl, sym, ◌∙◌, ap, ap₂, fun_ext}
use mathlib.Core.Bool.{Bool, true, false, cond, ◌||◌}
use mathlib.Core.Option
use mathlib.Core.Option.{Option, none, some}
use mathlib.Core.List.{List, [], ◌∷◌}
use Prim.Native.Nat.{ℕ, suc, ◌+◌, ◌/◌}
use lib.Dec.{eqb}
use lib.ListN.{length, get_or, drop}
use Rattle.rules.specs.Line.{Line, Memory, edit, line_of, offset_of}
use Rattle.rules.specs.Call.{Place}
use Rattle.rules.specs.Call.Place.{in_frame}
use Rattle.rules.specs.Seen.{further, any, count, needs}
use Rattle.rules.specs.Plain.{Group, Plain, play, play_group, play_all, touches, touched_in, origin_in, pages_in, newest, plain_seen}
use Rattle.rules.proofs.Count.{any-first}
use Rattle.rules.specs.Figure2.{Figure, is_written, version_in, found_in, pages_of, mrv, figure_seen}

-- a frame of the picture: where the group writes the line, the line with this group and all older ones played
unfoldable pub frame_in : List Group → Memory → ℕ → ℕ → Option Line
frame_in gs base j l = cond (touches (get_or gs j []) l) (some (play_all (drop j gs) base l)) none

unfoldable pub picture : Plain → Figure
picture p = record { live = length p.groups; frame = frame_in p.groups p.base; archive = p.base; collected = p.collected }

pub get_or-cond : (b : Bool) (x y : Line) → Option.get_or (cond b (some x) none) y ≡ cond b x y
get_or-cond true x y = refl
get_or-cond false x y = refl

is_written-cond : (b : Bool) (x : Line) → is_written (cond b (some x) none) ≡ b
unfolding is_written
is_written-cond true x = refl
is_written-cond false x = refl

pub touched-is : (gs : List Group) (base : Memory) (j l : ℕ) → is_written (frame_in gs base j l) ≡ touches (get_or gs j []) l
unfolding frame_in
touched-is gs base j l = is_written-cond (touches (get_or gs j []) l) (play_all (drop j gs) base l)

-- a group leaves the lines in which it has no write
pub untouched : (g : Group) (m : Memory) (l : ℕ) → touches g l ≡ false → play_group g m l ≡ m l
unfolding touches play_group play
untouched [] m l e = refl
untouched (w ∷ g) m l e = go (eqb (line_of w.address) l) e (untouched g m l)
  where
    go : (b : Bool) → (b || touches g l) ≡ false → (touches g l ≡ false → play_group g m l ≡ m l)
        → cond b (edit w.width (offset_of w.address) w.value (play_group g m l)) (play_group g m l) ≡ m l
    go true e ih = absurd (mathlib.Core.Bool.true≢false e)
    go false e ih = ih e

pub or-false : (a b : Bool) → (a || b) ≡ false → (a ≡ false) × (b ≡ false)
or-false true b e = absurd (mathlib.Core.Bool.true≢false e)
or-false false b e = (refl, e)

pub untouched-all : (gs : List Group) (m : Memory) (l : ℕ) → touched_in gs l ≡ false → play_all gs m l ≡ m l
unfolding touched_in play_all
untouched-all [] m l e = refl
untouched-all (g ∷ gs) m l e =
    let h = or-false (touches g l) (touched_in gs l) e in
    untouched g (play_all gs m) l h.0 ∙ untouched-all gs m l h.1

-- the search finds what playing all groups gives
pub version-is : (gs : List Group) (base : Memory) (l : ℕ) → version_in (length gs) (λ j. frame_in gs base j l) (base l) ≡ play_all gs base l
unfolding version_in frame_in play_all
version-is [] base l = refl
version-is (g ∷ gs) base l = get_or-cond (touches g l) _ _ ∙ go (touches g l) refl (version-is gs base l)
  where
    go : (b : Bool) → touches g l ≡ b → version_in (length gs) (λ j. frame_in gs base j l) (base l) ≡ play_all gs base l
        → cond b (play_group g (play_all gs base) l) (version_in (length gs) (λ j. frame_in gs base j l) (base l)) ≡ play_group g (play_all gs base) l
    go true e ih = refl
    go false e ih = ih ∙ sym (untouched g (play_all gs base) l e)

origin_is : (gs : List Group) (base : Memory) (l : ℕ) → found_in (length gs) (λ j. is_written (frame_in gs base j l)) ≡ origin_in gs l
unfolding found_in origin_in frame_in
origin_is [] base l = refl
origin_is (g ∷ gs) base l =
    ap₂ (λ (b : Bool) (o : Place). cond b (in_frame 0) (further o)) (is_written-cond (touches g l) _) (origin_is gs base l)

pages-is : (blocks : ℕ) (gs : List Group) (base : Memory)
    → pages_of blocks (length gs) (λ j l. is_written (frame_in gs base j l)) ≡ pages_in blocks gs
unfolding pages_of pages_in frame_in
pages-is blocks [] base = refl
pages-is blocks (g ∷ gs) base =
    ap₂ (λ (row : ℕ → Bool) (n : ℕ). count blocks (needs row) + n) (fun_ext (λ l. is_written-cond (touches g l) _))
    (pages-is blocks gs base)

current-is : (gs : List Group) (base : Memory) → (λ l. is_written (frame_in gs base 0 l)) ≡ touches (newest gs)
unfolding newest
current-is [] base = fun_ext (λ l. touched-is [] base 0 l)
current-is (g ∷ gs) base = fun_ext (λ l. touched-is (g ∷ gs) base 0 l)

-- some group writes a line just where some frame of the picture has it
pub touched-any : (gs : List Group) (base : Memory) (l : ℕ) → touched_in gs l ≡ any (length gs) (λ j. is_written (frame_in gs base j l))
unfolding touched_in any
touched-any [] base l = refl
touched-any (g ∷ gs) base l =
    ap₂ (λ (a b : Bool). a || b) (sym (touched-is (g ∷ gs) base 0 l)) (touched-any gs base l ∙ later)
    ∙ sym (any-first (length gs) (λ j. is_written (frame_in (g ∷ gs) base j l)))
  where
    later : any (length gs) (λ j. is_written (frame_in gs base j l)) ≡ any (length gs) (λ j. is_written (frame_in (g ∷ gs) base (suc j) l))
    later = ap (any (length gs)) (fun_ext (λ j. touched-is gs base j l ∙ sym (touched-is (g ∷ gs) base (suc j) l)))

-- what there is to see of the picture is what there is to see of the plain store
pub seen-is : (p : Plain) → figure_seen p.settings (picture p) ≡ plain_seen p
unfolding figure_seen plain_seen picture mrv
seen-is p = λ i. record {
  live = length p.groups;
  pages = pages-is (p.settings.lines / 8) p.groups p.base i;
  current = needs (current-is p.groups p.base i);
  latest = λ l. version-is p.groups p.base l i;
  origin = λ l. origin_is p.groups p.base l i;
  touched = λ l. sym (touched-any p.groups p.base l) i || p.collected l;
}
