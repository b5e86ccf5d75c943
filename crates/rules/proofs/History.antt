-- Every well-formed figure is the picture of some surviving history: each version is written anew, byte by byte, in a group of its frame.
-- Assumes nothing.
use mathlib.Core.Path.{◌≡◌, refl, sym, ◌∙◌, ap, ap₂, subst}
use mathlib.Core.Bool.{Bool, true, false, cond, ◌||◌, or_assoc}
use mathlib.Core.Option
use mathlib.Core.Option.{Option, none, some}
use mathlib.Core.List.{List, [], ◌∷◌, ◌++◌, append-nil}
use mathlib.Core.Logic.{◌≢◌}
use Prim.Native.Nat.{ℕ, zero, suc, ◌+◌, ◌*◌, ◌/◌, ◌%◌, ◌≤◌, ◌<◌}
use native.Mathlib.Nat.{mod-one, mod-eq_of_lt, div-one}
use native.Mathlib.Decide.{ℕ_discrete}
use native.Mathlib.Omega.{arith}
use borrow.Author.Tests.{eq-eqb, ne_eqb, lt-ltb, le-leb}
use lib.Arith.{digits_div, digits_mod}
use lib.Dec.{eqb}
use lib.ListN.{length, get_or, take}
use lib.Seq.{take_all, take-append-le, take-take, length-take-le, drop_at}
use Rattle.rules.specs.Settings.{Settings}
use Rattle.rules.specs.Line.{Line, Memory, IsLine, bytes_of, edit, line_of, offset_of}
use Rattle.rules.specs.Refusal.{is_width, place_refusal, write_refusal}
use Rattle.rules.specs.Plain.{Group, Plain, play, play_group, play_all, touches, Each, Acceptable, Surviving}
use Rattle.rules.specs.Figure2.{Figure, is_written, version_in, figure_seen}
use Rattle.rules.specs.Promise.{WellFigure}
use Rattle.rules.specs.Seen.{Seen}
use Rattle.rules.proofs.Chain.{passes}
use Rattle.rules.proofs.Picture.{frame_in, picture, untouched, seen-is}

-- the writes of bytes, from an address on
bytes_from : ℕ → List ℕ → Group
bytes_from a [] = []
bytes_from a (b ∷ bs) = record { width = 1; address = a; value = b } ∷ bytes_from (a + 1) bs

writes_of : ℕ → Option Line → Group
writes_of l none = []
writes_of l (some x) = bytes_from (l * 16 + 0) x

-- the versions of the first n lines of a frame
group_of : ℕ → (ℕ → Option Line) → Group
group_of zero row = []
group_of (suc n) row = writes_of n (row n) ++ group_of n row

groups_of : (lines n : ℕ) → (ℕ → ℕ → Option Line) → List Group
groups_of lines zero rows = []
groups_of lines (suc n) rows = group_of lines (rows 0) ∷ groups_of lines n (λ j. rows (suc j))

touches-append : (g h : Group) (l : ℕ) → touches (g ++ h) l ≡ (touches g l || touches h l)
unfolding touches
touches-append [] h l = refl
touches-append (w ∷ g) h l =
    ap (λ (b : Bool). eqb (line_of w.address) l || b) (touches-append g h l) ∙ sym (or_assoc (eqb (line_of w.address) l) (touches g l) (touches h l))

play-append : (g h : Group) (m : Memory) → play_group (g ++ h) m ≡ play_group g (play_group h m)
unfolding play_group
play-append [] h m = refl
play-append (w ∷ g) h m = ap (play w) (play-append g h m)

module _ (l : ℕ) where
  in-own : (i : ℕ) → i < 16 → line_of (l * 16 + i) ≡ l
  in-own i h = digits_div l h

  bytes-other : (xs : List ℕ) (i k : ℕ) → k ≢ l → i + length xs ≤ 16 → touches (bytes_from (l * 16 + i) xs) k ≡ false
  unfolding bytes_from touches
  bytes-other [] i k d h = refl
  bytes-other (x ∷ xs) i k d h =
      ap₂ (λ (a b : Bool). a || b) (ne_eqb _ k (λ e. d (sym e ∙ in-own i (omega arith))))
      (ap (λ (a : ℕ). touches (bytes_from a xs) k) (omega arith) ∙ bytes-other xs (i + 1) k d (omega arith))

  bytes-own : (x : ℕ) (xs : List ℕ) (i : ℕ) → i < 16 → touches (bytes_from (l * 16 + i) (x ∷ xs)) l ≡ true
  unfolding bytes_from touches
  bytes-own x xs i h = ap (λ (a : Bool). a || touches (bytes_from (l * 16 + i + 1) xs) l) (eq-eqb _ l (in-own i h))

  -- a byte put at its place in a line
  put_byte : (x i : ℕ) (y xs : Line) → x < 256 → i + 1 ≤ length y → edit 1 i x (take (i + 1) y ++ xs) ≡ take i y ++ (x ∷ xs)
  unfolding edit bytes_of
  put_byte x i y xs small h =
      let long : length (take (i + 1) y) ≡ i + 1 = length-take-le (i + 1) y h in
      ap₂ (λ (a b : Line). a ++ (x / 1 % 256 ∷ b))
      (take-append-le i (take (i + 1) y) xs (omega arith) ∙ take-take i (i + 1) y (omega arith))
      (drop_at (take (i + 1) y) xs (i + 1) long)
      ∙ ap (λ (b : ℕ). take i y ++ (b ∷ xs)) (ap (λ (a : ℕ). a % 256) (div-one x) ∙ mod-eq_of_lt small)

  -- the bytes of a line, from an offset on, take the place of what stood there
  play-bytes : (xs : List ℕ) (i : ℕ) (m : Memory) → ((k : ℕ) → get_or xs k 0 < 256) → i + length xs ≡ 16 → length (m l) ≡ 16
      → play_group (bytes_from (l * 16 + i) xs) m l ≡ take i (m l) ++ xs
  unfolding bytes_from play_group play
  play-bytes [] i m small h long = sym (take_all i (m l) (omega arith)) ∙ sym (append-nil (take i (m l)))
  play-bytes (x ∷ xs) i m small h long =
      let rest : Memory = play_group (bytes_from (l * 16 + i + 1) xs) m in
      let later : rest l ≡ take (i + 1) (m l) ++ xs =
      ap (λ (a : ℕ). play_group (bytes_from a xs) m l) (omega arith)
      ∙ play-bytes xs (i + 1) m (λ k. small (suc k)) (omega arith) long
      in
      ap (λ (b : Bool). cond b (edit 1 (offset_of (l * 16 + i)) x (rest l)) (rest l)) (eq-eqb _ l (in-own i (omega arith)))
      ∙ (ap₂ (λ (o : ℕ) (y : Line). edit 1 o x y) (digits_mod l (omega arith)) later
      ∙ put_byte x i (m l) xs (small 0) (omega arith))

  writes-other : (o : Option Line) → ((x : Line) → o ≡ some x → IsLine x) → (k : ℕ) → k ≢ l → touches (writes_of l o) k ≡ false
  unfolding writes_of touches
  writes-other none line k d = refl
  writes-other (some x) line k d = bytes-other x 0 k d (omega (arith, (line x refl).long))

  writes-own : (o : Option Line) → ((x : Line) → o ≡ some x → IsLine x) → touches (writes_of l o) l ≡ is_written o
  unfolding writes_of touches is_written
  writes-own none line = refl
  writes-own (some []) line = absurd (omega (arith, (line [] refl).long))
  writes-own (some (x ∷ xs)) line = bytes-own x xs 0 (omega arith)

  play-own : (o : Option Line) → ((x : Line) → o ≡ some x → IsLine x) → (m : Memory) → length (m l) ≡ 16
      → play_group (writes_of l o) m l ≡ Option.get_or o (m l)
  unfolding writes_of play_group
  play-own none line m long = refl
  play-own (some x) line m long = play-bytes x 0 m (line x refl).small (omega (arith, (line x refl).long)) long

-- A frame's group touches and writes just what the frame holds among the first n lines.
module _ (row : ℕ → Option Line) (line : (l : ℕ) (x : Line) → row l ≡ some x → IsLine x) where
  touches-above : (n k : ℕ) → n ≤ k → touches (group_of n row) k ≡ false
  unfolding group_of touches
  touches-above zero k h = refl
  touches-above (suc n) k h =
      touches-append (writes_of n (row n)) (group_of n row) k
      ∙ ap₂ (λ (a b : Bool). a || b) (writes-other n (row n) (line n) k (omega arith)) (touches-above n k (omega arith))

  play-above : (n k : ℕ) (m : Memory) → n ≤ k → play_group (group_of n row) m k ≡ m k
  play-above n k m h = untouched (group_of n row) m k (touches-above n k h)

  touches-below : (n k : ℕ) → k < n → touches (group_of n row) k ≡ is_written (row k)
  unfolding group_of
  touches-below zero k h = absurd (omega arith)
  touches-below (suc n) k h =
      touches-append (writes_of n (row n)) (group_of n row) k ∙ go (ℕ_discrete k n) (λ d. touches-below n k (omega arith))
    where
      go : Dec (k ≡ n) → (k ≢ n → touches (group_of n row) k ≡ is_written (row k))
          → (touches (writes_of n (row n)) k || touches (group_of n row) k) ≡ is_written (row k)
      go (yes e) ih =
          subst (λ (z : ℕ). (touches (writes_of n (row n)) z || touches (group_of n row) z) ≡ is_written (row z)) (sym e)
          (ap₂ (λ (a b : Bool). a || b) (writes-own n (row n) (line n)) (touches-above n n (omega arith))
          ∙ mathlib.Core.Bool.or-false (is_written (row n)))
      go (no d) ih = ap₂ (λ (a b : Bool). a || b) (writes-other n (row n) (line n) k d) (ih d)

  play-below : (n k : ℕ) (m : Memory) → k < n → length (m k) ≡ 16 → play_group (group_of n row) m k ≡ Option.get_or (row k) (m k)
  unfolding group_of
  play-below zero k m h long = absurd (omega arith)
  play-below (suc n) k m h long =
      ap (λ (f : Memory). f k) (play-append (writes_of n (row n)) (group_of n row) m)
      ∙ go (ℕ_discrete k n) (λ d. play-below n k m (omega arith) long)
    where
      go : Dec (k ≡ n) → (k ≢ n → play_group (group_of n row) m k ≡ Option.get_or (row k) (m k))
          → play_group (writes_of n (row n)) (play_group (group_of n row) m) k ≡ Option.get_or (row k) (m k)
      go (yes e) ih =
          subst (λ (z : ℕ). play_group (writes_of n (row n)) (play_group (group_of n row) m) z ≡ Option.get_or (row z) (m z)) (sym e)
          (play-own n (row n) (line n) (play_group (group_of n row) m)
          (ap length (play-above n n m (omega arith)) ∙ (ap (λ (z : ℕ). length (m z)) (sym e) ∙ long))
          ∙ ap (Option.get_or (row n)) (play-above n n m (omega arith)))
      go (no d) ih =
          untouched (writes_of n (row n)) (play_group (group_of n row) m) k (writes-other n (row n) (line n) k d) ∙ ih d

  -- so at all lines, where the frame holds nothing past them
  module _ (lines : ℕ) (only : (l : ℕ) → lines ≤ l → row l ≡ none) where
    touches-is : (k : ℕ) → touches (group_of lines row) k ≡ is_written (row k)
    unfolding is_written
    touches-is k = go (native.Mathlib.Decide.dec_lt k lines)
      where
        go : Dec (k < lines) → touches (group_of lines row) k ≡ is_written (row k)
        go (yes h) = touches-below lines k h
        go (no h) = touches-above lines k (omega arith) ∙ sym (ap is_written (only k (omega arith)))

    play-is : (m : Memory) (k : ℕ) → length (m k) ≡ 16 → play_group (group_of lines row) m k ≡ Option.get_or (row k) (m k)
    play-is m k long = go (native.Mathlib.Decide.dec_lt k lines)
      where
        go : Dec (k < lines) → play_group (group_of lines row) m k ≡ Option.get_or (row k) (m k)
        go (yes h) = play-below lines k m h long
        go (no h) =
            play-above lines k m (omega arith) ∙ sym (ap (λ (o : Option Line). Option.get_or o (m k)) (only k (omega arith)))

-- The frames of a figure, as far as they matter here.
record Rows (lines n : ℕ) (rows : ℕ → ℕ → Option Line) : Type 0 where
  only_live : (j l : ℕ) → n ≤ j → rows j l ≡ none
  only_lines : (j l : ℕ) → lines ≤ l → rows j l ≡ none
  line : (j l : ℕ) (x : Line) → rows j l ≡ some x → IsLine x

older : (lines n : ℕ) (rows : ℕ → ℕ → Option Line) → Rows lines (suc n) rows → Rows lines n (λ j. rows (suc j))
older lines n rows q =
    record {
      only_live = λ j l h. q.only_live (suc j) l (omega arith);
      only_lines = λ j. q.only_lines (suc j);
      line = λ j. q.line (suc j);
    }

pub version_line : (n : ℕ) (row : ℕ → Option Line) (other : Line) → ((j : ℕ) (x : Line) → row j ≡ some x → IsLine x) → IsLine other
    → IsLine (version_in n row other)
unfolding version_in
version_line zero row other line h = h
version_line (suc n) row other line h = go (row 0) refl (version_line n (λ j. row (suc j)) other (λ j. line (suc j)) h)
  where
    go : (o : Option Line) → row 0 ≡ o → IsLine (version_in n (λ j. row (suc j)) other)
        → IsLine (Option.get_or o (version_in n (λ j. row (suc j)) other))
    go none e ih = ih
    go (some x) e ih = line 0 x e

module _ (lines : ℕ) (base : Memory) (base_line : (l : ℕ) → IsLine (base l)) where
  -- playing all groups gives the most recent version
  play-groups : (n : ℕ) (rows : ℕ → ℕ → Option Line) → Rows lines n rows → (l : ℕ)
      → play_all (groups_of lines n rows) base l ≡ version_in n (λ j. rows j l) (base l)
  unfolding groups_of play_all version_in
  play-groups zero rows q l = refl
  play-groups (suc n) rows q l =
      let below = play-groups n (λ j. rows (suc j)) (older lines n rows q) l in
      let long = (version_line n (λ j. rows (suc j) l) (base l) (λ j. q.line (suc j) l) (base_line l)).long in
      play-is (rows 0) (q.line 0) lines (q.only_lines 0) (play_all (groups_of lines n (λ j. rows (suc j))) base) l (ap length below ∙ long)
      ∙ ap (Option.get_or (rows 0 l)) below

  version-back : (o : Option Line) (other : Line) → cond (is_written o) (some (Option.get_or o other)) none ≡ o
  unfolding is_written
  version-back none other = refl
  version-back (some x) other = refl

  -- and the picture of the groups is the rows
  frames-back : (n : ℕ) (rows : ℕ → ℕ → Option Line) → Rows lines n rows → (j l : ℕ) → frame_in (groups_of lines n rows) base j l ≡ rows j l
  unfolding frame_in groups_of touches version_in
  frames-back zero rows q j l = sym (q.only_live j l (omega arith))
  frames-back (suc n) rows q zero l =
      ap₂ (λ (b : Bool) (x : Line). cond b (some x) none)
      (touches-is (rows 0) (q.line 0) lines (q.only_lines 0) l)
      (play-groups (suc n) rows q l)
      ∙ version-back (rows 0 l) (version_in n (λ j. rows (suc j) l) (base l))
  frames-back (suc n) rows q (suc j) l = frames-back n (λ j. rows (suc j)) (older lines n rows q) j l

  groups-length : (n : ℕ) (rows : ℕ → ℕ → Option Line) → length (groups_of lines n rows) ≡ n
  unfolding groups_of
  groups-length zero rows = refl
  groups-length (suc n) rows = ap suc (groups-length n (λ j. rows (suc j)))

each_append : {A : Type 0} (P : A → Type 0) (xs ys : List A) → Each P xs → Each P ys → Each P (xs ++ ys)
each_append P [] ys p q = q
each_append P (x ∷ xs) ys p q = (p.0, each_append P xs ys p.1 q)

-- The writes are such as a WRITE is accepted for.
module _ (s : Settings) where
  byte-acceptable : (a x : ℕ) → a + 1 ≤ 16 * s.lines → x < 256 → Acceptable s (record { width = 1; address = a; value = x })
  unfolding write_refusal place_refusal is_width
  byte-acceptable a x h small =
      passes true 7 _ 0 refl
      (passes (eqb (a % 1) 0) 8 _ 0 (eq-eqb (a % 1) 0 (mod-one a))
      (passes _ 9 _ 0 (le-leb (a + 1) (16 * s.lines) h) (passes _ 10 0 0 (lt-ltb x 256 small) refl)))

  bytes-acceptable : (l : ℕ) → l < s.lines → (xs : List ℕ) (i : ℕ) → i + length xs ≤ 16 → ((k : ℕ) → get_or xs k 0 < 256)
      → Each (Acceptable s) (bytes_from (l * 16 + i) xs)
  unfolding bytes_from
  bytes-acceptable l h [] i fits small = tt
  bytes-acceptable l h (x ∷ xs) i fits small = (
    byte-acceptable (l * 16 + i) x (omega arith) (small 0),
    subst (λ (a : ℕ). Each (Acceptable s) (bytes_from a xs)) (omega arith)
        (bytes-acceptable l h xs (i + 1) (omega arith) (λ k. small (suc k))),
  )

  writes-acceptable : (l : ℕ) → l < s.lines → (o : Option Line) → ((x : Line) → o ≡ some x → IsLine x) → Each (Acceptable s) (writes_of l o)
  unfolding writes_of
  writes-acceptable l h none line = tt
  writes-acceptable l h (some x) line = bytes-acceptable l h x 0 (omega (arith, (line x refl).long)) (line x refl).small

  group-acceptable : (n : ℕ) (row : ℕ → Option Line) → n ≤ s.lines → ((l : ℕ) (x : Line) → row l ≡ some x → IsLine x)
      → Each (Acceptable s) (group_of n row)
  unfolding group_of
  group-acceptable zero row h line = tt
  group-acceptable (suc n) row h line =
      each_append (Acceptable s) (writes_of n (row n)) (group_of n row) (writes-acceptable n h (row n) (line n))
      (group-acceptable n row (omega arith) line)

  groups-acceptable : (n : ℕ) (rows : ℕ → ℕ → Option Line) → ((j l : ℕ) (x : Line) → rows j l ≡ some x → IsLine x)
      → Each (Each (Acceptable s)) (groups_of s.lines n rows)
  unfolding groups_of
  groups-acceptable zero rows line = tt
  groups-acceptable (suc n) rows line =
      (group-acceptable s.lines (rows 0) (omega arith) (line 0), groups-acceptable n (λ j. rows (suc j)) (λ j. line (suc j)))

  -- The history that a figure shows.
  pub drawn : Figure → Plain
  drawn f = record { settings = s; base = f.archive; collected = f.collected; groups = groups_of s.lines f.live f.frame }

  pub drawn-settings : (f : Figure) → (drawn f).settings ≡ s
  unfolding drawn
  drawn-settings f = refl

  -- A well-formed figure is its picture,
  pub picture-drawn : (f : Figure) → WellFigure s f → picture (drawn f) ≡ f
  unfolding picture drawn
  picture-drawn f w =
      let q : Rows s.lines f.live f.frame = record { only_live = w.only_live; only_lines = w.only_lines; line = w.line } in
      λ i. record {
        live = groups-length s.lines f.archive w.archive_line f.live f.frame i;
        frame = λ j l. frames-back s.lines f.archive w.archive_line f.live f.frame q j l i;
        archive = f.archive;
        collected = f.collected;
      }

  -- and it is a history that calls can have left.
  pub drawn-survives : (f : Figure) → WellFigure s f → Surviving (drawn f)
  unfolding drawn
  drawn-survives f w =
      let long = groups-length s.lines f.archive w.archive_line f.live f.frame in
      record {
        some_group = rw long w.some_live;
        in_circle = rw long w.in_circle;
        writes = groups-acceptable f.live f.frame w.line;
        base_line = w.archive_line;
        collected_lines = w.collected_lines;
        base_empty = w.archive_empty;
        pages = subst (λ (v : Seen). v.pages ≤ s.pages) (sym (ap (figure_seen s) (picture-drawn f w)) ∙ seen-is (drawn f)) w.pages;
      }
