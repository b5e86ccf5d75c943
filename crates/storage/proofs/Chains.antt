-- A chain of tests before the rest of a call's refusals, and the returns of the functions that make the tests. Assumes nothing.
use Rattle.std.specs.Prelude.{Option, Result, Ok, Err}
use Rattle.std.specs.Result.{result_and}
use Rattle.rules.specs.declared.Refusal.{Refusal}
use Rattle.rules.specs.declared.Refusal.TheVariants as refusal
use Rattle.rules.specs.Refusals.{number, refusal_in}
use Rattle.rules.proofs.Refusals.{number-some}
use mathlib.Core.Path.{◌≡◌, refl, sym, ◌∙◌, ap, ap₂, subst}
use mathlib.Core.Logic.{◌≢◌, ◌⊎◌, inl, inr}
use mathlib.Core.Bool.{Bool, true, false, not, ◌&&◌, ◌||◌, and-false, false≢true}
use mathlib.Core.List.{List}
use Prim.Native.Nat.{ℕ, ◌+◌, ◌-◌, ◌*◌, ◌%◌, ◌^◌, ◌≤◌, ◌<◌}
use native.Mathlib.Nat.{mod-one}
use native.Mathlib.Omega.{arith}
use borrow.Author.Tests.{ltb-true, not-true, not-false, eqb-true, eqb-false, lt-ltb, le-ltb, le-leb, lt-leb, eq-eqb, ne_eqb}
use lib.Dec.{ltb, leb, eqb}
use Rattle.rules.specs.Settings.{Settings, Pieces, enough}
use Rattle.rules.specs.Line.{offset_of}
use Rattle.rules.specs.Registers.{Registers, live_frames, state_fits}
use Rattle.rules.specs.Refusal.{unless, is_width, asked_refusal, line_refusal, marked_refusal, place_refusal, write_refusal, list_refusal, facts_by, state_refusal}
use Rattle.rules.proofs.Chain.{Placed, fails, passes, passed, place-passed, write-passed, marked-passed}
use Rattle.rules.proofs.Width.{widths, in-line, line_below}
use Rattle.written.specs.Bits.{written_of, newest_from}
use Rattle.lists.specs.Lines.{AsksBytes}
use Rattle.lists.proofs.Values.{four}
use Rattle.versions.specs.Newest.{AsksSpot, spot_of, AsksContent}
use Rattle.versions.proofs.Finding.{newest-below, content-asks}
use Rattle.storage.specs.Admit.{admitted, LineRoom, PlaceRoom, FramesRoom, Admits}
use Rattle.storage.proofs.Admitting.{admitted-room, room-passed}

-- Tests in a row either pass, and the rest decides, or give one refusal whatever comes after them.
abbrev Links : (ℕ → ℕ) → Type 0
Links G = ((rest : ℕ) → G rest ≡ rest) ⊎ ((n : ℕ) × (n ≢ 0) × ((rest : ℕ) → G rest ≡ n))

link : (b : Bool) (n : ℕ) → n ≢ 0 → Links (unless b n)
unfolding unless
link true n h = inl (λ rest. refl)
link false n h = inr (n, h, λ rest. refl)

join : (G H : ℕ → ℕ) → Links G → Links H → Links (λ rest. G (H rest))
join G H (inl g) (inl h) = inl (λ rest. g (H rest) ∙ h rest)
join G H (inl g) (inr h) = inr (h.0, h.1, λ rest. g (H rest) ∙ h.2 rest)
join G H (inr g) h = inr (g.0, g.1, λ rest. g.2 (H rest))

turned : (G : ℕ → ℕ) → Links G → (a rest : ℕ) → a ≡ G 0 → a ≢ 0 → a ≡ G rest
turned G (inl g) a rest e z = absurd (z (e ∙ g 0))
turned G (inr g) a rest e z = e ∙ (g.2 0 ∙ sym (g.2 rest))

passes_on : (G : ℕ → ℕ) → Links G → (a : ℕ) → a ≡ G 0 → a ≡ 0 → (r rest : ℕ) → r ≡ rest → r ≡ G rest
passes_on G (inl g) a e z r rest d = d ∙ sym (g rest)
passes_on G (inr g) a e z r rest d = absurd (g.1 (sym (g.2 0) ∙ (sym e ∙ z)))

pub width_few : (w : ℕ) → is_width w ≡ true → (0 < w) × (w ≤ 4)
unfolding is_width
width_few w h = go (eqb w 1) (eqb w 2) (eqb w 4) refl refl refl h
  where
    go : (a b c : Bool) → eqb w 1 ≡ a → eqb w 2 ≡ b → eqb w 4 ≡ c → (a || b || c) ≡ true → (0 < w) × (w ≤ 4)
    go true b c p q r h = rw (eqb-true w 1 p) (omega arith, omega arith)
    go false true c p q r h = rw (eqb-true w 2 q) (omega arith, omega arith)
    go false false true p q r h = rw (eqb-true w 4 r) (omega arith, omega arith)
    go false false false p q r h = absurd (false≢true h)

-- The width's test and the value's, in the form in which the code has them.
module _ (w : ℕ) where
  pub width_is : (w ≡ 1) ⊎ ((w ≡ 2) ⊎ (w ≡ 4)) → true ≡ is_width w
  unfolding is_width
  width_is (inl h) = rw h refl
  width_is (inr (inl h)) = rw h refl
  width_is (inr (inr h)) = rw h refl

  pub width-none : w ≢ 1 → w ≢ 2 → w ≢ 4 → false ≡ is_width w
  unfolding is_width
  width-none a b c = sym (ap₂ (λ (s t : Bool). s || t || eqb w 4) (ne_eqb w 1 a) (ne_eqb w 2 b) ∙ ne_eqb w 4 c)

  module _ (v : ℕ) where
    pub value-below : (n : ℕ) → w ≡ n → v < 256 ^ n → true ≡ ltb v (256 ^ w)
    value-below n e h = sym (lt-ltb v (256 ^ w) (subst (λ (m : ℕ). v < 256 ^ m) (sym e) h))

    pub value-above : (n : ℕ) → w ≡ n → 256 ^ n ≤ v → false ≡ ltb v (256 ^ w)
    value-above n e h = sym (le-ltb v (256 ^ w) (subst (λ (m : ℕ). 256 ^ m ≤ v) (sym e) h))

    pub value-four : is_width w ≡ true → w ≢ 1 → w ≢ 2 → v < 4294967296 → true ≡ ltb v (256 ^ w)
    value-four h a b small = value-below 4 (four (eqb w 4) refl) small
      where
        four : (t : Bool) → eqb w 4 ≡ t → w ≡ 4
        four true e = eqb-true w 4 e
        four false e = absurd (false≢true (width-none a b (eqb-false w 4 e) ∙ h))

-- The lengths measured are the lent pieces'.
pub measured-none : (s : Registers) (rest : ℕ) {a : ℕ} {p n : Pieces} → p ≡ n → a ≡ admitted s p rest → a ≡ 0 → admitted s n rest ≡ 0
measured-none s rest e told z = ap (λ (m : Pieces). admitted s m rest) (sym e) ∙ (sym told ∙ z)

pub asked-measured : (s : Settings) {a : ℕ} {p n : Pieces} → p ≡ n → a ≡ asked_refusal p s → a ≡ asked_refusal n s
asked-measured s e told = told ∙ ap (λ (m : Pieces). asked_refusal m s) e

place-links : (s : Settings) (w a : ℕ) → Links (place_refusal s w a)
unfolding place_refusal
place-links s w a =
    join (unless (is_width w) 7) (λ rest. unless (eqb (a % w) 0) 8 (unless (leb (a + w) (16 * s.lines)) 9 rest)) (link (is_width w) 7 (λ e. omega arith))
    (join (unless (eqb (a % w) 0) 8) (unless (leb (a + w) (16 * s.lines)) 9) (link (eqb (a % w) 0) 8 (λ e. omega arith)) (link (leb (a + w) (16 * s.lines)) 9 (λ e. omega arith)))

module _ (s : Registers) (p : Pieces) where
  admitted-links : Links (admitted s p)
  unfolding state_refusal facts_by
  admitted-links =
      join (unless (state_fits s) 5) (unless (enough s.settings p) 6) (link (state_fits s) 5 (λ e. omega arith)) (link (enough s.settings p) 6 (λ e. omega arith))

  -- WRITE's tests before 13: a refusal stands whatever comes after them, and once they pass 13 decides
  write-links : (w addr v : ℕ) → Links (λ rest. admitted s p (write_refusal s.settings w addr v rest))
  unfolding write_refusal
  write-links w addr v =
      join (admitted s p) (λ rest. place_refusal s.settings w addr (unless (ltb v (256 ^ w)) 10 rest)) admitted-links
      (join (place_refusal s.settings w addr) (unless (ltb v (256 ^ w)) 10) (place-links s.settings w addr) (link (ltb v (256 ^ w)) 10 (λ e. omega arith)))

  pub write-stands : (w addr v a : ℕ) → a ≡ admitted s p (write_refusal s.settings w addr v 0) → a ≢ 0 → (rest : ℕ) → a ≡ admitted s p (write_refusal s.settings w addr v rest)
  write-stands w addr v a told z rest = turned (λ r. admitted s p (write_refusal s.settings w addr v r)) (write-links w addr v) a rest told z

  pub write-decides : (w addr v a : ℕ) → a ≡ admitted s p (write_refusal s.settings w addr v 0) → a ≡ 0 → (rest : ℕ) → rest ≡ admitted s p (write_refusal s.settings w addr v rest)
  write-decides w addr v a told z rest = passes_on (λ r. admitted s p (write_refusal s.settings w addr v r)) (write-links w addr v) a told z rest rest refl

  -- no refusal: the rest refuses nothing either
  pub admitted-rest : (a rest : ℕ) → a ≡ admitted s p rest → a ≡ 0 → rest ≡ 0
  unfolding state_refusal facts_by
  admitted-rest a rest e z =
      (passed (enough s.settings p) 6 rest (omega arith) (passed (state_fits s) 5 (unless (enough s.settings p) 6 rest) (omega arith) (sym e ∙ z)).1).1

  module _ (a : ℕ) (told : a ≡ admitted s p 0) where
    pub admitted-turned : (rest : ℕ) → a ≢ 0 → a ≡ admitted s p rest
    admitted-turned rest z = turned (admitted s p) admitted-links a rest told z

    module _ (z : a ≡ 0) where
      -- past them the rest of the chain decides
      pub admitted-on : (r rest : ℕ) → r ≡ rest → r ≡ admitted s p rest
      admitted-on = passes_on (admitted s p) admitted-links a told z

      -- LINE
      pub line-passes : (l : ℕ) → l < s.settings.lines → 0 ≡ admitted s p (line_refusal s.settings l)
      unfolding line_refusal unless
      line-passes l h = admitted-on 0 (line_refusal s.settings l) (sym (ap (λ (b : Bool). unless b 9 0) (lt-ltb l s.settings.lines h)))

      pub line-past : (l : ℕ) → s.settings.lines ≤ l → 9 ≡ admitted s p (line_refusal s.settings l)
      unfolding line_refusal unless
      line-past l h = admitted-on 9 (line_refusal s.settings l) (sym (ap (λ (b : Bool). unless b 9 0) (le-ltb l s.settings.lines h)))

      -- MARK
      pub mark-passes : (live : ℕ) → live < s.settings.frames → 0 ≡ admitted s p (unless (ltb live s.settings.frames) 12 0)
      unfolding unless
      mark-passes live h = admitted-on 0 (unless (ltb live s.settings.frames) 12 0) (sym (ap (λ (b : Bool). unless b 12 0) (lt-ltb live s.settings.frames h)))

      pub mark-past : (live : ℕ) → s.settings.frames ≤ live → 12 ≡ admitted s p (unless (ltb live s.settings.frames) 12 0)
      unfolding unless
      mark-past live h = admitted-on 12 (unless (ltb live s.settings.frames) 12 0) (sym (ap (λ (b : Bool). unless b 12 0) (le-ltb live s.settings.frames h)))

      -- ROLLBACK and ADVANCE
      pub frames-none : (live k : ℕ) → k ≡ 0 → 11 ≡ admitted s p (marked_refusal live k)
      unfolding marked_refusal unless
      frames-none live k h =
          admitted-on 11 (marked_refusal live k) (sym (ap (λ (b : Bool). unless (b && leb k (live - 1)) 11 0) (le-ltb 0 k (omega arith))))

      pub frames-passes : (live k r : ℕ) → r ≡ live → k ≢ 0 → k < r → 0 ≡ admitted s p (marked_refusal live k)
      unfolding marked_refusal unless
      frames-passes live k r e d h =
          admitted-on 0 (marked_refusal live k)
          (sym (ap (λ (b : Bool). unless (b && leb k (live - 1)) 11 0) (lt-ltb 0 k (omega arith)) ∙ ap (λ (b : Bool). unless b 11 0) (le-leb k (live - 1) (omega arith))))

      pub frames-past : (live k r : ℕ) → r ≡ live → r ≤ k → k ≢ 0 → 11 ≡ admitted s p (marked_refusal live k)
      unfolding marked_refusal unless
      frames-past live k r e h d =
          admitted-on 11 (marked_refusal live k)
          (sym (ap (λ (b : Bool). unless (ltb 0 k && b) 11 0) (lt-leb k (live - 1) (omega arith)) ∙ ap (λ (b : Bool). unless b 11 0) (and-false (ltb 0 k))))

      -- a block of writes
      pub list-passes : (items room : ℕ) → items ≤ room → 0 ≡ admitted s p (list_refusal items room)
      unfolding list_refusal unless
      list-passes items room h = admitted-on 0 (list_refusal items room) (sym (ap (λ (b : Bool). unless b 14 0) (le-leb items room h)))

      pub list-short : (items room : ℕ) → room < items → 14 ≡ admitted s p (list_refusal items room)
      unfolding list_refusal unless
      list-short items room h = admitted-on 14 (list_refusal items room) (sym (ap (λ (b : Bool). unless b 14 0) (lt-leb items room h)))

-- The tests of a block of writes, whether 5 and 6 passed or not.
module _ (s : Registers) (p : Pieces) where
  pub list-passes-after : (r : Result (Unit {0}) Refusal) → refusal_in r ≡ admitted s p 0 → (items room : ℕ) → items ≤ room
      → refusal_in r ≡ admitted s p (list_refusal items room)
  list-passes-after (Ok u) told items room h = list-passes s p 0 told refl items room h
  list-passes-after (Err e) told items room h = admitted-turned s p (number e) told (list_refusal items room) (number-some e)

  pub list-short-after : (r : Result (Unit {0}) Refusal) → refusal_in r ≡ admitted s p 0 → (items room : ℕ) → room < items
      → refusal_in {A = Unit {0}} (result_and r (Err refusal.Answers)) ≡ admitted s p (list_refusal items room)
  list-short-after (Ok u) told items room h = list-short s p 0 told refl items room h
  list-short-after (Err e) told items room h = admitted-turned s p (number e) told (list_refusal items room) (number-some e)

-- What is left of an address by each of the widths.
pub rest-one : (w addr : ℕ) → w ≡ 1 → 0 ≡ addr % w
rest-one w addr e = sym (ap (λ (n : ℕ). addr % n) e ∙ mod-one addr)

pub rest-two : (w addr : ℕ) → w ≡ 2 → addr % 2 ≡ addr % w
rest-two w addr e = ap (λ (n : ℕ). addr % n) (sym e)

pub rest-four : (w addr : ℕ) → is_width w ≡ true → w ≢ 1 → w ≢ 2 → addr % 4 ≡ addr % w
rest-four w addr h a b = ap (λ (n : ℕ). addr % n) (sym (four w h a b))

-- The tests of a width and an address,
module _ (w : ℕ) (b : Bool) (width : b ≡ is_width w) (known : not b ≡ false) where
  pub of_width : is_width w ≡ true
  of_width = sym width ∙ not-false b known

  pub width-in : (lines : ℕ) → (8 ≤ lines) × (lines ≤ 4096) → w ≤ 16 * lines
  width-in lines h = omega (arith, (width_few w of_width).1)

module _ (s : Settings) (w addr : ℕ) (b : Bool) (width : b ≡ is_width w) where
  pub place-width : not b ≡ true → 7 ≡ place_refusal s w addr 0
  unfolding place_refusal
  place-width h = sym (fails (is_width w) 7 _ (sym width ∙ not-true b h))

  module _ (known : not b ≡ false) where
    pub place-aligned : (m : ℕ) → m ≡ addr % w → m ≢ 0 → 8 ≡ place_refusal s w addr 0
    unfolding place_refusal
    place-aligned m e h = sym (passes (is_width w) 7 _ 8 (of_width w b width known) (fails (eqb (addr % w) 0) 8 _ (ne_eqb (addr % w) 0 (λ z. h (e ∙ z)))))

    module _ (m : ℕ) (rest : m ≡ addr % w) (none : m ≡ 0) where
      aligned : addr % w ≡ 0
      aligned = sym rest ∙ none

      pub place-past : 16 * s.lines - w < addr → 9 ≡ place_refusal s w addr 0
      unfolding place_refusal
      place-past h =
          sym (passes (is_width w) 7 _ 9 (of_width w b width known) (passes (eqb (addr % w) 0) 8 _ 9 (eq-eqb (addr % w) 0 aligned) (fails (leb (addr + w) (16 * s.lines)) 9 0 (lt-leb (addr + w) (16 * s.lines) (omega arith)))))

      pub place-passes : (8 ≤ s.lines) × (s.lines ≤ 4096) → addr ≤ 16 * s.lines - w → 0 ≡ place_refusal s w addr 0
      unfolding place_refusal
      place-passes l h =
          sym (passes (is_width w) 7 _ 0 (of_width w b width known) (passes (eqb (addr % w) 0) 8 _ 0 (eq-eqb (addr % w) 0 aligned) (passes (leb (addr + w) (16 * s.lines)) 9 0 0 (le-leb (addr + w) (16 * s.lines) (omega (arith, width-in w b width known s.lines l))) refl)))

-- and of a value behind them.
module _ (s : Settings) (w addr v a : ℕ) (told : a ≡ place_refusal s w addr 0) where
  pub write-turned : a ≢ 0 → a ≡ write_refusal s w addr v 0
  unfolding write_refusal
  write-turned z = turned (place_refusal s w addr) (place-links s w addr) a (unless (ltb v (256 ^ w)) 10 0) told z

  pub write-width : a ≡ 0 → is_width w ≡ true
  write-width z = (place-passed s w addr 0 (sym told ∙ z)).0.width

  module _ (z : a ≡ 0) (b : Bool) (fits : b ≡ ltb v (256 ^ w)) where
    pub write-passes : b ≡ true → 0 ≡ write_refusal s w addr v 0
    unfolding write_refusal unless
    write-passes h = passes_on (place_refusal s w addr) (place-links s w addr) a told z 0 (unless (ltb v (256 ^ w)) 10 0) (sym (ap (λ (t : Bool). unless t 10 0) (sym fits ∙ h)))

    pub write-wide : b ≡ false → 10 ≡ write_refusal s w addr v 0
    unfolding write_refusal unless
    write-wide h = passes_on (place_refusal s w addr) (place-links s w addr) a told z 10 (unless (ltb v (256 ^ w)) 10 0) (sym (ap (λ (t : Bool). unless t 10 0) (sym fits ∙ h)))

-- What the calls have once they are admitted: ROLLBACK and ADVANCE,
pub frames-room : (s : Registers) (p : Pieces) (a k : ℕ) → a ≡ admitted s p (marked_refusal (live_frames s) k) → a ≡ 0 → FramesRoom s p k
frames-room s p a k told z =
    let r = admitted-room s p a _ told z in
    let m = marked-passed (live_frames s) k (admitted-rest s p a _ told z) in
    record { room = r; k_some = m.0; k_low = omega (arith, m.1, r.live_some) }

pub frames-told : (s : Registers) (p : Pieces) (a k : ℕ) → a ≡ admitted s p (marked_refusal (live_frames s) k)
    → Admits a (admitted s p (marked_refusal (live_frames s) k)) (FramesRoom s p k)
frames-told s p a k e = (e, frames-room s p a k e)

-- READ and WRITE, whose bytes lie in one line,
pub place-bytes : (s : Settings) (w a : ℕ) → Placed s w a → AsksBytes w (offset_of a)
place-bytes s w a p = record { width_is = p.width; inside = in-line (widths w p.width) a p.aligned }

pub place-room : (s : Registers) (p : Pieces) (r w a : ℕ) → r ≡ admitted s p (place_refusal s.settings w a 0) → r ≡ 0 → PlaceRoom s p w a
place-room s p r w a told z =
    let d = (place-passed s.settings w a 0 (admitted-rest s p r _ told z)).0 in
    record { room = admitted-room s p r _ told z; line_below = line_below d; bytes = place-bytes s.settings w a d }

pub place-told : (s : Registers) (p : Pieces) (r w a : ℕ) → r ≡ admitted s p (place_refusal s.settings w a 0)
    → Admits r (admitted s p (place_refusal s.settings w a 0)) (PlaceRoom s p w a)
place-told s p r w a e = (e, place-room s p r w a e)

pub write-room : (s : Registers) (p : Pieces) (r w a v : ℕ) → admitted s p 0 ≡ 0 → r ≡ write_refusal s.settings w a v 0 → r ≡ 0 → PlaceRoom s p w a × Placed s.settings w a
write-room s p r w a v let-in own z =
    let d = (write-passed s.settings w a v 0 (sym own ∙ z)).0 in
    (record { room = room-passed s p let-in; line_below = line_below d; bytes = place-bytes s.settings w a d }, d)

-- and LINE.
pub line-room : (s : Registers) (p : Pieces) (r l : ℕ) → r ≡ admitted s p (line_refusal s.settings l) → r ≡ 0 → LineRoom s p l
unfolding line_refusal
line-room s p r l told z =
    record {
      room = admitted-room s p r _ told z;
      line_below = ltb-true l s.settings.lines (passed (ltb l s.settings.lines) 9 0 (omega arith) (admitted-rest s p r _ told z)).0;
    }

pub line-told : (s : Registers) (p : Pieces) (r l : ℕ) → r ≡ admitted s p (line_refusal s.settings l)
    → Admits r (admitted s p (line_refusal s.settings l)) (LineRoom s p l)
line-told s p r l e = (e, line-room s p r l e)

-- The same over the pieces that were measured.
pub place-measured : {s : Registers} {p n : Pieces} {w a : ℕ} → p ≡ n → PlaceRoom s p w a → PlaceRoom s n w a
place-measured {s = s} {w = w} {a = a} e = subst (λ (m : Pieces). PlaceRoom s m w a) e

pub frames-measured : {s : Registers} {p n : Pieces} {k : ℕ} → p ≡ n → FramesRoom s p k → FramesRoom s n k
frames-measured {s = s} {k = k} e = subst (λ (m : Pieces). FramesRoom s m k) e

pub line-spot : (s : Registers) (p : Pieces) (l : ℕ) → LineRoom s p l → (live : ℕ) → live ≡ live_frames s
    → (groups history : List ℕ) (found : Option ℕ) → found ≡ newest_from (written_of s.settings.lines s.settings.frames s.omf groups history) l (live - 1)
    → AsksSpot s.settings.lines s.settings.frames s.omf l found p.table
line-spot s p l g live e groups history found told =
    record {
      lines_by = g.room.lines_by;
      lines_few = g.room.lines_to;
      frames_few = omega (arith, g.room.frames_to);
      omf_below = g.room.omf_below;
      line_below = g.line_below;
      index_below = λ i d. omega (arith, g.room.live_some, g.room.live_most, newest-below (written_of s.settings.lines s.settings.frames s.omf groups history) l (live - 1) i (sym told ∙ d));
      table_long = g.room.table_long;
    }

pub line-content : (s : Registers) (p : Pieces) (l : ℕ) → LineRoom s p l → (table : List ℕ) (found : Option ℕ) (spot : Option ℕ)
    → spot ≡ spot_of s.settings.lines s.settings.frames s.omf s.settings.pages table l found → AsksContent l spot p.archive p.pool
line-content s p l g table found spot e =
    content-asks _ _ _ _ l table _ _ found spot g.room.lines_by g.room.lines_to g.line_below g.room.pages_to g.room.archive_long g.room.pool_long e
