-- The tests of the settings, the state and the lent lengths, as linear facts. Assumes nothing.
use mathlib.Core.Path.{◌≡◌, refl, sym, ◌∙◌, ap, ap₂}
use mathlib.Core.Bool.{Bool, true, false, cond, ◌&&◌, and-true, and-false}
use mathlib.Core.List.{List}
use Prim.Native.Nat.{ℕ, ◌+◌, ◌*◌, ◌/◌, ◌≤◌, ◌<◌, min}
use native.Mathlib.Omega.{arith}
use borrow.Author.Tests.{le-leb, leb-true, lt-ltb, le-ltb}
use lib.Dec.{ltb}
use lib.ListN.{length}
use Rattle.rules.specs.Settings.{Settings, Pieces, within, elements, covers, enough, bytes}
use Rattle.rules.specs.declared.Need.{Need}
use Rattle.rules.specs.Sizing.{sizing, sizes_of, no_sizes}
use Rattle.rules.specs.Registers.{Registers, live_frames, state_fits}
use Rattle.rules.specs.Refusal.{unless, asked_refusal, facts_by, state_refusal}
use Rattle.rules.proofs.Tests.{both_true}
use Rattle.rules.proofs.Settings.{within-good}
use Rattle.rules.proofs.Chain.{passed}
use Rattle.rules.proofs.Registers.{Fits, fits-facts, live_some, live-at-most}
use Rattle.frames.specs.Circle.{Turn}
use Rattle.written.specs.Bits.{written_of, AsksWritten}
use Rattle.pages.specs.Flags.{AsksFlag}
use Rattle.pages.specs.Table.{AsksTable}
use Rattle.pages.specs.Ring.{AsksRing}
use Rattle.versions.specs.Newest.{AsksNewest}
use Rattle.versions.specs.Steps.{AsksPageFor}
use Rattle.versions.proofs.Finding.{entry-asks}
use Rattle.storage.specs.Storage.{start_in}
use Rattle.storage.specs.Admit.{in_elements, settings_refusal, admitted, Room, Admits}
use Rattle.storage.proofs.Rings.{start-below}

-- Each piece is long enough.
pub record Long (least lengths : Pieces) : Type 0 where
  pub archive : least.archive ≤ lengths.archive
  pub pool : least.pool ≤ lengths.pool
  pub groups : least.groups ≤ lengths.groups
  pub table : least.table ≤ lengths.table
  pub owners : least.owners ≤ lengths.owners
  pub history : least.history ≤ lengths.history

pub covers-long : (n p : Pieces) → covers n p ≡ true → Long n p
unfolding covers
covers-long n p e =
    let h = both_true _ _ e in
    let o = both_true _ _ h.0 in
    let t = both_true _ _ o.0 in
    let g = both_true _ _ t.0 in
    let a = both_true _ _ g.0 in
    record {
      archive = leb-true _ _ a.0;
      pool = leb-true _ _ a.1;
      groups = leb-true _ _ g.1;
      table = leb-true _ _ t.1;
      owners = leb-true _ _ o.1;
      history = leb-true _ _ h.1;
    }

pub long-covers : (n p : Pieces) → Long n p → covers n p ≡ true
unfolding covers
long-covers n p h =
    simp (
      le-leb _ _ h.archive,
      le-leb _ _ h.pool,
      le-leb _ _ h.groups,
      le-leb _ _ h.table,
      le-leb _ _ h.owners,
      le-leb _ _ h.history,
    )

pub not-covers : (n p : Pieces) → (Long n p → ⊥) → covers n p ≡ false
not-covers n p k = go (covers n p) refl
  where
    go : (b : Bool) → covers n p ≡ b → b ≡ false
    go true e = absurd (k (covers-long n p e))
    go false e = refl

-- What the sizing call says is enough,
covers-enough : (s : Settings) (p : Pieces) → covers (in_elements (sizes_of s)) p ≡ enough s p
unfolding covers sizes_of bytes elements
covers-enough s p =
    simp (quarter (s.frames / 16 * s.lines), half (s.frames * (s.lines / 8)), quarter (s.pages + s.lines))
  where
    quarter : (x : ℕ) → 4 * x / 4 ≡ x
    quarter x = omega arith

    half : (x : ℕ) → 2 * x / 2 ≡ x
    half x = omega arith

-- so that 6, and the number of settings outside the limits, are told from its answer.
module _ (n : ℕ) (s : Settings) (p : Pieces) (need : Need) (told : need ≡ sizing s) where
  pub outside-told : (need.refusal ≡ 0 → ⊥) → n ≡ settings_refusal n s p
  unfolding sizing sizes_of unless
  outside-told h = go (within s) refl
    where
      go : (b : Bool) → within s ≡ b → n ≡ unless b n (unless (enough s p) 6 0)
      go true e = absurd (h (ap (λ (n : Need). n.refusal) told ∙ ap (λ (b : Bool). (cond b (sizes_of s) no_sizes).refusal) e))
      go false e = refl

  module _ (given : need.refusal ≡ 0) (b : Bool) (covered : b ≡ covers (in_elements need) p) where
    inside-told : settings_refusal n s p ≡ unless b 6 0
    unfolding sizing no_sizes unless
    inside-told = go (within s) refl
      where
        go : (w : Bool) → within s ≡ w → unless w n (unless (enough s p) 6 0) ≡ unless b 6 0
        go true e =
            let same : need ≡ sizes_of s = told ∙ ap (λ (w : Bool). cond w (sizes_of s) no_sizes) e in
            ap (λ (x : Bool). unless x 6 0) (sym (covered ∙ (ap (λ (n : Need). covers (in_elements n) p) same ∙ covers-enough s p)))
        go false e =
            let none : ◌≡◌ {A = ℕ} 4 0 = sym (ap (λ (n : Need). n.refusal) told ∙ ap (λ (w : Bool). (cond w (sizes_of s) no_sizes).refusal) e) ∙ given in
            absurd (omega arith)

    pub long-told : b ≡ true → 0 ≡ settings_refusal n s p
    unfolding unless
    long-told t = sym (inside-told ∙ ap (λ (x : Bool). unless x 6 0) t)

    pub short-told : b ≡ false → 6 ≡ settings_refusal n s p
    unfolding unless
    short-told t = sym (inside-told ∙ ap (λ (x : Bool). unless x 6 0) t)

pub asked-told : (s : Settings) (p : Pieces) (r : ℕ) → r ≡ settings_refusal 4 s p → r ≡ asked_refusal p s
unfolding asked_refusal
asked-told s p r e = e

-- 5 and 6.
module _ (s : Registers) (p : Pieces) where
  pub outside-cmf : s.settings.frames ≤ s.cmf → 5 ≡ admitted s p 0
  unfolding state_refusal facts_by state_fits unless
  outside-cmf h =
      sym (ap (λ (x : Bool). unless x 5 (unless (enough s.settings p) 6 0)) (ap (λ (x : Bool). within s.settings && (x && ltb s.omf s.settings.frames)) (le-ltb s.cmf s.settings.frames h) ∙ and-false (within s.settings)))

  pub outside-omf : s.settings.frames ≤ s.omf → 5 ≡ admitted s p 0
  unfolding state_refusal facts_by state_fits unless
  outside-omf h =
      sym (ap (λ (x : Bool). unless x 5 (unless (enough s.settings p) 6 0))
      (ap (λ (x : Bool). within s.settings && (ltb s.cmf s.settings.frames && x)) (le-ltb s.omf s.settings.frames h) ∙ (ap (λ (x : Bool). within s.settings && x) (and-false (ltb s.cmf s.settings.frames)) ∙ and-false (within s.settings))))

  module _ (cmf_below : s.cmf < s.settings.frames) (omf_below : s.omf < s.settings.frames) where
    fits-within : state_fits s ≡ within s.settings
    unfolding state_fits
    fits-within =
        ap₂ (λ (x y : Bool). within s.settings && (x && y)) (lt-ltb s.cmf s.settings.frames cmf_below) (lt-ltb s.omf s.settings.frames omf_below) ∙ and-true (within s.settings)

    pub inside-limits : (r : ℕ) → r ≡ settings_refusal 5 s.settings p → r ≡ admitted s p 0
    unfolding state_refusal facts_by
    inside-limits r e = e ∙ sym (ap (λ (x : Bool). unless x 5 (unless (enough s.settings p) 6 0)) fits-within)

-- What a state within its limits and lent memory have,
pub room_of : (s : Registers) (p : Pieces) → Fits s → Long (elements s.settings) p → Room s p
unfolding elements
room_of s p f l =
    let g = within-good s.settings f.limits in
    record {
      limits = f.limits;
      lines_from = g.lines_from;
      lines_to = g.lines_to;
      lines_by = g.lines_by;
      frames_to = g.frames_to;
      frames_by = g.frames_by;
      pages_from = g.pages_from;
      pages_to = g.pages_to;
      cmf_below = f.cmf_below;
      omf_below = f.omf_below;
      live_some = live_some s f;
      live_most = live-at-most s f;
      archive_long = l.archive;
      pool_long = l.pool;
      groups_long = l.groups;
      table_long = l.table;
      owners_long = l.owners;
      history_long = l.history;
    }

-- and admitted ones.
pub admitted-room : (s : Registers) (p : Pieces) (a rest : ℕ) → a ≡ admitted s p rest → a ≡ 0 → Room s p
unfolding state_refusal facts_by
admitted-room s p a rest e z =
    let t = passed (state_fits s) 5 (unless (enough s.settings p) 6 rest) (omega arith) (sym e ∙ z) in
    room_of s p (fits-facts s t.0) (covers-long (elements s.settings) p (passed (enough s.settings p) 6 rest (omega arith) t.1).0)

pub room-passed : (s : Registers) (p : Pieces) → admitted s p 0 ≡ 0 → Room s p
room-passed s p z = admitted-room s p 0 0 (sym z) refl

pub admitted-told : (s : Registers) (p : Pieces) (a rest : ℕ) → a ≡ admitted s p rest → Admits a (admitted s p rest) (Room s p)
admitted-told s p a rest e = (e, admitted-room s p a rest e)

-- What the layers ask, of an admitted state and lent memory.
module _ (s : Registers) (p : Pieces) (r : Room s p) where
  pub room-turn : Turn s.settings.frames s.omf s.cmf
  room-turn = record { omf_below = r.omf_below; below = r.cmf_below; few = omega (arith, r.frames_to) }

  pub room_next : Turn s.settings.frames s.cmf s.cmf
  room_next = record { omf_below = r.cmf_below; below = r.cmf_below; few = omega (arith, r.frames_to) }

  pub room-flag : (line : ℕ) → line < s.settings.lines → AsksFlag s.settings.pages line p.owners
  room-flag line b = record { pages_few = r.pages_to; line_few = omega (arith, b, r.lines_to); lent = omega (arith, b, r.owners_long) }

  pub room-circle : Turn s.settings.frames s.omf s.omf
  room-circle = record { omf_below = r.omf_below; below = r.omf_below; few = omega (arith, r.frames_to) }

module _ (s : Registers) (archive pool table owners : ℕ) (groups history : List ℕ)
    (r : Room s (record { archive = archive; pool = pool; groups = length groups; table = table; owners = owners; history = length history })) where
  pub room-lent : AsksWritten (written_of s.settings.lines s.settings.frames s.omf groups history)
  room-lent =
      record {
        lines_some = omega (arith, r.lines_from);
        lines_few = r.lines_to;
        frames_by = r.frames_by;
        frames_few = omega (arith, r.frames_to);
        omf_below = r.omf_below;
        groups_long = r.groups_long;
        history_long = r.history_long;
      }

module _ (s : Registers) (archive pool owners : ℕ) (groups table history : List ℕ)
    (r : Room s (record { archive = archive; pool = pool; groups = length groups; table = length table; owners = owners; history = length history })) where
  pub room-table : AsksTable (written_of s.settings.lines s.settings.frames s.omf groups history) table
  room-table =
      record { lent = room-lent s archive pool (length table) owners groups history r; lines_by = r.lines_by; lines_from = r.lines_from; table_long = r.table_long }

  pub room-pages : AsksTable (written_of s.settings.lines s.settings.frames s.omf groups history) table × (s.settings.pages ≤ 4096) × (s.settings.pages ≤ owners)
  room-pages = (room-table, r.pages_to, omega (arith, r.owners_long))

module _ (s : Registers) (owners : ℕ) (archive pool groups table history : List ℕ)
    (r : Room s (record { archive = length archive; pool = length pool; groups = length groups; table = length table; owners = owners; history = length history })) where
  pub room-newest : (live line : ℕ) → live ≡ live_frames s → line < s.settings.lines
      → AsksNewest (written_of s.settings.lines s.settings.frames s.omf groups history) s.settings.pages live line archive pool table
  room-newest live line e b =
      record {
        asks = room-table s (length archive) (length pool) owners groups table history r;
        live_some = omega (arith, r.live_some);
        live_within = omega (arith, r.live_most);
        line_below = b;
        pages_few = r.pages_to;
        archive_long = r.archive_long;
        pool_long = r.pool_long;
      }

module _ (s : Registers) (p : Pieces) (r : Room s p) (first used : ℕ) where
  -- the ring that the calls see
  pub room-ring : AsksRing s.settings.pages (start_in first s.settings.pages) (min used s.settings.pages) s.settings.frames s.omf p.owners
  room-ring =
      record {
        first_below = start-below first s.settings.pages (omega (arith, r.pages_from));
        used_few = omega arith;
        pages_few = r.pages_to;
        owners_long = omega (arith, r.owners_long);
        omf_below = r.omf_below;
        frames_few = omega (arith, r.frames_to);
      }

  pub room-page : (line : ℕ) → line < s.settings.lines
      → AsksPageFor s.settings.lines s.settings.frames s.omf s.settings.pages (start_in first s.settings.pages) (min used s.settings.pages) s.cmf line p.table p.owners
  room-page line b =
      record {
        ring = room-ring;
        entry =
            entry-asks s.settings.lines s.settings.frames s.cmf line p.table r.lines_by r.lines_to (omega (arith, r.frames_to)) r.cmf_below b
            r.table_long;
      }
