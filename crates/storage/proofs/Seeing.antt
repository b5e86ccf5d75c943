-- The ring that a call sees, in the form in which the code has it. Assumes nothing.
use mathlib.Core.Path.{◌≡◌, sym, ◌∙◌, ap, subst}
use mathlib.Core.List.{List}
use Prim.Native.Nat.{ℕ, ◌-◌, ◌≤◌, ◌<◌, min}
use native.Mathlib.Omega.{arith}
use lib.ListN.{length}
use Rattle.rules.specs.Settings.{Pieces, elements}
use Rattle.rules.specs.Registers as rules
use Rattle.written.specs.Bits.{written_at, written_of, AsksWritten}
use Rattle.written.specs.Steps.{RolledBack}
use Rattle.pages.specs.declared.Ring.{Ring}
use Rattle.pages.specs.Ring.{nth_page, index_at, AsksRing, Leading, Leads}
use Rattle.versions.specs.Steps.{folded_pages, flagged_pages, cleared_pages, AsksPageFor, AsksFold, AsksGone}
use Rattle.versions.proofs.Flagged.{Kept, indexes-kept, cleared-kept}
use Rattle.storage.specs.declared.Registers.{Registers}
use Rattle.storage.specs.Storage.{start_in}
use Rattle.storage.specs.Admit.{Room}
use Rattle.storage.proofs.Admitting.{room-lent, room-ring, room-page}

-- The ring by the registers that it is made of.
abbrev pub seen : (lines frames omf pages first used : ℕ) → Ring
seen lines frames omf pages first used =
    record { shape = record { lines = lines; frames = frames; omf = omf }; pages = pages; first = start_in first pages; used = min used pages }

-- What the layers ask of it.
module _ (s : rules.Registers) (p : Pieces) (g : Room s p) (first used : ℕ) (ring : Ring)
    (is : ring ≡ seen s.settings.lines s.settings.frames s.omf s.settings.pages first used) where
  pub seen-asks : AsksRing ring.pages ring.first ring.used ring.shape.frames ring.shape.omf p.owners
  seen-asks = subst (λ (y : Ring). AsksRing y.pages y.first y.used y.shape.frames y.shape.omf p.owners) (sym is) (room-ring s p g first used)

  pub seen-page-asks : (line : ℕ) → line < s.settings.lines
      → AsksPageFor ring.shape.lines ring.shape.frames ring.shape.omf ring.pages ring.first ring.used s.cmf line p.table p.owners
  seen-page-asks line b =
      subst (λ (y : Ring). AsksPageFor y.shape.lines y.shape.frames y.shape.omf y.pages y.first y.used s.cmf line p.table p.owners) (sym is) (room-page s p g first used line b)

-- What an advance asks.
module _ (s : rules.Registers) (archive pool table owners : ℕ) (groups history : List ℕ)
    (g : Room s (record { archive = archive; pool = pool; groups = length groups; table = table; owners = owners; history = length history })) (first used : ℕ) (ring : Ring)
    (is : ring ≡ seen s.settings.lines s.settings.frames s.omf s.settings.pages first used) where
  pub seen-fold-asks : AsksFold (written_at ring.shape groups history) ring.pages ring.first ring.used archive pool owners
  unfolding elements
  seen-fold-asks =
      subst (λ (y : Ring). AsksFold (written_at y.shape groups history) y.pages y.first y.used archive pool owners) (sym is)
      (record {
        lent = room-lent s archive pool table owners groups history g;
        lines_by = g.lines_by;
        ring = room-ring s _ g first used;
        archive_long = g.archive_long;
        pool_long = g.pool_long;
        owners_long = g.owners_long;
      })

module _ (s : rules.Registers) (archive pool groups table history : ℕ) (owners : List ℕ)
    (g : Room s (record { archive = archive; pool = pool; groups = groups; table = table; owners = length owners; history = history })) (first used : ℕ) (ring : Ring)
    (is : ring ≡ seen s.settings.lines s.settings.frames s.omf s.settings.pages first used) where
  pub seen-gone-asks : (after : List ℕ) → Kept ring.pages ring.shape.lines owners after → (k gone : ℕ) → k ≤ s.settings.frames
      → Leads ring.used (index_at ring.shape.frames ring.shape.omf ring.pages ring.first owners) k gone
      → AsksGone ring.shape.lines ring.shape.frames ring.shape.omf ring.pages ring.first ring.used after gone groups
  unfolding elements
  seen-gone-asks after kept k gone few =
      subst
      (λ (y : Ring). Kept y.pages y.shape.lines owners after → Leads y.used (index_at y.shape.frames y.shape.omf y.pages y.first owners) k gone
      → AsksGone y.shape.lines y.shape.frames y.shape.omf y.pages y.first y.used after gone groups)
      (sym is) asks kept
    where
      asks : Kept s.settings.pages s.settings.lines owners after
          → Leads (min used s.settings.pages) (index_at s.settings.frames s.omf s.settings.pages (start_in first s.settings.pages) owners) k gone
          → AsksGone s.settings.lines s.settings.frames s.omf s.settings.pages (start_in first s.settings.pages) (min used s.settings.pages) after gone groups
      asks kept h =
          let ring = room-ring s _ g first used in
          let same = indexes-kept s.settings.pages s.settings.lines (start_in first s.settings.pages) owners after ring.first_below kept s.settings.frames s.omf in
          record {
            lines_few = g.lines_to;
            frames_by = g.frames_by;
            ring = rw kept.long ring;
            gone_few = h.few;
            inside = λ i b. omega (arith, h.low i b, ap (λ (f : ℕ → ℕ). f i) same);
            groups_long = g.groups_long;
          }

-- What they say of it.
module _ (lines frames omf pages first used : ℕ) (ring : Ring) (is : ring ≡ seen lines frames omf pages first used) where
  pub seen-lent : (groups history : List ℕ) → AsksWritten (written_of lines frames omf groups history) → AsksWritten (written_at ring.shape groups history)
  seen-lent groups history = subst (λ (y : Ring). AsksWritten (written_at y.shape groups history)) (sym is)

  pub seen-rolled : (groups history : List ℕ) (tag kept : ℕ) (groups-after history-after : List ℕ) (next : ℕ)
      → RolledBack (written_at ring.shape groups history) tag kept groups-after history-after next
      → RolledBack (written_of lines frames omf groups history) tag kept groups-after history-after next
  seen-rolled groups history tag kept groups-after history-after next =
      subst (λ (y : Ring). RolledBack (written_at y.shape groups history) tag kept groups-after history-after next) is

  pub seen_below : (owners : List ℕ) (limit n : ℕ) → Leading ring.used (index_at ring.shape.frames ring.shape.omf ring.pages ring.first owners) limit n
      → Leading (min used pages) (index_at frames omf pages (start_in first pages) owners) limit n
  seen_below owners limit n = subst (λ (y : Ring). Leading y.used (index_at y.shape.frames y.shape.omf y.pages y.first owners) limit n) is

  pub seen_first : (owners : List ℕ) (k n : ℕ) → Leads ring.used (index_at ring.shape.frames ring.shape.omf ring.pages ring.first owners) k n
      → Leads (min used pages) (index_at frames omf pages (start_in first pages) owners) k n
  seen_first owners k n = subst (λ (y : Ring). Leads y.used (index_at y.shape.frames y.shape.omf y.pages y.first owners) k n) is

  pub seen-folded : (groups history pool owners archive after : List ℕ) (gone : ℕ)
      → after ≡ folded_pages (written_at ring.shape groups history) ring.pages ring.first pool owners gone archive
      → after ≡ folded_pages (written_of lines frames omf groups history) pages (start_in first pages) pool owners gone archive
  seen-folded groups history pool owners archive after gone e =
      e ∙ ap (λ (y : Ring). folded_pages (written_at y.shape groups history) y.pages y.first pool owners gone archive) is

  pub seen-cleared : (groups owners noted after : List ℕ) (gone : ℕ) → ring.first < ring.pages → Kept ring.pages ring.shape.lines owners noted
      → after ≡ cleared_pages ring.shape.lines ring.pages ring.first noted gone groups → after ≡ cleared_pages lines pages (start_in first pages) owners gone groups
  seen-cleared groups owners noted after gone below kept e =
      e
      ∙ (cleared-kept ring.pages ring.shape.lines ring.first owners noted below kept gone groups
      ∙ ap (λ (y : Ring). cleared_pages y.shape.lines y.pages y.first owners gone groups) is)

  pub seen-noted : (groups history owners after : List ℕ) (gone : ℕ) → after ≡ flagged_pages (written_at ring.shape groups history) ring.pages ring.first owners gone
      → after ≡ flagged_pages (written_of lines frames omf groups history) pages (start_in first pages) owners gone
  seen-noted groups history owners after gone e =
      e ∙ ap (λ (y : Ring). flagged_pages (written_at y.shape groups history) y.pages y.first owners gone) is

  pub seen-advanced : (cmf next tag gone start : ℕ) → start ≡ nth_page ring.pages ring.first gone
      → ◌≡◌ {A = Registers} (record { lines = lines; frames = frames; pages = pages; cmf = cmf; omf = next; tag = tag; first = start; used = ring.used - gone })
      (record { lines = lines; frames = frames; pages = pages; cmf = cmf; omf = next; tag = tag; first = nth_page pages (start_in first pages) gone; used = min used pages - gone })
  seen-advanced cmf next tag gone start e = λ i.
      record {
        lines = lines;
        frames = frames;
        pages = pages;
        cmf = cmf;
        omf = next;
        tag = tag;
        first = (e ∙ ap (λ (y : Ring). nth_page y.pages y.first gone) is) i;
        used = ap (λ (y : Ring). y.used - gone) is i;
      }
