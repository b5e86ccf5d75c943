-- The tests of the ring. Assumes nothing.
use mathlib.Core.Path.{◌≡◌, refl, sym, ◌∙◌, ap, ap₂, subst}
use mathlib.Core.Bool.{Bool, true, false, not, ◌&&◌, false≢true}
use mathlib.Core.List.{List}
use Prim.Native.Nat.{ℕ, zero, suc, ◌+◌, ◌/◌, ◌%◌, ◌≤◌, ◌<◌}
use native.Mathlib.Nat.{mul-le-mul, le_refl, suc-mul, mod-lt, div-lt_iff_lt-mul}
use native.Mathlib.Numerals.{add-one}
use native.Mathlib.Decide.{ℕ_discrete}
use native.Mathlib.Omega.{arith}
use borrow.Author.Tests.{lt-ltb, not-true, not-false}
use lib.Arith.{digits_div, digits_mod}
use lib.ListN.{get_or}
use Rattle.rules.specs.Seen.{needs}
use Rattle.frames.specs.Circle.{index_of, frame_at}
use Rattle.written.specs.Bits.{Written, effective}
use Rattle.pages.specs.Table.{blocks_of, place_at, entries_of, entry_of, needed_at, AsksTable, entry_at}
use Rattle.pages.specs.Ring.{nth_page, position_of, Paged, Rising, WellRing, owner_index, index_at, owns}
use Rattle.pages.proofs.Needs.{place-frame, place-block, needed-block, needed-place}
use Rattle.pages.proofs.Owning.{own-means, own_is}
use Rattle.wellformed.specs.Decision.{Decides}
use Rattle.wellformed.specs.Parts.{BackedIn, InOrder, PagedIn, AllPaged}
use Rattle.wellformed.proofs.Deciding.{says-yes, says-no, passes, part-fails}

-- A page, by its owner.
module _ (w : Written) (table owners : List ℕ) (p : ℕ) where
  abbrev owner : ℕ
  owner = get_or owners p 0

  pub backed-far : w.frames ≤ owner / 512 → Decides false (BackedIn w table owners p)
  unfolding BackedIn
  backed-far h = says-no (λ b. omega (arith, h, b.owner_below))

  pub backed-past : blocks_of w ≤ owner % 512 → Decides false (BackedIn w table owners p)
  unfolding BackedIn
  backed-past h = says-no (λ b. omega (arith, h, needed-block w owner b.needed))

  pub backed-other : (entry : ℕ) → entry ≡ get_or table (entry_of w owner) 0 → (entry ≡ p → ⊥) → Decides false (BackedIn w table owners p)
  unfolding BackedIn
  backed-other entry e d = says-no (λ b. d (e ∙ b.back))

  owner-needed : owner % 512 < blocks_of w → needed_at w owner ≡ needs (effective w (index_of w.frames w.omf (owner / 512))) (owner % 512)
  unfolding needed_at
  owner-needed h = ap (λ (t : Bool). t && needs (effective w (index_of w.frames w.omf (owner / 512))) (owner % 512)) (lt-ltb (owner % 512) (blocks_of w) h)

  pub backed-told : (entry : ℕ) (r : Bool) → owner / 512 < w.frames → owner % 512 < blocks_of w → entry ≡ get_or table (entry_of w owner) 0 → entry ≡ p
      → r ≡ needs (effective w (index_of w.frames w.omf (owner / 512))) (owner % 512) → Decides r (BackedIn w table owners p)
  unfolding BackedIn
  backed-told entry r f b e d n =
      record {
        only = λ t. record { owner_below = omega arith; needed = owner-needed b ∙ (sym n ∙ t); back = sym e ∙ d };
        always = λ k. n ∙ (sym (owner-needed b) ∙ k.needed);
      }

-- The loop over the positions.
pub record Walked (w : Written) (pages first : ℕ) (table owners : List ℕ) (i last : ℕ) : Type 0 where
  pub so_far : InOrder w pages first i table owners
  pub none : i ≡ 0 → last ≡ 0
  pub last_is : (j : ℕ) → j + 1 ≡ i → last ≡ index_at w.frames w.omf pages first owners j

module _ (w : Written) (pages first used : ℕ) (table owners : List ℕ) (i last page : ℕ) (h : Walked w pages first table owners i last) (below : i < used)
    (at : page ≡ frame_at pages first i) where
  index-here : (index : ℕ) → index ≡ owner_index w.frames w.omf (get_or owners page 0) → index ≡ index_at w.frames w.omf pages first owners i
  unfolding index_at
  index-here index e = e ∙ ap (λ (q : ℕ). owner_index w.frames w.omf (get_or owners q 0)) at

  pub walked-falls : (index : ℕ) → index ≡ owner_index w.frames w.omf (get_or owners page 0) → index < last → Decides false (InOrder w pages first used table owners)
  walked-falls index e less = says-no (λ s. go i refl s)
    where
      go : (m : ℕ) → m ≡ i → InOrder w pages first used table owners → ⊥
      go zero z s = omega (arith, h.none (sym z))
      go (suc j) z s =
          omega (
            arith,
            h.last_is j (omega arith),
            s.steps j (omega arith),
            ap (index_at w.frames w.omf pages first owners) (add-one j ∙ z),
            index-here index e,
          )

  pub walked_next : (r : Bool) (index : ℕ) → Decides r (BackedIn w table owners page) → not r ≡ false
      → index ≡ owner_index w.frames w.omf (get_or owners page 0) → last ≤ index → Walked w pages first table owners (i + 1) index
  walked_next r index d t e more =
      record {
        so_far = record { backed = λ k b. owned k (omega arith) (ℕ_discrete k i); steps = λ k b. steps k (omega arith) (ℕ_discrete (k + 1) i) };
        none = λ z. absurd (omega arith);
        last_is = λ j z. index-here index e ∙ ap (index_at w.frames w.omf pages first owners) (same j z);
      }
    where
      same : (j : ℕ) → j + 1 ≡ i + 1 → i ≡ j
      same j z = omega arith

      owned : (k : ℕ) → k ≤ i → Dec (k ≡ i) → BackedIn w table owners (nth_page pages first k)
      owned k b (yes z) = subst (BackedIn w table owners) (at ∙ ap (nth_page pages first) (sym z)) (passes r d t)
      owned k b (no z) = h.so_far.backed k (omega arith)

      steps : (k : ℕ) → k + 1 ≤ i → Dec (k + 1 ≡ i) → index_at w.frames w.omf pages first owners k ≤ index_at w.frames w.omf pages first owners (k + 1)
      steps k b (yes z) =
          omega (arith, h.last_is k z, index-here index e, ap (index_at w.frames w.omf pages first owners) z)
      steps k b (no z) = h.so_far.steps k (omega arith)

-- Neighbours in order are all in order.
pub steps-rising : (n : ℕ) (f : ℕ → ℕ) → ((i : ℕ) → i + 1 < n → f i ≤ f (i + 1)) → Rising n f
steps-rising n f s i zero a b = let z : i ≡ 0 = omega arith in omega (arith, ap f z)
steps-rising n f s i (suc j) a b = go (ℕ_discrete i (suc j)) (λ c. steps-rising n f s i j c (omega arith))
  where
    go : Dec (i ≡ suc j) → (i ≤ j → f i ≤ f j) → f i ≤ f (suc j)
    go (yes z) ih = omega (arith, ap f z)
    go (no z) ih = omega (arith, ih (omega arith), s j (omega arith), ap f (add-one j))

-- The place of an entry of the table.
module _ (w : Written) (table owners : List ℕ) (pages first used entry : ℕ) (a : AsksTable w table) (b : entry < entries_of w) where
  some-blocks : 0 < blocks_of w
  some-blocks = omega (arith, a.lines_from)

  abbrev frame : ℕ
  frame = entry / blocks_of w

  abbrev block : ℕ
  block = entry % blocks_of w

  frame_few : frame < w.frames
  frame_few = (div-lt_iff_lt-mul some-blocks).1 b

  block_few : block < blocks_of w
  block_few = mod-lt entry some-blocks

  wide : block < 512
  wide = omega (arith, block_few, a.lent.lines_few)

  own-entry : entry_of w (place_at frame block) ≡ entry_at w.lines frame block
  own-entry = ap₂ (λ (x y : ℕ). entry_at w.lines x y) (place-frame frame block wide) (place-block frame block wide)

  needed_here : needed_at w (place_at frame block) ≡ needs (effective w (index_of w.frames w.omf frame)) block
  needed_here = needed-place w frame block a.lent.lines_few block_few

  abbrev Here : Type 0
  Here = PagedIn w pages first used table owners (place_at frame block)

  module _ (r : Bool) (e : r ≡ needs (effective w (index_of w.frames w.omf frame)) block) where
    pub paged-unneeded : not r ≡ true → Decides true Here
    unfolding PagedIn
    paged-unneeded h = says-yes (λ n. absurd (false≢true (sym (not-true r h) ∙ (e ∙ (sym needed_here ∙ n)))))

    module _ (h : not r ≡ false) (page : ℕ) (p : page ≡ get_or table (entry_at w.lines frame block) 0) (o : Bool) (own : o ≡ owns pages first used owners page (place_at frame block)) where
      at : get_or table (entry_of w (place_at frame block)) 0 ≡ page
      at = ap (λ (x : ℕ). get_or table x 0) own-entry ∙ sym p

      pub paged-told : Decides o Here
      unfolding PagedIn
      paged-told =
          record {
            only =
                λ t n.
                let m = own-means pages first used owners page (place_at frame block) (sym own ∙ t) in
                record {
                  page_below = omega (arith, at, m.0);
                  inside = omega (arith, ap (position_of pages first) at, m.1);
                  back = ap (λ (q : ℕ). get_or owners q 0) at ∙ m.2;
                };
            always =
                λ k.
                let g = k (needed_here ∙ (sym e ∙ not-false r h)) in
                own
                ∙ own_is pages first used owners page (place_at frame block) (omega (arith, at, g.page_below)) (omega (arith, ap (position_of pages first) at, g.inside))
                (ap (λ (q : ℕ). get_or owners q 0) (sym at) ∙ g.back);
          }

-- Every needed place is that of an entry.
module _ (w : Written) (pages first used : ℕ) (table owners : List ℕ) where
  abbrev pub EntryPaged : ℕ → Type 0
  EntryPaged entry = PagedIn w pages first used table owners (place_at (entry / (w.lines / 8)) (entry % (w.lines / 8)))

  pub entries-paged : ((entry : ℕ) → entry < entries_of w → EntryPaged entry) → AllPaged w pages first used table owners
  unfolding PagedIn
  entries-paged all x b n =
      let c = needed-block w x n in
      let frame : x / 512 < w.frames = omega arith in
      let inside : entry_of w x < entries_of w = omega (arith, mul-le-mul frame (le_refl (blocks_of w)), suc-mul (x / 512) (blocks_of w)) in
      let same : place_at (entry_of w x / blocks_of w) (entry_of w x % blocks_of w) ≡ x =
      ap₂ place_at (digits_div (x / 512) c) (digits_mod (x / 512) c) ∙ omega arith
      in
      subst (λ (y : ℕ). needed_at w y ≡ true → Paged pages first used (λ z. get_or table (entry_of w z) 0) (λ q. get_or owners q 0) y) same (all (entry_of w x) inside) n

  pub paged-entry : AsksTable w table → AllPaged w pages first used table owners → (entry : ℕ) → entry < entries_of w → EntryPaged entry
  paged-entry a all entry b =
      let s : 0 < blocks_of w = omega (arith, a.lines_from) in
      all (place_at (entry / blocks_of w) (entry % blocks_of w)) (omega (arith, (div-lt_iff_lt-mul s).1 b, mod-lt entry s, a.lent.lines_few))

-- The ring in its parts.
module _ (w : Written) (pages first used : ℕ) (table owners : List ℕ) where
  ring-order : WellRing w pages first used table owners → InOrder w pages first used table owners
  unfolding BackedIn index_at
  ring-order r = record { backed = r.backed; steps = λ i c. r.rising i (i + 1) (omega arith) c }

  pub ring-unordered : (o : Bool) → Decides o (InOrder w pages first used table owners) → not o ≡ true → Decides false (WellRing w pages first used table owners)
  ring-unordered o d e = part-fails o ring-order d e

  pub ring-decided : (o p : Bool) → first < pages → used ≤ pages → Decides o (InOrder w pages first used table owners) → not o ≡ false
      → Decides p (AllPaged w pages first used table owners) → Decides p (WellRing w pages first used table owners)
  unfolding BackedIn index_at PagedIn
  ring-decided o p b few d e q =
      let s = passes o d e in
      record {
        only = λ t. record { first_below = b; used_few = few; backed = s.backed; paged = q.only t; rising = steps-rising used _ s.steps };
        always = λ r. q.always r.paged;
      }
