-- A use of a line: the cache steps as Figure 3's, the entry taken has just what it was given, and no other entry changes.
-- Assumes nothing.
use Rattle.std.specs.Prelude.{Some}
use mathlib.Core.Path.{◌≡◌, refl, sym, ◌∙◌, ap, ap₂, subst, fun_ext}
use mathlib.Core.Bool.{Bool, true, false, cond, false≢true}
use mathlib.Core.Logic.{◌≢◌}
use mathlib.Core.Option.{Option, none, some}
use mathlib.Core.List.{List}
use Prim.Native.Nat.{ℕ, zero, suc, ◌+◌, ◌*◌, ◌/◌, ◌%◌, ◌≤◌, ◌<◌}
use native.Mathlib.Decide.{ℕ_discrete}
use native.Mathlib.Omega.{arith}
use borrow.Author.Tests.{eqb-true, eqb-false}
use lib.Dec.{eqb}
use lib.ListN.{length, get_or, set, replicate, length-set}
use lib.Seq.{get_or-set_same, get_or-set_other, set-get_or}
use Rattle.rules.specs.Settings.{Settings}
use Rattle.rules.specs.Figure3 as figure
use Rattle.rules.specs.Figure3.{Way, Ways, WellCache, set_of, empty_cache, use_line, way_for}
use Rattle.cache.specs.declared.Cache.{Cache}
use Rattle.cache.specs.Entries.{cache_of, Sized, held_line, held_frame, is_valid, held_bytes, home, found, way_taken, entry_taken, Has, SameAt, All, bytes_in, is_valid_in}
use Rattle.cache.specs.Steps.{emptied, placed_in}
use Rattle.cache.specs.Shown.{line_in, way_of, shown}
use Rattle.lists.specs.Lines.{line_at, paste_line}
use Rattle.lists.proofs.Lines.{paste-own, length-written, read-own, read-other, apart}
use Rattle.cache.proofs.Returns.{entry-room}
use Rattle.cache.proofs.Hits.{found_at, way-below, taken-below, way-shown, line_taken}

pub same-ways : {a b : Option ℕ} {p q : Option ℕ} {u v : Way} → a ≡ b → p ≡ q → u ≡ v
    → ◌≡◌ {A = Ways} (record { first = a; second = p; last = u }) (record { first = b; second = q; last = v })
same-ways d e f = cc

pub carried : (Q : ℕ → ℕ → List ℕ → Type 0) {m n g h : ℕ} {a b : List ℕ} → m ≡ n → g ≡ h → a ≡ b → Q m g a → Q n h b
carried Q d e f q = rw (sym d, sym e, sym f) q

module _ (c : Cache) (s : Sized c) (l f : ℕ) (bytes : List ℕ) (n : length bytes ≡ 16) where
  -- there is room for a line at the entry taken
  room : 16 * entry_taken c l + 16 ≤ length c.bytes
  room = entry-room c.bytes (entry_taken c l) s.bytes (taken-below c l)

  pub placed-sized : Sized (placed_in c l f bytes)
  unfolding placed_in
  placed-sized =
      record {
        held = length-set c.held (entry_taken c l) l ∙ s.held;
        origins = length-set c.origins (entry_taken c l) f ∙ s.origins;
        valid = length-set c.valid (entry_taken c l) 1 ∙ s.valid;
        bytes = length-written c.bytes bytes (16 * entry_taken c l) room n ∙ s.bytes;
        last = length-set c.last (set_of l) (way_taken c l) ∙ s.last;
      }

  -- the entry taken has the line, the frame and the bytes
  pub placed-has : Has (placed_in c l f bytes) (entry_taken c l) l f bytes
  unfolding placed_in is_valid_in bytes_in
  placed-has =
      record {
        valid =
            ap (λ (x : ℕ). eqb x 1) (get_or-set_same c.valid (entry_taken c l) 1 0 (omega (arith, taken-below c l, s.valid)));
        line_is = get_or-set_same c.held (entry_taken c l) l 0 (omega (arith, taken-below c l, s.held));
        frame_is = get_or-set_same c.origins (entry_taken c l) f 0 (omega (arith, taken-below c l, s.origins));
        bytes_are = read-own c.bytes bytes (16 * entry_taken c l) room n;
      }

  -- and every other entry what it had
  pub placed_same : (e : ℕ) → e ≢ entry_taken c l → SameAt e (placed_in c l f bytes) c
  unfolding placed_in is_valid_in bytes_in
  placed_same e d =
      record {
        valid = ap (λ (x : ℕ). eqb x 1) (get_or-set_other c.valid (entry_taken c l) e 1 0 d);
        line = get_or-set_other c.held (entry_taken c l) e l 0 d;
        frame = get_or-set_other c.origins (entry_taken c l) e f 0 d;
        bytes = read-other c.bytes bytes (16 * entry_taken c l) room n (16 * e) (apart e (entry_taken c l) d);
      }

  in-own : line_in (placed_in c l f bytes) (entry_taken c l) ≡ some l
  unfolding line_in
  in-own =
      ap (λ (b : Bool). cond b (some (held_line (placed_in c l f bytes) (entry_taken c l))) none) placed-has.valid
      ∙ ap {B = Option ℕ} some placed-has.line_is

  in-same : (e : ℕ) → e ≢ entry_taken c l → line_in (placed_in c l f bytes) e ≡ line_in c e
  unfolding line_in
  in-same e d =
      ap₂ (λ (b : Bool) (x : ℕ). cond b (some x) none) (placed_same e d).valid (placed_same e d).line

  -- a use is Figure 3's
  own-set : (w : ℕ) → way_taken c l ≡ w → w < 2 → shown (placed_in c l f bytes) (set_of l) ≡ figure.placed l (way_of w) (shown c (set_of l))
  unfolding shown placed_in figure.placed way_of
  own-set zero p b =
      let d : entry_taken c l ≡ home l = omega arith in
      same-ways (subst (λ (e : ℕ). line_in (placed_in c l f bytes) e ≡ some l) d in-own) (in-same (home l + 1) (λ q. omega (arith, q)))
      (ap way_of (get_or-set_same c.last (set_of l) (way_taken c l) 0 (omega (arith, s.last)) ∙ p))
  own-set (suc zero) p b =
      let d : entry_taken c l ≡ home l + 1 = omega arith in
      same-ways (in-same (home l) (λ q. omega (arith, q))) (subst (λ (e : ℕ). line_in (placed_in c l f bytes) e ≡ some l) d in-own)
      (ap way_of (get_or-set_same c.last (set_of l) (way_taken c l) 0 (omega (arith, s.last)) ∙ p))
  own-set (suc (suc w)) p b = absurd (omega arith)

  pub placed-shown : shown (placed_in c l f bytes) ≡ use_line l (shown c)
  unfolding shown use_line placed_in
  placed-shown = fun_ext (λ set. go set (eqb (set_of l) set) refl)
    where
      go : (set : ℕ) (b : Bool) → eqb (set_of l) set ≡ b
          → shown (placed_in c l f bytes) set ≡ cond b (figure.placed l (way_for l (shown c set)) (shown c set)) (shown c set)
      go set true e =
          subst (λ (k : ℕ). shown (placed_in c l f bytes) k ≡ figure.placed l (way_for l (shown c k)) (shown c k)) (eqb-true (set_of l) set e)
          (own-set (way_taken c l) refl (way-below c l) ∙ ap (λ (w : Way). figure.placed l w (shown c (set_of l))) (sym (way-shown c l)))
      go set false e =
          let apart : set_of l ≢ set = eqb-false (set_of l) set e in
          same-ways (in-same (2 * set) (λ d. apart (omega (arith, d, way-below c l))))
          (in-same (2 * set + 1) (λ d. apart (omega (arith, d, way-below c l))))
          (ap way_of (get_or-set_other c.last (set_of l) set (way_taken c l) 0 (λ d. apart (sym d))))

  -- What is true of every valid entry stays so, if it is true of the line placed and the new version takes nothing from other lines.
  pub placed-all : (R Q : ℕ → ℕ → List ℕ → Type 0) (t : Settings) → WellCache t (shown c) → All R c → Q l f bytes
      → ((m g : ℕ) (b : List ℕ) → m ≢ l → R m g b → Q m g b) → All Q (placed_in c l f bytes)
  placed-all R Q t well all own other e v = go (ℕ_discrete e (entry_taken c l))
    where
      go : Dec (e ≡ entry_taken c l) → Q (held_line (placed_in c l f bytes) e) (held_frame (placed_in c l f bytes) e) (held_bytes (placed_in c l f bytes) e)
      go (yes d) =
          subst (λ (x : ℕ). Q (held_line (placed_in c l f bytes) x) (held_frame (placed_in c l f bytes) x) (held_bytes (placed_in c l f bytes) x)) (sym d)
          (carried Q (sym placed-has.line_is) (sym placed-has.frame_is) (sym placed-has.bytes_are) own)
      go (no d) =
          let same : SameAt e (placed_in c l f bytes) c = placed_same e d in
          let was : is_valid c e ≡ true = sym same.valid ∙ v in
          carried Q (sym same.line) (sym same.frame) (sym same.bytes)
          (other (held_line c e) (held_frame c e) (held_bytes c e) (λ h. d (line_taken c l t e well was h)) (all e was))

-- RESET's cache is Figure 3's, and holds nothing
zeros : (n e : ℕ) → ◌≡◌ {A = ℕ} (get_or (replicate n 0) e 0) 0
zeros zero e = refl
zeros (suc n) zero = refl
zeros (suc n) (suc e) = zeros n e

none-valid : (e : ℕ) → is_valid emptied e ≡ false
unfolding emptied is_valid_in
none-valid e = ap (λ (x : ℕ). eqb x 1) (zeros 32 e)

pub empty-shown : shown emptied ≡ empty_cache
unfolding shown emptied empty_cache line_in way_of
empty-shown =
    fun_ext
    (λ set. same-ways (none_in (2 * set)) (none_in (2 * set + 1)) (ap way_of (zeros 16 set)))
  where
    none_in : (e : ℕ) → line_in emptied e ≡ none
    none_in e = ap (λ (b : Bool). cond b (some (held_line emptied e)) none) (none-valid e)

pub empty-all : (R : ℕ → ℕ → List ℕ → Type 0) → All R emptied
empty-all R e v = absurd (false≢true (sym (none-valid e) ∙ v))

pub empty-sized : Sized emptied
unfolding emptied
empty-sized = record { held = refl; origins = refl; valid = refl; bytes = refl; last = refl }

-- A use of a line that the cache holds, with its entry's frame and other bytes: the line, the frame and the flag stay.
pub hit-edited : (c : Cache) (l e : ℕ) → found c l ≡ Some e → (content bytes last : List ℕ) → bytes ≡ paste_line c.bytes (16 * e) content
    → last ≡ set c.last (e / 2) (e % 2) → cache_of c.held c.origins c.valid bytes last ≡ placed_in c l (held_frame c e) content
unfolding placed_in is_valid_in
hit-edited c l e h content bytes last edited after =
    let f = found_at c l e h in
    let way : e % 2 ≡ way_taken c l = omega (arith, f.taken, way-below c l) in
    λ i.
    cache_of ((sym (ap₂ (set c.held) (sym f.taken) (sym f.line) ∙ set-get_or c.held e 0)) i)
    ((sym (ap (λ (x : ℕ). set c.origins x (held_frame c e)) (sym f.taken) ∙ set-get_or c.origins e 0)) i)
    ((sym (ap₂ (set c.valid) (sym f.taken) (sym (eqb-true (get_or c.valid e 0) 1 f.valid)) ∙ set-get_or c.valid e 0)) i)
    ((edited ∙ ap (λ (x : ℕ). paste_line c.bytes (16 * x) content) f.taken) i) ((after ∙ ap₂ (set c.last) f.set way) i)

-- With its own bytes too, only the way used last is another.
pub hit-placed : (c : Cache) (l e : ℕ) → found c l ≡ Some e → (last : List ℕ) → last ≡ set c.last (e / 2) (e % 2)
    → cache_of c.held c.origins c.valid c.bytes last ≡ placed_in c l (held_frame c e) (held_bytes c e)
unfolding bytes_in
hit-placed c l e h last after = hit-edited c l e h (line_at c.bytes (16 * e)) c.bytes last (sym (paste-own c.bytes (16 * e))) after
