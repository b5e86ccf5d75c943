-- Uses and rollbacks keep a cache well-formed. Assumes nothing.
use mathlib.Core.Path.{◌≡◌, refl, sym, ◌∙◌, ap, subst}
use mathlib.Core.Bool.{Bool, true, false, cond}
use mathlib.Core.Option.{Option, none, some, none-ne-some, some-injective}
use Prim.Native.Nat.{ℕ, ◌<◌}
use native.Mathlib.Omega.{arith}
use borrow.Author.Tests.{eqb-true, eq-eqb}
use lib.Dec.{eqb}
use Rattle.rules.specs.Settings.{Settings}
use Rattle.rules.specs.Figure3.{Way, Ways, Cache, WellCache, set_of, empty_cache, is_in, is_free, other_way, way_for, placed, use_line, unless_gone, forget}
use Rattle.rules.specs.Figure3.Way.{way0, way1}

is_in-true : (l : ℕ) (o : Option ℕ) → is_in l o ≡ true → o ≡ some l
unfolding is_in
is_in-true l none e = absurd (mathlib.Core.Bool.false≢true e)
is_in-true l (some m) e = ap {B = Option ℕ} some (sym (eqb-true l m e))

is_in-some : (l : ℕ) (o : Option ℕ) → o ≡ some l → is_in l o ≡ true
unfolding is_in
is_in-some l none e = absurd (none-ne-some l e)
is_in-some l (some m) e = eq-eqb l m (sym (some-injective m l e))

ways-differ : way0 ≡ way1 → ⊥
ways-differ e = let z : ◌≡◌ {A = ℕ} 0 1 = cc in omega arith

-- a line that way 0 is taken for is not in way 1
not-second : (l : ℕ) (w : Ways) → (w.first ≡ some l → w.second ≡ some l → ⊥) → way_for l w ≡ way0 → w.second ≡ some l → ⊥
unfolding way_for
not-second l w once e h = go (is_in l w.first) refl e
  where
    go : (b : Bool) → is_in l w.first ≡ b
        → cond b way0 (cond (is_in l w.second) way1 (cond (is_free w.first) way0 (cond (is_free w.second) way1 (other_way w.last)))) ≡ way0
        → ⊥
    go true p e = once (is_in-true l w.first p) h
    go false p e =
        ways-differ
        (sym e
        ∙ ap (λ (b : Bool). cond b way1 (cond (is_free w.first) way0 (cond (is_free w.second) way1 (other_way w.last))))
        (is_in-some l w.second h))

-- and one that way 1 is taken for is not in way 0
not_first : (l : ℕ) (w : Ways) → way_for l w ≡ way1 → w.first ≡ some l → ⊥
unfolding way_for
not_first l w e h =
    ways-differ
    (sym (ap (λ (b : Bool). cond b way0 (cond (is_in l w.second) way1 (cond (is_free w.first) way0 (cond (is_free w.second) way1 (other_way w.last)))))
    (is_in-some l w.first h))
    ∙ e)

-- What WellCache asks of one set.
record WellWays (s : Settings) (set : ℕ) (w : Ways) : Type 0 where
  first : (l : ℕ) → w.first ≡ some l → (set_of l ≡ set) × (l < s.lines)
  second : (l : ℕ) → w.second ≡ some l → (set_of l ≡ set) × (l < s.lines)
  once : (l : ℕ) → w.first ≡ some l → w.second ≡ some l → ⊥

module _ (s : Settings) where
  to-ways : (c : Cache) → WellCache s c → (set : ℕ) → WellWays s set (c set)
  to-ways c q set = record { first = q.first set; second = q.second set; once = q.once set }

  from-ways : (c : Cache) → ((set : ℕ) → WellWays s set (c set)) → WellCache s c
  from-ways c q = record { first = λ set. (q set).first; second = λ set. (q set).second; once = λ set. (q set).once }

  placed-well : (l set : ℕ) (w : Ways) → l < s.lines → set_of l ≡ set → WellWays s set w → (way : Way) → way_for l w ≡ way
      → WellWays s set (placed l way w)
  unfolding placed
  placed-well l set w h e q way0 t =
      record {
        first = λ m p. subst (λ (z : ℕ). (set_of z ≡ set) × (z < s.lines)) (some-injective l m p) (e, h);
        second = q.second;
        once = λ m p r. not-second l w (q.once l) t (r ∙ ap {B = Option ℕ} some (sym (some-injective l m p)));
      }
  placed-well l set w h e q way1 t =
      record {
        first = q.first;
        second = λ m p. subst (λ (z : ℕ). (set_of z ≡ set) × (z < s.lines)) (some-injective l m p) (e, h);
        once = λ m p r. not_first l w t (p ∙ ap {B = Option ℕ} some (sym (some-injective l m r)));
      }

  pub empty-well : WellCache s empty_cache
  unfolding empty_cache
  empty-well =
      record {
        first = λ set l e. absurd (none-ne-some l e);
        second = λ set l e. absurd (none-ne-some l e);
        once = λ set l e h. absurd (none-ne-some l e);
      }

  pub use-well : (l : ℕ) (c : Cache) → l < s.lines → WellCache s c → WellCache s (use_line l c)
  unfolding use_line
  use-well l c h q = from-ways (use_line l c) (λ set. go set (eqb (set_of l) set) refl)
    where
      go : (set : ℕ) (b : Bool) → eqb (set_of l) set ≡ b → WellWays s set (cond b (placed l (way_for l (c set)) (c set)) (c set))
      go set true e = placed-well l set (c set) h (eqb-true (set_of l) set e) (to-ways c q set) (way_for l (c set)) refl
      go set false e = to-ways c q set

  gone-some : (gone : ℕ → Bool) (o : Option ℕ) (l : ℕ) → unless_gone gone o ≡ some l → o ≡ some l
  unfolding unless_gone
  gone-some gone none l e = e
  gone-some gone (some m) l e = go (gone m) e
    where
      go : (b : Bool) → cond b none (some m) ≡ some l → some m ≡ some l
      go true e = absurd (none-ne-some l e)
      go false e = e

  pub forget-well : (gone : ℕ → Bool) (c : Cache) → WellCache s c → WellCache s (forget gone c)
  unfolding forget
  forget-well gone c q =
      record {
        first = λ set l e. q.first set l (gone-some gone (c set).first l e);
        second = λ set l e. q.second set l (gone-some gone (c set).second l e);
        once = λ set l e h. q.once set l (gone-some gone (c set).first l e) (gone-some gone (c set).second l h);
      }
