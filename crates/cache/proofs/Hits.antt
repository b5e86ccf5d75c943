-- `found` and the way taken, seen as Figure 3's cache. Assumes nothing.
use Rattle.std.specs.Prelude as std
use Rattle.std.specs.Prelude.{Some, None}
use mathlib.Core.List.{List, []}
use mathlib.Core.Path.{◌≡◌, refl, sym, ◌∙◌, ap, ap₂, subst}
use mathlib.Core.Bool.{Bool, true, false, cond, not, ◌&&◌, ◌||◌, false≢true}
use mathlib.Core.Option.{Option, none, some}
use Prim.Native.Nat.{ℕ, ◌+◌, ◌*◌, ◌%◌, ◌/◌, ◌<◌}
use native.Mathlib.Decide.{dec_lt, ℕ_discrete}
use native.Mathlib.Omega.{arith}
use borrow.Author.Tests.{eqb-true}
use lib.Dec.{eqb}
use lib.ListN.{get_or, get_or-eq_default}
use Rattle.rules.specs.Settings.{Settings}
use Rattle.rules.specs.Figure3.{WellCache, set_of, is_in, is_free, holds, other_way, way_for}
use Rattle.rules.specs.Figure3.Way.{way0, way1}
use Rattle.rules.proofs.Tests.{both_true}
use Rattle.cache.specs.declared.Cache.{Cache}
use Rattle.cache.specs.Entries.{Sized, held_line, is_valid, home, is_at, found, is_hit, way_taken, entry_taken, AsksFound, FoundAt, hit_in, of_frame, is_at_in, is_valid_in, free_way, way_in}
use Rattle.cache.specs.Shown.{line_in, way_of, shown}
use Rattle.cache.proofs.Returns.{at-line, found_first, found-second, found_none, taken-first, taken-second}

-- only the 32 entries are valid
pub valid-below : (c : Cache) (e : ℕ) → Sized c → is_valid c e ≡ true → e < 32
unfolding is_valid_in
valid-below c e s h =
    elim (dec_lt e 32) [
      | yes b ↦ b
      | no b ↦ absurd (false≢true (sym (ap (λ (n : ℕ). eqb n 1) (get_or-eq_default c.valid 0 {n = e} (omega arith))) ∙ h))
    ]

module _ (c : Cache) (e l : ℕ) where
  -- an entry holds a line as the way of Figure 3 does
  pub in-at : is_in l (line_in c e) ≡ is_at c e l
  unfolding is_in line_in is_at_in
  in-at = go (is_valid c e)
    where
      go : (b : Bool) → is_in l (cond b (some (held_line c e)) none) ≡ (b && eqb l (held_line c e))
      go true = refl
      go false = refl

  pub at-valid : is_at c e l ≡ true → is_valid c e ≡ true
  unfolding is_at_in
  at-valid h = (both_true (is_valid c e) (eqb l (held_line c e)) h).0

  pub at-line-is : is_at c e l ≡ true → held_line c e ≡ l
  unfolding is_at_in
  at-line-is h = sym (eqb-true l (held_line c e) (both_true (is_valid c e) (eqb l (held_line c e)) h).1)

  pub at-is : is_valid c e ≡ true → held_line c e ≡ l → is_at c e l ≡ true
  at-is v h = sym (at-line c.held c.valid e l true (sym v) refl h)

pub free-at : (c : Cache) (e : ℕ) → is_free (line_in c e) ≡ not (is_valid c e)
unfolding is_free line_in
free-at c e = go (is_valid c e)
  where
    go : (b : Bool) → is_free (cond b (some (held_line c e)) none) ≡ not b
    go true = refl
    go false = refl

cond_below : (b : Bool) (x y : ℕ) → x < 2 → y < 2 → cond b x y < 2
cond_below true x y h k = h
cond_below false x y h k = k

module _ (c : Cache) (l : ℕ) where
  pub way-below : way_taken c l < 2
  unfolding way_in free_way
  way-below =
      cond_below (is_at c (home l) l) 0 _ (omega arith)
      (cond_below (is_at c (home l + 1) l) 1 _ (omega arith)
      (cond_below (not (is_valid c (home l))) 0 _ (omega arith)
      (cond_below (not (is_valid c (home l + 1))) 1 _ (omega arith)
      (cond_below (eqb (get_or c.last (set_of l) 0) 0) 1 0 (omega arith) (omega arith)))))

  pub taken-below : entry_taken c l < 32
  taken-below = omega (arith, way-below)

  -- `find` hits exactly where Figure 3's cache holds the line
  pub hit-shown : is_hit (found c l) ≡ holds (shown c) l
  unfolding is_hit hit_in holds shown
  hit-shown =
      go (is_at c (home l) l) (is_at c (home l + 1) l)
      ∙ ap₂ (λ (y z : Bool). y || z) (sym (in-at c (home l) l)) (sym (in-at c (home l + 1) l))
    where
      go : (a b : Bool) → is_hit (cond a (Some (home l)) (cond b (Some (home l + 1)) None)) ≡ (a || b)
      go true b = refl
      go false true = refl
      go false false = refl

  -- and takes the way that Figure 3's does
  pub way-shown : way_for l (shown c (set_of l)) ≡ way_of (way_taken c l)
  unfolding way_for shown way_in free_way way_of other_way
  way-shown =
      rw (in-at c (home l) l, in-at c (home l + 1) l, free-at c (home l), free-at c (home l + 1))
      (go (is_at c (home l) l) (is_at c (home l + 1) l) (not (is_valid c (home l))) (not (is_valid c (home l + 1))) (eqb (get_or c.last (set_of l) 0) 0))
    where
      go : (a b v w z : Bool)
          → cond a way0 (cond b way1 (cond v way0 (cond w way1 (other_way (cond z way0 way1)))))
          ≡ way_of (cond a 0 (cond b 1 (cond v 0 (cond w 1 (cond z 1 0)))))
      go true b v w z = refl
      go false true v w z = refl
      go false false true w z = refl
      go false false false true z = refl
      go false false false false true = refl
      go false false false false false = refl

  -- the entry that `find` gives
  pub found_at : (e : ℕ) → found c l ≡ Some e → FoundAt c l e
  found_at e h = go (is_at c (home l) l) (is_at c (home l + 1) l) refl refl
    where
      is : is_at c e l ≡ true → e ≡ entry_taken c l → FoundAt c l e
      is a t =
          record {
            valid = at-valid c e l a;
            line = at-line-is c e l a;
            set = omega (arith, t, way-below);
            below = omega (arith, t, taken-below);
            taken = t;
          }

      go : (a b : Bool) → is_at c (home l) l ≡ a → is_at c (home l + 1) l ≡ b → FoundAt c l e
      go true b p q =
          let d : home l ≡ e = cc (found_first c.held c.valid l (is_at c (home l) l) refl p) in
          is (subst (λ (x : ℕ). is_at c x l ≡ true) d p) (omega (arith, d, taken-first c.held c.valid c.last l (is_at c (home l) l) refl p))
      go false true p q =
          let d : home l + 1 ≡ e = cc (found-second c.held c.valid l (is_at c (home l) l) refl p (is_at c (home l + 1) l) refl q) in
          is (subst (λ (x : ℕ). is_at c x l ≡ true) d q)
          (omega (arith, d, taken-second c.held c.valid c.last l (is_at c (home l) l) refl p (is_at c (home l + 1) l) refl q))
      go false false p q =
          let z : ◌≡◌ {A = ℕ} 0 1 = cc (found_none c.held c.valid l (is_at c (home l) l) refl p (is_at c (home l + 1) l) refl q) in
          absurd (omega arith)

  -- In a cache with each line in its set and once, a valid entry that holds the line is the one that a use of it takes.
  pub line_taken : (s : Settings) (e : ℕ) → WellCache s (shown c) → is_valid c e ≡ true → held_line c e ≡ l → e ≡ entry_taken c l
  unfolding shown line_in
  line_taken s e q v h = go (ℕ_discrete (e % 2) 0)
    where
      in-way : (x : ℕ) → x ≡ e → line_in c x ≡ some l
      in-way x d =
          subst (λ (y : ℕ). line_in c y ≡ some l) (sym d)
          (ap (λ (b : Bool). cond b (some (held_line c e)) none) v ∙ ap {B = Option ℕ} some h)

      go : Dec (e % 2 ≡ 0) → e ≡ entry_taken c l
      go (yes d) =
          let set : set_of l ≡ e / 2 = (q.first (e / 2) l (in-way (2 * (e / 2)) (omega arith))).0 in
          let here : home l ≡ e = omega arith in
          omega (
            arith,
            taken-first c.held c.valid c.last l (is_at c (home l) l) refl (subst (λ (x : ℕ). is_at c x l ≡ true) (sym here) (at-is c e l v h)),
          )
      go (no d) =
          let set : set_of l ≡ e / 2 = (q.second (e / 2) l (in-way (2 * (e / 2) + 1) (omega arith))).0 in
          let here : home l + 1 ≡ e = omega arith in
          let own : is_at c (home l + 1) l ≡ true = subst (λ (x : ℕ). is_at c x l ≡ true) (sym here) (at-is c e l v h) in
          other (is_at c (home l) l) refl own here
        where
          other : (b : Bool) → is_at c (home l) l ≡ b → is_at c (home l + 1) l ≡ true → home l + 1 ≡ e → e ≡ entry_taken c l
          other true p own here =
              absurd
              (q.once (set_of l) l
              (ap (λ (b : Bool). cond b (some (held_line c (home l))) none) (at-valid c (home l) l p) ∙ ap {B = Option ℕ} some (at-line-is c (home l) l p))
              (in-way (home l + 1) here))
          other false p own here =
              omega (arith, here, taken-second c.held c.valid c.last l (is_at c (home l) l) refl p (is_at c (home l + 1) l) refl own)

-- A hit may be read, in the form in which a caller of `find` has it,
pub found_below : (lines valid : List ℕ) (l : ℕ) (r : std.Option ℕ) (e : ℕ) → r ≡ hit_in lines valid l → r ≡ Some e → e < 32
found_below lines valid l r e d h =
    (found_at (record { held = lines; origins = []; valid = valid; bytes = []; last = [] }) l e (sym d ∙ h)).below

-- and one that hands it on.
pub found-few : (lines valid : List ℕ) (l : ℕ) (r : std.Option ℕ) → r ≡ hit_in lines valid l → AsksFound r
found-few lines valid l r d e h = found_below lines valid l r e d h

-- An entry with a frame is the one that was found, and has the frame.
pub of-hit : (origins : List ℕ) (f e : ℕ) (r : std.Option ℕ) → of_frame origins f r ≡ Some e → (r ≡ Some e) × (get_or origins e 0 ≡ f)
unfolding of_frame
of-hit origins f e (Some n) h = own (eqb (get_or origins n 0) f) refl h
  where
    own : (t : Bool) → eqb (get_or origins n 0) f ≡ t → cond t (Some n) None ≡ Some e → (Some n ≡ Some e) × (get_or origins e 0 ≡ f)
    own true p k = let d : n ≡ e = cc k in (k, ap (λ (m : ℕ). get_or origins m 0) (sym d) ∙ eqb-true (get_or origins n 0) f p)
    own false p k = cc
of-hit origins f e None h = cc
