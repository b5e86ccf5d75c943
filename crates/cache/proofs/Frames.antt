-- Rollbacks and advances: the cache steps as Figure 3's. Assumes nothing.
use mathlib.Core.Path.{◌≡◌, refl, sym, ◌∙◌, ap, fun_ext}
use mathlib.Core.Bool.{Bool, true, false, cond, not, ◌&&◌, and-true, and-false}
use mathlib.Core.Option.{Option, none, some}
use mathlib.Core.List.{List}
use Prim.Native.Nat.{ℕ, ◌+◌, ◌*◌, ◌<◌}
use native.Mathlib.Decide.{dec_lt}
use native.Mathlib.Omega.{arith}
use borrow.Author.Tests.{not-true}
use lib.Dec.{eqb}
use lib.ListN.{get_or, get_or-eq_default}
use Rattle.rules.specs.Figure3.{unless_gone, forget}
use Rattle.rules.proofs.Tests.{both_true}
use Rattle.cache.specs.declared.Cache.{Cache}
use Rattle.cache.specs.Entries.{Sized, held_line, held_frame, is_valid, held_bytes, All, bytes_in, is_valid_in}
use Rattle.cache.specs.Steps.{is_dropped, flag_after, flags_after, forgotten, frame_after, frames_after, advanced_cache}
use Rattle.cache.specs.Shown.{line_in, shown}
use Rattle.lists.proofs.Lists.{rewrite-length, rewrite-past, rewrite-at}
use Rattle.cache.proofs.Hits.{valid-below}
use Rattle.cache.proofs.Uses.{same-ways, carried}

module _ (c : Cache) (s : Sized c) (frames omf n : ℕ) where
  pub forgotten-sized : Sized (forgotten c frames omf n)
  unfolding forgotten flags_after
  forgotten-sized =
      record {
        held = s.held;
        origins = s.origins;
        valid = rewrite-length (λ e flag. flag_after frames omf n (held_frame c e) flag) c.valid 32 ∙ s.valid;
        bytes = s.bytes;
        last = s.last;
      }

  -- exactly the entries with a dropped frame become invalid
  pub forgotten-valid : (e : ℕ) → is_valid (forgotten c frames omf n) e ≡ (is_valid c e && not (is_dropped frames omf n (held_frame c e)))
  unfolding forgotten flags_after is_valid_in flag_after
  forgotten-valid e = go (dec_lt e 32)
    where
      flag : (b : Bool) (x : ℕ) → eqb (cond b 0 x) 1 ≡ (eqb x 1 && not b)
      flag true x = sym (and-false (eqb x 1))
      flag false x = sym (and-true (eqb x 1))

      go : Dec (e < 32) → is_valid (forgotten c frames omf n) e ≡ (is_valid c e && not (is_dropped frames omf n (held_frame c e)))
      go (yes b) =
          ap (λ (x : ℕ). eqb x 1) (rewrite-at (λ e flag. flag_after frames omf n (held_frame c e) flag) c.valid 32 e b (omega (arith, s.valid)))
          ∙ flag (is_dropped frames omf n (held_frame c e)) (get_or c.valid e 0)
      go (no b) =
          let past : get_or c.valid e 0 ≡ 0 = get_or-eq_default c.valid 0 {n = e} (omega (arith, s.valid)) in
          ap (λ (x : ℕ). eqb x 1) (rewrite-past (λ e flag. flag_after frames omf n (held_frame c e) flag) c.valid 32 e (omega arith) ∙ past)
          ∙ sym (ap (λ (x : ℕ). eqb x 1 && not (is_dropped frames omf n (held_frame c e))) past)

  -- A rollback is Figure 3's, for lines that are gone where the test on their entry's frame says so.
  pub forgotten-shown : (gone : ℕ → Bool)
      → ((e : ℕ) → e < 32 → is_valid c e ≡ true → gone (held_line c e) ≡ is_dropped frames omf n (held_frame c e))
      → shown (forgotten c frames omf n) ≡ forget gone (shown c)
  unfolding shown forget forgotten line_in unless_gone
  forgotten-shown gone h = fun_ext (λ set. same-ways (way (2 * set)) (way (2 * set + 1)) refl)
    where
      either : (x : Option ℕ) (b : Bool) → cond (not b) x none ≡ cond b none x
      either x true = refl
      either x false = refl

      go : (e : ℕ) (b : Bool) → is_valid c e ≡ b
          → cond (b && not (is_dropped frames omf n (held_frame c e))) (some (held_line c e)) none
          ≡ unless_gone gone (cond b (some (held_line c e)) none)
      go e true v =
          rw (h e (valid-below c e s v) v)
          (either (some (held_line c e)) (is_dropped frames omf n (held_frame c e)))
      go e false v = refl

      way : (e : ℕ) → line_in (forgotten c frames omf n) e ≡ unless_gone gone (line_in c e)
      way e =
          ap (λ (b : Bool). cond b (some (held_line c e)) none) (forgotten-valid e) ∙ go e (is_valid c e) refl

  pub forgotten-all : (R Q : ℕ → ℕ → List ℕ → Type 0) → All R c
      → ((m g : ℕ) (b : List ℕ) → is_dropped frames omf n g ≡ false → R m g b → Q m g b) → All Q (forgotten c frames omf n)
  unfolding forgotten bytes_in
  forgotten-all R Q all kept e v =
      let both : (is_valid c e ≡ true) × (not (is_dropped frames omf n (held_frame c e)) ≡ true)
      = both_true (is_valid c e) (not (is_dropped frames omf n (held_frame c e))) (sym (forgotten-valid e) ∙ v) in
      kept (held_line c e) (held_frame c e) (held_bytes c e) (not-true (is_dropped frames omf n (held_frame c e)) both.1) (all e both.0)

  pub advanced-sized : Sized (advanced_cache c frames omf n)
  unfolding advanced_cache frames_after
  advanced-sized =
      record {
        held = s.held;
        origins = rewrite-length (λ e frame. frame_after frames omf n frame) c.origins 32 ∙ s.origins;
        valid = s.valid;
        bytes = s.bytes;
        last = s.last;
      }

  pub advanced-shown : shown (advanced_cache c frames omf n) ≡ shown c
  unfolding shown line_in is_valid_in advanced_cache
  advanced-shown = refl

  pub advanced-frame : (e : ℕ) → e < 32 → held_frame (advanced_cache c frames omf n) e ≡ frame_after frames omf n (held_frame c e)
  unfolding advanced_cache frames_after
  advanced-frame e b =
      rewrite-at (λ e frame. frame_after frames omf n frame) c.origins 32 e b (omega (arith, s.origins))

  pub advanced-all : (R Q : ℕ → ℕ → List ℕ → Type 0) → All R c
      → ((m g : ℕ) (b : List ℕ) → R m g b → Q m (frame_after frames omf n g) b) → All Q (advanced_cache c frames omf n)
  unfolding advanced_cache bytes_in is_valid_in
  advanced-all R Q all kept e v =
      carried Q refl (sym (advanced-frame e (valid-below c e s v))) refl
      (kept (held_line c e) (held_frame c e) (held_bytes c e) (all e v))
