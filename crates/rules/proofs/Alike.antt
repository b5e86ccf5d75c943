-- Figure 2 with Figure 3 answers every call as the plain store does, step by step. Assumes nothing.
use mathlib.Core.Path.{◌≡◌, refl, ap, ap₂}
use mathlib.Core.Bool.{Bool, true, false, cond}
use Prim.Native.Nat.{ℕ, ◌<◌}
use native.Mathlib.Omega.{arith}
use lib.ListN.{length}
use Rattle.rules.specs.Settings.{Settings, Pieces}
use Rattle.rules.specs.Line.{line_of}
use Rattle.rules.specs.Call.{Act, Call, Place, Origin, Answer}
use Rattle.rules.specs.Call.Place.{in_archive}
use Rattle.rules.specs.Call.Origin.{from_cache, from, empty}
use Rattle.rules.specs.Call.Answer.{outcome, reading, lending, counting, verdict, filling}
use Rattle.rules.specs.Call.Act.{READ}
use Rattle.rules.specs.Call.Call.{ON}
use Rattle.rules.specs.Seen.{Seen, accepted}
use Rattle.rules.specs.Refusal.{refusal, lacks}
use Rattle.rules.specs.Figure3.{Cache, holds, cache_step}
use Rattle.rules.specs.Registers.{Registers, at_start}
use Rattle.rules.specs.Figure2.{Figure, figure_step, figure_seen}
use Rattle.rules.specs.Plain.{Plain, plain_seen, plain_step, plain_facts, plain_refusal}
use Rattle.rules.proofs.Chain.{state-passed}
use Rattle.rules.proofs.Picture.{picture, seen-is}
use Rattle.rules.proofs.Steps.{steps}

-- The refusals in Figure 2, whose registers are always within their limits.
unfoldable pub figure_refusal : Pieces → Settings → Figure → Call → ℕ
figure_refusal lengths s f c =
    refusal (record { settings = s; fits = true; lengths = lengths; live = f.live }) (lacks s (figure_seen s f)) c

-- One act on a history p with a cache x, and on the picture of p with the same cache.
pub record Alike (lengths : Pieces) (p : Plain) (x : Cache) (c : Act) : Type 0 where
  pub number : figure_refusal lengths p.settings (picture p) (ON c) ≡ plain_refusal lengths p (ON c)
  pub answer : accepted (figure_seen p.settings (picture p)) (holds x) c ≡ accepted (plain_seen p) (holds x) c
  pub step : (r : Registers) → r.settings ≡ p.settings → plain_refusal lengths p (ON c) ≡ 0 → picture (plain_step c p) ≡ figure_step c r (picture p)
  pub cache : cache_step (figure_seen p.settings (picture p)) c x ≡ cache_step (plain_seen p) c x
  pub group : plain_refusal lengths p (ON c) ≡ 0 → 0 < length (plain_step c p).groups

-- A history has a group: `fresh` opens one, and the field group says that each accepted act leaves one.
pub alike : (lengths : Pieces) (p : Plain) (x : Cache) (c : Act) → 0 < length p.groups → Alike lengths p x c
unfolding figure_refusal plain_refusal plain_facts picture plain_seen refusal at_start
alike lengths p x c h =
    record {
      number = ap (λ (v : Seen). refusal (plain_facts lengths p) (lacks p.settings v) (ON c)) (seen-is p);
      answer = ap (λ (v : Seen). accepted v (holds x) c) (seen-is p);
      step = λ x s r. (steps _ _ c x p s h refl (state-passed _ _ r)).drawn;
      cache = ap (λ (v : Seen). cache_step v c x) (seen-is p);
      group = λ r. (steps _ _ c (at_start p.settings) p refl h refl (state-passed _ _ r)).group;
    }

-- What an accepted READ names as its origin.
unfoldable pub origin_named : Answer → Origin
origin_named (outcome n) = from in_archive
origin_named (reading n v o) = o
origin_named (lending x) = from in_archive
origin_named (counting n live pages) = from in_archive
origin_named (verdict n b) = from in_archive
origin_named (filling n left) = from in_archive

-- What tells the three kinds of origin apart.
not-cache : (o : Place) → from o ≡ from_cache → ⊥
not-cache o e = let z : ◌≡◌ {A = ℕ} 0 1 = cc in omega arith

never-cache : empty ≡ from_cache → ⊥
never-cache e = let z : ◌≡◌ {A = ℕ} 0 1 = cc in omega arith

never-held : (h : Bool) (o : Place) → cond h from_cache (from o) ≡ empty → ⊥
never-held true o e = let z : ◌≡◌ {A = ℕ} 0 1 = cc in omega arith
never-held false o e = let z : ◌≡◌ {A = ℕ} 0 1 = cc in omega arith

-- An accepted READ names the cache exactly where Figure 3's cache holds the line and some surviving write has touched it,
module _ (p : Plain) (x : Cache) (w a : ℕ) where
  abbrev named : Origin
  named = origin_named (accepted (plain_seen p) (holds x) (READ w a))

  pub cached-only : named ≡ from_cache → ((plain_seen p).touched (line_of a) ≡ true) × (holds x (line_of a) ≡ true)
  unfolding origin_named accepted
  cached-only e = go ((plain_seen p).touched (line_of a)) (holds x (line_of a)) e
    where
      go : (t h : Bool) → cond t (cond h from_cache (from ((plain_seen p).origin (line_of a)))) empty ≡ from_cache → (t ≡ true) × (h ≡ true)
      go true true e = (refl, refl)
      go true false e = absurd (not-cache _ e)
      go false h e = absurd (never-cache e)

  pub cached-always : (plain_seen p).touched (line_of a) ≡ true → holds x (line_of a) ≡ true → named ≡ from_cache
  unfolding origin_named accepted
  cached-always t h = ap₂ (λ (b c : Bool). cond b (cond c from_cache (from ((plain_seen p).origin (line_of a)))) empty) t h

  -- and it is empty exactly where none has, cached or not.
  pub empty-only : named ≡ empty → (plain_seen p).touched (line_of a) ≡ false
  unfolding origin_named accepted
  empty-only e = go ((plain_seen p).touched (line_of a)) e
    where
      go : (t : Bool) → cond t (cond (holds x (line_of a)) from_cache (from ((plain_seen p).origin (line_of a)))) empty ≡ empty → t ≡ false
      go true e = absurd (never-held (holds x (line_of a)) ((plain_seen p).origin (line_of a)) e)
      go false e = refl

  pub empty-always : (plain_seen p).touched (line_of a) ≡ false → named ≡ empty
  unfolding origin_named accepted
  empty-always t = ap (λ (b : Bool). cond b (cond (holds x (line_of a)) from_cache (from ((plain_seen p).origin (line_of a)))) empty) t
