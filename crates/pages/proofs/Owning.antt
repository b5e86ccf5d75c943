-- Whose a page is, and which is given out next, in the form in which the code has it. Assumes nothing.
use Rattle.std.specs.Prelude.{Some, None}
use mathlib.Core.Path.{◌≡◌, sym, ◌∙◌, ap, ap₂}
use mathlib.Core.Bool.{Bool, true, false, cond, ◌&&◌}
use mathlib.Core.List.{List}
use Prim.Native.Nat.{ℕ, ◌+◌, ◌%◌, ◌≤◌, ◌<◌}
use native.Mathlib.Nat.{add-mod_right, mod-eq_of_lt}
use native.Mathlib.Omega.{arith}
use borrow.Author.Tests.{lt-ltb, le-ltb, ltb-true, eqb-true, eq-eqb}
use lib.Dec.{ltb, eqb}
use lib.ListN.{get_or}
use Rattle.rules.proofs.Tests.{both_true}
use Rattle.frames.specs.Circle.{index_of, frame_at}
use Rattle.pages.specs.Ring.{nth_page, position_of, owns, next_page}

module _ (pages first used : ℕ) (owners : List ℕ) (page place : ℕ) where
  abbrev inside : Bool
  inside = ltb (position_of pages first page) used

  abbrev known : Bool
  known = eqb (get_or owners page 0) place

  pub own-past : pages ≤ page → false ≡ owns pages first used owners page place
  unfolding owns
  own-past h = sym (ap (λ (t : Bool). t && (inside && known)) (le-ltb page pages h))

  module _ (b : page < pages) (i : ℕ) (is : i ≡ index_of pages first page) where
    pub own-outside : used ≤ i → false ≡ owns pages first used owners page place
    unfolding owns
    own-outside h =
        sym (ap₂ (λ (s t : Bool). s && (t && known)) (lt-ltb page pages b) (le-ltb (position_of pages first page) used (omega (arith, is))))

    pub own-told : i < used → known ≡ owns pages first used owners page place
    unfolding owns
    own-told h =
        sym (ap₂ (λ (s t : Bool). s && (t && known)) (lt-ltb page pages b) (lt-ltb (position_of pages first page) used (omega (arith, is))))

  -- What it says.
  pub own-means : owns pages first used owners page place ≡ true → (page < pages) × (position_of pages first page < used) × (get_or owners page 0 ≡ place)
  unfolding owns
  own-means e =
      let h = both_true (ltb page pages) (inside && known) e in
      let k = both_true inside known h.1 in
      (ltb-true page pages h.0, ltb-true (position_of pages first page) used k.0, eqb-true (get_or owners page 0) place k.1)

  pub own_is : page < pages → position_of pages first page < used → get_or owners page 0 ≡ place → owns pages first used owners page place ≡ true
  unfolding owns
  own_is b c e =
      ap₂ (λ (s t : Bool). s && t) (lt-ltb page pages b)
      (ap₂ (λ (s t : Bool). s && t) (lt-ltb (position_of pages first page) used c) (eq-eqb (get_or owners page 0) place e))

-- All round the circle is the start again.
pub page-round : (pages first i : ℕ) → first < pages → pages ≤ i → i ≤ pages → first ≡ nth_page pages first i
unfolding frame_at
page-round pages first i h b c =
    let all : i ≡ pages = omega arith in
    sym (ap (λ (n : ℕ). (first + n) % pages) all ∙ (add-mod_right first pages ∙ mod-eq_of_lt h))

module _ (pages first used : ℕ) where
  pub next-some : (p : ℕ) → used < pages → p ≡ frame_at pages first used → Some p ≡ next_page pages first used
  unfolding next_page
  next-some p b e = ap Some e ∙ sym (ap (λ (t : Bool). cond t (Some (nth_page pages first used)) None) (lt-ltb used pages b))

  pub next-none : pages ≤ used → None ≡ next_page pages first used
  unfolding next_page
  next-none b = sym (ap (λ (t : Bool). cond t (Some (nth_page pages first used)) None) (le-ltb used pages b))
