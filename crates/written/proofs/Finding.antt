-- A search by index from OMF finds what Figure 2's search by marks back does. Assumes nothing.
use Rattle.std.specs.Prelude as std
use Rattle.std.specs.Prelude.{Some, None}
use mathlib.Core.Path.{◌≡◌, refl, ◌∙◌, ap, ap₂, fun_ext}
use mathlib.Core.Bool.{Bool, true, false, cond}
use mathlib.Core.Option.{Option, none, some, get_or}
use Prim.Native.Nat.{ℕ, zero, suc, ◌-◌, ◌<◌}
use native.Mathlib.Omega.{arith}
use Rattle.rules.specs.Line.{Line}
use Rattle.rules.specs.Call.{Place}
use Rattle.rules.specs.Call.Place.{in_frame, in_archive}
use Rattle.rules.specs.Seen.{further}
use Rattle.rules.specs.Figure2.{version_in, found_in}
use Rattle.numbers.specs.Search.{greatest}
use Rattle.numbers.proofs.Search.{greatest-found}

-- what a search among n live frames finds, as an origin and as a version
unfoldable pub back_of : ℕ → std.Option ℕ → Place
back_of n (Some i) = in_frame (n - 1 - i)
back_of n None = in_archive

unfoldable pub version_of : (ℕ → Line) → Line → std.Option ℕ → Line
version_of at other (Some i) = at i
version_of at other None = other

further-back : (n : ℕ) (r : std.Option ℕ) → ((i : ℕ) → r ≡ Some i → i < n) → further (back_of n r) ≡ back_of (suc n) r
unfolding further back_of
further-back n (Some i) h =
    let b = h i refl in
    let e : suc (n - 1 - i) ≡ suc n - 1 - i = omega arith in
    ap in_frame e
further-back n None h = refl

start : in_archive ≡ back_of zero None
unfolding back_of
start = refl

here : (n : ℕ) → in_frame 0 ≡ back_of (suc n) (Some n)
unfolding back_of
here n =
    let e : 0 ≡ suc n - 1 - n = omega arith in
    ap in_frame e

-- the origin that Figure 2's search gives
pub found_back : (n : ℕ) (f : ℕ → Bool) → found_in n (λ j. f (n - 1 - j)) ≡ back_of n (greatest n f)
unfolding found_in greatest
found_back zero f = start
found_back (suc n) f =
    ap₂ (λ (b : Bool) (o : Place). cond b (in_frame 0) (further o)) (ap f (top n)) (rows ∙ found_back n f) ∙ go (f n)
  where
    top : (n : ℕ) → suc n - 1 - 0 ≡ n
    top n = omega arith

    rows : found_in n (λ j. f (suc n - 1 - suc j)) ≡ found_in n (λ j. f (n - 1 - j))
    rows = ap (found_in n) (fun_ext (λ j. ap f (down n j)))
      where
        down : (n j : ℕ) → suc n - 1 - suc j ≡ n - 1 - j
        down n j = omega arith

    go : (b : Bool) → cond b (in_frame 0) (further (back_of n (greatest n f))) ≡ back_of (suc n) (cond b (Some n) (greatest n f))
    go true = here n
    go false = further-back n (greatest n f) (λ i e. (greatest-found n f i e).below)

nothing : (at : ℕ → Line) (other : Line) → other ≡ version_of at other None
unfolding version_of
nothing at other = refl

own : (at : ℕ → Line) (other : Line) (i : ℕ) → at i ≡ version_of at other (Some i)
unfolding version_of
own at other i = refl

-- and the version: where the row has a version just where the test passes
pub version-back : (n : ℕ) (f : ℕ → Bool) (at : ℕ → Line) (other : Line)
    → version_in n (λ j. cond (f (n - 1 - j)) (some (at (n - 1 - j))) none) other ≡ version_of at other (greatest n f)
unfolding version_in greatest
version-back zero f at other = nothing at other
version-back (suc n) f at other =
    ap₂ (λ (o : Option Line) (x : Line). get_or o x) (ap (λ (i : ℕ). cond (f i) (some (at i)) none) (top n)) (rows ∙ version-back n f at other)
    ∙ go (f n)
  where
    top : (n : ℕ) → suc n - 1 - 0 ≡ n
    top n = omega arith

    rows : version_in n (λ j. cond (f (suc n - 1 - suc j)) (some (at (suc n - 1 - suc j))) none) other
        ≡ version_in n (λ j. cond (f (n - 1 - j)) (some (at (n - 1 - j))) none) other
    rows = ap (λ (row : ℕ → Option Line). version_in n row other) (fun_ext (λ j. ap (λ (i : ℕ). cond (f i) (some (at i)) none) (down n j)))
      where
        down : (n j : ℕ) → suc n - 1 - suc j ≡ n - 1 - j
        down n j = omega arith

    go : (b : Bool) → get_or (cond b (some (at n)) none) (version_of at other (greatest n f)) ≡ version_of at other (cond b (Some n) (greatest n f))
    go true = own at other n
    go false = refl
