-- A line's versions, newest frame first: what a search finds of them once frames are dropped or collected. Assumes nothing.
use mathlib.Core.Path.{◌≡◌, refl, sym, ◌∙◌, ap, ap₂, fun_ext}
use mathlib.Core.Bool.{Bool, true, false, cond, ◌||◌, false≢true}
use mathlib.Core.Option.{Option, none, some, get_or}
use Prim.Native.Nat.{ℕ, zero, suc, ◌+◌, ◌-◌, ◌<◌}
use native.Mathlib.Omega.{arith}
use borrow.Author.Tests.{lt-ltb, le-ltb}
use lib.Dec.{leb-suc-suc}
use Rattle.rules.specs.Line.{Line}
use Rattle.rules.specs.Call.{Place}
use Rattle.rules.specs.Call.Place.{in_frame, in_archive}
use Rattle.rules.specs.Seen.{further, dropped, any}
use Rattle.rules.proofs.Count.{any-first, any-true, any_none, any_false, any_found}
use Rattle.rules.specs.Figure2.{version_in, found_in, is_written}

-- A version that lies k frames further back.
unfoldable pub shift : ℕ → Place → Place
shift k (in_frame j) = in_frame (k + j)
shift k in_archive = in_archive

shift_none : (o : Place) → shift 0 o ≡ o
unfolding shift
shift_none (in_frame j) = ap in_frame (omega arith)
shift_none in_archive = refl

shift-further : (k : ℕ) (o : Place) → further (shift k o) ≡ shift (suc k) o
unfolding shift further
shift-further k (in_frame j) = ap in_frame (omega arith)
shift-further k in_archive = refl

-- What a search finds in n frames lies in one of them.
abbrev pub Within : ℕ → Place → Type 0
Within n (in_frame j) = j < n
Within n in_archive = Unit {0}

further-within : (n : ℕ) (o : Place) → Within n o → Within (suc n) (further o)
unfolding further
further-within n (in_frame j) h = omega arith
further-within n in_archive h = tt

pub found_within : (n : ℕ) (f : ℕ → Bool) → Within n (found_in n f)
unfolding found_in
found_within zero f = tt
found_within (suc n) f = go (found_within n (λ j. f (suc j))) (f 0)
  where
    go : Within n (found_in n (λ j. f (suc j))) → (b : Bool) → Within (suc n) (cond b (in_frame 0) (further (found_in n (λ j. f (suc j)))))
    go h true = omega arith
    go h false = further-within n (found_in n (λ j. f (suc j))) h

further-dropped : (k : ℕ) (o : Place) → dropped (suc k) (further o) ≡ dropped k o
unfolding dropped further
further-dropped k (in_frame j) = leb-suc-suc (suc j) k
further-dropped k in_archive = refl

-- A version that does not lie in the k newest of n frames is found among the m others.
pub kept-found : (k m n : ℕ) (f rest : ℕ → Bool) → n ≡ k + m → ((j : ℕ) → f (k + j) ≡ rest j) → dropped k (found_in n f) ≡ false
    → found_in n f ≡ shift k (found_in m rest)
unfolding found_in dropped
kept-found zero m n f rest e same d =
    let all : n ≡ m = omega arith in
    ap₂ found_in all (fun_ext (λ j. ap f (omega arith) ∙ same j)) ∙ sym (shift_none (found_in m rest))
kept-found (suc k) m zero f rest e same d = absurd (omega arith)
kept-found (suc k) m (suc n) f rest e same d =
    go (kept-found k m n (λ j. f (suc j)) rest (omega arith) (λ j. ap f (omega arith) ∙ same j)) (f 0) d
  where
    go : (dropped k (found_in n (λ j. f (suc j))) ≡ false → found_in n (λ j. f (suc j)) ≡ shift k (found_in m rest)) → (b : Bool) → dropped (suc k) (cond b (in_frame 0) (further (found_in n (λ j. f (suc j))))) ≡ false
        → cond b (in_frame 0) (further (found_in n (λ j. f (suc j)))) ≡ shift (suc k) (found_in m rest)
    go ih true d = absurd (false≢true (sym d ∙ lt-ltb 0 (suc k) (omega arith)))
    go ih false d =
        ap further (ih (sym (further-dropped k (found_in n (λ j. f (suc j)))) ∙ d))
        ∙ shift-further k (found_in m rest)

pub kept-version : (k m n : ℕ) (row rest : ℕ → Option Line) (other : Line) → n ≡ k + m → ((j : ℕ) → row (k + j) ≡ rest j)
    → dropped k (found_in n (λ j. is_written (row j))) ≡ false → version_in n row other ≡ version_in m rest other
unfolding version_in found_in dropped is_written
kept-version zero m n row rest other e same d =
    let all : n ≡ m = omega arith in
    ap₂ (λ (a : ℕ) (r : ℕ → Option Line). version_in a r other) all (fun_ext (λ j. ap row (omega arith) ∙ same j))
kept-version (suc k) m zero row rest other e same d = absurd (omega arith)
kept-version (suc k) m (suc n) row rest other e same d =
    go (kept-version k m n (λ j. row (suc j)) rest other (omega arith) (λ j. ap row (omega arith) ∙ same j)) (row 0) d
  where
    go : (dropped k (found_in n (λ j. is_written (row (suc j)))) ≡ false → version_in n (λ j. row (suc j)) other ≡ version_in m rest other)
        → (v : Option Line) → dropped (suc k) (cond (is_written v) (in_frame 0) (further (found_in n (λ j. is_written (row (suc j)))))) ≡ false
        → get_or v (version_in n (λ j. row (suc j)) other) ≡ version_in m rest other
    go ih none d = ih (sym (further-dropped k (found_in n (λ j. is_written (row (suc j))))) ∙ d)
    go ih (some v) d = absurd (false≢true (sym d ∙ lt-ltb 0 (suc k) (omega arith)))

-- Rows with the same versions in their first n frames.
pub version-same : (n : ℕ) (row rest : ℕ → Option Line) (other : Line) → ((j : ℕ) → j < n → row j ≡ rest j) → version_in n row other ≡ version_in n rest other
unfolding version_in
version-same zero row rest other same = refl
version-same (suc n) row rest other same =
    ap₂ (λ (o : Option Line) (v : Line). get_or o v) (same 0 (omega arith))
    (version-same n (λ j. row (suc j)) (λ j. rest (suc j)) other (λ j b. same (suc j) (omega arith)))

pub found-same : (n : ℕ) (f g : ℕ → Bool) → ((j : ℕ) → j < n → f j ≡ g j) → found_in n f ≡ found_in n g
unfolding found_in
found-same zero f g same = refl
found-same (suc n) f g same =
    ap₂ (λ (b : Bool) (o : Place). cond b (in_frame 0) (further o)) (same 0 (omega arith))
    (found-same n (λ j. f (suc j)) (λ j. g (suc j)) (λ j b. same (suc j) (omega arith)))

-- A version in CMF is found there.
twice : (o : Option Line) (r : Line) → get_or o (get_or o r) ≡ get_or o r
twice none r = refl
twice (some y) r = refl

pub current-twice : (n : ℕ) (row : ℕ → Option Line) (other : Line) → 0 < n → get_or (row 0) (version_in n row other) ≡ version_in n row other
unfolding version_in
current-twice zero row other h = absurd (omega arith)
current-twice (suc n) row other h = twice (row 0) (version_in n (λ j. row (suc j)) other)

pub current-version : (n : ℕ) (row : ℕ → Option Line) (other y : Line) → 0 < n → row 0 ≡ some y → version_in n row other ≡ y
unfolding version_in
current-version zero row other y h e = absurd (omega arith)
current-version (suc n) row other y h e = ap (λ (o : Option Line). get_or o (version_in n (λ j. row (suc j)) other)) e

pub current-found : (n : ℕ) (f : ℕ → Bool) → 0 < n → f 0 ≡ true → found_in n f ≡ in_frame 0
unfolding found_in
current-found zero f h e = absurd (omega arith)
current-found (suc n) f h e = ap (λ (t : Bool). cond t (in_frame 0) (further (found_in n (λ j. f (suc j))))) e

-- A search of n frames is one of the m newest, with what the k others give behind it.
pub split-version : (m k n : ℕ) (row newer : ℕ → Option Line) (other : Line) → n ≡ m + k → ((j : ℕ) → j < m → newer j ≡ row j)
    → version_in m newer (version_in k (λ j. row (m + j)) other) ≡ version_in n row other
unfolding version_in
split-version zero k n row newer other e same =
    let all : k ≡ n = omega arith in
    ap₂ (λ (a : ℕ) (r : ℕ → Option Line). version_in a r other) all (fun_ext (λ j. ap row (omega arith)))
split-version (suc m) k zero row newer other e same = absurd (omega arith)
split-version (suc m) k (suc n) row newer other e same =
    ap₂ (λ (o : Option Line) (v : Line). get_or o v) (same 0 (omega arith))
    (ap (λ (r : ℕ → Option Line). version_in m (λ j. newer (suc j)) (version_in k r other)) (fun_ext (λ j. ap row (omega arith)))
    ∙ split-version m k n (λ j. row (suc j)) (λ j. newer (suc j)) other (omega arith) (λ j b. same (suc j) (omega arith)))

-- The m newest frames alone show a version that lies in one of them, and else the archive.
abbrev pub first : ℕ → Place → Place
first m o = cond (dropped m o) o in_archive

first-none : (o : Place) → in_archive ≡ first 0 o
unfolding dropped
first-none (in_frame j) = sym (ap (λ (b : Bool). cond b (in_frame j) in_archive) (le-ltb j 0 (omega arith)))
first-none in_archive = refl

first-here : (m : ℕ) → in_frame 0 ≡ first (suc m) (in_frame 0)
unfolding dropped
first-here m = sym (ap (λ (b : Bool). cond b (in_frame 0) in_archive) (lt-ltb 0 (suc m) (omega arith)))

first-further : (m : ℕ) (o : Place) → further (first m o) ≡ first (suc m) (further o)
unfolding further
first-further m o = go (dropped m o) ∙ ap (λ (b : Bool). cond b (further o) in_archive) (sym (further-dropped m o))
  where
    go : (b : Bool) → further (cond b o in_archive) ≡ cond b (further o) in_archive
    go true = refl
    go false = refl

pub first_found : (m k n : ℕ) (f newer : ℕ → Bool) → n ≡ m + k → ((j : ℕ) → j < m → newer j ≡ f j) → found_in m newer ≡ first m (found_in n f)
unfolding found_in
first_found zero k n f newer e same = first-none (found_in n f)
first_found (suc m) k zero f newer e same = absurd (omega arith)
first_found (suc m) k (suc n) f newer e same =
    ap₂ (λ (b : Bool) (o : Place). cond b (in_frame 0) (further o)) (same 0 (omega arith))
    (first_found m k n (λ j. f (suc j)) (λ j. newer (suc j)) (omega arith) (λ j b. same (suc j) (omega arith)))
    ∙ go (f 0)
  where
    go : (b : Bool) → cond b (in_frame 0) (further (first m (found_in n (λ j. f (suc j))))) ≡ first (suc m) (cond b (in_frame 0) (further (found_in n (λ j. f (suc j)))))
    go true = first-here m
    go false = first-further m (found_in n (λ j. f (suc j)))

-- Some frame has the line exactly where the search finds it in one.
further-archive : (o : Place) → further o ≡ in_archive → o ≡ in_archive
unfolding further
further-archive (in_frame j) e = absurd (let z : ◌≡◌ {A = ℕ} 0 1 = cc in omega arith)
further-archive in_archive e = refl

pub archive-none : (n : ℕ) (f : ℕ → Bool) → found_in n f ≡ in_archive → any n f ≡ false
unfolding found_in any
archive-none zero f e = refl
archive-none (suc n) f e = any-first n f ∙ go (f 0) e (archive-none n (λ j. f (suc j)))
  where
    go : (t : Bool) → cond t (in_frame 0) (further (found_in n (λ j. f (suc j)))) ≡ in_archive → (found_in n (λ j. f (suc j)) ≡ in_archive → any n (λ j. f (suc j)) ≡ false)
        → (t || any n (λ j. f (suc j))) ≡ false
    go true e ih = absurd (let z : ◌≡◌ {A = ℕ} 0 1 = cc in omega arith)
    go false e ih = ih (further-archive (found_in n (λ j. f (suc j))) e)

none-archive : (n : ℕ) (f : ℕ → Bool) → any n f ≡ false → found_in n f ≡ in_archive
unfolding found_in further
none-archive zero f d = refl
none-archive (suc n) f d = go (f 0) (sym (any-first n f) ∙ d) (none-archive n (λ j. f (suc j)))
  where
    go : (t : Bool) → (t || any n (λ j. f (suc j))) ≡ false → (any n (λ j. f (suc j)) ≡ false → found_in n (λ j. f (suc j)) ≡ in_archive)
        → cond t (in_frame 0) (further (found_in n (λ j. f (suc j)))) ≡ in_archive
    go true d ih = absurd (false≢true (sym d))
    go false d ih = ap further (ih d)

pub frame-some : (n : ℕ) (f : ℕ → Bool) (j : ℕ) → found_in n f ≡ in_frame j → any n f ≡ true
frame-some n f j e = go (any n f) refl
  where
    apart : in_frame j ≡ in_archive → ⊥
    apart z = let y : ◌≡◌ {A = ℕ} 0 1 = cc in omega arith

    go : (t : Bool) → any n f ≡ t → t ≡ true
    go true d = refl
    go false d = absurd (apart (sym e ∙ none-archive n f d))

-- It is the same whether frames are counted from the oldest on or back from the newest.
pub any-back : (n : ℕ) (f : ℕ → Bool) → any n (λ j. f (n - 1 - j)) ≡ any n f
any-back n f = go (any n f) refl
  where
    go : (t : Bool) → any n f ≡ t → any n (λ j. f (n - 1 - j)) ≡ t
    go true e =
        let i = any_found n f e in
        any-true n (λ j. f (n - 1 - j)) (n - 1 - i.0) (omega (arith, i.1)) (ap f (turned n i.0 i.1) ∙ i.2)
      where
        turned : (n i : ℕ) → i < n → n - 1 - (n - 1 - i) ≡ i
        turned n i b = omega arith
    go false e = any_none n (λ j. f (n - 1 - j)) (λ j b. any_false n f e (n - 1 - j) (omega arith))

pub written-some : (t : Bool) (v : Line) → is_written (cond t (some v) none) ≡ t
unfolding is_written
written-some true v = refl
written-some false v = refl
