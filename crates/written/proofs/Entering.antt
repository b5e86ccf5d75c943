-- A rollback entered in the history by a walk: what it leaves, how many entries it compares, and what the code has at each turn. Assumes
-- nothing.
use mathlib.Core.Path.{◌≡◌, refl, sym, ◌∙◌, ap, ap₂}
use mathlib.Core.Bool.{Bool, cond, ◌||◌}
use mathlib.Core.List.{List}
use Prim.Native.Nat.{ℕ, zero, suc, ◌+◌, ◌-◌, ◌≤◌, ◌<◌, min}
use native.Mathlib.Decide.{dec_le}
use native.Mathlib.Nat.{add-zero, suc-add}
use native.Mathlib.Omega.{arith}
use native.Mathlib.Numerals.{add-one}
use borrow.Author.Tests.{le-leb, lt-leb, lt-ltb, le-ltb}
use lib.Dec.{leb, ltb}
use lib.ListN.{length, get_or, set, length-set}
use lib.Seq.{get_or-set_other, set-get_or, set_comm}
use Rattle.rules.specs.Seen.{any, count}
use Rattle.rules.proofs.Count.{count_none}
use Rattle.lists.specs.Lists.{rewrite}
use Rattle.written.specs.Steps.{Ordered, entered, Entered, settled, compared, less_deep, stops}

-- The walk ends at the bottom;
bottom : (kept : ℕ) (history : List ℕ) → settled kept 0 history ≡ history
unfolding settled
bottom kept history = refl

-- an entry at least as deep as the target stops it, and is counted;
module _ (kept t : ℕ) (history : List ℕ) where
  stop-settled : get_or history t 0 ≤ kept → settled kept (suc t) history ≡ history
  unfolding settled
  stop-settled h = ap (λ (b : Bool). cond b history (settled kept t (set history t kept))) (le-leb (get_or history t 0) kept h)

  stop-compared : get_or history t 0 ≤ kept → compared kept (suc t) history ≡ 1
  unfolding compared
  stop-compared h = ap (λ (b : Bool). suc (cond b 0 (compared kept t history))) (le-leb (get_or history t 0) kept h)

  -- past one that is less deep it goes on.
  on-settled : kept < get_or history t 0 → settled kept (suc t) history ≡ settled kept t (set history t kept)
  unfolding settled
  on-settled h = ap (λ (b : Bool). cond b history (settled kept t (set history t kept))) (lt-leb (get_or history t 0) kept h)

  on-compared : kept < get_or history t 0 → compared kept (suc t) history ≡ suc (compared kept t history)
  unfolding compared
  on-compared h = ap (λ (b : Bool). suc (cond b 0 (compared kept t history))) (lt-leb (get_or history t 0) kept h)

-- Entries that are newer than all that it may compare are not looked at, and stay.
compared-set : (kept n t v : ℕ) (history : List ℕ) → n ≤ t → compared kept n (set history t v) ≡ compared kept n history
unfolding compared
compared-set kept zero t v history b = refl
compared-set kept (suc n) t v history b =
    ap₂ (λ (x m : ℕ). suc (cond (leb x kept) 0 m)) (get_or-set_other history t n v 0 (λ e. omega arith)) (compared-set kept n t v history (omega arith))

settled-length : (kept n : ℕ) (history : List ℕ) → length (settled kept n history) ≡ length history
settled-length kept zero history = ap length (bottom kept history)
settled-length kept (suc n) history =
    elim (dec_le (get_or history n 0) kept) [
      | yes h ↦ ap length (stop-settled kept n history h)
      | no h ↦ ap length (on-settled kept n history (omega arith)) ∙ (settled-length kept n (set history n kept) ∙ length-set history n kept)
    ]

settled-past : (kept n t : ℕ) (history : List ℕ) → n ≤ t → get_or (settled kept n history) t 0 ≡ get_or history t 0
settled-past kept zero t history b = ap (λ (xs : List ℕ). get_or xs t 0) (bottom kept history)
settled-past kept (suc n) t history b =
    elim (dec_le (get_or history n 0) kept) [
      | yes h ↦ ap (λ (xs : List ℕ). get_or xs t 0) (stop-settled kept n history h)
      | no h ↦
          ap (λ (xs : List ℕ). get_or xs t 0) (on-settled kept n history (omega arith))
          ∙ (settled-past kept n t (set history n kept) (omega arith) ∙ get_or-set_other history n t kept 0 (λ e. omega arith))
    ]

-- In a history in order all entries older than one that is at least as deep as the target are so too,
abbrev OrderedTo : (n : ℕ) → List ℕ → Type 0
OrderedTo n history = (s : ℕ) → s + 1 < n → get_or history s 0 ≤ get_or history (s + 1) 0

older : (history : List ℕ) (s n : ℕ) → OrderedTo (s + n + 1) history → get_or history s 0 ≤ get_or history (s + n) 0
older history s zero o = omega (arith, ap (λ (k : ℕ). get_or history k 0) (add-zero s))
older history s (suc n) o =
    let next : s + suc n ≡ s + n + 1 = omega arith in
    omega (arith, older history s n (λ k b. o k (omega arith)), o (s + n) (omega arith), ap (λ (k : ℕ). get_or history k 0) next)

all-deep : (kept t : ℕ) (history : List ℕ) → OrderedTo (suc t) history → get_or history t 0 ≤ kept → (s : ℕ) → s < suc t → get_or history s 0 ≤ kept
all-deep kept t history o h s b =
    let last : s + (t - s) ≡ t = omega arith in
    omega (arith, older history s (t - s) (λ k c. o k (omega arith)), ap (λ (k : ℕ). get_or history k 0) last)

ordered-set : (history : List ℕ) (t v : ℕ) → OrderedTo (suc t) history → OrderedTo t (set history t v)
ordered-set history t v o s b =
    omega (arith, o s (omega arith), get_or-set_other history t s v 0 (λ e. omega arith), get_or-set_other history t (s + 1) v 0 (λ e. omega arith))

-- so that the walk leaves what comparing every entry does,
abbrev lesser : (kept : ℕ) → ℕ → ℕ → ℕ
lesser kept _ e = min e kept

rewrite-kept : (kept n : ℕ) (history : List ℕ) → ((s : ℕ) → s < n → get_or history s 0 ≤ kept) → rewrite n (lesser kept) history ≡ history
unfolding rewrite
rewrite-kept kept zero history h = refl
rewrite-kept kept (suc n) history h =
    let same : min (get_or history n 0) kept ≡ get_or history n 0 = omega (arith, h n (omega arith)) in
    ap₂ (λ (xs : List ℕ) (x : ℕ). set xs n x) (rewrite-kept kept n history (λ s b. h s (omega arith))) same ∙ set-get_or history n 0

rewrite-set : (kept n t v : ℕ) (history : List ℕ) → n ≤ t → rewrite n (lesser kept) (set history t v) ≡ set (rewrite n (lesser kept) history) t v
unfolding rewrite
rewrite-set kept zero t v history b = refl
rewrite-set kept (suc n) t v history b =
    ap₂ (λ (xs : List ℕ) (x : ℕ). set xs n (min x kept)) (rewrite-set kept n t v history (omega arith)) (get_or-set_other history t n v 0 (λ e. omega arith))
    ∙ set_comm (rewrite n (lesser kept) history) t n v _ (λ e. omega arith)

settled-all : (kept n : ℕ) (history : List ℕ) → OrderedTo n history → settled kept n history ≡ rewrite n (lesser kept) history
unfolding rewrite
settled-all kept zero history o = bottom kept history
settled-all kept (suc t) history o =
    elim (dec_le (get_or history t 0) kept) [
      | yes h ↦ stop-settled kept t history h ∙ sym (rewrite-kept kept (suc t) history (all-deep kept t history o h))
      | no h ↦
          let least : kept ≡ min (get_or history t 0) kept = omega arith in
          on-settled kept t history (omega arith)
          ∙ (settled-all kept t (set history t kept) (ordered-set history t kept o)
          ∙ (rewrite-set kept t t kept history (omega arith) ∙ ap (λ (x : ℕ). set (rewrite t (lesser kept) history) t x) least))
    ]

-- and compares the entries that are less deep, and the one it stops at, if any.
compared-all : (kept n : ℕ) (history : List ℕ) → OrderedTo n history → compared kept n history ≡ less_deep kept n history + cond (stops kept n history) 1 0
unfolding compared any count
compared-all kept zero history o = refl
compared-all kept (suc t) history o =
    elim (dec_le (get_or history t 0) kept) [
      | yes h ↦
          let none = count_none t (λ s. ltb kept (get_or history s 0)) (λ s b. le-ltb kept (get_or history s 0) (all-deep kept t history o h s (omega arith))) in
          stop-compared kept t history h
          ∙ sym (ap₂ (λ (x y : Bool). cond x (suc (less_deep kept t history)) (less_deep kept t history) + cond (y || stops kept t history) 1 0)
          (le-ltb kept (get_or history t 0) h) (le-leb (get_or history t 0) kept h) ∙ ap (λ (m : ℕ). m + 1) none)
      | no h ↦
          on-compared kept t history (omega arith)
          ∙ (ap suc (compared-all kept t history (λ s b. o s (omega arith)))
          ∙ (sym (suc-add (less_deep kept t history) (cond (stops kept t history) 1 0))
          ∙ sym (ap₂ (λ (x y : Bool). cond x (suc (less_deep kept t history)) (less_deep kept t history) + cond (y || stops kept t history) 1 0)
          (lt-ltb kept (get_or history t 0) (omega arith)) (lt-leb (get_or history t 0) kept (omega arith)))))
    ]

pub ordered-compared : (kept tag : ℕ) (history : List ℕ) → Ordered tag history
    → compared kept (tag + 1) history ≡ less_deep kept (tag + 1) history + cond (stops kept (tag + 1) history) 1 0
ordered-compared kept tag history o = compared-all kept (tag + 1) history (λ s b. o s (omega arith))

-- The newest entry always counts.
pub newest-compared : (kept tag : ℕ) (history : List ℕ) → 0 < compared kept (tag + 1) history
unfolding compared
newest-compared kept tag history = rw (add-one tag) (omega arith)

-- What the contract says of the walk.
abbrev pub Enters : (tag kept : ℕ) (before now : List ℕ) (n : ℕ) → Type 0
Enters tag kept before now n = Entered tag kept before now × ((now ≡ settled kept (tag + 1) before) × (n ≡ compared kept (tag + 1) before))

walk-enters : (tag kept : ℕ) (before now : List ℕ) (n : ℕ) → now ≡ settled kept (tag + 1) before → n ≡ compared kept (tag + 1) before → Enters tag kept before now n
unfolding entered
walk-enters tag kept before now n e c = (
  record {
    exact = λ o. e ∙ settled-all kept (tag + 1) before (λ s b. o s (omega arith));
    long = ap length e ∙ settled-length kept (tag + 1) before;
    past = λ t b. ap (λ (xs : List ℕ). get_or xs t 0) e ∙ settled-past kept (tag + 1) t before (omega arith);
  },
  (e, c),
)

-- What the code has at each turn: what the walk from here on leaves and compares.
pub record Settling (kept used : ℕ) (before : List ℕ) (left : ℕ) (now : List ℕ) : Type 0 where
  pub few : left ≤ used
  pub long : length now ≡ length before
  pub rest : settled kept used before ≡ settled kept left now
  pub number : compared kept used before ≡ used - left + compared kept left now

pub walk_start : (kept used : ℕ) (before : List ℕ) → Settling kept used before used before
walk_start kept used before = record { few = omega arith; long = refl; rest = refl; number = omega arith }

module _ {kept used : ℕ} {before : List ℕ} {left : ℕ} {now : List ℕ} (w : Settling kept used before left now) where
  pub walk-on : 0 < left → kept < get_or now (left - 1) 0 → Settling kept used before (left - 1) (set now (left - 1) kept)
  walk-on b h =
      let t : ℕ = left - 1 in
      let is : left ≡ suc t = omega arith in
      record {
        few = omega (arith, w.few);
        long = length-set now t kept ∙ w.long;
        rest = w.rest ∙ (ap (λ (n : ℕ). settled kept n now) is ∙ on-settled kept t now h);
        number =
            omega (arith, w.few, w.number, ap (λ (n : ℕ). compared kept n now) is, on-compared kept t now h, compared-set kept t t kept now (omega arith));
      }

  -- It stops at an entry at least as deep,
  pub walk-stop : (tag : ℕ) → used ≡ tag + 1 → 0 < left → get_or now (left - 1) 0 ≤ kept → Enters tag kept before now (used - (left - 1))
  walk-stop tag u b h =
      let t : ℕ = left - 1 in
      let is : left ≡ suc t = omega arith in
      walk-enters tag kept before now (used - t)
      (sym (stop-settled kept t now h) ∙ (ap (λ (n : ℕ). settled kept n now) (sym is) ∙ (sym w.rest ∙ ap (λ (n : ℕ). settled kept n before) u)))
      (omega (arith, w.few, w.number, ap (λ (n : ℕ). compared kept n now) is, stop-compared kept t now h) ∙ ap (λ (n : ℕ). compared kept n before) u)

  -- and at the bottom.
  pub walk-bottom : (tag : ℕ) → used ≡ tag + 1 → left ≤ 0 → Enters tag kept before now used
  unfolding compared
  walk-bottom tag u b =
      let is : left ≡ 0 = omega arith in
      walk-enters tag kept before now used
      (sym (bottom kept now) ∙ (ap (λ (n : ℕ). settled kept n now) (sym is) ∙ (sym w.rest ∙ ap (λ (n : ℕ). settled kept n before) u)))
      (omega (arith, w.number, ap (λ (n : ℕ). compared kept n now) is) ∙ ap (λ (n : ℕ). compared kept n before) u)
