-- The parts of a text, one after the other. Assumes nothing.
use mathlib.Core.Path.{◌≡◌, refl, sym, ◌∙◌, ap, ap₂}
use mathlib.Core.Bool.{Bool, true, false, cond}
use mathlib.Core.List.{List, [], ◌∷◌, ◌++◌, append_assoc, append-nil}
use Prim.Native.Nat.{ℕ, suc, ◌+◌, ◌≤◌, ◌<◌}
use native.Mathlib.Omega.{arith}
use borrow.Author.Tests.{lt-ltb, le-ltb, eq-eqb, ne_eqb}
use lib.Dec.{ltb, eqb, leb-suc-suc}
use lib.ListN.{length, get_or, take, drop, drop_of_length-le}
use lib.Seq.{drop-cons}
use Rattle.text.specs.Parts.{Text, split, up_to}

-- The scan for a separator, turn by turn: none before a place, and what is left from there.
pub record Scanning (sep : ℕ) (text : Text) (from i : ℕ) : Type 0 where
  pub low : from ≤ i
  pub few : i ≤ length text
  pub same : from + up_to sep (drop from text) ≡ i + up_to sep (drop i text)

pub scanning-start : (sep : ℕ) (text : Text) (from : ℕ) → from ≤ length text → Scanning sep text from from
scanning-start sep text from h = record { low = omega arith; few = h; same = refl }

module _ {sep : ℕ} {text : Text} {from i : ℕ} (s : Scanning sep text from i) where
  here : i < length text → drop i text ≡ get_or text i 0 ∷ drop (suc i) text
  here h = drop-cons text i 0 h

  pub scanning-found : i < length text → get_or text i 0 ≡ sep → i ≡ from + up_to sep (drop from text)
  unfolding up_to
  scanning-found h e =
      let none : up_to sep (drop i text) ≡ 0 =
      ap (up_to sep) (here h) ∙ ap (λ (t : Bool). cond t 0 (suc (up_to sep (drop (suc i) text)))) (eq-eqb (get_or text i 0) sep e)
      in
      omega (arith, s.same, none)

  pub scanning-next : i < length text → (get_or text i 0 ≡ sep → ⊥) → Scanning sep text from (i + 1)
  unfolding up_to
  scanning-next h d =
      let more : i + 1 ≡ suc i = omega arith in
      let one : up_to sep (drop i text) ≡ suc (up_to sep (drop (suc i) text)) =
      ap (up_to sep) (here h) ∙ ap (λ (t : Bool). cond t 0 (suc (up_to sep (drop (suc i) text)))) (ne_eqb (get_or text i 0) sep d)
      in
      record { low = omega (arith, s.low); few = omega arith; same = omega (arith, s.same, one, ap (λ (k : ℕ). up_to sep (drop k text)) more) }

  pub scanning-end : length text ≤ i → i ≡ from + up_to sep (drop from text)
  unfolding up_to
  scanning-end h =
      let none : up_to sep (drop i text) ≡ 0 = ap (up_to sep) (drop_of_length-le text {i = i} h) in
      omega (arith, s.same, none)

pub up-to-length : (sep : ℕ) (text : Text) → up_to sep text ≤ length text
unfolding up_to
up-to-length sep [] = omega arith
up-to-length sep (b ∷ bs) = go (up-to-length sep bs) (eqb b sep)
  where
    go : up_to sep bs ≤ length bs → (t : Bool) → cond t 0 (suc (up_to sep bs)) ≤ suc (length bs)
    go ih true = omega arith
    go ih false = omega arith

-- A text that comes in two pieces: the first one ends within a part,
pub split-within : (sep : ℕ) (begun text more : Text) → length text ≤ up_to sep text → split sep begun (text ++ more) ≡ split sep (begun ++ text) more
unfolding split up_to
split-within sep begun [] more h = ap (λ (t : Text). split sep t more) (sym (append-nil begun))
split-within sep begun (b ∷ bs) more h = go (split-within sep (begun ++ (b ∷ [])) bs more) (eqb b sep) h
  where
    go : (length bs ≤ up_to sep bs → split sep (begun ++ (b ∷ [])) (bs ++ more) ≡ split sep ((begun ++ (b ∷ [])) ++ bs) more) → (t : Bool)
        → suc (length bs) ≤ cond t 0 (suc (up_to sep bs))
        → cond t (begun ∷ split sep [] (bs ++ more)) (split sep (begun ++ (b ∷ [])) (bs ++ more)) ≡ split sep (begun ++ (b ∷ bs)) more
    go ih true k = absurd (omega arith)
    go ih false k = ih (omega arith) ∙ ap (λ (t : Text). split sep t more) (append_assoc begun (b ∷ []) bs)

-- or a part ends within it.
pub split-ended : (sep : ℕ) (begun text more : Text) → up_to sep text < length text
    → split sep begun (text ++ more) ≡ (begun ++ take (up_to sep text) text) ∷ split sep [] (drop (suc (up_to sep text)) text ++ more)
unfolding split up_to
split-ended sep begun [] more h = absurd (omega arith)
split-ended sep begun (b ∷ bs) more h = go (split-ended sep (begun ++ (b ∷ [])) bs more) (eqb b sep) h
  where
    go : (up_to sep bs < length bs
        → split sep (begun ++ (b ∷ [])) (bs ++ more) ≡ ((begun ++ (b ∷ [])) ++ take (up_to sep bs) bs) ∷ split sep [] (drop (suc (up_to sep bs)) bs ++ more))
        → (t : Bool) → cond t 0 (suc (up_to sep bs)) < suc (length bs)
        → cond t (begun ∷ split sep [] (bs ++ more)) (split sep (begun ++ (b ∷ [])) (bs ++ more))
        ≡ (begun ++ take (cond t 0 (suc (up_to sep bs))) (b ∷ bs)) ∷ split sep [] (drop (suc (cond t 0 (suc (up_to sep bs)))) (b ∷ bs) ++ more)
    go ih true k = ap (λ (x : Text). x ∷ split sep [] (bs ++ more)) (sym (append-nil begun))
    go ih false k = ih (omega arith) ∙ ap (λ (x : Text). x ∷ split sep [] (drop (suc (up_to sep bs)) bs ++ more)) (append_assoc begun (b ∷ []) (take (up_to sep bs) bs))

-- A text's first part ends at the first separator; the others are those of what stands behind it.
pub split-first : (sep : ℕ) (begun text : Text)
    → split sep begun text ≡ (begun ++ take (up_to sep text) text) ∷ cond (ltb (up_to sep text) (length text)) (split sep [] (drop (suc (up_to sep text)) text)) []
unfolding split up_to
split-first sep begun [] =
    ap₂ (λ (x : Text) (xs : List Text). x ∷ xs) (sym (append-nil begun)) (sym (ap (λ (t : Bool). cond t (split sep [] []) []) (le-ltb 0 0 (omega arith))))
split-first sep begun (b ∷ bs) = go (split-first sep (begun ++ (b ∷ [])) bs) (eqb b sep)
  where
    ends : (n : ℕ) → List Text
    ends n = cond (ltb n (length (b ∷ bs))) (split sep [] (drop (suc n) (b ∷ bs))) []

    go : split sep (begun ++ (b ∷ [])) bs ≡ ((begun ++ (b ∷ [])) ++ take (up_to sep bs) bs) ∷ cond (ltb (up_to sep bs) (length bs)) (split sep [] (drop (suc (up_to sep bs)) bs)) []
        → (t : Bool)
        → cond t (begun ∷ split sep [] bs) (split sep (begun ++ (b ∷ [])) bs)
        ≡ (begun ++ take (cond t 0 (suc (up_to sep bs))) (b ∷ bs)) ∷ ends (cond t 0 (suc (up_to sep bs)))
    go ih true =
        ap₂ (λ (x : Text) (xs : List Text). x ∷ xs) (sym (append-nil begun)) (sym (ap (λ (t : Bool). cond t (split sep [] bs) []) (lt-ltb 0 (suc (length bs)) (omega arith))))
    go ih false =
        ih
        ∙ ap₂ (λ (x : Text) (t : Bool). x ∷ cond t (split sep [] (drop (suc (up_to sep bs)) bs)) []) (append_assoc begun (b ∷ []) (take (up_to sep bs) bs))
        (sym (leb-suc-suc (suc (up_to sep bs)) (length bs)))
