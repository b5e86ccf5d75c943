-- Items of a flat list: how many they are, and the one at a place. Assumes nothing.
use mathlib.Core.Path.{◌≡◌, refl, sym, ◌∙◌, ap}
use mathlib.Core.List.{List, [], ◌∷◌, ◌++◌}
use Prim.Native.Nat.{ℕ, zero, suc, ◌+◌, ◌*◌, ◌/◌, ◌<◌}
use native.Mathlib.Numerals.{add-one}
use native.Mathlib.Omega.{arith}
use lib.ListN.{length, get_or, take}
use lib.Seq.{take-suc}
use Rattle.rules.specs.Call.{Write}
use Rattle.write_blocks.specs.Items.{items_of, item_at}

pub items-count : (xs : List ℕ) → length (items_of xs) ≡ length xs / 3
unfolding items_of
items-count [] = refl
items-count (w ∷ []) = refl
items-count (w ∷ a ∷ []) = refl
items-count (w ∷ a ∷ v ∷ rest) = ap suc (items-count rest) ∙ omega arith

-- three numbers further on in a list that starts with three more
module _ (w a v : ℕ) (rest : List ℕ) where
  further : (k j : ℕ) → k ≡ suc (suc (suc j)) → get_or (w ∷ a ∷ v ∷ rest) k 0 ≡ get_or rest j 0
  further k j e = ap (λ (n : ℕ). get_or (w ∷ a ∷ v ∷ rest) n 0) e

  item-further : (i : ℕ) → item_at (w ∷ a ∷ v ∷ rest) (suc i) ≡ item_at rest i
  item-further i = λ j. record {
    width = further (3 * suc i) (3 * i) (omega arith) j;
    address = further (3 * suc i + 1) (3 * i + 1) (omega arith) j;
    value = further (3 * suc i + 2) (3 * i + 2) (omega arith) j;
  }

pub item-is : (xs : List ℕ) (i : ℕ) (d : Write) → i < length (items_of xs) → get_or (items_of xs) i d ≡ item_at xs i
unfolding items_of
item-is [] i d h = absurd (omega arith)
item-is (w ∷ []) i d h = absurd (omega arith)
item-is (w ∷ a ∷ []) i d h = absurd (omega arith)
item-is (w ∷ a ∷ v ∷ rest) zero d h = refl
item-is (w ∷ a ∷ v ∷ rest) (suc i) d h = item-is rest i d (omega arith) ∙ sym (item-further w a v rest i)

-- one more item
pub items-next : (xs : List ℕ) (i : ℕ) → i < length (items_of xs) → take (i + 1) (items_of xs) ≡ take i (items_of xs) ++ (item_at xs i ∷ [])
items-next xs i h =
    ap (λ (n : ℕ). take n (items_of xs)) (add-one i)
    ∙ (take-suc (items_of xs) i (item_at xs i) h ∙ ap (λ (w : Write). take i (items_of xs) ++ (w ∷ [])) (item-is xs i (item_at xs i) h))
