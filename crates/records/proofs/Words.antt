-- A field compared with the words of the rows. Assumes nothing.
use mathlib.Core.Path.{◌≡◌, refl, sym, ◌∙◌, ap, ap₂}
use mathlib.Core.Bool.{Bool, true, false, ◌&&◌, cond}
use mathlib.Core.List.{List, [], ◌∷◌}
use Prim.Native.Nat.{ℕ, suc, ◌+◌, ◌≤◌, ◌<◌}
use native.Mathlib.Decide.{dec_lt}
use native.Mathlib.Omega.{arith}
use borrow.Author.Tests.{eqb-true}
use lib.Dec.{eqb}
use lib.ListN.{length, get_or, drop, drop_of_length-le}
use lib.Seq.{drop-cons}
use Rattle.std.specs.Prelude.{Option, Some, None}
use Rattle.std.specs.Bool.{then_some}
use Rattle.text.specs.Parts.{Text}
use Rattle.records.specs.declared.Word.{Word}
use Rattle.records.specs.Records.{Row, same_text, seldom, rows, taken, word_in}

-- A field has these bytes from a place on, and ends behind them.
abbrev pub Spelt : Text → ℕ → Text → Type 0
Spelt field i [] = length field ≡ i
Spelt field i (b ∷ bs) = (get_or field i 0 ≡ b) × (i < length field) × Spelt field (i + 1) bs

pub spelt-is : (field : Text) (i : ℕ) (word : Text) → Spelt field i word → drop i field ≡ word
spelt-is field i [] h = drop_of_length-le field {i = i} (omega arith)
spelt-is field i (b ∷ bs) h =
    let more : suc i ≡ i + 1 = omega arith in
    drop-cons field i 0 h.1 ∙ ap₂ (λ (x : ℕ) (xs : Text). x ∷ xs) h.0 (ap (λ (k : ℕ). drop k field) more ∙ spelt-is field (i + 1) bs h.2)

both : (s t : Bool) → s && t ≡ true → (s ≡ true) × (t ≡ true)
both true t e = (refl, e)
both false t e = cc

-- `same_text` finds it.
same-spelt : (field : Text) (i : ℕ) (word : Text) → i ≤ length field → same_text (drop i field) word ≡ true → Spelt field i word
unfolding same_text
same-spelt field i [] k e = elim (dec_lt i (length field)) as (λ _. length field ≡ i) [
  | yes h ↦ let f = rw (drop-cons field i 0 h) at e in cc
  | no h ↦ omega arith
]
same-spelt field i (b ∷ bs) k e = elim (dec_lt i (length field)) as (λ _. Spelt field i (b ∷ bs)) [
  | yes h ↦
      let f = rw (drop-cons field i 0 h) at e in
      let more : i + 1 ≡ suc i = omega arith in
      let parts = both (eqb (get_or field i 0) b) (same_text (drop (suc i) field) bs) f in
      (eqb-true (get_or field i 0) b parts.0, h, same-spelt field (i + 1) bs (omega arith) (ap (λ (k : ℕ). same_text (drop k field) bs) more ∙ parts.1))
  | no h ↦ let f = rw (drop_of_length-le field {i = i} (omega arith)) at e in cc
]

-- A field is none of the words of some rows.
abbrev NoneSpelt : List Row → Text → Type 0
NoneSpelt [] field = Unit {0}
NoneSpelt (r ∷ rs) field = (Spelt field 0 r.spelt → ⊥) × NoneSpelt rs field

none-row : (rs : List Row) (field : Text) (n : ℕ) → NoneSpelt rs field → None ≡ word_in rs field n
unfolding word_in
none-row [] field n h = refl
none-row (r ∷ rs) field n h = go (none-row rs field n h.1) (same_text field r.spelt) refl
  where
    go : None ≡ word_in rs field n → (b : Bool) → same_text field r.spelt ≡ b → None ≡ cond b (taken (r.takes n) r.word) (word_in rs field n)
    go ih true e = absurd (h.0 (same-spelt field 0 r.spelt (omega arith) e))
    go ih false e = ih

pub no_row : (field : Text) (n : ℕ)
    → (Spelt field 0 (114 ∷ 101 ∷ 97 ∷ 100 ∷ []) → ⊥)
    → (Spelt field 0 (119 ∷ 114 ∷ 105 ∷ 116 ∷ 101 ∷ []) → ⊥)
    → (Spelt field 0 (109 ∷ 97 ∷ 114 ∷ 107 ∷ []) → ⊥)
    → (Spelt field 0 (98 ∷ 97 ∷ 99 ∷ 107 ∷ []) → ⊥)
    → (Spelt field 0 (97 ∷ 100 ∷ 118 ∷ 97 ∷ 110 ∷ 99 ∷ 101 ∷ []) → ⊥)
    → (Spelt field 0 (99 ∷ 111 ∷ 117 ∷ 110 ∷ 116 ∷ 115 ∷ []) → ⊥)
    → (Spelt field 0 (114 ∷ 101 ∷ 115 ∷ 101 ∷ 116 ∷ []) → ⊥)
    → None ≡ word_in rows field n
unfolding rows seldom
no_row field n a b c d e f g = none-row rows field n (a, (b, (c, (d, (e, (f, (g, tt)))))))

pub taken_is : (b : Bool) (w : Word) → b ≡ true → Some w ≡ taken b w
unfolding taken
taken_is b w e = sym (ap (λ (x : Bool). cond x (Some w) None) e)

pub taken_not : (b : Bool) (w : Word) → b ≡ false → None ≡ taken b w
unfolding taken
taken_not b w e = sym (ap (λ (x : Bool). cond x (Some w) None) e)

then-taken : (b : Bool) (w : Word) → then_some b w ≡ taken b w
then-taken true w = taken_is true w refl
then-taken false w = taken_not false w refl

-- The row of a word that it is: `row` is what the code takes for it.
pub word_is : (field word : Text) (n : ℕ) (row : Word × ℕ) (found : Option Word) (asked : Word) (takes : ℕ) → Spelt field 0 word → row ≡ (asked, takes)
    → found ≡ then_some (eqb n row.1) row.0 → taken (eqb n takes) asked ≡ word_in rows word n → found ≡ word_in rows field n
word_is field word n row found asked takes s r f e =
    f
    ∙ (ap (λ (x : Word × ℕ). then_some (eqb n x.1) x.0) r
    ∙ (then-taken (eqb n takes) asked ∙ (e ∙ ap (λ (text : Text). word_in rows text n) (sym (spelt-is field 0 word s)))))
