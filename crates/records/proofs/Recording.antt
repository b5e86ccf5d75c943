-- The record of a line from its word and its numbers. Assumes nothing.
use mathlib.Core.Path.{◌≡◌, refl, sym, ◌∙◌, ap, subst}
use mathlib.Core.Bool.{Bool, true, false, cond}
use mathlib.Core.List.{List, [], ◌∷◌}
use Prim.Native.Nat.{ℕ, ◌+◌, ◌-◌, ◌≤◌, ◌<◌}
use native.Mathlib.Omega.{arith}
use borrow.Author.Tests.{le-leb, lt-leb, leb-false, ne_eqb}
use lib.Dec.{leb}
use lib.ListN.{length, take, drop, length-drop}
use lib.Seq.{take_all, length-take-le}
use Rattle.std.specs.Prelude.{Option, Some, None, Ok, Err}
use Rattle.text.specs.Parts.{Text, fields_of, up_to}
use Rattle.text.specs.Lines.{limit}
use Rattle.records.specs.declared.Word.{Word}
use Rattle.std.specs.Option.{ok_or}
use Rattle.records.specs.declared.Refusal.{Refusal}
use Rattle.records.specs.declared.Refusal.TheVariants.{Long, NoRecord}
use Rattle.records.specs.declared.Numbers.{Numbers}
use Rattle.records.specs.Records.{Row, same_text, seldom, rows, taken, word_in, numbers_in, asked, with_numbers, record_in, parsed}
use Rattle.records.specs.Records.Asked.{turned_down}
use Rattle.records.specs.Shown.{most_numbers, few, fields_behind, shown_numbers, Gathers, shown_parsed}
use Rattle.records.proofs.Gathering.{fields-first}

-- No row takes more numbers than the code has room for: a line for each row.
abbrev Few : List Row → Type 0
Few [] = Unit {0}
Few (r ∷ rs) = ((n : ℕ) → most_numbers < n → r.takes n ≡ false) × Few rs

seldom-few : Few seldom
unfolding seldom
seldom-few = (
  λ n h. ne_eqb n 1 (λ e. omega (arith, h, e)),
  (
    λ n h. ne_eqb n 0 (λ e. omega (arith, h, e)),
    (
      λ n h. ne_eqb n 3 (λ e. omega (arith, h, e)),
      tt,
    ),
  ),
)

rows_few : Few rows
unfolding rows
rows_few = (
  λ n h. ne_eqb n 2 (λ e. omega (arith, h, e)),
  (
    λ n h. ne_eqb n 3 (λ e. omega (arith, h, e)),
    (
      λ n h. ne_eqb n 0 (λ e. omega (arith, h, e)),
      (
        λ n h. ne_eqb n 1 (λ e. omega (arith, h, e)),
        seldom-few,
      ),
    ),
  ),
)

no_word : (rs : List Row) (field : Text) (n : ℕ) → Few rs → most_numbers < n → word_in rs field n ≡ None
unfolding word_in taken
no_word [] field n f h = refl
no_word (r ∷ rs) field n f h = go (same_text field r.spelt) (no_word rs field n f.1 h)
  where
    go : (t : Bool) → word_in rs field n ≡ None → cond t (cond (r.takes n) (Some r.word) None) (word_in rs field n) ≡ None
    go true ih = ap (λ (b : Bool). cond b (Some r.word) None) (f.0 n h)
    go false ih = ih

few-alike : (word : Text) (ns : Option (List ℕ)) → with_numbers word (few ns) ≡ with_numbers word ns
unfolding with_numbers few asked
few-alike word None = refl
few-alike word (Some ns) = go (leb (length ns) most_numbers) refl
  where
    go : (t : Bool) → leb (length ns) most_numbers ≡ t → with_numbers word (cond t (Some ns) None) ≡ with_numbers word (Some ns)
    go true e = refl
    go false e = sym (ap (λ (k : Option Word). asked k ns) (no_word rows word (length ns) rows_few (leb-false (length ns) most_numbers e)))

-- What is turned down by `ok_or`.
pub refusal_is : {A : Type 0} (found : Option A) (refusal : Refusal) → Err refusal ≡ ok_or found NoRecord → refusal ≡ NoRecord
refusal_is None refusal e = cc
refusal_is (Some x) refusal e = cc

-- A line that is too long.
pub parsed-long : (line : Text) → limit < length line → shown_parsed (Err Long) ≡ parsed line
unfolding parsed shown_parsed
parsed-long line h = sym (ap (λ (t : Bool). cond t (record_in (fields_of line)) (turned_down 1)) (lt-leb (length line) limit h))

-- What is gathered from the first field's end on.
pub gathered : (line : Text) (end : ℕ) (got found : Option Numbers) → got ≡ found → Gathers (numbers_in (fields_behind (take (length line - end) (drop end line)))) got
    → Gathers (numbers_in (fields_behind (drop end line))) found
gathered line end got found f g =
    subst (Gathers (numbers_in (fields_behind (drop end line)))) f
    (subst (λ (text : Text). Gathers (numbers_in (fields_behind text)) got) (take_all (length line - end) (drop end line) (omega (arith, length-drop end line))) g)

-- The record of a line: its first field and the numbers behind it.
module _ (line : Text) (end : ℕ) (short : length line ≤ limit) (e : end ≡ 0 + up_to 9 (drop 0 line)) where
  line_is : (found : Option Numbers) → Gathers (numbers_in (fields_behind (drop end line))) found → parsed line ≡ with_numbers (take end line) (shown_numbers found)
  unfolding parsed record_in
  line_is found g =
      let here : up_to 9 line ≡ end = omega arith in
      ap (λ (t : Bool). cond t (record_in (fields_of line)) (turned_down 1)) (le-leb (length line) limit short)
      ∙ (ap record_in (fields-first line)
      ∙ (ap (λ (k : ℕ). with_numbers (take k line) (numbers_in (fields_behind (drop k line)))) here
      ∙ (sym (few-alike (take end line) (numbers_in (fields_behind (drop end line)))) ∙ ap (with_numbers (take end line)) (sym g.same))))

  -- a field that says no number, or a number too many
  pub parsed-bad : Gathers (numbers_in (fields_behind (drop end line))) None → shown_parsed (Err NoRecord) ≡ parsed line
  unfolding shown_numbers with_numbers shown_parsed
  parsed-bad g = sym (line_is None g)

  module _ (found : Numbers) (long : length found.numbers ≡ most_numbers) (g : Gathers (numbers_in (fields_behind (drop end line))) (Some found)) where
    numbers-are : (known : Option Word) → known ≡ word_in rows (take end line) found.count → parsed line ≡ asked known (take found.count found.numbers)
    unfolding shown_numbers with_numbers
    numbers-are known k =
        line_is (Some found) g
        ∙ ap (λ (x : Option Word). asked x (take found.count found.numbers))
        (ap (word_in rows (take end line)) (length-take-le found.count found.numbers (omega (arith, g.counted, long))) ∙ sym k)

    -- no word that takes so many numbers
    pub parsed-other : None ≡ word_in rows (take end line) found.count → shown_parsed (Err NoRecord) ≡ parsed line
    unfolding asked shown_parsed
    parsed-other k = sym (numbers-are None k)

    pub parsed-record : (w : Word) → Some w ≡ word_in rows (take end line) found.count
        → shown_parsed (Ok (record { word = w; count = found.count; numbers = found.numbers })) ≡ parsed line
    unfolding asked shown_parsed
    parsed-record w k = sym (numbers-are (Some w) k)
