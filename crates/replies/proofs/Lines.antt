-- Lines of output: how long their texts are, and the texts put in parts. Assumes nothing.
use mathlib.Core.Path.{◌≡◌, refl}
use mathlib.Core.Logic.{◌≢◌}
use mathlib.Core.Bool.{Bool, true, false, cond}
use mathlib.Core.List.{[], ◌∷◌}
use Prim.Native.Nat.{ℕ, ◌+◌, ◌≤◌}
use native.Mathlib.Omega.{arith}
use borrow.Author.Tests.{eq-eqb, ne_eqb}
use lib.Dec.{eqb}
use lib.ListN.{length, length-append}
use Rattle.text.specs.Parts.{Text}
use Rattle.text.specs.Numbers.{decimal}
use Rattle.text.specs.Output.{Puts}
use Rattle.text.proofs.Putting.{puts-length, puts_then, decimal-few}
use Rattle.rules.specs.Call.{Origin, Answer, number_in}
use Rattle.rules.specs.Call.Place.{in_frame, in_archive}
use Rattle.rules.specs.Call.Origin.{from_cache, from, empty}
use Rattle.rules.specs.Call.Answer.{outcome, reading, lending, counting, verdict, filling}
use Rattle.replies.specs.declared.Shown.{Shown}
use Rattle.replies.specs.declared.Shown.TheVariants.{Nothing, Read, Counts}
use Rattle.replies.specs.Answers.{origin_text, values_text, ok_line, no_line, answer_line, end_line, longest, longest_end}
use Rattle.replies.specs.Lines.{answer_of}

-- The places behind a tab and a number, and behind the fields of an answer.
pub number-ends : {before after : Text} {at behind : ℕ} (n : ℕ) → Puts before at (9 ∷ decimal n) after behind → behind ≤ at + 21
number-ends n p = omega (arith, decimal-few n)

origin-few : (o : Origin) → length (origin_text o) ≤ 20
unfolding origin_text
origin-few from_cache = omega arith
origin-few (from (in_frame back)) = decimal-few back
origin-few (from in_archive) = omega arith
origin-few empty = omega arith

values-few : (a : Answer) → length (values_text a) ≤ 42
unfolding values_text
values-few (outcome n) = omega arith
values-few (reading n value origin) = simp length-append (omega (arith, decimal-few value, origin-few origin))
values-few (lending line) = omega arith
values-few (counting n live pages) = simp length-append (omega (arith, decimal-few live, decimal-few pages))
values-few (verdict n says) = omega arith
values-few (filling n left) = omega arith

pub values-ends : {before after : Text} {at behind : ℕ} (a : Answer) → Puts before at (values_text a) after behind → behind ≤ at + 42
values-ends a p = omega (arith, values-few a)

-- No line is longer than the longest.
pub answer-few : (a : Answer) → length (answer_line a) ≤ longest
unfolding answer_line ok_line no_line
answer-few a = go (eqb (number_in a) 0)
  where
    go : (t : Bool) → length (cond t (ok_line a) (no_line (number_in a))) ≤ longest
    go true = simp length-append (omega (arith, values-few a))
    go false = simp length-append (omega (arith, decimal-few (number_in a)))

pub end_few : (oks noes : ℕ) → length (end_line oks noes) ≤ longest_end
unfolding end_line
end_few oks noes = simp length-append (omega (arith, decimal-few oks, decimal-few noes))

-- The texts of an answer line.
pub number_of : (n : ℕ) (shown : Shown) → number_in (answer_of n shown) ≡ n
unfolding number_in answer_of
number_of n Nothing = refl
number_of n (Read value origin) = refl
number_of n (Counts live pages) = refl

values_of : (n : ℕ) (shown : Shown) → values_text (answer_of 0 shown) ≡ values_text (answer_of n shown)
unfolding values_text answer_of
values_of n Nothing = refl
values_of n (Read value origin) = refl
values_of n (Counts live pages) = refl

pub puts-no : (n : ℕ) (shown : Shown) {a b c d : Text} {at k l m : ℕ} → at + longest ≤ length a → n ≢ 0 → Puts a at (110 ∷ 111 ∷ []) b k → Puts b k (9 ∷ decimal n) c l → Puts c l (10 ∷ []) d m
    → Puts a at (answer_line (answer_of n shown)) d m
unfolding answer_line no_line
puts-no n shown room h p q r = rw (number_of, ne_eqb n 0 h) (puts_then (omega arith) p (puts_then (omega (arith, puts-length _ _ _ _ _ (omega arith) p)) q r))

pub puts-ok : (n : ℕ) (shown : Shown) {a b c d : Text} {at k l m : ℕ} → at + longest ≤ length a → n ≡ 0 → Puts a at (111 ∷ 107 ∷ []) b k → Puts b k (values_text (answer_of 0 shown)) c l
    → Puts c l (10 ∷ []) d m → Puts a at (answer_line (answer_of n shown)) d m
unfolding answer_line ok_line
puts-ok n shown room h p q r = rw (number_of, eq-eqb n 0 h, ← values_of n shown) (puts_then (omega arith) p (puts_then (omega (arith, puts-length _ _ _ _ _ (omega arith) p)) q r))

pub puts-end : (oks noes : ℕ) {a b c d e : Text} {at k l m n : ℕ} → at + longest_end ≤ length a → Puts a at (101 ∷ 110 ∷ 100 ∷ []) b k → Puts b k (9 ∷ decimal oks) c l
    → Puts c l (9 ∷ decimal noes) d m → Puts d m (10 ∷ []) e n → Puts a at (end_line oks noes) e n
unfolding end_line
puts-end oks noes {a} {b} {c} {d} {e} {at} {k} {l} room p q r s =
    let first : length b ≡ length a = puts-length _ _ _ _ _ (omega arith) p in
    puts_then (omega arith) p (puts_then (omega arith) q (puts_then (omega (arith, decimal-few oks, puts-length _ _ _ _ _ (omega (arith, decimal-few oks)) q)) r s))
