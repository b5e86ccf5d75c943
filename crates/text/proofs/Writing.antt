-- Writing a number's digits from the last to the first. Assumes nothing.
use mathlib.Core.Path.{◌≡◌, refl, sym, ◌∙◌, ap, ap₂, subst}
use mathlib.Core.Bool.{Bool, cond}
use mathlib.Core.List.{◌∷◌}
use Prim.Native.Nat.{ℕ, zero, suc, ◌+◌, ◌-◌, ◌/◌, ◌%◌, ◌^◌, ◌≤◌, ◌<◌}
use native.Mathlib.Nat.{pow-suc}
use native.Mathlib.Omega.{arith}
use borrow.Author.Tests.{lt-ltb, le-ltb}
use lib.ListN.{length, set, take, drop, length-set, length-drop, drop_of_length-le}
use lib.Seq.{take_all, drop-cons, get_or-set_same, drop-set-lt}
use Rattle.text.specs.Parts.{Text}
use Rattle.text.specs.Numbers.{digits_before, decimal}

-- The number's digits are those of what is left of it, before the ones written; the scratch has room for all that may come.
pub record Writing (n long : ℕ) (i rest : ℕ) (now : Text) : Type 0 where
  pub enough : 20 ≤ long
  pub length_is : length now ≡ long
  pub upper : i ≤ long
  pub room : long < i + 20
  pub small : rest < 10 ^ (i + 20 - long)
  pub same : decimal n ≡ digits_before (i + 20 - long) rest (drop i now)

-- the digits of more and of less than ten
more-digits : (most n : ℕ) (text : Text) → 10 ≤ n → digits_before (suc most) n text ≡ digits_before most (n / 10) ((48 + n % 10) ∷ text)
unfolding digits_before
more-digits most n text h = ap (λ (t : Bool). cond t ((48 + n) ∷ text) (digits_before most (n / 10) ((48 + n % 10) ∷ text))) (le-ltb n 10 h)

last-digit : (most n : ℕ) (text : Text) → n < 10 → digits_before (suc most) n text ≡ (48 + n) ∷ text
unfolding digits_before
last-digit most n text h = ap (λ (t : Bool). cond t ((48 + n) ∷ text) (digits_before most (n / 10) ((48 + n % 10) ∷ text))) (lt-ltb n 10 h)

-- one digit stored before the others
stored : (now : Text) (i d : ℕ) → i < length now → drop i (set now i d) ≡ d ∷ drop (suc i) now
stored now i d b =
    drop-cons (set now i d) i 0 (subst (λ (n : ℕ). i < n) (sym (length-set now i d)) b)
    ∙ ap₂ (λ (x : ℕ) (xs : Text). x ∷ xs) (get_or-set_same now i d 0 b) (drop-set-lt (suc i) now i d (omega arith))

pub writing_start : (n : ℕ) (now : Text) → n < 18446744073709551616 → 20 ≤ length now → Writing n (length now) (length now) n now
unfolding decimal
writing_start n now h b =
    record {
      enough = b;
      length_is = refl;
      upper = omega arith;
      room = omega arith;
      small = subst (λ (e : ℕ). n < 10 ^ e) (sym (twenty (length now))) (omega arith);
      same = ap₂ (λ (e : ℕ) (text : Text). digits_before e n text) (sym (twenty (length now))) (sym (drop_of_length-le now {i = length now} (omega arith)));
    }
  where
    twenty : (m : ℕ) → m + 20 - m ≡ 20
    twenty m = omega arith

-- as many digits may come as the power says
two_digits : (e rest : ℕ) → rest < 10 ^ e → 10 ≤ rest → 2 ≤ e
two_digits zero rest h b = absurd (omega arith)
two_digits (suc zero) rest h b = absurd (omega arith)
two_digits (suc (suc e)) rest h b = omega arith

module _ {n long i rest : ℕ} {now : Text} (w : Writing n long i rest now) where
  pub writing-some : 0 < i
  writing-some = omega (arith, w.enough, w.room)

  pub writing-slot : i - 1 < length now
  writing-slot = omega (arith, w.enough, w.room, w.upper, w.length_is)

  behind : suc (i - 1) ≡ i
  behind = omega (arith, w.enough, w.room)

  digit : (d : ℕ) → drop (i - 1) (set now (i - 1) d) ≡ d ∷ drop i now
  digit d = stored now (i - 1) d writing-slot ∙ ap (λ (k : ℕ). d ∷ drop k now) behind

  pub writing-next : 10 ≤ rest → Writing n long (i - 1) (rest / 10) (set now (i - 1) (48 + rest % 10))
  writing-next b =
      let two = two_digits (i + 20 - long) rest w.small b in
      let less : i + 20 - long ≡ suc (i - 1 + 20 - long) = omega (arith, w.enough, w.room) in
      record {
        enough = w.enough;
        length_is = length-set now (i - 1) (48 + rest % 10) ∙ w.length_is;
        upper = omega (arith, w.upper, w.enough);
        room = omega (arith, two);
        small = omega (arith, w.small, ap (λ (e : ℕ). 10 ^ e) less ∙ pow-suc 10 (i - 1 + 20 - long));
        same =
            w.same
            ∙ (ap (λ (e : ℕ). digits_before e rest (drop i now)) less
            ∙ (more-digits (i - 1 + 20 - long) rest (drop i now) b ∙ ap (digits_before (i - 1 + 20 - long) (rest / 10)) (sym (digit (48 + rest % 10)))));
      }

  writing-end : rest < 10 → drop (i - 1) (set now (i - 1) (48 + rest)) ≡ decimal n
  writing-end b =
      let less : i + 20 - long ≡ suc (i - 1 + 20 - long) = omega (arith, w.enough, w.room) in
      digit (48 + rest) ∙ sym (w.same ∙ (ap (λ (e : ℕ). digits_before e rest (drop i now)) less ∙ last-digit (i - 1 + 20 - long) rest (drop i now) b))

  -- the part from there to the end
  pub writing-bound : (d : ℕ) → i - 1 ≤ length (set now (i - 1) d)
  writing-bound d = omega (arith, length-set now (i - 1) d, writing-slot)

  pub writing-part : rest < 10 → take (length (set now (i - 1) (48 + rest)) - (i - 1)) (drop (i - 1) (set now (i - 1) (48 + rest))) ≡ decimal n
  writing-part b =
      take_all (length (set now (i - 1) (48 + rest)) - (i - 1)) (drop (i - 1) (set now (i - 1) (48 + rest))) (omega (arith, length-drop (i - 1) (set now (i - 1) (48 + rest)))) ∙ writing-end b
