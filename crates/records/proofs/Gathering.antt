-- The numbers of a line's fields, gathered field by field. Assumes nothing.
use mathlib.Core.Path.{◌≡◌, refl, sym, ◌∙◌, ap, subst}
use mathlib.Core.Bool.{Bool, true, false, cond}
use mathlib.Core.List.{List, [], ◌∷◌, ◌++◌, append_assoc, append-nil}
use Prim.Native.Nat.{ℕ, suc, ◌+◌, ◌-◌, ◌≤◌, ◌<◌}
use native.Mathlib.Numerals.{add-one}
use native.Mathlib.Omega.{arith}
use borrow.Author.Tests.{ltb-true, ltb-false, le-leb, lt-leb}
use lib.Dec.{leb, ltb}
use lib.ListN.{length, set, take, drop, length-set, length-drop, length-append, drop_of_length-le}
use lib.Seq.{drop-cons, length-take-le, take-suc-set, take_all}
use Rattle.std.specs.Prelude.{Option, Some, None}
use Rattle.text.specs.Parts.{Text, fields_of, up_to}
use Rattle.text.specs.Numbers.{field_number}
use Rattle.text.proofs.Fields.{split-first}
use Rattle.records.specs.Records.{followed, numbers_in}
use Rattle.records.specs.Shown.{most_numbers, few, fields_behind, shown_numbers, Gathers}

-- What stands from a place on.
module _ (text : Text) (u : ℕ) where
  behind-tab : u < length text → fields_behind (drop u text) ≡ fields_of (drop (suc u) text)
  unfolding fields_behind
  behind-tab h = ap fields_behind (drop-cons text u 0 h)

  behind-end : length text ≤ u → fields_behind (drop u text) ≡ []
  unfolding fields_behind
  behind-end h = ap fields_behind (drop_of_length-le text {i = u} h)

  behind : cond (ltb u (length text)) (fields_of (drop (suc u) text)) [] ≡ fields_behind (drop u text)
  behind = go (ltb u (length text)) refl
    where
      go : (t : Bool) → ltb u (length text) ≡ t → cond t (fields_of (drop (suc u) text)) [] ≡ fields_behind (drop u text)
      go true e = sym (behind-tab (ltb-true u (length text) e))
      go false e = sym (behind-end (ltb-false u (length text) e))

pub fields-first : (text : Text) → fields_of text ≡ take (up_to 9 text) text ∷ fields_behind (drop (up_to 9 text) text)
fields-first text = split-first 9 [] text ∙ ap (λ (fields : List Text). take (up_to 9 text) text ∷ fields) (behind text (up_to 9 text))

-- Numbers found before others.
abbrev behind-them : List ℕ → Option (List ℕ) → Option (List ℕ)
behind-them before None = None
behind-them before (Some ns) = Some (before ++ ns)

one_more : (before : List ℕ) (n : ℕ) (later : Option (List ℕ)) → behind-them before (followed (Some n) later) ≡ behind-them (before ++ (n ∷ [])) later
unfolding followed
one_more before n None = refl
one_more before n (Some ns) = ap Some (sym (append_assoc before (n ∷ []) ns))

no_number : (before : List ℕ) (later : Option (List ℕ)) → behind-them before (followed None later) ≡ None
unfolding followed
no_number before None = refl
no_number before (Some ns) = refl

too_many : (before : List ℕ) (later : Option (List ℕ)) → most_numbers < length before → few (behind-them before later) ≡ None
unfolding few
too_many before None h = refl
too_many before (Some ns) h =
    ap (λ (t : Bool). cond t (Some (before ++ ns)) None) (lt-leb (length (before ++ ns)) most_numbers (omega (arith, h, length-append before ns)))

enough : (before : List ℕ) → length before ≤ most_numbers → few (behind-them before (Some [])) ≡ Some before
unfolding few
enough before h =
    ap (λ (ns : List ℕ). cond (leb (length ns) most_numbers) (Some ns) None) (append-nil before)
    ∙ ap (λ (t : Bool). cond t (Some before) None) (le-leb (length before) most_numbers h)

-- The numbers found, with those of the fields that are left, are the numbers of all fields.
pub record Gathering (text : Text) (numbers : List ℕ) (count : ℕ) (rest : Text) : Type 0 where
  pub long : length numbers ≡ most_numbers
  pub some_found : count ≤ most_numbers
  pub same : few (numbers_in (fields_behind text)) ≡ few (behind-them (take count numbers) (numbers_in (fields_behind rest)))

pub gathering-start : (text : Text) → Gathering text (0 ∷ 0 ∷ 0 ∷ []) 0 text
gathering-start text = record { long = refl; some_found = omega arith; same = ap few (same-option (numbers_in (fields_behind text))) }
  where
    same-option : (o : Option (List ℕ)) → o ≡ behind-them [] o
    same-option None = refl
    same-option (Some ns) = refl

module _ {text : Text} {numbers : List ℕ} {count : ℕ} {rest : Text} (g : Gathering text numbers count rest) where
  found-length : length (take count numbers) ≡ count
  found-length = length-take-le count numbers (omega (arith, g.long, g.some_found))

  -- the next field and those behind it
  module _ (tab : ℕ) (fields : Text) (end : ℕ) (number : Option ℕ) (r : rest ≡ tab ∷ fields) (e : end ≡ 0 + up_to 9 (drop 0 fields)) (n : number ≡ field_number (take end fields)) where
    whole : few (numbers_in (fields_behind text)) ≡ few (behind-them (take count numbers) (followed number (numbers_in (fields_behind (drop end fields)))))
    unfolding numbers_in fields_behind
    whole =
        let here : up_to 9 fields ≡ end = omega arith in
        g.same
        ∙ ap (λ (o : Option (List ℕ)). few (behind-them (take count numbers) o))
        (ap (λ (t : Text). numbers_in (fields_behind t)) r
        ∙ (ap numbers_in (fields-first fields)
        ∙ (ap (λ (k : ℕ). followed (field_number (take k fields)) (numbers_in (fields_behind (drop k fields)))) here
        ∙ ap (λ (o : Option ℕ). followed o (numbers_in (fields_behind (drop end fields)))) (sym n))))

    pub gathering-next : (k : ℕ) → number ≡ Some k → count < most_numbers → Gathering text (set numbers count k) (count + 1) (take (length fields - end) (drop end fields))
    gathering-next k i less =
        subst (Gathering text (set numbers count k) (count + 1)) (sym (take_all (length fields - end) (drop end fields) (omega (arith, length-drop end fields)))) (record {
          long = length-set numbers count k ∙ g.long;
          some_found = omega arith;
          same =
              whole
              ∙ (ap (λ (x : Option ℕ). few (behind-them (take count numbers) (followed x (numbers_in (fields_behind (drop end fields)))))) i
              ∙ (ap few (one_more (take count numbers) k (numbers_in (fields_behind (drop end fields))))
              ∙ ap (λ (before : List ℕ). few (behind-them before (numbers_in (fields_behind (drop end fields)))))
              (sym (ap (λ (m : ℕ). take m (set numbers count k)) (add-one count) ∙ take-suc-set numbers count k (omega (arith, g.long))))));
        })

    -- a field that is no number
    pub gathering-none : number ≡ None → Gathers (numbers_in (fields_behind text)) None
    unfolding shown_numbers few
    gathering-none i =
        record {
          counted = tt;
          same =
              sym
              (whole
              ∙ (ap (λ (x : Option ℕ). few (behind-them (take count numbers) (followed x (numbers_in (fields_behind (drop end fields)))))) i
              ∙ ap few (no_number (take count numbers) (numbers_in (fields_behind (drop end fields))))));
        }

    -- a number too many
    pub gathering-over : (k : ℕ) → number ≡ Some k → most_numbers ≤ count → Gathers (numbers_in (fields_behind text)) None
    unfolding shown_numbers
    gathering-over k i full =
        record {
          counted = tt;
          same =
              sym
              (whole
              ∙ (ap (λ (x : Option ℕ). few (behind-them (take count numbers) (followed x (numbers_in (fields_behind (drop end fields)))))) i
              ∙ (ap few (one_more (take count numbers) k (numbers_in (fields_behind (drop end fields))))
              ∙ too_many (take count numbers ++ (k ∷ [])) (numbers_in (fields_behind (drop end fields)))
              (omega (arith, length-append (take count numbers) (k ∷ []), found-length)))));
        }

  pub gathering-end : length rest ≡ 0 → Gathers (numbers_in (fields_behind text)) (Some (record { count = count; numbers = numbers }))
  unfolding shown_numbers numbers_in fields_behind
  gathering-end e =
      record {
        counted = g.some_found;
        same =
            sym
            (g.same
            ∙ (ap (λ (t : Text). few (behind-them (take count numbers) (numbers_in (fields_behind t)))) (none rest e)
            ∙ enough (take count numbers) (omega (arith, found-length, g.some_found))));
      }
    where
      none : (t : Text) → length t ≡ 0 → t ≡ []
      none [] k = refl
      none (b ∷ bs) k = absurd (omega arith)
