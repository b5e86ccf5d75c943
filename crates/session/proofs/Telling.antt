-- What is told to the bytes of a text, line by line. Assumes nothing.
use mathlib.Core.Path.{◌≡◌, refl, sym, ◌∙◌, ap, ap₂}
use mathlib.Core.Bool.{Bool, true, false, cond}
use mathlib.Core.List.{[], ◌∷◌, ◌++◌, append_assoc, append-nil}
use Prim.Native.Nat.{ℕ, suc, ◌+◌, ◌-◌, ◌≤◌, ◌<◌}
use native.Mathlib.Omega.{arith}
use borrow.Author.Tests.{lt-ltb, le-ltb}
use lib.Dec.{ltb, eqb}
use lib.ListN.{length, take, drop}
use Rattle.text.specs.Parts.{Text, split, up_to}
use Rattle.rules.specs.Settings.{Pieces}
use Rattle.replies.specs.Answers.{longest}
use Rattle.session.specs.Transcript.{Running, Told, stopped, onward, line_text, line_after, answers_to, told_to}

abbrev told_of : ℕ → Text → Running → Text → Told
told_of used said x left = record { used = used; said = said; running = x; left = left }

pub onward_then : (j k : ℕ) (s u : Text) (t : Told) → onward j s (onward k u t) ≡ onward (j + k) (s ++ u) t
unfolding onward
onward_then j k s u t = ap₂ (λ (n : ℕ) (said : Text). told_of n said t.running t.left) (omega arith) (sym (append_assoc s u t.said))

pub onward-none : (t : Told) → onward 0 [] t ≡ t
unfolding onward
onward-none t = ap (λ (n : ℕ). told_of n t.said t.running t.left) (omega arith)

one_more : (k : ℕ) (s : Text) (t : Told) → onward 1 [] (onward k s t) ≡ onward (suc k) s t
one_more k s t = onward_then 1 k [] s t ∙ ap (λ (n : ℕ). onward n s t) (omega arith)

module _ (lengths : Pieces) where
  -- one byte
  abbrev byte-told : ℕ → Running → Text → ℕ → Text → Told
  byte-told room x begun b bs = cond (eqb b 10) (onward 1 (line_text lengths x begun) (told_to lengths (room - length (line_text lengths x begun)) (line_after lengths x begun) [] bs)) (onward 1 [] (told_to lengths room x (begun ++ (b ∷ [])) bs))

  told-on : (room : ℕ) (x : Running) (begun : Text) (b : ℕ) (bs : Text) → longest ≤ room → told_to lengths room x begun (b ∷ bs) ≡ byte-told room x begun b bs
  unfolding told_to
  told-on room x begun b bs h = ap (λ (t : Bool). cond t (stopped x begun) (byte-told room x begun b bs)) (le-ltb room longest h)

  -- Without room nothing is taken.
  pub told-full : (room : ℕ) (x : Running) (begun text : Text) → room < longest → told_to lengths room x begun text ≡ stopped x begun
  unfolding told_to
  told-full room x begun [] h = refl
  told-full room x begun (b ∷ bs) h = ap (λ (t : Bool). cond t (stopped x begun) (byte-told room x begun b bs)) (lt-ltb room longest h)

  -- A text within a line,
  pub told-within : (room : ℕ) (x : Running) (begun text : Text) → longest ≤ room → length text ≤ up_to 10 text
      → told_to lengths room x begun text ≡ onward (length text) [] (stopped x (begun ++ text))
  unfolding told_to up_to stopped onward
  told-within room x begun [] r h = ap (λ (t : Text). told_of 0 [] x t) (sym (append-nil begun))
  told-within room x begun (b ∷ bs) r h = told-on room x begun b bs r ∙ go (told-within room x (begun ++ (b ∷ [])) bs r) (eqb b 10) h
    where
      go : (length bs ≤ up_to 10 bs → told_to lengths room x (begun ++ (b ∷ [])) bs ≡ onward (length bs) [] (stopped x ((begun ++ (b ∷ [])) ++ bs)))
          → (t : Bool) → suc (length bs) ≤ cond t 0 (suc (up_to 10 bs))
          → cond t (onward 1 (line_text lengths x begun) (told_to lengths (room - length (line_text lengths x begun)) (line_after lengths x begun) [] bs)) (onward 1 [] (told_to lengths room x (begun ++ (b ∷ [])) bs))
          ≡ onward (suc (length bs)) [] (stopped x (begun ++ (b ∷ bs)))
      go ih true k = absurd (omega arith)
      go ih false k =
          ap (onward 1 []) (ih (omega arith))
          ∙ (one_more (length bs) [] (stopped x ((begun ++ (b ∷ [])) ++ bs))
          ∙ ap (λ (t : Text). onward (suc (length bs)) [] (stopped x t)) (append_assoc begun (b ∷ []) bs))

  -- and one in which a line ends.
  abbrev ended-told : ℕ → Running → Text → Text → ℕ → Told
  ended-told room x begun text n =
      onward (suc n) (line_text lengths x (begun ++ take n text))
      (told_to lengths (room - length (line_text lengths x (begun ++ take n text))) (line_after lengths x (begun ++ take n text)) [] (drop (suc n) text))

  pub told-ended : (room : ℕ) (x : Running) (begun text : Text) → longest ≤ room → up_to 10 text < length text
      → told_to lengths room x begun text ≡ ended-told room x begun text (up_to 10 text)
  unfolding up_to
  told-ended room x begun [] r h = absurd (omega arith)
  told-ended room x begun (b ∷ bs) r h = told-on room x begun b bs r ∙ go (told-ended room x (begun ++ (b ∷ [])) bs r) (eqb b 10) h
    where
      go : (up_to 10 bs < length bs → told_to lengths room x (begun ++ (b ∷ [])) bs ≡ ended-told room x (begun ++ (b ∷ [])) bs (up_to 10 bs))
          → (t : Bool) → cond t 0 (suc (up_to 10 bs)) < suc (length bs)
          → cond t (onward 1 (line_text lengths x begun) (told_to lengths (room - length (line_text lengths x begun)) (line_after lengths x begun) [] bs)) (onward 1 [] (told_to lengths room x (begun ++ (b ∷ [])) bs))
          ≡ ended-told room x begun (b ∷ bs) (cond t 0 (suc (up_to 10 bs)))
      go ih true k =
          ap (λ (u : Text). onward 1 (line_text lengths x u) (told_to lengths (room - length (line_text lengths x u)) (line_after lengths x u) [] bs)) (sym (append-nil begun))
      go ih false k =
          ap (onward 1 []) (ih (omega arith))
          ∙ (one_more (suc (up_to 10 bs)) _ _
          ∙ ap (λ (u : Text). onward (suc (suc (up_to 10 bs))) (line_text lengths x u) (told_to lengths (room - length (line_text lengths x u)) (line_after lengths x u) [] (drop (suc (up_to 10 bs)) bs)))
          (append_assoc begun (b ∷ []) (take (up_to 10 bs) bs)))

  -- What is said to a text, and then to what is left of it and whatever follows, is what the transcript says to all.
  abbrev Says : (x : Running) (begun text more : Text) → Told → Type 0
  Says x begun text more t = answers_to lengths x (split 10 begun (text ++ more)) ≡ t.said ++ answers_to lengths t.running (split 10 t.left (drop t.used text ++ more))

  later : (b u : ℕ) (bs : Text) → drop (1 + u) (b ∷ bs) ≡ drop u bs
  later b u bs = ap (λ (k : ℕ). drop k (b ∷ bs)) (one u)
    where
      one : (k : ℕ) → 1 + k ≡ suc k
      one k = omega arith

  module _ (x : Running) (begun : Text) (b : ℕ) (bs more : Text) where
    says-stopped : Says x begun (b ∷ bs) more (stopped x begun)
    unfolding stopped
    says-stopped = refl

    says-line : (t : Told) → Says (line_after lengths x begun) [] bs more t → eqb b 10 ≡ true → Says x begun (b ∷ bs) more (onward 1 (line_text lengths x begun) t)
    unfolding answers_to onward split
    says-line t ih e =
        ap (λ (c : Bool). answers_to lengths x (cond c (begun ∷ split 10 [] (bs ++ more)) (split 10 (begun ++ (b ∷ [])) (bs ++ more)))) e
        ∙ (ap (λ (r : Text). line_text lengths x begun ++ r) ih
        ∙ (sym (append_assoc (line_text lengths x begun) t.said (answers_to lengths t.running (split 10 t.left (drop t.used bs ++ more))))
        ∙ ap (λ (d : Text). (line_text lengths x begun ++ t.said) ++ answers_to lengths t.running (split 10 t.left (d ++ more))) (sym (later b t.used bs))))

    says-byte : (t : Told) → Says x (begun ++ (b ∷ [])) bs more t → eqb b 10 ≡ false → Says x begun (b ∷ bs) more (onward 1 [] t)
    unfolding onward split
    says-byte t ih e =
        ap (λ (c : Bool). answers_to lengths x (cond c (begun ∷ split 10 [] (bs ++ more)) (split 10 (begun ++ (b ∷ [])) (bs ++ more)))) e
        ∙ (ih ∙ ap (λ (d : Text). t.said ++ answers_to lengths t.running (split 10 t.left (d ++ more))) (sym (later b t.used bs)))

    says-next : (room : ℕ) (u v : Bool) → eqb b 10 ≡ v
        → Says (line_after lengths x begun) [] bs more (told_to lengths (room - length (line_text lengths x begun)) (line_after lengths x begun) [] bs)
        → Says x (begun ++ (b ∷ [])) bs more (told_to lengths room x (begun ++ (b ∷ [])) bs)
        → Says x begun (b ∷ bs) more (cond u (stopped x begun) (cond v (onward 1 (line_text lengths x begun) (told_to lengths (room - length (line_text lengths x begun)) (line_after lengths x begun) [] bs)) (onward 1 [] (told_to lengths room x (begun ++ (b ∷ [])) bs))))
    says-next room true v e p q = says-stopped
    says-next room false true e p q = says-line _ p e
    says-next room false false e p q = says-byte _ q e

  says_none : (x : Running) (begun more : Text) → Says x begun [] more (stopped x begun)
  unfolding stopped
  says_none x begun more = refl

  pub told-says : (room : ℕ) (x : Running) (begun text more : Text) → Says x begun text more (told_to lengths room x begun text)
  unfolding told_to
  told-says room x begun [] more = says_none x begun more
  told-says room x begun (b ∷ bs) more =
      says-next x begun b bs more room (ltb room longest) (eqb b 10) refl
      (told-says (room - length (line_text lengths x begun)) (line_after lengths x begun) [] bs more)
      (told-says room x (begun ++ (b ∷ [])) bs more)
