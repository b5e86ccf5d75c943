-- A line that chunks cut, answered when it is whole. Assumes nothing.
use mathlib.Core.Path.{◌≡◌, refl, sym, ◌∙◌, ap, ap₂, subst}
use mathlib.Core.Bool.{Bool, true, false, cond}
use mathlib.Core.List.{[], ◌∷◌, ◌++◌, append-nil}
use Prim.Native.Nat.{ℕ, zero, suc, ◌+◌, ◌-◌, ◌≤◌, ◌<◌}
use native.Mathlib.Omega.{arith}
use borrow.Author.Tests.{ltb-true, ltb-false, leb-true, leb-false, lt-leb}
use lib.Dec.{ltb, leb, eqb}
use lib.ListN.{length, take, drop, length-take, length-append}
use lib.Seq.{take_all, take-nil, take-append_seam, drop-length}
use Rattle.text.specs.Parts.{Text, up_to, fields_of}
use Rattle.text.specs.Lines.{limit, looked, Extends}
use Rattle.text.specs.Lines as lines
use Rattle.text.specs.declared.Reader.{Reader}
use Rattle.text.proofs.Putting.{puts_then}
use Rattle.records.specs.Records.{Asked, record_in, parsed}
use Rattle.records.specs.Records.Asked.{turned_down}
use Rattle.rules.specs.Settings.{Pieces}
use Rattle.store.specs.Shown.{StoreState, Lent, kept, lengths_of}
use Rattle.tally.specs.declared.Tally.{Tally}
use Rattle.replies.specs.Answers.{answer_line, longest}
use Rattle.session.specs.declared.Runner.{Runner}
use Rattle.session.specs.Transcript.{Running, calls_for, Told, stopped, onward, counted, line_answer, line_store, line_text, line_after, told_to}
use Rattle.session.specs.Running.{StandsFor, Made, Tells, Taken}
use Rattle.session.specs.Between.{Desk, desk_of, desk_in, kept_on, Stands, Goes, Lines, NoneLeft, Rested}
use Rattle.session.proofs.Telling.{told-full, told-within, told-ended}
use Rattle.session.proofs.Making.{made_then}
use Rattle.session.proofs.Lines.{lines-room}
use Rattle.session.proofs.Feeding.{desk-stands, up-to-append}

-- A line says what the bytes of it that are looked at say.
parsed-looked : (line : Text) → parsed (looked line) ≡ parsed line
unfolding parsed
parsed-looked line = go (leb (length line) 81) refl
  where
    go : (b : Bool) → leb (length line) 81 ≡ b
        → cond (leb (length (take 81 line)) limit) (record_in (fields_of (take 81 line))) (turned_down 1) ≡ cond (leb (length line) limit) (record_in (fields_of line)) (turned_down 1)
    go true e = ap (λ (t : Text). cond (leb (length t) limit) (record_in (fields_of t)) (turned_down 1)) (take_all 81 line (leb-true (length line) 81 e))
    go false e =
        let long : 81 < length line = leb-false (length line) 81 e in
        ap (λ (b : Bool). cond b (record_in (fields_of (take 81 line))) (turned_down 1)) (lt-leb (length (take 81 line)) limit (omega (arith, length-take 81 line, long)))
        ∙ sym (ap (λ (b : Bool). cond b (record_in (fields_of line)) (turned_down 1)) (lt-leb (length line) limit (omega (arith, long))))

module _ (lengths : Pieces) (x : Running) where
  text-as : (a b : Text) → parsed a ≡ parsed b → 0 < length a → 0 < length b → line_text lengths x a ≡ line_text lengths x b
  unfolding line_text
  text-as [] b e h k = absurd (omega (arith, h))
  text-as (p ∷ ps) [] e h k = absurd (omega (arith, k))
  text-as (p ∷ ps) (q ∷ qs) e h k = ap (λ (t : Asked). answer_line (line_answer lengths x.store t)) e

  after-as : (a b : Text) → parsed a ≡ parsed b → 0 < length a → 0 < length b → line_after lengths x a ≡ line_after lengths x b
  unfolding line_after
  after-as [] b e h k = absurd (omega (arith, h))
  after-as (p ∷ ps) [] e h k = absurd (omega (arith, k))
  after-as (p ∷ ps) (q ∷ qs) e h k = ap (λ (t : Asked). counted (line_answer lengths x.store t) x (line_store lengths x.store t) (x.calls ++ calls_for x.store t)) e

  some-looked : (b : ℕ) (bs : Text) → 0 < length (looked (b ∷ bs))
  some-looked b bs = omega (arith, length-take 81 (b ∷ bs))

  looked-text : (line : Text) → line_text lengths x (looked line) ≡ line_text lengths x line
  looked-text [] = ap (line_text lengths x) (take-nil 81)
  looked-text (b ∷ bs) = text-as (looked (b ∷ bs)) (b ∷ bs) (parsed-looked (b ∷ bs)) (some-looked b bs) (omega arith)

  looked-after : (line : Text) → line_after lengths x (looked line) ≡ line_after lengths x line
  looked-after [] = ap (line_after lengths x) (take-nil 81)
  looked-after (b ∷ bs) = after-as (looked (b ∷ bs)) (b ∷ bs) (parsed-looked (b ∷ bs)) (some-looked b bs) (omega arith)

-- No line feed stands in a part of a line.
up-to-take : (n : ℕ) (a : Text) → length a ≤ up_to 10 a → length (take n a) ≤ up_to 10 (take n a)
unfolding up_to
up-to-take zero a h = omega arith
up-to-take (suc n) [] h = omega arith
up-to-take (suc n) (x ∷ xs) h = go (eqb x 10) (up-to-take n xs) h
  where
    go : (t : Bool) → (length xs ≤ up_to 10 xs → length (take n xs) ≤ up_to 10 (take n xs)) → suc (length xs) ≤ cond t 0 (suc (up_to 10 xs))
        → suc (length (take n xs)) ≤ cond t 0 (suc (up_to 10 (take n xs)))
    go true ih k = absurd (omega (arith, k))
    go false ih k = omega (arith, ih (omega (arith, k)))

up-to-first : (t : Text) → length (take (up_to 10 t) t) ≤ up_to 10 (take (up_to 10 t) t)
unfolding up_to
up-to-first [] = omega arith
up-to-first (x ∷ xs) = go (eqb x 10) refl (up-to-first xs)
  where
    go : (b : Bool) → eqb x 10 ≡ b → length (take (up_to 10 xs) xs) ≤ up_to 10 (take (up_to 10 xs) xs)
        → length (take (cond b 0 (suc (up_to 10 xs))) (x ∷ xs)) ≤ up_to 10 (take (cond b 0 (suc (up_to 10 xs))) (x ∷ xs))
    go true e ih = omega arith
    go false e ih =
        subst (λ (b : Bool). suc (length (take (up_to 10 xs) xs)) ≤ cond b 0 (suc (up_to 10 (take (up_to 10 xs) xs)))) (sym e) (omega (arith, ih))

-- Where no line ends, or there is no room, nothing is said.
record Quiet (y : Running) (t : Told) : Type 0 where
  said : t.said ≡ []
  running : t.running ≡ y

quiet : (lengths : Pieces) (room : ℕ) (y : Running) (text : Text) → (longest ≤ room → length text ≤ up_to 10 text) → Quiet y (told_to lengths room y [] text)
unfolding onward stopped
quiet lengths room y text h = go (ltb room longest) refl
  where
    go : (b : Bool) → ltb room longest ≡ b → Quiet y (told_to lengths room y [] text)
    go true e = subst (Quiet y) (sym (told-full lengths room y [] text (ltb-true room longest e))) (record { said = refl; running = refl })
    go false e =
        let long = ltb-false room longest e in
        subst (Quiet y) (sym (told-within lengths room y [] text long (h long))) (record { said = refl; running = refl })

-- One whole line, of which a reader kept the bytes that are looked at.
module _ (d : Desk) (text cut first : Text) (e : Desk) (out : Text) (used filled : ℕ) (is : text ≡ looked cut ++ (10 ∷ [])) (w : Lines d text 0 first 0 e out used filled)
    (z : NoneLeft text (length first) used filled) (no : length cut ≤ up_to 10 cut) (room : longest ≤ length first) (x : Running) (q : Stands d x) where
  abbrev line : Text
  line = looked cut

  abbrev went : Goes d x (length first - 0) text e (used - 0) w.said (length first - filled) (drop used text)
  went = w.goes x q

  ends_at : up_to 10 (line ++ (10 ∷ [])) ≡ length line
  unfolding up_to
  ends_at = omega (arith, up-to-append line (10 ∷ []) (up-to-take 81 cut no))

  as_one : told_to (lengths_of d.lent) (length first - 0) x [] text ≡ onward (suc (length line)) (line_text (lengths_of d.lent) x line) (stopped (line_after (lengths_of d.lent) x line) [])
  unfolding told_to
  as_one =
      ap (told_to (lengths_of d.lent) (length first - 0) x []) is
      ∙ (told-ended (lengths_of d.lent) (length first - 0) x [] (line ++ (10 ∷ [])) (omega arith) (omega (arith, ends_at, length-append line (10 ∷ [])))
      ∙ (ap
      (λ (n : ℕ). onward (suc n) (line_text (lengths_of d.lent) x (take n (line ++ (10 ∷ []))))
      (told_to (lengths_of d.lent) (length first - 0 - length (line_text (lengths_of d.lent) x (take n (line ++ (10 ∷ []))))) (line_after (lengths_of d.lent) x (take n (line ++ (10 ∷ [])))) []
      (drop (suc n) (line ++ (10 ∷ [])))))
      ends_at
      ∙ ap₂
      (λ (t r : Text). onward (suc (length line)) (line_text (lengths_of d.lent) x t) (told_to (lengths_of d.lent) (length first - 0 - length (line_text (lengths_of d.lent) x t)) (line_after (lengths_of d.lent) x t) [] r))
      (take-append_seam line (10 ∷ [])) behind))
    where
      behind : drop (suc (length line)) (line ++ (10 ∷ [])) ≡ []
      behind = ap (λ (n : ℕ). drop n (line ++ (10 ∷ []))) (sym (long (length (line ++ (10 ∷ []))) (length line) (length-append line (10 ∷ [])))) ∙ drop-length (line ++ (10 ∷ []))
        where
          long : (m n : ℕ) → m ≡ n + 1 → m ≡ suc n
          long m n g = omega arith

  abbrev last : Told
  last = told_to (lengths_of d.lent) (length first - filled) went.now [] (drop used text)

  silent : Quiet went.now last
  silent = quiet (lengths_of d.lent) (length first - filled) went.now (drop used text) z

  both : onward (used - 0) w.said last ≡ onward (suc (length line)) (line_text (lengths_of d.lent) x line) (stopped (line_after (lengths_of d.lent) x line) [])
  both = sym went.told ∙ as_one

  pub whole-text : w.said ≡ line_text (lengths_of d.lent) x cut
  unfolding onward stopped
  whole-text =
      sym (append-nil w.said)
      ∙ (ap (λ (t : Text). w.said ++ t) (sym silent.said) ∙ (ap (λ (t : Told). t.said) both ∙ (append-nil (line_text (lengths_of d.lent) x line) ∙ looked-text (lengths_of d.lent) x cut)))

  now-is : went.now ≡ line_after (lengths_of d.lent) x cut
  unfolding onward stopped
  now-is = sym silent.running ∙ (ap (λ (t : Told). t.running) both ∙ looked-after (lengths_of d.lent) x cut)

  pub whole-stands : Stands e (line_after (lengths_of d.lent) x cut)
  whole-stands = subst (Stands e) now-is went.stands

  pub whole-made : Made x (line_after (lengths_of d.lent) x cut) (kept_on d) (kept_on e)
  whole-made = subst (λ (y : Running). Made x y (kept_on d) (kept_on e)) now-is went.made

-- The line that was begun ends in the chunk.
module _ (r : Runner) (m : Lent) (chunk first : Text) (whole line : Reader) (end : ℕ) (state : StoreState) (started : Bool) (tally : Tally) (lent : Lent) (mid : Text) (k f : ℕ)
    (h : longest ≤ length first) (here : end ≡ 0 + up_to 10 (drop 0 chunk)) (inside : end < length chunk) (keeps : Extends r.reader (take end chunk) whole) (ended : lines.Ended whole line)
    (w : Lines (desk_in r m) (take line.count line.kept) 0 first 0 (desk_of state started tally lent) mid k f) (z : NoneLeft (take line.count line.kept) (length first) k f) where
  module _ (s : Runner) (after : Lent) (out : Text) (used filled : ℕ) (rs : Rested (desk_of state started tally lent) chunk (end + 1) mid f s after out used filled) where
    module _ (x : Running) (begun : Text) (q : StandsFor r m x begun) where
      abbrev cut : Text
      cut = begun ++ take end chunk

      no-feed : length cut ≤ up_to 10 cut
      no-feed =
          let up : up_to 10 chunk ≡ end = omega (arith, here) in
          let first_part : length (take end chunk) ≤ up_to 10 (take end chunk) = subst (λ (n : ℕ). length (take n chunk) ≤ up_to 10 (take n chunk)) up (up-to-first chunk) in
          omega (arith, up-to-append begun (take end chunk) q.part, length-append begun (take end chunk), first_part)

      bytes : take line.count line.kept ≡ looked cut ++ (10 ∷ [])
      bytes = ended.bytes cut (keeps begun q.reader)

      said-is : w.said ≡ line_text (lengths_of m) x cut
      said-is = whole-text (desk_in r m) _ cut first _ mid k f bytes w z no-feed h x (desk-stands q)

      stands : Stands (desk_of state started tally lent) (line_after (lengths_of m) x cut)
      stands = whole-stands (desk_in r m) _ cut first _ mid k f bytes w z no-feed h x (desk-stands q)

      made : Made x (line_after (lengths_of m) x cut) (kept r.state m) (kept state lent)
      made = whole-made (desk_in r m) _ cut first _ mid k f bytes w z no-feed h x (desk-stands q)

      long : f ≡ length (line_text (lengths_of m) x cut)
      long = omega (arith, w.puts.ends, ap length said-is)

      abbrev later : Told
      later = told_to (lengths_of m) (length first - length (line_text (lengths_of m) x cut)) (line_after (lengths_of m) x cut) [] (drop (end + 1) chunk)

      told : told_to (lengths_of m) (length first) x begun chunk ≡ onward (end + 1) (line_text (lengths_of m) x cut) later
      told =
          let up : up_to 10 chunk ≡ end = omega (arith, here) in
          let one : suc end ≡ end + 1 = omega arith in
          told-ended (lengths_of m) (length first) x begun chunk h (omega (arith, here, inside))
          ∙ (ap
          (λ (n : ℕ). onward (suc n) (line_text (lengths_of m) x (begun ++ take n chunk))
          (told_to (lengths_of m) (length first - length (line_text (lengths_of m) x (begun ++ take n chunk))) (line_after (lengths_of m) x (begun ++ take n chunk)) [] (drop (suc n) chunk)))
          up
          ∙ ap (λ (n : ℕ). onward n (line_text (lengths_of m) x cut)
          (told_to (lengths_of m) (length first - length (line_text (lengths_of m) x cut)) (line_after (lengths_of m) x cut) [] (drop n chunk))) one)

      rested : Tells (kept state lent) (line_after (lengths_of m) x cut) s after (used - (end + 1)) rs.said later
      rested =
          subst (λ (l : Pieces). Tells (kept state lent) (line_after (lengths_of m) x cut) s after (used - (end + 1)) rs.said
          (told_to l (length first - length (line_text (lengths_of m) x cut)) (line_after (lengths_of m) x cut) [] (drop (end + 1) chunk))) w.lengths
          (subst (λ (n : ℕ). Tells (kept state lent) (line_after (lengths_of m) x cut) s after (used - (end + 1)) rs.said
          (told_to (lengths_of lent) n (line_after (lengths_of m) x cut) [] (drop (end + 1) chunk))) room-is (rs.tells (line_after (lengths_of m) x cut) stands))
        where
          room-is : length mid - f ≡ length first - length (line_text (lengths_of m) x cut)
          room-is = omega (arith, lines-room w, long)

      tells-line : Tells (kept r.state m) x s after used (w.said ++ rs.said) (told_to (lengths_of m) (length first) x begun chunk)
      unfolding onward
      tells-line =
          subst (Tells (kept r.state m) x s after used (w.said ++ rs.said)) (sym told) (
            omega (arith, rested.0, rs.low),
            ap₂ (λ (a b : Text). a ++ b) said-is rested.1,
            rested.2,
            made_then x (line_after (lengths_of m) x cut) later.running made rested.3,
          )

    pub taken-line : Taken r m chunk first s after out used filled
    taken-line =
        record {
          lengths = rs.lengths ∙ w.lengths;
          within = rs.within;
          moves = λ j l. omega (arith, rs.low);
          said = w.said ++ rs.said;
          fits = omega (arith, length-append w.said rs.said, w.puts.ends, rs.fits, lines-room w);
          puts = puts_then (omega arith) w.puts rs.puts;
          full = λ j. absurd (omega (arith, h, j));
          tells = tells-line;
        }
