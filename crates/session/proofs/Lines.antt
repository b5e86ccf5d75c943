-- Lines answered one after the other. Assumes nothing.
use mathlib.Core.Path.{◌≡◌, refl, sym, ◌∙◌, ap, ap₂, subst}
use mathlib.Core.List.{[], ◌++◌}
use Prim.Native.Nat.{ℕ, suc, ◌+◌, ◌-◌, ◌≤◌, ◌<◌}
use native.Mathlib.Omega.{arith}
use lib.ListN.{length, take, drop, length-drop, length-append}
use lib.Seq.{drop-drop}
use Rattle.text.specs.Parts.{Text, up_to}
use Rattle.text.specs.Output.{Puts}
use Rattle.text.proofs.Putting.{puts-length, puts_none, puts_then}
use Rattle.rules.specs.Settings.{Pieces}
use Rattle.replies.specs.Answers.{longest}
use Rattle.session.specs.Transcript.{Running, onward, line_text, line_after, told_to}
use Rattle.store.specs.Shown.{lengths_of}
use Rattle.session.specs.Running.{Made}
use Rattle.session.specs.Between.{Desk, kept_on, Stands, Goes, Lines}
use Rattle.session.proofs.Making.{made_none, made_then}
use Rattle.session.proofs.Answering.{AnswersLine}
use Rattle.session.proofs.Telling.{onward_then, onward-none, told-ended}

none_left : (k : ℕ) → k - k ≡ 0
none_left k = omega arith

pub lines_start : (d : Desk) (text : Text) (from : ℕ) (out : Text) (at : ℕ) → from ≤ length text → at ≤ length out → Lines d text from out at d out from at
lines_start d text from out at h k =
    record {
      lengths = refl;
      low = omega arith;
      within = h;
      said = [];
      fits = omega arith;
      puts = puts_none out at;
      moved = λ e. refl;
      goes =
          λ x q.
          record {
            now = x;
            stands = q;
            told =
                sym (ap (λ (n : ℕ). onward n [] (told_to (lengths_of d.lent) (length out - at) x [] (drop from text))) (none_left from)
                ∙ onward-none (told_to (lengths_of d.lent) (length out - at) x [] (drop from text)));
            made = made_none x (kept_on d);
          };
    }

-- An empty line gets no answer.
pub answers-nothing : (d : Desk) → AnswersLine d [] d []
unfolding line_text line_after
answers-nothing d = record { lengths = refl; few = omega arith; text = λ x q. refl; stands = λ x q. q; made = λ x q. made_none x (kept_on d) }

module _ {d : Desk} {text : Text} {from : ℕ} {first : Text} {at : ℕ} {e : Desk} {out : Text} {used filled : ℕ} (w : Lines d text from first at e out used filled) where
  -- the output is as long as it was, and what is put stays within it
  pub lines-room : length out ≡ length first
  lines-room = puts-length first at w.said out filled w.fits w.puts

  pub lines_few : filled ≤ length first
  lines_few = omega (arith, w.puts.ends, w.fits)

  module _ (end : ℕ) (here : end ≡ used + up_to 10 (drop used text)) where
    module _ (f : Desk) (answer after : Text) (behind : ℕ) (inside : end < length text) (room : longest ≤ length first - filled)
        (a : AnswersLine e (take (end - used) (drop used text)) f answer) (p : Puts out filled answer after behind) where
      abbrev line : Text
      line = take (end - used) (drop used text)

      ends : behind ≡ filled + length answer
      ends = p.ends

      module _ (x : Running) (q : Stands d x) where
        abbrev g : Goes d x (length first - at) (drop from text) e (used - from) w.said (length first - filled) (drop used text)
        g = w.goes x q

        answer-is : answer ≡ line_text (lengths_of d.lent) g.now line
        answer-is = subst (λ (l : Pieces). answer ≡ line_text l g.now line) w.lengths (a.text g.now g.stands)

        abbrev next : Running
        next = line_after (lengths_of d.lent) g.now line

        next_is : line_after (lengths_of e.lent) g.now line ≡ next
        next_is = ap (λ (l : Pieces). line_after l g.now line) w.lengths

        step : told_to (lengths_of d.lent) (length first - filled) g.now [] (drop used text)
            ≡ onward (end + 1 - used) answer (told_to (lengths_of d.lent) (length first - behind) next [] (drop (end + 1) text))
        step =
            told-ended (lengths_of d.lent) (length first - filled) g.now [] (drop used text) room (omega (arith, length-drop used text, w.within))
            ∙ (ap
            (λ (n : ℕ). onward (suc n) (line_text (lengths_of d.lent) g.now (take n (drop used text)))
            (told_to (lengths_of d.lent) (length first - filled - length (line_text (lengths_of d.lent) g.now (take n (drop used text)))) (line_after (lengths_of d.lent) g.now (take n (drop used text))) []
            (drop (suc n) (drop used text))))
            long
            ∙ (ap (λ (t : Text). onward (suc (end - used)) t (told_to (lengths_of d.lent) (length first - filled - length t) next [] (drop (suc (end - used)) (drop used text)))) (sym answer-is)
            ∙ (ap₂ (λ (k : ℕ) (r : Text). onward (suc (end - used)) answer (told_to (lengths_of d.lent) k next [] r)) less rest-is
            ∙ ap (λ (n : ℕ). onward n answer (told_to (lengths_of d.lent) (length first - behind) next [] (drop (end + 1) text))) one)))
          where
            long : up_to 10 (drop used text) ≡ end - used
            long = omega (arith, here)

            less : length first - filled - length answer ≡ length first - behind
            less = omega (arith, ends)

            one : suc (end - used) ≡ end + 1 - used
            one = omega (arith, here)

            rest-is : drop (suc (end - used)) (drop used text) ≡ drop (end + 1) text
            rest-is =
                let sum : used + suc (end - used) ≡ end + 1 = omega (arith, here) in
                drop-drop (suc (end - used)) used text ∙ ap (λ (k : ℕ). drop k text) sum

        goes-next : Goes d x (length first - at) (drop from text) f (end + 1 - from) (w.said ++ answer) (length first - behind) (drop (end + 1) text)
        goes-next =
            record {
              now = next;
              stands = subst (Stands f) next_is (a.stands g.now g.stands);
              told =
                  g.told
                  ∙ (ap (onward (used - from) w.said) step
                  ∙ (onward_then (used - from) (end + 1 - used) w.said answer (told_to (lengths_of d.lent) (length first - behind) next [] (drop (end + 1) text))
                  ∙ ap (λ (n : ℕ). onward n (w.said ++ answer) (told_to (lengths_of d.lent) (length first - behind) next [] (drop (end + 1) text))) (omega (arith, here, w.low))));
              made = made_then x g.now next g.made (subst (λ (y : Running). Made g.now y (kept_on e) (kept_on f)) next_is (a.made g.now g.stands));
            }

      pub lines_next : Lines d text from first at f after (end + 1) behind
      lines_next =
          record {
            lengths = a.lengths ∙ w.lengths;
            low = omega (arith, here, w.low);
            within = omega arith;
            said = w.said ++ answer;
            fits = omega (arith, length-append w.said answer, a.few, w.puts.ends, room);
            puts = puts_then (omega (arith, w.fits)) w.puts p;
            moved = λ z. absurd (omega (arith, z, here, w.low));
            goes = goes-next;
          }
