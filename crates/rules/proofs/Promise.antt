-- How a promise is made: of a refused call, and of an accepted one. Assumes nothing.
use mathlib.Core.Path.{◌≡◌, refl, sym, ap, subst}
use mathlib.Core.Logic.{◌≢◌}
use mathlib.Core.Bool.{Bool}
use Prim.Native.Nat.{ℕ}
use Rattle.rules.specs.Settings.{elements}
use Rattle.rules.specs.Call.{Act, Call, Answer, refused}
use Rattle.rules.specs.Call.Look.{LINE, LINE_REFUSAL, COUNTS}
use Rattle.rules.specs.Call.Act.{READ, LOOK, CHANGE}
use Rattle.rules.specs.Call.Call.{ON}
use Rattle.rules.specs.Seen.{Seen, accepted}
use Rattle.rules.specs.Refusal.{refusal, act_refusal, state_refusal, lacks}
use Rattle.rules.specs.Promise.{form_of, Kind, Promise, Accepted, seen_of, facts_of, settings_for}

-- an accepted act's answer has the form of a refused one's
pub accepted-form : (v : Seen) (held : ℕ → Bool) (c : Act) → form_of (accepted v held c) ≡ form_of (refused 0 (ON c))
unfolding accepted refused
accepted-form v held (READ w a) = refl
accepted-form v held (LOOK (LINE l)) = refl
accepted-form v held (LOOK (LINE_REFUSAL l)) = refl
accepted-form v held (LOOK COUNTS) = refl
accepted-form v held (CHANGE c) = refl

-- a refusal goes by what its own act lacks
pub lacking-own : (K : Kind) (s : K.Storage) (c : Act) (b : Bool) → b ≡ lacks (K.registers s).settings (seen_of K s) c
    → refusal (facts_of K s) (λ a. b) (ON c) ≡ refusal (facts_of K s) (lacks (K.registers s).settings (seen_of K s)) (ON c)
unfolding refusal
lacking-own K s c b e = ap (λ (t : Bool). state_refusal (facts_of K s) (act_refusal (facts_of K s) t c)) e

module _ (K : Kind) (c : Call) (s : K.Storage) (lacking : Act → Bool)
    (exact : K.Well s → refusal (facts_of K s) lacking c ≡ refusal (facts_of K s) (lacks (K.registers s).settings (seen_of K s)) c) where
  -- a refused call answers so and leaves all as it was
  pub refuse : refusal (facts_of K s) lacking c ≢ 0 → Promise K c s (refused (refusal (facts_of K s) lacking c) c) s
  refuse z =
      record {
        lacking = lacking;
        exact = exact;
        number = refl;
        refused_answer = λ o. refl;
        refused_kept = λ o. refl;
        accepted_call = λ e. absurd (z e);
        lengths = refl;
        past = refl;
      }

  -- an accepted call does what is asked of it, inside the lent memory
  pub accept : {a : Answer} {t : K.Storage} → refusal (facts_of K s) lacking c ≡ 0 → form_of a ≡ form_of (refused 0 c) → Accepted K c s a t
      → K.lengths t ≡ K.lengths s → K.past (elements (settings_for K c s)) t ≡ K.past (elements (settings_for K c s)) s → Promise K c s a t
  accept {a} e form done lengths past =
      record {
        lacking = lacking;
        exact = exact;
        number = subst (λ (n : ℕ). form_of a ≡ form_of (refused n c)) (sym e) form;
        refused_answer = λ o. absurd (o e);
        refused_kept = λ o. absurd (o e);
        accepted_call = λ o. done;
        lengths = lengths;
        past = past;
      }
