-- Reads one after the other. Assumes nothing.
use mathlib.Core.Path.{◌≡◌, refl, sym, ◌∙◌, ap, subst}
use mathlib.Core.List.{[], ◌++◌, append_assoc}
use lib.ListN.{length, drop}
use Rattle.std.specs.Prelude.{Option, Some, None, Result, Ok}
use Rattle.text.specs.Parts.{Text}
use Rattle.store.specs.Shown.{Lent, lengths_of}
use Rattle.session.specs.declared.Runner.{Runner}
use Rattle.session.specs.Transcript.{beginning}
use Rattle.session.specs.Running.{StandsFor, Feeds}
use Rattle.session.specs.Running.Feeds.{stop, next}
use Rattle.runner.specs.Reading.{Reads, ReadsAll}

-- One input fed, and then another.
pub feeds-more : {r s t : Runner} {m n o : Lent} {input said input' said' : Text} → Feeds r m input said s n → Feeds s n input' said' t o
    → Feeds r m (input ++ input') (said ++ said') t o
feeds-more stop f = f
feeds-more {r = r} {t = t} {m = m} {o = o} {input' = input'} {said' = said'} (next {s = mid} {n = left} {used = used} chunk rest {later = later} w run) f =
    subst (λ (i : Text). Feeds r m i ((w.said ++ later) ++ said') t o) (sym (append_assoc chunk rest input'))
    (subst (λ (i : Text). Feeds r m (chunk ++ (rest ++ input')) i t o) (sym (append_assoc w.said later said'))
    (next chunk (rest ++ input') w (subst (λ (i : Text). Feeds mid left i (later ++ said') t o) (append_assoc (drop used chunk) rest input') (feeds-more run f))))

-- A read that was interrupted fed nothing.
pub reads-interrupted : {E : Type 0} (r : Runner) (m : Lent) → Reads {E = E} r m (Ok (Some r)) m
reads-interrupted r m = record { lengths = refl; went = ([], [], stop) }

-- The runner after some reads.
pub record Underway (r : Runner) (m : Lent) (first : Text) (s : Runner) (n : Lent) (out : Text) : Type 0 where
  pub lengths : lengths_of n ≡ lengths_of m
  pub same_room : length out ≡ length first
  pub fed : (input : Text) × (said : Text) × Feeds r m input said s n

pub underway-start : (r : Runner) (m : Lent) (out : Text) → Underway r m out r m out
underway-start r m out = record { lengths = refl; same_room = refl; fed = ([], [], stop) }

module _ {E : Type 0} {r : Runner} {m : Lent} {first : Text} {s : Runner} {n : Lent} {out : Text} (u : Underway r m first s n out) {result : Result (Option Runner) E} {o : Lent}
    (k : Reads s n result o) where
  read-as : (x : Option Runner) {read : Option Runner} → result ≡ Ok read → read ≡ x → Reads {E = E} s n (Ok x) o
  read-as x e f = subst (λ (y : Result (Option Runner) E). Reads {E = E} s n y o) (e ∙ ap Ok f) k

  pub underway-next : {read : Option Runner} {t : Runner} (after : Text) → result ≡ Ok read → read ≡ Some t → length after ≡ length out → Underway r m first t o after
  underway-next {t = t} after e f same =
      let g = read-as (Some t) e f in
      record {
        lengths = g.lengths ∙ u.lengths;
        same_room = same ∙ u.same_room;
        fed = (u.fed.0 ++ g.went.0, u.fed.1 ++ g.went.1, feeds-more u.fed.2 g.went.2);
      }

  pub reads_all : {read : Option Runner} → result ≡ Ok read → read ≡ None → StandsFor r m beginning [] → ReadsAll {E = E} m (Ok (Some s)) o
  reads_all e f q =
      let g = read-as None e f in
      record {
        lengths = g.lengths ∙ u.lengths;
        fed = (r, q, u.fed.0, u.fed.1, subst (λ (x : Lent). Feeds r m u.fed.0 u.fed.1 s x) (sym g.went) u.fed.2);
      }
