-- COUNTS keeps its promise. Assumes nothing.
use mathlib.Core.Path.{◌≡◌, refl, sym, ◌∙◌, ap₂}
use mathlib.Core.Logic.{◌≢◌}
use mathlib.Core.Bool.{Bool, true, false, cond, ◌&&◌}
use mathlib.Core.Option.{none, some}
use Prim.Native.Nat.{ℕ, zero, suc, ◌+◌, ◌-◌, ◌*◌, ◌/◌, ◌<◌, min}
use native.Mathlib.Omega.{arith}
use borrow.Author.Tests.{lt-ltb}
use Rattle.rules.specs.Settings.{Pieces}
use Rattle.rules.specs.Line.{Line}
use Rattle.rules.specs.Call.{refused}
use Rattle.rules.specs.Call.Answer.{counting}
use Rattle.rules.specs.Call.Look.{COUNTS}
use Rattle.rules.specs.Call.Act.{LOOK}
use Rattle.rules.specs.Call.Call.{ON}
use Rattle.rules.specs.Seen.{accepted, needs}
use Rattle.rules.specs.Refusal.{refusal, act_refusal, facts_by}
use Rattle.rules.specs.Figure2.{pages_of, is_written, figure_seen}
use Rattle.rules.specs.Promise.{Promise, seen_of}
use Rattle.rules.proofs.Count.{any_same, count_same}
use Rattle.written.specs.Bits.{effective}
use Rattle.pages.proofs.Moves.{segment-count}
use Rattle.pages.proofs.Counting.{needed-pages}
use Rattle.storage.specs.Storage.{Storage, registers_in, lengths_in, live_in, written_in, frame_in, version_at, WellStore, store}
use Rattle.storage.specs.Admit.{admitted}
use Rattle.storage.proofs.Rings.{used-same}
use Rattle.storage.proofs.Limits.{limits}
use Rattle.storage.proofs.Looking.{admitted_in, told_in, turned_down, let_through}

-- Pages are counted by the lines below L alone.
pages-alike : (lines n : ℕ) (v w : ℕ → ℕ → Bool) → ((j l : ℕ) → j < n → l < lines → v j l ≡ w j l) → pages_of (lines / 8) n v ≡ pages_of (lines / 8) n w
unfolding pages_of needs
pages-alike lines zero v w h = refl
pages-alike lines (suc n) v w h =
    ap₂ (λ (x y : ℕ). x + y)
    (count_same (lines / 8) _ _ (λ b c. any_same 8 _ _ (λ i d. h 0 (b * 8 + i) (omega arith) (omega arith))))
    (pages-alike lines n (λ j. v (suc j)) (λ j. w (suc j)) (λ j l b c. h (suc j) l (omega arith) c))

pub written-effective : (x : Storage) (j l : ℕ) → j < live_in x.state → l < x.state.registers.lines
    → effective (written_in x) (live_in x.state - 1 - j) l ≡ is_written (frame_in x j l)
unfolding frame_in is_written
written-effective x j l b c =
    sym (ap₂ (λ (s t : Bool). is_written (cond (s && (t && effective (written_in x) (live_in x.state - 1 - j) l)) (some (version_at x (live_in x.state - 1 - j) l)) none))
    (lt-ltb j (live_in x.state) b) (lt-ltb l x.state.registers.lines c)
    ∙ set (effective (written_in x) (live_in x.state - 1 - j) l) (version_at x (live_in x.state - 1 - j) l))
  where
    set : (e : Bool) (v : Line) → is_written (cond e (some v) none) ≡ e
    set true v = refl
    set false v = refl

-- As many pages are in use as Figure 2 needs.
pub pages-counted : (x : Storage) → WellStore x → x.state.registers.used ≡ (seen_of store x).pages
unfolding seen_of figure_seen
pages-counted x q =
    segment-count q.pages
    ∙ (needed-pages (written_in x) x.state.registers.tag (live_in x.state) q.bits (limits x q.fits).live_most
    ∙ pages-alike x.state.registers.lines (live_in x.state) _ _ (written-effective x))

module _ (x : Storage) (a : ℕ) (p : Pieces) (are : p ≡ lengths_in x.memory) (given : a ≡ admitted (registers_in x.state) p 0) where
  told : a ≡ admitted_in x 0
  told = told_in x 0 a p are given

  pub counts-refused : a ≢ 0 → Promise store (ON (LOOK COUNTS)) x (counting a 0 0) x
  unfolding refusal act_refusal facts_by refused
  counts-refused z = turned_down x (ON (LOOK COUNTS)) a told z

  pub counts-told : a ≡ 0 → (live pages : ℕ) → live ≡ live_in x.state → pages ≡ min x.state.registers.used x.state.registers.pages
      → Promise store (ON (LOOK COUNTS)) x (counting 0 live pages) x
  unfolding refusal act_refusal facts_by refused accepted seen_of figure_seen
  counts-told z live pages el ep =
      let_through x (ON (LOOK COUNTS)) a told z refl
      (record { kept = refl; answer = λ q. ap₂ (λ (m n : ℕ). counting 0 m n) el (ep ∙ (used-same x.state.registers.used x.state.registers.pages q.pages.used_few ∙ pages-counted x q)) }) refl refl
