-- A record's call, in the form in which a match has its word. Assumes nothing.
use mathlib.Core.Path.{◌≡◌, refl, sym, ◌∙◌, ap, ap₂, subst}
use mathlib.Core.List.{List}
use Prim.Native.Nat.{ℕ}
use Rattle.records.specs.declared.Word.{Word}
use Rattle.records.specs.declared.Word.TheVariants.{Reset, Read, Write, Mark, Back, Advance, Counts}
use Rattle.rules.specs.Sizing.{settings_of}
use Rattle.rules.specs.Call.{Call, Answer}
use Rattle.rules.specs.Call.Look.{COUNTS}
use Rattle.rules.specs.Call.Change.{WRITE, MARK, ROLLBACK, ADVANCE}
use Rattle.rules.specs.Call.Act.{READ, LOOK, CHANGE}
use Rattle.rules.specs.Call.Call.{RESET, ON}
use Rattle.store.specs.Shown.{StoreState, Lent, Kept, kept, Promises}
use Rattle.replies.specs.Calls.{nth, call_of}

-- The call of a word and its numbers, with what `outcome_reply` makes of the outcome.
module _ (w : Word) (ns : List ℕ) (s : Kept) (a b : Answer) (done state : StoreState) (m : Lent) where
  replied : (c : Call) → c ≡ call_of w ns → Promises c s a (kept done m) → state ≡ done → b ≡ a → Promises (call_of w ns) s b (kept state m)
  replied c e h d f =
      subst (λ (x : StoreState). Promises (call_of w ns) s b (kept x m)) (sym d)
      (subst (λ (x : Answer). Promises (call_of w ns) s x (kept done m)) (sym f) (subst (λ (x : Call). Promises x s a (kept done m)) e h))

  pub called-reset : (x y z : ℕ) → w ≡ Reset → x ≡ nth ns 0 → y ≡ nth ns 1 → z ≡ nth ns 2 → Promises (RESET (settings_of x y z)) s a (kept done m) → state ≡ done → b ≡ a → Promises (call_of w ns) s b (kept state m)
  unfolding call_of
  called-reset x y z e e0 e1 e2 h d f = replied (RESET (settings_of x y z)) ((ap (λ (p : ℕ). RESET (settings_of p y z)) e0 ∙ ap₂ (λ (p q : ℕ). RESET (settings_of (nth ns 0) p q)) e1 e2) ∙ ap (λ (v : Word). call_of v ns) (sym e)) h d f

  pub called-write : (x y z : ℕ) → w ≡ Write → x ≡ nth ns 0 → y ≡ nth ns 1 → z ≡ nth ns 2 → Promises (ON (CHANGE (WRITE x y z))) s a (kept done m) → state ≡ done → b ≡ a → Promises (call_of w ns) s b (kept state m)
  unfolding call_of
  called-write x y z e e0 e1 e2 h d f = replied (ON (CHANGE (WRITE x y z))) ((ap (λ (p : ℕ). ON (CHANGE (WRITE p y z))) e0 ∙ ap₂ (λ (p q : ℕ). ON (CHANGE (WRITE (nth ns 0) p q))) e1 e2) ∙ ap (λ (v : Word). call_of v ns) (sym e)) h d f

  pub called-mark : w ≡ Mark → Promises (ON (CHANGE MARK)) s a (kept done m) → state ≡ done → b ≡ a → Promises (call_of w ns) s b (kept state m)
  unfolding call_of
  called-mark e h d f = replied (ON (CHANGE MARK)) (refl ∙ ap (λ (v : Word). call_of v ns) (sym e)) h d f

  pub called-back : (x : ℕ) → w ≡ Back → x ≡ nth ns 0 → Promises (ON (CHANGE (ROLLBACK x))) s a (kept done m) → state ≡ done → b ≡ a → Promises (call_of w ns) s b (kept state m)
  unfolding call_of
  called-back x e e0 h d f = replied (ON (CHANGE (ROLLBACK x))) (ap (λ (p : ℕ). ON (CHANGE (ROLLBACK p))) e0 ∙ ap (λ (v : Word). call_of v ns) (sym e)) h d f

  pub called-advance : (x : ℕ) → w ≡ Advance → x ≡ nth ns 0 → Promises (ON (CHANGE (ADVANCE x))) s a (kept done m) → state ≡ done → b ≡ a → Promises (call_of w ns) s b (kept state m)
  unfolding call_of
  called-advance x e e0 h d f = replied (ON (CHANGE (ADVANCE x))) (ap (λ (p : ℕ). ON (CHANGE (ADVANCE p))) e0 ∙ ap (λ (v : Word). call_of v ns) (sym e)) h d f

-- The calls that give more than an outcome.
module _ (w : Word) (ns : List ℕ) (s : Kept) (a : Answer) (t : Kept) where
  pub called-read : (x y : ℕ) → w ≡ Read → x ≡ nth ns 0 → y ≡ nth ns 1 → Promises (ON (READ x y)) s a t → Promises (call_of w ns) s a t
  unfolding call_of
  called-read x y e e0 e1 h = subst (λ (c : Call). Promises c s a t) (ap₂ (λ (p q : ℕ). ON (READ p q)) e0 e1 ∙ ap (λ (v : Word). call_of v ns) (sym e)) h

  pub called-counts : w ≡ Counts → Promises (ON (LOOK COUNTS)) s a t → Promises (call_of w ns) s a t
  unfolding call_of
  called-counts e h = subst (λ (c : Call). Promises c s a t) (ap (λ (v : Word). call_of v ns) (sym e)) h
