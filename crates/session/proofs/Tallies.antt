-- The tally, answer by answer. Assumes nothing.
use mathlib.Core.Path.{◌≡◌, refl, sym, ◌∙◌, ap, ap₂}
use mathlib.Core.Bool.{Bool, true, false, cond}
use mathlib.Core.List.{List}
use Prim.Native.Nat.{ℕ, zero, suc, ◌+◌, min}
use native.Mathlib.Omega.{arith}
use lib.Dec.{ltb, eqb}
use borrow.Author.Tests.{ltb-true, ltb-false, eq-eqb, ne_eqb}
use Rattle.rules.specs.Call.{Call, Answer, number_in}
use Rattle.tally.specs.declared.Tally.{Tally}
use Rattle.tally.specs.Counts.{most, one_more, tally_of, tally_after}
use Rattle.session.specs.Transcript.{Store, Running, counted}
use Rattle.session.specs.Running.{tally_on}

-- One more beside the true count.
more-min : (n k : ℕ) → n ≡ min most k → one_more n ≡ min most (suc k)
unfolding one_more
more-min n k e = go (ltb n most) refl
  where
    go : (b : Bool) → ltb n most ≡ b → cond b (n + 1) n ≡ min most (suc k)
    go true d = omega (arith, ltb-true n most d)
    go false d = omega (arith, ltb-false n most d)

abbrev ok_after : Running → Store → List Call → Running
ok_after x o cs = record { store = o; oks = suc x.oks; noes = x.noes; calls = cs }

abbrev no_after : Running → Store → List Call → Running
no_after x o cs = record { store = o; oks = x.oks; noes = suc x.noes; calls = cs }

module _ (t : Tally) (x : Running) (a : Answer) (o : Store) (cs : List Call) (q : t ≡ tally_on x) where
  oks-is : t.oks ≡ min most x.oks
  oks-is = ap (λ (s : Tally). s.oks) q

  noes-is : t.noes ≡ min most x.noes
  noes-is = ap (λ (s : Tally). s.noes) q

  -- The tally in code stays beside the transcript's.
  tally-ok : number_in a ≡ 0 → tally_after t 0 ≡ tally_on (counted a x o cs)
  unfolding tally_after counted
  tally-ok e =
      ap₂ tally_of (more-min t.oks x.oks oks-is) noes-is
      ∙ sym (ap (λ (b : Bool). tally_on (cond b (ok_after x o cs) (no_after x o cs))) (eq-eqb (number_in a) 0 e))

  tally-no : (n : ℕ) → number_in a ≡ suc n → tally_after t (suc n) ≡ tally_on (counted a x o cs)
  unfolding tally_after counted
  tally-no n e =
      ap (λ (b : Bool). cond b (tally_of (one_more t.oks) t.noes) (tally_of t.oks (one_more t.noes))) (ne_eqb (suc n) 0 (λ d. omega arith))
      ∙ (ap₂ tally_of oks-is (more-min t.noes x.noes noes-is)
      ∙ sym (ap (λ (b : Bool). tally_on (cond b (ok_after x o cs) (no_after x o cs))) (ne_eqb (number_in a) 0 (λ d. omega arith))))

  pub tally-next : (n : ℕ) → number_in a ≡ n → tally_after t n ≡ tally_on (counted a x o cs)
  tally-next zero e = tally-ok e
  tally-next (suc n) e = tally-no n e

pub counted-store : (a : Answer) (x : Running) (o : Store) (cs : List Call) → (counted a x o cs).store ≡ o
unfolding counted
counted-store a x o cs = go (eqb (number_in a) 0)
  where
    go : (b : Bool) → (cond b (ok_after x o cs) (no_after x o cs)).store ≡ o
    go true = refl
    go false = refl

pub counted-calls : (a : Answer) (x : Running) (o : Store) (cs : List Call) → (counted a x o cs).calls ≡ cs
unfolding counted
counted-calls a x o cs = go (eqb (number_in a) 0)
  where
    go : (b : Bool) → (cond b (ok_after x o cs) (no_after x o cs)).calls ≡ cs
    go true = refl
    go false = refl
