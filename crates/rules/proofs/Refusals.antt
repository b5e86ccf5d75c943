-- The refusals of the code: none has the number 0, which says that there is none, and `?` hands on what it was given. Assumes nothing.
use Rattle.std.proofs.Common.{ℕ, ◌≡◌, ◌≢◌, ap, Result, Ok, Err, arith}
use Rattle.std.specs.Result.{IsErrAnd}
use Rattle.rules.specs.declared.Refusal.{Refusal}
use Rattle.rules.specs.declared.Refusal.TheVariants as refusal
use Rattle.rules.specs.Refusals.{number, refusal_in}

pub number-some : (e : Refusal) → number e ≢ 0
number-some refusal.Settings = λ z. omega arith
number-some refusal.State = λ z. omega arith
number-some refusal.Memory = λ z. omega arith
number-some refusal.Width = λ z. omega arith
number-some refusal.Alignment = λ z. omega arith
number-some refusal.Place = λ z. omega arith
number-some refusal.Value = λ z. omega arith
number-some refusal.Frames = λ z. omega arith
number-some refusal.Full = λ z. omega arith
number-some refusal.Pages = λ z. omega arith
number-some refusal.Answers = λ z. omega arith

pub handed-on : {A : Type 0} (r : Result A Refusal) (e : Refusal) → IsErrAnd r (λ y. y ≡ e) → refusal_in r ≡ number e
handed-on (Ok a) e h = absurd h
handed-on (Err y) e h = ap number h

pub err-is : {A : Type 0} (r : Result A Refusal) (e : Refusal) → IsErrAnd r (λ y. y ≡ e) → r ≡ Err e
err-is (Ok a) e h = absurd h
err-is (Err y) e h = ap Err h
