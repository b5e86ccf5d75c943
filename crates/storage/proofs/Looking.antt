-- Refused calls keep their promise, and so does LINE's companion, which looks and changes nothing. Assumes nothing.
use mathlib.Core.Path.{◌≡◌, refl, sym, ◌∙◌, ap, subst}
use mathlib.Core.Logic.{◌≢◌}
use Prim.Native.Nat.{ℕ}
use native.Mathlib.Decide.{ℕ_discrete}
use Rattle.rules.specs.Settings.{Pieces, elements}
use Rattle.rules.specs.Call.{Call, Answer, refused}
use Rattle.rules.specs.Call.Answer.{outcome}
use Rattle.rules.specs.Call.Look.{LINE_REFUSAL}
use Rattle.rules.specs.Call.Act.{LOOK}
use Rattle.rules.specs.Call.Call.{ON}
use Rattle.rules.specs.Seen.{accepted}
use Rattle.rules.specs.Refusal.{refusal, act_refusal, lacks, line_refusal, facts_by}
use Rattle.rules.specs.Promise.{form_of, Promise, Accepted, settings_for, facts_of, seen_of}
use Rattle.rules.proofs.Promise.{refuse, accept}
use Rattle.storage.specs.Storage.{Storage, settings_in, registers_in, lengths_in, store}
use Rattle.storage.specs.Admit.{admitted}

-- The refusal of a call, by the storage alone.
abbrev pub refusal_of : Storage → Call → ℕ
refusal_of x c = refusal (facts_of store x) (lacks (settings_in x.state) (seen_of store x)) c

-- 5 and 6 before the rest of a chain, as the code has them.
abbrev pub admitted_in : Storage → (rest : ℕ) → ℕ
admitted_in x rest = admitted (registers_in x.state) (lengths_in x.memory) rest

-- What the tests told of the lengths measured, they told of the storage.
pub told_in : (x : Storage) (rest r : ℕ) (p : Pieces) → p ≡ lengths_in x.memory → r ≡ admitted (registers_in x.state) p rest → r ≡ admitted_in x rest
told_in x rest r p are given = given ∙ ap (λ (m : Pieces). admitted (registers_in x.state) m rest) are

module _ (x : Storage) (c : Call) (r : ℕ) (told : r ≡ refusal_of x c) where
  pub turned_down : r ≢ 0 → Promise store c x (refused r c) x
  turned_down z = subst (λ (n : ℕ). Promise store c x (refused n c) x) (sym told) (refuse store c x _ (λ q. refl) (λ d. z (told ∙ d)))

  pub let_through : r ≡ 0 → {a : Answer} {t : Storage} → form_of a ≡ form_of (refused 0 c) → Accepted store c x a t → store.lengths t ≡ store.lengths x
      → store.past (elements (settings_for store c x)) t ≡ store.past (elements (settings_for store c x)) x → Promise store c x a t
  let_through z form step long past = accept store c x _ (λ q. refl) (sym told ∙ z) form step long past

-- LINE's companion
pub companion : (x : Storage) (l r : ℕ) (p : Pieces) → p ≡ lengths_in x.memory → r ≡ admitted (registers_in x.state) p (line_refusal (settings_in x.state) l)
    → Promise store (ON (LOOK (LINE_REFUSAL l))) x (outcome r) x
unfolding refusal act_refusal facts_by refused accepted
companion x l r p are given = go (ℕ_discrete r 0)
  where
    told : r ≡ admitted_in x (line_refusal (settings_in x.state) l)
    told = told_in x (line_refusal (settings_in x.state) l) r p are given

    go : Dec (r ≡ 0) → Promise store (ON (LOOK (LINE_REFUSAL l))) x (outcome r) x
    go (yes z) =
        subst (λ (n : ℕ). Promise store (ON (LOOK (LINE_REFUSAL l))) x (outcome n) x) (sym z)
        (let_through x (ON (LOOK (LINE_REFUSAL l))) r told z refl (record { kept = refl; answer = λ q. refl }) refl refl)
    go (no z) = turned_down x (ON (LOOK (LINE_REFUSAL l))) r told z
