-- `versions::zero` meets its contract.
use Rattle.std.proofs.Common.{◌≡◌, ℕ, zero, suc, ◌*◌, ◌≤◌, List, ◌∷◌, ◌++◌, length, get_or, drop, refl, sym, ap, ◌∙◌, arith}
use Rattle.std.proofs.Math.ListN.{set, replicate}
use Rattle.std.proofs.Math.Seq.{set-append_seam, drop-cons, length-take-le}
use Rattle.std.proofs.lemmas.List.{length-replicate}
use Rattle.lists.specs.Lists.{rewrite}
use Rattle.versions.specs.Steps.{zeroed}
use Rattle.versions.proofs.zero.Goals as goal

zeros-more : (n : ℕ) (xs : List ℕ) → replicate n 0 ++ (0 ∷ xs) ≡ replicate (suc n) 0 ++ xs
zeros-more zero xs = refl
zeros-more (suc n) xs = ap (λ (ys : List ℕ). 0 ∷ ys) (zeros-more n xs)

-- a list whose first n elements are 0, as the list rewritten
zeros-front : (n : ℕ) (xs : List ℕ) → n ≤ length xs → replicate n 0 ++ drop n xs ≡ rewrite n (λ _ b. 0) xs
unfolding rewrite
zeros-front zero xs h = refl
zeros-front (suc n) xs h =
    let before : rewrite n (λ _ b. 0) xs ≡ replicate n 0 ++ (get_or xs n 0 ∷ drop (suc n) xs) =
    sym (zeros-front n xs (omega arith)) ∙ ap (λ (ys : List ℕ). replicate n 0 ++ ys) (drop-cons xs n 0 (omega arith))
    in
    sym
    (ap (λ (ys : List ℕ). set ys n 0) before
    ∙ (ap (λ (k : ℕ). set (replicate n 0 ++ (get_or xs n 0 ∷ drop (suc n) xs)) k 0) (sym (length-replicate n 0))
    ∙ (set-append_seam (replicate n 0) (get_or xs n 0) (drop (suc n) xs) 0 ∙ zeros-more n (drop (suc n) xs))))

pub returns : goal.returns
unfolding zeroed
returns c =
    ap (λ (ys : List ℕ). ys ++ drop (16 * c.args.lines) c.args.archive.now) (c.fill.ensures.after (λ y h. h) ∙ ap (λ (k : ℕ). replicate k 0) (length-take-le (16 * c.args.lines) c.args.archive.now c.requires.1))
    ∙ zeros-front (16 * c.args.lines) c.args.archive.now c.requires.1
