-- The items of a block of writes, one after the other: what the code has at each turn, and the promise of the whole. Assumes nothing.
use mathlib.Core.Path.{◌≡◌, refl, sym, ◌∙◌, ap, ap₂, subst, subst₂}
use mathlib.Core.Logic.{◌≢◌}
use mathlib.Core.List.{List, [], ◌∷◌, ◌++◌}
use Prim.Native.Nat.{ℕ, ◌+◌, ◌/◌, ◌≤◌, ◌<◌}
use native.Mathlib.Numerals.{add-one}
use native.Mathlib.Omega.{arith}
use borrow.Author.Tests.{leb-true}
use lib.Dec.{leb}
use lib.ListN.{length, take, drop, set, length-set, take-append-drop}
use lib.Seq.{take_all, take-suc-set, drop-set-lt, drop-drop, length-take-le}
use Rattle.rules.specs.Settings.{Pieces}
use Rattle.rules.specs.Call.{Write, filled, refused}
use Rattle.rules.specs.Call.Answer.{filling}
use Rattle.rules.specs.Call.Call.{WRITE_BLOCK}
use Rattle.rules.specs.Registers as rules
use Rattle.rules.specs.Refusal.{list_refusal, refusal, facts_by, lacks}
use Rattle.rules.specs.Promise.{RunBy, Promise, seen_of}
use Rattle.rules.specs.Promise.RunBy.{stop}
use Rattle.rules.proofs.Chain.{passed}
use Rattle.rules.proofs.WriteBlock.{run_more, run_by, write-registers, write-block-accept}
use Rattle.storage.specs.Storage.{Storage, settings_in, registers_in, lengths_in, store}
use Rattle.storage.specs.Admit.{admitted}
use Rattle.storage.specs.Clauses.{WritesItem, WritesItems, WritesBlock}
use Rattle.storage.proofs.Chains.{admitted-rest}
use Rattle.storage.proofs.Looking.{admitted_in, told_in, turned_down}
use Rattle.write_blocks.specs.Items.{items_of, item_at}
use Rattle.write_blocks.proofs.Items.{items-count, items-next}

-- A WRITE leaves the registers and the lengths, so the next item is past 5 and 6 too.
write-admits : (x t : Storage) (w : Write) (n : ℕ) → WritesItem x w n t → admitted_in x 0 ≡ 0 → admitted_in t 0 ≡ 0
write-admits x t w n h z =
    ap₂ (λ (r : rules.Registers) (p : Pieces). admitted r p 0) (write-registers store x t w _ h.0) h.0.lengths ∙ z

-- A block let in: every item is past 5 and 6, and each has its answer.
items-let-in : (x : Storage) (items room : ℕ) → admitted_in x (list_refusal items room) ≡ 0 → (admitted_in x 0 ≡ 0) × (items ≤ room)
unfolding list_refusal
items-let-in x items room z =
    let none : list_refusal items room ≡ 0 = admitted-rest (registers_in x.state) (lengths_in x.memory) 0 (list_refusal items room) (sym z) refl in
    (ap (admitted_in x) (sym none) ∙ z, leb-true items room (passed (leb items room) 14 0 (omega arith) none).0)

-- The storage and the answers after i items of a block that was let in.
pub record Doing (x : Storage) (flat list : List ℕ) (i : ℕ) (now : Storage) (answers : List ℕ) : Type 0 where
  pub block : admitted_in x (list_refusal (length flat / 3) (length list)) ≡ 0
  pub few : i ≤ length flat / 3
  pub fits : length flat / 3 ≤ length list
  pub each : RunBy WritesItem x (take i (items_of flat)) (take i answers) now
  pub rest : drop i answers ≡ drop i list
  pub long : length answers ≡ length list
  pub admits : admitted_in now 0 ≡ 0
  pub lengths : lengths_in now.memory ≡ lengths_in x.memory

module _ (x : Storage) (flat list : List ℕ) where
  -- Refused,
  pub write-block-refused : (r : ℕ) (p : Pieces) → p ≡ lengths_in x.memory → r ≡ admitted (registers_in x.state) p (list_refusal (length flat / 3) (length list)) → r ≢ 0
      → WritesBlock x (items_of flat) list r list x
  unfolding refusal facts_by refused
  write-block-refused r p are given z = (
    turned_down x (WRITE_BLOCK (items_of flat) list) r
        (told_in x (list_refusal (length flat / 3) (length list)) r p are given ∙ ap (λ (n : ℕ). admitted_in x (list_refusal n (length list))) (sym (items-count flat))) z,
    λ e. absurd (z e),
  )

  -- let in,
  pub doing-start : (r : ℕ) (p : Pieces) → p ≡ lengths_in x.memory → r ≡ admitted (registers_in x.state) p (list_refusal (length flat / 3) (length list)) → r ≡ 0
      → Doing x flat list 0 x list
  doing-start r p are given z =
      let block : admitted_in x (list_refusal (length flat / 3) (length list)) ≡ 0 = sym (told_in x (list_refusal (length flat / 3) (length list)) r p are given) ∙ z in
      let each = items-let-in x (length flat / 3) (length list) block in
      record { block = block; few = omega arith; fits = each.1; each = stop; rest = refl; long = refl; admits = each.0; lengths = refl }

  -- an item done,
  pub doing-next : (i n : ℕ) (now t : Storage) (answers : List ℕ) (w : Write) → Doing x flat list i now answers → i < length flat / 3 → w ≡ item_at flat i
      → WritesItem now w n t → Doing x flat list (i + 1) t (set answers i n)
  doing-next i n now t answers w d b e h =
      record {
        block = d.block;
        few = omega arith;
        fits = d.fits;
        each =
            subst₂ (λ (ws : List Write) (ns : List ℕ). RunBy WritesItem x ws ns t)
            (ap (λ (y : Write). take i (items_of flat) ++ (y ∷ [])) e ∙ sym (items-next flat i (omega (arith, items-count flat))))
            (sym (ap (λ (k : ℕ). take k (set answers i n)) (add-one i) ∙ take-suc-set answers i n (omega (arith, d.long, d.fits)))) (run_more d.each h);
        rest = drop-set-lt (i + 1) answers i n (omega arith) ∙ next-rest;
        long = length-set answers i n ∙ d.long;
        admits = write-admits now t w n h d.admits;
        lengths = h.0.lengths ∙ d.lengths;
      }
    where
      next-rest : drop (i + 1) answers ≡ drop (i + 1) list
      next-rest = sym (drop-drop 1 i answers) ∙ (ap (drop 1) d.rest ∙ drop-drop 1 i list)

  -- and all of them.
  module _ (i : ℕ) (t : Storage) (answers : List ℕ) (d : Doing x flat list i t answers) (b : length flat / 3 ≤ i) where
    all_done : WritesItems x (items_of flat) list answers t
    unfolding filled
    all_done =
        record {
          refusals = take i answers;
          each = subst (λ (ws : List Write). RunBy WritesItem x ws (take i answers) t) (take_all i (items_of flat) (omega (arith, items-count flat))) d.each;
          left_is =
              sym (take-append-drop i answers)
              ∙ (ap (λ (ns : List ℕ). take i answers ++ ns) d.rest
              ∙ ap (λ (k : ℕ). take i answers ++ drop k list) (sym (length-take-le i answers (omega (arith, d.few, d.fits, d.long)))));
        }

    pub write-block-done : WritesBlock x (items_of flat) list 0 answers t
    unfolding refusal facts_by
    write-block-done = (
      subst (λ (xs : List ℕ). Promise store (WRITE_BLOCK (items_of flat) list) x (filling 0 xs) t) (sym all_done.left_is)
          (write-block-accept store x t (items_of flat) list all_done.refusals (lacks (settings_in x.state) (seen_of store x))
          (ap (λ (n : ℕ). admitted_in x (list_refusal n (length list))) (items-count flat) ∙ d.block) (run_by (λ y w n u h. h.0) all_done.each)),
      λ e. all_done,
    )
