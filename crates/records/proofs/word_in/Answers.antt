-- `records::word_in` meets its contract: each word has its row. (That a field which is no word has none, the check finds by `no_row`.)
use mathlib.Core.Path.{refl}
use mathlib.Core.List.{[], ◌∷◌}
use borrow.Author.Rules.{rules}
use Rattle.records.specs.Records.{same_text, taken, seldom, rows, word_in}
use Rattle.records.proofs.Words.{word_is}
use Rattle.records.proofs.word_in.Goals as goal
use Rattle.records.proofs.word_in.Goals.{in-read, in-mark, in-back, in-write, in-reset, in-counts, in-advance}

pub returns : goal.returns
unfolding rows seldom taken word_in same_text
returns c =
    elim c.if-field-lt5.branch [
      | in-read w ↦ word_is c.args.field.now (114 ∷ 101 ∷ 97 ∷ 100 ∷ []) _ _ _ _ _ (search rules) w.word-is c.then_some.ensures refl
      | in-mark w ↦ word_is c.args.field.now (109 ∷ 97 ∷ 114 ∷ 107 ∷ []) _ _ _ _ _ (search rules) w.word-is c.then_some.ensures refl
      | in-back w ↦ word_is c.args.field.now (98 ∷ 97 ∷ 99 ∷ 107 ∷ []) _ _ _ _ _ (search rules) w.word-is c.then_some.ensures refl
      | in-write w ↦ word_is c.args.field.now (119 ∷ 114 ∷ 105 ∷ 116 ∷ 101 ∷ []) _ _ _ _ _ (search rules) w.word-is c.then_some.ensures refl
      | in-reset w ↦ word_is c.args.field.now (114 ∷ 101 ∷ 115 ∷ 101 ∷ 116 ∷ []) _ _ _ _ _ (search rules) w.word-is c.then_some.ensures refl
      | in-counts w ↦ word_is c.args.field.now (99 ∷ 111 ∷ 117 ∷ 110 ∷ 116 ∷ 115 ∷ []) _ _ _ _ _ (search rules) w.word-is c.then_some.ensures refl
      | in-advance w ↦ word_is c.args.field.now (97 ∷ 100 ∷ 118 ∷ 97 ∷ 110 ∷ 99 ∷ 101 ∷ []) _ _ _ _ _ (search rules) w.word-is c.then_some.ensures refl
    ]
