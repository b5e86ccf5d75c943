-- Walks over the rollback history (request 2.2) as a table: the used entries from the oldest to the newest, the target, how many entries the
-- walk compares, and what it leaves.
use Rattle.std.specs.Prelude.{ℕ, List, [], ◌∷◌, length}
use Rattle.written.specs.Steps.{settled, compared, lowered}

pub record Walk : Type 0 where
  pub before : List ℕ
  pub target : ℕ
  pub number : ℕ
  pub after : List ℕ

abbrev row : (before : List ℕ) → (target number : ℕ) → (after : List ℕ) → Walk
row before target number after = record { before = before; target = target; number = number; after = after }

-- no rollback since the entry was made
abbrev no_bound : ℕ
no_bound = 65535

unfoldable pub walks : List Walk
walks =
    -- one tag in use
    row (no_bound ∷ []) 3 1 (3 ∷ [])
    -- an entry as deep as the target stops the walk and is counted, and older ones are not: rollbacks to one level
    ∷ row (3 ∷ no_bound ∷ []) 3 2 (3 ∷ 3 ∷ [])
    ∷ row (3 ∷ 3 ∷ 3 ∷ 3 ∷ no_bound ∷ []) 3 2 (3 ∷ 3 ∷ 3 ∷ 3 ∷ 3 ∷ [])
    -- a deeper one stops it likewise
    ∷ row (1 ∷ 2 ∷ no_bound ∷ []) 3 2 (1 ∷ 2 ∷ 3 ∷ [])
    -- past those that are less deep it goes on, to an equal one
    ∷ row (2 ∷ 3 ∷ 5 ∷ 9 ∷ no_bound ∷ []) 3 4 (2 ∷ 3 ∷ 3 ∷ 3 ∷ 3 ∷ [])
    -- to a deeper one
    ∷ row (1 ∷ 2 ∷ 5 ∷ 9 ∷ no_bound ∷ []) 3 4 (1 ∷ 2 ∷ 3 ∷ 3 ∷ 3 ∷ [])
    -- and to the bottom
    ∷ row (4 ∷ 5 ∷ 9 ∷ no_bound ∷ []) 3 4 (3 ∷ 3 ∷ 3 ∷ 3 ∷ [])
    -- a falling target, each rollback to one frame below the last: every entry is compared
    ∷ row (4 ∷ 4 ∷ 4 ∷ 4 ∷ no_bound ∷ []) 3 5 (3 ∷ 3 ∷ 3 ∷ 3 ∷ 3 ∷ [])
    -- a target that OMF has passed is the deepest: after an advance that collects 4 frames the rollbacks to 2 and to 4 are at 0
    ∷ row (lowered 4 (2 ∷ 4 ∷ 9 ∷ no_bound ∷ [])) 1 3 (0 ∷ 0 ∷ 1 ∷ 1 ∷ [])
    -- contents out of order: it stops all the same, and an older entry that is less deep stays
    ∷ row (9 ∷ 2 ∷ no_bound ∷ []) 3 2 (9 ∷ 2 ∷ 3 ∷ [])
    -- and at the newest entry
    ∷ row (9 ∷ 3 ∷ []) 3 1 (9 ∷ 3 ∷ [])
    ∷ []

-- A row with what the walk compares and leaves worked out.
unfoldable pub worked_out : Walk → Walk
worked_out w =
    let used = length w.before in
    row w.before w.target (compared w.target used w.before) (settled w.target used w.before)
