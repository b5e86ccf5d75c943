-- Demand 3, as a statement about a kind of storage. proofs/Demand3.antt has its proof for every kind.
use Rattle.std.specs.Prelude.{◌≡◌, List, ℕ}
use Rattle.rules.specs.Settings.{Settings}
use Rattle.rules.specs.Call.{Call, Answer}
use Rattle.rules.specs.Call.Origin.{empty}
use Rattle.rules.specs.Call.Answer.{outcome, reading}
use Rattle.rules.specs.Call.Call.{RESET}
use Rattle.rules.specs.Plain.{Plain, Surviving, Each, fresh_model, answers_from}
use Rattle.rules.specs.Promise.{Kind, Promise, Run}

-- "For every list of calls on one store .., refused ones included, after an accepted reset on any state and lent contents": s is any
-- storage, t what an accepted RESET on it left, and the run any list of calls from there, further resets included. "the next call,
-- whichever it is, gives exactly the answer that document 01's plain store works out from the surviving history, the settings, the lent
-- lengths and the call alone. Only an accepted READ names the cache as origin instead, just where demand 2's cache, run over the same
-- list, holds its line and no later paper names another origin": the list of answers, as a whole, is the model's.
abbrev pub Demand3 : Kind → Type 0
Demand3 K =
    (s t u : K.Storage) (asked : Settings) (calls : List Call) (given : List Answer) → Promise K (RESET asked) s (outcome 0) t
    → Run K t calls given u → given ≡ answers_from (K.lengths s) (fresh_model asked) calls

-- "storage that meets it answers as some surviving history does", with the cache that it holds.
abbrev pub AnswersAsHistory : Kind → Type 0
AnswersAsHistory K =
    (s : K.Storage) → K.Well s
    → (p : Plain) × (p.settings ≡ (K.registers s).settings) × Surviving p
    × ((u : K.Storage) (calls : List Call) (given : List Answer) → Run K s calls given u
    → given ≡ answers_from (K.lengths s) (record { plain = p; cache = K.cache s }) calls)

-- "a read whose line no surviving write has touched gives value 0 and origin `e`" (request 2.3): an answer with that origin has value 0,
abbrev pub EmptyIsZero : Answer → Type 0
EmptyIsZero a = (n v : ℕ) → a ≡ reading n v empty → v ≡ 0

-- each one of every such list.
abbrev pub EmptyReadsZero : Kind → Type 0
EmptyReadsZero K =
    (s t u : K.Storage) (asked : Settings) (calls : List Call) (given : List Answer) → Promise K (RESET asked) s (outcome 0) t
    → Run K t calls given u → Each EmptyIsZero given
