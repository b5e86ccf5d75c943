-- `border::origin_number` meets its contract.
use mathlib.Core.Path.{refl}
use Rattle.versions.specs.Newest.{origin_of}
use Rattle.border.specs.Answers.{origin_number}
use Rattle.border.proofs.origin_number.Goals as goal

pub returns-in-Cache : goal.returns-in-Cache
unfolding origin_number origin_of
returns-in-Cache c = rw c.in-Cache.is refl

pub returns-in-Frame : goal.returns-in-Frame
unfolding origin_number origin_of
returns-in-Frame c = rw c.in-Frame.is refl

pub returns-in-Archive : goal.returns-in-Archive
unfolding origin_number origin_of
returns-in-Archive c = rw c.in-Archive.is refl

pub returns-in-Empty : goal.returns-in-Empty
unfolding origin_number origin_of
returns-in-Empty c = rw c.in-Empty.is refl
