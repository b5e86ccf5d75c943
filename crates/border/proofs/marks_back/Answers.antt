-- `border::marks_back` meets its contract.
use mathlib.Core.Path.{refl}
use Rattle.versions.specs.Newest.{origin_of}
use Rattle.border.specs.Answers.{marks_back}
use Rattle.border.proofs.marks_back.Goals as goal

pub returns-in-Cache : goal.returns-in-Cache
unfolding marks_back origin_of
returns-in-Cache c = rw c.in-Cache.is refl

pub returns-in-Frame : goal.returns-in-Frame
unfolding marks_back origin_of
returns-in-Frame c = rw c.in-Frame.is refl

pub returns-in-Archive : goal.returns-in-Archive
unfolding marks_back origin_of
returns-in-Archive c = rw c.in-Archive.is refl

pub returns-in-Empty : goal.returns-in-Empty
unfolding marks_back origin_of
returns-in-Empty c = rw c.in-Empty.is refl
