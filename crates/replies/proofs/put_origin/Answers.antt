-- `replies::put_origin` meets its contract.
use Rattle.versions.specs.Newest.{origin_of}
use Rattle.replies.specs.Answers.{origin_text}
use Rattle.replies.proofs.put_origin.Goals as goal

pub returns-in-Cache : goal.returns-in-Cache
unfolding origin_text origin_of
returns-in-Cache c = rw c.in-Cache.is c.put.ensures

pub returns-in-Frame : goal.returns-in-Frame
unfolding origin_text origin_of
returns-in-Frame c = rw c.in-Frame.is c.put_number.ensures

pub returns-in-Archive : goal.returns-in-Archive
unfolding origin_text origin_of
returns-in-Archive c = rw c.in-Archive.is c.put-in-Archive.ensures

pub returns-in-Empty : goal.returns-in-Empty
unfolding origin_text origin_of
returns-in-Empty c = rw c.in-Empty.is c.put-in-Empty.ensures
