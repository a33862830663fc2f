-- What the tape may change in an answer.
use Rattle.pdn_query.specs.Answering.{SameOnTapes}

pub same_on_tapes : SameOnTapes
same_on_tapes tape other kept_a kept_b s number ticket query text is = record { taken = is.taken; printed = is.printed }
