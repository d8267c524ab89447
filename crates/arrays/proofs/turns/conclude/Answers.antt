use Rattle.image.specs.Image.{session_at}
use Rattle.desks.specs.Asked.{decision_of}
use Rattle.arrays.proofs.TurnsLaws.{concluded, concluded_full}
use Rattle.arrays.proofs.turns.conclude.Goals as goal

pub returns-in_default : goal.returns-in_default
returns-in_default c =
    let a = c.args in
    let s = session_at a.facts.now a.streams.now a.requests.now a.names.now in
    concluded_full a.facts.now a.streams.now a.requests.now a.names.now c.types_say.ensures c.requires a.also (decision_of a.asked s a.code.now a.description.now a.body.now) _ c.decision_in-decision.ensures a.code.now a.description.now a.clock a.out.now _ _ c.reply_in.ensures c.in_default.is _ c.tell_quiet.ensures

pub returns : goal.returns
returns c =
    let a = c.args in
    let s = session_at a.facts.now a.streams.now a.requests.now a.names.now in
    concluded a.facts.now a.streams.now a.requests.now a.names.now c.types_say.ensures c.requires a.also (decision_of a.asked s a.code.now a.description.now a.body.now) _ c.decision_in-decision.ensures a.code.now a.description.now a.clock a.out.now _ _ c.reply_in.ensures c.in-Some.count c.in-Some.is _ c.keep.ensures _ c.tell_decision.ensures
