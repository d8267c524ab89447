use native.Mathlib.Omega.{arith}
use mathlib.Core.List.{[]}
use borrow.Author.Tests.{ne_eqb}
use Rattle.session.specs.declared.session.Session.{Session}
use Rattle.replies.specs.Finishing.{finishing}
use Rattle.desks.specs.Asked.{decision_of}
use Rattle.arrays.proofs.TurnsLaws.{turn_open, turn_shut}
use Rattle.arrays.proofs.turns.answer_in.Goals as goal

pub returns-then-not-image_sound : goal.returns-then-not-image_sound
returns-then-not-image_sound c =
    let a = c.args in
    turn_shut a.facts.now a.streams.now a.requests.now a.names.now a.also a.out.now (λ (z : Session). finishing z (decision_of a.asked z a.code.now a.description.now []) a.code.now a.description.now a.clock a.out.now) _ c.image_sound.ensures (ne_eqb 15 a.also (λ e. omega (arith, e))) c.if-not-image_sound.true _ c.tell_quiet.ensures

pub returns : goal.returns
returns c =
    let a = c.args in
    turn_open a.facts.now a.streams.now a.requests.now a.names.now a.also a.out.now (λ (z : Session). finishing z (decision_of a.asked z a.code.now a.description.now []) a.code.now a.description.now a.clock a.out.now) _ c.image_sound.ensures c.if-not-image_sound.false _ c.conclude.ensures
