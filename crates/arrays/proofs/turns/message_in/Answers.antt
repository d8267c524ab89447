use mathlib.Core.Path.{refl}
use Rattle.session.specs.declared.session.Session.{Session}
use Rattle.messages.specs.Messages.{by_type}
use Rattle.arrays.proofs.TurnsLaws.{turn_open, turn_shut}
use Rattle.arrays.proofs.turns.message_in.Goals as goal

pub returns-then-not-image_sound : goal.returns-then-not-image_sound
returns-then-not-image_sound c =
    let a = c.args in
    turn_shut a.facts.now a.streams.now a.requests.now a.names.now 0 a.out.now (λ (z : Session). by_type z a.kind (record { 0 = a.stream }) a.timestamp a.clock a.body.now a.out.now) _ c.image_sound.ensures refl c.if-not-image_sound.true _ c.tell_quiet.ensures

pub returns : goal.returns
returns c =
    let a = c.args in
    turn_open a.facts.now a.streams.now a.requests.now a.names.now 0 a.out.now (λ (z : Session). by_type z a.kind (record { 0 = a.stream }) a.timestamp a.clock a.body.now a.out.now) _ c.image_sound.ensures c.if-not-image_sound.false _ c.by_type_in.ensures
