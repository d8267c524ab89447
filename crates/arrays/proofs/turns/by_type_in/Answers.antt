use native.Mathlib.Omega.{arith}
use mathlib.Core.Path.{refl, ap, ◌∙◌}
use Rattle.std.specs.Prelude.{Some}
use Rattle.session.specs.declared.decision.Event.TheVariants.{AudioDataReceived, VideoDataReceived}
use Rattle.streams.specs.Streams.{frame_of}
use Rattle.replies.specs.Answers.{idle}
use Rattle.messages.specs.Messages.{frame_answer}
use Rattle.image.specs.Image.{Arrays, session_at}
use Rattle.arrays.specs.Turns.{turned}
use Rattle.arrays.proofs.TurnsLaws.{frame_stays, stays_told, type_audio, type_none, type_said, type_video}
use Rattle.arrays.proofs.turns.by_type_in.Goals as goal

pub returns-in-4 : goal.returns-in-4
returns-in-4 c =
    let a = c.args in
    let s = session_at a.facts.now a.streams.now a.requests.now a.names.now in
    let before : Arrays = (a.facts.now, (a.streams.now, (a.requests.now, a.names.now))) in
    c.conclude.ensures ∙ ap (turned 0 before) (type_said s a.kind a.stream a.timestamp a.clock a.body.now a.out.now c.in-4.is)

pub returns-in-8 : goal.returns-in-8
returns-in-8 c =
    let a = c.args in
    let s = session_at a.facts.now a.streams.now a.requests.now a.names.now in
    let before : Arrays = (a.facts.now, (a.streams.now, (a.requests.now, a.names.now))) in
    stays_told a.facts.now a.streams.now a.requests.now a.names.now c.types_say.ensures c.requires 0 a.out.now (frame_answer s (frame_of s a.stream (Some (AudioDataReceived a.timestamp)))) _ (frame_stays s _) c.tell_frame.ensures
    ∙ ap (turned 0 before) (type_audio s a.kind a.stream a.timestamp a.clock a.body.now a.out.now c.in-8.is)

pub returns-in-9 : goal.returns-in-9
returns-in-9 c =
    let a = c.args in
    let s = session_at a.facts.now a.streams.now a.requests.now a.names.now in
    let before : Arrays = (a.facts.now, (a.streams.now, (a.requests.now, a.names.now))) in
    stays_told a.facts.now a.streams.now a.requests.now a.names.now c.types_say.ensures c.requires 0 a.out.now (frame_answer s (frame_of s a.stream (Some (VideoDataReceived a.timestamp)))) _ (frame_stays s _) c.tell_frame-in-9.ensures
    ∙ ap (turned 0 before) (type_video s a.kind a.stream a.timestamp a.clock a.body.now a.out.now c.in-9.is)

pub returns-in_default : goal.returns-in_default
returns-in_default c =
    let a = c.args in
    let s = session_at a.facts.now a.streams.now a.requests.now a.names.now in
    let before : Arrays = (a.facts.now, (a.streams.now, (a.requests.now, a.names.now))) in
    stays_told a.facts.now a.streams.now a.requests.now a.names.now c.types_say.ensures c.requires 0 a.out.now (idle s 0) _ refl c.tell_quiet.ensures
    ∙ ap (turned 0 before) (type_none s a.kind a.stream a.timestamp a.clock a.body.now a.out.now (λ e. grind (arith, e)) (λ e. grind (arith, e)) (λ e. grind (arith, e)) (λ e. grind (arith, e)) (λ e. grind (arith, e)))
