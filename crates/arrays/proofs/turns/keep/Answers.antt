use Rattle.arrays.proofs.TurnsLaws.{kept_new, kept_old}
use Rattle.arrays.proofs.turns.keep.Goals as goal

pub returns-then-keeps_session : goal.returns-then-keeps_session
returns-then-keeps_session c = let a = c.args in kept_new a.facts.now a.streams.now a.requests.now a.names.now c.types_say.ensures c.requires a.also a.outcome a.change _ c.number_of.ensures _ c.keeps_session.ensures c.if-keeps_session.true _ c.apply_in.ensures

pub returns-else-keeps_session : goal.returns-else-keeps_session
returns-else-keeps_session c = let a = c.args in kept_old a.facts.now a.streams.now a.requests.now a.names.now c.types_say.ensures c.requires a.also a.outcome a.change _ c.number_of.ensures _ c.keeps_session.ensures c.if-keeps_session.false
