use mathlib.Core.Path.{sym, ap, ◌∙◌}
use Rattle.std.specs.Prelude.{Option}
use Rattle.std.specs.Option.{is_some}
use Rattle.tables.specs.declared.requests.Request.{Request}
use Rattle.decisions.specs.Answers.{stream_stands}
use Rattle.calls.proofs.application.stream_stands.Goals as goal

-- said out loud, so that another stream is refused here
pub returns-in-Some : goal.returns-in-Some
returns-in-Some c = c.is_some.ensures ∙ ap is_some c.stream_at.ensures ∙ sym (ap (λ (w : Option Request). stream_stands c.args.session w) c.in-Some.is)
