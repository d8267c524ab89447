use mathlib.Core.Path.{sym, ap, ◌∙◌}
use Prim.Native.Nat.{ℕ}
use Rattle.std.specs.Prelude.{leb}
use Rattle.entries.specs.Entries.{fields_good}
use Rattle.entries.specs.declared.kinds.Kind.{Kind}
use Rattle.entries.proofs.entry.fields_good.Goals as goal

-- said out loud, so that another limit is refused here
pub returns-in-Message : goal.returns-in-Message
returns-in-Message c = ap (λ (n : ℕ). leb n 65536) c.u32_at.ensures ∙ sym (ap (λ (k : Kind). fields_good k c.args.e.now) c.in-Message.is)
