use mathlib.Core.Path.{sym, ◌∙◌}
use native.Mathlib.Omega.{arith}
use Rattle.numbers.proofs.FieldsLaws.{front_two, lent_part, over_zero}
use Rattle.record.specs.Records.{play_data}
use Rattle.answers.proofs.SendingLaws.{length_sample}
use Rattle.answers.proofs.answers.write_play_data.Goals as goal

pub returns : goal.returns
unfolding play_data
returns c = front_two 37 _ _ _ _ _ (c.write_sample_access.ensures ∙ sym (over_zero _ _)) (lent_part _ _ _ 37 c.write_data_started.ensures (omega arith)) (length_sample _ _) (omega arith)
