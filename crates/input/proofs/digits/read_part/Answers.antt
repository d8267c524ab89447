use Rattle.std.proofs.Common.{◌≡◌, ℕ, ◌++◌, List, ◌+◌, ◌*◌, arith, rules, sym, ◌∙◌, subst, length, take, drop, length-drop}
use Rattle.std.proofs.lemmas.List.{take-append-drop}
use Rattle.std.specs.Io.KnownBytes.{Consumes}
use lib.Seq.{take_all}
use Rattle.input.proofs.digits.read_part.Goals as goal

-- what was read is the digits, and what stands behind them
pub returns-clause-all : goal.returns-clause-all
returns-clause-all g c =
    let n : ℕ = 2 * length c.args.bytes.now in
    let read : List ℕ = c.read_full.new.buf in
    let long : length read ≡ n + c.args.behind = search rules in
    let all : take c.in_ok-read_full.field-0 read ≡ take n read ++ drop n read = take_all c.in_ok-read_full.field-0 read (omega (arith, long)) ∙ sym (take-append-drop n read) in
    λ _. (
      take n read,
      drop n read,
      subst (λ (t : List ℕ). Consumes (g.R.Read.remaining c.args.input.now) (g.R.Read.remaining c.read_full.new.input) t) all c.in_ok-read_full.ensures.bytes,
      sym c.spell.ensures,
      search rules,
      length-drop n read ∙ omega (arith, long),
    )
