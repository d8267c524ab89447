use Rattle.std.proofs.Common.{◌≡◌, ℕ, ◌++◌, List, [], ◌∷◌, ◌+◌, ◌*◌, ◌≤◌, ◌<◌, arith, rules, suc, zero, refl, sym, ap, ◌∙◌, length, get_or, take, set, add-one}
use Rattle.input.specs.Digits.{digit_value, spelled}
use lib.Seq.{take-suc-set}
use Rattle.input.proofs.digits.spell.Goals as goal

abbrev byte_of : ℕ → ℕ → ℕ
byte_of x y = digit_value x * 16 + digit_value y

spelled_turn : (i k : ℕ) (digits : List ℕ) → k ≡ 2 * i → k + 2 ≤ length digits → spelled (take (suc (suc k)) digits) ≡ spelled (take k digits) ++ byte_of (get_or digits k 0) (get_or digits (suc k) 0) ∷ []
unfolding spelled
spelled_turn i k [] e h = absurd (omega (arith, h))
spelled_turn i k (x ∷ []) e h = absurd (omega (arith, h))
spelled_turn zero zero (x ∷ (y ∷ t)) e h = refl
spelled_turn zero (suc k) (x ∷ (y ∷ t)) e h = absurd (omega (arith, e))
spelled_turn (suc i) zero (x ∷ (y ∷ t)) e h = absurd (omega (arith, e))
spelled_turn (suc i) (suc zero) (x ∷ (y ∷ t)) e h = absurd (omega (arith, e))
spelled_turn (suc i) (suc (suc k)) (x ∷ (y ∷ t)) e h = ap (λ (l : List ℕ). byte_of x y ∷ l) (spelled_turn i k t (omega (arith, e)) (omega (arith, h)))

pub loop-i-init : goal.loop-i-init
unfolding spelled
loop-i-init c = (refl, refl)

one_turn : (i v : ℕ) (digits bytes : List ℕ) → 2 * i + 2 ≤ length digits → i < length bytes → spelled (take (2 * i) digits) ≡ take i bytes → v ≡ byte_of (get_or digits (2 * i) 0) (get_or digits (2 * i + 1) 0) → spelled (take (2 * (i + 1)) digits) ≡ take (i + 1) (set bytes i v)
one_turn i v digits bytes h k s w =
    let more : 2 * (i + 1) ≡ suc (suc (2 * i)) = omega arith in
    let behind : suc (2 * i) ≡ 2 * i + 1 = omega arith in
    ap (λ (n : ℕ). spelled (take n digits)) more
    ∙ spelled_turn i (2 * i) digits refl h
    ∙ (λ j. s j ++ byte_of (get_or digits (2 * i) 0) (get_or digits (behind j) 0) ∷ [])
    ∙ ap (λ (b : ℕ). take i bytes ++ b ∷ []) (sym w)
    ∙ sym (take-suc-set bytes i v k)
    ∙ ap (λ (n : ℕ). take n (set bytes i v)) (sym (add-one i))

pub loop-i-preserved : goal.loop-i-preserved
loop-i-preserved c =
    let l = c.loop-i in (
      search rules,
      one_turn l.i _ c.args.digits.now l.bytes (omega arith) (omega arith) l.invariant.1 (λ j. c.digit.ensures j * 16 + c.digit-in-loop-i.ensures j),
    )
