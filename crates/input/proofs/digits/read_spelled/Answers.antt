use Rattle.std.proofs.Common.{◌≡◌, ℕ, ◌++◌, List, [], ◌∷◌, ◌+◌, ◌-◌, ◌*◌, ◌≤◌, Bool, IfOk, Result, Ok, Err, arith, rules, suc, zero, refl, sym, ap, ◌∙◌, subst, length, get_or, take, length-append, length-take-le, append-nil}
use Rattle.std.proofs.Math.Seq.{take-append-add, take-append_seam}
use Rattle.std.proofs.lemmas.List.{append_assoc}
use Rattle.std.proofs.KnownBytes.{Consumes-trans, Consumes-nil}
use Rattle.std.specs.Io.KnownBytes.{Consumes}
use Rattle.input.specs.Digits.{digit_value, spelled}
use borrow.Rule.Slice.PartMut.{put_mid, post_of}
use lib.Seq.{take_all}
use Rattle.input.proofs.digits.read_spelled.Goals as goal

spelled_more : (k : ℕ) (digits more : List ℕ) → length digits ≡ 2 * k → spelled (digits ++ more) ≡ spelled digits ++ spelled more
unfolding spelled
spelled_more k [] more h = refl
spelled_more zero (x ∷ digits) more h = absurd (omega (arith, h))
spelled_more (suc k) (x ∷ []) more h = absurd (omega (arith, h))
spelled_more (suc k) (x ∷ (y ∷ digits)) more h = ap (λ (t : List ℕ). (digit_value x * 16 + digit_value y) ∷ t) (spelled_more k digits more (omega (arith, h)))

-- up to the end of the part that was written over
front_of_part : (a k : ℕ) (xs ys : List ℕ) → a ≤ length xs → take (a + length ys) (put_mid a k xs ys) ≡ take a xs ++ ys
front_of_part a k xs ys within =
    ap (λ (n : ℕ). take (n + length ys) (put_mid a k xs ys)) (sym (length-take-le a xs within))
    ∙ take-append-add (take a xs) (ys ++ post_of a k xs) (length ys)
    ∙ ap (λ (t : List ℕ). take a xs ++ t) (take-append_seam ys (post_of a k xs))

none_behind : (digits behind : List ℕ) → length behind ≡ 0 → digits ++ behind ≡ digits
none_behind digits [] h = append-nil digits
none_behind digits (x ∷ t) h = absurd (omega (arith, h))

one_behind : (a b behind : List ℕ) → length behind ≡ 1 → a ++ (b ++ behind) ≡ (a ++ b) ++ get_or behind 0 0 ∷ []
one_behind a b [] h = absurd (omega (arith, h))
one_behind a b (x ∷ []) h = sym (append_assoc a b (x ∷ []))
one_behind a b (x ∷ (y ∷ t)) h = absurd (omega (arith, h))

if_ok : {E : Type 0} (r : Result Bool E) (P Q : Bool → Type 0) → ((there : Bool) → P there → Q there) → IfOk r P → IfOk r Q
if_ok (Ok there) P Q f h = f there h
if_ok (Err e) P Q f h = h

pub loop-bytes-init : goal.loop-bytes-init
unfolding spelled
loop-bytes-init g c = record { same_length = refl; in_bounds = search rules; read = ([], (Consumes-nil _, (refl, refl))) }

pub loop-bytes-preserved : goal.loop-bytes-preserved
loop-bytes-preserved g c =
    let l = c.loop-bytes in
    let before = l.invariant.read in
    let part = c.in_ok-read_part.ensures.all c.if-not-branch.false in
    let new : List ℕ = c.read_part.new.bytes in
    let long : length new ≡ 4200 = search rules in
    let k : ℕ = (l.done + 4200) - l.done in
    record {
      same_length = search rules;
      in_bounds = search rules;
      read = (
        before.0 ++ part.0,
        (
          Consumes-trans _ _ _ _ _ before.1.0 (subst (λ (t : List ℕ). Consumes (g.R.Read.remaining l.input) (g.R.Read.remaining c.read_part.new.input) t) (none_behind part.0 part.1 part.5) part.2),
          (
            omega (arith, length-append before.0 part.0, before.1.1.0, part.4, long),
            spelled_more l.done before.0 part.0 before.1.1.0
                ∙ (λ j. before.1.1.1 j ++ part.3 j)
                ∙ sym (front_of_part l.done k l.bytes new l.invariant.in_bounds)
                ∙ ap (λ (n : ℕ). take (l.done + n) (put_mid l.done k l.bytes new)) long,
          ),
        ),
      );
    }

pub returns-clause-all : goal.returns-clause-all
returns-clause-all g c =
    let l = c.loop-bytes in
    let before = l.invariant.read in
    let new : List ℕ = c.read_part-2.new.bytes in
    let k : ℕ = length l.bytes - l.done in
    let long : length new ≡ k = search rules in
    let same : length (put_mid l.done k l.bytes new) ≡ length l.bytes = search rules in
    let whole : take l.done l.bytes ++ new ≡ put_mid l.done k l.bytes new =
    sym (front_of_part l.done k l.bytes new l.invariant.in_bounds) ∙ take_all (l.done + length new) (put_mid l.done k l.bytes new) (omega (arith, same, long, l.invariant.in_bounds)) in
    if_ok c.read_part-2.result _ _ (λ there h. λ e.
    let part = h e in (
      before.0 ++ part.0,
      get_or part.1 0 0,
      subst (λ (t : List ℕ). Consumes (g.R.Read.remaining c.args.input.now) (g.R.Read.remaining c.read_part-2.new.input) t) (one_behind before.0 part.0 part.1 part.5) (Consumes-trans _ _ _ _ _ before.1.0 part.2),
      spelled_more l.done before.0 part.0 before.1.1.0 ∙ (λ j. before.1.1.1 j ++ part.3 j) ∙ whole,
    )) c.read_part-2.ensures.all
