-- The cases of a start. A configuration that is not bad has a version that is a name.
use mathlib.Core.Path.{◌≡◌, sym, ap, ◌∙◌}
use Prim.Native.Nat.{ℕ, ◌≤◌, ◌<◌}
use mathlib.Core.Bool.{Bool, true, false, ◌||◌, true≢false}
use mathlib.Core.List.{List}
use lib.Dec.{eqb, ltb}
use lib.ListN.{length}
use borrow.Author.Tests.{eq-eqb, le-ltb, lt-ltb, ltb-false, ne_eqb}
use Rattle.std.specs.Prelude.{Option, Some, None}
use Rattle.numbers.specs.Choose.{pick}
use Rattle.text.specs.Names.{name_of, name_read}
use Rattle.text.specs.declared.names.Name.{Name}
use Rattle.record.specs.Records.{start_records}
use Rattle.answers.specs.Sending.{sent}
use Rattle.wishes.specs.declared.outcome.Refusal.TheVariants.{BadConfig}
use Rattle.session.specs.declared.session.Session.{Session}
use Rattle.replies.specs.Answers.{refusal}
use Rattle.replies.specs.declared.answer.Answer.{Answer}
use Rattle.calls.specs.Calls.{bad_config, blank_session, opened, starting}

pub no_chunk : (chunk : ℕ) (version : List ℕ) → chunk ≡ 0 → true ≡ bad_config chunk version
no_chunk chunk version h = simp (eq-eqb chunk 0 h)

pub big_chunk : (chunk : ℕ) (version : List ℕ) → (chunk ≡ 0 → ⊥) → 2147483647 < chunk → true ≡ bad_config chunk version
big_chunk chunk version n h = simp (ne_eqb chunk 0 n, lt-ltb 2147483647 chunk h)

pub by_version : (chunk : ℕ) (version : List ℕ) → (chunk ≡ 0 → ⊥) → chunk ≤ 2147483647 → ltb 128 (length version) ≡ bad_config chunk version
by_version chunk version n h = simp (ne_eqb chunk 0 n, le-ltb 2147483647 chunk h)

neither : (a b : Bool) → a || b ≡ false → b ≡ false
neither false b e = e
neither true b e = absurd (true≢false e)

fits : (chunk : ℕ) (version : List ℕ) → bad_config chunk version ≡ false → ltb 128 (length version) ≡ false
fits chunk version e = neither (ltb 2147483647 chunk) _ (neither (eqb chunk 0) _ e)

pub version_short : (chunk : ℕ) (version : List ℕ) → bad_config chunk version ≡ false → length version ≤ 128
version_short chunk version e = ltb-false 128 (length version) (fits chunk version e)

pub good_version : (chunk : ℕ) (version : List ℕ) → bad_config chunk version ≡ false → name_read version ≡ Some (name_of version)
unfolding name_read
good_version chunk version e = ap (λ (t : Bool). pick {X = Option Name} t None (Some (name_of version))) (fits chunk version e)

module _ (chunk window bandwidth : ℕ) (finish : Bool) (version : List ℕ) (clock : ℕ) (out : List ℕ) (b : Bool) (e : b ≡ bad_config chunk version) (a : Answer) where
  pub start_bad : (blank : Session) → a ≡ refusal BadConfig blank → blank ≡ blank_session → b ≡ true → ◌≡◌ {A = Answer × List ℕ} (a, out) (starting chunk window bandwidth finish version clock out)
  unfolding starting
  start_bad blank k z q = ap (λ (y : Answer). (y, out)) (k ∙ ap (refusal BadConfig) z) ∙ simp (sym e ∙ q)

  pub start_good : (r : Option ℕ) (after : List ℕ) (n : Name) → ◌≡◌ {A = Option ℕ × List ℕ} (r, after) (sent (start_records chunk window bandwidth finish) out) → a ≡ opened clock n r → Some n ≡ name_read version → b ≡ false
      → ◌≡◌ {A = Answer × List ℕ} (a, after) (starting chunk window bandwidth finish version clock out)
  unfolding starting
  start_good r after n h k y q =
      let z : Some n ≡ Some (name_of version) = y ∙ good_version chunk version (sym e ∙ q) in
      let m : n ≡ name_of version = cc in
      ap (λ (x : Answer). (x, after)) (k ∙ ap (λ (x : Name). opened clock x r) m)
      ∙ ap (λ (p : Option ℕ × List ℕ). (opened clock (name_of version) p.0, p.1)) h
      ∙ simp (sym e ∙ q)
