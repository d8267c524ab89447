-- Refusal 15: the steps of its loops, and that numbers which rise are no number twice.
use mathlib.Core.Path.{◌≡◌, refl, sym, ap, ◌∙◌}
use Prim.Native.Nat.{ℕ, ◌+◌, ◌≤◌, ◌<◌}
use native.Mathlib.Omega.{arith}
use mathlib.Core.Bool.{Bool, true, false, ◌&&◌}
use mathlib.Core.List.{List, [], ◌∷◌}
use lib.Dec.{leb, ltb}
use lib.ListN.{length, take, drop, get_or}
use borrow.Author.Tests.{ne_eqb, le-leb, lt-leb, lt-ltb, le-ltb, leb-true, ltb-true}
use Rattle.text.specs.declared.names.Name.{Name}
use Rattle.tables.specs.Tables.{has, rises_from, sound, table_sound}
use Rattle.tables.proofs.TablesLaws.{next_entry, no_entry}

pub both : (a b : Bool) → a && b ≡ true → (a ≡ true) × (b ≡ true)
both true b e = (refl, e)
both false b e = let z : ◌≡◌ {A = Bool} false true = e in (z, let y : ◌≡◌ {A = ℕ} 0 1 = cc in absurd (omega arith))

module _ {A : Type 0} (number : A → ℕ) (l : List A) (n : ℕ) where
  module _ (name : A → Name) (next : ℕ) where
    -- ---- whether the rest is sound
    module _ (i : ℕ) (r : Bool) (so : sound number name next (drop i (take n l)) ≡ r) where
      sound_on : (d : A) → i < n → n ≤ length l → r ≡ sound number name next (get_or l i d ∷ drop (i + 1) (take n l))
      sound_on d h g = sym so ∙ ap (sound number name next) (next_entry l n i d h g)

      module _ (d : A) (h : i < n) (g : n ≤ length l) where
        pub sound_long : 128 < (name (get_or l i d)).len → false ≡ r
        unfolding sound
        sound_long k = sym (sound_on d h g ∙ simp (lt-leb (name (get_or l i d)).len 128 k))

        module _ (k : (name (get_or l i d)).len ≤ 128) where
          pub sound_high : next ≤ number (get_or l i d) → false ≡ r
          unfolding sound
          sound_high j = sym (sound_on d h g ∙ simp (le-leb (name (get_or l i d)).len 128 k, le-ltb (number (get_or l i d)) next j))

          module _ (j : number (get_or l i d) < next) (t : Bool) (e : t ≡ has number (number (get_or l i d)) (drop (i + 1) (take n l))) where
            pub sound_twice : t ≡ true → false ≡ r
            unfolding sound
            sound_twice q = sym (sound_on d h g ∙ simp (le-leb (name (get_or l i d)).len 128 k, lt-ltb (number (get_or l i d)) next j, sym e ∙ q))

    -- ---- whether the rest rises
    module _ (i low : ℕ) (r : Bool) (so : rises_from number name next low (drop i (take n l)) ≡ r) where
      rise_on : (d : A) → i < n → n ≤ length l → r ≡ rises_from number name next low (get_or l i d ∷ drop (i + 1) (take n l))
      rise_on d h g = sym so ∙ ap (rises_from number name next low) (next_entry l n i d h g)

      module _ (d : A) (h : i < n) (g : n ≤ length l) where
        pub rise_low : number (get_or l i d) < low → false ≡ r
        unfolding rises_from
        rise_low k = sym (rise_on d h g ∙ simp (lt-leb low (number (get_or l i d)) k))

        module _ (k : low ≤ number (get_or l i d)) where
          pub rise_high : next ≤ number (get_or l i d) → false ≡ r
          unfolding rises_from
          rise_high j = sym (rise_on d h g ∙ simp (le-leb low (number (get_or l i d)) k, le-ltb (number (get_or l i d)) next j))

          module _ (j : number (get_or l i d) < next) where
            pub rise_long : 128 < (name (get_or l i d)).len → false ≡ r
            unfolding rises_from
            rise_long m = sym (rise_on d h g ∙ simp (le-leb low (number (get_or l i d)) k, lt-ltb (number (get_or l i d)) next j, lt-leb (name (get_or l i d)).len 128 m))

            pub rise_next : (v : ℕ) → v ≡ number (get_or l i d) → (name (get_or l i d)).len ≤ 128 → rises_from number name next (v + 1) (drop (i + 1) (take n l)) ≡ r
            unfolding rises_from
            rise_next v q m =
                ap (λ (x : ℕ). rises_from number name next (x + 1) (drop (i + 1) (take n l))) q
                ∙ sym (rise_on d h g ∙ simp (le-leb low (number (get_or l i d)) k, lt-ltb (number (get_or l i d)) next j, le-leb (name (get_or l i d)).len 128 m))

      pub rise_end : n ≤ i → true ≡ r
      unfolding rises_from
      rise_end h = sym (sym so ∙ ap (rises_from number name next low) (no_entry l n i h))

-- ---- numbers that rise are no number twice
module _ {A : Type 0} (number : A → ℕ) (name : A → Name) (next : ℕ) where
  record Rises (low : ℕ) (x : A) (xs : List A) : Type 0 where
    from : low ≤ number x
    under : number x < next
    short : (name x).len ≤ 128
    rest : rises_from number name next (number x + 1) xs ≡ true

  rises : (low : ℕ) (x : A) (xs : List A) → rises_from number name next low (x ∷ xs) ≡ true → Rises low x xs
  unfolding rises_from
  rises low x xs e =
      let a = both (leb low (number x)) _ e in
      let b = both (ltb (number x) next) _ a.1 in
      let c = both (leb (name x).len 128) _ b.1 in
      record { from = leb-true low (number x) a.0; under = ltb-true (number x) next b.0; short = leb-true (name x).len 128 c.0; rest = c.1 }

  above : (id low : ℕ) (xs : List A) → rises_from number name next low xs ≡ true → id < low → has number id xs ≡ false
  unfolding has
  above id low [] e h = refl
  above id low (x ∷ xs) e h =
      let r = rises low x xs e in
      let n : number x ≡ id → ⊥ = λ q. omega (arith, r.from) in
      simp (ne_eqb (number x) id n) (above id (number x + 1) xs r.rest (omega (arith, r.from)))

  pub rises_sound : (low : ℕ) (xs : List A) → rises_from number name next low xs ≡ true → sound number name next xs ≡ true
  unfolding sound
  rises_sound low [] e = refl
  rises_sound low (x ∷ xs) e =
      let r = rises low x xs e in
      simp (le-leb (name x).len 128 r.short, lt-ltb (number x) next r.under, above (number x) (number x + 1) xs r.rest (omega arith), rises_sound (number x + 1) xs r.rest)

  -- ---- the whole test
  module _ (n : ℕ) (l : List A) where
    pub too_many : length l < n → false ≡ table_sound number name next n l
    unfolding table_sound
    too_many h = simp (lt-leb n (length l) h)
