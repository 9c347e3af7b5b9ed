-- What a link ends: it doesn't change with more links back than its number, so each ends its fact after the others. And facts by their
-- numbers.
use Rattle.std.proofs.Common.{◌≡◌, ℕ, zero, suc, ◌<◌, true, nat_lt, List, [], ◌∷◌, ◌++◌, get_or, length, map, Option, Some, None, slice_get, refl, ap, ◌∙◌, arith, ltb-true}
use Rattle.std.proofs.lemmas.List.{append_assoc, map-append}
use Rattle.std.proofs.lemmas.Option.{slice_get_read, slice_get_within}
use Rattle.model_questions.specs.Formulas as M
use Rattle.spec_cases.specs.declared.formulas.Fact.{Fact}
use Rattle.spec_cases.specs.declared.trails.Link.{Link}
use Rattle.spec_cases.specs.declared.trails.Trail.{Trail}
use Rattle.spec_cases.specs.declared.trails.Trail.TheVariants as T
use Rattle.spec_cases.specs.Namings.{Naming, fact_of}
use Rattle.spec_cases.specs.Trails.{trail_of, trail_by, trail_within, trails_at, trails_of, AreEarlier, AreTrails}

-- 1. two agree on the first numbers
record Agree (count : ℕ) (s t : ℕ → List M.Fact) : Type 0 where
  pub link : (n : ℕ) → n < count → s n ≡ t n

-- what a number has is after earlier ones
abbrev IsWithin : ℕ → Option Link → Type 0
IsWithin count None = Unit {0}
IsWithin count (Some x) = trail_within count x.before ≡ true

module _ (v : Naming) (count : ℕ) (s t : ℕ → List M.Fact) (a : Agree count s t) where
  trail_same : (b : Trail) → trail_within count b ≡ true → trail_of s b ≡ trail_of t b
  trail_same T.Start h = refl
  trail_same (T.To n) h = a.link n.0 (ltb-true n.0 count h)

  link_same : (o : Option Link) → IsWithin count o → trail_by v s o ≡ trail_by v t o
  link_same None h = refl
  link_same (Some x) h = ap (λ l. fact_of v x.fact ∷ l) (trail_same x.before h)

fewer : (count n : ℕ) (s t : ℕ → List M.Fact) → n < suc count → Agree count s t → Agree n s t
fewer count n s t h a = record { link = λ m l. a.link m (omega arith) }

module _ (v : Naming) (links : List Link) (earlier : AreEarlier links) where
  within : (n : ℕ) (o : Option Link) → slice_get links n ≡ o → IsWithin n o
  within n None e = tt
  within n (Some x) e = earlier n x e

  -- the first numbers need so many links back
  agree : (k : ℕ) → Agree k (trails_at v links k) (trails_at v links (suc k))
  agree zero = record { link = λ n h. absurd (omega arith) }
  agree (suc k) =
      let s = trails_at v links k in
      let t = trails_at v links (suc k) in
      let less : (n : ℕ) → n < suc k → Agree n s t = λ n h. fewer k n s t h (agree k) in
      record { link = λ n h. link_same v n s t (less n h) (slice_get links n) (within n (slice_get links n) refl) }

  pub all_trails : AreTrails v (trails_of v links) links
  all_trails = record {
    linked = λ n x e.
        let h = slice_get_within links n x e in
        let s = trails_at v links (length links) in
        let less : Agree n s (trails_of v links) = fewer (length links) n s (trails_of v links) (omega arith) (agree (length links)) in
        ap (trail_by v s) e ∙ link_same v n s (trails_of v links) less (Some x) (earlier n x e);
  }

-- 2. a link that is read, and facts by their numbers
pub link_read : (v : Naming) (s : ℕ → List M.Fact) (l : List Link) (n : ℕ) (x : Link) → AreTrails v s l → n < length l → x ≡ get_or l n x → s n ≡ fact_of v x.fact ∷ trail_of s x.before
link_read v s l n x all h e = all.linked n x (slice_get_read l (length l) n x refl h e)

pub facts_pushed : (v : Naming) (out : List Fact) (f : Fact) → map (fact_of v) (out ++ f ∷ []) ≡ map (fact_of v) out ++ (fact_of v f ∷ [])
facts_pushed v out f = map-append (fact_of v) out (f ∷ [])

pub ruleset fact_steps = (facts_pushed, append_assoc)
