-- Cases that describe what is said: each that is taken gives it, and one is taken where something is said, or the rest is so.
use Rattle.std.proofs.Common.{◌≡◌, ◌⊎◌, Bool, true, false, not, List, [], ◌∷◌, Option, Some, None, refl, sym, ap, ◌∙◌, subst, inl, inr, arith}
use Rattle.std.proofs.lemmas.Bool.{false≢true}
use Rattle.std.proofs.lemmas.Grind.{common_steps}
use Rattle.model.specs.rules.Outcome.{then_option}
use Rattle.model.proofs.Elements.{In, in_left, in_right, in_either, some_is, none_some}
use Rattle.model_questions.specs.Formulas.{Fact, known, Model, is_so, both_of, one_of, none_of}
use Rattle.model_questions.specs.Forms.{Case, Cases, nothing_said, one_case, anything, case_under, each_under, under, joined_cases, without_rest, from_each, then_cases}
use Rattle.model_questions.proofs.FactsSo.{none_so, both_from, both_parts, one_left, one_right, none_from}

abbrev pub IsTaken : {X : Type 0} → Model → List (Case X) → Type 0
IsTaken {X} m cs = (c : Case X) × In cs c × (is_so m c.guard ≡ true)

-- what stands for a value, and when it fits what is known of types
pub record Describes (m : Model) (X Y : Type 0) (stands : X → Y) (Fits : X → Type 0) (cs : Cases X) (o : Option Y) : Type 0 where
  pub sound : (c : Case X) → In cs.cases c → is_so m c.guard ≡ true → (o ≡ Some (stands c.gives)) × Fits c.gives
  pub full : (y : Y) → o ≡ Some y → IsTaken m cs.cases ⊎ (is_so m cs.rest ≡ true)

module _ (m : Model) (X Y : Type 0) (stands : X → Y) (Fits : X → Type 0) where
  pub nothing_described : Describes m X Y stands Fits nothing_said None
  nothing_described = record { sound = λ c i g. absurd i; full = λ y e. absurd (none_some y e) }

  pub anything_described : (o : Option Y) → Describes m X Y stands Fits anything o
  anything_described o = record { sound = λ c i g. absurd i; full = λ y e. inr refl }

  pub one_described : (x : X) (y : Y) → stands x ≡ y → Fits x → Describes m X Y stands Fits (one_case x) (Some y)
  one_described x y e fits = record { sound = by; full = λ z q. inl (record { guard = known true; gives = x }, inl refl, refl) }
    where
      by : (c : Case X) → In (one_case x).cases c → is_so m c.guard ≡ true → (Some y ≡ Some (stands c.gives)) × Fits c.gives
      by c h g = grind (arith, common_steps)

  -- one is taken, and no rest is needed
  pub rest_back : (cs : Cases X) (o : Option Y) → Describes m X Y stands Fits (without_rest cs) o → Describes m X Y stands Fits cs o
  rest_back cs o d = record { sound = d.sound; full = λ y e. elim (d.full y e) [ inl t ↦ inl t | inr z ↦ absurd (false≢true z) ] }

  -- under a guard
  case_in : (f : Fact) (x : X) (cs : List (Case X)) (c : Case X) → In (case_under f x cs) c → (c ≡ record { guard = f; gives = x }) ⊎ In cs c
  case_in f x cs c i = grind (arith, common_steps)

  in_case : (f : Fact) (x : X) (cs : List (Case X)) → is_so m f ≡ true → In (case_under f x cs) (record { guard = f; gives = x })
  in_case f x cs e = grind (arith, common_steps)

  in_later : (f : Fact) (x : X) (cs : List (Case X)) (u : Case X) → In cs u → In (case_under f x cs) u
  in_later f x cs u i = grind (arith, common_steps)

  under_in : (g : Fact) (xs : List (Case X)) (c : Case X) → In (each_under g xs) c → (u : Case X) × In xs u × (c ≡ record { guard = both_of g u.guard; gives = u.gives })
  under_in g [] c i = absurd i
  under_in g (x ∷ xs) c i = elim (case_in (both_of g x.guard) x.gives (each_under g xs) c i) [ inl e ↦ (x, inl refl, e) | inr j ↦ let k = under_in g xs c j in (k.0, inr k.1, k.2) ]

  in_under : (g : Fact) (xs : List (Case X)) (u : Case X) → In xs u → is_so m (both_of g u.guard) ≡ true → In (each_under g xs) (record { guard = both_of g u.guard; gives = u.gives })
  in_under g (x ∷ xs) u (inl q) s =
      subst (λ (w : Case X). In (case_under (both_of g x.guard) x.gives (each_under g xs)) (record { guard = both_of g w.guard; gives = w.gives })) q
      (in_case (both_of g x.guard) x.gives (each_under g xs) (subst (λ (w : Case X). is_so m (both_of g w.guard) ≡ true) (sym q) s))
  in_under g (x ∷ xs) u (inr i) s = in_later (both_of g x.guard) x.gives (each_under g xs) (record { guard = both_of g u.guard; gives = u.gives }) (in_under g xs u i s)
  in_under g [] u i s = absurd i

  pub taken_under : (g : Fact) (us : List (Case X)) → is_so m g ≡ true → IsTaken m us → IsTaken m (each_under g us)
  taken_under g us e u =
      let so = both_from m g u.0.guard e u.2 in (record { guard = both_of g u.0.guard; gives = u.0.gives }, in_under g us u.0 u.1 so, so)

  -- a case under a guard is taken where both are so
  pub under_sound : (g : Fact) (us : List (Case X)) (c : Case X) → In (each_under g us) c → is_so m c.guard ≡ true
      → (is_so m g ≡ true) × (u : Case X) × In us u × (is_so m u.guard ≡ true) × (u.gives ≡ c.gives)
  under_sound g us c i h =
      let k = under_in g us c i in
      let gs = both_parts m g k.0.guard (subst (λ (d : Case X). is_so m d.guard ≡ true) k.2 h) in
      (gs.0, k.0, k.1, gs.1, ap (λ (d : Case X). d.gives) (sym k.2))

  -- what a case gives is what is said, at another of the same
  pub same_gives : (o : Option Y) (a b : X) → a ≡ b → (o ≡ Some (stands a)) × Fits a → (o ≡ Some (stands b)) × Fits b
  same_gives o a b e h = (h.0 ∙ ap (λ x. Some (stands x)) e, subst Fits e h.1)

-- what is said of what is said
module _ (m : Model) (X Y X' Y' : Type 0) (stands : X → Y) (Fits : X → Type 0) (stands' : X' → Y') (Fits' : X' → Type 0)
    (h : Y → Option Y') (k : X → Cases X') (dk : (x : X) → Fits x → Describes m X' Y' stands' Fits' (k x) (h (stands x))) where
  from_each_in : (o : Option Y) (cs : List (Case X)) (sound : (c : Case X) → In cs c → is_so m c.guard ≡ true → (o ≡ Some (stands c.gives)) × Fits c.gives)
      (c : Case X') → In (from_each cs k).cases c → is_so m c.guard ≡ true
      → (a : Case X) × (o ≡ Some (stands a.gives)) × (h (stands a.gives) ≡ Some (stands' c.gives)) × Fits' c.gives
  from_each_in o [] sound c i g = absurd i
  from_each_in o (a ∷ cs) sound c i g = by (in_either (each_under a.guard (k a.gives).cases) (from_each cs k).cases c i) (λ j. from_each_in o cs (λ x q. sound x (inr q)) c j g)
    where
      by : In (each_under a.guard (k a.gives).cases) c ⊎ In (from_each cs k).cases c
          → (In (from_each cs k).cases c → (b : Case X) × (o ≡ Some (stands b.gives)) × (h (stands b.gives) ≡ Some (stands' c.gives)) × Fits' c.gives)
          → (b : Case X) × (o ≡ Some (stands b.gives)) × (h (stands b.gives) ≡ Some (stands' c.gives)) × Fits' c.gives
      by (inl j) more =
          let u = under_sound m X' Y' stands' Fits' a.guard (k a.gives).cases c j g in
          let s = sound a (inl refl) u.0 in
          let r = same_gives m X' Y' stands' Fits' (h (stands a.gives)) u.1.gives c.gives u.4 ((dk a.gives s.1).sound u.1 u.2 u.3) in
          (a, s.0, r.0, r.1)
      by (inr j) more = more j

  from_each_taken : (cs : List (Case X)) (a : Case X) → In cs a → is_so m a.guard ≡ true → IsTaken m (k a.gives).cases → IsTaken m (from_each cs k).cases
  from_each_taken (d ∷ cs) a (inl q) g t =
      let u = taken_under m X' Y' stands' Fits' d.guard (k d.gives).cases (ap (λ (w : Case X). is_so m w.guard) q ∙ g) (subst (λ (w : Case X). IsTaken m (k w.gives).cases) (sym q) t) in
      (u.0, in_left (each_under d.guard (k d.gives).cases) (from_each cs k).cases u.0 u.1, u.2)
  from_each_taken (d ∷ cs) a (inr i) g t = let u = from_each_taken cs a i g t in (u.0, in_right (each_under d.guard (k d.gives).cases) (from_each cs k).cases u.0 u.1, u.2)
  from_each_taken [] a i g t = absurd i

  from_each_rest : (cs : List (Case X)) (a : Case X) → In cs a → is_so m a.guard ≡ true → is_so m (k a.gives).rest ≡ true → is_so m (from_each cs k).rest ≡ true
  from_each_rest (d ∷ cs) a (inl q) g r = grind (arith, common_steps, one_left m, both_from m d.guard, one_left, both_from)
  from_each_rest (d ∷ cs) a (inr i) g r = one_right m (both_of d.guard (k d.gives).rest) (from_each cs k).rest (from_each_rest cs a i g r)
  from_each_rest [] a i g r = absurd i

  pub then_described : (cs : Cases X) (o : Option Y) → Describes m X Y stands Fits cs o → Describes m X' Y' stands' Fits' (then_cases cs k) (then_option o h)
  then_described cs o d = record { sound = sound; full = full }
    where
      at_some : (y : Y) → o ≡ Some y → then_option o h ≡ h y
      at_some y e = ap (λ q. then_option q h) e

      sound : (c : Case X') → In (from_each cs.cases k).cases c → is_so m c.guard ≡ true → (then_option o h ≡ Some (stands' c.gives)) × Fits' c.gives
      sound c i g = let a = from_each_in o cs.cases d.sound c i g in (at_some (stands a.0.gives) a.1 ∙ a.2, a.3)

      inner : (a : Case X) → In cs.cases a → is_so m a.guard ≡ true → IsTaken m (k a.gives).cases ⊎ (is_so m (k a.gives).rest ≡ true)
          → IsTaken m (from_each cs.cases k).cases ⊎ (is_so m (one_of cs.rest (from_each cs.cases k).rest) ≡ true)
      inner a i g h = grind (arith, common_steps, from_each_taken, one_right, from_each_rest)

      by : (z : Y') (y : Y) → o ≡ Some y → h y ≡ Some z → IsTaken m cs.cases ⊎ (is_so m cs.rest ≡ true)
          → IsTaken m (from_each cs.cases k).cases ⊎ (is_so m (one_of cs.rest (from_each cs.cases k).rest) ≡ true)
      by z y e q (inl a) = grind (arith, common_steps, inner a.0 a.1 a.2, some_is)
      by z y e q (inr r) = inr (one_left m cs.rest (from_each cs.cases k).rest r)

      full : (z : Y') → then_option o h ≡ Some z → IsTaken m (from_each cs.cases k).cases ⊎ (is_so m (one_of cs.rest (from_each cs.cases k).rest) ≡ true)
      full z e = let s = then_some o z e in by z s.0 s.1 s.2 (d.full s.0 s.1)
        where
          then_some : (q : Option Y) (w : Y') → then_option q h ≡ Some w → (x : Y) × (q ≡ Some x) × (h x ≡ Some w)
          then_some None w f = absurd (none_some w f)
          then_some (Some x) w f = (x, refl, f)

not_true : (b : Bool) → not b ≡ true → b ≡ false
not_true b e = grind (arith, common_steps)

-- a choice between two by a fact
module _ (m : Model) (X Y : Type 0) (stands : X → Y) (Fits : X → Type 0) (xs ys : Cases X) (q : Bool → Option Y)
    (f : Fact) (dx : is_so m f ≡ true → Describes m X Y stands Fits xs (q true)) (dy : is_so m f ≡ false → Describes m X Y stands Fits ys (q false)) where
  abbrev both_ways : Cases X
  both_ways = joined_cases (under f xs) (under (none_of f) ys)

  choice_sound : (c : Case X) → In both_ways.cases c → is_so m c.guard ≡ true → (q (is_so m f) ≡ Some (stands c.gives)) × Fits c.gives
  choice_sound c i h = by (in_either (each_under f xs.cases) (each_under (none_of f) ys.cases) c i)
    where
      at : (b : Bool) (u : Case X) → is_so m f ≡ b → u.gives ≡ c.gives → (q b ≡ Some (stands u.gives)) × Fits u.gives → (q (is_so m f) ≡ Some (stands c.gives)) × Fits c.gives
      at b u e same r = let s = same_gives m X Y stands Fits (q b) u.gives c.gives same r in (ap q e ∙ s.0, s.1)

      by : In (each_under f xs.cases) c ⊎ In (each_under (none_of f) ys.cases) c → (q (is_so m f) ≡ Some (stands c.gives)) × Fits c.gives
      by (inl j) = let u = under_sound m X Y stands Fits f xs.cases c j h in at true u.1 u.0 u.4 ((dx u.0).sound u.1 u.2 u.3)
      by (inr j) = let u = under_sound m X Y stands Fits (none_of f) ys.cases c j h in let n = not_true (is_so m f) (sym (none_so m f) ∙ u.0) in at false u.1 n u.4 ((dy n).sound u.1 u.2 u.3)

  choice_full : (b : Bool) → is_so m f ≡ b → (z : Y) → q b ≡ Some z → IsTaken m both_ways.cases ⊎ (is_so m both_ways.rest ≡ true)
  choice_full true e z h = by ((dx e).full z h)
    where
      by : IsTaken m xs.cases ⊎ (is_so m xs.rest ≡ true) → IsTaken m both_ways.cases ⊎ (is_so m both_ways.rest ≡ true)
      by (inl t) = let u = taken_under m X Y stands Fits f xs.cases e t in inl (u.0, in_left (each_under f xs.cases) (each_under (none_of f) ys.cases) u.0 u.1, u.2)
      by (inr s) = inr (one_left m (both_of f xs.rest) (both_of (none_of f) ys.rest) (both_from m f xs.rest e s))
  choice_full false e z h = by ((dy e).full z h)
    where
      by : IsTaken m ys.cases ⊎ (is_so m ys.rest ≡ true) → IsTaken m both_ways.cases ⊎ (is_so m both_ways.rest ≡ true)
      by (inl t) =
          let u = taken_under m X Y stands Fits (none_of f) ys.cases (none_from m f e) t in
          inl (u.0, in_right (each_under f xs.cases) (each_under (none_of f) ys.cases) u.0 u.1, u.2)
      by (inr s) = inr (one_right m (both_of f xs.rest) (both_of (none_of f) ys.rest) (both_from m (none_of f) ys.rest (none_from m f e) s))

  pub choice_described : Describes m X Y stands Fits both_ways (q (is_so m f))
  choice_described = record { sound = choice_sound; full = λ z h. choice_full (is_so m f) refl z h }
