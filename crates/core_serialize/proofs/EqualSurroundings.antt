-- Of what stands around a place only this is asked: the sources of the arms and loops, the joined pairs, what was brought, and
-- which sites are emitted. Where two places agree in that, a tree is best at one exactly where it is at the other.
use Rattle.std.proofs.Common.{◌≡◌, ℕ, zero, suc, Bool, false, not, ◌&&◌, ◌||◌, ◌==◌, cond, List, [], ◌∷◌, ◌++◌, map, Option, Some, None, slice_get, refl, sym, ap, ◌∙◌, filter, arith}
use Rattle.model.specs.sites.Sites.{Site, Constraint, SiteSet, sources_at}
use Rattle.model.specs.trees.Trees.{Marked, m_no_step, m_step, MarkedCheck, m_match, m_equal, m_loop, m_return, MarkedArms, m_no_arm, m_arm, marks, marks_arms}
use Rattle.model.specs.trees.Places.{Around, is_in, waits, available, is_available, is_in_place, each_after, listed_below, bind_order, uses, field_sites, in_arm, in_equal, in_loop, after_step, all_below, emits}
use Rattle.model.specs.trees.Sound.{is_return}
use Rattle.model.specs.trees.Tests.{Test, match_test, equal_test, loop_test, is_open, score, is_greater}
use Rattle.model.specs.trees.Best.{IsGreatest, IsMade, IsEnd, BestSteps, BestCheck, BestArms}
use Rattle.std.specs.List.{list_all}
use Rattle.std.proofs.lemmas.Grind.{common_steps}
use Rattle.core_serialize.specs.AroundViews.{Alike}
use Rattle.core_serialize.proofs.Tables.{is_in_append}

-- as many more
pub more_alike : (zs xs ys : List ℕ) → ((s : ℕ) → is_in s xs ≡ is_in s ys) → (s : ℕ) → is_in s (zs ++ xs) ≡ is_in s (zs ++ ys)
more_alike zs xs ys h s = is_in_append s zs xs ∙ ap (λ b. is_in s zs || b) (h s) ∙ sym (is_in_append s zs ys)

-- 1. bind orders
module _ (sites : List Site) (xs ys : List ℕ) (h : (s : ℕ) → is_in s xs ≡ is_in s ys) where
  each_alike : (f g : List ℕ → ℕ → List ℕ) → ((d : List ℕ) (s : ℕ) → f d s ≡ g d s) → (d : List ℕ) (ss : List ℕ) → each_after f d ss ≡ each_after g d ss
  each_alike f g e d [] = refl
  each_alike f g e d (s ∷ ss) = ap (λ l. each_after f l ss) (e d s) ∙ each_alike f g e (g d s) ss

  listed_alike : (n : ℕ) (done : List ℕ) (s : ℕ) → listed_below n sites xs done s ≡ listed_below n sites ys done s
  listed_alike zero done s = refl
  listed_alike (suc n) done s =
      let l = each_alike (listed_below n sites xs) (listed_below n sites ys) (listed_alike n) done (sources_at sites s) in
      λ i. cond (h s i || is_in s done) done (l i ++ s ∷ [])

pub binds_alike : (sites : List Site) (ar br : Around) → Alike ar br → (ss : List ℕ) → bind_order sites ar ss ≡ bind_order sites br ss
binds_alike sites ar br a ss =
    ap (filter (λ s. not (is_in_place (slice_get sites s))))
    (each_alike sites ar.emitted br.emitted a.emitted (λ done s. listed_below (suc s) sites ar.emitted done s) (λ done s. listed_below (suc s) sites br.emitted done s)
    (λ d s. listed_alike sites ar.emitted br.emitted a.emitted (suc s) d s) [] ss)

-- 2. tests
module _ (set : SiteSet) (ar br : Around) (a : Alike ar br) where
  levels_alike : (n s : ℕ) → is_available n set.sites ar.brought s ≡ is_available n set.sites br.brought s
  levels_alike zero s = refl
  levels_alike (suc n) s = let b = a.brought s in λ i. b i || (not (waits (slice_get set.sites s)) && list_all (λ t. levels_alike n t i) (sources_at set.sites s))

  at_alike : (s : ℕ) → available set.sites ar s ≡ available set.sites br s
  at_alike s = levels_alike (suc s) s

  open_alike : (t : Test) → is_open set ar t ≡ is_open set br t
  open_alike t = grind (arith, at_alike)

  score_alike : (here : List ℕ) (t : Test) → score set ar here t ≡ score set br here t
  score_alike here t = grind arith

  pub greatest_alike : (here : List ℕ) (t : Test) → IsGreatest set ar here t → IsGreatest set br here t
  greatest_alike here t g = record {
    open_here = sym (open_alike t) ∙ g.open_here;
    greatest = λ u o. (let x = score_alike here u in let y = score_alike here t in (λ i. is_greater (sym x i) (sym y i)) ∙ g.greatest u (open_alike u ∙ o));
  }

  made_alike : (held later : List ℕ) (t : Test) → IsMade set ar held later t → IsMade set br held later t
  made_alike held later t m = record { test = greatest_alike (held ++ later) t m.test; rules = m.rules; some_rule = m.some_rule }

  end_alike : (here : List ℕ) → IsEnd set ar here → IsEnd set br here
  end_alike here e = record { over = λ u o. e.over u (open_alike u ∙ o); ordered = e.ordered }

-- 3. trees
module _ (set : SiteSet) where
  pub arm_alike : (ar br : Around) → Alike ar br → (s : ℕ) (c : Constraint) (fields : List (Option ℕ)) → Alike (in_arm set ar s c fields) (in_arm set br s c fields)
  arm_alike ar br a s c fields = record {
    sources = λ t. ap (λ b. (s == t) || b) (a.sources t);
    joined = a.joined;
    brought = more_alike (field_sites fields) ar.brought br.brought a.brought;
    emitted = more_alike (field_sites fields ++ all_below set.sites (s ∷ [])) ar.emitted br.emitted a.emitted;
  }

  pub equal_alike : (ar br : Around) → Alike ar br → (x y : ℕ) → Alike (in_equal set ar x y) (in_equal set br x y)
  equal_alike ar br a x y = grind (arith, common_steps, more_alike (all_below set.sites (x ∷ (y ∷ []))) ar.emitted br.emitted a.emitted)

  pub looped_alike : (zs : List ℕ) (ds es : List (ℕ × Constraint)) (xs ys : List ℕ) → ((s : ℕ) → is_in s (map (λ d. d.0) ds ++ xs) ≡ is_in s (map (λ d. d.0) es ++ ys)) → (s : ℕ) → is_in s (map (λ d. d.0) ds ++ (zs ++ xs)) ≡ is_in s (map (λ d. d.0) es ++ (zs ++ ys))
  looped_alike zs ds es xs ys h s = grind (arith, common_steps, is_in_append s zs xs, h s)

  pub loop_alike : (ar br : Around) → Alike ar br → (result : ℕ) → Alike (in_loop set ar result) (in_loop set br result)
  loop_alike ar br a result = grind (arith, common_steps, looped_alike (sources_at set.sites result) ar.tested br.tested ar.looped br.looped a.sources, more_alike)

  pub after_alike : (ar br : Around) → Alike ar br → (check : MarkedCheck) → Alike (after_step set ar check) (after_step set br check)
  after_alike ar br a check = grind (arith, common_steps, more_alike (emits set check) ar.emitted br.emitted a.emitted)

  mutual
    pub steps_alike : (m : Marked) (ar br : Around) (closing : Bool) → Alike ar br → BestSteps set ar closing m → BestSteps set br closing m
    steps_alike m_no_step ar br closing a b = tt
    steps_alike (m_step binds check rest) ar br closing a b = (
      b.0 ∙ binds_alike set.sites ar br a (uses set check),
      check_alike check ar br closing (marks rest) a b.1,
      steps_alike rest (after_step set ar check) (after_step set br check) (is_return check) (after_alike ar br a check) b.2,
    )

    check_alike : (check : MarkedCheck) (ar br : Around) (closing : Bool) (later : List ℕ) → Alike ar br → BestCheck set ar closing later check → BestCheck set br closing later check
    check_alike (m_match source arms) ar br closing later a b = (b.0, made_alike set ar br a (marks_arms arms) later (match_test source) b.1, arms_alike arms ar br source None a b.2)
    check_alike (m_equal x y body) ar br closing later a b =
        (b.0, made_alike set ar br a (marks body) later (equal_test x y) b.1, steps_alike body (in_equal set ar x y) (in_equal set br x y) false (equal_alike ar br a x y) b.2)
    check_alike (m_loop result body) ar br closing later a b = (
      b.0,
      (b.1.0, b.1.1, made_alike set ar br a (marks body) later (loop_test b.1.0) b.1.2),
      steps_alike body (in_loop set ar result) (in_loop set br result) false (loop_alike ar br a result) b.2,
    )
    check_alike (m_return rule) ar br closing later a b = λ c. end_alike set ar br a (rule ∷ later) (b c)

    arms_alike : (arms : MarkedArms) (ar br : Around) (source : ℕ) (before : Option Constraint) → Alike ar br → BestArms set ar source before arms → BestArms set br source before arms
    arms_alike m_no_arm ar br source before a b = tt
    arms_alike (m_arm constraint fields body rest) ar br source before a b = (
      b.0,
      b.1,
      b.2,
      b.3,
      steps_alike body (in_arm set ar source constraint fields) (in_arm set br source constraint fields) false (arm_alike ar br a source constraint fields) b.4,
      arms_alike rest ar br source (Some constraint) a b.5,
    )
