-- The best trees of a typed set are typed.
use Rattle.std.proofs.Common.{◌≡◌, ◌<◌, ◌∷◌, [], ℕ, Bool, true, false, List, length, Option, Some, None, slice_get, Contains, refl, subst, arith}
use Rattle.std.proofs.lemmas.Grind.{common_steps}
use Rattle.std.proofs.lemmas.Bool.{and_parts, and_from}
use Rattle.std.proofs.lemmas.List.Elements.{Contains-append_left, Contains-append_right}
use Rattle.model.specs.sites.Sites.{Site, Constraint, SetRule, SiteSet}
use Rattle.model.specs.trees.Trees.{Marked, m_no_step, m_step, m_match, m_equal, m_loop, m_return, MarkedArms, m_no_arm, m_arm, plain, plain_arms, marks, marks_arms}
use Rattle.model.specs.trees.Places.{Around, nothing_around, field_sites, in_arm, in_equal, in_loop, after_step}
use Rattle.model.specs.trees.Best.{BestSteps, BestArms}
use Rattle.model.proofs.Members.{in_head, in_tail, some_member, member_from_get, get_within, constraint_in}
use Rattle.std.proofs.lemmas.List.Elements.{All-contains}
use Rattle.model_code.specs.Modes.{Types, field_typed, binds_typed, brought_typed, tree_typed, arms_typed, place_in, IsTypedSet}
use Rattle.laws_code.specs.TypedTrees.{TypedSetsHaveTypedTrees}
use Rattle.laws_code.proofs.BroughtSites.{IsBrought, is_brought}

module _ (types : Types) (set : SiteSet) (typed : IsTypedSet types set) where
  abbrev sites : List Site
  sites = set.sites

  abbrev copied : ℕ → Bool
  copied s = types.is_copy (place_in sites s)

  binds_are : (ss : List ℕ) → binds_typed types sites ss ≡ true
  binds_are [] = refl
  binds_are (s ∷ ss) = and_from _ _ (typed.sites s) (binds_are ss)

  -- what an arm brings
  field_is : (s : ℕ) (c : Constraint) (x : ℕ) → IsBrought sites s c x → field_typed types c (copied s) x ≡ true
  field_is s c x b = grind (arith, common_steps, and_parts)

  fields_are : (c : Constraint) (copy : Bool) (fields : List (Option ℕ)) → ((x : ℕ) → Contains (field_sites fields) x → field_typed types c copy x ≡ true) → brought_typed types c copy fields ≡ true
  fields_are c copy [] h = refl
  fields_are c copy (None ∷ rest) h = fields_are c copy rest h
  fields_are c copy (Some x ∷ rest) h = and_from _ _ (h x (in_head x (field_sites rest))) (fields_are c copy rest (λ y i. h y (in_tail x y (field_sites rest) i)))

  abbrev AreOfRules : List ℕ → Type 0
  AreOfRules ms = (i : ℕ) → Contains ms i → (r : SetRule) × (slice_get set.rules i ≡ Some r)

  mutual
    steps_are : (m : Marked) (ar : Around) (closing : Bool) → BestSteps set ar closing m → AreOfRules (marks m) → tree_typed types sites (plain set.rules m) ≡ true
    steps_are m_no_step ar closing best ks = refl
    steps_are (m_step binds (m_match source arms) rest) ar closing best ks =
        and_from _ _ (binds_are binds) (and_from _ _
        (and_from _ _ (typed.places source) (arms_are arms ar source None best.1.2 (λ i c. ks i (Contains-append_left (marks_arms arms) (marks rest) i c))))
        (steps_are rest (after_step set ar (m_match source arms)) false best.2 (λ i c. ks i (Contains-append_right (marks_arms arms) (marks rest) i c))))
    steps_are (m_step binds (m_equal a b body) rest) ar closing best ks =
        and_from _ _ (binds_are binds) (and_from _ _
        (steps_are body (in_equal set ar a b) false best.1.2 (λ i c. ks i (Contains-append_left (marks body) (marks rest) i c)))
        (steps_are rest (after_step set ar (m_equal a b body)) false best.2 (λ i c. ks i (Contains-append_right (marks body) (marks rest) i c))))
    steps_are (m_step binds (m_loop result body) rest) ar closing best ks =
        and_from _ _ (binds_are binds) (and_from _ _
        (and_from _ _ (typed.sites result) (steps_are body (in_loop set ar result) false best.1.2 (λ i c. ks i (Contains-append_left (marks body) (marks rest) i c))))
        (steps_are rest (after_step set ar (m_loop result body)) false best.2 (λ i c. ks i (Contains-append_right (marks body) (marks rest) i c))))
    steps_are (m_step binds (m_return rule) rest) ar closing best ks =
        and_from _ _ (binds_are binds) (and_from _ _
        (grind (arith, common_steps))
        (steps_are rest (after_step set ar (m_return rule)) true best.2 (λ i c. ks i (in_tail rule i (marks rest) c))))

    arms_are : (arms : MarkedArms) (ar : Around) (source : ℕ) (prior : Option Constraint) → BestArms set ar source prior arms → AreOfRules (marks_arms arms) → arms_typed types sites (copied source) (plain_arms set.rules arms) ≡ true
    arms_are m_no_arm ar source prior best ks = refl
    arms_are (m_arm constraint fields body rest) ar source prior best ks =
        let some_rule = some_member (marks body) best.1 in
        let of_body : AreOfRules (marks body) = λ i c. ks i (Contains-append_left (marks body) (marks_arms rest) i c) in
        let r = of_body some_rule.0 some_rule.1 in
        let asks = constraint_in r.0.constraints source constraint (best.2 some_rule.0 r.0 some_rule.1 r.1) in
        and_from _ _
        (and_from _ _ (typed.constrained r.0 source constraint (member_from_get set.rules some_rule.0 r.0 r.1) asks)
        (fields_are constraint (copied source) fields (λ x c. field_is source constraint x (is_brought sites source constraint x (subst (λ l. Contains (field_sites l) x) best.3 c)))))
        (and_from _ _ (steps_are body (in_arm set ar source constraint fields) false best.4 of_body) (arms_are rest ar source (Some constraint) best.5 (λ i c. ks i (Contains-append_right (marks body) (marks_arms rest) i c))))

pub typed_sets_have_typed_trees_lem : TypedSetsHaveTypedTrees
typed_sets_have_typed_trees_lem types set tree typed best =
    subst (λ t. tree_typed types set.sites t ≡ true) best.returns.same
    (steps_are types set typed best.marked nothing_around false best.steps
    (λ i c. get_within set.rules i (All-contains (λ j. j < length set.rules) (marks best.marked) i best.returns.known c)))
