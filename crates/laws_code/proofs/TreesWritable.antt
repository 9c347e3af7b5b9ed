-- The code of best trees can be written.
use Rattle.std.proofs.Common.{◌≡◌, ◌<◌, ◌∷◌, [], ℕ, zero, suc, Bool, true, false, List, length, Option, Some, None, slice_get, Contains, refl, sym, ap, subst, eq-eqb, arith}
use Rattle.std.proofs.lemmas.Grind.{common_steps}
use Rattle.std.proofs.lemmas.Bool.{and_from}
use Rattle.std.proofs.lemmas.List.{length-map}
use Rattle.std.proofs.lemmas.List.Elements.{All-contains, Contains-append_left, Contains-append_right}
use Rattle.std.proofs.lemmas.Option.{slice_get_within}
use Rattle.model.specs.rules.Program.{Program, rules_of}
use Rattle.model.specs.sites.Sites.{Site, Constraint, SetRule, SiteSet, SiteTerm, each_term, unfold_site}
use Rattle.model.specs.sites.Overlap.{BuiltRule, built_rule}
use Rattle.model.specs.sites.RuleSets.{IsRuleOf}
use Rattle.model.specs.visits.Demands.{demands_of}
use Rattle.model.specs.trees.Trees.{Tree, Marked, m_no_step, m_step, m_match, m_equal, m_loop, m_return, MarkedArms, m_no_arm, m_arm, plain, plain_check, plain_arms, marks, marks_arms}
use Rattle.model.specs.trees.Places.{Around, nothing_around, each_field, fields_of, in_arm, in_equal, in_loop, after_step}
use Rattle.model.specs.trees.Best.{BestSteps, BestArms, IsBestTree}
use Rattle.model.proofs.Elements.{in_from_contains, contains_from_in}
use Rattle.model.proofs.Members.{in_tail, some_member, member_from_get, get_within, constraint_in}
use Rattle.laws_typing.specs.WellTypedPrograms.{IsWellTypedProgram}
use Rattle.laws_sites.proofs.Closing.{closing_is_sound_lem}
use Rattle.laws_sites.proofs.built.BuiltGates.{set_rule, WasBuilt, was_built}
use Rattle.laws_sites.proofs.built.BuiltSets.{BuiltSet, RuleOfSet, of_term}
use Rattle.laws_trees.proofs.runs.Contents.{unfolded_layer}
use Rattle.laws_trees.proofs.taken.Forms.{term_count}
use Rattle.laws_trees.proofs.taken.BuiltSites.{sites_stand}
use Rattle.model_code.specs.Code.{Block, statement, Statement}
use Rattle.model_code.specs.TreeCode.{Passes, to_match, use_at, bind_code, binds_code, loop_code, tree_code, check_code, arms_code}
use Rattle.model_code.specs.Notation.{Notation, ReturnForm}
use Rattle.model_code.specs.ProgramNotation.{notation_of}
use Rattle.model_code.specs.ReadsBack.{pattern_writable, writable, writable_at, writable_arms}
use Rattle.laws_code.specs.WritableCode.{LooksAtMatched, CodeOfBuiltSetsIsWritable}
use Rattle.laws_code.proofs.AskedFields.{HasAllFields, rule_asks_all_fields}
use Rattle.laws_code.proofs.TypeShapes.{variant_taken, struct_taken}

-- 1. blocks
fields_counted : (f : ℕ → Site → Bool) (sites : List Site) (i n : ℕ) → length (each_field f sites i n) ≡ n
fields_counted f sites i zero = refl
fields_counted f sites i (suc n) = ap suc (fields_counted f sites (suc i) n)

sources_counted : (f : ℕ → SiteTerm) (ss : List ℕ) → term_count (each_term f ss) ≡ length ss
sources_counted f [] = refl
sources_counted f (s ∷ ss) = ap suc (sources_counted f ss)

module _ (b : BuiltSet) (h : IsWellTypedProgram b.program) (passes : Passes) (looks : LooksAtMatched passes) (k : ReturnForm) (is_logged : Bool) where
  abbrev p : Program
  p = b.program

  abbrev set : SiteSet
  set = b.set

  abbrev sites : List Site
  sites = b.set.sites

  abbrev N : Notation
  N = notation_of p k is_logged

  abbrev U : ℕ → SiteTerm
  U s = unfold_site sites s

  then_statement : (s : Statement) (rest : Block) → writable_at N false s ≡ true → writable N false rest ≡ true → writable N false (statement s rest) ≡ true
  then_statement s rest here later = grind (arith, and_from)

  -- 2. what is made has as many fields as its type
  bind_written : (s : ℕ) (o : Option Site) → slice_get sites s ≡ o → writable_at N false (bind_code sites passes s o) ≡ true
  bind_written s o at = grind (arith, common_steps, variant_taken, struct_taken, sources_counted, length-map, sites_stand, slice_get_within, unfolded_layer)

  binds_written : (ss : List ℕ) (rest : Block) → writable N false rest ≡ true → writable N false (binds_code sites passes ss rest) ≡ true
  binds_written [] rest w = w
  binds_written (s ∷ ss) rest w = then_statement (bind_code sites passes s (slice_get sites s)) (binds_code sites passes ss rest) (bind_written s (slice_get sites s) refl) (binds_written ss rest w)

  loop_written : (o : Option Site) (s : ℕ) (body : Block) → writable N false body ≡ true → writable_at N false (loop_code o s body) ≡ true
  loop_written o s body h = grind (arith, common_steps)

  -- 3. a rule of the set asks for all fields
  asked_whole : (r : SetRule) (s : ℕ) (c : Constraint) → Contains set.rules r → Contains r.constraints (s, c) → HasAllFields p c
  asked_whole r s c i j =
      let x = (closing_is_sound_lem w.before (demands_of p w.rule)).constraints (U s) c (stands.constraints.asked s c j).1 in
      rule_asks_all_fields p h.parts w.rule (h.rules w.rule of.0).formed (x.source, c) (in_from_contains (demands_of p w.rule).constraints (x.source, c) x.asked)
    where
      here : RuleOfSet b
      here = set_rule b r (in_from_contains set.rules r i)

      w : WasBuilt p (rules_of p b.term) here.typed
      w = was_built p [] (rules_of p b.term) here.typed here.listed

      stands : IsRuleOf p sites (built_rule p w.before w.rule) r
      stands = subst (λ (y : BuiltRule). IsRuleOf p sites y r) (sym w.same) here.is

      of : Contains p.rules w.rule × (w.rule.root_term ≡ b.term)
      of = of_term p b.term w.rule (contains_from_in (rules_of p b.term) w.rule w.listed)

  pattern_written : (s : ℕ) (c : Constraint) → HasAllFields p c → pattern_writable N c (fields_of sites s c) ≡ true
  pattern_written s c f = grind (arith, common_steps, and_from, variant_taken, eq-eqb, fields_counted, struct_taken)

  -- 4. trees
  abbrev AreOfRules : List ℕ → Type 0
  AreOfRules ms = (i : ℕ) → Contains ms i → (r : SetRule) × (slice_get set.rules i ≡ Some r)

  mutual
    steps_written : (m : Marked) (ar : Around) (closing : Bool) → BestSteps set ar closing m → AreOfRules (marks m) → writable N false (tree_code (plain set.rules m) sites passes) ≡ true
    steps_written m_no_step ar closing best ks = refl
    steps_written (m_step binds (m_match source arms) rest) ar closing best ks =
        binds_written binds _ (then_statement (check_code (plain_check set.rules (m_match source arms)) sites passes) (tree_code (plain set.rules rest) sites passes)
        (arms_written arms ar source None best.1.2 (λ i c. ks i (Contains-append_left (marks_arms arms) (marks rest) i c)))
        (steps_written rest (after_step set ar (m_match source arms)) false best.2 (λ i c. ks i (Contains-append_right (marks_arms arms) (marks rest) i c))))
    steps_written (m_step binds (m_equal a b body) rest) ar closing best ks =
        binds_written binds _ (then_statement (check_code (plain_check set.rules (m_equal a b body)) sites passes) (tree_code (plain set.rules rest) sites passes)
        (steps_written body (in_equal set ar a b) false best.1.2 (λ i c. ks i (Contains-append_left (marks body) (marks rest) i c)))
        (steps_written rest (after_step set ar (m_equal a b body)) false best.2 (λ i c. ks i (Contains-append_right (marks body) (marks rest) i c))))
    steps_written (m_step binds (m_loop result body) rest) ar closing best ks =
        binds_written binds _ (then_statement (check_code (plain_check set.rules (m_loop result body)) sites passes) (tree_code (plain set.rules rest) sites passes)
        (loop_written (slice_get sites result) result (tree_code (plain set.rules body) sites passes) (steps_written body (in_loop set ar result) false best.1.2 (λ i c. ks i (Contains-append_left (marks body) (marks rest) i c))))
        (steps_written rest (after_step set ar (m_loop result body)) false best.2 (λ i c. ks i (Contains-append_right (marks body) (marks rest) i c))))
    steps_written (m_step binds (m_return rule) rest) ar closing best ks =
        binds_written binds _ (then_statement (check_code (plain_check set.rules (m_return rule)) sites passes) (tree_code (plain set.rules rest) sites passes) (grind (arith, common_steps))
        (steps_written rest (after_step set ar (m_return rule)) true best.2 (λ i c. ks i (in_tail rule i (marks rest) c))))

    arms_written : (arms : MarkedArms) (ar : Around) (source : ℕ) (prior : Option Constraint) → BestArms set ar source prior arms → AreOfRules (marks_arms arms)
        → writable_arms N false (use_at sites passes to_match source) (arms_code (plain_arms set.rules arms) sites passes) ≡ true
    arms_written m_no_arm ar source prior best ks = refl
    arms_written (m_arm constraint fields body rest) ar source prior best ks =
        let some_rule = some_member (marks body) best.1 in
        let of_body : AreOfRules (marks body) = λ i c. ks i (Contains-append_left (marks body) (marks_arms rest) i c) in
        let r = of_body some_rule.0 some_rule.1 in
        let member = member_from_get set.rules some_rule.0 r.0 r.1 in
        let asks = constraint_in r.0.constraints source constraint (best.2 some_rule.0 r.0 some_rule.1 r.1) in
        and_from _ _
        (and_from _ _ (subst (λ fs. pattern_writable N constraint fs ≡ true) (sym best.3) (pattern_written source constraint (asked_whole r.0 source constraint member asks))) (grind arith))
        (and_from _ _ (steps_written body (in_arm set ar source constraint fields) false best.4 of_body) (arms_written rest ar source (Some constraint) best.5 (λ i c. ks i (Contains-append_right (marks body) (marks_arms rest) i c))))

  pub tree_written : (tree : Tree) → IsBestTree set tree → writable N false (tree_code tree sites passes) ≡ true
  tree_written tree best =
      subst (λ t. writable N false (tree_code t sites passes) ≡ true) best.returns.same
      (steps_written best.marked nothing_around false best.steps
      (λ i c. get_within set.rules i (All-contains (λ j. j < length set.rules) (marks best.marked) i best.returns.known c)))

pub code_of_built_sets_is_writable_lem : CodeOfBuiltSetsIsWritable
code_of_built_sets_is_writable_lem p t set h built tree best passes looks kind is_logged = tree_written (record { program = p; term = t; set = set; built = built }) h passes looks kind is_logged tree best
