-- Trees of tests, as plain data, sites by their numbers; and trees whose ends name the rule that they return for.
use Rattle.std.specs.Prelude.{ℕ, List, [], ◌∷◌, ◌++◌, Option, Some, None, slice_get}
use Rattle.model.specs.lists.Syntax.{Position}
use Rattle.model.specs.sites.Sites.{Constraint, SetRule}

mutual
  -- steps, tried in order: sites to bind, then a test or an end
  pub data Tree : Type 0 where
    no_step : Tree
    step : (binds : List ℕ) (check : Check) (rest : Tree) → Tree

  pub data Check : Type 0 where
    match_at : (source : ℕ) (arms : Arms) → Check
    equal_at : (a b : ℕ) (body : Tree) → Check
    -- `result` is the iterator's site
    loop_at : (result : ℕ) (body : Tree) → Check
    return_at : (at : Position) (result : ℕ) → Check

  pub data Arms : Type 0 where
    no_arm : Arms
    arm : (constraint : Constraint) (fields : List (Option ℕ)) (body : Tree) (rest : Arms) → Arms

-- one list of steps after another
abbrev pub join : Tree → Tree → Tree
join no_step b = b
join (step binds check rest) b = step binds check (join rest b)

mutual
  pub data Marked : Type 0 where
    m_no_step : Marked
    m_step : (binds : List ℕ) (check : MarkedCheck) (rest : Marked) → Marked

  pub data MarkedCheck : Type 0 where
    m_match : (source : ℕ) (arms : MarkedArms) → MarkedCheck
    m_equal : (a b : ℕ) (body : Marked) → MarkedCheck
    m_loop : (result : ℕ) (body : Marked) → MarkedCheck
    -- the place of the rule in its set
    m_return : (rule : ℕ) → MarkedCheck

  pub data MarkedArms : Type 0 where
    m_no_arm : MarkedArms
    m_arm : (constraint : Constraint) (fields : List (Option ℕ)) (body : Marked) (rest : MarkedArms) → MarkedArms

-- the rules that a tree returns for, as they stand in it
abbrev mutual
  pub marks : Marked → List ℕ
  marks m_no_step = []
  marks (m_step binds check rest) = marks_check check ++ marks rest

  pub marks_check : MarkedCheck → List ℕ
  marks_check (m_match source arms) = marks_arms arms
  marks_check (m_equal a b body) = marks body
  marks_check (m_loop result body) = marks body
  marks_check (m_return rule) = rule ∷ []

  pub marks_arms : MarkedArms → List ℕ
  marks_arms m_no_arm = []
  marks_arms (m_arm constraint fields body rest) = marks body ++ marks_arms rest

-- the tree without the marks: a rule returns at its position, with its result
abbrev pub return_of : Option SetRule → Check
return_of None = return_at record { file = 0; offset = 0 } 0
return_of (Some r) = return_at r.at r.result

abbrev mutual
  pub plain : List SetRule → Marked → Tree
  plain rules m_no_step = no_step
  plain rules (m_step binds check rest) = step binds (plain_check rules check) (plain rules rest)

  pub plain_check : List SetRule → MarkedCheck → Check
  plain_check rules (m_match source arms) = match_at source (plain_arms rules arms)
  plain_check rules (m_equal a b body) = equal_at a b (plain rules body)
  plain_check rules (m_loop result body) = loop_at result (plain rules body)
  plain_check rules (m_return rule) = return_of (slice_get rules rule)

  pub plain_arms : List SetRule → MarkedArms → Arms
  plain_arms rules m_no_arm = no_arm
  plain_arms rules (m_arm constraint fields body rest) = arm constraint fields (plain rules body) (plain_arms rules rest)
