-- Limits on the rules of a term: which a rule passes, which is met first, and the sites that the term then has.
use Rattle.std.specs.Prelude.{ℕ, ◌<◌, ◌≤◌, List, [], ◌∷◌, length, map, take, nat_lt, Option, Some, None, if◌then◌else◌, Contains}
use Rattle.model.specs.rules.Typed.{TypedRule}
use Rattle.model.specs.rules.Program.{Program}
use Rattle.model.specs.sites.Sites.{SiteTerm}
use Rattle.model.specs.visits.Demands.{Count, fields_matched, outputs_taken, argument_taken, demands_of, with_sites}
use Rattle.model.specs.sites.Closure.{is_unreachable, closed}

-- a field's number has 8 bits, and so has the number of fields
abbrev pub most_fields : ℕ
most_fields = 255

-- an output's number has 8 bits, and so has the number of outputs
abbrev pub most_outputs : ℕ
most_outputs = 255

-- an argument's number has 8 bits
abbrev pub most_arguments : ℕ
most_arguments = 256

-- a site's number has 16 bits
abbrev pub most_sites : ℕ
most_sites = 65536

-- the limits on a rule, by what is counted
pub data RuleLimit : Type 0 where
  fields_limit : RuleLimit
  outputs_limit : RuleLimit
  arguments_limit : RuleLimit
  sites_limit : RuleLimit

-- what the visit of a rule counts
abbrev pub counts_of_rule : Program → TypedRule → List Count
counts_of_rule p r = map (λ c. c.0) (demands_of p r).counted

-- a pattern of the rule matches a variant or a struct with more than 255 fields
pub record PassesFields (p : Program) (r : TypedRule) : Type 0 where
  pub fields : ℕ
  pub matched : Contains (counts_of_rule p r) (fields_matched fields)
  pub many : most_fields < fields

-- a pattern of the rule calls an extractor with more than 255 outputs
pub record PassesOutputs (p : Program) (r : TypedRule) : Type 0 where
  pub outputs : ℕ
  pub taken : Contains (counts_of_rule p r) (outputs_taken outputs)
  pub many : most_outputs < outputs

-- the rule has an argument whose number is 256 or more
pub record PassesArguments (p : Program) (r : TypedRule) : Type 0 where
  pub argument : ℕ
  pub taken : Contains (counts_of_rule p r) (argument_taken argument)
  pub many : most_arguments ≤ argument

-- the sites that the term would have after the rule, were no limit passed: those before it, those that its visit makes,
-- and those that its closure makes where the rule is reachable
abbrev pub sites_wanted : Program → List SiteTerm → TypedRule → List SiteTerm
sites_wanted p before r =
    if is_unreachable (demands_of p r) then with_sites before (demands_of p r).made else (closed before (demands_of p r)).made

-- the limit that something counted passes, if it does
abbrev pub passed_by : Count → Option RuleLimit
passed_by (fields_matched n) = if nat_lt most_fields n then Some fields_limit else None
passed_by (outputs_taken n) = if nat_lt most_outputs n then Some outputs_limit else None
passed_by (argument_taken i) = if nat_lt i most_arguments then None else Some arguments_limit

-- the limit that is passed at one count, or else one passed later, with how many sites were made before
abbrev pub passed_or_later : Option RuleLimit → ℕ → Option (RuleLimit × ℕ) → Option (RuleLimit × ℕ)
passed_or_later (Some limit) made later = Some (limit, made)
passed_or_later None made later = later

-- the first limit that is passed, with how many sites were made before
abbrev pub first_passed : List (Count × ℕ) → Option (RuleLimit × ℕ)
first_passed [] = None
first_passed (c ∷ cs) = passed_or_later (passed_by c.0) c.1 (first_passed cs)

-- that of a rule's visit
abbrev pub passed_in_visit : Program → TypedRule → Option (RuleLimit × ℕ)
passed_in_visit p r = first_passed (demands_of p r).counted

-- the term's sites, however many, where building ends at such a limit, or else all that are wanted
abbrev pub sites_until : Program → List SiteTerm → TypedRule → Option (RuleLimit × ℕ) → List SiteTerm
sites_until p before r (Some passed) = with_sites before (take passed.1 (demands_of p r).made)
sites_until p before r None = sites_wanted p before r

-- the term's sites, however many, where building ends
abbrev pub sites_reached : Program → List SiteTerm → TypedRule → List SiteTerm
sites_reached p before r = sites_until p before r (passed_in_visit p r)

-- the sites that are reached are more than 65,536
abbrev pub PassesSites : Program → List SiteTerm → TypedRule → Type 0
PassesSites p before r = most_sites < length (sites_reached p before r)

-- the rule passes this limit, after the sites of the rules before
abbrev pub PassesLimit : Program → List SiteTerm → TypedRule → RuleLimit → Type 0
PassesLimit p before r fields_limit = PassesFields p r
PassesLimit p before r outputs_limit = PassesOutputs p r
PassesLimit p before r arguments_limit = PassesArguments p r
PassesLimit p before r sites_limit = PassesSites p before r

-- the limit alone
abbrev pub limit_of_passed : Option (RuleLimit × ℕ) → Option RuleLimit
limit_of_passed (Some passed) = Some passed.0
limit_of_passed None = None

-- the limit that is met first: that of the sites, where they pass it before building ends
abbrev pub first_limit : Program → List SiteTerm → TypedRule → Option RuleLimit
first_limit p before r = if nat_lt most_sites (length (sites_reached p before r)) then Some sites_limit else limit_of_passed (passed_in_visit p r)

-- the term's sites after a rule: no more than there may be
abbrev pub sites_after_rule : Program → List SiteTerm → TypedRule → List SiteTerm
sites_after_rule p before r = take most_sites (sites_reached p before r)

-- those after rules of the term
abbrev pub sites_after_rules : Program → List SiteTerm → List TypedRule → List SiteTerm
sites_after_rules p before [] = before
sites_after_rules p before (r ∷ rs) = sites_after_rules p (sites_after_rule p before r) rs
