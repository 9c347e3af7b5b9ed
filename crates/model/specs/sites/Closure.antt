-- The closure of a rule's demands: what follows from its constraints and equalities, when nothing can meet them, and
-- the demands that are left once each constraint stands at every site that must meet it.
use Rattle.std.specs.Prelude.{◌≡◌, ◌≢◌, ℕ, zero, suc, Bool, true, false, not, ◌&&◌, ◌||◌, List, [], ◌∷◌, ◌++◌, length, map, Option, Some, None, is_some, if◌then◌else◌, slice_get, Contains, IsTrue, ◌↔◌}
use Rattle.std.specs.List.{filter, flat_map, list_any, zip}
use Rattle.model.specs.rules.Values.{Value}
use Rattle.model.specs.rules.Meaning.{Content, one, Meaning, look}
use Rattle.model.specs.sites.Sites.{Constraint, SiteTerm, variant_field, struct_field, field_terms}
use Rattle.model.specs.visits.Demands.{Demands, site_term_eq, has_site, with_sites, constraint_eq}
use Rattle.model.specs.trees.Run.{content_fields}
use Rattle.model.specs.rules.Picks.{Pick, site_content}

-- two sites must be equal: the least equivalence that holds the demanded equalities, and in which fields of equal
-- sites with one constraint are equal, place by place
pub data Joined (d : Demands) : SiteTerm → SiteTerm → Type 0 where
  given : {a b : SiteTerm} → Contains d.equalities (a, b) → Joined d a b
  itself : {a : SiteTerm} → Joined d a a
  turned : {a b : SiteTerm} → Joined d a b → Joined d b a
  chained : {a b c : SiteTerm} → Joined d a b → Joined d b c → Joined d a c
  at_field : {a b t x y : SiteTerm} {k : Constraint} (i : ℕ) → Joined d a b → Joined d t a → Contains d.constraints (t, k)
      → slice_get (field_terms k a) i ≡ Some x → slice_get (field_terms k b) i ≡ Some y → Joined d x y

-- a site must meet a constraint: some site that must equal it is asked to
pub record HasConstraint (d : Demands) (s : SiteTerm) (c : Constraint) : Type 0 where
  pub source : SiteTerm
  pub joined : Joined d source s
  pub asked : Contains d.constraints (source, c)

-- the class of s is a part of the class of t: a constrained site of t's class has a site of s's class as a field
pub record IsPartOf (d : Demands) (s t : SiteTerm) : Type 0 where
  pub whole : SiteTerm
  pub constraint : Constraint
  pub field : SiteTerm
  pub of_class : Joined d whole t
  pub constrained : HasConstraint d whole constraint
  pub there : Contains (field_terms constraint whole) field
  pub in_class : Joined d field s

-- a part, or a part of a part, at any depth
pub data IsProperPart (d : Demands) : SiteTerm → SiteTerm → Type 0 where
  directly : {s t : SiteTerm} → IsPartOf d s t → IsProperPart d s t
  deeper : {s t u : SiteTerm} → IsPartOf d s t → IsProperPart d t u → IsProperPart d s u

-- no values can meet the demands: a site is asked to meet two different constraints, or a class is, or a class is a
-- part of itself. The first case is one of the second, and stands for itself since it is what a visit sees of one rule
pub data IsUnreachable (d : Demands) : Type 0 where
  two_at_a_site : (s : SiteTerm) (a b : Constraint) → Contains d.constraints (s, a) → Contains d.constraints (s, b) → a ≢ b → IsUnreachable d
  two_in_a_class : (s : SiteTerm) (a b : Constraint) → HasConstraint d s a → HasConstraint d s b → a ≢ b → IsUnreachable d
  part_of_itself : (s : SiteTerm) → IsProperPart d s s → IsUnreachable d

-- no site that must equal this one is asked to meet a constraint
abbrev pub IsFree : Demands → SiteTerm → Type 0
IsFree d s = (c : Constraint) → HasConstraint d s c → ⊥

-- the equalities of the closed demands: of different sites that must be equal and meet no constraint. (The constraints
-- of the closed demands are all that sites must meet.)
pub record IsClosedEquality (d : Demands) (a b : SiteTerm) : Type 0 where
  pub different : a ≢ b
  pub joined : Joined d a b
  pub free : IsFree d a

-- the name of a site's class: one of its sites, by the equalities taken so far, the last one first. A partition of all
-- sites that are spoken of; the closed demands have their classes as lists instead, for they name only those of two or more
abbrev pub class_name : List (SiteTerm × SiteTerm) → SiteTerm → SiteTerm
class_name [] s = s
class_name (r ∷ rs) s = let n = class_name rs s in if site_term_eq n r.0 then r.1 else n

-- two sites are in one class, by its name
abbrev pub same_class : List (SiteTerm × SiteTerm) → SiteTerm → SiteTerm → Bool
same_class rs a b = site_term_eq (class_name rs a) (class_name rs b)

-- two classes become one
abbrev pub joining : List (SiteTerm × SiteTerm) → SiteTerm → SiteTerm → List (SiteTerm × SiteTerm)
joining rs a b = if same_class rs a b then rs else (class_name rs a, class_name rs b) ∷ rs

-- the classes that each equality of a list joins become one
abbrev pub joining_each : List (SiteTerm × SiteTerm) → List (SiteTerm × SiteTerm) → List (SiteTerm × SiteTerm)
joining_each rs [] = rs
joining_each rs (e ∷ es) = joining_each (joining rs e.0 e.1) es

-- a site, and those whose field it is, at any depth
abbrev pub with_owners : SiteTerm → List SiteTerm
with_owners (variant_field s variant i) = variant_field s variant i ∷ with_owners s
with_owners (struct_field s i) = struct_field s i ∷ with_owners s
with_owners s = s ∷ []

-- the sites of the demands, with those whose fields they are
abbrev pub spoken_of : Demands → List SiteTerm
spoken_of d = with_sites [] (flat_map (λ c. with_owners c.0) d.constraints ++ flat_map (λ e. with_owners e.0 ++ with_owners e.1) d.equalities)

-- the equalities of fields that names make due: of each site of a list with each constrained site of its class
abbrev pub due_with : List (SiteTerm × SiteTerm) → SiteTerm → SiteTerm × Constraint → List (SiteTerm × SiteTerm)
due_with rs s c = if same_class rs s c.0 then zip (field_terms c.1 s) (field_terms c.1 c.0) else []

-- those of all sites of a list
abbrev pub due : List (SiteTerm × SiteTerm) → List (SiteTerm × Constraint) → List SiteTerm → List (SiteTerm × SiteTerm)
due rs constraints sites = flat_map (λ s. flat_map (due_with rs s) constraints) sites

-- rounds of joining what is due
abbrev pub joined_in : ℕ → List (SiteTerm × Constraint) → List SiteTerm → List (SiteTerm × SiteTerm) → List (SiteTerm × SiteTerm)
joined_in zero constraints sites rs = rs
joined_in (suc n) constraints sites rs = joined_in n constraints sites (joining_each rs (due rs constraints sites))

-- the names of the closure's classes. A round in which classes meet lessens their number, so there are no more such
-- rounds than sites and fields of constrained sites
abbrev pub class_names : Demands → List (SiteTerm × SiteTerm)
class_names d =
    let sites = spoken_of d in
    joined_in (length (sites ++ flat_map (λ s. flat_map (λ c. field_terms c.1 s) d.constraints) sites)) d.constraints sites (joining_each [] d.equalities)

-- two sites of one class are asked to meet different constraints
abbrev pub differs_in_class : List (SiteTerm × SiteTerm) → SiteTerm × Constraint → SiteTerm × Constraint → Bool
differs_in_class rs a b = same_class rs a.0 b.0 && not (constraint_eq a.1 b.1)

-- there are two such sites
abbrev pub has_conflict : List (SiteTerm × SiteTerm) → List (SiteTerm × Constraint) → Bool
has_conflict rs constraints = list_any (λ a. list_any (differs_in_class rs a) constraints) constraints

-- the first constrained site of the class of a name
abbrev pub constrained_in : List (SiteTerm × SiteTerm) → List (SiteTerm × Constraint) → SiteTerm → Option (SiteTerm × Constraint)
constrained_in rs [] n = None
constrained_in rs (c ∷ cs) n = if site_term_eq (class_name rs c.0) n then Some c else constrained_in rs cs n

-- the classes of the fields of a constrained site, where there is one
abbrev pub fields_of_first : List (SiteTerm × SiteTerm) → Option (SiteTerm × Constraint) → List SiteTerm
fields_of_first rs None = []
fields_of_first rs (Some c) = map (class_name rs) (field_terms c.1 c.0)

-- the classes that are fields of a class
abbrev pub parts_of : List (SiteTerm × SiteTerm) → List (SiteTerm × Constraint) → SiteTerm → List SiteTerm
parts_of rs constraints n = fields_of_first rs (constrained_in rs constraints n)

-- there are parts of parts, n deep: in no more classes than n, only where a class is a part of itself
abbrev pub goes_deeper : ℕ → List (SiteTerm × SiteTerm) → List (SiteTerm × Constraint) → SiteTerm → Bool
goes_deeper zero rs constraints s = true
goes_deeper (suc n) rs constraints s = list_any (goes_deeper n rs constraints) (parts_of rs constraints s)

-- some class is a part of itself
abbrev pub has_cycle : List (SiteTerm × SiteTerm) → List (SiteTerm × Constraint) → Bool
has_cycle rs constraints = list_any (λ c. goes_deeper (suc (length constraints)) rs constraints (class_name rs c.0)) constraints

-- whether no values meet the demands, by the names of the classes
abbrev pub is_unreachable : Demands → Bool
is_unreachable d = has_conflict (class_names d) d.constraints || has_cycle (class_names d) d.constraints

-- what is reported of an unreachable rule: two constraints that one value can't meet, in the order in which the report
-- names them, or a cycle
pub data Unreachability : Type 0 where
  conflict : (first second : Constraint) → Unreachability
  cycle : Unreachability

-- the first constraint that is asked of a site
abbrev pub constraint_of : List (SiteTerm × Constraint) → SiteTerm → Option Constraint
constraint_of cs s = look (λ k. site_term_eq k s) cs

-- the conflict of a constraint with the one that the site has, if that is another one
abbrev pub conflict_with : Option Constraint → Constraint → List Unreachability
conflict_with None c = []
conflict_with (Some b) c = if constraint_eq b c then [] else conflict b c ∷ []

-- the conflicts met in the visit, in call order: a site keeps its first constraint
abbrev pub conflicts_met : List (SiteTerm × Constraint) → List (SiteTerm × Constraint) → List Unreachability
conflicts_met had [] = []
conflicts_met had (c ∷ cs) = conflict_with (constraint_of had c.0) c.1 ++ conflicts_met (had ++ c ∷ []) cs

-- a site with its first constraint, where it has one
abbrev pub constraint_at_site : List (SiteTerm × Constraint) → SiteTerm → List (SiteTerm × Constraint)
constraint_at_site constraints s = elim (constraint_of constraints s) [ None ↦ [] | Some c ↦ (s, c) ∷ [] ]

-- the constrained sites in the order of the sites, with their first constraints
abbrev pub in_site_order : List SiteTerm → List (SiteTerm × Constraint) → List (SiteTerm × Constraint)
in_site_order order constraints = flat_map (constraint_at_site constraints) order

-- the first of these that differs from a constrained site of its class
abbrev pub first_differing : List (SiteTerm × SiteTerm) → SiteTerm × Constraint → List (SiteTerm × Constraint) → Option Constraint
first_differing rs a [] = None
first_differing rs a (b ∷ bs) = if differs_in_class rs a b then Some b.1 else first_differing rs a bs

-- the conflict of the closure that is reported: the least site, by the order of the sites, whose class has another
-- constraint, and the least site that has one
abbrev pub first_conflict : List (SiteTerm × SiteTerm) → List (SiteTerm × Constraint) → List (SiteTerm × Constraint) → List Unreachability
first_conflict rs all [] = []
first_conflict rs all (a ∷ rest) = elim (first_differing rs a all) [ None ↦ first_conflict rs all rest | Some b ↦ conflict a.1 b ∷ [] ]

-- the first of two lists, or the other one where it is empty
abbrev pub first_filled : List Unreachability → List Unreachability → List Unreachability
first_filled [] others = others
first_filled (u ∷ us) others = u ∷ us

-- the sites of an order, then the constrained ones that it lacks. It lacks none of a rule whose variables are bound
abbrev pub with_constrained : List SiteTerm → Demands → List SiteTerm
with_constrained order d = with_sites order (map (λ c. c.0) d.constraints)

-- what is reported of a rule with these demands, by the order of the term's sites: the conflicts met in the visit, else
-- one of the closure, else a cycle
abbrev pub reported : List SiteTerm → Demands → List Unreachability
reported order d =
    let constrained = in_site_order (with_constrained order d) d.constraints in
    first_filled (conflicts_met [] d.constraints)
    (first_filled (first_conflict (class_names d) constrained constrained)
    (if has_cycle (class_names d) d.constraints then cycle ∷ [] else []))

-- closed demands: each site's constraint; the classes of two or more equal sites, none of them constrained, each in the
-- order of the sites, and by their least sites; and the term's sites, those that the closure makes last
pub record Closed : Type 0 where
  pub constraints : List (SiteTerm × Constraint)
  pub classes : List (List SiteTerm)
  pub made : List SiteTerm

-- the class of a site: itself alone where it is in none
abbrev pub class_at : List (List SiteTerm) → SiteTerm → List SiteTerm
class_at [] s = s ∷ []
class_at (k ∷ ks) s = if has_site k s then k else class_at ks s

-- the classes without that of a site
abbrev pub without_class_of : List (List SiteTerm) → SiteTerm → List (List SiteTerm)
without_class_of ks s = filter (λ k. not (has_site k s)) ks

-- the classes of two sites become one, where they are two
abbrev pub merged_classes : List (List SiteTerm) → SiteTerm × SiteTerm → List (List SiteTerm)
merged_classes ks e =
    if has_site (class_at ks e.0) e.1
    then ks
    else (class_at ks e.0 ++ class_at ks e.1) ∷ without_class_of (without_class_of ks e.0) e.1

-- those of each equality of a list
abbrev pub merged_all : List (List SiteTerm) → List (SiteTerm × SiteTerm) → List (List SiteTerm)
merged_all ks [] = ks
merged_all ks (e ∷ es) = merged_all (merged_classes ks e) es

-- a site that has no constraint gets one
abbrev pub with_constraint : List (SiteTerm × Constraint) → SiteTerm × Constraint → List (SiteTerm × Constraint)
with_constraint cs c = if is_some (constraint_of cs c.0) then cs else cs ++ c ∷ []

-- sites of a list get their constraints, the first one of each
abbrev pub with_constraints : List (SiteTerm × Constraint) → List (SiteTerm × Constraint) → List (SiteTerm × Constraint)
with_constraints cs [] = cs
with_constraints cs (d ∷ ds) = with_constraints (with_constraint cs d) ds

-- the members of a class in the order of the sites
abbrev pub ascending : List SiteTerm → List SiteTerm → List SiteTerm
ascending order k = filter (has_site k) order

-- whether a site is in a class of two or more
abbrev pub is_in_class : List (List SiteTerm) → SiteTerm → Bool
is_in_class ks s = list_any (λ k. has_site k s) ks

-- the least constrained site that is in a class, with its constraint
abbrev pub next_constrained : List (List SiteTerm) → List (SiteTerm × Constraint) → List SiteTerm → Option (SiteTerm × Constraint)
next_constrained ks cs [] = None
next_constrained ks cs (s ∷ ss) =
    elim (constraint_of cs s) [
      | None ↦ next_constrained ks cs ss
      | Some c ↦ if is_in_class ks s then Some (s, c) else next_constrained ks cs ss
    ]

-- the equalities of the members' fields with those of the least member
abbrev pub field_equalities : Constraint → List SiteTerm → List (SiteTerm × SiteTerm)
field_equalities c [] = []
field_equalities c (least ∷ rest) = flat_map (λ m. zip (field_terms c least) (field_terms c m)) rest

-- a class with a constrained site is taken: its members, ascending, each get the constraint and its field sites; then
-- the fields of each are made equal to those of the least
abbrev pub taken : Closed → SiteTerm × Constraint → List SiteTerm → Closed
taken k c members = record {
  constraints = with_constraints k.constraints (map (λ m. (m, c.1)) members);
  classes = merged_all (without_class_of k.classes c.0) (field_equalities c.1 members);
  made = with_sites k.made (flat_map (field_terms c.1) members);
}

-- classes are taken while one has a constrained site, at most n times
abbrev pub closing : ℕ → Closed → Closed
closing zero k = k
closing (suc n) k =
    elim (next_constrained k.classes k.constraints k.made) [
      | None ↦ k
      | Some c ↦ closing n (taken k c (ascending k.made (class_at k.classes c.0)))
    ]

-- where the closing starts, after the sites of the term's rules before
abbrev pub before_closing : List SiteTerm → Demands → Closed
before_closing before d = record {
  constraints = with_constraints [] d.constraints;
  classes = merged_all [] d.equalities;
  made = with_sites before d.made;
}

-- a class whose first site is this one
abbrev pub begins_with : SiteTerm → List SiteTerm → Bool
begins_with s [] = false
begins_with s (t ∷ ts) = site_term_eq t s

-- the classes by their least sites, the sites of each in order
abbrev pub in_order : Closed → Closed
in_order k = record {
  constraints = k.constraints;
  classes = flat_map (λ s. filter (begins_with s) (map (ascending k.made) k.classes)) k.made;
  made = k.made;
}

-- more steps than a rule that passes no limit can take. Each time a site is taken it answers for itself or for one of the
-- sites whose field it is, at any depth, and never twice for the same. So there are no more steps than pairs of made
-- sites, and more than 65,536 sites are past the limit: 65,537 times 65,537
abbrev pub most_closing_steps : ℕ
most_closing_steps = 4295098369

-- the closed demands of a reachable rule, after the sites of the term's rules before
abbrev pub closed : List SiteTerm → Demands → Closed
closed before d = in_order (closing most_closing_steps (before_closing before d))

-- closed demands are all that follows: the constraints that sites must meet, and the equalities of those that have none
pub record ClosedIsWhole (d : Demands) (k : Closed) : Type 0 where
  pub constraints : (s : SiteTerm) (c : Constraint) → Contains k.constraints (s, c) ↔ HasConstraint d s c
  pub equalities : (a b : SiteTerm) → (a ≢ b) × ((class : List SiteTerm) × Contains k.classes class × Contains class a × Contains class b) ↔ IsClosedEquality d a b

-- a constraint is met under a pick: the site has a content that meets it
pub record IsMet (m : Meaning) (args : List Value) (k : Pick) (s : SiteTerm) (c : Constraint) : Type 0 where
  pub content : Content
  pub held : site_content m args k s ≡ Some content
  pub meets : IsTrue (is_some (content_fields m c content))

-- two sites have one value under a pick
pub record AreEqual (m : Meaning) (args : List Value) (k : Pick) (a b : SiteTerm) : Type 0 where
  pub value : Value
  pub first : site_content m args k a ≡ Some (one value)
  pub second : site_content m args k b ≡ Some (one value)

-- a rule's demands hold under a meaning, on arguments and under a pick; under the empty pick where it goes over no
-- multi call
pub record DemandsHold (m : Meaning) (args : List Value) (k : Pick) (d : Demands) : Type 0 where
  pub constraints : (s : SiteTerm) (c : Constraint) → Contains d.constraints (s, c) → IsMet m args k s c
  pub equalities : (a b : SiteTerm) → Contains d.equalities (a, b) → AreEqual m args k a b

-- closed demands hold under a meaning, on arguments and under a pick
pub record ClosedDemandsHold (m : Meaning) (args : List Value) (k : Pick) (d : Closed) : Type 0 where
  pub constraints : (s : SiteTerm) (c : Constraint) → Contains d.constraints (s, c) → IsMet m args k s c
  pub classes : (class : List SiteTerm) (a b : SiteTerm) → Contains d.classes class → Contains class a → Contains class b → AreEqual m args k a b
