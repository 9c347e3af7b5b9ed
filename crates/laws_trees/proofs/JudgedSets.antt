-- Rules of sets that name the sites in the order in which they are demanded: what must be computed of them.
use Rattle.std.proofs.Common.{◌≡◌, ℕ, pos, zero, suc, ◌+◌, ◌<◌, ◌≤◌, Bool, true, false, not, ◌&&◌, ◌||◌, nat_lt, List, [], ◌∷◌, length, map, Some, slice_get, All, Contains, IsTrue, refl, sym, ap, ◌∙◌, subst, int_eq, arith, ltb-true}
use Rattle.std.specs.List.{flat_map, list_all}
use Rattle.std.proofs.lemmas.Bool.{and_parts, and_from, or_cases, false≢true}
use Rattle.std.proofs.lemmas.Option.{none-some, same_Some}
use Rattle.std.proofs.lemmas.Grind.{common_steps}
use Rattle.model.specs.rules.Program.{numbers_from, Program, is_multi}
use Rattle.model.specs.lists.Names.{IsDistinct}
use Rattle.model.specs.sites.Sites.{Site, Constraint, SetRule, SiteSet, SiteTerm, unfold_site}
use Rattle.model.specs.visits.Demands.{has_site}
use Rattle.model.specs.sites.Closure.{Closed}
use Rattle.model.specs.sites.Overlap.{BuiltRule, built_rules}
use Rattle.model.proofs.Members.{member_from_get, each_passes, all_members, in_map, from_map, member_found, member_is_in}
use Rattle.laws_trees.proofs.WellBuilt.{set_passes, passes_well_built}
use Rattle.laws_trees.proofs.JudgeExactness.{not_exact}
use Rattle.laws_trees.proofs.StepCounts.{members, joined_member}
use Rattle.model.specs.trees.Places.{all_below, is_in}
use Rattle.model.specs.trees.SetRuns.{tested_sites}
use Rattle.model.specs.sites.Gates.{gate_demanded}
use Rattle.model.specs.trees.WellBuilt.{HasOnePriority}
use Rattle.model.proofs.SitesMade.{has_in}
use Rattle.model.proofs.Elements.{in_from_contains, contains_from_in, any_in, in_any}
use Rattle.model.specs.sites.RuleSets.{AsksFor, Equates, GoesOver, StandFor}
use Rattle.model.specs.claims.SetMeanings.{ConstrainsOrEquates, DemandsItsGates, calls_left_by, DemandsGatesOfCall, CanBeServed}

-- a rule's demands, calls and classes read back as sites
abbrev pub unfolded_demand : List Site → ℕ × Constraint → SiteTerm × Constraint
unfolded_demand sites d = (unfold_site sites d.0, d.1)

-- numbers of sites of a list
abbrev pub are_below : ℕ → List ℕ → Bool
are_below n ss = list_all (λ s. nat_lt s n) ss

below_all : (n : ℕ) (ss : List ℕ) → are_below n ss ≡ true → (s : ℕ) → Contains ss s → s < n
below_all n ss h s c = ltb-true s n (each_passes (λ t. nat_lt t n) ss h s c)

pub asks : (sites : List Site) (k : Closed) (cs : List (ℕ × Constraint)) → are_below (length sites) (map (λ d. d.0) cs) ≡ true
    → map (unfolded_demand sites) cs ≡ k.constraints → IsDistinct (map (λ d. d.0) cs) → AsksFor sites k cs
asks sites k cs below same once = record {
  asked = λ s c i. (
    below_all (length sites) (map (λ d. d.0) cs) below s (in_map (λ d. d.0) cs (s, c) i),
    subst (λ ds. Contains ds (unfold_site sites s, c)) same (in_map (unfolded_demand sites) cs (s, c) i),
  );
  all_asked = λ u c i. (
      let d = from_map (unfolded_demand sites) cs (u, c) (subst (λ ds. Contains ds (u, c)) (sym same) i) in
      (d.0.0, subst (λ x. Contains cs (d.0.0, x)) (ap (λ x. x.1) d.2) d.1, ap (λ x. x.0) d.2)
      );
  once = once;
}

pub goes_over : (sites : List Site) (calls : List SiteTerm) (its : List ℕ) → are_below (length sites) its ≡ true → map (unfold_site sites) its ≡ calls → IsDistinct its
    → GoesOver sites calls its
goes_over sites calls its below same once = record {
  gone_over = λ s i. (below_all (length sites) its below s i, subst (λ cs. Contains cs (unfold_site sites s)) same (in_map (unfold_site sites) its s i));
  all_gone_over = λ u i. from_map (unfold_site sites) its u (subst (λ cs. Contains cs u) (sym same) i);
  once = once;
}

-- the numbers of a list's elements, each at its place
numbered : {X : Type 0} (f : ℕ → SiteTerm) (n : ℕ) (xs : List X) (s : ℕ) → s < length xs → slice_get (map f (numbers_from n xs)) s ≡ Some (f (n + s))
numbered f n [] s l = absurd (omega arith)
numbered f n (x ∷ xs) zero l = ap (λ k. Some (f k)) (omega arith)
numbered f n (x ∷ xs) (suc s) l = numbered f (suc n) xs s (omega arith) ∙ ap (λ k. Some (f k)) (omega arith)

as_many : {X : Type 0} (f : ℕ → SiteTerm) (n : ℕ) (xs : List X) → length xs ≡ length (map f (numbers_from n xs))
as_many f n [] = refl
as_many f n (x ∷ xs) = ap suc (as_many f (suc n) xs)

pub stand : (sites : List Site) (terms : List SiteTerm) → map (unfold_site sites) (numbers_from 0 sites) ≡ terms → StandFor sites terms
stand sites terms same = grind (arith, common_steps, numbered, as_many)

-- a constrained site of a rule stands in no class of it
abbrev pub keeps_apart : SetRule → Bool
keeps_apart r = list_all (λ (d : ℕ × Constraint). not (is_in d.0 (members r.classes))) r.constraints

kept_apart : (r : SetRule) → keeps_apart r ≡ true → ConstrainsOrEquates r
kept_apart r h s a c k j = grind (arith, common_steps, not_exact, members, each_passes, member_is_in, joined_member)

-- a rule demands the gates below these sites
abbrev pub gates_hold : List Site → SetRule → List ℕ → Bool
gates_hold sites r ss = list_all (λ s. gate_demanded r (slice_get sites s)) (all_below sites ss)

demands_gates : (sites : List Site) (r : SetRule) (ss : List ℕ) → gates_hold sites r ss ≡ true → All (λ s. IsTrue (gate_demanded r (slice_get sites s))) (all_below sites ss)
demands_gates sites r ss h = all_members (λ s. IsTrue (gate_demanded r (slice_get sites s))) (all_below sites ss) (each_passes (λ s. gate_demanded r (slice_get sites s)) (all_below sites ss) h)

-- the rules have the priority of the number 0
no_priorities : (rules : List SetRule) → list_all (λ (r : SetRule). int_eq r.prio (pos 0)) rules ≡ true → HasOnePriority rules
no_priorities rules h i j r q e f = grind (arith, common_steps, each_passes, member_from_get)

-- what must hold of a rule: it keeps constrained sites from equated ones, and demands the gates below its tested sites
abbrev pub serves : List Site → SetRule → Bool
serves sites r = keeps_apart r && gates_hold sites r (tested_sites r)

serving : (sites : List Site) (r : SetRule) → serves sites r ≡ true → (keeps_apart r ≡ true) × (gates_hold sites r (tested_sites r) ≡ true)
serving sites r h = and_parts (keeps_apart r) (gates_hold sites r (tested_sites r)) h

-- a call that a rule goes over is left unused, or the gates below it are demanded
abbrev pub call_passes : Program → List Site → BuiltRule → SetRule → ℕ → Bool
call_passes p sites b r s = has_site (calls_left_by p b.rule) (unfold_site sites s) || gates_hold sites r (s ∷ [])

call_demands : (p : Program) (sites : List Site) (b : BuiltRule) (r : SetRule) (s : ℕ) → call_passes p sites b r s ≡ true → DemandsGatesOfCall p sites b r s
call_demands p sites b r s h = grind (arith, common_steps, or_cases, contains_from_in, has_in, demands_gates)

-- so is each call of each rule, where the rules of a set are those that it was built of
abbrev pub calls_pass : Program → List Site → List BuiltRule → List SetRule → Bool
calls_pass p sites [] rs = true
calls_pass p sites (b ∷ bs) [] = true
calls_pass p sites (b ∷ bs) (r ∷ rs) = list_all (call_passes p sites b r) r.iterators && calls_pass p sites bs rs

pass_at : (p : Program) (sites : List Site) (bs : List BuiltRule) (rs : List SetRule) (i : ℕ) (b : BuiltRule) (r : SetRule)
    → slice_get bs i ≡ Some b → slice_get rs i ≡ Some r → calls_pass p sites bs rs ≡ true → list_all (call_passes p sites b r) r.iterators ≡ true
pass_at p sites [] rs i b r e f h = absurd (none-some b e)
pass_at p sites (c ∷ bs) [] i b r e f h = absurd (none-some r f)
pass_at p sites (c ∷ bs) (q ∷ rs) zero b r e f h = grind (arith, common_steps, same_Some, and_parts)
pass_at p sites (c ∷ bs) (q ∷ rs) (suc i) b r e f h = grind (arith, common_steps, pass_at p sites bs rs i b r e f, and_parts)

-- the sites of a set, without its rules
abbrev pub only_sites : SiteSet → SiteSet
only_sites set = record { rules = []; sites = set.sites }

served_by : (p : Program) (t : ℕ) (set : SiteSet) → set_passes (only_sites set) ≡ true → list_all (serves set.sites) set.rules ≡ true
    → calls_pass p set.sites (built_rules p t) set.rules ≡ true → (is_multi p t ≡ true → HasOnePriority set.rules) → CanBeServed p t set
served_by p t set h each calls one = record {
  once = (passes_well_built (only_sites set) h).sites_once;
  sources = (passes_well_built (only_sites set) h).sources;
  apart = all_members ConstrainsOrEquates set.rules (λ r i. kept_apart r (serving set.sites r (each_passes (serves set.sites) set.rules each r i)).0);
  gates = all_members (DemandsItsGates set.sites) set.rules (λ r i.
      demands_gates set.sites r (tested_sites r) (serving set.sites r (each_passes (serves set.sites) set.rules each r i)).1);
  gates_of_calls = λ b r o.
      all_members (DemandsGatesOfCall p set.sites b r) r.iterators (λ s i.
      call_demands p set.sites b r s
      (each_passes (call_passes p set.sites b r) r.iterators (pass_at p set.sites (built_rules p t) set.rules o.place b r o.typed o.built calls) s i));
  one_priority = one;
}

-- a set of a term that isn't multi can be served, and one of a multi term
pub can_be_served : (p : Program) (t : ℕ) (set : SiteSet) → is_multi p t ≡ false → set_passes (only_sites set) ≡ true → list_all (serves set.sites) set.rules ≡ true
    → calls_pass p set.sites (built_rules p t) set.rules ≡ true → CanBeServed p t set
can_be_served p t set m h each calls = served_by p t set h each calls (λ e. absurd (false≢true (sym m ∙ e)))

pub multi_can_be_served : (p : Program) (t : ℕ) (set : SiteSet) → set_passes (only_sites set) ≡ true → list_all (serves set.sites) set.rules ≡ true
    → calls_pass p set.sites (built_rules p t) set.rules ≡ true → list_all (λ (r : SetRule). int_eq r.prio (pos 0)) set.rules ≡ true → CanBeServed p t set
multi_can_be_served p t set h each calls none = served_by p t set h each calls (λ e. no_priorities set.rules none)

-- classes that name the sites in the order of the closed ones
pub equates : (sites : List Site) (k : Closed) (classes : List (List ℕ)) → list_all (are_below (length sites)) classes ≡ true
    → map (map (unfold_site sites)) classes ≡ k.classes → IsDistinct (flat_map (λ c. c) classes) → All (λ c. 2 ≤ length c) classes → Equates sites k classes
equates sites k classes below same once many = record {
  joined = λ a b t.
      let c = in_any (λ c. is_in a c && is_in b c) classes t in
      let both = and_parts (is_in a c.0) (is_in b c.0) c.2 in
      let here = contains_from_in classes c.0 c.1 in
      let within = below_all (length sites) c.0 (each_passes (are_below (length sites)) classes below c.0 here) in
      let first = member_found a c.0 both.0 in
      let second = member_found b c.0 both.1 in (
        within a first,
        within b second,
        map (unfold_site sites) c.0,
        subst (λ cs. Contains cs (map (unfold_site sites) c.0)) same (in_map (map (unfold_site sites)) classes c.0 here),
        in_map (unfold_site sites) c.0 a first,
        in_map (unfold_site sites) c.0 b second,
      );
  all_joined = λ class u v i m n.
      let c = from_map (map (unfold_site sites)) classes class (subst (λ cs. Contains cs class) (sym same) i) in
      let a = from_map (unfold_site sites) c.0 u (subst (λ x. Contains x u) (sym c.2) m) in
      let b = from_map (unfold_site sites) c.0 v (subst (λ x. Contains x v) (sym c.2) n) in (
        a.0,
        b.0,
        any_in (λ d. is_in a.0 d && is_in b.0 d) classes c.0 (in_from_contains classes c.0 c.1)
            (and_from (is_in a.0 c.0) (is_in b.0 c.0) (member_is_in a.0 c.0 a.1) (member_is_in b.0 c.0 b.1)),
        a.2,
        b.2,
      );
  once = once;
  many = many;
}
